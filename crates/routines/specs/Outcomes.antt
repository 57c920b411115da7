-- What a call answers and leaves in the work buffer: an operand given back and a value without text write nothing, a new text
-- goes to `fill`, or is refused where it would pass the end. Assumes nothing.
use Rattle.std.specs.Prelude.{◌≡◌, ℕ, ◌+◌, true, List, Some, None, Ok, Err, Option, Result}
use Rattle.fault.specs.Refusals.{bind}
use Rattle.fault.specs.declared.Fault.{Fault}
use Rattle.order.specs.Orders.{satisfies}
use Rattle.order.specs.declared.traits.Order.{Order}
use Rattle.order.specs.declared.comparison.Comparison.{Comparison}
use Rattle.text.specs.Pieces.{text_bytes, piece_bytes, TextBelow, Below}
use Rattle.text.specs.declared.span.Span.{Span}
use Rattle.text.specs.declared.piece.Text.{Text}
use Rattle.text.specs.declared.piece.Piece.{Piece}
use Rattle.value.specs.Values.{Meaning, meaning, well_formed, text_in, told_at}
use Rattle.value.specs.declared.value.Value.{Value}
use Rattle.value.specs.declared.value.Value.TheVariants as value
use Rattle.rows.specs.declared.routine.FnBuiltin.{FnBuiltin}
use Rattle.routines.specs.declared.made.TextKind.{TextKind}
use Rattle.routines.specs.declared.made.TextKind.TheVariants.{Str as StrText, Blob as BlobText}
use Rattle.routines.specs.declared.made.Limits.{Limits}
use Rattle.routines.specs.declared.made.Made.{Made}
use Rattle.routines.specs.declared.made.Made.TheVariants.{Left, Right, New}
use Rattle.routines.specs.Calls.{Given, left, right, fresh, called, of, as_bytes}

-- what an operand means beside the work buffer
abbrev pub operand : List ℕ → Value Text → Meaning
operand work v = meaning (text_bytes work) v

abbrev pub TextReady : ℕ → Option Text → Type 0
TextReady fill None = Unit {0}
TextReady fill (Some t) = TextBelow fill t

-- an operand is well formed, and its text lies below `fill` if it is in the work buffer
pub record Ready (work : List ℕ) (fill : ℕ) (v : Value Text) : Type 0 where
  pub below : TextReady fill (text_in v)
  pub formed : well_formed (operand work v) ≡ true

pub record Outcome : Type 0 where
  pub answer : Result Made Fault
  pub bytes : List ℕ

abbrev pub settled : List ℕ → ℕ → Result Given Fault → Outcome
settled work fill (Err f) = record { answer = Err f; bytes = work }
settled work fill (Ok left) = record { answer = Ok Left; bytes = work }
settled work fill (Ok right) = record { answer = Ok Right; bytes = work }
settled work fill (Ok (fresh m)) = record { answer = bind (told_at work fill m).answer (λ v. Ok (New v)); bytes = (told_at work fill m).bytes }

-- where the next text goes, once a value's text, if it has one, is the last
abbrev pub behind : ℕ → Option Span → ℕ
behind fill None = fill
behind fill (Some s) = s.start + s.len

abbrev pub filled : ℕ → Result Made Fault → ℕ
filled fill (Err f) = fill
filled fill (Ok Left) = fill
filled fill (Ok Right) = fill
filled fill (Ok (New v)) = behind fill (text_in v)

-- a call that comes to `given` answers r, leaves these bytes, and the next text goes to `fill'`
pub record Settles (work : List ℕ) (fill : ℕ) (given : Result Given Fault) (r : Result Made Fault) (after : List ℕ) (fill' : ℕ) : Type 0 where
  pub answer : r ≡ (settled work fill given).answer
  pub bytes : after ≡ (settled work fill given).bytes
  pub next : fill' ≡ filled fill r

-- the routine f answers r and writes nothing, wherever a new text would go
abbrev pub Reads : List ℕ → FnBuiltin → Value Text → Value Text → Result Made Fault → Type 0
Reads work f a b r = (l : Limits) (fill : ℕ) → Settles work fill (called l f (operand work a) (operand work b)) r work fill

-- the same wherever the operands' texts are
abbrev pub Plainly : FnBuiltin → Value Text → Value Text → Result Made Fault → Type 0
Plainly f a b r = (work : List ℕ) → Reads work f a b r

-- how two readings compare, where both are there
abbrev pub compared : {A : Type 0} → (A → A → Order) → Comparison → Result A Fault → Result A Fault → Result Made Fault
compared order c x y = bind x (λ x. bind y (λ y. Ok (New (value.Bool (satisfies c (order x y))))))

abbrev pub valued : TextKind → Span → Value Span
valued StrText s = value.Str s
valued BlobText s = value.Blob s

-- both operands as pieces, below `fill`, that have the bytes which they bring to a text
abbrev pub Pieced : List ℕ → ℕ → Value Text → Value Text → Result (Piece × Piece) Fault → Type 0
Pieced work fill a b (Ok t) =
    ((k : List ℕ → List ℕ → Result Given Fault) → of as_bytes (operand work a) (operand work b) k ≡ k (piece_bytes work t.0) (piece_bytes work t.1))
    × Below fill t.0
    × Below fill t.1
Pieced work fill a b (Err f) = (k : List ℕ → List ℕ → Result Given Fault) → of as_bytes (operand work a) (operand work b) k ≡ Err f
