-- What a call in a run leaves: values that were held stay so, with their meaning, and a new one is held.
use Rattle.std.proofs.Common.{◌≡◌, ℕ, ◌+◌, ◌≤◌, Bool, true, false, List, length, take, drop, Some, None, Ok, Err, Option, Result, sym, refl, ap, ◌∙◌, subst, arith}
use Rattle.std.proofs.lemmas.List.{drop-take, take-take}
use Rattle.std.proofs.lemmas.Bool.{leb-true, le-leb, and_from}
use Rattle.fault.specs.Outcomes.{Outcome}
use Rattle.fault.specs.Refusals.{bind}
use Rattle.fault.specs.declared.Fault.{Fault}
use Rattle.fault.specs.declared.Fault.TheVariants.{BufferShort}
use Rattle.text.specs.Buffers.{span, span_text, within, laid, has_room}
use Rattle.text.specs.Scalars.{utf8}
use Rattle.text.specs.declared.span.Span.{Span}
use Rattle.text.proofs.Laws.{length_laid, take_laid, span_new}
use Rattle.value.specs.Values.{Meaning, unit, bool, int, float, char, str, blob, excl, incl, kind_in, meant, well_formed, text_in, told_at, range, Inside}
use Rattle.value.specs.declared.set.KindSet.{KindSet}
use Rattle.value.specs.declared.value.Value.{Value}
use Rattle.value.specs.declared.value.Value.TheVariants as value
use Rattle.routines.specs.Calls.{Given, left, right, fresh}
use Rattle.rows.specs.Rows.{selected_by}
use Rattle.routines.specs.Outcomes.{operand, settled, Settles}
use Rattle.routines.specs.declared.made.Limits.{Limits}
use Rattle.text.specs.declared.piece.Text.{Text}
use Rattle.value.specs.declared.kind.Kind.{Kind}
use Rattle.value.specs.declared.op.Op.{Op}
use Rattle.routines.specs.declared.made.Made.{Made}
use Rattle.routines.specs.declared.made.Made.TheVariants.{New}
use Rattle.operators.specs.Applied.{applied_by, Held, behind, filled, given}
use Rattle.operators.specs.Listed.{spelled, InRow, Listed}
use Rattle.operators.specs.Rooms.{Room, room, brought, taken, in_room, Grown, Gives}

-- ---- what was held stays

span_as : (work work' : List ℕ) (fill : ℕ) (s : Span) → take fill work' ≡ take fill work → within s fill → span_text work' s ≡ span_text work s
span_as work work' fill s e h =
    let n = s.start + s.len in
    sym (drop-take s.start s.len work') ∙ ap (drop s.start) (sym (take-take n fill work' h) ∙ ap (take n) e ∙ take-take n fill work h) ∙ drop-take s.start s.len work

pub meant_as : (work work' : List ℕ) (fill : ℕ) (v : Value Span) → take fill work' ≡ take fill work → Inside fill (text_in v) → meant work' v ≡ meant work v
meant_as work work' fill value.Unit e h = refl
meant_as work work' fill (value.Bool b) e h = refl
meant_as work work' fill (value.Int n) e h = refl
meant_as work work' fill (value.Float x) e h = refl
meant_as work work' fill (value.Char c) e h = refl
meant_as work work' fill (value.Str s) e h = ap str (span_as work work' fill s e h)
meant_as work work' fill (value.Blob s) e h = ap blob (span_as work work' fill s e h)
meant_as work work' fill (value.Excl r) e h = refl
meant_as work work' fill (value.Incl r) e h = refl

pub inside_more : (fill fill' : ℕ) (o : Option Span) → fill ≤ fill' → Inside fill o → Inside fill' o
inside_more fill fill' None h i = tt
inside_more fill fill' (Some s) h i = omega arith

pub held_still : (work : List ℕ) (fill : ℕ) (work' : List ℕ) (fill' : ℕ) (v : Value Span) → Grown work fill work' fill' → Held work fill v → Held work' fill' v
held_still work fill work' fill' v g h = record {
  below = inside_more fill fill' (text_in v) g.more h.below;
  formed = ap well_formed (meant_as work work' fill v g.stays h.below) ∙ h.formed;
}

pub grown_none : (work : List ℕ) (fill : ℕ) → fill ≤ length work → Grown work fill work fill
grown_none work fill h = record { size = refl; stays = refl; more = omega arith; inside = h }

-- ---- a value that comes in

-- where the next text goes, after a value or a refusal
abbrev pub next : ℕ → Result (Value Span) Fault → ℕ
next fill (Ok v) = behind fill (text_in v)
next fill (Err f) = fill

new_given : (a b : Value Span) (r : Result (Value Span) Fault) → r ≡ given a b (bind r (λ v. Ok (New v)))
new_given a b (Ok v) = refl
new_given a b (Err f) = refl

new_next : (fill : ℕ) (r : Result (Value Span) Fault) → next fill r ≡ filled fill (bind r (λ v. Ok (New v)))
new_next fill (Ok v) = refl
new_next fill (Err f) = refl

module _ (work : List ℕ) (fill : ℕ) (inside : fill ≤ length work) (short : length work ≤ 65536) where
  -- bringing m comes to what telling it does
  abbrev pub Brings : Meaning → Type 0
  Brings m = Gives work fill (brought m (room fill work)) (told_at work fill m).answer (told_at work fill m).bytes (next fill (told_at work fill m).answer)

  -- an operator that comes to g gives what its outcome settles
  abbrev pub Settled : Value Span → Value Span → Result Given Fault → Type 0
  Settled a b g = Gives work fill (taken (meant work a) (meant work b) (room fill work) g) (given a b (settled work fill g).answer) (settled work fill g).bytes (filled fill (settled work fill g).answer)

  -- a refusal that leaves everything
  pub gives_err : (o : Outcome Room Meaning Fault) (f : Fault) → o ≡ Err (f, room fill work) → Gives work fill o (Err f) work fill
  gives_err o f e = record { outcome = e; held = λ x q. absurd (let z : ◌≡◌ {A = ℕ} 0 1 = cc in omega arith); grown = grown_none work fill inside }

  -- a value that is held already
  pub gives_held : (v : Value Span) → Held work fill v → Gives work fill (Ok (meant work v, room fill work)) (Ok v) work fill
  gives_held v h = record { outcome = refl; held = λ x q. let p : v ≡ x = cc in subst (Held work fill) p h; grown = grown_none work fill inside }

  gives_text : (m : Meaning) (v : Value Span) (bs : List ℕ) → has_room work fill bs ≡ true → meant (laid work fill bs) v ≡ m → text_in v ≡ Some (span fill (length bs)) → well_formed m ≡ true → Gives work fill (Ok (m, room (fill + length bs) (laid work fill bs))) (Ok v) (laid work fill bs) (fill + length bs)
  gives_text m v bs r e t w =
      let le = leb-true (fill + length bs) (length work) r in
      record {
        outcome = ap (λ n. Ok (n, room (fill + length bs) (laid work fill bs))) (sym e);
        held = λ x q. let p : v ≡ x = cc in subst (Held (laid work fill bs) (fill + length bs)) p (record { below = subst (Inside (fill + length bs)) (sym t) (omega arith); formed = ap well_formed e ∙ w });
        grown = record { size = length_laid work bs fill le; stays = take_laid work bs fill fill (omega arith) inside; more = omega arith; inside = le };
      }

  told_str : (bs : List ℕ) → utf8 bs ≡ true → (b : Bool) → has_room work fill bs ≡ b → Brings (str bs)
  told_str bs u true e =
      let le = leb-true (fill + length bs) (length work) e in
      rw e (gives_text (str bs) (value.Str (span fill (length bs))) bs e (ap str (span_new work bs fill inside)) refl (and_from _ _ u (le-leb (length bs) 65536 (omega arith))))
  told_str bs u false e = rw e (gives_err _ BufferShort refl)

  told_blob : (bs : List ℕ) (b : Bool) → has_room work fill bs ≡ b → Brings (blob bs)
  told_blob bs true e =
      let le = leb-true (fill + length bs) (length work) e in
      rw e (gives_text (blob bs) (value.Blob (span fill (length bs))) bs e (ap blob (span_new work bs fill inside)) refl (le-leb (length bs) 65536 (omega arith)))
  told_blob bs false e = rw e (gives_err _ BufferShort refl)

  -- a value put behind the others comes in
  pub told_gives : (m : Meaning) → spelled m ≡ true → Brings m
  told_gives unit w = gives_held value.Unit (record { below = tt; formed = refl })
  told_gives (bool b) w = gives_held (value.Bool b) (record { below = tt; formed = refl })
  told_gives (int n) w = gives_held (value.Int n) (record { below = tt; formed = refl })
  told_gives (float x) w = gives_held (value.Float x) (record { below = tt; formed = refl })
  told_gives (char c) w = gives_held (value.Char c) (record { below = tt; formed = w })
  told_gives (str bs) w = told_str bs w (has_room work fill bs) refl
  told_gives (blob bs) w = told_blob bs (has_room work fill bs) refl
  told_gives (excl a b) w = gives_held (value.Excl (range a b)) (record { below = tt; formed = refl })
  told_gives (incl a b) w = gives_held (value.Incl (range a b)) (record { below = tt; formed = refl })

  -- an operator's outcome g for two values that are held
  pub settled_gives : (s : KindSet) (a b : Value Span) (g : Result Given Fault) → Held work fill a → Held work fill b → InRow s (meant work a) (meant work b) g → Settled a b g
  settled_gives s a b (Err f) p q i = gives_err _ f refl
  settled_gives s a b (Ok left) p q i = gives_held a p
  settled_gives s a b (Ok right) p q i = gives_held b q
  settled_gives s a b (Ok (fresh m)) p q i =
      let t = told_at work fill m in
      subst (λ n. Gives work fill (brought m (room fill work)) (given a b (bind t.answer (λ v. Ok (New v)))) t.bytes n) (new_next fill t.answer)
      (subst (λ v. Gives work fill (brought m (room fill work)) v t.bytes (next fill t.answer)) (new_given a b t.answer) (told_gives m (i.1 p.formed q.formed)))

  listed_gives : (row : Result KindSet Fault) (a b : Value Span) (g : Result Given Fault) → Held work fill a → Held work fill b → Listed row (meant work a) (meant work b) g → Settled a b g
  listed_gives (Ok s) a b g p q i = settled_gives s a b g p q i
  listed_gives (Err f) a b g p q i = subst (Settled a b) (sym i) (gives_err _ f refl)

  -- a call on two values that are held: it settles an outcome that agrees with its row
  pub held_gives : (row : Result KindSet Fault) (a b : Value Span) (g h : Result Given Fault) (r : Result Made Fault) (work' : List ℕ) (v : Result (Value Span) Fault) (n : ℕ)
      → Held work fill a → Held work fill b → Listed row (meant work a) (meant work b) g → h ≡ g → Settles work fill h r work' n → v ≡ given a b r
      → Gives work fill (taken (meant work a) (meant work b) (room fill work) g) v work' n
  held_gives row a b g h r work' v n p q i e s x =
      let m = taken (meant work a) (meant work b) (room fill work) g in
      let answer : r ≡ (settled work fill g).answer = s.answer ∙ ap (λ o. (settled work fill o).answer) e in
      let bytes : work' ≡ (settled work fill g).bytes = s.bytes ∙ ap (λ o. (settled work fill o).bytes) e in
      subst (λ d. Gives work fill m v d n) (sym bytes)
      (subst (λ u. Gives work fill m u (settled work fill g).bytes n) (sym (x ∙ ap (given a b) answer))
      (subst (λ k. Gives work fill m (given a b (settled work fill g).answer) (settled work fill g).bytes k) (sym (s.next ∙ ap (filled fill) answer)) (listed_gives row a b g p q i)))

  -- an operator of a form for which SELECT speaks, on two values that are held, and on the operands that they are in the call
  module _ {R : Type 0} (finds : Op → Kind → Kind → Option R) (gives : R → KindSet) (does : Limits → R → Meaning → Meaning → Result Given Fault) (l : Limits) (op : Op) where
    pub run_gives : (speaks : (a b : Meaning) → Listed (selected_by finds gives op (kind_in a) (kind_in b)) a b (applied_by finds does l op a b)) (a b : Value Span) (x y : Value Text) (r : Result Made Fault) (work' : List ℕ) (v : Result (Value Span) Fault) (n : ℕ)
        → Held work fill a → Held work fill b → operand work x ≡ meant work a → operand work y ≡ meant work b → Settles work fill (applied_by finds does l op (operand work x) (operand work y)) r work' n → v ≡ given a b r
        → Gives work fill (in_room finds does l op (room fill work) (meant work a) (meant work b)) v work' n
    run_gives speaks a b x y r work' v n p q d e s h =
        held_gives _ a b _ _ r work' v n p q (speaks (meant work a) (meant work b)) (λ i. applied_by finds does l op (d i) (e i)) s h
