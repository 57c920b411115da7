-- The forms of a line: its fields, parted by tabs, are one of these, or the line is of no form. Assumes nothing.
use Rattle.std.specs.Prelude.{ℕ, cond, List, [], ◌∷◌, length, Some, None, codes, Option, nat_lt}
use Rattle.std.specs.Str.{bytes_eq}
use Rattle.format.specs.Fields.{fields}
use Rattle.line.specs.declared.form.Form.{Form}
use Rattle.line.specs.declared.form.Form.TheVariants as form

-- a form by the bytes of its fields
pub data Spelled : Type 0 where
  post : List ℕ → List ℕ → List ℕ → Spelled
  clear : Spelled
  check : Spelled
  run : Spelled
  put : List ℕ → List ℕ → Spelled
  slot : List ℕ → Spelled
  local : List ℕ → Spelled
  keep : List ℕ → Spelled
  op : List ℕ → Spelled
  set : List ℕ → List ℕ → Spelled

abbrev pub spelled : Form → Spelled
spelled (form.Post s k v) = post s.now k.now v.bytes.now
spelled form.Clear = clear
spelled form.Check = check
spelled form.Run = run
spelled (form.Put k v) = put k.now v.bytes.now
spelled (form.Slot s) = slot s.now
spelled (form.Local i) = local i.now
spelled (form.Keep i) = keep i.now
spelled (form.Op o) = op o.now
spelled (form.Set o i) = set o.now i.now

abbrev pub spelled_by : Option Form → Option Spelled
spelled_by None = None
spelled_by (Some f) = Some (spelled f)

abbrev pub alone : List ℕ → Option Spelled
alone v =
    cond (bytes_eq v (codes "clear")) (Some clear) (
    cond (bytes_eq v (codes "check")) (Some check) (
    cond (bytes_eq v (codes "run")) (Some run) None))

-- `add` with one field behind the step's name, and with two
abbrev pub add_one : List ℕ → List ℕ → Option Spelled
add_one v a =
    cond (bytes_eq v (codes "slot")) (Some (slot a)) (
    cond (bytes_eq v (codes "local")) (Some (local a)) (
    cond (bytes_eq v (codes "keep")) (Some (keep a)) (
    cond (bytes_eq v (codes "op")) (Some (op a)) None)))

abbrev pub add_two : List ℕ → List ℕ → List ℕ → Option Spelled
add_two v a b =
    cond (bytes_eq v (codes "put")) (Some (put a b)) (
    cond (bytes_eq v (codes "set")) (Some (set a b)) None)

abbrev pub with_three : List ℕ → List ℕ → List ℕ → List ℕ → Option Spelled
with_three v a b c = cond (bytes_eq v (codes "post")) (Some (post a b c)) (cond (bytes_eq v (codes "add")) (add_two a b c) None)

abbrev pub form_of : List (List ℕ) → Option Spelled
form_of [] = None
form_of (v ∷ []) = alone v
form_of (v ∷ a ∷ []) = None
form_of (v ∷ a ∷ b ∷ []) = cond (bytes_eq v (codes "add")) (add_one a b) None
form_of (v ∷ a ∷ b ∷ c ∷ []) = with_three v a b c
form_of (v ∷ a ∷ b ∷ c ∷ d ∷ rest) = None

-- a line has at most 4,096 bytes
abbrev pub line_form : List ℕ → Option Spelled
line_form bs = cond (nat_lt 4096 (length bs)) None (form_of (fields 9 bs))
