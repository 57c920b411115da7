-- A case is a line of eight fields, parted by tabs: the form, the operator, kind and value of both operands, and the two limits. A line
-- of another number of fields, or with another word for a form, is no case. Assumes nothing.
use Rattle.std.specs.Prelude.{ℕ, cond, List, [], ◌∷◌, Some, None, codes, Option, option_map}
use Rattle.std.specs.Str.{bytes_eq}
use Rattle.cases.specs.declared.case.Case.{Case}
use Rattle.cases.specs.declared.case.Form.{Form}
use Rattle.cases.specs.declared.case.Form.TheVariants.{Apply, Assign}

-- a case by the bytes of its fields
pub record Spelled : Type 0 where
  pub form : Form
  pub op : List ℕ
  pub left_kind : List ℕ
  pub left_value : List ℕ
  pub right_kind : List ℕ
  pub right_value : List ℕ
  pub string : List ℕ
  pub blob : List ℕ

abbrev pub spelled : Case → Spelled
spelled c = record {
  form = c.form;
  op = c.op.now;
  left_kind = c.left.kind.now;
  left_value = c.left.value.now;
  right_kind = c.right.kind.now;
  right_value = c.right.value.now;
  string = c.string.now;
  blob = c.blob.now;
}

abbrev pub form_named : List ℕ → Option Form
form_named bs = cond (bytes_eq bs (codes "apply")) (Some Apply) (cond (bytes_eq bs (codes "assign")) (Some Assign) None)

abbrev pub case_of : List (List ℕ) → Option Spelled
case_of (f ∷ o ∷ a ∷ b ∷ c ∷ d ∷ s ∷ t ∷ []) =
    option_map (λ form. record { form = form; op = o; left_kind = a; left_value = b; right_kind = c; right_value = d; string = s; blob = t }) (form_named f)
case_of fs = None
