-- The row of two values is that of their kinds.
use Rattle.std.proofs.Common.{◌≡◌, ℕ, List, Some, None, Ok, Err, Option, Result, sym, ap, ◌∙◌}
use Rattle.std.specs.Option.{ok_or}
use Rattle.fault.specs.Refusals.{bind}
use Rattle.fault.specs.declared.Fault.{Fault}
use Rattle.fault.specs.declared.Fault.TheVariants.{NoRow}
use Rattle.text.specs.Pieces.{text_bytes}
use Rattle.text.specs.declared.piece.Text.{Text}
use Rattle.value.specs.Values.{kind_in, kind_of}
use Rattle.value.specs.declared.kind.Kind.{Kind}
use Rattle.value.specs.declared.value.Value.{Value}
use Rattle.value.proofs.Laws.{kind_meaning}
use Rattle.routines.specs.Outcomes.{operand}
use Rattle.operators.specs.Applied.{in_row}

module _ {F A : Type 0} (row : Kind → Kind → Option F) (work : List ℕ) (a b : Value Text) (j k : Kind) (p : j ≡ kind_of a) (q : k ≡ kind_of b) (call : F → Result A Fault) where
  at_kinds : row (kind_in (operand work a)) (kind_in (operand work b)) ≡ row j k
  at_kinds = λ i. row ((kind_meaning (text_bytes work) a ∙ sym p) i) ((kind_meaning (text_bytes work) b ∙ sym q) i)

  in_row_lem : (o : Option F) → o ≡ row j k → in_row (row (kind_in (operand work a)) (kind_in (operand work b))) call ≡ in_row o call
  in_row_lem o e = ap (λ o. in_row o call) (at_kinds ∙ sym e)

  -- the routine that is found, or the refusal where there is none
  found : (o : Option F) (r : Result F Fault) → o ≡ row j k → r ≡ ok_or o NoRow → in_row (row (kind_in (operand work a)) (kind_in (operand work b))) call ≡ bind r call
  found None r e v = in_row_lem None e ∙ sym (ap (λ r. bind r call) v)
  found (Some f) r e v = in_row_lem (Some f) e ∙ sym (ap (λ r. bind r call) v)

  pub row_ok : (o : Option F) (r : Result F Fault) (f : F) → o ≡ row j k → r ≡ ok_or o NoRow → r ≡ Ok f → in_row (row (kind_in (operand work a)) (kind_in (operand work b))) call ≡ call f
  row_ok o r f e v h = found o r e v ∙ ap (λ r. bind r call) h

  pub row_err : (o : Option F) (r : Result F Fault) (f : Fault) → o ≡ row j k → r ≡ ok_or o NoRow → r ≡ Err f → in_row (row (kind_in (operand work a)) (kind_in (operand work b))) call ≡ Err f
  row_err o r f e v h = found o r e v ∙ ap (λ r. bind r call) h
