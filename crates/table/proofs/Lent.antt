-- The value of a slot, with its text where the slot's part begins.
use Rattle.std.proofs.Common.{◌≡◌, ℕ, List, length, take, drop, Some, None, Option, sym, ap, ◌∙◌, subst, arith}
use Rattle.std.proofs.lemmas.List.{take-take}
use Rattle.text.specs.Buffers.{span, span_text}
use Rattle.text.specs.declared.span.Span.{Span}
use Rattle.value.specs.Values.{meant, text_in, Maps, Inside}
use Rattle.value.specs.declared.value.Value.{Value}
use Rattle.value.proofs.Laws.{meaning_mapped, text_mapped}
use Rattle.table.specs.declared.record.Record.{Record}
use Rattle.table.specs.Rows.{meant_by}
use Rattle.table.proofs.Rowed.{At, text_short}

module _ (r : Record) (bs : List ℕ) (cap at : ℕ) (a : At r bs cap at) (R : ℕ → Span → Type 0) (spans : (n : ℕ) (s : Span) → R n s → s ≡ span at n) (w : Value Span) (m : Maps R r.value w) where
  pub inside : (o : Option Span) → text_in w ≡ o → Inside (length bs) o
  inside None e = tt
  inside (Some s) e =
      let p = text_mapped R r.value w m s e in
      subst (λ x. Inside (length bs) (Some x)) (sym (spans p.0 s p.2)) (omega (arith, a.within, text_short r bs cap at p.0 a p.1))

  pub means : meant bs w ≡ meant_by (take cap (drop at bs)) r.value
  means = meaning_mapped R (λ n. take n (take cap (drop at bs))) (span_text bs) r.value w m (λ n s e p. ap (span_text bs) (spans n s p) ∙ sym (take-take n cap (drop at bs) (text_short r bs cap at n a e)))
