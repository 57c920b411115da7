-- The walk in the first bytes of a work buffer.
use Rattle.std.proofs.Common.{◌≡◌, ℕ, min, List, ◌++◌, length, take, drop, Ok, Err, Result, sym, refl, ap, ◌∙◌, subst, arith, length-append, take_at}
use Rattle.std.proofs.lemmas.List.{take_all}
use Rattle.fault.specs.Outcomes.{beside}
use Rattle.fault.specs.Refusals.{bind}
use Rattle.fault.specs.declared.Refusal.{Refusal}
use Rattle.text.proofs.Laws.{take_first, drop_first}
use Rattle.text.specs.declared.span.Span.{Span}
use Rattle.value.specs.Values.{meant, well_formed, text_in, Inside}
use Rattle.value.specs.declared.value.Value.{Value}
use Rattle.routines.specs.declared.made.Limits.{Limits}
use Rattle.operators.specs.Applied.{Held}
use Rattle.operators.specs.Rooms.{room, Grown}
use Rattle.operators.proofs.Roomed.{inside_more, meant_as}
use Rattle.steps.specs.Machines.{Comes}
use Rattle.steps.specs.Walk.{walk}
use Rattle.steps.specs.declared.step.Step.{Step}
use Rattle.rule.specs.Check.{Env}
use Rattle.rule.specs.Run.{values, with_rest, Walks, walked, Ends}

rest_beside : {A : Type 0} (rest : List ℕ) (fill : ℕ) (work : List ℕ) (r : Result A Refusal) → with_rest rest (beside (room fill work) r) ≡ beside (work ++ rest) r
rest_beside rest fill work (Ok a) = refl
rest_beside rest fill work (Err e) = refl

-- what the walk leaves in a buffer without texts
pub comes_walks : (l : Limits) (env : Env) (xs : List Step) (work : List ℕ) (r : Result (Value Span) Refusal) (work' : List ℕ) (fill' : ℕ) (left : List ℕ) → left ≡ work' → Comes (meant work') (Held work' fill') (room fill' work') (walk (values l env) xs (room 0 work)) r → Grown work 0 work' fill' → Walks l env xs work r left
comes_walks l env xs work r work' fill' left q c g = subst (Walks l env xs work r) (sym q) (record {
  outcome = λ rest. ap (with_rest rest) c.outcome ∙ rest_beside rest fill' work' (bind r (λ v. Ok (meant work' v)));
  inside = λ v q. inside_more fill' (length work') (text_in v) (omega (arith, g.inside, g.size)) (c.held v q).below;
  formed = λ v q. (c.held v q).formed;
  size = g.size;
})

meant_append : (work rest : List ℕ) (v : Value Span) → Inside (length work) (text_in v) → meant work v ≡ meant (work ++ rest) v
meant_append work rest v h = sym (meant_as work (work ++ rest) (length work) v (take_at work rest (length work) refl ∙ sym (take_all (length work) work (omega arith))) h)

inside_append : (work rest : List ℕ) (v : Value Span) → Inside (length work) (text_in v) → Inside (length (work ++ rest)) (text_in v)
inside_append work rest v h = inside_more (length work) (length (work ++ rest)) (text_in v) (omega (arith, length-append work rest)) h

answer_append : (work rest : List ℕ) (r : Result (Value Span) Refusal) → ((v : Value Span) → r ≡ Ok v → Inside (length work) (text_in v)) → bind r (λ v. Ok (meant work v)) ≡ bind r (λ v. Ok (meant (work ++ rest) v))
answer_append work rest (Ok v) h = ap Ok (meant_append work rest v (h v refl))
answer_append work rest (Err e) h = refl

pub walks_end : (l : Limits) (env : Env) (xs : List Step) (work : List ℕ) (n : ℕ) (r : Result (Value Span) Refusal) (work' : List ℕ) → n ≡ min (length work) 65536 → Walks l env xs (take n work) r work' → Ends (walked l env xs work) r (work' ++ drop n work)
walks_end l env xs work n r work' e w =
    let m = values l env in
    let first : walked l env xs work ≡ with_rest (drop n work) (walk m xs (room 0 (take n work))) = λ i. with_rest (sym (drop_first work n 65536 e) i) (walk m xs (room 0 (sym (take_first work n 65536 e) i))) in
    record {
      outcome = first ∙ w.outcome (drop n work) ∙ ap (beside (work' ++ drop n work)) (answer_append work' (drop n work) r w.inside);
      inside = λ v q. inside_append work' (drop n work) v (w.inside v q);
      formed = λ v q. ap well_formed (sym (meant_append work' (drop n work) v (w.inside v q))) ∙ w.formed v q;
    }
