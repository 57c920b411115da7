-- Nine fields and more are no case.
use Rattle.std.proofs.Common.{◌≡◌, ℕ, true, List, ◌∷◌, Some, None, Option, is_some, sym, refl, ap, ◌∙◌, Bor}
use Rattle.std.proofs.lemmas.Bool.{both_ways}
use Rattle.format.specs.Fields.{fields, fields_of}
use Rattle.format.proofs.Laws.{some_fields}
use Rattle.cases.specs.Cases.{case_of}

pub nine : (line f o a b c d s t r₁ r₂ r₃ r₄ r₅ r₆ r₇ : List ℕ) (x : Option (Bor (List ℕ))) → true ≡ is_some x
    → fields 9 line ≡ f ∷ fields 9 r₁ → fields 9 r₁ ≡ o ∷ fields 9 r₂ → fields 9 r₂ ≡ a ∷ fields 9 r₃ → fields 9 r₃ ≡ b ∷ fields 9 r₄
    → fields 9 r₄ ≡ c ∷ fields 9 r₅ → fields 9 r₅ ≡ d ∷ fields 9 r₆ → fields 9 r₆ ≡ s ∷ fields 9 r₇ → fields 9 r₇ ≡ t ∷ fields_of 9 x → None ≡ case_of (fields 9 line)
nine line f o a b c d s t r₁ r₂ r₃ r₄ r₅ r₆ r₇ None h e₁ e₂ e₃ e₄ e₅ e₆ e₇ e₈ = absurd (both_ways true h refl)
nine line f o a b c d s t r₁ r₂ r₃ r₄ r₅ r₆ r₇ (Some x) h e₁ e₂ e₃ e₄ e₅ e₆ e₇ e₈ =
    let n = some_fields 9 x.now in
    let all : fields 9 line ≡ f ∷ o ∷ a ∷ b ∷ c ∷ d ∷ s ∷ t ∷ n.first ∷ n.more =
    e₁ ∙ ap (λ z. f ∷ z) (e₂ ∙ ap (λ z. o ∷ z) (e₃ ∙ ap (λ z. a ∷ z) (e₄ ∙ ap (λ z. b ∷ z) (e₅ ∙ ap (λ z. c ∷ z) (e₆ ∙ ap (λ z. d ∷ z) (e₇ ∙ ap (λ z. s ∷ z) (e₈ ∙ ap (λ z. t ∷ z) n.are))))))) in
    sym (ap case_of all)
