-- The forms of a line, by its fields; no field is longer than the line.
use Rattle.std.proofs.Common.{◌≡◌, ℕ, true, ltb, List, ◌∷◌, length, is_some, Some, None, Option, sym, refl, ap, arith, Bor}
use Rattle.std.proofs.lemmas.Bool.{cond_both}
use Rattle.format.specs.Fields.{fields, fields_of}
use Rattle.format.proofs.Laws.{some_fields}
use Rattle.line.specs.Forms.{form_of, line_form}

-- five fields and more are of no form
pub five : (line v a b c r₁ r₂ r₃ : List ℕ) (o : Option (Bor (List ℕ))) → is_some o ≡ true → fields 9 line ≡ v ∷ fields 9 r₁ → fields 9 r₁ ≡ a ∷ fields 9 r₂ → fields 9 r₂ ≡ b ∷ fields 9 r₃ → fields 9 r₃ ≡ c ∷ fields_of 9 o → None ≡ line_form line
five line v a b c r₁ r₂ r₃ None h p q r s = absurd (let z : ◌≡◌ {A = ℕ} 0 1 = cc in omega arith)
five line v a b c r₁ r₂ r₃ (Some d) h p q r s =
    let t = some_fields 9 d.now in
    let all : fields 9 line ≡ v ∷ a ∷ b ∷ c ∷ t.first ∷ t.more = cc in
    let none : form_of (fields 9 line) ≡ None = ap form_of all in
    cond_both (ltb 4096 (length line)) None (form_of (fields 9 line)) (λ f. None ≡ f) (λ _. refl) (λ _. sym none)
