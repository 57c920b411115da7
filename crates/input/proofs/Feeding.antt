-- Lines out of a chunk, one after another: what is left of it gives the whole.
use Rattle.std.proofs.Common.{◌≡◌, ℕ, suc, ◌<◌, List, [], ◌∷◌, ◌++◌, length, Some, None, Option, Bor, sym, refl, ap, ◌∙◌, subst, append_assoc, append-nil, arith}
use Rattle.format.specs.Fields.{fields, fields_of}
use Rattle.format.proofs.Laws.{some_fields}
use Rattle.format.proofs.Ranges.{shorter}
use Rattle.input.specs.Lines.{longer, ended, behind, Answered, Fed}

-- what the parts `fs` still give, after `a`, `b` and what is written, is what `gs` give after `a₀` and `b₀`
pub record Leaves {A : Type 0} (answers : A → Option (List ℕ) → A → List ℕ → Type 0) (room : ℕ) (written : List ℕ) (a : A) (b : Option (List ℕ)) (fs : List (List ℕ)) (a₀ : A) (b₀ : Option (List ℕ)) (gs : List (List ℕ)) : Type 0 where
  pub lines : (t : A) (more : List ℕ) → Answered answers a (ended room b fs) t more → Answered answers a₀ (ended room b₀ gs) t (written ++ more)
  pub rest : behind room b fs ≡ behind room b₀ gs

ended_more : (room : ℕ) (b : Option (List ℕ)) (f g : List ℕ) (fs : List (List ℕ)) → ended room b (f ∷ g ∷ fs) ≡ longer room b f ∷ ended room (Some []) (g ∷ fs)
unfolding ended
ended_more room b f g fs = refl

behind_more : (room : ℕ) (b : Option (List ℕ)) (f g : List ℕ) (fs : List (List ℕ)) → behind room b (f ∷ g ∷ fs) ≡ behind room (Some []) (g ∷ fs)
unfolding behind
behind_more room b f g fs = refl

ended_last : (room : ℕ) (b : Option (List ℕ)) (f : List ℕ) → ended room b (f ∷ []) ≡ []
unfolding ended
ended_last room b f = refl

behind_last : (room : ℕ) (b : Option (List ℕ)) (f : List ℕ) → behind room b (f ∷ []) ≡ longer room b f
unfolding behind
behind_last room b f = refl

module _ {A : Type 0} (answers : A → Option (List ℕ) → A → List ℕ → Type 0) (room : ℕ) (written : List ℕ) (a : A) (b : Option (List ℕ)) (f : List ℕ) (a₀ : A) (b₀ : Option (List ℕ)) (gs : List (List ℕ)) where
  -- a line ends with the part f
  pub one_less : (a₁ : A) (bytes more : List ℕ) → Leaves answers room written a b (f ∷ fields 10 more) a₀ b₀ gs → answers a (longer room b f) a₁ bytes → Leaves answers room (written ++ bytes) a₁ (Some []) (fields 10 more) a₀ b₀ gs
  one_less a₁ bytes more left h =
      let s = some_fields 10 more in
      let step : ended room b (f ∷ fields 10 more) ≡ longer room b f ∷ ended room (Some []) (fields 10 more) =
      ap (λ fs. ended room b (f ∷ fs)) s.are ∙ ended_more room b f s.first s.more ∙ ap (λ fs. longer room b f ∷ ended room (Some []) fs) (sym s.are) in
      record {
        lines = λ t w k.
            let whole = left.lines t (bytes ++ w) (subst (λ ls. Answered answers a ls t (bytes ++ w)) (sym step) (a₁, bytes, w, h, k, refl)) in
            subst (Answered answers a₀ (ended room b₀ gs) t) (sym (append_assoc written bytes w)) whole;
        rest = ap (behind room (Some [])) s.are ∙ sym (behind_more room b f s.first s.more) ∙ ap (λ fs. behind room b (f ∷ fs)) (sym s.are) ∙ left.rest;
      }

-- no line ends any more
pub none_left : {A : Type 0} (answers : A → Option (List ℕ) → A → List ℕ → Type 0) (room : ℕ) (written : List ℕ) (a : A) (b : Option (List ℕ)) (f : List ℕ) (a₀ : A) (b₀ : Option (List ℕ)) (chunk : List ℕ) (b' : Option (List ℕ)) → Leaves answers room written a b (f ∷ []) a₀ b₀ (fields 10 chunk) → b' ≡ longer room b f → Fed answers room a₀ b₀ chunk a b' written
none_left answers room written a b f a₀ b₀ chunk b' left is = record {
  lines = subst (Answered answers a₀ (ended room b₀ (fields 10 chunk)) a) (append-nil written) (left.lines a [] (subst (λ ls. Answered answers a ls a []) (sym (ended_last room b f)) (refl, refl)));
  rest = is ∙ sym (behind_last room b f) ∙ left.rest;
}

-- how much is left behind a cut
abbrev pub behind_cut : Option (Bor (List ℕ)) → ℕ
behind_cut None = 0
behind_cut (Some r) = suc (length r.now)

pub less_behind : (bytes f : List ℕ) (o : Option (Bor (List ℕ))) → fields 10 bytes ≡ f ∷ fields_of 10 o → behind_cut o < suc (length bytes)
less_behind bytes f None e = omega arith
less_behind bytes f (Some r) e = let s = shorter 10 bytes f r.now e in omega arith
