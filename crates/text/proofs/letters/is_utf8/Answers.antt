use Rattle.std.proofs.Common.{is_ok, Ok, Err, Decides, Result, refl, ◌∙◌, MatchResult}
use Rattle.std.proofs.lemmas.Bool.{false≢true}
use Rattle.std.proofs.lemmas.Bool.Decides.{same_from_decides}
use Rattle.text.proofs.Laws.{utf8_decides}
use Rattle.text.proofs.letters.is_utf8.Goals as goal

decides_ok : {A E : Type 0} (P : Type 0) (Q : A → Type 0) (R : E → Type 0) (r : Result A E) → MatchResult r (λ s. Q s × P) (λ e. (P → ⊥) × R e) → Decides (is_ok r) P
decides_ok P Q R (Ok s) h = (λ _. h.1, λ _. refl)
decides_ok P Q R (Err e) h = (λ t. absurd (false≢true t), λ p. absurd (h.0 p))

pub returns : goal.returns
returns c = c.is_ok.ensures.value ∙ same_from_decides _ _ (decides_ok _ _ _ c.from_utf8.result c.from_utf8.ensures.cases) (utf8_decides c.args.bytes.now)
