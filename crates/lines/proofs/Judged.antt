-- Where the test accepts, every line spells a value.
use Rattle.std.proofs.Common.{◌≡◌, ℕ, suc, Bool, true, false, cond, ltb, ◌||◌, is_ok, List, [], ◌∷◌, length, Err, Result, sym, ap, ◌∙◌, inl, inr}
use Rattle.std.specs.List.{AllByRecursion}
use Rattle.std.proofs.lemmas.Bool.{false≢true}
use Rattle.fault.specs.Refusals.{refusal}
use Rattle.fault.specs.declared.Fault.TheVariants.{BadLine}
use Rattle.fault.specs.declared.Refusal.{Refusal}
use Rattle.lines.specs.Spelled.{lines, Valued}
use Rattle.lines.specs.Tested.{TestedFrom, Tested}

all_valued : (n : ℕ) (ls : List (List ℕ)) (r : Result Unit Refusal) → TestedFrom n ls r → is_ok r ≡ true → AllByRecursion Valued ls
all_valued n [] r t o = tt
all_valued n (l ∷ ls) r (inl h) o = (h.0, all_valued (suc n) ls r h.1 o)
all_valued n (l ∷ ls) r (inr h) o = absurd (false≢true (sym (ap is_ok h.1) ∙ o))

-- the count of lines is not tested again
count_tested : (b : Bool) (ls : List (List ℕ)) (r : Result Unit Refusal) → cond b (r ≡ Err (refusal BadLine 0)) (TestedFrom 0 ls r) → is_ok r ≡ true → AllByRecursion Valued ls
count_tested true ls r t o = absurd (false≢true (sym (ap is_ok t) ∙ o))
count_tested false ls r t o = all_valued 0 ls r t o

pub tested_valued : (bytes : List ℕ) (r : Result Unit Refusal) → Tested bytes r → is_ok r ≡ true → AllByRecursion Valued (lines bytes)
tested_valued bytes r t o = count_tested (ltb (length (lines bytes)) 1 || ltb 4096 (length (lines bytes))) (lines bytes) r t o
