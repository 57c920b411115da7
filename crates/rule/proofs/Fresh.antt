-- A test of every pair of a step and a kind.
use Rattle.std.proofs.Common.{◌≡◌, ◌&&◌, List, [], ◌∷◌, length, Option, refl, ap, arith}
use Rattle.std.specs.List.{list_all, zip}
use Rattle.value.specs.declared.kind.Kind.{Kind}
use Rattle.steps.specs.declared.step.Step.{Step}
use Rattle.rule.specs.Check.{Env, kind_at, same_kind, fresh}

pub fresh_pairs : (env : Env) (xs : List Step) (ks : List (Option Kind)) → length ks ≡ length xs → list_all (λ p. same_kind (kind_at env p.0) p.1) (zip xs ks) ≡ fresh env xs ks
unfolding fresh
fresh_pairs env [] ks h = refl
fresh_pairs env (x ∷ xs) [] h = absurd (omega arith)
fresh_pairs env (x ∷ xs) (k ∷ ks) h = ap (λ b. same_kind (kind_at env x) k && b) (fresh_pairs env xs ks (omega arith))
