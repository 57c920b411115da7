-- A loop over the kinds gathers what `gather` does.
use Rattle.std.proofs.Common.{◌≡◌, ℕ, ◌+◌, ◌<◌, ◌≤◌, true, false, cond, List, length, get_or, drop, Ok, Err, Result, ap, ◌∙◌}
use Rattle.std.proofs.lemmas.List.{drop_more, drop_all}
use Rattle.fault.specs.Refusals.{bind}
use Rattle.fault.specs.declared.Fault.{Fault}
use Rattle.value.specs.Kinds.{has, united}
use Rattle.value.specs.declared.kind.Kind.{Kind}
use Rattle.value.specs.declared.set.KindSet.{KindSet}
use Rattle.rule.specs.Sets.{gather}

module _ (f : Kind → Result KindSet Fault) (t all : KindSet) (ks : List Kind) (i : ℕ) (k : Kind) (h : i < length ks) where
  at_k : gather f t all (drop i ks) ≡ cond (has t (get_or ks i k)) (bind (f (get_or ks i k)) (λ s. gather f t (united all s) (drop (i + 1) ks))) (gather f t all (drop (i + 1) ks))
  unfolding gather
  at_k = ap (gather f t all) (drop_more ks i k h)

  pub gather_not : has t (get_or ks i k) ≡ false → gather f t all (drop i ks) ≡ gather f t all (drop (i + 1) ks)
  gather_not e = at_k ∙ rw e

  pub gather_in : (s : KindSet) → has t (get_or ks i k) ≡ true → f (get_or ks i k) ≡ Ok s → gather f t all (drop i ks) ≡ gather f t (united all s) (drop (i + 1) ks)
  gather_in s e o = at_k ∙ rw (e, o)

  pub gather_stops : (x : Fault) → has t (get_or ks i k) ≡ true → f (get_or ks i k) ≡ Err x → gather f t all (drop i ks) ≡ Err x
  gather_stops x e o = at_k ∙ rw (e, o)

pub gather_done : (f : Kind → Result KindSet Fault) (t all : KindSet) (ks : List Kind) (i : ℕ) → length ks ≤ i → gather f t all (drop i ks) ≡ Ok all
unfolding gather
gather_done f t all ks i h = ap (gather f t all) (drop_all i ks h)
