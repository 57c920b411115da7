-- A run obeys its law.
use Rattle.std.proofs.Common.{◌≡◌, ℕ, Bool, true, false, cond, List, ◌++◌, take, drop, Some, None, Ok, Err, Option, Result, sym, refl, ap, ◌∙◌, subst, ⊎_elim, arith}
use Rattle.fault.specs.Outcomes.{Outcome, beside}
use Rattle.fault.specs.Refusals.{refusal}
use Rattle.fault.specs.declared.Fault.TheVariants.{NotPassed, Outdated}
use Rattle.fault.specs.declared.Refusal.{Refusal}
use Rattle.value.specs.Kinds.{has}
use Rattle.value.specs.Values.{Meaning, kind_in}
use Rattle.value.specs.declared.set.KindSet.{KindSet}
use Rattle.routines.specs.declared.made.Limits.{Limits}
use Rattle.operators.specs.Rooms.{Room, room}
use Rattle.shelf.specs.Slots.{Slot}
use Rattle.steps.specs.Walk.{walk}
use Rattle.steps.specs.declared.step.Step.{Step}
use Rattle.rule.specs.Check.{Env, checked, kinds_at, fresh}
use Rattle.rule.specs.Run.{values, with_rest, walked}
use Rattle.rule.specs.Rules.{Kept, ran}
use Rattle.desk.specs.Book.{Event, limits, book, Said, value, valued}
use Rattle.desk.specs.Law.{FromValues, PassedRun, RunLaw, LastCheck}
use Rattle.desk.proofs.Uniting.{ok_err}
use Rattle.desk.proofs.Sound.{FineAt, walk_fine, rowed}
use Rattle.desk.proofs.Staleness.{stale_not, stale_yes}
use Rattle.desk.proofs.Postings.{in_force}
use Rattle.desk.proofs.Checks.{check_rule, passed_by}

-- what a refusal or a value says of the outcome

err_is : {W A E : Type 0} (w w₁ : W) (said : Result A E) (e : E) → beside w said ≡ Err (e, w₁) → (said ≡ Err e) × (w ≡ w₁)
err_is w w₁ (Ok a) e q = absurd (ok_err _ _ (sym q))
err_is {W} {A} {E} w w₁ (Err f) e q = let p : ◌≡◌ {A = E × W} (f, w) (e, w₁) = cc in (ap (λ o. Err o.0) p, ap (λ o. o.1) p)

module _ (P : Meaning → Type 0) (rest work' : List ℕ) (said : Result Said Refusal) where
  fine_said : (o : Outcome Room Meaning Refusal) → FineAt P o → beside work' said ≡ valued (with_rest rest o) → ((m : Meaning) → said ≡ Ok (value m) → P m) × ((e : Refusal) → said ≡ Err e → FromValues e.fault)
  fine_said (Ok r) h q = (
    λ m s. let p : r.0 ≡ m = ok_value r.0 m (sym q ∙ ap (beside work') s) in subst P p h,
    λ e s. absurd (ok_err _ _ (sym (ap (beside work') s) ∙ q)),
  )
    where
      ok_value : (a m : Meaning) → ◌≡◌ {A = Outcome (List ℕ) Said Refusal} (Ok (value a, r.1.bytes ++ rest)) (Ok (value m, work')) → a ≡ m
      ok_value a m z =
          let y : ◌≡◌ {A = Said × List ℕ} (value a, r.1.bytes ++ rest) (value m, work') = cc in
          let x : value a ≡ value m = ap (λ o. o.0) y in
          cc
  fine_said (Err r) h q = (
    λ m s. absurd (ok_err _ _ (sym q ∙ ap (beside work') s)),
    λ e s.
        let z : ◌≡◌ {A = Outcome (List ℕ) Said Refusal} (Err (e, work')) (Err (r.0, r.1.bytes ++ rest)) = sym (ap (beside work') s) ∙ q in
        let y : ◌≡◌ {A = Refusal × List ℕ} (e, work') (r.0, r.1.bytes ++ rest) = cc in
        subst (λ x. FromValues x.fault) (sym (ap (λ o. o.0) y)) h,
  )

not_outdated : FromValues Outdated → ⊥
not_outdated f = ⊎_elim (λ p. omega (arith, p.1)) (λ e. omega arith) f

module _ (l : Limits) (env was : Env) (xs : List Step) (u : KindSet) (c : checked was xs ≡ Ok u) (work : List ℕ) (said : Result Said Refusal) (work' : List ℕ) where
  -- by the test before the run
  run_by : (b : Bool) → fresh env xs (kinds_at was xs) ≡ b → beside work' said ≡ valued (cond b (walked l env xs work) (Err (refusal Outdated 0, work))) → PassedRun l env was xs u work said work'
  run_by true f q =
      let r = room 0 (take 65536 work) in
      let says = fine_said (λ m. has u (kind_in m) ≡ true) (drop 65536 work) work' said (walk (values l env) xs r) (walk_fine l env was xs u c f r) q in
      record {
        outdated = λ s. absurd (not_outdated (says.1 (refusal Outdated 0) s));
        refuses = λ s. absurd (stale_not env was xs u c f s);
        rowed = λ _. rowed l env was xs u c f r;
        never = λ _. says.1;
        listed = λ _. says.0;
        walks = λ _. q;
      }
  run_by false f q =
      let s = stale_yes env was xs u c f in
      record {
        outdated = λ _. s;
        refuses = λ _. err_is work' work said (refusal Outdated 0) q;
        rowed = λ n. absurd (n s);
        never = λ n. absurd (n s);
        listed = λ n. absurd (n s);
        walks = λ n. absurd (n s);
      }

module _ (first : List Slot) (past : List Event) (l : Limits) (work : List ℕ) (said : Result Said Refusal) (work' : List ℕ) where
  unpassed_by : (k : Option Kept) → (book first past).rule.kept ≡ k → beside work' said ≡ valued (ran l (limits (book first past)) (book first past).rule.steps k work) → ((before : List Event) (u : KindSet) → LastCheck first past before u → ⊥) → (said ≡ Err (refusal NotPassed 0)) × (work' ≡ work)
  unpassed_by None e q h = err_is work' work said (refusal NotPassed 0) q
  unpassed_by (Some k) e q h = let p = passed_by first past k e in absurd (h p.0 p.1 p.2)

  pub run_law : beside work' said ≡ valued (ran l (limits (book first past)) (book first past).rule.steps (book first past).rule.kept work) → RunLaw first past l work said work'
  run_law q = record {
    force = in_force first past;
    unpassed = unpassed_by (book first past).rule.kept refl q;
    passed = λ before u k.
        let is = check_rule first past before u k in
        let steps = ap (λ s. s.steps) (sym is) in
        let env = limits (book first past) in
        let was = limits (book first before) in
        let ys = (book first before).rule.steps in
        let run = run_by l env was ys u k.answer work said work' (fresh env ys (kinds_at was ys)) refl (q ∙ ap (λ s. valued (ran l env s.steps s.kept work)) is) in
        (in_force first before, steps, subst (λ xs. PassedRun l env was xs u work said work') steps run);
  }
