-- The test before a run finds exactly the loads that are missing or of another kind than at the check.
use Rattle.std.proofs.Common.{◌≡◌, ℕ, ◌+◌, true, false, List, [], ◌∷◌, ◌++◌, Some, None, Ok, Option, sym, refl, ap, ◌∙◌, subst, inl, inr, ⊎_elim, arith}
use Rattle.std.specs.Option.{option_map, ok_or}
use Rattle.std.proofs.lemmas.Bool.{true≢false, false≢true, both_ways, and_parts, and_cases, eq-eqb}
use Rattle.fault.specs.Outcomes.{beside, at}
use Rattle.fault.specs.declared.Fault.TheVariants.{Absent}
use Rattle.value.specs.Kinds.{kind_number, is_kind, single}
use Rattle.value.specs.Values.{Meaning, kind_in}
use Rattle.value.specs.declared.set.KindSet.{KindSet}
use Rattle.value.proofs.Laws.{is_kind_lem}
use Rattle.steps.specs.Walk.{Entries, start, step, after}
use Rattle.steps.specs.declared.step.Step.{Step}
use Rattle.steps.specs.declared.step.Step.TheVariants.{Put, Slot as Load, Local, Keep, Apply, Assign}
use Rattle.rule.specs.Check.{Env, kind_now, sets, checked, kind_at, kinds_at, same_kind, fresh}
use Rattle.desk.specs.Law.{Changed, Stale}
use Rattle.desk.proofs.Uniting.{bind_ok}
use Rattle.desk.proofs.Typed.{beside_ok, load_was}
use Rattle.desk.proofs.Sound.{at_ok, checked_as}

-- what an accepted check loaded was there
load_there : (was : Env) (n s : ℕ) (before rest : List Step) (e e₁ : Entries KindSet) → after (sets was) n (before ++ Load s ∷ rest) e tt ≡ Ok (e₁, tt) → (m : Meaning) × (was s ≡ Some m)
unfolding after
load_there was n s [] rest e e₁ q =
    let p = bind_ok (at n (step (sets was) (Load s) e tt)) _ _ q in
    let o = bind_ok (beside tt (ok_or (option_map single (kind_now was s)) Absent)) _ _ (at_ok n _ p.0 p.1) in
    let w = load_was (was s) o.0.0 (beside_ok tt _ o.0.0 tt o.1) in
    (w.0, w.1)
load_there was n s (x ∷ before) rest e e₁ q =
    let p = bind_ok (at n (step (sets was) x e tt)) _ _ q in
    load_there was (n + 1) s before rest p.0.0 e₁ p.2

there : (was : Env) (xs : List Step) (u : KindSet) → checked was xs ≡ Ok u → (s : ℕ) (before rest : List Step) → xs ≡ before ++ Load s ∷ rest → (m : Meaning) × (was s ≡ Some m)
there was xs u c s before rest cut =
    let k = checked_as was xs u c in
    load_there was 0 s before rest (start (sets was)) k.end (subst (λ ys. after (sets was) 0 ys (start (sets was)) tt ≡ Ok (k.end, tt)) cut k.passes)

fresh_load : (env was : Env) (s : ℕ) (before rest : List Step) → fresh env (before ++ Load s ∷ rest) (kinds_at was (before ++ Load s ∷ rest)) ≡ true → same_kind (kind_now env s) (kind_now was s) ≡ true
unfolding fresh
fresh_load env was s [] rest f = (and_parts (same_kind (kind_now env s) (kind_now was s)) _ f).0
fresh_load env was s (x ∷ before) rest f = fresh_load env was s before rest (and_parts (same_kind (kind_at env x) (kind_at was x)) _ f).1

-- kinds that differ have different numbers
apart : (now was : Option Meaning) (n : Meaning) → was ≡ Some n → same_kind (option_map kind_in now) (option_map kind_in was) ≡ true → Changed now was → ⊥
apart None None n w h ch = let z : ◌≡◌ {A = ℕ} 0 1 = cc in omega arith
apart None (Some v) n w h ch = false≢true h
apart (Some m) None n w h ch = false≢true h
apart (Some m) (Some v) n w h ch =
    ⊎_elim
    (λ e. let z : ◌≡◌ {A = ℕ} 0 1 = cc in omega arith)
    (λ d.
    let p : m ≡ d.0 = let z = d.2 in cc in
    let q : v ≡ d.1 = let z = d.3 in cc in
    d.4 (sym (ap kind_in p) ∙ is_kind_lem (kind_in m) (kind_in v) h ∙ ap kind_in q))
    ch

pub stale_not : (env was : Env) (xs : List Step) (u : KindSet) → checked was xs ≡ Ok u → fresh env xs (kinds_at was xs) ≡ true → Stale env was xs → ⊥
stale_not env was xs u c f st =
    let w = there was xs u c st.slot st.before st.rest st.load in
    let k = fresh_load env was st.slot st.before st.rest (subst (λ l. fresh env l (kinds_at was l) ≡ true) st.load f) in
    apart (env st.slot) (was st.slot) w.0 w.1 k st.changed

-- ---- a load that the test finds

changed_by : (now was : Option Meaning) (n : Meaning) → was ≡ Some n → same_kind (option_map kind_in now) (option_map kind_in was) ≡ false → Changed now was
changed_by None was n w h = inl refl
changed_by (Some m) None n w h = absurd (let z : ◌≡◌ {A = ℕ} 0 1 = cc in omega arith)
changed_by (Some m) (Some v) n w h = inr (m, v, refl, refl, λ e. both_ways (is_kind (kind_in m) (kind_in v)) h (eq-eqb _ _ (ap kind_number e)))

record Unlike (env was : Env) (xs : List Step) : Type 0 where
  slot : ℕ
  before : List Step
  rest : List Step
  load : xs ≡ before ++ Load slot ∷ rest
  unlike : same_kind (kind_now env slot) (kind_now was slot) ≡ false

unlike_step : (env was : Env) (x : Step) (xs : List Step) → same_kind (kind_at env x) (kind_at was x) ≡ false → Unlike env was (x ∷ xs)
unlike_step env was (Put v) xs h = absurd (true≢false h)
unlike_step env was (Load s) xs h = record { slot = s; before = []; rest = xs; load = refl; unlike = h }
unlike_step env was (Local i) xs h = absurd (true≢false h)
unlike_step env was (Keep i) xs h = absurd (true≢false h)
unlike_step env was (Apply op) xs h = absurd (true≢false h)
unlike_step env was (Assign op i) xs h = absurd (true≢false h)

unlike : (env was : Env) (xs : List Step) → fresh env xs (kinds_at was xs) ≡ false → Unlike env was xs
unfolding fresh
unlike env was [] f = absurd (true≢false f)
unlike env was (x ∷ xs) f =
    ⊎_elim
    (λ h. unlike_step env was x xs h)
    (λ h. let r = unlike env was xs h in record { slot = r.slot; before = x ∷ r.before; rest = r.rest; load = ap (λ l. x ∷ l) r.load; unlike = r.unlike })
    (and_cases (same_kind (kind_at env x) (kind_at was x)) (fresh env xs (kinds_at was xs)) f)

pub stale_yes : (env was : Env) (xs : List Step) (u : KindSet) → checked was xs ≡ Ok u → fresh env xs (kinds_at was xs) ≡ false → Stale env was xs
stale_yes env was xs u c f =
    let r = unlike env was xs f in
    let w = there was xs u c r.slot r.before r.rest r.load in
    record { slot = r.slot; before = r.before; rest = r.rest; load = r.load; changed = changed_by (env r.slot) (was r.slot) w.0 w.1 r.unlike }
