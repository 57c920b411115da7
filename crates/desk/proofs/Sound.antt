-- What a check assures of a whole run, where every load finds the kind that it found at the check.
use Rattle.std.proofs.Common.{◌≡◌, ℕ, ◌+◌, true, ◌&&◌, List, [], ◌∷◌, ◌++◌, length, Ok, Err, Result, refl, ap, ◌∙◌, subst}
use Rattle.std.proofs.lemmas.Bool.{and_parts}
use Rattle.fault.specs.Outcomes.{Outcome, beside, at}
use Rattle.fault.specs.Refusals.{bind}
use Rattle.fault.specs.declared.Fault.{Fault}
use Rattle.fault.specs.declared.Refusal.{Refusal}
use Rattle.value.specs.Kinds.{has}
use Rattle.value.specs.Values.{Meaning, kind_in}
use Rattle.value.specs.declared.op.Op.{Op}
use Rattle.value.specs.declared.set.KindSet.{KindSet}
use Rattle.rows.specs.Rows.{selected, assign_selected}
use Rattle.routines.specs.declared.made.Limits.{Limits}
use Rattle.operators.specs.Rooms.{Room, room}
use Rattle.steps.specs.Walk.{Entries, entries, popped, local, start, step, after, finish, walk}
use Rattle.steps.specs.declared.step.Step.{Step}
use Rattle.steps.specs.declared.step.Step.TheVariants.{Apply, Assign}
use Rattle.rule.specs.Check.{Env, sets, bare, checked, kind_at, kinds_at, same_kind, fresh}
use Rattle.rule.specs.Run.{values}
use Rattle.rule.specs.Sets.{rows_over}
use Rattle.desk.specs.Law.{FromValues, Rowed}
use Rattle.desk.proofs.Uniting.{ok_err, bind_ok, row_for}
use Rattle.desk.proofs.Typed.{Fine, Typed, TypedIn, beside_ok, typed_pop, local_typed, step_fine}

abbrev pub FineAt : {W A : Type 0} → (A → Type 0) → Outcome W A Refusal → Type 0
FineAt P (Ok r) = P r.0
FineAt P (Err r) = FromValues r.0.fault

fine_then : {W A B : Type 0} (P : A → Type 0) (Q : B → Type 0) (n : ℕ) (o : Outcome W A Fault) (k : A × W → Outcome W B Refusal) → Fine P o → ((a : A) (w : W) → P a → FineAt Q (k (a, w))) → FineAt Q (bind (at n o) k)
fine_then P Q n (Ok r) k h f = f r.0 r.1 h
fine_then P Q n (Err r) k h f = h

both_of : {a b : Meaning} {d e : Entries Meaning} → ◌≡◌ {A = Result (Meaning × Entries Meaning) Fault} (Ok (a, d)) (Ok (b, e)) → (a ≡ b) × (d ≡ e)
both_of {a} {b} {d} {e} q = let p : ◌≡◌ {A = Meaning × Entries Meaning} (a, d) (b, e) = cc in (ap (λ o. o.0) p, ap (λ o. o.1) p)

pub at_ok : {W A : Type 0} (n : ℕ) (o : Outcome W A Fault) (a : A × W) → at n o ≡ Ok a → o ≡ Ok a
at_ok n (Ok b) a q = let p : b ≡ a = cc in ap Ok p
at_ok n (Err f) a q = absurd (ok_err _ _ q)

module _ (was : Env) where
  bare_ok : {A E : Type 0} (o : Outcome (Unit {0}) A E) (a : A) → bare o ≡ Ok a → o ≡ Ok (a, tt)
  bare_ok (Ok r) a q = let p : r.0 ≡ a = cc in ap (λ x. Ok (x, tt)) p
  bare_ok (Err r) a q = absurd (ok_err _ _ q)

  -- the walk of a check that answers u
  pub record Checked (xs : List Step) (u : KindSet) : Type 0 where
    pub end : Entries KindSet
    pub passes : after (sets was) 0 xs (start (sets was)) tt ≡ Ok (end, tt)
    pub only : finish (length xs) end.stack ≡ Ok u

  pub checked_as : (xs : List Step) (u : KindSet) → checked was xs ≡ Ok u → Checked xs u
  checked_as xs u q =
      let p = bind_ok (after (sets was) 0 xs (start (sets was)) tt) _ _ (bare_ok _ u q) in
      record { end = p.0.0; passes = p.1; only = beside_ok tt _ u tt p.2 }

module _ (l : Limits) (env was : Env) where
  pub after_fine : (n : ℕ) (xs : List Step) (e : Entries Meaning) (s s₁ : Entries KindSet) (r : Room) → TypedIn e s → fresh env xs (kinds_at was xs) ≡ true → after (sets was) n xs s tt ≡ Ok (s₁, tt) → FineAt (λ e₁. TypedIn e₁ s₁) (after (values l env) n xs e r)
  unfolding after fresh
  after_fine n [] e s s₁ r t f q =
      let y : ◌≡◌ {A = Entries KindSet × Unit {0}} (s, tt) (s₁, tt) = cc in
      subst (TypedIn e) (ap (λ o. o.0) y) t
  after_fine n (x ∷ xs) e s s₁ r t f q =
      let h = and_parts (same_kind (kind_at env x) (kind_at was x)) _ f in
      let p = bind_ok (at n (step (sets was) x s tt)) _ _ q in
      fine_then (λ e₁. TypedIn e₁ p.0.0) (λ e₁. TypedIn e₁ s₁) n (step (values l env) x e r) _
      (step_fine l env was e s p.0.0 t r x h.0 (at_ok n _ p.0 p.1))
      (λ e₁ w t₁. after_fine (n + 1) xs e₁ p.0.0 s₁ w t₁ h.1 p.2)

  start_typed : TypedIn (start (values l env)) (start (sets was))
  start_typed = record { stack = tt; locals = (refl, (refl, (refl, (refl, (refl, (refl, (refl, (refl, tt)))))))) }

  finish_fine : (n : ℕ) (vs : List Meaning) (ss : List KindSet) (u : KindSet) (w : Room) → Typed vs ss → finish n ss ≡ Ok u → FineAt (λ m. has u (kind_in m) ≡ true) (beside w (finish n vs))
  finish_fine n [] [] u w t q = absurd (ok_err _ _ q)
  finish_fine n [] (y ∷ ss) u w t q = absurd t
  finish_fine n (v ∷ vs) [] u w t q = absurd t
  finish_fine n (v ∷ []) (y ∷ []) u w t q = let p : y ≡ u = cc in subst (λ s. has s (kind_in v) ≡ true) p t.0
  finish_fine n (v ∷ []) (y ∷ z ∷ ss) u w t q = absurd t.1
  finish_fine n (v ∷ x ∷ vs) (y ∷ []) u w t q = absurd t.1
  finish_fine n (v ∷ x ∷ vs) (y ∷ z ∷ ss) u w t q = absurd (ok_err _ _ q)

  bind_fine : {A B : Type 0} (P : A → Type 0) (Q : B → Type 0) (o : Outcome Room A Refusal) (k : A × Room → Outcome Room B Refusal) → FineAt P o → ((a : A) (w : Room) → P a → FineAt Q (k (a, w))) → FineAt Q (bind o k)
  bind_fine P Q (Ok r) k h f = f r.0 r.1 h
  bind_fine P Q (Err r) k h f = h

  module _ (xs : List Step) (u : KindSet) (c : checked was xs ≡ Ok u) (f : fresh env xs (kinds_at was xs) ≡ true) where
    pub walk_fine : (r : Room) → FineAt (λ m. has u (kind_in m) ≡ true) (walk (values l env) xs r)
    walk_fine r =
        let k = checked_as was xs u c in
        bind_fine (λ e. TypedIn e k.end) (λ m. has u (kind_in m) ≡ true) (after (values l env) 0 xs (start (values l env)) r) _
        (after_fine 0 xs (start (values l env)) (start (sets was)) k.end r start_typed f k.passes)
        (λ e w t. finish_fine (length xs) e.stack k.end.stack u w t.stack k.only)

    -- ---- the operators that it comes to

    record Reached (n : ℕ) (before ys : List Step) (s s₁ : Entries KindSet) : Type 0 where
      here : Entries KindSet
      place : ℕ
      to : after (sets was) n before s tt ≡ Ok (here, tt)
      on : after (sets was) place ys here tt ≡ Ok (s₁, tt)
      fresh_to : fresh env before (kinds_at was before) ≡ true
      fresh_on : fresh env ys (kinds_at was ys) ≡ true

    reaches : (n : ℕ) (before ys : List Step) (s s₁ : Entries KindSet) → after (sets was) n (before ++ ys) s tt ≡ Ok (s₁, tt) → fresh env (before ++ ys) (kinds_at was (before ++ ys)) ≡ true → Reached n before ys s s₁
    unfolding after fresh
    reaches n [] ys s s₁ q h = record { here = s; place = n; to = refl; on = q; fresh_to = refl; fresh_on = h }
    reaches n (x ∷ before) ys s s₁ q h =
        let g = and_parts (same_kind (kind_at env x) (kind_at was x)) _ h in
        let p = bind_ok (at n (step (sets was) x s tt)) _ _ q in
        let rest = reaches (n + 1) before ys p.0.0 s₁ p.2 g.1 in
        record {
          here = rest.here;
          place = rest.place;
          to = ap (λ o. bind o (λ r. after (sets was) (n + 1) before r.0 r.1)) p.1 ∙ rest.to;
          on = rest.on;
          fresh_to = ap (λ b. b && fresh env before (kinds_at was before)) g.0 ∙ rest.fresh_to;
          fresh_on = rest.fresh_on;
        }

    apply_row : (op : Op) (a b : Meaning) (st ls : List Meaning) (s s₁ : Entries KindSet) → TypedIn (entries (b ∷ a ∷ st) ls) s → step (sets was) (Apply op) s tt ≡ Ok (s₁, tt) → (u : KindSet) × (selected op (kind_in a) (kind_in b) ≡ Ok u)
    apply_row op a b st ls s s₁ t q =
        let p = bind_ok (beside tt (popped s)) _ _ q in
        let y = typed_pop (entries (b ∷ a ∷ st) ls) s p.0.0.1 t p.0.0.0 (beside_ok tt _ p.0.0 tt p.1) in
        let by : (b ≡ y.value) × (entries (a ∷ st) ls ≡ y.rest) = both_of y.is in
        let p₂ = bind_ok (beside tt (popped p.0.0.1)) _ _ p.2 in
        let x = typed_pop y.rest p.0.0.1 p₂.0.0.1 y.typed p₂.0.0.0 (beside_ok tt _ p₂.0.0 tt p₂.1) in
        let ax : (a ≡ x.value) × (entries st ls ≡ x.rest) = both_of (ap popped by.1 ∙ x.is) in
        let p₃ = bind_ok (beside tt (rows_over (selected op) p₂.0.0.0 p.0.0.0)) _ _ p₂.2 in
        let c = row_for (selected op) p₂.0.0.0 p.0.0.0 p₃.0.0 (kind_in x.value) (kind_in y.value) (beside_ok tt _ p₃.0.0 tt p₃.1) x.of y.of in
        (c.row, (λ i. selected op (kind_in (ax.0 i)) (kind_in (by.0 i))) ∙ c.is)

    assign_row : (op : Op) (i : ℕ) (b : Meaning) (st ls : List Meaning) (s s₁ : Entries KindSet) → TypedIn (entries (b ∷ st) ls) s → step (sets was) (Assign op i) s tt ≡ Ok (s₁, tt) → (u : KindSet) × (assign_selected op (kind_in (local (values l env) i (entries (b ∷ st) ls))) (kind_in b) ≡ Ok u)
    assign_row op i b st ls s s₁ t q =
        let e = entries (b ∷ st) ls in
        let p = bind_ok (beside tt (popped s)) _ _ q in
        let y = typed_pop e s p.0.0.1 t p.0.0.0 (beside_ok tt _ p.0.0 tt p.1) in
        let by : (b ≡ y.value) × (entries st ls ≡ y.rest) = both_of y.is in
        let p₂ = bind_ok (beside tt (rows_over (assign_selected op) (local (sets was) i s) p.0.0.0)) _ _ p.2 in
        let c = row_for (assign_selected op) (local (sets was) i s) p.0.0.0 p₂.0.0 (kind_in (local (values l env) i e)) (kind_in y.value) (beside_ok tt _ p₂.0.0 tt p₂.1) (local_typed l env was e s s₁ t (room 0 []) i) y.of in
        (c.row, ap (λ v. assign_selected op (kind_in (local (values l env) i e)) (kind_in v)) by.0 ∙ c.is)

    -- where the walk is after `before`, in both machines
    record Met (x : Step) (e : Entries Meaning) : Type 0 where
      at_sets : Entries KindSet
      next : Entries KindSet
      typed : TypedIn e at_sets
      does : step (sets was) x at_sets tt ≡ Ok (next, tt)

    met : (before rest : List Step) (x : Step) (e : Entries Meaning) (r r₁ : Room) → xs ≡ before ++ x ∷ rest → after (values l env) 0 before (start (values l env)) r ≡ Ok (e, r₁) → Met x e
    unfolding after
    met before rest x e r r₁ cut ev =
        let k = checked_as was xs u c in
        let z = reaches 0 before (x ∷ rest) (start (sets was)) k.end (subst (λ ys. after (sets was) 0 ys (start (sets was)) tt ≡ Ok (k.end, tt)) cut k.passes) (subst (λ ys. fresh env ys (kinds_at was ys) ≡ true) cut f) in
        let p = bind_ok (at z.place (step (sets was) x z.here tt)) _ _ z.on in
        record {
          at_sets = z.here;
          next = p.0.0;
          typed = subst (FineAt (λ e₁. TypedIn e₁ z.here)) ev (after_fine 0 before (start (values l env)) (start (sets was)) z.here r start_typed z.fresh_to z.to);
          does = at_ok z.place _ p.0 p.1;
        }

    pub rowed : (r : Room) → Rowed l env xs r
    rowed r = record {
      applied = λ before rest op a b st ls r₁ cut ev. let m = met before rest (Apply op) (entries (b ∷ a ∷ st) ls) r r₁ cut ev in apply_row op a b st ls m.at_sets m.next m.typed m.does;
      assigned = λ before rest op i b st ls r₁ cut ev. let m = met before rest (Assign op i) (entries (b ∷ st) ls) r r₁ cut ev in assign_row op i b st ls m.at_sets m.next m.typed m.does;
    }
