-- What a check assures of each step of a run: the entries are of the kinds in the sets, and a step that the check passed is refused,
-- if at all, for its values alone.
use Rattle.std.proofs.Common.{◌≡◌, ℕ, zero, suc, Bool, true, false, cond, ltb, List, [], ◌∷◌, length, get_or, set, Some, None, Ok, Err, Option, Result, sym, refl, ap, ◌∙◌, subst, inl, inr, arith}
use Rattle.std.specs.Option.{option_map, ok_or}
use Rattle.std.proofs.lemmas.Bool.{false≢true}
use Rattle.fault.specs.Outcomes.{Outcome, beside}
use Rattle.fault.specs.Refusals.{bind}
use Rattle.fault.specs.declared.Fault.{Fault}
use Rattle.fault.specs.declared.Fault.TheVariants.{Absent, Stack, BufferShort}
use Rattle.value.specs.Kinds.{single, has}
use Rattle.value.specs.Values.{Meaning, unit, kind_in, meant, text_of, fits}
use Rattle.value.specs.declared.kind.Kind.{Kind}
use Rattle.value.specs.declared.op.Op.{Op}
use Rattle.value.specs.declared.set.KindSet.{KindSet}
use Rattle.value.proofs.Laws.{every_kind, is_kind_lem}
use Rattle.routines.specs.Calls.{Given, left, right, fresh}
use Rattle.routines.specs.declared.made.Limits.{Limits}
use Rattle.operators.specs.Applied.{applied, applied_assign}
use Rattle.operators.specs.Listed.{Listed, InRow}
use Rattle.operators.specs.Rooms.{Room, brought, taken}
use Rattle.operators.proofs.Selecting.{apply_as_selected}
use Rattle.steps.specs.Walk.{Entries, entries, pushed, popped, off_top, kept, local, step}
use Rattle.steps.specs.declared.step.Step.{Step}
use Rattle.steps.specs.declared.step.Step.TheVariants.{Put, Slot, Local, Keep, Apply, Assign}
use Rattle.rule.specs.Check.{Env, kind_now, sets, kind_at, same_kind}
use Rattle.rule.specs.Run.{values, loaded}
use Rattle.rows.specs.Rows.{selected, assign_selected}
use Rattle.rule.specs.Sets.{rows_over}
use Rattle.desk.specs.Law.{FromValues}
use Rattle.desk.proofs.Uniting.{ok_err, bind_ok, Sub, row_for}

-- ---- what comes of a step

abbrev pub Fine : {W A : Type 0} → (A → Type 0) → Outcome W A Fault → Type 0
Fine P (Ok r) = P r.0
Fine P (Err r) = FromValues r.0

fine_bind : {W A B : Type 0} (P : A → Type 0) (Q : B → Type 0) (o : Outcome W A Fault) (k : A × W → Outcome W B Fault) → Fine P o → ((a : A) (w : W) → P a → Fine Q (k (a, w))) → Fine Q (bind o k)
fine_bind P Q (Ok r) k h f = f r.0 r.1 h
fine_bind P Q (Err r) k h f = h

-- ---- entries of the kinds in the sets

abbrev pub Typed : List Meaning → List KindSet → Type 0
Typed [] [] = Unit {0}
Typed [] (s ∷ ss) = ⊥
Typed (v ∷ vs) [] = ⊥
Typed (v ∷ vs) (s ∷ ss) = (has s (kind_in v) ≡ true) × Typed vs ss

pub record TypedIn (e : Entries Meaning) (s : Entries KindSet) : Type 0 where
  pub stack : Typed e.stack s.stack
  pub locals : Typed e.locals s.locals

typed_length : (vs : List Meaning) (ss : List KindSet) → Typed vs ss → length vs ≡ length ss
typed_length [] [] t = refl
typed_length [] (s ∷ ss) t = absurd t
typed_length (v ∷ vs) [] t = absurd t
typed_length (v ∷ vs) (s ∷ ss) t = ap suc (typed_length vs ss t.1)

typed_set : (vs : List Meaning) (ss : List KindSet) (i : ℕ) (v : Meaning) (s : KindSet) → has s (kind_in v) ≡ true → Typed vs ss → Typed (set vs i v) (set ss i s)
typed_set [] [] i v s h t = tt
typed_set [] (y ∷ ss) i v s h t = absurd t
typed_set (x ∷ vs) [] i v s h t = absurd t
typed_set (x ∷ vs) (y ∷ ss) zero v s h t = (h, t.1)
typed_set (x ∷ vs) (y ∷ ss) (suc i) v s h t = (t.0, typed_set vs ss i v s h t.1)

typed_at : (vs : List Meaning) (ss : List KindSet) (i : ℕ) (v : Meaning) (s : KindSet) → has s (kind_in v) ≡ true → Typed vs ss → has (get_or ss i s) (kind_in (get_or vs i v)) ≡ true
typed_at [] [] i v s h t = h
typed_at [] (y ∷ ss) i v s h t = absurd t
typed_at (x ∷ vs) [] i v s h t = absurd t
typed_at (x ∷ vs) (y ∷ ss) zero v s h t = t.0
typed_at (x ∷ vs) (y ∷ ss) (suc i) v s h t = typed_at vs ss i v s h t.1

has_own : (k : Kind) → has (single k) k ≡ true
has_own = every_kind (λ k. has (single k) k) refl

-- ---- putting on and taking off

pushed_is : {T : Type 0} (b : Bool) (e e₁ : Entries T) → cond b (Ok e) (Err Stack) ≡ Ok e₁ → (b ≡ true) × (e ≡ e₁)
pushed_is true e e₁ q = (refl, cc)
pushed_is false e e₁ q = absurd (ok_err e₁ Stack q)

pub beside_ok : {W A E : Type 0} (w : W) (o : Result A E) (a : A) (w₁ : W) → beside w o ≡ Ok (a, w₁) → o ≡ Ok a
beside_ok {W} {A} w (Ok b) a w₁ q = let p : ◌≡◌ {A = A × W} (b, w) (a, w₁) = cc in ap (λ r. Ok r.0) p
beside_ok w (Err e) a w₁ q = absurd (ok_err _ _ q)

module _ (e : Entries Meaning) (s s₁ : Entries KindSet) (t : TypedIn e s) where
  pub typed_push : (v : Meaning) (x : KindSet) (w : Room) → has x (kind_in v) ≡ true → pushed x s ≡ Ok s₁ → Fine (λ e₁. TypedIn e₁ s₁) (beside w (pushed v e))
  typed_push v x w h q =
      let p = pushed_is (ltb (length s.stack) 16) (entries (x ∷ s.stack) s.locals) s₁ q in
      let room : ltb (length e.stack) 16 ≡ true = ap (λ n. ltb n 16) (typed_length e.stack s.stack t.stack) ∙ p.0 in
      subst (λ b. Fine (λ e₁. TypedIn e₁ s₁) (beside w (cond b (Ok (entries (v ∷ e.stack) e.locals)) (Err Stack)))) (sym room)
      (subst (TypedIn (entries (v ∷ e.stack) e.locals)) p.1 (record { stack = (h, t.stack); locals = t.locals }))

  pub record Off (x : KindSet) : Type 0 where
    pub value : Meaning
    pub rest : Entries Meaning
    pub is : popped e ≡ Ok (value, rest)
    pub of : has x (kind_in value) ≡ true
    pub typed : TypedIn rest s₁

off_typed : (vs ls : List Meaning) (ss ms : List KindSet) (x : KindSet) (s₁ : Entries KindSet) (t : Typed vs ss) (m : Typed ls ms) → off_top ss ms ≡ Ok (x, s₁) → Off (entries vs ls) (entries ss ms) s₁ (record { stack = t; locals = m }) x
off_typed [] ls [] ms x s₁ t m q = absurd (ok_err _ _ q)
off_typed [] ls (y ∷ ss) ms x s₁ t m q = absurd t
off_typed (v ∷ vs) ls [] ms x s₁ t m q = absurd t
off_typed (v ∷ vs) ls (y ∷ ss) ms x s₁ t m q =
    let p : ◌≡◌ {A = KindSet × Entries KindSet} (y, entries ss ms) (x, s₁) = cc in
    record {
      value = v;
      rest = entries vs ls;
      is = refl;
      of = subst (λ o. has o.0 (kind_in v) ≡ true) p t.0;
      typed = subst (λ o. TypedIn (entries vs ls) o.1) p (record { stack = t.1; locals = m });
    }

pub typed_pop : (e : Entries Meaning) (s s₁ : Entries KindSet) (t : TypedIn e s) (x : KindSet) → popped s ≡ Ok (x, s₁) → Off e s s₁ t x
typed_pop e s s₁ t x q = off_typed e.stack e.locals s.stack s.locals x s₁ t.stack t.locals q

-- ---- what comes in

fine_room : (P : Meaning → Type 0) (b : Bool) (m : Meaning) (r r₁ : Room) → P m → Fine P (cond b (Ok (m, r₁)) (Err (BufferShort, r)))
fine_room P true m r r₁ h = h
fine_room P false m r r₁ h = inr refl

fine_brought : (P : Meaning → Type 0) (m : Meaning) (r : Room) → P m → Fine P (brought m r)
fine_brought P m r h = fine_room P (fits r.bytes r.used (text_of m)) m r _ h

-- a slot that is there now, as it was at the check, and of the same kind
pub record Same (env was : Env) (s : ℕ) : Type 0 where
  pub value : Meaning
  pub then : Meaning
  pub is : env s ≡ Some value
  pub was_is : was s ≡ Some then
  pub same : kind_in value ≡ kind_in then

same_by : (env was : Env) (s : ℕ) (o p : Option Meaning) → env s ≡ o → was s ≡ p → (n : Meaning) → p ≡ Some n → same_kind (option_map kind_in o) (option_map kind_in p) ≡ true → Same env was s
same_by env was s None None e f n q h = absurd (let z : ◌≡◌ {A = ℕ} 0 1 = cc in omega arith)
same_by env was s None (Some w) e f n q h = absurd (false≢true h)
same_by env was s (Some v) None e f n q h = absurd (false≢true h)
same_by env was s (Some v) (Some w) e f n q h = record { value = v; then = w; is = e; was_is = f; same = is_kind_lem (kind_in v) (kind_in w) h }

pub load_was : (o : Option Meaning) (x : KindSet) → ok_or (option_map single (option_map kind_in o)) Absent ≡ Ok x → (n : Meaning) × (o ≡ Some n) × (single (kind_in n) ≡ x)
load_was None x q = absurd (ok_err _ _ q)
load_was (Some n) x q = (n, refl, cc)

-- ---- operators

fine_taken : (u row : KindSet) (a b : Meaning) (r : Room) (g : Result Given Fault) → Sub row u → InRow row a b g → Fine (λ v. has u (kind_in v) ≡ true) (taken a b r g)
fine_taken u row a b r (Err f) sub i = inl i
fine_taken u row a b r (Ok left) sub i = sub (kind_in a) i.0
fine_taken u row a b r (Ok right) sub i = sub (kind_in b) i.0
fine_taken u row a b r (Ok (fresh m)) sub i = fine_brought (λ v. has u (kind_in v) ≡ true) m r (sub (kind_in m) i.0)

-- an operator of either form, by the rows that speak for it
pub fine_operator : (rows : Kind → Kind → Result KindSet Fault) (given : Result Given Fault) (s t u : KindSet) (a b : Meaning) (r : Room) → Listed (rows (kind_in a) (kind_in b)) a b given → rows_over rows s t ≡ Ok u → has s (kind_in a) ≡ true → has t (kind_in b) ≡ true → Fine (λ v. has u (kind_in v) ≡ true) (taken a b r given)
fine_operator rows given s t u a b r listed e ha hb =
    let c = row_for rows s t u (kind_in a) (kind_in b) e ha hb in
    fine_taken u c.row a b r given c.sub (subst (λ o. Listed o a b given) c.is listed)

-- ---- steps

module _ (l : Limits) (env was : Env) where
  abbrev pub After : Entries KindSet → Outcome Room (Entries Meaning) Fault → Type 0
  After s o = Fine (λ e. TypedIn e s) o

  module _ (e : Entries Meaning) (s s₁ : Entries KindSet) (t : TypedIn e s) (r : Room) where
    load_fine : (i : ℕ) → same_kind (kind_now env i) (kind_now was i) ≡ true → step (sets was) (Slot i) s tt ≡ Ok (s₁, tt) → After s₁ (step (values l env) (Slot i) e r)
    load_fine i h q =
        let p = bind_ok (beside tt (ok_or (option_map single (kind_now was i)) Absent)) _ _ q in
        let o = load_was (was i) p.0.0 (beside_ok tt _ p.0.0 tt p.1) in
        let same = same_by env was i (env i) (was i) refl refl o.0 o.1 h in
        let n : same.then ≡ o.0 = let z = sym same.was_is ∙ o.1 in cc in
        let in_set : has p.0.0 (kind_in same.value) ≡ true = (λ j. has (sym o.2 j) (kind_in same.value)) ∙ ap (λ k. has (single k) (kind_in same.value)) (sym (same.same ∙ ap kind_in n)) ∙ has_own (kind_in same.value) in
        subst (λ x. After s₁ (bind (loaded x r) (λ p. beside p.1 (pushed p.0 e)))) (sym same.is)
        (fine_bind (λ v. v ≡ same.value) (λ e₁. TypedIn e₁ s₁) (brought same.value r) _ (fine_brought (λ v. v ≡ same.value) same.value r refl)
        (λ v w is. typed_push e s s₁ t v p.0.0 w (ap (λ v. has p.0.0 (kind_in v)) is ∙ in_set) (beside_ok tt _ s₁ tt p.2)))

    pub local_typed : (i : ℕ) → has (local (sets was) i s) (kind_in (local (values l env) i e)) ≡ true
    local_typed i = typed_at e.locals s.locals i unit (single (kind_in unit)) refl t.locals

    keep_fine : (i : ℕ) → step (sets was) (Keep i) s tt ≡ Ok (s₁, tt) → After s₁ (step (values l env) (Keep i) e r)
    keep_fine i q =
        let p = bind_ok (popped s) (λ p. Ok (kept i p.0 p.1)) s₁ (beside_ok tt _ s₁ tt q) in
        let off = typed_pop e s p.0.1 t p.0.0 p.1 in
        let is : kept i p.0.0 p.0.1 ≡ s₁ = let z = p.2 in cc in
        subst (λ o. After s₁ (beside r (bind o (λ p. Ok (kept i p.0 p.1))))) (sym off.is)
        (subst (TypedIn (kept i off.value off.rest)) is (record { stack = off.typed.stack; locals = typed_set off.rest.locals p.0.1.locals i off.value p.0.0 off.of off.typed.locals }))

    apply_fine : (op : Op) → step (sets was) (Apply op) s tt ≡ Ok (s₁, tt) → After s₁ (step (values l env) (Apply op) e r)
    apply_fine op q =
        let p = bind_ok (beside tt (popped s)) _ _ q in
        let b = typed_pop e s p.0.0.1 t p.0.0.0 (beside_ok tt _ p.0.0 tt p.1) in
        let p₂ = bind_ok (beside tt (popped p.0.0.1)) _ _ p.2 in
        let a = typed_pop b.rest p.0.0.1 p₂.0.0.1 b.typed p₂.0.0.0 (beside_ok tt _ p₂.0.0 tt p₂.1) in
        let p₃ = bind_ok (beside tt (rows_over (selected op) p₂.0.0.0 p.0.0.0)) _ _ p₂.2 in
        let u = p₃.0.0 in
        subst (λ o. After s₁ (bind (beside r o) (λ b. bind (beside r (popped b.0.1)) (λ a. bind (taken a.0.0 b.0.0 r (applied l op a.0.0 b.0.0)) (λ x. beside x.1 (pushed x.0 a.0.1)))))) (sym b.is)
        (subst (λ o. After s₁ (bind (beside r o) (λ a. bind (taken a.0.0 b.value r (applied l op a.0.0 b.value)) (λ x. beside x.1 (pushed x.0 a.0.1))))) (sym a.is)
        (fine_bind (λ v. has u (kind_in v) ≡ true) (λ e₁. TypedIn e₁ s₁) (taken a.value b.value r (applied l op a.value b.value)) _
        (fine_operator (selected op) (applied l op a.value b.value) p₂.0.0.0 p.0.0.0 u a.value b.value r (apply_as_selected l op a.value b.value).0 (beside_ok tt _ u tt p₃.1) a.of b.of)
        (λ v w h. typed_push a.rest p₂.0.0.1 s₁ a.typed v u w h (beside_ok tt _ s₁ tt p₃.2))))

    assign_fine : (op : Op) (i : ℕ) → step (sets was) (Assign op i) s tt ≡ Ok (s₁, tt) → After s₁ (step (values l env) (Assign op i) e r)
    assign_fine op i q =
        let p = bind_ok (beside tt (popped s)) _ _ q in
        let b = typed_pop e s p.0.0.1 t p.0.0.0 (beside_ok tt _ p.0.0 tt p.1) in
        let p₂ = bind_ok (beside tt (rows_over (assign_selected op) (local (sets was) i s) p.0.0.0)) _ _ p.2 in
        let u = p₂.0.0 in
        let a = local (values l env) i e in
        let is : kept i u p.0.0.1 ≡ s₁ = let z : ◌≡◌ {A = Result (Entries KindSet × Unit {0}) (Fault × Unit {0})} (Ok (kept i u p.0.0.1, tt)) (Ok (s₁, tt)) = p₂.2 in let y : ◌≡◌ {A = Entries KindSet × Unit {0}} (kept i u p.0.0.1, tt) (s₁, tt) = cc in ap (λ o. o.0) y in
        subst (λ o. After s₁ (bind (beside r o) (λ b. bind (taken a b.0.0 r (applied_assign l op a b.0.0)) (λ x. Ok (kept i x.0 b.0.1, x.1))))) (sym b.is)
        (fine_bind (λ v. has u (kind_in v) ≡ true) (λ e₁. TypedIn e₁ s₁) (taken a b.value r (applied_assign l op a b.value)) _
        (fine_operator (assign_selected op) (applied_assign l op a b.value) (local (sets was) i s) p.0.0.0 u a b.value r (apply_as_selected l op a b.value).1 (beside_ok tt _ u tt p₂.1) (local_typed i) b.of)
        (λ v w h. subst (TypedIn (kept i v b.rest)) is (record { stack = b.typed.stack; locals = typed_set b.rest.locals p.0.0.1.locals i v u h b.typed.locals })))

    pub step_fine : (x : Step) → same_kind (kind_at env x) (kind_at was x) ≡ true → step (sets was) x s tt ≡ Ok (s₁, tt) → After s₁ (step (values l env) x e r)
    step_fine (Put v) h q = typed_push e s s₁ t (meant [] v) _ r (has_own (kind_in (meant [] v))) (beside_ok tt _ s₁ tt q)
    step_fine (Slot i) h q = load_fine i h q
    step_fine (Local i) h q = typed_push e s s₁ t _ _ r (local_typed i) (beside_ok tt _ s₁ tt q)
    step_fine (Keep i) h q = keep_fine i q
    step_fine (Apply op) h q = apply_fine op q
    step_fine (Assign op i) h q = assign_fine op i q
