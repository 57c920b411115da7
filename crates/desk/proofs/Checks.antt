-- What the book keeps of a passed rule is what the last accepted check found.
use Rattle.std.proofs.Common.{◌≡◌, ℕ, true, ◌⊎◌, List, [], ◌∷◌, ◌++◌, is_ok, Some, None, Ok, Err, Option, Result, sym, refl, ap, ◌∙◌, subst, inl, inr, ⊎_elim, arith}
use Rattle.std.proofs.lemmas.List.{append-nil}
use Rattle.std.proofs.lemmas.Bool.{false≢true}
use Rattle.fault.specs.Refusals.{bind}
use Rattle.fault.specs.declared.Fault.{Fault}
use Rattle.fault.specs.declared.Refusal.{Refusal}
use Rattle.value.specs.declared.set.KindSet.{KindSet}
use Rattle.shelf.specs.Slots.{Slot}
use Rattle.steps.specs.Steps.{takes}
use Rattle.steps.specs.declared.step.Step.{Step}
use Rattle.rule.specs.Check.{kinds_at}
use Rattle.rule.specs.Rules.{Kept, keeping, Sheet, sheet, has_place, adds, once_ok, checks}
use Rattle.desk.specs.Book.{Event, post, tell, count, kind, capacity, mark, clear, add, check, run, Book, limits, feed, fed, book}
use Rattle.desk.specs.Law.{heeds, NoneOf, Settles, LastCheck}
use Rattle.desk.proofs.Postings.{book_more, one_on, none_nil, none_cons, none_head, none_tail}

-- ---- one call on a rule

added_kept : (s : Sheet) (x : Step) (r : Result Unit Fault) → (once_ok r (λ _. sheet (s.steps ++ x ∷ []) s.kept) s).kept ≡ s.kept
added_kept s x (Ok u) = refl
added_kept s x (Err f) = refl

no_place : (s : Sheet) (x : Step) (k : Kept) (o : Option Kept) (t : Result Unit Fault) → o ≡ Some k → once_ok (bind t (λ _. has_place s.steps o)) (λ _. sheet (s.steps ++ x ∷ []) s.kept) s ≡ s
no_place s x k None t e = absurd (let z : ◌≡◌ {A = ℕ} 0 1 = cc in omega arith)
no_place s x k (Some j) (Ok u) e = refl
no_place s x k (Some j) (Err f) e = refl

abbrev Ends : Book → Event → Type 0
Ends b c = Settles c × (heeds b c ≡ true)

check_one : (b : Book) (r : Result KindSet Refusal) → checks (limits b) b.rule ≡ r → Ends b check ⊎ ((feed b check).rule ≡ b.rule)
check_one b (Ok u) e = inl (inl refl, ap is_ok e)
check_one b (Err f) e = inr (ap (λ r. once_ok r (λ a. sheet b.rule.steps (Some (keeping (kinds_at (limits b) b.rule.steps) a))) b.rule) e)

-- a passed rule stays as it is, but for a check or CLEAR
rule_one : (b : Book) (c : Event) (k : Kept) → b.rule.kept ≡ Some k → Ends b c ⊎ ((feed b c).rule ≡ b.rule)
rule_one b (post s m) k e = inr refl
rule_one b (tell s p) k e = inr refl
rule_one b count k e = inr refl
rule_one b (kind s) k e = inr refl
rule_one b (capacity s) k e = inr refl
rule_one b (mark s) k e = inr refl
rule_one b clear k e = inl (inr refl, refl)
rule_one b (add x) k e = inr (no_place b.rule x k b.rule.kept (takes x) e)
rule_one b check k e = check_one b (checks (limits b) b.rule) refl
rule_one b (run l) k e = inr refl

-- what a rule keeps after a call comes of a check, or it kept it before
record Checked (b : Book) (c : Event) : Type 0 where
  kinds : KindSet
  is : c ≡ check
  answer : checks (limits b) b.rule ≡ Ok kinds

record Still (b : Book) (c : Event) (k : Kept) : Type 0 where
  before : b.rule.kept ≡ Some k
  none : Settles c → heeds b c ≡ true → ⊥

no_settling : (c : Event) → (c ≡ check → ⊥) → (c ≡ clear → ⊥) → Settles c → ⊥
no_settling c p q s = ⊎_elim p q s

still : (b : Book) (c : Event) (k : Kept) → b.rule.kept ≡ Some k → (c ≡ check → ⊥) → (c ≡ clear → ⊥) → Checked b c ⊎ Still b c k
still b c k e p q = inr (record { before = e; none = λ s _. no_settling c p q s })

check_kept : (b : Book) (k : Kept) (r : Result KindSet Refusal) → checks (limits b) b.rule ≡ r → (feed b check).rule.kept ≡ Some k → Checked b check ⊎ Still b check k
check_kept b k (Ok u) e h = inl (record { kinds = u; is = refl; answer = e })
check_kept b k (Err f) e h =
    let same = ap (λ r. (once_ok r (λ a. sheet b.rule.steps (Some (keeping (kinds_at (limits b) b.rule.steps) a))) b.rule).kept) e in
    inr (record { before = sym same ∙ h; none = λ _ a. false≢true (sym (ap is_ok e) ∙ a) })

kept_one : (b : Book) (c : Event) (k : Kept) → (feed b c).rule.kept ≡ Some k → Checked b c ⊎ Still b c k
kept_one b (post s m) k e = still b (post s m) k e (λ q. let z : ◌≡◌ {A = ℕ} 0 1 = cc in omega arith) (λ q. let z : ◌≡◌ {A = ℕ} 0 1 = cc in omega arith)
kept_one b (tell s p) k e = still b (tell s p) k e (λ q. let z : ◌≡◌ {A = ℕ} 0 1 = cc in omega arith) (λ q. let z : ◌≡◌ {A = ℕ} 0 1 = cc in omega arith)
kept_one b count k e = still b count k e (λ q. let z : ◌≡◌ {A = ℕ} 0 1 = cc in omega arith) (λ q. let z : ◌≡◌ {A = ℕ} 0 1 = cc in omega arith)
kept_one b (kind s) k e = still b (kind s) k e (λ q. let z : ◌≡◌ {A = ℕ} 0 1 = cc in omega arith) (λ q. let z : ◌≡◌ {A = ℕ} 0 1 = cc in omega arith)
kept_one b (capacity s) k e = still b (capacity s) k e (λ q. let z : ◌≡◌ {A = ℕ} 0 1 = cc in omega arith) (λ q. let z : ◌≡◌ {A = ℕ} 0 1 = cc in omega arith)
kept_one b (mark s) k e = still b (mark s) k e (λ q. let z : ◌≡◌ {A = ℕ} 0 1 = cc in omega arith) (λ q. let z : ◌≡◌ {A = ℕ} 0 1 = cc in omega arith)
kept_one b clear k e = absurd (let z : ◌≡◌ {A = ℕ} 0 1 = cc in omega arith)
kept_one b (add x) k e = still b (add x) k (sym (added_kept b.rule x (adds b.rule x)) ∙ e) (λ q. let z : ◌≡◌ {A = ℕ} 0 1 = cc in omega arith) (λ q. let z : ◌≡◌ {A = ℕ} 0 1 = cc in omega arith)
kept_one b check k e = check_kept b k (checks (limits b) b.rule) refl e
kept_one b (run l) k e = still b (run l) k e (λ q. let z : ◌≡◌ {A = ℕ} 0 1 = cc in omega arith) (λ q. let z : ◌≡◌ {A = ℕ} 0 1 = cc in omega arith)

-- ---- lists of calls

module _ (first : List Slot) where
  abbrev rule : List Event → Sheet
  rule past = (book first past).rule

  rule_on : (past : List Event) (c : Event) → rule (past ++ c ∷ []) ≡ (feed (book first past) c).rule
  rule_on past c = ap (λ b. b.rule) (book_more first past c)

  rule_stays : (past more : List Event) (k : Kept) → (rule past).kept ≡ Some k → NoneOf Settles first past more → rule (past ++ more) ≡ rule past
  rule_stays past [] k e none = ap rule (append-nil past)
  rule_stays past (c ∷ more) k e none =
      let one : rule (past ++ c ∷ []) ≡ rule past = rule_on past c ∙ ⊎_elim (λ p. absurd (none_head Settles first past c more none p.0 p.1)) (λ q. q) (rule_one (book first past) c k e) in
      ap rule (sym (one_on past c more)) ∙ rule_stays (past ++ c ∷ []) more k (ap (λ r. r.kept) one ∙ e) (none_tail Settles first past c more none) ∙ one

  -- the rule right after an accepted check
  rule_checked : (past : List Event) (u : KindSet) → checks (limits (book first past)) (rule past) ≡ Ok u → rule (past ++ check ∷ []) ≡ sheet (rule past).steps (Some (keeping (kinds_at (limits (book first past)) (rule past).steps) u))
  rule_checked past u e = rule_on past check ∙ ap (λ r. once_ok r (λ a. sheet (rule past).steps (Some (keeping (kinds_at (limits (book first past)) (rule past).steps) a))) (rule past)) e

  pub check_rule : (past before : List Event) (u : KindSet) → LastCheck first past before u → rule past ≡ sheet (rule before).steps (Some (keeping (kinds_at (limits (book first before)) (rule before).steps) u))
  check_rule past before u l =
      let now = rule_checked before u l.answer in
      ap rule (l.split ∙ sym (one_on before check l.later)) ∙ rule_stays (before ++ check ∷ []) l.later _ (ap (λ r. r.kept) now) l.last ∙ now

  -- an accepted check among `more`, which come after `past`
  record CheckIn (past more : List Event) : Type 0 where
    kinds : KindSet
    before : List Event
    later : List Event
    split : more ≡ before ++ check ∷ later
    answer : checks (limits (book first (past ++ before))) (rule (past ++ before)) ≡ Ok kinds
    last : NoneOf Settles first ((past ++ before) ++ check ∷ []) later

  record KeptIn (past more : List Event) (k : Kept) : Type 0 where
    is : (rule past).kept ≡ Some k
    none : NoneOf Settles first past more

  check_on : (past : List Event) (c : Event) (more : List Event) → CheckIn (past ++ c ∷ []) more → CheckIn past (c ∷ more)
  check_on past c more p = record {
    kinds = p.kinds;
    before = c ∷ p.before;
    later = p.later;
    split = ap (λ l. c ∷ l) p.split;
    answer = subst (λ xs. checks (limits (book first xs)) (rule xs) ≡ Ok p.kinds) (one_on past c p.before) p.answer;
    last = subst (λ xs. NoneOf Settles first (xs ++ check ∷ []) p.later) (one_on past c p.before) p.last;
  }

  kept_on : (past : List Event) (c : Event) (more : List Event) (k : Kept) → KeptIn (past ++ c ∷ []) more k → CheckIn past (c ∷ more) ⊎ KeptIn past (c ∷ more) k
  kept_on past c more k h =
      ⊎_elim
      (λ p. inl (record {
        kinds = p.kinds;
        before = [];
        later = more;
        split = ap (λ d. d ∷ more) p.is;
        answer = subst (λ xs. checks (limits (book first xs)) (rule xs) ≡ Ok p.kinds) (sym (append-nil past)) p.answer;
        last = subst (λ xs. NoneOf Settles first (xs ++ check ∷ []) more) (sym (append-nil past)) (subst (λ d. NoneOf Settles first (past ++ d ∷ []) more) p.is h.none);
      }))
      (λ n. inr (record { is = n.before; none = none_cons Settles first past c more n.none h.none }))
      (kept_one (book first past) c k (sym (ap (λ r. r.kept) (rule_on past c)) ∙ h.is))

  kept_held : (past more : List Event) (k : Kept) → (rule (past ++ more)).kept ≡ Some k → CheckIn past more ⊎ KeptIn past more k
  kept_held past [] k e = inr (record { is = ap (λ xs. (rule xs).kept) (sym (append-nil past)) ∙ e; none = none_nil Settles first past })
  kept_held past (c ∷ more) k e =
      ⊎_elim
      (λ p. inl (check_on past c more p))
      (λ h. kept_on past c more k h)
      (kept_held (past ++ c ∷ []) more k (ap (λ xs. (rule xs).kept) (one_on past c more) ∙ e))

  -- a rule that keeps something was passed by a check
  pub passed_by : (past : List Event) (k : Kept) → (rule past).kept ≡ Some k → (before : List Event) × (u : KindSet) × LastCheck first past before u
  unfolding fed
  passed_by past k e =
      ⊎_elim
      (λ p. (p.before, p.kinds, record { later = p.later; split = p.split; answer = p.answer; last = p.last }))
      (λ h. absurd (let z = h.is in let y : ◌≡◌ {A = ℕ} 0 1 = cc in omega arith))
      (kept_held [] past k e)
