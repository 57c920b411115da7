-- The values in the book are the last accepted postings.
use Rattle.std.proofs.Common.{◌≡◌, ℕ, zero, suc, Bool, true, false, cond, eqb, leb, ◌⊎◌, List, [], ◌∷◌, ◌++◌, set, is_ok, Some, None, Ok, Option, sym, refl, ap, ◌∙◌, subst, inl, inr, ⊎_elim, append_assoc, arith}
use Rattle.std.specs.Option.{option_map}
use Rattle.std.specs.List.{slice_get}
use Rattle.std.proofs.lemmas.List.{append-nil}
use Rattle.std.proofs.lemmas.Bool.{both_ways, eqb-true, eqb-false}
use Rattle.fault.specs.declared.Fault.TheVariants.{Malformed, OverCapacity, Sealed as IsSealed}
use Rattle.value.specs.Values.{Meaning, well_formed, text_of, size}
use Rattle.shelf.specs.Slots.{Slot, slot, holding}
use Rattle.shelf.specs.Calls.{Posted, refused, is_open, post_at, posted}
use Rattle.desk.specs.Book.{Event, post, tell, count, kind, capacity, mark, clear, add, check, run, Book, made, limits, feed, fed, book}
use Rattle.desk.specs.Law.{heeds, Accepted, NoneOf, PostTo, InForce}

-- ---- the book after more calls

fed_append : (b : Book) (xs ys : List Event) → fed b (xs ++ ys) ≡ fed (fed b xs) ys
unfolding fed
fed_append b [] ys = refl
fed_append b (x ∷ xs) ys = fed_append (feed b x) xs ys

pub book_more : (first : List Slot) (past : List Event) (c : Event) → book first (past ++ c ∷ []) ≡ feed (book first past) c
unfolding fed
book_more first past c = fed_append (made first) past (c ∷ [])

-- one more call before the others
pub one_on : (past : List Event) (c : Event) (more : List Event) → (past ++ c ∷ []) ++ more ≡ past ++ c ∷ more
one_on past c more = append_assoc past (c ∷ []) more

-- ---- no call

pub nothing : (before rest : List Event) (c : Event) → [] ≡ before ++ c ∷ rest → ⊥
nothing [] rest c e = let z : ◌≡◌ {A = ℕ} 0 1 = cc in omega arith
nothing (x ∷ before) rest c e = let z : ◌≡◌ {A = ℕ} 0 1 = cc in omega arith

module _ (P : Event → Type 0) (first : List Slot) where
  pub none_nil : (past : List Event) → NoneOf P first past []
  none_nil past before rest c e p a = nothing before rest c e

  pub none_cons : (past : List Event) (c : Event) (more : List Event) → (P c → Accepted first past c → ⊥) → NoneOf P first (past ++ c ∷ []) more → NoneOf P first past (c ∷ more)
  none_cons past c more h none [] rest d e p a =
      let q : c ≡ d = cc in
      h (subst P (sym q) p) (subst (λ x. Accepted first past x) (sym q) (subst (λ xs. Accepted first xs d) (append-nil past) a))
  none_cons past c more h none (x ∷ before) rest d e p a =
      let q : c ≡ x = cc in
      let r : more ≡ before ++ d ∷ rest = cc in
      none before rest d r p (subst (λ xs. Accepted first xs d) (sym (ap (λ y. (past ++ y ∷ []) ++ before) q ∙ one_on past x before)) a)

  pub none_head : (past : List Event) (c : Event) (more : List Event) → NoneOf P first past (c ∷ more) → P c → Accepted first past c → ⊥
  none_head past c more none p a = none [] more c refl p (subst (λ xs. Accepted first xs c) (sym (append-nil past)) a)

  pub none_tail : (past : List Event) (c : Event) (more : List Event) → NoneOf P first past (c ∷ more) → NoneOf P first (past ++ c ∷ []) more
  none_tail past c more none before rest d e p a = none (c ∷ before) rest d (ap (λ l. c ∷ l) e) p (subst (λ xs. Accepted first xs d) (one_on past c before) a)

-- ---- what a posting does to the slots

nth_set : (ss : List Slot) (t : ℕ) (x y : Slot) → slice_get ss t ≡ Some y → slice_get (set ss t x) t ≡ Some x
nth_set [] t x y e = absurd (let z : ◌≡◌ {A = ℕ} 0 1 = cc in omega arith)
nth_set (s ∷ ss) zero x y e = refl
nth_set (s ∷ ss) (suc t) x y e = nth_set ss t x y e

nth_other : (ss : List Slot) (t s : ℕ) (x : Slot) → (t ≡ s → ⊥) → slice_get (set ss t x) s ≡ slice_get ss s
nth_other [] t s x ne = refl
nth_other (y ∷ ss) zero zero x ne = absurd (ne refl)
nth_other (y ∷ ss) zero (suc s) x ne = refl
nth_other (y ∷ ss) (suc t) zero x ne = refl
nth_other (y ∷ ss) (suc t) (suc s) x ne = nth_other ss t s x (λ e. ne (ap suc e))

-- either it is accepted, and that slot has the value, or it leaves the slots
pub record Took (ss : List Slot) (t : ℕ) (m : Meaning) (p : Posted) : Type 0 where
  pub ok : is_ok p.answer ≡ true
  pub old : Slot
  pub there : slice_get ss t ≡ Some old
  pub now : Slot
  pub has : now.holds ≡ m
  pub after : p.after ≡ set ss t now

abbrev Fate : List Slot → ℕ → Meaning → Posted → Type 0
Fate ss t m p = Took ss t m p ⊎ ((is_ok p.answer ≡ false) × (p.after ≡ ss))

fate_room : (ss : List Slot) (t : ℕ) (m : Meaning) (s : Slot) → slice_get ss t ≡ Some s → (o r : Bool) → Fate ss t m (cond o (cond r (record { answer = Ok tt; after = set ss t (slot m s.capacity s.mark) }) (refused ss OverCapacity)) (refused ss IsSealed))
fate_room ss t m s e true true = inl (record { ok = refl; old = s; there = e; now = slot m s.capacity s.mark; has = refl; after = refl })
fate_room ss t m s e true false = inr (refl, refl)
fate_room ss t m s e false r = inr (refl, refl)

fate_at : (ss : List Slot) (t : ℕ) (m : Meaning) (o : Option Slot) → slice_get ss t ≡ o → Fate ss t m (post_at ss t m o)
fate_at ss t m None e = inr (refl, refl)
fate_at ss t m (Some s) e = fate_room ss t m s e (is_open s.mark) (leb (size (text_of m)) s.capacity)

fate_by : (ss : List Slot) (t : ℕ) (m : Meaning) (b : Bool) → Fate ss t m (cond b (post_at ss t m (slice_get ss t)) (refused ss Malformed))
fate_by ss t m true = fate_at ss t m (slice_get ss t) refl
fate_by ss t m false = inr (refl, refl)

fate : (ss : List Slot) (t : ℕ) (m : Meaning) → Fate ss t m (posted ss t m)
fate ss t m = fate_by ss t m (well_formed m)

-- ---- one call: it is an accepted posting to the slot, or leaves its value

pub record Posts (b : Book) (c : Event) (s : ℕ) : Type 0 where
  pub value : Meaning
  pub is : c ≡ post s value
  pub accepted : heeds b c ≡ true
  pub now : limits (feed b c) s ≡ Some value

pub record Leaves (b : Book) (c : Event) (s : ℕ) : Type 0 where
  pub same : limits (feed b c) s ≡ limits b s
  pub none : PostTo s c → heeds b c ≡ true → ⊥

leaves_other : (b : Book) (c : Event) (s : ℕ) → limits (feed b c) s ≡ limits b s → ((w : Meaning) → c ≡ post s w → ⊥) → Posts b c s ⊎ Leaves b c s
leaves_other b c s e ne = inr (record { same = e; none = λ p _. ne p.0 p.1 })

post_one : (b : Book) (t : ℕ) (m : Meaning) (s : ℕ) (same : Bool) → eqb t s ≡ same → Fate b.slots t m (posted b.slots t m) → Posts b (post t m) s ⊎ Leaves b (post t m) s
post_one b t m s true q f =
    let ts = eqb-true t s q in
    ⊎_elim
    (λ k.
    let acc : heeds b (post t m) ≡ true = k.ok in
    let here : limits (feed b (post t m)) t ≡ Some m = ap (λ ss. option_map (λ x. x.holds) (slice_get ss t)) k.after ∙ ap (option_map (λ x. x.holds)) (nth_set b.slots t k.now k.old k.there) ∙ ap Some k.has in
    inl (record { value = m; is = ap (λ n. post n m) ts; accepted = acc; now = ap (limits (feed b (post t m))) (sym ts) ∙ here }))
    (λ r. inr (record { same = ap (λ ss. holding ss s) r.1; none = λ _ a. both_ways _ r.0 a }))
    f
post_one b t m s false q f =
    let ne = eqb-false t s q in
    ⊎_elim
    (λ k. leaves_other b (post t m) s (ap (λ ss. option_map (λ x. x.holds) (slice_get ss s)) k.after ∙ ap (option_map (λ x. x.holds)) (nth_other b.slots t s k.now ne)) (λ w e. ne (let z : t ≡ s = cc in z)))
    (λ r. inr (record { same = ap (λ ss. holding ss s) r.1; none = λ _ a. both_ways _ r.0 a }))
    f

pub one_call : (b : Book) (c : Event) (s : ℕ) → Posts b c s ⊎ Leaves b c s
one_call b (post t m) s = post_one b t m s (eqb t s) refl (fate b.slots t m)
one_call b (tell t p) s = leaves_other b (tell t p) s refl (λ w e. let z : ◌≡◌ {A = ℕ} 0 1 = cc in omega arith)
one_call b count s = leaves_other b count s refl (λ w e. let z : ◌≡◌ {A = ℕ} 0 1 = cc in omega arith)
one_call b (kind t) s = leaves_other b (kind t) s refl (λ w e. let z : ◌≡◌ {A = ℕ} 0 1 = cc in omega arith)
one_call b (capacity t) s = leaves_other b (capacity t) s refl (λ w e. let z : ◌≡◌ {A = ℕ} 0 1 = cc in omega arith)
one_call b (mark t) s = leaves_other b (mark t) s refl (λ w e. let z : ◌≡◌ {A = ℕ} 0 1 = cc in omega arith)
one_call b clear s = leaves_other b clear s refl (λ w e. let z : ◌≡◌ {A = ℕ} 0 1 = cc in omega arith)
one_call b (add x) s = leaves_other b (add x) s refl (λ w e. let z : ◌≡◌ {A = ℕ} 0 1 = cc in omega arith)
one_call b check s = leaves_other b check s refl (λ w e. let z : ◌≡◌ {A = ℕ} 0 1 = cc in omega arith)
one_call b (run l) s = leaves_other b (run l) s refl (λ w e. let z : ◌≡◌ {A = ℕ} 0 1 = cc in omega arith)

-- ---- lists of calls

module _ (first : List Slot) (s : ℕ) where
  abbrev limit : List Event → Option Meaning
  limit past = limits (book first past) s

  limit_on : (past : List Event) (c : Event) → limit (past ++ c ∷ []) ≡ limits (feed (book first past) c) s
  limit_on past c = ap (λ b. limits b s) (book_more first past c)

  -- an accepted posting among `more`, which come after `past`
  record PostingIn (past more : List Event) (m : Meaning) : Type 0 where
    before : List Event
    later : List Event
    split : more ≡ before ++ post s m ∷ later
    accepted : Accepted first (past ++ before) (post s m)
    last : NoneOf (PostTo s) first ((past ++ before) ++ post s m ∷ []) later

  record Kept (past more : List Event) (m : Meaning) : Type 0 where
    is : limit past ≡ Some m
    none : NoneOf (PostTo s) first past more

  posting_on : (past : List Event) (c : Event) (more : List Event) (m : Meaning) → PostingIn (past ++ c ∷ []) more m → PostingIn past (c ∷ more) m
  posting_on past c more m p = record {
    before = c ∷ p.before;
    later = p.later;
    split = ap (λ l. c ∷ l) p.split;
    accepted = subst (λ xs. Accepted first xs (post s m)) (one_on past c p.before) p.accepted;
    last = subst (λ xs. NoneOf (PostTo s) first (xs ++ post s m ∷ []) p.later) (one_on past c p.before) p.last;
  }

  kept_on : (past : List Event) (c : Event) (more : List Event) (m : Meaning) → Kept (past ++ c ∷ []) more m → PostingIn past (c ∷ more) m ⊎ Kept past (c ∷ more) m
  kept_on past c more m k =
      ⊎_elim
      (λ p.
      let v : p.value ≡ m = let z = sym p.now ∙ sym (limit_on past c) ∙ k.is in cc in
      let q : c ≡ post s m = p.is ∙ ap (post s) v in
      inl (record {
        before = [];
        later = more;
        split = ap (λ d. d ∷ more) q;
        accepted = subst (λ xs. Accepted first xs (post s m)) (sym (append-nil past)) (subst (Accepted first past) q p.accepted);
        last = subst (λ xs. NoneOf (PostTo s) first (xs ++ post s m ∷ []) more) (sym (append-nil past)) (subst (λ d. NoneOf (PostTo s) first (past ++ d ∷ []) more) q k.none);
      }))
      (λ n. inr (record { is = sym n.same ∙ sym (limit_on past c) ∙ k.is; none = none_cons (PostTo s) first past c more n.none k.none }))
      (one_call (book first past) c s)

  held : (past more : List Event) (m : Meaning) → limit (past ++ more) ≡ Some m → PostingIn past more m ⊎ Kept past more m
  held past [] m e = inr (record { is = ap limit (sym (append-nil past)) ∙ e; none = none_nil (PostTo s) first past })
  held past (c ∷ more) m e =
      ⊎_elim
      (λ p. inl (posting_on past c more m p))
      (λ k. kept_on past c more m k)
      (held (past ++ c ∷ []) more m (ap limit (one_on past c more) ∙ e))

  -- calls without an accepted posting to the slot leave its value
  stays : (past more : List Event) → NoneOf (PostTo s) first past more → limit (past ++ more) ≡ limit past
  stays past [] none = ap limit (append-nil past)
  stays past (c ∷ more) none =
      ap limit (sym (one_on past c more))
      ∙ stays (past ++ c ∷ []) more (none_tail (PostTo s) first past c more none)
      ∙ limit_on past c
      ∙ ⊎_elim (λ p. absurd (none_head (PostTo s) first past c more none (p.value, p.is) p.accepted)) (λ n. n.same) (one_call (book first past) c s)

  gone : (past more : List Event) → limit (past ++ more) ≡ None → limit past ≡ None
  gone past [] e = ap limit (sym (append-nil past)) ∙ e
  gone past (c ∷ more) e =
      let f = sym (limit_on past c) ∙ gone (past ++ c ∷ []) more (ap limit (one_on past c more) ∙ e) in
      ⊎_elim (λ p. absurd (let z = sym p.now ∙ f in let y : ◌≡◌ {A = ℕ} 0 1 = cc in omega arith)) (λ n. sym n.same ∙ f) (one_call (book first past) c s)

  posts_now : (past : List Event) (m : Meaning) → Accepted first past (post s m) → limit (past ++ post s m ∷ []) ≡ Some m
  posts_now past m a =
      limit_on past (post s m)
      ∙ ⊎_elim
      (λ p. let v : p.value ≡ m = let z = p.is in cc in p.now ∙ ap Some v)
      (λ n. absurd (n.none (m, refl) a))
      (one_call (book first past) (post s m) s)

pub in_force : (first : List Slot) (past : List Event) → InForce first past (limits (book first past))
unfolding fed
in_force first past = record {
  each = λ s m e.
      ⊎_elim
      (λ p. inl (record { before = p.before; later = p.later; split = p.split; accepted = p.accepted; last = p.last }))
      (λ k. inr (record { is = k.is; last = k.none }))
      (held first s [] past m e);
  only = λ s m l.
      ⊎_elim
      (λ p.
      ap (limit first s) (p.split ∙ sym (one_on p.before (post s m) p.later))
      ∙ stays first s (p.before ++ post s m ∷ []) p.later p.last
      ∙ posts_now first s p.before m p.accepted)
      (λ u. stays first s [] past u.last ∙ u.is)
      l;
  absent = λ s e. gone first s [] past e;
}
