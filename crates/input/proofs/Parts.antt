-- Parts of an input that come one after another are fed as one, and the line that has begun at the end is the last.
use Rattle.std.proofs.Common.{◌≡◌, ℕ, zero, suc, ◌+◌, ◌≤◌, not, nat_eq, Bool, true, false, cond, eqb, leb, List, [], ◌∷◌, ◌++◌, length, Some, None, Option, sym, refl, ap, ◌∙◌, subst, append_assoc, append-nil, arith}
use Rattle.std.proofs.Math.Dec.{leb-zero}
use Rattle.std.proofs.lemmas.Bool.{cond_both, both_ways, ne_eqb, lt-leb, leb-false}
use Rattle.std.proofs.lemmas.List.{length-append}
use Rattle.std.specs.Option.{option_eq}
use Rattle.format.specs.Fields.{fields, onto}
use Rattle.format.proofs.Laws.{some_fields}
use Rattle.input.specs.Lines.{begun, longer, ended, behind, last_line, lines, Answered, Fed}

longer_twice : (room : ℕ) (b : Option (List ℕ)) (f g : List ℕ) → longer room (longer room b f) g ≡ longer room b (f ++ g)
longer_twice room None f g = refl
longer_twice room (Some bs) f g =
    let n : length (bs ++ f) + length g ≡ length bs + length (f ++ g) = omega (arith, length-append bs f, length-append f g) in
    cond_both (leb (length bs + length f) room) (Some (bs ++ f)) None (λ o. longer room o g ≡ longer room (Some bs) (f ++ g))
    (λ _ i. cond (leb (n i) room) (Some (append_assoc bs f g i)) None)
    (λ no. let less = leb-false _ _ no in sym (ap (λ t. cond t (Some (bs ++ (f ++ g))) None) (lt-leb (length bs + length (f ++ g)) room (omega (arith, less, length-append f g)))))

none_yet : (room : ℕ) → longer room (Some []) [] ≡ Some []
none_yet room = ap (λ t. cond t (Some []) None) (leb-zero room)

-- the lines that end, and what has begun behind them
abbrev Scan : Type 0
Scan = List (Option (List ℕ)) × Option (List ℕ)

abbrev scan : ℕ → Option (List ℕ) → List (List ℕ) → Scan
scan room b fs = (ended room b fs, behind room b fs)

abbrev on : List (Option (List ℕ)) → Scan → Scan
on ls s = (ls ++ s.0, s.1)

scan_front : (room : ℕ) (b : Option (List ℕ)) (p f : List ℕ) (fs : List (List ℕ)) → scan room b ((p ++ f) ∷ fs) ≡ scan room (longer room b p) (f ∷ fs)
unfolding ended behind
scan_front room b p f [] = ap (λ l. ([], l)) (sym (longer_twice room b p f))
scan_front room b p f (g ∷ fs) = ap (λ l. (l ∷ ended room (Some []) (g ∷ fs), behind room (Some []) (g ∷ fs))) (sym (longer_twice room b p f))

scan_feed : (room : ℕ) (b : Option (List ℕ)) (f g : List ℕ) (fs : List (List ℕ)) → scan room b (f ∷ g ∷ fs) ≡ on (longer room b f ∷ []) (scan room (Some []) (g ∷ fs))
unfolding ended behind
scan_feed room b f g fs = refl

module _ (room : ℕ) where
  with_feed : (b : Option (List ℕ)) (c : ℕ) (bs : List ℕ) → eqb c 10 ≡ true → scan room b (fields 10 (c ∷ bs)) ≡ on (longer room b [] ∷ []) (scan room (Some []) (fields 10 bs))
  with_feed b c bs e =
      let s = some_fields 10 bs in
      ap (λ t. scan room b (cond t ([] ∷ fields 10 bs) (onto c (fields 10 bs)))) e ∙ ap (λ fs. scan room b ([] ∷ fs)) s.are ∙ scan_feed room b [] s.first s.more
      ∙ ap (λ fs. on (longer room b [] ∷ []) (scan room (Some []) fs)) (sym s.are)

  with_other : (b : Option (List ℕ)) (c : ℕ) (bs : List ℕ) → eqb c 10 ≡ false → scan room b (fields 10 (c ∷ bs)) ≡ scan room (longer room b (c ∷ [])) (fields 10 bs)
  with_other b c bs e =
      let s = some_fields 10 bs in
      ap (λ t. scan room b (cond t ([] ∷ fields 10 bs) (onto c (fields 10 bs)))) e ∙ ap (λ fs. scan room b (onto c fs)) s.are
      ∙ scan_front room b (c ∷ []) s.first s.more ∙ ap (scan room (longer room b (c ∷ []))) (sym s.are)

  with_more : (xs ys : List ℕ) (b : Option (List ℕ)) → scan room b (fields 10 (xs ++ ys)) ≡ on (ended room b (fields 10 xs)) (scan room (behind room b (fields 10 xs)) (fields 10 ys))
  unfolding ended behind
  with_more [] ys b =
      let s = some_fields 10 ys in
      ap (scan room b) s.are ∙ scan_front room b [] s.first s.more ∙ ap (scan room (longer room b [])) (sym s.are)
  with_more (c ∷ xs) ys b =
      let P : Bool → Type 0 = λ t. eqb c 10 ≡ t → scan room b (fields 10 (c ∷ (xs ++ ys))) ≡ on (ended room b (fields 10 (c ∷ xs))) (scan room (behind room b (fields 10 (c ∷ xs))) (fields 10 ys)) in
      let back = λ (s : Scan). on s.0 (scan room s.1 (fields 10 ys)) in
      (elim (eqb c 10) as P [
        | true ↦ λ e. with_feed b c (xs ++ ys) e ∙ ap (on (longer room b [] ∷ [])) (with_more xs ys (Some [])) ∙ ap back (sym (with_feed b c xs e))
        | false ↦ λ e. with_other b c (xs ++ ys) e ∙ with_more xs ys (longer room b (c ∷ [])) ∙ ap back (sym (with_other b c xs e))
      ]) refl

-- a line that has begun and has bytes is one at the end of the input
abbrev pub unended : Option (List ℕ) → List (Option (List ℕ))
unended None = None ∷ []
unended (Some []) = []
unended (Some (c ∷ cs)) = Some (c ∷ cs) ∷ []

-- the line that has begun, by how many of the buffer's bytes it has
pub has_begun : (buffer : List ℕ) (len : Option ℕ) → ((n : ℕ) → len ≡ Some n → n ≤ length buffer) → not (option_eq nat_eq len (Some 0)) ≡ true → unended (begun buffer len) ≡ begun buffer len ∷ []
has_begun buffer None inside e = refl
has_begun buffer (Some zero) inside e = absurd (both_ways false refl e)
has_begun [] (Some (suc n)) inside e = absurd (let le = inside (suc n) refl in omega arith)
has_begun (c ∷ cs) (Some (suc n)) inside e = refl

pub none_begun : (buffer : List ℕ) (len : Option ℕ) → not (option_eq nat_eq len (Some 0)) ≡ false → begun buffer len ≡ Some []
none_begun buffer None e = absurd (both_ways true e refl)
none_begun buffer (Some zero) e = refl
none_begun buffer (Some (suc n)) e = absurd (both_ways (not (eqb (suc n) 0)) e (ap not (ne_eqb (suc n) 0 (λ z. absurd (omega (arith, z))))))

last_unended : (room : ℕ) (f : List ℕ) → last_line room f ≡ unended (longer room (Some []) f)
last_unended room [] = ap unended (sym (none_yet room))
last_unended room (c ∷ cs) = cond_both (leb (0 + length (c ∷ cs)) room) (Some (c ∷ cs)) None (λ o. o ∷ [] ≡ unended o) (λ _. refl) (λ _. refl)

with_last : (room : ℕ) (fs : List (List ℕ)) → lines room fs ≡ ended room (Some []) fs ++ unended (behind room (Some []) fs)
unfolding ended behind lines
with_last room [] = refl
with_last room (f ∷ []) = last_unended room f
with_last room (f ∷ g ∷ fs) = ap (λ ls. longer room (Some []) f ∷ ls) (with_last room (g ∷ fs))

module _ {A : Type 0} (answers : A → Option (List ℕ) → A → List ℕ → Type 0) where
  answered_then : (ls more : List (Option (List ℕ))) (a m t : A) (v w : List ℕ) → Answered answers a ls m v → Answered answers m more t w → Answered answers a (ls ++ more) t (v ++ w)
  answered_then [] more a m t v w p q = rw (p.1, ← p.0) q
  answered_then (l ∷ ls) more a m t v w p q =
      let (mid, first, rest, one, all, is) = p in
      (mid, first, rest ++ w, one, answered_then ls more mid m t rest w all q, ap (λ x. x ++ w) is ∙ append_assoc first rest w)

  -- what has been read of the input, how its lines are answered, and what has begun
  pub record Gone (room : ℕ) (a₀ : A) (read : List ℕ) (a : A) (b : Option (List ℕ)) (written : List ℕ) : Type 0 where
    pub answered : Answered answers a₀ (ended room (Some []) (fields 10 read)) a written
    pub rest : b ≡ behind room (Some []) (fields 10 read)

  pub nothing_gone : (room : ℕ) (a : A) (b : Option (List ℕ)) → b ≡ Some [] → Gone room a [] a b []
  unfolding ended behind
  nothing_gone room a b e = record { answered = (refl, refl); rest = e ∙ sym (none_yet room) }

  pub fed_more : (room : ℕ) (a₀ : A) (read part : List ℕ) (a t : A) (b b' : Option (List ℕ)) (v w : List ℕ) → Gone room a₀ read a b v → Fed answers room a b part t b' w → Gone room a₀ (read ++ part) t b' (v ++ w)
  fed_more room a₀ read part a t b b' v w gone fed =
      let both = with_more room read part (Some []) in
      let now = rw gone.rest at fed.lines in
      record {
        answered = subst (λ ls. Answered answers a₀ ls t (v ++ w)) (sym (ap (λ s. s.0) both)) (answered_then (ended room (Some []) (fields 10 read)) _ a₀ a t v w gone.answered now);
        rest = fed.rest ∙ ap (λ x. behind room x (fields 10 part)) gone.rest ∙ sym (ap (λ s. s.1) both);
      }

  -- the input ends
  pub last_answered : (room : ℕ) (a₀ : A) (read : List ℕ) (a t : A) (b : Option (List ℕ)) (v w : List ℕ) → Gone room a₀ read a b v → unended b ≡ b ∷ [] → answers a b t w → Answered answers a₀ (lines room (fields 10 read)) t (v ++ w)
  last_answered room a₀ read a t b v w gone e one =
      let ls = ended room (Some []) (fields 10 read) in
      let is : lines room (fields 10 read) ≡ ls ++ (b ∷ []) = with_last room (fields 10 read) ∙ ap (λ x. ls ++ unended x) (sym gone.rest) ∙ ap (λ x. ls ++ x) e in
      subst (λ x. Answered answers a₀ x t (v ++ w)) (sym is) (answered_then ls (b ∷ []) a₀ a t v w gone.answered (t, w, [], one, (refl, refl), sym (append-nil w)))

  pub none_answered : (room : ℕ) (a₀ : A) (read : List ℕ) (a : A) (b : Option (List ℕ)) (v : List ℕ) → Gone room a₀ read a b v → b ≡ Some [] → Answered answers a₀ (lines room (fields 10 read)) a v
  none_answered room a₀ read a b v gone e =
      let ls = ended room (Some []) (fields 10 read) in
      let is : lines room (fields 10 read) ≡ ls = with_last room (fields 10 read) ∙ ap (λ x. ls ++ unended x) (sym gone.rest ∙ e) ∙ append-nil ls in
      subst (λ x. Answered answers a₀ x a v) (sym is) gone.answered
