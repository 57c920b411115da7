-- An operator alone, in the first 65,536 bytes of a buffer, and the new value that it leaves there.
use Rattle.std.proofs.Common.{◌≡◌, ℕ, min, true, false, cond, ◌&&◌, List, ◌++◌, length, take, drop, Ok, Err, Result, ◌≤◌, sym, refl, ap, ◌∙◌, subst, arith, length-append, length-take, take_at}
use Rattle.std.proofs.lemmas.List.{take-append-drop, take_all}
use Rattle.std.proofs.lemmas.Bool.{and_parts}
use Rattle.fault.specs.Refusals.{bind}
use Rattle.fault.specs.declared.Fault.{Fault}
use Rattle.fault.specs.declared.Fault.TheVariants.{Malformed}
use Rattle.text.proofs.Laws.{take_first, drop_first}
use Rattle.text.specs.declared.span.Span.{Span}
use Rattle.value.specs.Values.{Meaning, meant, well_formed, text_in, told_at, Inside}
use Rattle.value.specs.declared.set.KindSet.{KindSet}
use Rattle.value.specs.declared.value.Value.{Value}
use Rattle.value.proofs.Told.{told_inside}
use Rattle.routines.specs.Calls.{Given, left, right, fresh}
use Rattle.routines.specs.Outcomes.{settled, Settles}
use Rattle.routines.specs.declared.made.Made.{Made}
use Rattle.routines.specs.declared.made.Made.TheVariants.{New}
use Rattle.operators.proofs.Roomed.{inside_more, meant_as, told_gives}
use Rattle.operators.specs.Applied.{tried, alone, Alone, NewWithin, NewFormed}
use Rattle.operators.specs.Listed.{spelled, Listed}

unbound : (r : Result (Value Span) Fault) (v : Value Span) → bind r (λ x. Ok (New x)) ≡ Ok (New v) → r ≡ Ok v
unbound (Ok x) v q = let same : x ≡ v = cc in ap Ok same
unbound (Err f) v q = absurd (let z : ◌≡◌ {A = ℕ} 0 1 = cc in omega arith)

settled_inside : (work : List ℕ) (given : Result Given Fault) (v : Value Span) → (settled work 0 given).answer ≡ Ok (New v) → Inside (length (settled work 0 given).bytes) (text_in v)
settled_inside work (Err f) v q = absurd (let z : ◌≡◌ {A = ℕ} 0 1 = cc in omega arith)
settled_inside work (Ok left) v q = absurd (let z : ◌≡◌ {A = ℕ} 0 1 = cc in omega arith)
settled_inside work (Ok right) v q = absurd (let z : ◌≡◌ {A = ℕ} 0 1 = cc in omega arith)
settled_inside work (Ok (fresh m)) v q = told_inside work 0 m v (unbound (told_at work 0 m).answer v q)

module _ (buffer : List ℕ) (a b : Meaning) (given : Result Given Fault) where
  pub malformed : false ≡ (well_formed a && well_formed b) → Alone buffer (tried a b given) (Err Malformed) buffer
  malformed e =
      let w = ap (λ t. cond t given (Err Malformed)) e in
      record {
        answer = ap (λ g. (alone buffer g).answer) w;
        bytes = sym (take-append-drop 65536 buffer) ∙ ap (λ g. (alone buffer g).bytes) w;
      }

  pub settled_alone : (n : ℕ) (r : Result Made Fault) (after : List ℕ) (fill : ℕ) → n ≡ min (length buffer) 65536 → true ≡ (well_formed a && well_formed b) → Settles (take n buffer) 0 given r after fill → Alone buffer (tried a b given) r (after ++ drop n buffer)
  settled_alone n r after fill e p s =
      let t = take_first buffer n 65536 e in
      let w = ap (λ t. cond t given (Err Malformed)) p in
      record {
        answer = s.answer ∙ ap (λ d. (settled d 0 given).answer) t ∙ ap (λ g. (alone buffer g).answer) w;
        bytes = ap (λ z. z ++ drop n buffer) (s.bytes ∙ ap (λ d. (settled d 0 given).bytes) t) ∙ ap (λ z. (settled (take 65536 buffer) 0 given).bytes ++ z) (drop_first buffer n 65536 e) ∙ ap (λ g. (alone buffer g).bytes) w;
      }

pub settled_within : (buffer : List ℕ) (given : Result Given Fault) (n : ℕ) (r : Result Made Fault) (after : List ℕ) (fill : ℕ) → Settles (take n buffer) 0 given r after fill → NewWithin r (after ++ drop n buffer)
settled_within buffer given n r after fill s v q =
    inside_more (length after) (length (after ++ drop n buffer)) (text_in v) (omega (arith, length-append after (drop n buffer)))
    (subst (λ z. Inside (length z) (text_in v)) (sym s.bytes) (settled_inside (take n buffer) given v (sym s.answer ∙ q)))

-- ---- a new value is well formed

listed_spelled : (row : Result KindSet Fault) (a b : Meaning) (g : Result Given Fault) (m : Meaning) → Listed row a b g → g ≡ Ok (fresh m) → well_formed a ≡ true → well_formed b ≡ true → spelled m ≡ true
listed_spelled (Err f) a b g m i e w v = absurd (let q : Err f ≡ Ok (fresh m) = sym i ∙ e in let z : ◌≡◌ {A = ℕ} 0 1 = cc in omega arith)
listed_spelled (Ok s) a b (Err f) m i e w v = absurd (let z : ◌≡◌ {A = ℕ} 0 1 = cc in omega arith)
listed_spelled (Ok s) a b (Ok left) m i e w v = absurd (let z : ◌≡◌ {A = ℕ} 0 1 = cc in omega arith)
listed_spelled (Ok s) a b (Ok right) m i e w v = absurd (let z : ◌≡◌ {A = ℕ} 0 1 = cc in omega arith)
listed_spelled (Ok s) a b (Ok (fresh n)) m i e w v = let same : n ≡ m = cc in subst (λ k. spelled k ≡ true) same (i.1 w v)

settled_held : (work : List ℕ) (given : Result Given Fault) (v : Value Span) → length work ≤ 65536 → ((m : Meaning) → given ≡ Ok (fresh m) → spelled m ≡ true) → (settled work 0 given).answer ≡ Ok (New v) → well_formed (meant (settled work 0 given).bytes v) ≡ true
settled_held work (Err f) v h s q = absurd (let z : ◌≡◌ {A = ℕ} 0 1 = cc in omega arith)
settled_held work (Ok left) v h s q = absurd (let z : ◌≡◌ {A = ℕ} 0 1 = cc in omega arith)
settled_held work (Ok right) v h s q = absurd (let z : ◌≡◌ {A = ℕ} 0 1 = cc in omega arith)
settled_held work (Ok (fresh m)) v h s q = ((told_gives work 0 (omega arith) h m (s m refl)).held v (unbound (told_at work 0 m).answer v q)).formed

module _ (buffer : List ℕ) (a b : Meaning) (given : Result Given Fault) where
  pub settled_formed : (row : Result KindSet Fault) (n : ℕ) (r : Result Made Fault) (after : List ℕ) (fill : ℕ) → Listed row a b given → n ≡ min (length buffer) 65536 → true ≡ (well_formed a && well_formed b) → Settles (take n buffer) 0 given r after fill → NewFormed r (after ++ drop n buffer)
  settled_formed row n r after fill i e p s v q =
      let d = take n buffer in
      let w = and_parts (well_formed a) (well_formed b) (sym p) in
      let made : (settled d 0 given).answer ≡ Ok (New v) = sym s.answer ∙ q in
      let inside : Inside (length after) (text_in v) = subst (λ z. Inside (length z) (text_in v)) (sym s.bytes) (settled_inside d given v made) in
      let formed : well_formed (meant after v) ≡ true = subst (λ z. well_formed (meant z v) ≡ true) (sym s.bytes) (settled_held d given v (omega (arith, e, length-take n buffer)) (λ m g. listed_spelled row a b given m i g w.0 w.1) made) in
      ap well_formed (meant_as after (after ++ drop n buffer) (length after) v (take_at after (drop n buffer) (length after) refl ∙ sym (take_all (length after) after (omega arith))) inside) ∙ formed
