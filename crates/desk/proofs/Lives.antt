-- A list of calls from the making of a desk: how far it has come after i of them.
use Rattle.std.proofs.Common.{◌≡◌, ℕ, ◌+◌, ◌<◌, List, [], ◌∷◌, ◌++◌, length, get_or, take, drop, set, Result, sym, refl, ap, ◌∙◌, subst, arith}
use Rattle.std.proofs.lemmas.List.{take_more, take_more_set, map_push, length-set, drop-set-lt, drop-drop, length-take-le, length-map, append-nil}
use Rattle.fault.specs.declared.Refusal.{Refusal}
use Rattle.shelf.specs.Slots.{Slot}
use Rattle.rule.specs.declared.rule.Rule.{Rule}
use Rattle.desk.specs.Book.{Event, event}
use Rattle.desk.specs.Law.{Lawful}
use Rattle.desk.specs.Desks.{Reached, meant_by, Served, events, AllLawful}
use Rattle.desk.specs.declared.call.Call.{Call}
use Rattle.desk.specs.declared.call.Reply.{Reply}
use Rattle.desk.proofs.Postings.{one_on}

pub record Along (first : List Slot) (calls : List Call) (work₀ : List ℕ) (old : List (Result Reply Refusal)) (i : ℕ) (work : List ℕ) (answers : List (Result Reply Refusal)) (slots : List Slot) (rule : Rule) : Type 0 where
  pub reached : Reached first (events (take i calls)) slots rule
  pub lawful : AllLawful first [] (events (take i calls)) (take i answers) work₀ work
  pub rest : drop i answers ≡ drop i old
  pub size : length answers ≡ length old

all_more : (first : List Slot) (past cs : List Event) (rs : List (Result Reply Refusal)) (work w w' : List ℕ) (c : Event) (r : Result Reply Refusal) → length rs ≡ length cs → AllLawful first past cs rs work w → Lawful first (past ++ cs) c w (meant_by w' r) w' → AllLawful first past (cs ++ c ∷ []) (rs ++ r ∷ []) work w'
all_more first past [] [] work w w' c r n a l = (w', subst (λ d. Lawful first past c d (meant_by w' r) w') (sym a) (subst (λ p. Lawful first p c w (meant_by w' r) w') (append-nil past) l), refl)
all_more first past [] (x ∷ rs) work w w' c r n a l = absurd (omega arith)
all_more first past (d ∷ cs) [] work w w' c r n a l = absurd a
all_more first past (d ∷ cs) (x ∷ rs) work w w' c r n a l = (a.0, a.1, all_more first (past ++ d ∷ []) cs rs a.0 w w' c r (omega arith) a.2 (subst (λ p. Lawful first p c w (meant_by w' r) w') (sym (one_on past d cs)) l))

module _ (first : List Slot) (calls : List Call) (work₀ : List ℕ) (old : List (Result Reply Refusal)) where
  pub along_none : (slots : List Slot) (rule : Rule) → Reached first [] slots rule → Along first calls work₀ old 0 work₀ old slots rule
  along_none slots rule h = record { reached = h; lawful = refl; rest = refl; size = refl }

  pub along_more : (i : ℕ) (k : Call) (work work' : List ℕ) (answers : List (Result Reply Refusal)) (r : Result Reply Refusal) (slots slots' : List Slot) (rule rule' : Rule)
      → i < length calls → i < length old → Along first calls work₀ old i work answers slots rule → Served slots rule (event (get_or calls i k)) work r work' slots' rule' → Along first calls work₀ old (i + 1) work' (set answers i r) slots' rule'
  along_more i k work work' answers r slots slots' rule rule' h h' a s =
      let did = s first (events (take i calls)) a.reached in
      let cs : events (take (i + 1) calls) ≡ events (take i calls) ++ event (get_or calls i k) ∷ [] = ap events (take_more calls i k h) ∙ map_push event (take i calls) (get_or calls i k) in
      let lt : i < length answers = omega (arith, a.size) in
      let rs : take (i + 1) (set answers i r) ≡ take i answers ++ r ∷ [] = take_more_set answers i r lt in
      let n : length (take i answers) ≡ length (events (take i calls)) = length-take-le i answers (omega arith) ∙ sym (length-map (take i calls) event ∙ length-take-le i calls (omega arith)) in
      record {
        reached = subst (λ p. Reached first p slots' rule') (sym cs) did.0;
        lawful = subst (λ p. AllLawful first [] p (take (i + 1) (set answers i r)) work₀ work') (sym cs)
            (subst (λ q. AllLawful first [] (events (take i calls) ++ event (get_or calls i k) ∷ []) q work₀ work') (sym rs) (all_more first [] (events (take i calls)) (take i answers) work₀ work work' (event (get_or calls i k)) r n a.lawful did.1));
        rest = drop-set-lt (i + 1) answers i r (omega arith) ∙ sym (drop-drop 1 i answers) ∙ ap (drop 1) a.rest ∙ drop-drop 1 i old;
        size = length-set answers i r ∙ a.size;
      }
