-- Loading a slot: what telling it at the end of the texts leaves.
use Rattle.std.proofs.Common.{◌≡◌, ℕ, zero, suc, ◌≤◌, true, List, [], ◌∷◌, length, Some, None, Option, Result, sym, refl, ap, ◌∙◌, subst, arith}
use Rattle.std.specs.Option.{option_map}
use Rattle.std.specs.List.{slice_get}
use Rattle.std.proofs.lemmas.Bool.{and_parts}
use Rattle.fault.specs.declared.Fault.{Fault}
use Rattle.fault.specs.declared.Fault.TheVariants.{Absent}
use Rattle.text.specs.declared.span.Span.{Span}
use Rattle.value.specs.Values.{well_formed}
use Rattle.value.specs.declared.value.Value.{Value}
use Rattle.operators.specs.Rooms.{room, Gives}
use Rattle.operators.proofs.Roomed.{next, gives_err, told_gives}
use Rattle.operators.proofs.Selecting.{well_spelled}
use Rattle.shelf.specs.Slots.{Slot, all_formed, holding}
use Rattle.shelf.specs.Calls.{told, tell_at}
use Rattle.rule.specs.Run.{loaded}

pub formed_at : (slots : List Slot) (i : ℕ) (s : Slot) → all_formed slots ≡ true → slice_get slots i ≡ Some s → well_formed s.holds ≡ true
formed_at [] i s f e = absurd (let z : ◌≡◌ {A = ℕ} 0 1 = cc in omega arith)
formed_at (x ∷ xs) zero s f e = let q : x ≡ s = cc in ap (λ y. well_formed y.holds) (sym q) ∙ (and_parts (well_formed x.holds) (all_formed xs) f).0
formed_at (x ∷ xs) (suc i) s f e = formed_at xs i s (and_parts (well_formed x.holds) (all_formed xs) f).1 e

module _ (slots : List Slot) (formed : all_formed slots ≡ true) (i : ℕ) (work : List ℕ) (fill : ℕ) (inside : fill ≤ length work) (short : length work ≤ 65536) where
  told_load : (o : Option Slot) → slice_get slots i ≡ o → Gives work fill (loaded (option_map (λ s. s.holds) o) (room fill work)) (tell_at work fill o).answer (tell_at work fill o).bytes (next fill (tell_at work fill o).answer)
  told_load None e = gives_err work fill inside short _ Absent refl
  told_load (Some s) e = told_gives work fill inside short s.holds (well_spelled s.holds (formed_at slots i s formed e))

  pub load_gives : (r : Result (Value Span) Fault) (work' : List ℕ) (fill' : ℕ) → (told slots i work fill).answer ≡ r → work' ≡ (told slots i work fill).bytes → fill' ≡ next fill r → Gives work fill (loaded (holding slots i) (room fill work)) r work' fill'
  load_gives r work' fill' e b n =
      let o = loaded (holding slots i) (room fill work) in
      subst (λ k. Gives work fill o r work' k) (sym n)
      (subst (λ d. Gives work fill o r d (next fill r)) (sym b)
      (subst (λ v. Gives work fill o v (told slots i work fill).bytes (next fill v)) e (told_load (slice_get slots i) refl)))
