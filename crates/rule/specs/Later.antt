-- The later states of a run: the same slots, limits and buffer, whose texts stay. Assumes nothing.
use Rattle.std.proofs.Common.{◌≡◌, ℕ, List, take, sym, refl, ap, ◌∙◌, arith}
use Rattle.std.proofs.lemmas.List.{take-take}
use Rattle.value.specs.Values.{meant}
use Rattle.routines.specs.Works.{Kept}
use Rattle.routines.specs.declared.work.Work.{Work}
use Rattle.operators.specs.Applied.{Held}
use Rattle.operators.specs.Rooms.{Grown}
use Rattle.operators.proofs.Roomed.{grown_none, meant_as, held_still}
use Rattle.shelf.specs.Slots.{Slot, holding}
use Rattle.steps.specs.Machines.{Keeps}
use Rattle.rule.specs.Run.{values}

pub record Later (ss : List Slot) (w : Work) (ss' : List Slot) (w' : Work) : Type 0 where
  pub slots : ss' ≡ ss
  pub kept : Kept w w'
  pub grown : Grown w.bytes.now w.fill w'.bytes.now w'.fill

pub later_itself : (ss : List Slot) (w : Work) → Later ss w ss w
later_itself ss w = record { slots = refl; kept = record { limits = refl; same = refl }; grown = grown_none w.bytes.now w.fill w.inside }

grown_on : (work : List ℕ) (fill : ℕ) (work' : List ℕ) (fill' : ℕ) (work'' : List ℕ) (fill'' : ℕ) → Grown work fill work' fill' → Grown work' fill' work'' fill'' → Grown work fill work'' fill''
grown_on work fill work' fill' work'' fill'' g h = record {
  size = h.size ∙ g.size;
  stays = sym (take-take fill fill' work'' g.more) ∙ ap (take fill) h.stays ∙ take-take fill fill' work' g.more ∙ g.stays;
  more = omega (arith, g.more, h.more);
  inside = omega (arith, h.inside, g.size);
}

pub later_on : (ss : List Slot) (w : Work) (ss' : List Slot) (w' : Work) (ss'' : List Slot) (w'' : Work) → Later ss w ss' w' → Later ss' w' ss'' w'' → Later ss w ss'' w''
later_on ss w ss' w' ss'' w'' p q = record {
  slots = q.slots ∙ p.slots;
  kept = record { limits = q.kept.limits ∙ p.kept.limits; same = q.kept.same ∙ p.kept.same };
  grown = grown_on w.bytes.now w.fill w'.bytes.now w'.fill w''.bytes.now w''.fill p.grown q.grown;
}

-- what was held is held, and means the same
pub later_keeps : (ss : List Slot) (w : Work) (ss' : List Slot) (w' : Work) → Later ss w ss' w' → Keeps (values w.limits (holding ss)) (values w'.limits (holding ss')) (meant w.bytes.now) (meant w'.bytes.now) (Held w.bytes.now w.fill) (Held w'.bytes.now w'.fill)
later_keeps ss w ss' w' p = record {
  machine = λ i. values (p.kept.limits i) (holding (p.slots i));
  meant = λ v h. meant_as w.bytes.now w'.bytes.now w.fill v p.grown.stays h.below;
  held = λ v h. held_still w.bytes.now w.fill w'.bytes.now w'.fill v p.grown h;
}
