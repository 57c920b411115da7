-- The values of a sealed and of a joined shelf are well formed where those below are, as every shelf shows of its make. Assumes nothing.
use Rattle.std.specs.Prelude.{◌≡◌, ℕ, zero, suc, true, List, [], ◌∷◌, ◌++◌, take, refl}
use Rattle.std.proofs.lemmas.Bool.{and_parts, and_from}
use Rattle.value.specs.Values.{well_formed}
use Rattle.shelf.specs.Slots.{Slot, all_formed}
use Rattle.layers.specs.Layers.{sealed, joined}

pub sealed_formed : (xs : List Slot) → all_formed xs ≡ true → all_formed (sealed xs) ≡ true
sealed_formed [] h = refl
sealed_formed (x ∷ xs) h =
    let p = and_parts (well_formed x.holds) (all_formed xs) h in
    and_from _ _ p.0 (sealed_formed xs p.1)

-- a part of a list from its start, with another behind
part_formed : (n : ℕ) (xs ys : List Slot) → all_formed xs ≡ true → all_formed ys ≡ true → all_formed (take n (xs ++ ys)) ≡ true
part_formed zero xs ys h k = refl
part_formed (suc n) [] [] h k = refl
part_formed (suc n) [] (y ∷ ys) h k =
    let p = and_parts (well_formed y.holds) (all_formed ys) k in
    and_from _ _ p.0 (part_formed n [] ys h p.1)
part_formed (suc n) (x ∷ xs) ys h k =
    let p = and_parts (well_formed x.holds) (all_formed xs) h in
    and_from _ _ p.0 (part_formed n xs ys p.1 k)

pub joined_formed : (xs ys : List Slot) → all_formed xs ≡ true → all_formed ys ≡ true → all_formed (joined xs ys) ≡ true
joined_formed = part_formed 65536
