-- What bytes name is found by the names; a name with = behind, by what stands in front of it.
use Rattle.std.proofs.Common.{◌≡◌, ℕ, cond, List, [], ◌∷◌, ◌++◌, Some, sym, refl, ap, ◌∙◌}
use Rattle.std.specs.List.{find}
use Rattle.std.specs.Str.{bytes_eq}
use Rattle.std.proofs.lemmas.List.{append_cancel_right}
use Rattle.std.proofs.lemmas.Slice.Eq.{bytes_eq-Decides}
use Rattle.std.proofs.lemmas.Bool.Decides.{same_from_decides}
use Rattle.value.specs.declared.op.Op.{Op}
use Rattle.format.specs.Names.{named, op_name, assign_name}

pub named_finds : {A : Type 0} (name : A → List ℕ) (xs : List A) (bs : List ℕ) → named name xs bs ≡ find (λ x. bytes_eq bs (name x)) xs
named_finds name [] bs = refl
named_finds name (x ∷ xs) bs = ap (cond (bytes_eq bs (name x)) (Some x)) (named_finds name xs bs)

longer_same : (xs ys : List ℕ) → bytes_eq xs ys ≡ bytes_eq (xs ++ 61 ∷ []) (ys ++ 61 ∷ [])
longer_same xs ys =
    same_from_decides (bytes_eq xs ys) (bytes_eq (xs ++ 61 ∷ []) (ys ++ 61 ∷ []))
    (λ t. ap (λ l. l ++ 61 ∷ []) ((bytes_eq-Decides xs ys).0 t), λ q. (bytes_eq-Decides xs ys).1 (append_cancel_right xs ys (61 ∷ []) q))
    (bytes_eq-Decides (xs ++ 61 ∷ []) (ys ++ 61 ∷ []))

pub assigns : (os : List Op) (front bs : List ℕ) → bs ≡ front ++ 61 ∷ [] → named op_name os front ≡ named assign_name os bs
assigns [] front bs e = refl
assigns (o ∷ os) front bs e =
    (λ i. cond (longer_same front (op_name o) i) (Some o) (assigns os front bs e i))
    ∙ ap (λ l. cond (bytes_eq l (assign_name o)) (Some o) (named assign_name os bs)) (sym e)
