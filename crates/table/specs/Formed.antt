-- A whole table's values are well formed, as every shelf shows of its make.
use Rattle.std.specs.Prelude.{◌≡◌, ℕ, true, List, [], ◌∷◌, length, take, drop, nat_le, refl}
use Rattle.std.proofs.lemmas.Bool.{and_parts, and_from}
use Rattle.value.specs.Values.{well_formed, text_in}
use Rattle.shelf.specs.Slots.{all_formed}
use Rattle.table.specs.declared.record.Record.{Record}
use Rattle.table.specs.Rows.{rows, whole, short, meant_by}

pub rows_formed : (rs : List Record) (bytes : List ℕ) (capacity : ℕ) → whole rs bytes capacity ≡ true → all_formed (rows rs bytes capacity) ≡ true
rows_formed [] bytes capacity h = refl
rows_formed (r ∷ rs) bytes capacity h =
    let p = and_parts _ (whole rs (drop capacity bytes) capacity) h in
    let q = and_parts (nat_le capacity (length bytes)) _ p.0 in
    let s = and_parts (short capacity (text_in r.value)) (well_formed (meant_by (take capacity bytes) r.value)) q.1 in
    and_from _ _ s.1 (rows_formed rs (drop capacity bytes) capacity p.1)
