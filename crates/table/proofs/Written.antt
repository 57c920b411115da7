-- A value posted to a slot: its text goes to the front of the slot's part, its length into the record.
use Rattle.std.proofs.Common.{◌≡◌, ℕ, ◌+◌, ◌*◌, ◌≤◌, true, leb, List, [], length, take, drop, set, Some, None, Option, sym, refl, ap, ◌∙◌, arith, Bor, set-set}
use Rattle.std.specs.Option.{option_map, unwrap_or}
use Rattle.std.specs.List.{slice_get}
use Rattle.std.proofs.lemmas.List.{take-take}
use Rattle.text.specs.Buffers.{laid}
use Rattle.text.proofs.Laws.{length_laid, take_laid, drop_laid, span_new}
use Rattle.std.proofs.lemmas.Bool.{le-leb}
use Rattle.value.specs.Values.{text_of, meaning, well_formed, size, text_in, Maps}
use Rattle.value.specs.declared.value.Value.{Value}
use Rattle.value.proofs.Laws.{meaning_mapped, text_mapped, text_meaning}
use Rattle.shelf.specs.Slots.{slot}
use Rattle.shelf.specs.declared.mark.Mark.TheVariants.{Open}
use Rattle.table.specs.declared.record.Record.{Record}
use Rattle.table.specs.Rows.{meant_by, blank, rows, short, whole}
use Rattle.table.proofs.Rowed.{Within, rows_set, whole_at, whole_set}

module _ (bs t : List ℕ) (at cap : ℕ) (h : at + cap ≤ length bs) (l : length t ≤ cap) where
  laid_within : Within bs (laid bs at t) at (at + cap)
  laid_within =
      let a : at ≤ length bs = omega arith in
      record {
        len = length_laid bs t at (omega arith);
        before = take_laid bs t at at (omega arith) a;
        after = drop_laid bs t at (at + cap) (omega arith) a;
      }

  laid_there : take (length t) (take cap (drop at (laid bs at t))) ≡ t
  laid_there = take-take (length t) cap (drop at (laid bs at t)) l ∙ span_new bs t at (omega arith)

-- t is the text of a value, or an empty one
module _ (v : Value (Bor (List ℕ))) (o : Option (Bor (List ℕ))) (none t : Bor (List ℕ)) (e : o ≡ text_in v) (u : t ≡ unwrap_or o none) where
  pub said : (x : Bor (List ℕ)) → text_in v ≡ Some x → t.now ≡ x.now
  said x f = ap (λ (y : Bor (List ℕ)). y.now) (u ∙ ap (λ p. unwrap_or p none) (e ∙ f))

  sized : (p : Option (Bor (List ℕ))) → none.now ≡ [] → size (option_map (λ x. x.now) p) ≡ length (unwrap_or p none).now
  sized None q = ap length (sym q)
  sized (Some x) q = refl

  pub size_text : none.now ≡ [] → size (text_of (meaning (λ x. x.now) v)) ≡ length t.now
  size_text q =
      ap size (text_meaning (λ x. x.now) v ∙ ap (option_map (λ x. x.now)) (sym e))
      ∙ sized o q ∙ ap (λ (y : Bor (List ℕ)). length y.now) (sym u)

-- a posting to slot k of a whole table: the slot is blank, then its bytes are written, then it has its record
module _ (rs : List Record) (bs : List ℕ) (cap k : ℕ) (r : Record) (found : slice_get rs k ≡ Some r) (s : whole rs bs cap ≡ true) where
  pub blanked : whole (set rs k blank) bs cap ≡ true
  blanked = whole_set rs bs bs cap k blank (record { len = refl; before = refl; after = refl }) refl refl s

  module _ (t : List ℕ) (l : length t ≤ cap) where
    inside : k * cap + cap ≤ length bs
    inside = (whole_at rs bs cap k r found s).within

    pub room : k * cap + length t ≤ length bs
    room = omega (arith, inside)

    pub copied : whole (set rs k blank) (laid bs (k * cap) t) cap ≡ true
    copied = whole_set rs bs (laid bs (k * cap) t) cap k blank (laid_within bs t (k * cap) cap inside l) refl refl s

    -- v is the value, with the length of its text w
    module _ (R : Bor (List ℕ) → ℕ → Type 0) (counts : (x : Bor (List ℕ)) (n : ℕ) → R x n → n ≡ length x.now) (v : Value (Bor (List ℕ))) (w : Value ℕ) (m : Maps R v w) (said : (x : Bor (List ℕ)) → text_in v ≡ Some x → t ≡ x.now) where
      abbrev pub entry : Record
      entry = record { value = w }

      count : (x : Bor (List ℕ)) (n : ℕ) → text_in v ≡ Some x → R x n → n ≡ length t
      count x n e r = counts x n r ∙ ap length (sym (said x e))

      means : meant_by (take cap (drop (k * cap) (laid bs (k * cap) t))) w ≡ meaning (λ x. x.now) v
      means =
          let part = take cap (drop (k * cap) (laid bs (k * cap) t)) in
          meaning_mapped R (λ x. x.now) (λ n. take n part) v w m (λ x n e r. ap (λ i. take i part) (count x n e r) ∙ laid_there bs t (k * cap) cap inside l ∙ said x e)

      fits : (o : Option ℕ) → text_in w ≡ o → short cap o ≡ true
      fits None e = refl
      fits (Some n) e = let p = text_mapped R v w m n e in ap (λ i. leb i cap) (count p.0 n p.1 p.2) ∙ le-leb (length t) cap l

      pub entered : rows (set (set rs k blank) k entry) (laid bs (k * cap) t) cap ≡ set (rows rs bs cap) k (slot (meaning (λ x. x.now) v) cap Open)
      entered =
          ap (λ l. rows l (laid bs (k * cap) t) cap) (set-set rs k blank entry)
          ∙ rows_set rs bs (laid bs (k * cap) t) cap k entry (laid_within bs t (k * cap) cap inside l)
          ∙ ap (λ m. set (rows rs bs cap) k (slot m cap Open)) means

      pub stays : well_formed (meaning (λ x. x.now) v) ≡ true → whole (set (set rs k blank) k entry) (laid bs (k * cap) t) cap ≡ true
      stays f =
          ap (λ l. whole l (laid bs (k * cap) t) cap) (set-set rs k blank entry)
          ∙ whole_set rs bs (laid bs (k * cap) t) cap k entry (laid_within bs t (k * cap) cap inside l) (fits (text_in w) refl) (ap well_formed means ∙ f) s
