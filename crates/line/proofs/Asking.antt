-- What a line asks for, from what each of its fields is read as.
use Rattle.std.proofs.Common.{◌≡◌, ℕ, ◌≤◌, List, [], ◌∷◌, length, Some, None, Ok, Err, Option, refl, ap, subst, arith}
use Rattle.fault.specs.declared.Fault.TheVariants.{Malformed}
use Rattle.text.specs.declared.span.Span.{Span}
use Rattle.value.specs.Values.{Meaning, meant}
use Rattle.value.specs.declared.kind.Kind.{Kind}
use Rattle.value.specs.declared.value.Value.{Value}
use Rattle.desk.specs.Book as book
use Rattle.format.specs.Written.{written}
use Rattle.format.specs.Reading.{ReadableIn, ReadsKind}
use Rattle.format.proofs.Laws.{readable_in}
use Rattle.line.specs.Asked.{ReadsSlot, AsksPost}

module _ (k : Kind) (o : Option Kind) (named : Some k ≡ o) (v buffer : List ℕ) (short : length v ≤ 4096) where
  -- what is read in a buffer is readable at all
  at_all : (m : Meaning) → written m ≡ v → ReadableIn (length buffer) m → ReadableIn 65536 m
  at_all m e = readable_in (length buffer) 65536 m (omega (arith, ap length e))

  in_buffer : 2048 ≤ length buffer → (m : Meaning) → written m ≡ v → ReadableIn 65536 m → ReadableIn (length buffer) m
  in_buffer room m e = readable_in 65536 (length buffer) m (omega (arith, ap length e))

  module _ (s : List ℕ) where
    pub posts : (n : ℕ) (x : Value Span) → ReadsSlot s (Some n) → ReadsKind (length buffer) k v (Some (meant buffer x)) → AsksPost s v o (Ok (book.post n (meant buffer x)))
    posts n x a b = subst (λ p. AsksPost s v p (Ok (book.post n (meant buffer x)))) named (record {
      found = Some (n, meant buffer x);
      is = ((a.0, b.0.0, at_all (meant buffer x) b.1 b.0.1), λ i. a.1 i ∷ b.1 i ∷ []);
      asks = refl;
    })

    pub no_value : 2048 ≤ length buffer → ReadsKind (length buffer) k v None → AsksPost s v o (Err Malformed)
    no_value room h = subst (λ p. AsksPost s v p (Err Malformed)) named (record {
      found = None;
      is = λ p f e. let w : written p.1 ≡ v = cc in h p.1 (f.1, in_buffer room p.1 w f.2) w;
      asks = refl;
    })
