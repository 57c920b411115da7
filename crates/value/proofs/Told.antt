-- A value that was put into a buffer has its text there.
use Rattle.std.proofs.Common.{◌≡◌, ℕ, ◌+◌, ◌≤◌, Bool, true, false, cond, List, length, Ok, Err, refl, subst, arith}
use Rattle.std.proofs.lemmas.Bool.{leb-true}
use Rattle.fault.specs.declared.Fault.TheVariants.{BufferShort}
use Rattle.text.specs.Buffers.{has_room, laid}
use Rattle.text.specs.declared.span.Span.{Span}
use Rattle.text.proofs.Laws.{length_laid}
use Rattle.value.specs.Values.{Meaning, unit, bool, int, float, char, str, blob, excl, incl, text_of, text_in, held_at, fits, written, Told, told_at, Inside}
use Rattle.value.specs.declared.value.Value.{Value}

module _ (buffer : List ℕ) (place : ℕ) where
  text_inside : (bs : List ℕ) → has_room buffer place bs ≡ true → place + length bs ≤ length (laid buffer place bs)
  text_inside bs f = let le = leb-true (place + length bs) (length buffer) f in omega (arith, length_laid buffer bs place le)

  held_inside : (m : Meaning) → fits buffer place (text_of m) ≡ true → Inside (length (written buffer place (text_of m))) (text_in (held_at place m))
  held_inside unit f = tt
  held_inside (bool b) f = tt
  held_inside (int n) f = tt
  held_inside (float x) f = tt
  held_inside (char c) f = tt
  held_inside (str bs) f = text_inside bs f
  held_inside (blob bs) f = text_inside bs f
  held_inside (excl a b) f = tt
  held_inside (incl a b) f = tt

  pub told_inside : (m : Meaning) (v : Value Span) → (told_at buffer place m).answer ≡ Ok v → Inside (length (told_at buffer place m).bytes) (text_in v)
  told_inside m v =
      let T : Bool → Told = λ b. cond b (record { answer = Ok (held_at place m); bytes = written buffer place (text_of m) }) (record { answer = Err BufferShort; bytes = buffer }) in
      let P : Bool → Type 0 = λ b. fits buffer place (text_of m) ≡ b → (T b).answer ≡ Ok v → Inside (length (T b).bytes) (text_in v) in
      (elim (fits buffer place (text_of m)) as P [
        | true ↦ λ f e. let same : held_at place m ≡ v = cc in subst (λ x. Inside (length (written buffer place (text_of m))) (text_in x)) same (held_inside m f)
        | false ↦ λ f e. absurd (let z : ◌≡◌ {A = ℕ} 0 1 = cc in omega arith)
      ]) refl
