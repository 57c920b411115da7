use Rattle.std.proofs.Common.{◌≡◌, ◌%◌, ◌^◌, ◌<◌, [], ◌∷◌, ℤ, nat_abs, Ok, sym, ap, ◌∙◌, arith, w64, to_z, of_z}
use lib.Bits.{bit_and, and_mask}
use Rattle.std.proofs.lemmas.Int.{to_z_pos}
use Rattle.routines.specs.Calls.{as_bytes}
use Rattle.routines.specs.Outcomes.{operand}
use Rattle.routines.proofs.texts.as_piece.Goals as goal

low_byte : (n : ℤ) → nat_abs (to_z w64 (bit_and (of_z w64 n) 255)) ≡ of_z w64 n % 256
low_byte n =
    let m : bit_and (of_z w64 n) 255 ≡ of_z w64 n % 256 = and_mask (of_z w64 n) 8 in
    let l : of_z w64 n % 256 < 2 ^ 63 = omega arith in
    ap (λ k. nat_abs (to_z w64 k)) m ∙ ap nat_abs (to_z_pos w64 (of_z w64 n % 256) l)

pub returns-in-Int : goal.returns-in-Int
returns-in-Int c = record {
  bytes = λ work. ap (λ b. Ok (b ∷ [])) (low_byte c.in-Int.n) ∙ sym (ap (λ v. as_bytes (operand work v)) c.in-Int.is);
  below = λ fill h. tt;
}
