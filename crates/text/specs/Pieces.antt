-- The bytes of a text and of a piece beside the work buffer, and where a piece may lie. Assumes nothing.
use Rattle.std.specs.Prelude.{ℕ, List, [], ◌∷◌}
use Rattle.std.proofs.Math.Utf8.{encode}
use Rattle.text.specs.Buffers.{span_text, within}
use Rattle.text.specs.declared.piece.Text.{Text}
use Rattle.text.specs.declared.piece.Text.TheVariants.{Part, Lent}
use Rattle.text.specs.declared.piece.Piece.{Piece}
use Rattle.text.specs.declared.piece.Piece.TheVariants.{Whole, Letter, Byte}

abbrev pub text_bytes : List ℕ → Text → List ℕ
text_bytes work (Part s) = span_text work s
text_bytes work (Lent t) = t.now

abbrev pub piece_bytes : List ℕ → Piece → List ℕ
piece_bytes work (Whole t) = text_bytes work t
piece_bytes work (Letter c) = encode c
piece_bytes work (Byte b) = b ∷ []

-- a part of the work buffer lies below `fill`
abbrev pub TextBelow : ℕ → Text → Type 0
TextBelow fill (Part s) = within s fill
TextBelow fill (Lent t) = Unit {0}

abbrev pub Below : ℕ → Piece → Type 0
Below fill (Whole t) = TextBelow fill t
Below fill (Letter c) = Unit {0}
Below fill (Byte b) = Unit {0}
