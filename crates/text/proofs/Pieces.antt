-- Pieces laid behind each other.
use Rattle.std.proofs.Common.{◌≡◌, ℕ, ◌+◌, ◌≤◌, List, ◌++◌, length, refl, ap, ◌∙◌, arith}
use Rattle.text.specs.Buffers.{laid}
use Rattle.text.specs.declared.piece.Text.TheVariants.{Part, Lent}
use Rattle.text.specs.declared.piece.Piece.{Piece}
use Rattle.text.specs.declared.piece.Piece.TheVariants.{Whole, Letter, Byte}
use Rattle.text.specs.Pieces.{piece_bytes, Below}
use Rattle.text.proofs.Laws.{span_laid, laid_laid}

-- a piece stays what it was while a text is laid behind it
pub piece_laid : (d x : List ℕ) (fill : ℕ) (q : Piece) → Below fill q → fill ≤ length d → piece_bytes (laid d fill x) q ≡ piece_bytes d q
piece_laid d x fill (Whole (Part s)) h l = span_laid d x fill s h l
piece_laid d x fill (Whole (Lent t)) h l = refl
piece_laid d x fill (Letter c) h l = refl
piece_laid d x fill (Byte b) h l = refl

pub laid_behind : (d e f : List ℕ) (at : ℕ) (p q : Piece) (m : ℕ) → m ≡ length (piece_bytes d p) → Below at q → at + m ≤ length d
    → e ≡ laid d at (piece_bytes d p) → f ≡ laid e (at + m) (piece_bytes e q) → f ≡ laid d at (piece_bytes d p ++ piece_bytes d q)
laid_behind d e f at p q m n k r u v =
    v ∙ ap (laid e (at + m)) (ap (λ z. piece_bytes z q) u ∙ piece_laid d (piece_bytes d p) at q k (omega arith))
    ∙ ap (λ z. laid e (at + z) (piece_bytes d q)) n ∙ ap (λ z. laid z (at + length (piece_bytes d p)) (piece_bytes d q)) u ∙ laid_laid d (piece_bytes d p) (piece_bytes d q) at (omega arith)

pub below_more : (fill n : ℕ) (q : Piece) → fill ≤ n → Below fill q → Below n q
below_more fill n (Whole (Part s)) l h = omega arith
below_more fill n (Whole (Lent t)) l h = h
below_more fill n (Letter c) l h = h
below_more fill n (Byte b) l h = h
