-- What the parts of a line say of the value that it spells.
use Rattle.std.proofs.Common.{◌≡◌, ℕ, List, [], ◌∷◌, ◌++◌, length, Some, sym, ap, ◌∙◌, arith}
use Rattle.value.specs.Values.{Meaning, kind_in}
use Rattle.value.specs.declared.kind.Kind.{Kind}
use Rattle.format.specs.Fields.{fields}
use Rattle.format.specs.Names.{kind_name}
use Rattle.format.specs.Written.{written}
use Rattle.format.proofs.Laws.{some_fields}
use Rattle.format.proofs.Same.{fields_spelled, spelled_same}
use Rattle.lines.specs.Spelled.{Spells}
use Rattle.lines.specs.Parts.{Parts, WrittenOn}
use Rattle.lines.specs.declared.line.Line.{Line}

-- a line without a tab
pub no_tab : (line first : List ℕ) → fields 9 line ≡ first ∷ [] → (k : Kind) (w : List ℕ) → kind_name k ++ (9 ∷ w) ≡ line → ⊥
no_tab line first e k w s =
    let f = some_fields 9 w in
    let p : kind_name k ∷ f.first ∷ f.more ≡ first ∷ [] = ap (λ fs. kind_name k ∷ fs) (sym f.are) ∙ sym (fields_spelled k w) ∙ ap (fields 9) s ∙ e in
    omega (arith, ap length p)

-- the name in front of the tab
pub first_named : (line first : List ℕ) (fs : List (List ℕ)) → fields 9 line ≡ first ∷ fs → (k : Kind) (w : List ℕ) → kind_name k ++ (9 ∷ w) ≡ line → kind_name k ≡ first
first_named line first fs e k w s =
    let p : kind_name k ∷ fields 9 w ≡ first ∷ fs = sym (fields_spelled k w) ∙ ap (fields 9) s ∙ e in cc

pub written_on : (line : List ℕ) (l : Line) (m : Meaning) → Parts line (Some l) → Spells line m → WrittenOn l m
written_on line l m p s =
    let same = spelled_same (kind_in m) l.kind (written m) l.written.now (s.1 ∙ sym p) in
    record { kind = same.0; readable = s.0; spells = same.1 }
