-- Lines out of parts that come one after another: what stands before a line feed ends a line, and what stands behind the last one
-- begins the next. A line is its bytes, or none where it is longer than the buffer that keeps it. Lines are answered in order, and
-- what is written is the answers, one behind another. Assumes nothing.
use Rattle.std.specs.Prelude.{◌≡◌, ℕ, ◌+◌, cond, List, [], ◌∷◌, ◌++◌, length, take, Some, None, Option, Result, OnOk, nat_le}
use Rattle.std.specs.Io.KnownBytes.{Appends}
use Rattle.format.specs.Fields.{fields}

-- what has come of a line: so many bytes of the buffer, or more than it holds
abbrev pub begun : List ℕ → Option ℕ → Option (List ℕ)
begun buffer None = None
begun buffer (Some n) = Some (take n buffer)

-- with one more part, where there is room for it
abbrev pub longer : ℕ → Option (List ℕ) → List ℕ → Option (List ℕ)
longer room None part = None
longer room (Some bs) part = cond (nat_le (length bs + length part) room) (Some (bs ++ part)) None

-- the lines that end, of the parts between line feeds, after what has begun; and what has begun after them
unfoldable pub ended : ℕ → Option (List ℕ) → List (List ℕ) → List (Option (List ℕ))
ended room b [] = []
ended room b (f ∷ []) = []
ended room b (f ∷ g ∷ fs) = longer room b f ∷ ended room (Some []) (g ∷ fs)

unfoldable pub behind : ℕ → Option (List ℕ) → List (List ℕ) → Option (List ℕ)
behind room b [] = b
behind room b (f ∷ []) = longer room b f
behind room b (f ∷ g ∷ fs) = behind room (Some []) (g ∷ fs)

-- the lines of a whole input, of its parts between line feeds: the last part is one only where it is not empty
abbrev pub last_line : ℕ → List ℕ → List (Option (List ℕ))
last_line room [] = []
last_line room (c ∷ cs) = longer room (Some []) (c ∷ cs) ∷ []

unfoldable pub lines : ℕ → List (List ℕ) → List (Option (List ℕ))
lines room [] = []
lines room (f ∷ []) = last_line room f
lines room (f ∷ g ∷ fs) = longer room (Some []) f ∷ lines room (g ∷ fs)

-- a line is answered, and where that succeeds the bytes of the answer were written, behind what was written before
abbrev pub Answers : {A E : Type 0} → (A → Option (List ℕ) → A → List ℕ → Type 0) → A → Option (List ℕ) → A
    → Result (Unit {0}) E → Option (List ℕ) → Option (List ℕ) → Type 0
Answers answers a line a' r out out' = (bytes : List ℕ) × answers a line a' bytes × OnOk r (Appends out out' bytes)

-- lines are answered in order, and the answers stand one behind another
abbrev pub Answered : {A : Type 0} → (A → Option (List ℕ) → A → List ℕ → Type 0) → A → List (Option (List ℕ)) → A → List ℕ → Type 0
Answered answers a [] a' written = (a' ≡ a) × (written ≡ [])
Answered {A} answers a (line ∷ more) a' written =
    (mid : A) × (first : List ℕ) × (rest : List ℕ)
    × answers a line mid first
    × Answered answers mid more a' rest
    × (written ≡ first ++ rest)

-- whoever answers lines is given every line that ends in the chunk, in order, and nothing else; the answers are what is written
pub record Fed {A : Type 0} (answers : A → Option (List ℕ) → A → List ℕ → Type 0) (room : ℕ) (a : A) (b : Option (List ℕ)) (chunk : List ℕ) (a' : A) (b' : Option (List ℕ)) (written : List ℕ) : Type 0 where
  pub lines : Answered answers a (ended room b (fields 10 chunk)) a' written
  pub rest : b' ≡ behind room b (fields 10 chunk)
