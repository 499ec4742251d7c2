-- Lines and their bytes: "Lines end in a line feed, which a last, non-empty line may lack". A line feed is 10. Assumes nothing.
use Rattle.std.specs.Prelude.{ℕ, ◌≡◌, cond, List, [], ◌∷◌, ◌++◌, eqb}

-- bytes without a line feed among them
abbrev pub NoFeed : List ℕ → Type 0
NoFeed [] = Unit {0}
NoFeed (b ∷ bs) = (b ≡ 10 → ⊥) × NoFeed bs

-- lines, none with a line feed in it, and the bytes of their recording
abbrev pub Lines : List (List ℕ) → Type 0
Lines [] = Unit {0}
Lines (line ∷ lines) = NoFeed line × Lines lines

abbrev pub recorded : List (List ℕ) → List ℕ
recorded [] = []
recorded (line ∷ lines) = line ++ (10 ∷ recorded lines)

-- the lines of any input
abbrev pub begins : ℕ → List (List ℕ) → List (List ℕ)
begins b [] = (b ∷ []) ∷ []
begins b (line ∷ lines) = (b ∷ line) ∷ lines

unfoldable pub lines_of : List ℕ → List (List ℕ)
lines_of [] = []
lines_of (b ∷ bytes) = cond (eqb b 10) ([] ∷ lines_of bytes) (begins b (lines_of bytes))
