-- Where a block stands between two calls. Assumes nothing.
use Prim.Native.Nat.{ℕ, ◌+◌, ◌*◌, ◌<◌}
use mathlib.Core.Path.{◌≡◌}
use mathlib.Core.Bool.{true}
use mathlib.Core.Logic.{◌⊎◌}
use mathlib.Core.List.{List, []}
use lib.ListN.{length, get_or}
use Rattle.assembly_record.specs.Sizes.{place_count}
use Rattle.assembly_record.specs.Fragments.{fragments}
use Rattle.assembly_record.specs.Marks.{marked}
use Rattle.no_starvation.specs.Starve.{brought, Stretch}
use Rattle.assembly_record.specs.State.{Place, place_at, Assembler}

-- ---- where the block stands

abbrev pub Alone : ℕ → ℕ → List Place → Type 0
Alone N i ps = (j : ℕ) → (place_at ps j).number ≡ N → j ≡ i

abbrev pub Absent : ℕ → List Place → Type 0
Absent N ps = (j : ℕ) → (place_at ps j).number ≡ N → ⊥

-- the bytes of every fragment that was brought are the block's
abbrev pub Bytes : ℕ → List ℕ → List ℕ → ℕ → List Stretch → Type 0
Bytes f B area base rs =
    (j r : ℕ) → r < f → j * f + r < length B → brought rs j ≡ true → get_or area (base + (j * f + r)) 0 ≡ get_or B (j * f + r) 0

-- the block stands at place i
pub record Seated (N : ℕ) (B : List ℕ) (a : Assembler) (area : List ℕ) (rs : List Stretch) (t i : ℕ) : Type 0 where
  pub within : i < place_count
  pub here : (place_at a.places i).number ≡ N
  pub alone : Alone N i a.places
  pub size : (place_at a.places i).size ≡ length B
  pub time : (place_at a.places i).time ≡ t
  pub marks : (j : ℕ) → j < fragments (length B) a.fragment_size → marked (place_at a.places i).marks j ≡ brought rs j
  pub bytes : Bytes a.fragment_size B area (i * a.place_size) rs

-- nothing of the block was accepted and it stands nowhere, or it stands at a place
abbrev pub Stands : ℕ → List ℕ → Assembler → List ℕ → List Stretch → ℕ → Type 0
Stands N B a area rs t = ((rs ≡ []) × Absent N a.places) ⊎ ((i : ℕ) × Seated N B a area rs t i)
