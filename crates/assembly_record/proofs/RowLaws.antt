-- A row of words, opened, wiped and run. Assumes nothing.
use Prim.Native.Nat.{ℕ}
use mathlib.Core.Path.{◌≡◌, ap, ◌∙◌}
use mathlib.Core.List.{List}
use lib.ListN.{replicate}
use Rattle.assembly_record.specs.Sizes.{row_size}
use Rattle.assembly_record.specs.State.{free_place}
use Rattle.assembly_record.specs.Words.{place_of}

pub wiped_row : (k : ℕ) (z : List ℕ) → k ≡ row_size → z ≡ replicate k 0 → place_of z ≡ free_place
wiped_row k z e h = ap place_of (h ∙ ap (λ (j : ℕ). replicate j 0) e)
