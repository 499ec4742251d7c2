-- What the functions on rows and marks ask and promise of the words. No public promise cites these. Assumes nothing.
use Rattle.std.specs.Prelude.{ℕ, ◌<◌, ◌≤◌, ◌≡◌, true, false, List, [], ◌∷◌, length, get_or, take}
use Rattle.assembly_record.specs.Sizes.{place_count, most_fragments, assembler_size}
use Rattle.assembly_record.specs.State.{Place, place_at}
use Rattle.assembly_record.specs.Marks.{marked, mark_run}
use Rattle.assembly_record.specs.Fragments.{fragments}
use Rattle.assembly_record.specs.Words.{places_of}

-- the record became one with other places: its first three words and its length are as they were
pub record Became (w : List ℕ) (ps : List Place) (w' : List ℕ) : Type 0 where
  pub head : take 3 w' ≡ take 3 w
  pub long : length w' ≡ assembler_size
  pub places : places_of w' ≡ ps

-- the row of a place just opened
abbrev pub opened_row : ℕ → ℕ → List ℕ
opened_row number size = number ∷ (size ∷ (0 ∷ (0 ∷ (0 ∷ (0 ∷ (0 ∷ []))))))

-- a place after a run of n fragments from k, counted from 0
abbrev pub place_ran : Place → ℕ → ℕ → ℕ → ℕ → Place
place_ran p number time k n = record { number = number; size = p.size; time = time; marks = mark_run p.marks k n }

-- how many marks are set before the first that is not, 256 where all are
pub record FirstGap (m : List ℕ) (r : ℕ) : Type 0 where
  pub most : r ≤ most_fragments
  pub before : (j : ℕ) → j < r → marked m j ≡ true
  pub gap : r < most_fragments → marked m r ≡ false

-- what is asked where the fragments of a place are counted
pub record Counts (w : List ℕ) (seat : ℕ) : Type 0 where
  pub long : length w ≡ assembler_size
  pub within : seat < place_count
  pub some : 0 < get_or w 0 0
  pub fragment_size : get_or w 0 0 < 65536
  pub few : fragments (place_at (places_of w) seat).size (get_or w 0 0) ≤ most_fragments
