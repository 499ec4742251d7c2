-- The view of a returned sample: "place and length in, that part out; the empty part if it would pass the area's end". Assumes nothing.
use Rattle.std.specs.Prelude.{ℕ, ◌+◌, ◌*◌, Bool, cond, List, [], length, take, drop, leb}
use Rattle.assembly_record.specs.State.{Assembler}

-- "place i starting at i*p": whether the n bytes from there on end within an area of so many bytes
abbrev pub is_shown : Assembler → ℕ → ℕ → ℕ → Bool
is_shown a long i n = leb (i * a.place_size + n) long

unfoldable pub viewed : Assembler → List ℕ → ℕ → ℕ → List ℕ
viewed a area i n = cond (is_shown a (length area) i n) (take n (drop (i * a.place_size) area)) []

-- where that part begins in the area; 0 where it would pass the area's end
unfoldable pub view_start : Assembler → ℕ → ℕ → ℕ → ℕ
view_start a long i n = cond (is_shown a long i n) (i * a.place_size) 0
