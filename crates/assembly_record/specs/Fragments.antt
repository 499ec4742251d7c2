-- The arithmetic of fragments (RTPS 2.5, 8.3.8.3): how many a sample has, and which bytes a run of them brings. Assumes nothing.
use Rattle.std.specs.Prelude.{ℕ, ◌+◌, ◌*◌, ◌-◌, ◌/◌, ◌%◌, min, Bool, cond, List, length, eqb}
use Rattle.assembly_record.specs.State.{Place}
use Rattle.assembly_record.specs.Marks.{marked, all_below}

-- "A sample of D bytes has F = ceil(D / f) fragments"
unfoldable pub fragments : ℕ → ℕ → ℕ
fragments d f = (d + (f - 1)) / f

-- the same as RTPS 2.5 writes it (8.3.8.3.5): "(dataSize / fragmentSize) + ((dataSize % fragmentSize) ? 1 : 0)"
abbrev pub fragments_on_paper : ℕ → ℕ → ℕ
fragments_on_paper d f = d / f + cond (eqb (d % f) 0) 0 1

-- "fragment k holds bytes (k-1)*f up to, without, min(k*f, D)"
abbrev pub first_byte : ℕ → ℕ → ℕ
first_byte k f = (k - 1) * f

abbrev pub end_byte : ℕ → ℕ → ℕ → ℕ
end_byte k f d = min (k * f) d

-- "A run (start k, n fragments) copies min(n*f, payload length, D - (k-1)*f) payload bytes"
abbrev pub brings : ℕ → ℕ → ℕ → ℕ → List ℕ → ℕ
brings d f k n payload = min (n * f) (min (length payload) (d - first_byte k f))

-- whether all fragments of a place are marked
abbrev pub is_whole : ℕ → Place → Bool
is_whole f p = all_below (marked p.marks) (fragments p.size f)
