-- What an accepted call leaves in a lent list. Assumes nothing.
use Rattle.std.specs.Prelude.{List, ◌++◌, length, drop}

-- "An accepted call keeps the output entries past its answer as they were": the answer, and past it what was there
abbrev pub over : {A : Type 0} → List A → List A → List A
over answer out = answer ++ drop (length answer) out
