-- The rows of document 01's table by name, and what a call's result says by their numbers. Assumes nothing.
use Rattle.std.specs.Prelude.{ℕ, Result, Ok, Err}
use Rattle.outcome.specs.Outcome.{Outcome, refused, done}
use Rattle.outcome.specs.declared.Refusal.{Refusal}
use Rattle.outcome.specs.declared.Refusal.TheVariants as row

-- the column "No."
abbrev pub number_of_refusal : Refusal → ℕ
number_of_refusal row.EndsEarly = 1
number_of_refusal row.TooManyBits = 2
number_of_refusal row.ShortOutput = 3
number_of_refusal row.NoNumber = 4
number_of_refusal row.BackwardRange = 5
number_of_refusal row.OtherFragmentSize = 6
number_of_refusal row.ShortSample = 7
number_of_refusal row.LongSample = 8
number_of_refusal row.ManyFragments = 9
number_of_refusal row.EmptyRun = 10
number_of_refusal row.StartZero = 11
number_of_refusal row.RunPastEnd = 12
number_of_refusal row.ShortArea = 13
number_of_refusal row.BadSetUp = 14
number_of_refusal row.NotRising = 15

-- what a call's result says: refused with the row's number, or done with what it found
abbrev pub said : {A : Type 0} → Result A Refusal → Outcome A
said (Ok a) = done a
said (Err r) = refused (number_of_refusal r)
