-- Demand 3 is not vacuous: a chain that meets every premise, with another number, a refused call, a cleaning and a look in between, by computation.
-- Assumes nothing.
use Prim.Native.Nat.{ℕ, ◌*◌}
use native.Mathlib.Omega.{arith}
use mathlib.Core.Path.{◌≡◌, refl}
use mathlib.Core.Bool.{Bool, true}
use mathlib.Core.Logic.{inl, inr}
use mathlib.Core.List.{List, [], ◌∷◌}
use lib.ListN.{replicate}
use lib.IntN.{pos}
use Rattle.assembly_record.specs.Sizes.{place_count}
use Rattle.outcome.specs.Outcome.{done}
use Rattle.fragment_assembler.proofs.SetUpLaws.{fresh_ok}
use Rattle.fragment_assembler.specs.Call.{fragment, begin_work, run_work, accepted_fragment, end_at, drop_if_full, returned}
use Rattle.fragment_assembler.specs.Clean.{clean}
use Rattle.assembly_record.specs.Stale.{stale_numbers}
use Rattle.assembly_record.specs.Fragments.{fragments}
use Rattle.assembly_record.specs.Marks.{marked, with_mark}
use Rattle.fragment_assembler.specs.Fragment.{Fragment, fragment_with}
use Rattle.fragment_assembler.specs.Refusal.{fragment_refusal}
use Rattle.fragment_assembler.specs.SetUp.{fresh_assembler}
use Rattle.no_starvation.specs.Starve.{Moment, moment, moment_after, arrives, cleans, Stretch, stretch_of, Chain, looks, answer_of}
use Rattle.assembly_record.specs.Table.{has_number}
use Rattle.fragment_assembler.specs.View.{viewed}
use Rattle.no_starvation.specs.Starve as starve

-- a fresh assembler, and an area of old bytes
abbrev pub begins : ℕ → Bool → ℕ → Moment
begins fragment_size reliable place_size = moment (fresh_assembler fragment_size reliable place_size) (replicate (place_count * place_size) 9)

-- block 5, three bytes in two fragments of two; places of four bytes
abbrev block : List ℕ
block = 1 ∷ (2 ∷ (3 ∷ []))

-- its first fragment, at time 10
abbrev one : Fragment
one = fragment_with 10 5 2 3 1 1 (1 ∷ (2 ∷ []))

-- a fragment of block 3, at time 7
abbrev another : Fragment
another = fragment_with 7 3 2 4 1 1 (8 ∷ (8 ∷ []))

-- a fragment of block 5 with a wrong size: refused
abbrev wrong : Fragment
wrong = fragment_with 11 5 9 3 2 1 (4 ∷ [])

-- its last fragment, at an earlier time
abbrev two : Fragment
two = fragment_with 6 5 2 3 2 1 (3 ∷ [])

abbrev m₁ : Moment
m₁ = moment_after (begins 2 true 4) (arrives one)

abbrev m₂ : Moment
m₂ = moment_after m₁ (arrives another)

abbrev m₃ : Moment
m₃ = moment_after m₂ (arrives wrong)

-- the cleaning drops block 3
abbrev m₄ : Moment
m₄ = moment_after m₃ (cleans 10 (replicate 2 (pos 0)))

abbrev runs : List Stretch
runs = stretch_of one ∷ []

pub example : Chain 5 block (moment_after m₄ looks) runs 10
unfolding fragment accepted_fragment begin_work run_work end_at drop_if_full fragment_refusal has_number fragments marked with_mark clean stale_numbers
example =
    starve.Chain.other
    (starve.Chain.other
    (starve.Chain.other
    (starve.Chain.other
    (starve.Chain.own (starve.Chain.start {m = begins 2 true 4} {time = 0} (fresh_ok 2 true 4 (omega arith) (omega arith) (omega arith) (omega arith)) refl refl) one refl refl
    (record { size = refl; begins = refl }) refl (omega arith))
    (arrives another) (inl (λ e. omega arith)) (omega arith))
    (arrives wrong) (inr (λ e. omega arith)) (omega arith))
    (cleans 10 (replicate 2 (pos 0))) (omega arith) (omega arith))
    looks tt (omega arith)

-- and its last fragment returns it, with the sender's bytes
pub example_returned : (answer_of (moment_after m₄ looks) (arrives two) ≡ done (returned 5 0 3)) × (viewed (moment_after (moment_after m₄ looks) (arrives two)).state (moment_after (moment_after m₄ looks) (arrives two)).area 0 3 ≡ block)
unfolding fragment accepted_fragment begin_work run_work end_at drop_if_full fragment_refusal has_number fragments marked with_mark clean stale_numbers viewed
example_returned = (refl, refl)
