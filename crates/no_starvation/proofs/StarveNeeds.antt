-- Each premise of demand 3 is needed: for each, calls from a fresh assembler that break this one and meet every other, and after which the block is not
-- delivered. Assumes nothing.
use Prim.Native.Nat.{ℕ, zero, suc}
use native.Mathlib.Omega.{arith}
use mathlib.Core.Path.{◌≡◌, refl, sym, subst}
use mathlib.Core.Bool.{Bool, true, false}
use mathlib.Core.List.{List, [], ◌∷◌}
use lib.ListN.{replicate}
use lib.IntN.{pos}
use Rattle.outcome.specs.Outcome.{done}
use Rattle.fragment_assembler.proofs.CallRules.{fragment_ok}
use Rattle.fragment_assembler.proofs.SetUpLaws.{fresh_ok}
use Rattle.no_starvation.proofs.StarveExample.{begins}
use Rattle.fragment_assembler.specs.Call.{begin_work, fragment, accepted_fragment, run_work, end_at, drop_if_full, returned}
use Rattle.fragment_assembler.specs.Clean.{clean}
use Rattle.assembly_record.specs.Stale.{stale_numbers}
use Rattle.assembly_record.specs.Fragments.{fragments}
use Rattle.assembly_record.specs.Marks.{with_mark, marked}
use Rattle.assembly_record.specs.Rules.{AssemblerRules}
use Rattle.fragment_assembler.specs.Fragment.{Fragment, fragment_with}
use Rattle.fragment_assembler.specs.Refusal.{fragment_refusal}
use Rattle.fragment_assembler.specs.SetUp.{fresh_assembler}
use Rattle.assembly_record.specs.State.{Place, free_place, with_places}
use Rattle.assembly_record.specs.Table.{lower, has_number, is_partially_received}
use Rattle.fragment_assembler.specs.View.{viewed}
use Rattle.no_starvation.specs.Starve.{Moment, moment, answer_of, returns, arrives, moment_after, cleans, TakenAt, Cut, stretch_of, is_brought, Bounded, Chain}
use Rattle.no_starvation.specs.Starve as starve

abbrev block : List ℕ
block = 1 ∷ (2 ∷ [])

-- the first of the two fragments of block n
abbrev one : ℕ → Fragment
one n = fragment_with 10 n 1 2 1 1 (1 ∷ [])

-- the second of block 200
abbrev two : Fragment
two = fragment_with 11 200 1 2 2 1 (2 ∷ [])

-- after the first fragments of k blocks, numbered from n
abbrev crowd : ℕ → ℕ → Moment → Moment
crowd n zero m = m
crowd n (suc k) m = crowd (suc n) k (moment_after m (arrives (one n)))

-- what they leave: k places taken, their second bytes zero
abbrev taken : ℕ → ℕ → List Place
taken n zero = free_place ∷ []
taken n (suc k) = record { number = n; size = 2; time = 10; marks = 1 ∷ (0 ∷ (0 ∷ (0 ∷ []))) } ∷ taken (suc n) k

abbrev filled : ℕ → List ℕ
filled zero = replicate 2 9
filled (suc k) = 1 ∷ (0 ∷ filled k)

abbrev full : Bool → ℕ → Moment
full reliable n = moment (with_places (fresh_assembler 1 reliable 2) (taken n 128)) (filled 128)

higher_full : crowd 201 128 (begins 1 false 2) ≡ full false 201
unfolding fragment accepted_fragment begin_work run_work end_at drop_if_full fragment_refusal has_number fragments marked with_mark
higher_full = refl

lower_full : crowd 1 128 (begins 1 true 2) ≡ full true 1
unfolding fragment accepted_fragment begin_work run_work end_at drop_if_full fragment_refusal has_number fragments marked with_mark
lower_full = refl

crowd_ok : (n k : ℕ) (m : Moment) → AssemblerRules m.state → AssemblerRules (crowd n k m).state
crowd_ok n zero m g = g
crowd_ok n (suc k) m g = crowd_ok (suc n) k (moment_after m (arrives (one n))) (fragment_ok m.state m.area (one n) g)

begins_ok : (reliable : Bool) → AssemblerRules (begins 1 reliable 2).state
begins_ok reliable = fresh_ok 1 reliable 2 (omega arith) (omega arith) (omega arith) (omega arith)

-- ---- what is supposed of a fragment of the block, and the two ends that the theorem excludes

-- an accepted fragment under 200, cut from the block
pub record Comes (m : Moment) (c : Fragment) : Type 0 where
  number : c.number ≡ 200
  ok : TakenAt m c
  cut : Cut m.state.fragment_size block c

-- the second fragment comes where the first was accepted, and does not return the block
pub record Starved (m : Moment) : Type 0 where
  comes : Comes m two
  last : is_brought m.state.fragment_size block (stretch_of two ∷ (stretch_of (one 200) ∷ [])) ≡ true
  silent : returns 200 (answer_of m (arrives two)) ≡ false

-- the second fragment comes and returns the block, but the view shows these bytes
pub record Spoilt (m : Moment) (bytes : List ℕ) : Type 0 where
  comes : Comes m two
  back : answer_of m (arrives two) ≡ done (returned 200 0 2)
  seen : viewed (moment_after m (arrives two)).state (moment_after m (arrives two)).area 0 2 ≡ bytes

-- ---- the mode and the bound

-- The first fragment comes, by the other premises of `start` and `own`, in this mode and with so many lower numbers in assembly after it; and the block is
-- starved.
pub record Drops (reliable : Bool) (few : ℕ) (m : Moment) : Type 0 where
  rules : AssemblerRules m.state
  mode : m.state.reliable ≡ reliable
  absent : is_partially_received m.state.places 200 ≡ false
  comes : Comes m (one 200)
  silent : returns 200 (answer_of m (arrives (one 200))) ≡ false
  below : lower 200 (moment_after m (arrives (one 200))).state.places ≡ few
  starved : Starved (moment_after m (arrives (one 200)))

-- "In reliable mode": in best effort, with 201 to 328 in assembly, block 200 goes as the lowest, though no lower number is in assembly
pub reliable_needed : Drops false 0 (crowd 201 128 (begins 1 false 2))
unfolding fragment accepted_fragment begin_work run_work end_at drop_if_full fragment_refusal has_number fragments marked with_mark
reliable_needed =
    subst (Drops false 0) (sym higher_full)
    (record {
      rules = subst (λ (m : Moment). AssemblerRules m.state) higher_full (crowd_ok 201 128 (begins 1 false 2) (begins_ok false));
      mode = refl;
      absent = refl;
      comes = record { number = refl; ok = refl; cut = record { size = refl; begins = refl } };
      silent = refl;
      below = refl;
      starved = record { comes = record { number = refl; ok = refl; cut = record { size = refl; begins = refl } }; last = refl; silent = refl };
    })

-- "128 lower numbers are never in assembly at once": with 1 to 128 in assembly block 200 goes as the highest
pub bound_needed : Drops true 128 (crowd 1 128 (begins 1 true 2))
unfolding fragment accepted_fragment begin_work run_work end_at drop_if_full fragment_refusal has_number fragments marked with_mark
bound_needed =
    subst (Drops true 128) (sym lower_full)
    (record {
      rules = subst (λ (m : Moment). AssemblerRules m.state) lower_full (crowd_ok 1 128 (begins 1 true 2) (begins_ok true));
      mode = refl;
      absent = refl;
      comes = record { number = refl; ok = refl; cut = record { size = refl; begins = refl } };
      silent = refl;
      below = refl;
      starved = record { comes = record { number = refl; ok = refl; cut = record { size = refl; begins = refl } }; last = refl; silent = refl };
    })

-- ---- the cutoff, the area and the rule of cutting

fresh : Chain 200 block (begins 1 true 2) [] 0
unfolding has_number
fresh = starve.Chain.start (begins_ok true) refl refl

-- after the first fragment
abbrev opened : Moment
opened = moment_after (begins 1 true 2) (arrives (one 200))

chain : Chain 200 block opened (stretch_of (one 200) ∷ []) 10
unfolding fragment accepted_fragment begin_work run_work end_at drop_if_full fragment_refusal has_number fragments marked with_mark
chain = starve.Chain.own fresh (one 200) refl refl (record { size = refl; begins = refl }) refl (omega arith)

-- "no cleaning cutoff lies after the time its most recently accepted fragment stored": cleaned at 11 the block of time 10 goes, and its last fragment
-- opens it anew
abbrev cleaned : Moment
cleaned = moment_after opened (cleans 11 (replicate 1 (pos 0)))

pub cutoff_needed : Chain 200 block opened (stretch_of (one 200) ∷ []) 10 × Bounded 200 cleaned × Starved cleaned
unfolding fragment accepted_fragment begin_work run_work end_at drop_if_full fragment_refusal has_number fragments marked with_mark clean stale_numbers
cutoff_needed = (
  chain,
  omega arith,
  record { comes = record { number = refl; ok = refl; cut = record { size = refl; begins = refl } }; last = refl; silent = refl },
)

-- "every call lends the same area, which nobody else writes": with other bytes in it the block is not the sender's
pub area_needed : Chain 200 block opened (stretch_of (one 200) ∷ []) 10 × Spoilt (moment opened.state (replicate 258 7)) (7 ∷ (2 ∷ []))
unfolding fragment accepted_fragment begin_work run_work end_at drop_if_full fragment_refusal has_number fragments marked with_mark viewed
area_needed = (chain, record { comes = record { number = refl; ok = refl; cut = record { size = refl; begins = refl } }; back = refl; seen = refl })

-- "all accepted fragments under its number are cut from it by the rule": a payload that is too short leaves zeros
abbrev short : Fragment
short = fragment_with 10 200 1 2 1 1 []

pub cut_needed : Chain 200 block (begins 1 true 2) [] 0 × (short.number ≡ 200) × TakenAt (begins 1 true 2) short
    × (returns 200 (answer_of (begins 1 true 2) (arrives short)) ≡ false) × Bounded 200 (moment_after (begins 1 true 2) (arrives short))
    × Spoilt (moment_after (begins 1 true 2) (arrives short)) (0 ∷ (2 ∷ []))
unfolding fragment accepted_fragment begin_work run_work end_at drop_if_full fragment_refusal has_number fragments marked with_mark viewed
cut_needed = (
  fresh,
  refl,
  refl,
  refl,
  omega arith,
  record { comes = record { number = refl; ok = refl; cut = record { size = refl; begins = refl } }; back = refl; seen = refl },
)
