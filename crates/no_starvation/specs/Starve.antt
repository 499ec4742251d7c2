-- Demand 3, "Others can't starve a block", sentence by sentence. Read `Chain` (what is supposed) and `Delivered` (what follows); the theorem is
-- `not_starved` of `proofs/StarveLaws.antt`, and of the public calls `calls_not_starved` of `proofs/StarveCalls.antt`. Assumes nothing.
use Rattle.std.specs.Prelude.{ℕ, ◌*◌, ◌-◌, ◌<◌, ◌≤◌, min, ◌≡◌, Bool, true, false, ◌||◌, ◌⊎◌, List, [], ◌∷◌, length, take, drop, ℤ, T, eqb, Result}
use Rattle.outcome.specs.Outcome.{Outcome, refused, done, is_refused}
use Rattle.fragment_assembler.specs.declared.fragment.Answer.{Answer}
use Rattle.outcome.specs.declared.Refusal.{Refusal}
use Rattle.assembly_record.specs.State.{Assembler}
use Rattle.assembly_record.specs.Table.{is_partially_received, lower}
use Rattle.assembly_record.specs.Marks.{covers, all_below}
use Rattle.assembly_record.specs.Fragments.{fragments, first_byte}
use Rattle.fragment_assembler.specs.Fragment.{Fragment, head_of}
use Rattle.fragment_assembler.specs.Refusal.{fragment_refusal}
use Rattle.fragment_assembler.specs.Call.{Fate, kept, returned, dropped, fragment_said, fragment}
use Rattle.fragment_assembler.specs.Clean.{clean}
use Rattle.fragment_assembler.specs.View.{viewed}
use Rattle.assembly_record.specs.Words.{assembler_of}
use Rattle.assembly_record.specs.Rules.{AssemblerRules, GoodAssembler}
use Rattle.fragment_assembler.specs.Promise.{TakesFragment, CleansAssembler}

-- ---- the calls of the assembler, of any kind

-- what stands between two calls: the state, and the area that "every call lends .. which nobody else writes"
pub record Moment : Type 0 where
  pub state : Assembler
  pub area : List ℕ

abbrev pub moment : Assembler → List ℕ → Moment
moment a area = record { state = a; area = area }

-- a fragment call; a cleaning, with its lent list; a call that only looks: the view, the missing fragments, the queries
pub data Event : Type 0 where
  arrives : Fragment → Event
  cleans : ℕ → List ℤ → Event
  looks : Event

-- the next moment: each call takes the state and the area that the last one left
abbrev pub moment_after : Moment → Event → Moment
moment_after m (arrives c) = moment (fragment m.state m.area c).state (fragment m.state m.area c).area
moment_after m (cleans cutoff out) = moment (clean m.state cutoff out).state m.area
moment_after m looks = m

-- what a call says of a returned number: only a fragment call returns one
abbrev pub answer_of : Moment → Event → Outcome Fate
answer_of m (arrives c) = (fragment m.state m.area c).answer
answer_of m (cleans cutoff out) = done kept
answer_of m looks = done kept

-- whether an answer returns the number n
abbrev pub returns : ℕ → Outcome Fate → Bool
returns n (refused k) = false
returns n (done kept) = false
returns n (done (returned m i d)) = eqb m n
returns n (done (dropped m)) = false

-- whether a fragment call is accepted
abbrev pub TakenAt : Moment → Fragment → Type 0
TakenAt m c = fragment_refusal m.state (length m.area) (head_of c) ≡ 0

-- ---- the block, and what has been brought of it

-- how many bytes of the block B the call's fragments are
abbrev pub wants : ℕ → List ℕ → Fragment → ℕ
wants f B c = min (c.count * f) (length B - first_byte c.start f)

-- "A fragment is cut from a block by the rule if its data size is the block's length and its payload begins with the block's bytes of fragments k to
-- k + n - 1, whole"
pub record Cut (f : ℕ) (B : List ℕ) (c : Fragment) : Type 0 where
  pub size : c.data_size ≡ length B
  pub begins : take (wants f B c) c.payload ≡ take (wants f B c) (drop (first_byte c.start f) B)

-- the run of a fragment: how many fragments, and from which, counted from 0
pub record Stretch : Type 0 where
  pub from : ℕ
  pub count : ℕ

abbrev pub stretch_of : Fragment → Stretch
stretch_of c = record { from = c.start - 1; count = c.count }

-- whether one of the runs has fragment j, counted from 0
abbrev pub brought : List Stretch → ℕ → Bool
brought [] j = false
brought (r ∷ rs) j = brought rs j || covers r.from r.count j

-- whether the runs have all fragments of the block
abbrev pub is_brought : ℕ → List ℕ → List Stretch → Bool
is_brought f B rs = all_below (brought rs) (fragments (length B) f)

-- ---- what is supposed

-- "Whatever else arrives": a fragment of another number or one that is refused, a cleaning whose cutoff does not lie "after the time its most
-- recently accepted fragment stored", or a call that only looks
abbrev pub Other : ℕ → ℕ → Moment → Event → Type 0
Other N time m (arrives c) = (c.number ≡ N → ⊥) ⊎ (TakenAt m c → ⊥)
Other N time m (cleans cutoff out) = cutoff ≤ time
Other N time m looks = T true

-- "128 lower numbers are never in assembly at once". (The proof needs it only after accepted fragment calls.)
abbrev pub Bounded : ℕ → Moment → Type 0
Bounded N m = lower N m.state.places < 128

-- The calls since the block N, which is B, was not in assembly, none of which has returned it: the moment that they lead to, the runs that were
-- accepted under N, and the time that the last of them stored.
pub data Chain (N : ℕ) (B : List ℕ) : Moment → List Stretch → ℕ → Type 0 where
  -- "In reliable mode let a block open": it is not in assembly yet
  start : {m : Moment} {time : ℕ} → AssemblerRules m.state → m.state.reliable ≡ true → is_partially_received m.state.places N ≡ false → Chain N B m [] time
  -- "all accepted fragments under its number are cut from it by the rule", "Until it is returned"
  own : {m : Moment} {rs : List Stretch} {time : ℕ} → Chain N B m rs time → (c : Fragment) → c.number ≡ N → TakenAt m c → Cut m.state.fragment_size B c
      → returns N (answer_of m (arrives c)) ≡ false → Bounded N (moment_after m (arrives c)) → Chain N B (moment_after m (arrives c)) (stretch_of c ∷ rs) c.time
  -- "Whatever else arrives"
  other : {m : Moment} {rs : List Stretch} {time : ℕ} → Chain N B m rs time → (e : Event) → Other N time m e → Bounded N (moment_after m e)
      → Chain N B (moment_after m e) rs time

-- ---- what follows

-- an accepted fragment under N, cut from B, after such calls
pub record Delivered (N : ℕ) (B : List ℕ) (m : Moment) (rs : List Stretch) (c : Fragment) : Type 0 where
  -- "the call bringing its last missing fragment returns it, if accepted; no call before does"
  pub exactly : returns N (answer_of m (arrives c)) ≡ is_brought m.state.fragment_size B (stretch_of c ∷ rs)
  -- "and its bytes are the sender's": what the view then shows of the place and the length that the answer names is the block
  pub bytes : is_brought m.state.fragment_size B (stretch_of c ∷ rs) ≡ true
      → (i : ℕ) × (answer_of m (arrives c) ≡ done (returned N i (length B))) × (viewed (moment_after m (arrives c)).state (moment_after m (arrives c)).area i (length B) ≡ B)

-- ---- the same of the public calls

-- `Chain` in the words and the area that the calls take and leave, by nothing but their promises. A call that only looks takes both as they are.
pub data ChainOfCalls (N : ℕ) (B : List ℕ) : List ℕ → List ℕ → List Stretch → ℕ → Type 0 where
  start : {w area : List ℕ} {time : ℕ} → GoodAssembler w → (assembler_of w).reliable ≡ true → is_partially_received (assembler_of w).places N ≡ false → ChainOfCalls N B w area [] time
  own : {w area : List ℕ} {rs : List Stretch} {time : ℕ} → ChainOfCalls N B w area rs time → (c : Fragment) (r : Result Answer Refusal) (w' area' : List ℕ) → TakesFragment w area c r w' area'
      → c.number ≡ N → is_refused (fragment_said r) ≡ false → Cut (assembler_of w).fragment_size B c → returns N (fragment_said r) ≡ false → lower N (assembler_of w').places < 128
      → ChainOfCalls N B w' area' (stretch_of c ∷ rs) c.time
  other : {w area : List ℕ} {rs : List Stretch} {time : ℕ} → ChainOfCalls N B w area rs time → (c : Fragment) (r : Result Answer Refusal) (w' area' : List ℕ) → TakesFragment w area c r w' area'
      → (c.number ≡ N → ⊥) ⊎ (is_refused (fragment_said r) ≡ true) → lower N (assembler_of w').places < 128 → ChainOfCalls N B w' area' rs time
  cleaned : {w area : List ℕ} {rs : List Stretch} {time : ℕ} → ChainOfCalls N B w area rs time → (cutoff : ℕ) (out : List ℤ) (r : Result ℕ Refusal) (w' : List ℕ) (out' : List ℤ)
      → CleansAssembler w cutoff out r w' out' → cutoff ≤ time → lower N (assembler_of w').places < 128 → ChainOfCalls N B w' area rs time

-- an accepted fragment under N, cut from B, after such calls: its answer, and what the view shows on the words and the area that it left
pub record DeliveredByCall (N : ℕ) (B : List ℕ) (w : List ℕ) (rs : List Stretch) (c : Fragment) (r : Result Answer Refusal) (w' area' : List ℕ) : Type 0 where
  pub exactly : returns N (fragment_said r) ≡ is_brought (assembler_of w).fragment_size B (stretch_of c ∷ rs)
  pub bytes : is_brought (assembler_of w).fragment_size B (stretch_of c ∷ rs) ≡ true
      → (i : ℕ) × (fragment_said r ≡ done (returned N i (length B))) × (viewed (assembler_of w') area' i (length B) ≡ B)
