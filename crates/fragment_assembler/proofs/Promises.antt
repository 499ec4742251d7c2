-- What the assembler promises, under document 01's words. Each theorem speaks of the state; a public call's promise (`specs/Promise.antt`) ties it to
-- the lent words. Assumes nothing.
use Prim.Native.Nat.{ℕ, suc, ◌+◌, ◌*◌, ◌-◌, ◌≤◌, ◌<◌}
use native.Mathlib.Omega.{arith}
use mathlib.Core.Path.{◌≡◌, sym, ap, subst, ◌∙◌}
use mathlib.Core.Bool.{Bool, true, false, cond, not, ◌||◌}
use mathlib.Core.Logic.{◌⊎◌}
use mathlib.Core.List.{List, [], Memᴰ}
use lib.ListN.{length, get_or, set, take, drop}
use lib.IntN.{ℤ}
use lib.Dec.{ltb, eqb}
use Rattle.assembly_record.specs.Sizes.{place_count, largest_place, assembler_size}
use borrow.Author.Tests.{eqb-true, not-false}
use Rattle.outcome.specs.Outcome.{done, is_refused}
use Rattle.outcome.specs.Answers.{SetUpReply, ListReply}
use Rattle.outcome.specs.Refusal.{said}
use Rattle.outcome.specs.declared.Refusal.{Refusal}
use Rattle.std.specs.Prelude.{Result}
use Rattle.fragment_assembler.proofs.CallRules.{fragment_ok}
use Rattle.fragment_assembler.proofs.CallLaws.{fragment_fixed}
use Rattle.fragment_assembler.proofs.CleanLaws.{clean_ok, clean_fixed}
use Rattle.assembly_record.proofs.SweepLaws.{at_sweep, swept_early, swept_late}
use Rattle.assembly_record.proofs.FragmentsLaws.{fragments_cover, fragment_starts, fragments_some, fragments_on_paper_lem}
use Rattle.fragment_assembler.proofs.MissingLaws.{missing_members, missing_rises, missing_absent}
use Rattle.fragment_assembler.proofs.PlacingLaws.{placed_seat, placed_long, placed_run, placed_fragment, placed_zero, placed_others, placed_others_opening, ran_as, ends_returned, ends_drops, ends_keeps, ends_dropped_only, ends_returned_only, returned_inside, shown_whole}
use Rattle.fragment_assembler.proofs.ViewLaws.{shown_front}
use Rattle.assembly_record.proofs.RulesLaws.{ok_back, ok_good}
use Rattle.fragment_assembler.proofs.SetUpLaws.{fresh_ok, set_up_record}
use Rattle.assembly_record.proofs.StaleLaws.{listed_rising, listed_stale, stale_listed}
use Rattle.assembly_record.proofs.TableLaws.{highest_found, highest_ge, lowest_found, lowest_le, query_found, query_finds}
use Rattle.fragment_assembler.specs.Call.{fragment, Work, begin_work, run_work, run_length, run_at, kept, returned, dropped, accepted_fragment, FragmentReply, fragment_said}
use Rattle.assembly_record.specs.Fragments.{is_whole, fragments, fragments_on_paper, first_byte, end_byte}
use Rattle.assembly_record.specs.Table.{victim, has_number, find, in_assembly, is_partially_received}
use Rattle.fragment_assembler.specs.Clean.{clean, CleanReply}
use Rattle.assembly_record.specs.Stale.{stale_numbers, sweep}
use Rattle.assembly_record.specs.Marks.{marked, covers}
use Rattle.fragment_assembler.specs.Missing.{missing_fragments, missing_fragments_for}
use Rattle.fragment_assembler.specs.Promise.{SetsUpAssembler, TakesFragment, CleansAssembler, ListsFragments}
use Rattle.fragment_assembler.specs.Fragment.{Fragment, head_of, run_of}
use Rattle.fragment_assembler.specs.Refusal.{fragment_refusal}
use Rattle.assembly_record.specs.Rules.{AssemblerRules, GoodAssembler, Distinct}
use Rattle.fragment_assembler.specs.SetUp.{fresh_assembler, set_up_assembler, set_up_refusal}
use Rattle.assembly_record.specs.State.{Assembler, Fixed, free_place, place_at, Place}
use Rattle.fragment_assembler.specs.View.{viewed, view_start}
use Rattle.assembly_record.specs.Words.{assembler_of, assembler_words}
use Rattle.outcome.proofs.Split.{split}
use Rattle.fragment_assembler.specs.declared.fragment.Answer.{Answer}

-- ==== Fragments

-- "A sample of D bytes has F = ceil(D / f) fragments": F of them cover the sample, and one fewer do not
pub fragments_ceil : (d f : ℕ) → 0 < f → 0 < d → (d ≤ fragments d f * f) × ((fragments d f - 1) * f < d)
fragments_ceil d f p h =
    (fragments_cover d f p, fragment_starts d f (fragments d f - 1) p (omega (arith, fragments_some d f p h)))

-- the same number as RTPS 2.5 writes it (8.3.8.3)
pub fragments_paper : (d f : ℕ) → 0 < f → fragments d f ≡ fragments_on_paper d f
fragments_paper d f p = fragments_on_paper_lem d f p

-- ==== Placing

module _ (a : Assembler) (area : List ℕ) (c : Fragment) (g : AssemblerRules a) (e : fragment_refusal a (length area) (head_of c) ≡ 0) where
  abbrev after : List ℕ
  after = (fragment a area c).area

  abbrev start : Work
  start = begin_work a area c

  -- "Opening takes the lowest free place"; a number in assembly has its own, and no other has it
  pub works_at : (start.seat < place_count) × (start.seat ≡ cond (has_number a.places c.number) (find c.number a.places) (find 0 a.places))
  works_at = placed_seat a area c g e

  -- the area keeps its length
  pub area_long : length after ≡ length area
  area_long = placed_long a area c g e

  -- "copies .. payload bytes to (k-1)*f": which byte of the area holds which payload byte
  pub run_copied : (j : ℕ) → j < run_length a (run_of c) start → get_or after (run_at a (run_of c) start + j) 0 ≡ get_or c.payload j 0
  run_copied = placed_run a area c g e

  -- "fragment k holds bytes (k-1)*f up to, without, min(k*f, D)": each fragment of the run whose payload came
  pub fragment_copied : (k b : ℕ) → c.start ≤ k → k < c.start + c.count → first_byte k a.fragment_size ≤ b → b < end_byte k a.fragment_size start.place.size
      → b - first_byte c.start a.fragment_size < length c.payload
      → get_or after (start.seat * a.place_size + b) 0 ≡ get_or c.payload (b - first_byte c.start a.fragment_size) 0
  fragment_copied = placed_fragment a area c g e

  -- "the first D bytes of that place are set to zero": what an opening run does not bring is zero
  pub rest_cleared : has_number a.places c.number ≡ false → (b : ℕ) → b < c.data_size
      → (b < first_byte c.start a.fragment_size) ⊎ (first_byte c.start a.fragment_size + run_length a (run_of c) start ≤ b) → get_or after (start.seat * a.place_size + b) 0 ≡ 0
  rest_cleared = placed_zero a area c g e

  -- "Other area bytes keep their values": of a number in assembly all but the run's, of one that opens all but the first D of its place
  pub others_kept : has_number a.places c.number ≡ true → (x : ℕ) → (x < run_at a (run_of c) start) ⊎ (run_at a (run_of c) start + run_length a (run_of c) start ≤ x)
      → get_or after x 0 ≡ get_or area x 0
  others_kept = placed_others a area c g e

  pub others_kept_opening : has_number a.places c.number ≡ false → (x : ℕ)
      → (x < start.seat * a.place_size) ⊎ (start.seat * a.place_size + c.data_size ≤ x) → get_or after x 0 ≡ get_or area x 0
  others_kept_opening = placed_others_opening a area c g e

  -- ==== Answers

  -- the place after the run, and the table with it
  abbrev worked : Place
  worked = (run_work a (run_of c) start).place

  abbrev table : List Place
  table = set a.places start.seat worked

  -- "marks all n, and stores the passed time as it is, even an earlier one"
  pub run_marks : (worked.number ≡ c.number) × (worked.time ≡ c.time)
      × ((j : ℕ) → marked worked.marks j ≡ marked start.place.marks j || covers (c.start - 1) c.count j)
  run_marks = ran_as a area c g e

  -- "All marked: returned, place freed": it is asked before any drop
  pub whole_returned : is_whole a.fragment_size worked ≡ true
      → ((fragment a area c).answer ≡ done (returned c.number start.seat start.place.size)) × ((fragment a area c).state.places ≡ set a.places start.seat free_place)
  whole_returned = ends_returned a area c g e

  -- "Otherwise, if 129 are in assembly, the highest number is dropped (reliable) or the lowest (best effort)"
  pub unfinished_dropped : is_whole a.fragment_size worked ≡ false → in_assembly table ≡ place_count
      → ((fragment a area c).answer ≡ done (dropped (victim a.reliable table)))
      × ((fragment a area c).state.places ≡ set table (find (victim a.reliable table) table) free_place)
  unfinished_dropped = ends_drops a area c g e

  -- otherwise it is kept
  pub unfinished_kept : is_whole a.fragment_size worked ≡ false → (in_assembly table ≡ place_count → ⊥) → ((fragment a area c).answer ≡ done kept) × ((fragment a area c).state.places ≡ table)
  unfinished_kept = ends_keeps a area c g e

  -- a drop is of an unfinished 129th, and of exactly that number
  pub dropped_only : (n : ℕ) → (fragment a area c).answer ≡ done (dropped n)
      → (is_whole a.fragment_size worked ≡ false) × (in_assembly table ≡ place_count) × (n ≡ victim a.reliable table)
  dropped_only = ends_dropped_only a area c g e

  -- no answer returns another number, nor an unfinished sample
  pub returned_only : (n i d : ℕ) → (fragment a area c).answer ≡ done (returned n i d)
      → (is_whole a.fragment_size worked ≡ true) × (n ≡ c.number) × (i ≡ start.seat) × (d ≡ start.place.size)
  returned_only = ends_returned_only a area c g e

-- the highest: it is in assembly, and no number is above it
pub highest_goes : (ps : List Place) → in_assembly ps ≡ place_count → length ps ≡ place_count
    → (find (victim true ps) ps < place_count) × ((j : ℕ) → (place_at ps j).number ≤ victim true ps)
highest_goes ps h l = (omega (arith, highest_found ps (omega arith)), highest_ge ps)

-- the lowest: it is in assembly, and no number is below it
pub lowest_goes : (ps : List Place) → in_assembly ps ≡ place_count → length ps ≡ place_count
    → (find (victim false ps) ps < place_count) × ((j : ℕ) → j < place_count → victim false ps ≤ (place_at ps j).number)
lowest_goes ps h l = (omega (arith, lowest_found ps (omega arith)), λ j k. lowest_le ps j (omega arith))

-- ==== The record's rules

-- set-up makes them, and every call keeps them
pub set_up_rules : (f : ℕ) (reliable : Bool) (p : ℕ) → 0 < f → f < 65536 → 0 < p → p ≤ largest_place → AssemblerRules (fresh_assembler f reliable p)
set_up_rules = fresh_ok

pub fragment_rules : (a : Assembler) (area : List ℕ) (c : Fragment) → AssemblerRules a → AssemblerRules (fragment a area c).state
fragment_rules = fragment_ok

pub clean_rules : (a : Assembler) (t : ℕ) (out : List ℤ) → AssemblerRules a → AssemblerRules (clean a t out).state
clean_rules = clean_ok

-- what set-up leaves in a record's own 906 words is a record by the rules
pub set_up_leaves : (w : List ℕ) (f : ℕ) (reliable : Bool) (p : ℕ) (r : Result (Unit {0}) Refusal) (w' : List ℕ) → SetsUpAssembler w f reliable p r w' → length w' ≡ assembler_size
    → said r ≡ done tt → GoodAssembler w'
set_up_leaves = set_up_record

-- "with fixed fragment size f, mode reliable or best effort, and place size p": no call changes them
pub fragment_keeps_fixed : (a : Assembler) (area : List ℕ) (c : Fragment) → Fixed a (fragment a area c).state
fragment_keeps_fixed = fragment_fixed

pub clean_keeps_fixed : (a : Assembler) (t : ℕ) (out : List ℤ) → Fixed a (clean a t out).state
clean_keeps_fixed = clean_fixed

-- at most 128 are in assembly after a call, and no number stands at two places
pub after_a_call : (a : Assembler) (area : List ℕ) (c : Fragment) → AssemblerRules a
    → (in_assembly (fragment a area c).state.places ≤ 128) × Distinct (fragment a area c).state.places
after_a_call a area c g = let k = fragment_ok a area c g in (k.few, k.once)

-- one state is one record: the words stand for the state that they are the record of
pub record_stands : (a : Assembler) → AssemblerRules a → (assembler_of (assembler_words a) ≡ a) × GoodAssembler (assembler_words a)
record_stands a g = (ok_back a g, ok_good a g)

-- ==== Cleaning

-- "drops every sample whose stored time is below the cutoff", and no other
pub swept_exactly : (t : ℕ) (ps : List Place) (i : ℕ)
    → ((place_at ps i).time < t → place_at (sweep t ps) i ≡ free_place) × (t ≤ (place_at ps i).time → place_at (sweep t ps) i ≡ place_at ps i)
swept_exactly t ps i = (λ h. at_sweep t ps i ∙ swept_early t (place_at ps i) h, λ h. at_sweep t ps i ∙ swept_late t (place_at ps i) h)

-- the numbers are listed strictly rising
pub stale_rising : (t : ℕ) (a : Assembler) → AssemblerRules a → (i : ℕ) → suc i < length (stale_numbers t a.places)
    → get_or (stale_numbers t a.places) i 0 < get_or (stale_numbers t a.places) (suc i) 0
stale_rising t a g i h = listed_rising t a.places g.once i h

-- they are the numbers of the samples that are dropped, and no others
pub stale_exact : (t : ℕ) (a : Assembler) → AssemblerRules a → (n : ℕ) → 0 < n
    → ((i : ℕ) × (i < length (stale_numbers t a.places)) × (get_or (stale_numbers t a.places) i 0 ≡ n)
    → (j : ℕ) × ((place_at a.places j).number ≡ n) × ((place_at a.places j).time < t))
    × ((j : ℕ) × ((place_at a.places j).number ≡ n) × ((place_at a.places j).time < t)
    → (i : ℕ) × (i < length (stale_numbers t a.places)) × (get_or (stale_numbers t a.places) i 0 ≡ n))
stale_exact t a g n h = (listed_stale t a.places g.once n, stale_listed t a.places g.once n h)

-- ==== Missing fragments

-- k is listed exactly when it is one of the sample's fragments, numbered from 1, and not marked
pub missing_exact : (a : Assembler) (n : ℕ) → is_partially_received a.places n ≡ true → (k : ℕ)
    → (Memᴰ k (missing_fragments a n)
    → (0 < k) × (k ≤ fragments (place_at a.places (find n a.places)).size a.fragment_size) × (marked (place_at a.places (find n a.places)).marks (k - 1) ≡ false))
    × ((0 < k) × (k ≤ fragments (place_at a.places (find n a.places)).size a.fragment_size) × (marked (place_at a.places (find n a.places)).marks (k - 1) ≡ false)
    → Memᴰ k (missing_fragments a n))
missing_exact a n e k = missing_members a n e k

-- rising
pub missing_rising : (a : Assembler) (n i : ℕ) → suc i < length (missing_fragments a n) → get_or (missing_fragments a n) i 0 < get_or (missing_fragments a n) (suc i) 0
missing_rising a n i h = missing_rises a n i h

-- "a number not in assembly gives an empty list"
pub missing_none_of_another : (a : Assembler) (n : ℕ) → is_partially_received a.places n ≡ false → missing_fragments a n ≡ []
missing_none_of_another a n e = missing_absent a n e

-- ==== The queries

-- a number is in assembly exactly when it stands at a place
pub query_exact : (ps : List Place) (n : ℕ) → 0 < n
    → (is_partially_received ps n ≡ true → (j : ℕ) × (j < length ps) × ((place_at ps j).number ≡ n)) × ((j : ℕ) × (j < length ps) × ((place_at ps j).number ≡ n) → is_partially_received ps n ≡ true)
query_exact ps n h = (query_found ps n h, query_finds ps n h)

-- the view of a returned sample: its bytes lie in the area, and the view on the state that the call left shows them
pub returned_shown : (a : Assembler) (area : List ℕ) (c : Fragment) → AssemblerRules a → fragment_refusal a (length area) (head_of c) ≡ 0 → (n i d : ℕ) → (fragment a area c).answer ≡ done (returned n i d)
    → (i * a.place_size + d ≤ length (fragment a area c).area)
    × (viewed (fragment a area c).state (fragment a area c).area i d ≡ take d (drop (i * a.place_size) (fragment a area c).area))
returned_shown a area c g e n i d r = (returned_inside a area c g e n i d r, shown_whole a area c g e n i d r)

-- where the part that is shown begins: so many bytes from there on are it, for every place and length
pub shown_from_start : (a : Assembler) (area : List ℕ) (i n : ℕ)
    → viewed a area i n ≡ take (length (viewed a area i n)) (drop (view_start a (length area) i n) area)
shown_from_start = shown_front

-- ==== Accepted or refused, read off the answer

-- a fragment call is refused exactly if its refusal is not 0
pub fragment_is_refused : (a : Assembler) (area : List ℕ) (c : Fragment)
    → is_refused (fragment a area c).answer ≡ not (eqb (fragment_refusal a (length area) (head_of c)) 0)
unfolding fragment accepted_fragment
fragment_is_refused a area c = split (eqb (fragment_refusal a (length area) (head_of c)) 0) (λ e. rw e) (λ e. rw e)

-- set-up likewise
pub set_up_is_refused : (f : ℕ) (reliable : Bool) (p : ℕ) (w : List ℕ)
    → is_refused (set_up_assembler f reliable p w).answer ≡ not (eqb (set_up_refusal f p (length w)) 0)
unfolding set_up_assembler
set_up_is_refused f reliable p w = split (eqb (set_up_refusal f p (length w)) 0) (λ e. rw e) (λ e. rw e)

-- a cleaning, and a list of missing fragments, exactly if the lent list is shorter than the answer
pub clean_is_refused : (a : Assembler) (t : ℕ) (out : List ℤ) → is_refused (clean a t out).answer ≡ ltb (length out) (length (stale_numbers t a.places))
unfolding clean
clean_is_refused a t out = split (ltb (length out) (length (stale_numbers t a.places))) (λ e. rw e) (λ e. rw e)

pub missing_is_refused : (a : Assembler) (n : ℕ) (out : List ℕ)
    → is_refused (missing_fragments_for a n out).answer ≡ ltb (length out) (length (missing_fragments a n))
unfolding missing_fragments_for
missing_is_refused a n out = split (ltb (length out) (length (missing_fragments a n))) (λ e. rw e) (λ e. rw e)

-- ==== The same of the public calls, by their promises

module _ (w area : List ℕ) (c : Fragment) (r : Result Answer Refusal) (w' area' : List ℕ) (h : TakesFragment w area c r w' area') where
  -- "with fixed fragment size f, mode reliable or best effort, and place size p"
  pub does_fixed : Fixed (assembler_of w) (assembler_of w')
  does_fixed = subst (Fixed (assembler_of w)) (ap (λ (o : FragmentReply). o.state) (sym h.same)) (fragment_fixed (assembler_of w) area c)

  pub does_is_refused : is_refused (fragment_said r) ≡ not (eqb (fragment_refusal (assembler_of w) (length area) (head_of c)) 0)
  does_is_refused = ap (λ (o : FragmentReply). is_refused o.answer) h.same ∙ fragment_is_refused (assembler_of w) area c

  -- a returned sample is shown on the words and the area that the call left
  pub does_shown : GoodAssembler w → (n i d : ℕ) → fragment_said r ≡ done (returned n i d)
      → (i * (assembler_of w').place_size + d ≤ length area') × (viewed (assembler_of w') area' i d ≡ take d (drop (i * (assembler_of w').place_size) area'))
  does_shown g n i d e =
      let a : Assembler = assembler_of w in
      let ok : fragment_refusal a (length area) (head_of c) ≡ 0 = eqb-true _ _ (not-false _ (sym does_is_refused ∙ ap is_refused e)) in
      let s = returned_shown a area c g.ok ok n i d (ap (λ (o : FragmentReply). o.answer) (sym h.same) ∙ e) in
      let p : a.place_size ≡ (assembler_of w').place_size = sym does_fixed.place_size in
      let st : (fragment a area c).state ≡ assembler_of w' = ap (λ (o : FragmentReply). o.state) (sym h.same) in
      let ar : (fragment a area c).area ≡ area' = ap (λ (o : FragmentReply). o.area) (sym h.same) in
      rw (st, ar, p) at s

module _ (w : List ℕ) (t : ℕ) (out : List ℤ) (r : Result ℕ Refusal) (w' : List ℕ) (out' : List ℤ) (h : CleansAssembler w t out r w' out') where
  pub cleans_fixed : Fixed (assembler_of w) (assembler_of w')
  cleans_fixed = subst (Fixed (assembler_of w)) (ap (λ (o : CleanReply). o.state) (sym h.same)) (clean_fixed (assembler_of w) t out)

  pub cleans_is_refused : is_refused (said r) ≡ ltb (length out) (length (stale_numbers t (assembler_of w).places))
  cleans_is_refused = ap (λ (o : CleanReply). is_refused o.answer) h.same ∙ clean_is_refused (assembler_of w) t out

pub misses_is_refused : (w : List ℕ) (n : ℕ) (out : List ℕ) (r : Result ℕ Refusal) (out' : List ℕ) → ListsFragments w n out r out'
    → is_refused (said r) ≡ ltb (length out) (length (missing_fragments (assembler_of w) n))
misses_is_refused w n out r out' h = ap (λ (o : ListReply ℕ). is_refused o.answer) h.same ∙ missing_is_refused (assembler_of w) n out

pub sets_up_is_refused : (w : List ℕ) (f : ℕ) (reliable : Bool) (p : ℕ) (r : Result (Unit {0}) Refusal) (w' : List ℕ) → SetsUpAssembler w f reliable p r w'
    → is_refused (said r) ≡ not (eqb (set_up_refusal f p (length w)) 0)
sets_up_is_refused w f reliable p r w' h = ap (λ (o : SetUpReply). is_refused o.answer) h.same ∙ set_up_is_refused f reliable p w
