-- Document 01's table of refusals as theorems: one file to hold beside the paper. What a row is and what rows say of a call is `Row` of crate outcome.
-- First the rows of each call in the paper's order and words, then `RefusalTable`: for each public call that can be refused, what follows from its
-- promise, which stands there as the call's contract has it. The proof is `refusal_table` of `proofs/TableProof.antt`. The rows by number:
--    1  read_number_rows, read_set_rows (twice), malformed
--    2  read_set_rows, walk_rows, write_set_rows, measure_set_rows
--    3  shorter, of each call that writes to a lent list or sets a record up
--    4  not_taken (received, one irrelevant, fragment), missing_rows, walk_rows
--    5  range_rows
--    6, 7, 8, 9, 10, 11, 12, 13  fragment_rows
--    14  assembler_set_up_rows
--    15  make_set_rows
-- Assumes nothing.
use Rattle.std.specs.Prelude.{ℕ, suc, ◌+◌, ◌-◌, ◌*◌, ◌<◌, ◌≤◌, ◌^◌, ◌≡◌, Bool, true, false, cond, ◌⊎◌, length, get_or, take, ℤ, pos, ◌≤ℤ◌, ◌<ℤ◌, Option, Result, Err}
use mathlib.Core.List.{List, [], ◌∷◌, Memᴰ}
use Rattle.std.specs.Int.{w64}
use Rattle.std.proofs.Common.{SFits}
use Rattle.outcome.specs.Outcome.{Outcome, refused, done}
use Rattle.outcome.specs.Refusal.{number_of_refusal, said}
use Rattle.outcome.specs.declared.Refusal.{Refusal}
use Rattle.outcome.specs.Row.{Row, row, row_numbers, verdict, numbered, Exactly, Refuses, shorter}
use Rattle.outcome.specs.Lent.{over}
use Rattle.sequence_number.specs.Number.{number_of}
use Rattle.sequence_number.specs.Kind.{Kind, sequence_number, fragment_number}
use Rattle.sequence_number.specs.Word.{word_at}
use Rattle.sequence_number.specs.NumberWire.{read_number, Writes}
use Rattle.number_set.specs.NumberSet.{members, set_length}
use Rattle.number_set.specs.declared.set.NumberSet.{NumberSet}
use Rattle.number_set.specs.declared.set.Taken.{Taken}
use Rattle.number_set.specs.SetWire.{set_bytes, read_set, measure_set, WritesSet}
use Rattle.number_set.specs.Make.{make_set}
use Rattle.number_set.specs.Walk.{Walks}
use Rattle.sequence_number.specs.declared.ByteOrder.{ByteOrder}
use Rattle.proxy_record.specs.State.{Proxy, fresh_proxy}
use Rattle.proxy_record.specs.Words.{proxy_words, proxy_of}
use Rattle.proxy_record.specs.Rules.{GoodProxy}
use Rattle.proxy_steps.specs.Steps.{report_said, ProxyAnswers}
use Rattle.proxy_steps.specs.declared.Forced.{Forced}
use Rattle.writer_proxy.specs.SetUp.{set_up_proxy}
use Rattle.writer_proxy.specs.Calls.{received, irrelevant, irrelevant_range, up_to}
use Rattle.writer_proxy.specs.Missing.{missing_numbers, missing_listed}
use Rattle.assembly_record.specs.State.{Assembler, place_at}
use Rattle.assembly_record.specs.Table.{find, is_partially_received}
use Rattle.assembly_record.specs.Fragments.{fragments}
use Rattle.fragment_assembler.specs.Fragment.{fragment_with}
use Rattle.fragment_assembler.specs.Call.{fragment_said}
use Rattle.fragment_assembler.specs.SetUp.{fresh_assembler}
use Rattle.assembly_record.specs.Stale.{stale_numbers}
use Rattle.fragment_assembler.specs.Missing.{missing_fragments}
use Rattle.fragment_assembler.specs.Promise.{SetsUpAssembler, TakesFragment, CleansAssembler, ListsFragments}
use Rattle.assembly_record.specs.Words.{assembler_words, assembler_of}
use Rattle.assembly_record.specs.Rules.{GoodAssembler}
use Rattle.fragment_assembler.specs.declared.fragment.Answer.{Answer}
use Rattle.line_text.specs.Decimal.{line_of}
use Rattle.line_text.specs.Held.{held_line}
use Rattle.replay_lines.specs.Frame.{parsed}
use Rattle.replay_lines.specs.Answer.{step_of, LineAnswered}
use Rattle.replay_lines.specs.Feed.{Feeding, took, says}
use Rattle.replay_lines.specs.declared.frame.Frame.{Frame}
use Rattle.replay_lines.specs.declared.frame.Frame.TheVariants.{Received, Range, Missing}

-- ==== Numbers and sets (crates sequence_number and number_set), over the kind of number

-- "Every refusal returns its number alone": an answer that has room for a set has none where it is refused
abbrev pub Alone : {A : Type 0} → Result A Refusal → Type 0
Alone r = (n : ℕ) → verdict (said r) ≡ refused n → (x : Refusal) × (number_of_refusal x ≡ n) × (r ≡ Err x)

-- A number read: its bytes end early
abbrev pub read_number_rows : {N : Type 0} → Kind N → List ℕ → List Row
read_number_rows k s = row 1 (length s < k.size) ∷ []

abbrev pub ReadNumber : {N : Type 0} → Kind N → Type 0
ReadNumber {N} k = (o : ByteOrder) (s : List ℕ) (r : Result N Refusal) → said r ≡ read_number k o s → Exactly (verdict (said r)) (read_number_rows k s)

-- A number written
abbrev pub write_number_rows : {N : Type 0} (k : Kind N) → ByteOrder → N → List ℕ → List Row
write_number_rows k o n out = shorter out (k.number_bytes o n) ∷ []

abbrev pub WriteNumber : {N : Type 0} → Kind N → Type 0
WriteNumber {N} k = (o : ByteOrder) (n : N) (out after : List ℕ) (r : Result ℕ Refusal) → Writes k o n out r after
    → Refuses (verdict (said r)) (write_number_rows k o n out) (after ≡ out)

-- "Set reading: 1 for base or count, 2, 1 for words"; 1: "set bytes end early", 2: "bit count above 256"
abbrev pub read_set_rows : {N : Type 0} → Kind N → ByteOrder → List ℕ → List Row
read_set_rows k o s =
    row 1 (length s < k.size + 4)
    ∷ row 2 (256 < word_at o s k.size)
    ∷ row 1 (length s < set_length k.size (word_at o s k.size))
    ∷ []

abbrev pub ReadSet : {N : Type 0} → Kind N → Type 0
ReadSet {N} k = (o : ByteOrder) (s : List ℕ) (r : Result (Taken N) Refusal) → said r ≡ read_set k o s
    → Exactly (verdict (said r)) (read_set_rows k o s) × Alone r

-- "A set walked: 2, 4, 3"; 4: "a member past its type in a set walked (added)"
abbrev pub walk_rows : {N : Type 0} (k : Kind N) → (N → Type 0) → NumberSet N → List N → List Row
walk_rows {N} k Past s out =
    row 2 (256 < s.count)
    ∷ row 4 ((m : N) × Memᴰ m (members k s) × Past m)
    ∷ shorter out (members k s)
    ∷ []

abbrev pub WalkSet : {N : Type 0} (k : Kind N) → (N → Type 0) → Type 0
WalkSet {N} k Past = (s : NumberSet N) (up : Bool) (out after : List N) (r : Result ℕ Refusal) → Walks k s up out r after
    → Refuses (verdict (said r)) (walk_rows k Past s out) (after ≡ out)

abbrev pub PastSequence : ℤ → Type 0
PastSequence m = pos (2 ^ 63) ≤ℤ m

abbrev pub PastFragment : ℕ → Type 0
PastFragment m = 2 ^ 32 ≤ m

-- "written: 2, 3"
abbrev pub write_set_rows : {N : Type 0} (k : Kind N) → ByteOrder → NumberSet N → List ℕ → List Row
write_set_rows k o s out = row 2 (256 < s.count) ∷ shorter out (set_bytes k o s) ∷ []

abbrev pub WriteSet : {N : Type 0} → Kind N → Type 0
WriteSet {N} k = (o : ByteOrder) (s : NumberSet N) (out after : List ℕ) (r : Result ℕ Refusal) → WritesSet k o s out r after
    → Refuses (verdict (said r)) (write_set_rows k o s out) (after ≡ out)

-- "measured: 2"
abbrev pub measure_set_rows : {N : Type 0} (k : Kind N) → NumberSet N → List Row
measure_set_rows k s = row 2 (256 < s.count) ∷ []

abbrev pub MeasureSet : {N : Type 0} → Kind N → Type 0
MeasureSet {N} k = (s : NumberSet N) (r : Result ℕ Refusal) → said r ≡ measure_set k.size s.count → Exactly (verdict (said r)) (measure_set_rows k s)

-- "Making: 15"; 15: "list not strictly rising (added)"
abbrev pub StrictlyRising : {N : Type 0} (k : Kind N) → List N → Type 0
StrictlyRising k xs = (i : ℕ) → suc i < length xs → k.below (get_or xs i k.nought) (get_or xs (suc i) k.nought) ≡ true

abbrev pub make_set_rows : {N : Type 0} (k : Kind N) → List N → List Row
make_set_rows k xs = row 15 (StrictlyRising k xs → ⊥) ∷ []

abbrev pub MakeSet : {N : Type 0} → Kind N → Type 0
MakeSet {N} k = (base : N) (xs : List N) (r : Result (NumberSet N) Refusal) → said r ≡ make_set k base xs
    → Exactly (verdict (said r)) (make_set_rows k xs) × Alone r

-- `number_of` (module number) gives nothing for a number that row 4 names, `natural` 0 for a negative one; neither has a refusal.

-- ==== The writer proxy (crate writer_proxy); `SFits w64 n` says that n is an i64

-- 4: "number below 1 or equal to 2^63 - 1 in received, one irrelevant or fragment"
abbrev pub not_taken : ℤ → Row
not_taken n = row 4 ((n <ℤ pos 1) ⊎ (n ≡ pos (2 ^ 63 - 1)))

-- 5: "range with a > b"; "Up to s" is the range 0 until s
abbrev pub range_rows : ℤ → ℤ → List Row
range_rows a b = row 5 (b <ℤ a) ∷ []

-- "Missing numbers: 4, then 3"; 4: "heartbeat end 2^63 - 1"
abbrev pub missing_rows : ℤ → ℤ → Proxy → List ℤ → List Row
missing_rows start end s out = row 4 (end ≡ pos (2 ^ 63 - 1)) ∷ shorter out (missing_numbers start end s) ∷ []

-- `all_ackable_before`, `last_received`, `change_status`, `should_ignore_change` have no refusal; nor has crate ack_nack_counter.

-- ==== The assembler (crate fragment_assembler): f is `fragment_size`, p is `place_size`; a fragment has its own fragment size, the data size D, start k and n fragments

-- "setting up: f is 0, or p is 0 or above 65,536 (added)", then the record's words
abbrev pub assembler_set_up_rows : ℕ → Bool → ℕ → List ℕ → List Row
assembler_set_up_rows f reliable p w = row 14 ((f ≡ 0) ⊎ (p ≡ 0) ⊎ (65536 < p)) ∷ shorter w (assembler_words (fresh_assembler f reliable p)) ∷ []

-- "opening": the number is not in assembly, as the query says
abbrev pub Opening : Assembler → ℤ → Type 0
Opening a number = is_partially_received a.places (number_of number) ≡ false

-- "D and F are those of the opening fragment; a later fragment's data size is not looked at"
abbrev pub sample_size : Assembler → ℤ → ℕ → ℕ
sample_size a number D = cond (is_partially_received a.places (number_of number)) (place_at a.places (find (number_of number) a.places)).size D

-- "Order: fragment 13, 4, 6, 7, 8, 9, 10, 11, 12"
abbrev pub fragment_rows : Assembler → List ℕ → ℤ → ℕ → ℕ → ℕ → ℕ → List Row
fragment_rows a area number fragment_size D k n =
    -- "area shorter than 129*p (added)"
    row 13 (length area < 129 * a.place_size)
    ∷ not_taken number
    -- "fragment's size differs from f (added)"
    ∷ row 6 (fragment_size ≡ a.fragment_size → ⊥)
    -- "opening, f > D"
    ∷ row 7 (Opening a number × (D < a.fragment_size))
    -- "opening, D > p (added)"
    ∷ row 8 (Opening a number × (a.place_size < D))
    -- "opening, F > 256 (added)"
    ∷ row 9 (Opening a number × (256 < fragments D a.fragment_size))
    -- "run of 0 fragments"
    ∷ row 10 (n ≡ 0)
    -- "start 0"
    ∷ row 11 (k ≡ 0)
    -- "k - 1 + n > F"
    ∷ row 12 (fragments (sample_size a number D) a.fragment_size < k - 1 + n)
    ∷ []

-- `view`, `view_start`, `is_partially_received` and `in_assembly` have no refusal.

-- ==== Replay lines (crate replay_lines)

-- a hexadecimal digit "of either case": `0` to `9`, `A` to `F`, `a` to `f`
abbrev pub Digit : ℕ → Type 0
Digit c = ((48 ≤ c) × (c ≤ 57)) ⊎ ((65 ≤ c) × (c ≤ 70)) ⊎ ((97 ≤ c) × (c ≤ 102))

-- "one frame a line, 34 digits", of which the first two write the kind: 01, 02 or 03; `0` is 48
pub record WellFormed (line : List ℕ) : Type 0 where
  pub long : length line ≡ 34
  pub digits : (i : ℕ) → i < 34 → Digit (get_or line i 0)
  pub first : get_or line 0 0 ≡ 48
  pub second : (49 ≤ get_or line 1 0) × (get_or line 1 0 ≤ 51)

-- 1: "a replay line is malformed"
abbrev pub malformed : List ℕ → Row
malformed line = row 1 (WellFormed line → ⊥)

-- the rows of the call that a line asks for: "01 received (number, time), 02 range (a, b), 03 missing (start, end; room 256)"
abbrev pub frame_rows : Outcome Frame → Proxy → List ℤ → List Row
frame_rows (refused n) s list = []
frame_rows (done (Received number time)) s list = not_taken number ∷ []
frame_rows (done (Range a b)) s list = range_rows a b
frame_rows (done (Missing start end)) s list = missing_rows start end s (take 256 list)

abbrev pub line_rows : List ℕ → Proxy → List ℤ → List Row
line_rows line s list = malformed line ∷ frame_rows (parsed line) s list

-- the text of an answer: "Each line gives kind, refusal or 0, ack base", and the refusal in it is by the line's rows
pub record LineByRows (rows : List Row) (text : List ℕ) (Untouched : Type 0) : Type 0 where
  pub kind : ℕ
  pub number : ℕ
  pub rest : List ℕ
  pub line : text ≡ line_of kind (number ∷ rest)
  pub refuses : Refuses (numbered number) rows Untouched

-- `answer_line`, `feed` and `close` have no refusal of their own: what is lent to them always suffices.

-- ==== The table

-- the paper's order of each call's rows
pub record Order : Type 1 where
  -- "Order: fragment 13, 4, 6, 7, 8, 9, 10, 11, 12"
  pub fragments : (a : Assembler) (area : List ℕ) (number : ℤ) (fragment_size D k n : ℕ)
      → row_numbers (fragment_rows a area number fragment_size D k n) ≡ 13 ∷ 4 ∷ 6 ∷ 7 ∷ 8 ∷ 9 ∷ 10 ∷ 11 ∷ 12 ∷ []
  -- "Set reading: 1 for base or count, 2, 1 for words"
  pub reading : {N : Type 0} (k : Kind N) (o : ByteOrder) (s : List ℕ) → row_numbers (read_set_rows k o s) ≡ 1 ∷ 2 ∷ 1 ∷ []
  -- "A set walked: 2, 4, 3; written: 2, 3; measured: 2"
  pub walking : {N : Type 0} (k : Kind N) (Past : N → Type 0) (s : NumberSet N) (out : List N) → row_numbers (walk_rows k Past s out) ≡ 2 ∷ 4 ∷ 3 ∷ []
  pub writing : {N : Type 0} (k : Kind N) (o : ByteOrder) (s : NumberSet N) (out : List ℕ) → row_numbers (write_set_rows k o s out) ≡ 2 ∷ 3 ∷ []
  pub measuring : {N : Type 0} (k : Kind N) (s : NumberSet N) → row_numbers (measure_set_rows k s) ≡ 2 ∷ []
  -- "Missing numbers: 4, then 3. Making: 15"
  pub missing : (start end : ℤ) (s : Proxy) (out : List ℤ) → row_numbers (missing_rows start end s out) ≡ 4 ∷ 3 ∷ []
  pub making : {N : Type 0} (k : Kind N) (xs : List N) → row_numbers (make_set_rows k xs) ≡ 15 ∷ []

-- a field for each call, named as the call is
pub record RefusalTable : Type 1 where
  pub order : Order
  -- wire
  pub read_sequence_number : ReadNumber sequence_number
  pub read_fragment_number : ReadNumber fragment_number
  pub write_sequence_number : WriteNumber sequence_number
  pub write_fragment_number : WriteNumber fragment_number
  -- NumberSet
  pub read_from : ReadSet sequence_number × ReadSet fragment_number
  pub write_to : WriteSet sequence_number × WriteSet fragment_number
  pub len_serialized : MeasureSet sequence_number × MeasureSet fragment_number
  pub from_base_and_set : MakeSet sequence_number × MakeSet fragment_number
  pub iter : WalkSet sequence_number PastSequence × WalkSet fragment_number PastFragment
  -- writer_proxy; w is the lent record
  pub proxy_set_up : (w w' : List ℕ) (r : Result (Unit {0}) Refusal) → (said r ≡ (set_up_proxy w).answer) × (w' ≡ (set_up_proxy w).words)
      → Refuses (verdict (said r)) (shorter w (proxy_words fresh_proxy) ∷ []) (w' ≡ w)
  pub received_changes_add : (w w' : List ℕ) (n : ℤ) (time : ℕ) (r : Result (Option Forced) Refusal) → GoodProxy w → SFits w64 n → ProxyAnswers r w' (received n time (proxy_of w))
      → Refuses (verdict (report_said r)) (not_taken n ∷ []) (w' ≡ w)
  pub set_irrelevant_change : (w w' : List ℕ) (n : ℤ) (r : Result (Option Forced) Refusal) → GoodProxy w → SFits w64 n → ProxyAnswers r w' (irrelevant n (proxy_of w))
      → Refuses (verdict (report_said r)) (not_taken n ∷ []) (w' ≡ w)
  pub irrelevant_changes_range : (w w' : List ℕ) (a b : ℤ) (r : Result (Option Forced) Refusal) → GoodProxy w → ProxyAnswers r w' (irrelevant_range a b (proxy_of w))
      → Refuses (verdict (report_said r)) (range_rows a b) (w' ≡ w)
  pub irrelevant_changes_up_to : (w w' : List ℕ) (n : ℤ) (r : Result (Option Forced) Refusal) → GoodProxy w → ProxyAnswers r w' (up_to n (proxy_of w))
      → Refuses (verdict (report_said r)) (range_rows (pos 0) n) (w' ≡ w)
  pub missing_seqnums : (w : List ℕ) (start end : ℤ) (out after : List ℤ) (r : Result ℕ Refusal) → GoodProxy w
      → (said r ≡ (missing_listed start end (proxy_of w) out).answer) × (after ≡ (missing_listed start end (proxy_of w) out).list)
      → Refuses (verdict (said r)) (missing_rows start end (proxy_of w) out) (after ≡ out)
  -- fragment_assembler; w is the lent record
  pub assembler_set_up : (w w' : List ℕ) (f : ℕ) (reliable : Bool) (p : ℕ) (r : Result (Unit {0}) Refusal) → SetsUpAssembler w f reliable p r w'
      → Refuses (verdict (said r)) (assembler_set_up_rows f reliable p w) (w' ≡ w)
  pub new_datafrag : (w w' area area' : List ℕ) (time : ℕ) (number : ℤ) (fragment_size D k n : ℕ) (payload : List ℕ) (r : Result Answer Refusal) → GoodAssembler w → SFits w64 number
      → TakesFragment w area (fragment_with time (number_of number) fragment_size D k n payload) r w' area'
      → Refuses (verdict (fragment_said r)) (fragment_rows (assembler_of w) area number fragment_size D k n) ((w' ≡ w) × (area' ≡ area))
  pub garbage_collect_before : (w w' : List ℕ) (cutoff : ℕ) (out after : List ℤ) (r : Result ℕ Refusal) → GoodAssembler w → CleansAssembler w cutoff out r w' after
      → Refuses (verdict (said r)) (shorter out (stale_numbers cutoff (assembler_of w).places) ∷ []) ((w' ≡ w) × (after ≡ out))
  pub missing_frags_for : (w : List ℕ) (number : ℤ) (out after : List ℕ) (r : Result ℕ Refusal) → GoodAssembler w → ListsFragments w (number_of number) out r after
      → Refuses (verdict (said r)) (shorter out (missing_fragments (assembler_of w) (number_of number)) ∷ []) (after ≡ out)
  -- replay_lines: the proxy's record w, the lent list and the buffer; a line stands without its line feed
  pub parse : (line : List ℕ) (r : Result Frame Refusal) → said r ≡ parsed line → Exactly (verdict (said r)) (malformed line ∷ [])
  pub answer_line_says : (w w' line : List ℕ) (list list' : List ℤ) (out out' : List ℕ) (n : ℕ) → GoodProxy w
      → LineAnswered n w' list' out out' (step_of (parsed line) (proxy_of w) list)
      → (text : List ℕ) × (n ≡ length text) × (out' ≡ over text out)
      × LineByRows (line_rows line (proxy_of w) list) text ((w' ≡ w) × (list' ≡ list))
  -- what `feed` and `close` say at a line feed, 10, where x is lent and held
  pub feed_says : (x : Feeding) → GoodProxy x.words
      → LineByRows (line_rows (held_line x.held) (proxy_of x.words) x.list) (says 10 x) (((took 10 x).words ≡ x.words) × ((took 10 x).list ≡ x.list))
