-- The table of refusals once more, of the calls that crate drucenal exports: each answers with the number alone, 0 where it is accepted, by the rows of
-- the call that it makes (`specs/RefusalTable.antt`), and a refused one leaves all that stands behind its references. The proof is `export_table` of
-- `proofs/ExportProof.antt`. Assumes nothing.
use Rattle.std.specs.Prelude.{ℕ, ◌≡◌, Bool, List, [], ◌∷◌, length, ℤ, pos}
use Rattle.std.specs.Int.{w64}
use Rattle.std.proofs.Common.{SFits}
use Rattle.outcome.specs.Outcome.{refusal}
use Rattle.outcome.specs.Row.{Row, numbered, Refuses, shorter}
use Rattle.sequence_number.specs.Number.{number_of}
use Rattle.sequence_number.specs.Kind.{Kind, sequence_number, fragment_number}
use Rattle.sequence_number.specs.NumberWire.{read_number, write_number}
use Rattle.number_set.specs.NumberSet.{members}
use Rattle.number_set.specs.declared.set.NumberSet.{NumberSet}
use Rattle.number_set.specs.declared.set.Taken.{Taken}
use Rattle.number_set.specs.SetWire.{set_bytes, read_set, write_set, measure_set}
use Rattle.number_set.specs.Make.{make_set}
use Rattle.number_set.specs.Walk.{walk_set, in_order}
use Rattle.proxy_record.specs.State.{fresh_proxy}
use Rattle.proxy_record.specs.Words.{proxy_words, proxy_of}
use Rattle.proxy_record.specs.Rules.{GoodProxy}
use Rattle.proxy_steps.specs.Steps.{ProxyReply}
use Rattle.writer_proxy.specs.SetUp.{set_up_proxy}
use Rattle.writer_proxy.specs.Calls.{received, irrelevant, irrelevant_range, up_to}
use Rattle.writer_proxy.specs.Missing.{missing_listed}
use Rattle.fragment_assembler.specs.Fragment.{fragment_with}
use Rattle.assembly_record.specs.Stale.{stale_numbers}
use Rattle.fragment_assembler.specs.Missing.{missing_fragments}
use Rattle.assembly_record.specs.Words.{assembler_of}
use Rattle.assembly_record.specs.Rules.{GoodAssembler}
use Rattle.drucenal.specs.Exports.{order_of, Gives, Lends}
use Rattle.drucenal.specs.ProxyExports.{Replies, ListsMissing}
use Rattle.drucenal.specs.AssemblerExports.{Happened, SetsUpAssemblerOut, TakesFragmentOut, CleansAssemblerOut, ListsFragmentsOut}
use Rattle.refusals.specs.RefusalTable.{read_number_rows, write_number_rows, read_set_rows, walk_rows, PastSequence, PastFragment, write_set_rows, measure_set_rows, make_set_rows, not_taken, range_rows, missing_rows, assembler_set_up_rows, fragment_rows}

-- ---- numbers and sets, over the kind of number

abbrev pub ReadNumberOut : {N : Type 0} → Kind N → Type 0
ReadNumberOut {N} k = (big : Bool) (s : List ℕ) (r : ℕ) (before after : N) → Gives (read_number k (order_of big) s) before r after
    → Refuses (numbered r) (read_number_rows k s) (after ≡ before)

abbrev pub WriteNumberOut : {N : Type 0} → Kind N → Type 0
WriteNumberOut {N} k = (big : Bool) (n : N) (out after : List ℕ) (r : ℕ) → Lends (write_number k (length out)) (k.number_bytes (order_of big) n) out r after
    → Refuses (numbered r) (write_number_rows k (order_of big) n out) (after ≡ out)

abbrev pub ReadSetOut : {N : Type 0} → Kind N → Type 0
ReadSetOut {N} k = (big : Bool) (s : List ℕ) (r : ℕ) (before after : Taken N) → Gives (read_set k (order_of big) s) before r after
    → Refuses (numbered r) (read_set_rows k (order_of big) s) (after ≡ before)

abbrev pub WriteSetOut : {N : Type 0} → Kind N → Type 0
WriteSetOut {N} k = (big : Bool) (s : NumberSet N) (out after : List ℕ) (r wrote wrote' : ℕ)
    → Gives (write_set k.size s.count (length out)) wrote r wrote' → Lends (write_set k.size s.count (length out)) (set_bytes k (order_of big) s) out r after
    → Refuses (numbered r) (write_set_rows k (order_of big) s out) ((after ≡ out) × (wrote' ≡ wrote))

abbrev pub MakeSetOut : {N : Type 0} → Kind N → Type 0
MakeSetOut {N} k = (base : N) (xs : List N) (r : ℕ) (before after : NumberSet N) → Gives (make_set k base xs) before r after
    → Refuses (numbered r) (make_set_rows k xs) (after ≡ before)

abbrev pub WalkSetOut : {N : Type 0} (k : Kind N) → (N → Type 0) → Type 0
WalkSetOut {N} k Past = (s : NumberSet N) (up : Bool) (out after : List N) (r count count' : ℕ) → Gives (walk_set k s (length out)) count r count'
    → Lends (walk_set k s (length out)) (in_order up (members k s)) out r after → Refuses (numbered r) (walk_rows k Past s out) ((after ≡ out) × (count' ≡ count))

abbrev pub MeasureSetOut : {N : Type 0} → Kind N → Type 0
MeasureSetOut {N} k = (s : NumberSet N) (r before after : ℕ) → Gives (measure_set k.size s.count) before r after
    → Refuses (numbered r) (measure_set_rows k s) (after ≡ before)

-- ---- the proxy: the record w, and a forced step's old and new base behind two references

abbrev pub ReplyOut : (List ℕ → ProxyReply) → List Row → Type 0
ReplyOut call rows = (w w' : List ℕ) (r old old' new new' : ℕ) → GoodProxy w → Replies (call w) old new r old' new' w'
    → Refuses (numbered r) rows ((w' ≡ w) × (old' ≡ old) × (new' ≡ new))

-- a field for each exported call that can be refused, its name without the prefix
pub record ExportTable : Type 0 where
  pub read_sequence_number : ReadNumberOut sequence_number
  pub read_fragment_number : ReadNumberOut fragment_number
  pub write_sequence_number : WriteNumberOut sequence_number
  pub write_fragment_number : WriteNumberOut fragment_number
  pub read_sequence_number_set : ReadSetOut sequence_number
  pub read_fragment_number_set : ReadSetOut fragment_number
  pub write_sequence_number_set : WriteSetOut sequence_number
  pub write_fragment_number_set : WriteSetOut fragment_number
  pub make_sequence_number_set : MakeSetOut sequence_number
  pub make_fragment_number_set : MakeSetOut fragment_number
  pub walk_sequence_number_set : WalkSetOut sequence_number PastSequence
  pub walk_fragment_number_set : WalkSetOut fragment_number PastFragment
  pub measure_sequence_number_set : MeasureSetOut sequence_number
  pub measure_fragment_number_set : MeasureSetOut fragment_number
  pub proxy_set_up : (w w' : List ℕ) (r : ℕ) → (r ≡ refusal (set_up_proxy w).answer) × (w' ≡ (set_up_proxy w).words)
      → Refuses (numbered r) (shorter w (proxy_words fresh_proxy) ∷ []) (w' ≡ w)
  pub proxy_received_changes_add : (n : ℤ) (time : ℕ) → SFits w64 n → ReplyOut (λ w. received n time (proxy_of w)) (not_taken n ∷ [])
  pub proxy_set_irrelevant_change : (n : ℤ) → SFits w64 n → ReplyOut (λ w. irrelevant n (proxy_of w)) (not_taken n ∷ [])
  pub proxy_irrelevant_changes_range : (a b : ℤ) → ReplyOut (λ w. irrelevant_range a b (proxy_of w)) (range_rows a b)
  pub proxy_irrelevant_changes_up_to : (n : ℤ) → ReplyOut (λ w. up_to n (proxy_of w)) (range_rows (pos 0) n)
  pub proxy_missing_seqnums : (w : List ℕ) (start end : ℤ) (out after : List ℤ) (r count count' : ℕ) → GoodProxy w
      → ListsMissing (missing_listed start end (proxy_of w) out) count r count' after
      → Refuses (numbered r) (missing_rows start end (proxy_of w) out) ((after ≡ out) × (count' ≡ count))
  pub assembler_set_up : (w w' : List ℕ) (f : ℕ) (reliable : Bool) (p r : ℕ) → SetsUpAssemblerOut w f reliable p r w'
      → Refuses (numbered r) (assembler_set_up_rows f reliable p w) (w' ≡ w)
  pub assembler_new_datafrag : (w w' area area' : List ℕ) (time : ℕ) (number : ℤ) (fragment_size D k n : ℕ) (payload : List ℕ) (r : ℕ) (before after : Happened)
      → GoodAssembler w → SFits w64 number → TakesFragmentOut w area (fragment_with time (number_of number) fragment_size D k n payload) before r after w' area'
      → Refuses (numbered r) (fragment_rows (assembler_of w) area number fragment_size D k n) ((w' ≡ w) × (area' ≡ area) × (after ≡ before))
  pub assembler_garbage_collect_before : (w w' : List ℕ) (cutoff : ℕ) (out list : List ℤ) (r before after : ℕ) → GoodAssembler w
      → CleansAssemblerOut w cutoff out before r after w' list
      → Refuses (numbered r) (shorter out (stale_numbers cutoff (assembler_of w).places) ∷ []) ((w' ≡ w) × (list ≡ out) × (after ≡ before))
  pub assembler_missing_frags_for : (w : List ℕ) (number : ℤ) (out list : List ℕ) (r before after : ℕ) → GoodAssembler w
      → ListsFragmentsOut w (number_of number) out before r after list
      → Refuses (numbered r) (shorter out (missing_fragments (assembler_of w) (number_of number)) ∷ []) ((list ≡ out) × (after ≡ before))
