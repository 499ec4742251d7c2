-- The exported calls' table is proved: each answers with the number of what the call below it says. Assumes nothing.
use Prim.Native.Nat.{ℕ}
use mathlib.Core.Path.{◌≡◌, refl, ap, ◌∙◌}
use mathlib.Core.Bool.{true}
use mathlib.Core.List.{List, [], ◌∷◌}
use lib.ListN.{length}
use lib.IntN.{pos}
use Rattle.outcome.specs.Outcome.{Outcome, refused, found, left}
use Rattle.outcome.specs.Row.{Row, verdict, numbered, Exactly, Refuses, shorter}
use Rattle.sequence_number.specs.Kind.{Kind, sequence_number, fragment_number}
use Rattle.sequence_number.specs.NumberWire.{read_number, write_number}
use Rattle.number_set.specs.SetWire.{read_set, write_set, measure_set, set_bytes}
use Rattle.number_set.specs.NumberSet.{members}
use Rattle.number_set.specs.declared.set.NumberSet.{NumberSet}
use Rattle.number_set.specs.Make.{make_set}
use Rattle.number_set.specs.Walk.{walk_set, in_order}
use Rattle.sequence_number.specs.Number.{number_of}
use Rattle.sequence_number.specs.Lawful.{Lawful}
use Rattle.sequence_number.specs.Keeps.{sequence_lawful, fragment_lawful}
use Rattle.proxy_record.specs.Words.{proxy_words, proxy_of}
use Rattle.proxy_record.specs.Rules.{GoodProxy}
use Rattle.proxy_record.specs.State.{fresh_proxy}
use Rattle.proxy_steps.specs.Steps.{Forcing, ProxyReply}
use Rattle.writer_proxy.specs.SetUp.{set_up_proxy}
use Rattle.writer_proxy.specs.Calls.{received, irrelevant, irrelevant_range, up_to}
use Rattle.writer_proxy.specs.Missing.{missing_listed}
use Rattle.fragment_assembler.specs.Call as call
use Rattle.fragment_assembler.specs.Fragment.{Fragment, fragment_with}
use Rattle.fragment_assembler.specs.SetUp as setup
use Rattle.assembly_record.specs.Stale.{stale_numbers}
use Rattle.fragment_assembler.specs.Clean.{clean}
use Rattle.fragment_assembler.specs.Missing.{missing_fragments, missing_fragments_for}
use Rattle.assembly_record.specs.Words as assembler
use Rattle.fragment_assembler.proofs.Determined.{same_words}
use Rattle.drucenal.specs.Exports.{order_of, found_or, Gives, Lends}
use Rattle.drucenal.specs.ProxyExports.{old_shown, new_shown}
use Rattle.drucenal.specs.AssemblerExports.{fate_shown}
use Rattle.refusals.specs.RefusalTable.{read_number_rows, write_number_rows, read_set_rows, walk_rows, PastSequence, PastFragment, write_set_rows, measure_set_rows, make_set_rows, not_taken, range_rows, missing_rows, assembler_set_up_rows, fragment_rows}
use Rattle.refusals.specs.ExportTable.{ReadNumberOut, WriteNumberOut, ReadSetOut, WriteSetOut, MakeSetOut, WalkSetOut, MeasureSetOut, ReplyOut, ExportTable}
use Rattle.outcome.proofs.RowLaws.{positive, as_number, by_number}
use Rattle.refusals.proofs.SetRows.{read_number_exactly, measure_exactly, read_set_exactly, write_number_exactly, write_set_exactly, make_exactly, walk_exactly, sequence_over, sequence_within, fragment_over, fragment_within}
use Rattle.refusals.proofs.ProxyRows.{add_rows, irrelevant_rows, range_rows_lem, missing_rows_lem, set_up_rows}
use Rattle.refusals.proofs.AssemblerRows.{call_exactly, call_leaves, set_up_exactly, set_up_leaves, clean_exactly, clean_leaves, miss_exactly, miss_leaves}

-- ---- numbers and sets

module _ {A : Type 0} (x : Outcome A) (rows : List Row) (p : positive rows ≡ true) (e : Exactly (verdict x) rows) (r : ℕ) where
  gives : (before after : A) → Gives x before r after → Refuses (numbered r) rows (after ≡ before)
  gives before after g =
      record {
        exactly = rw g.answer (as_number x rows p e);
        untouched = λ n z. g.value ∙ ap (λ (y : Outcome A). found_or y before) (by_number x n (rw g.answer at z));
      }

  lends : {B : Type 0} (answer out after : List B) → Lends x answer out r after → Refuses (numbered r) rows (after ≡ out)
  lends answer out after l =
      record {
        exactly = rw l.answer (as_number x rows p e);
        untouched = λ n z. l.entries ∙ ap (λ (y : Outcome A). left y answer out) (by_number x n (rw l.answer at z));
      }

  gives_lends : {B : Type 0} (before after : A) (answer out list : List B) → Gives x before r after → Lends x answer out r list
      → Refuses (numbered r) rows ((list ≡ out) × (after ≡ before))
  gives_lends before after answer out list g l =
      record {
        exactly = (gives before after g).exactly;
        untouched = λ n z. ((lends answer out list l).untouched n z, (gives before after g).untouched n z);
      }

module _ {N : Type 0} (k : Kind N) where
  number_read : ReadNumberOut k
  number_read big s r = gives (read_number k (order_of big) s) (read_number_rows k s) refl (read_number_exactly k (order_of big) s) r

  set_read : ReadSetOut k
  set_read big s r = gives (read_set k (order_of big) s) (read_set_rows k (order_of big) s) refl (read_set_exactly k (order_of big) s) r

  set_made : MakeSetOut k
  set_made base xs r = gives (make_set k base xs) (make_set_rows k xs) refl (make_exactly k base xs) r

  set_measured : MeasureSetOut k
  set_measured s r = gives (measure_set k.size s.count) (measure_set_rows k s) refl (measure_exactly k s) r

module _ {N : Type 0} (k : Kind N) (law : Lawful k) where
  number_written : WriteNumberOut k
  number_written big n out after r =
      lends (write_number k (length out)) (write_number_rows k (order_of big) n out) refl (write_number_exactly k law (order_of big) n out) r
      (k.number_bytes (order_of big) n) out after

  set_written : WriteSetOut k
  set_written big s out after r wrote wrote' =
      gives_lends (write_set k.size s.count (length out)) (write_set_rows k (order_of big) s out) refl (write_set_exactly k law (order_of big) s out) r
      wrote wrote' (set_bytes k (order_of big) s) out after

set_walked : {N : Type 0} (k : Kind N) (Past : N → Type 0) → ((s : NumberSet N) (out : List N) → Exactly (verdict (walk_set k s (length out))) (walk_rows k Past s out))
    → WalkSetOut k Past
set_walked k Past e s up out after r count count' =
    gives_lends (walk_set k s (length out)) (walk_rows k Past s out) refl (e s out) r count count' (in_order up (members k s)) out after

-- ---- the proxy

replies : (call : List ℕ → ProxyReply) (rows : List Row) → positive rows ≡ true
    → ((w : List ℕ) → GoodProxy w → Refuses (verdict (call w).answer) rows (proxy_words (call w).state ≡ w)) → ReplyOut call rows
replies call rows p base w w' r old old' new new' g x =
    record {
      exactly = rw x.answer (as_number (call w).answer rows p (base w g).exactly);
      untouched = λ n z.
          let e : (call w).answer ≡ refused n = by_number (call w).answer n (rw x.answer at z) in (
            x.after ∙ (base w g).untouched n (ap verdict e),
            x.from ∙ ap (λ (y : Outcome Forcing). old_shown y old) e,
            x.to ∙ ap (λ (y : Outcome Forcing). new_shown y new) e,
          );
    }

pub export_table : ExportTable
export_table =
    record {
      read_sequence_number = number_read sequence_number;
      read_fragment_number = number_read fragment_number;
      write_sequence_number = number_written sequence_number sequence_lawful;
      write_fragment_number = number_written fragment_number fragment_lawful;
      read_sequence_number_set = set_read sequence_number;
      read_fragment_number_set = set_read fragment_number;
      write_sequence_number_set = set_written sequence_number sequence_lawful;
      write_fragment_number_set = set_written fragment_number fragment_lawful;
      make_sequence_number_set = set_made sequence_number;
      make_fragment_number_set = set_made fragment_number;
      walk_sequence_number_set = set_walked sequence_number PastSequence (walk_exactly sequence_number PastSequence sequence_over sequence_within);
      walk_fragment_number_set = set_walked fragment_number PastFragment (walk_exactly fragment_number PastFragment fragment_over fragment_within);
      measure_sequence_number_set = set_measured sequence_number;
      measure_fragment_number_set = set_measured fragment_number;
      proxy_set_up = λ w w' r a.
          record {
            exactly = rw a.0 (as_number (set_up_proxy w).answer (shorter w (proxy_words fresh_proxy) ∷ []) refl (set_up_rows w).exactly);
            untouched = λ n z. a.1 ∙ (set_up_rows w).untouched n (ap verdict (by_number (set_up_proxy w).answer n (rw a.0 at z)));
          };
      proxy_received_changes_add = λ n time f. replies (λ w. received n time (proxy_of w)) (not_taken n ∷ []) refl (λ w g. add_rows w g n time f);
      proxy_set_irrelevant_change = λ n f. replies (λ w. irrelevant n (proxy_of w)) (not_taken n ∷ []) refl (λ w g. irrelevant_rows w g n f);
      proxy_irrelevant_changes_range = λ a b. replies (λ w. irrelevant_range a b (proxy_of w)) (range_rows a b) refl (λ w g. range_rows_lem w g a b);
      proxy_irrelevant_changes_up_to = λ n. replies (λ w. up_to n (proxy_of w)) (range_rows (pos 0) n) refl (λ w g. range_rows_lem w g (pos 0) n);
      proxy_missing_seqnums = λ w start end out after r count count' g x.
          let y = (missing_listed start end (proxy_of w) out).answer in
          let base = missing_rows_lem start end (proxy_of w) out in
          record {
            exactly = rw x.answer (as_number y (missing_rows start end (proxy_of w) out) refl base.exactly);
            untouched = λ n z.
                let e : y ≡ refused n = by_number y n (rw x.answer at z) in
                (x.entries ∙ base.untouched n (ap verdict e), x.value ∙ ap (λ (o : Outcome ℕ). found_or o count) e);
          };
      assembler_set_up = λ w w' f reliable p r x.
          let y = (setup.set_up_assembler f reliable p w).answer in
          record {
            exactly = rw x.answer (as_number y (assembler_set_up_rows f reliable p w) refl (set_up_exactly f reliable p w));
            untouched = λ n z. x.words ∙ set_up_leaves f reliable p w n (ap verdict (by_number y n (rw x.answer at z)));
          };
      assembler_new_datafrag = λ w w' area area' time number fragment_size D k n payload r before after g fits x.
          let c : Fragment = fragment_with time (number_of number) fragment_size D k n payload in
          let a = assembler.assembler_of w in
          let y = (call.fragment a area c).answer in
          record {
            exactly = rw x.answer (as_number y (fragment_rows a area number fragment_size D k n) refl (call_exactly a area number fits time fragment_size D k n payload));
            untouched = λ m z.
                let e : y ≡ refused m = by_number y m (rw x.answer at z) in
                let l = call_leaves a area c m (ap verdict e) in (
                  same_words w' w x.good g (x.state ∙ l.0),
                  x.bytes ∙ l.1,
                  x.value ∙ ap (λ (o : Outcome call.Fate). found_or (found fate_shown o) before) e,
                );
          };
      assembler_garbage_collect_before = λ w w' cutoff out list r before after g x.
          let a = assembler.assembler_of w in
          let y = (clean a cutoff out).answer in
          record {
            exactly = rw x.answer (as_number y (shorter out (stale_numbers cutoff a.places) ∷ []) refl (clean_exactly a cutoff out));
            untouched = λ m z.
                let e : y ≡ refused m = by_number y m (rw x.answer at z) in
                let l = clean_leaves a cutoff out m (ap verdict e) in
                (same_words w' w x.good g (x.state ∙ l.0), x.entries ∙ l.1, x.value ∙ ap (λ (o : Outcome ℕ). found_or o before) e);
          };
      assembler_missing_frags_for = λ w number out list r before after g x.
          let a = assembler.assembler_of w in
          let y = (missing_fragments_for a (number_of number) out).answer in
          record {
            exactly = rw x.answer (as_number y (shorter out (missing_fragments a (number_of number)) ∷ []) refl (miss_exactly a (number_of number) out));
            untouched = λ m z.
                let e : y ≡ refused m = by_number y m (rw x.answer at z) in
                (x.entries ∙ miss_leaves a (number_of number) out m (ap verdict e), x.value ∙ ap (λ (o : Outcome ℕ). found_or o before) e);
          };
    }
