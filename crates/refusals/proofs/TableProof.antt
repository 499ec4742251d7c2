-- The table is proved, call by call. Assumes nothing.
use mathlib.Core.Path.{refl}
use lib.IntN.{pos}
use Rattle.outcome.specs.Row.{shorter}
use Rattle.sequence_number.specs.Kind.{sequence_number, fragment_number}
use Rattle.sequence_number.specs.Keeps.{sequence_lawful, fragment_lawful}
use Rattle.refusals.specs.RefusalTable.{Order, RefusalTable, not_taken, range_rows, missing_rows, PastSequence, PastFragment}
use mathlib.Core.List.{[], ◌∷◌}
use Rattle.proxy_record.specs.State.{fresh_proxy}
use Rattle.proxy_record.specs.Words.{proxy_of, proxy_words}
use Rattle.refusals.proofs.ProxyRows.{told_as, add_rows, irrelevant_rows, range_rows_lem, missing_rows_lem, set_up_rows}
use Rattle.refusals.proofs.AssemblerRows as assembler
use Rattle.refusals.proofs.AssemblerRows.{fragment_rows_lem, clean_rows}
use Rattle.refusals.proofs.ReplayRows.{parse_rows, line_rows_lem, feed_line}
use Rattle.refusals.proofs.SetRows.{number_read, number_written, set_read, set_written, set_measured, set_made, set_walked, sequence_over, sequence_within, fragment_over, fragment_within}

in_order_lem : Order
in_order_lem =
    record {
      fragments = λ a area number fragment_size D k n. refl;
      reading = λ k o s. refl;
      walking = λ k Past s out. refl;
      writing = λ k o s out. refl;
      measuring = λ k s. refl;
      missing = λ start end s out. refl;
      making = λ k xs. refl;
    }

pub refusal_table : RefusalTable
refusal_table =
    record {
      order = in_order_lem;
      read_sequence_number = number_read sequence_number;
      read_fragment_number = number_read fragment_number;
      write_sequence_number = number_written sequence_number sequence_lawful;
      write_fragment_number = number_written fragment_number fragment_lawful;
      read_from = (set_read sequence_number, set_read fragment_number);
      write_to = (set_written sequence_number sequence_lawful, set_written fragment_number fragment_lawful);
      len_serialized = (set_measured sequence_number, set_measured fragment_number);
      from_base_and_set = (set_made sequence_number, set_made fragment_number);
      iter = (set_walked sequence_number PastSequence sequence_over sequence_within, set_walked fragment_number PastFragment fragment_over fragment_within);
      proxy_set_up = λ w w' r. told_as (shorter w (proxy_words fresh_proxy) ∷ []) (set_up_rows w);
      received_changes_add = λ w w' n time r g f. told_as (not_taken n ∷ []) (add_rows w g n time f);
      set_irrelevant_change = λ w w' n r g f. told_as (not_taken n ∷ []) (irrelevant_rows w g n f);
      irrelevant_changes_range = λ w w' a b r g. told_as (range_rows a b) (range_rows_lem w g a b);
      irrelevant_changes_up_to = λ w w' n r g. told_as (range_rows (pos 0) n) (range_rows_lem w g (pos 0) n);
      missing_seqnums = λ w start end out after r g. told_as (missing_rows start end (proxy_of w) out) (missing_rows_lem start end (proxy_of w) out);
      assembler_set_up = λ w w' f reliable p. assembler.set_up_rows f reliable p w w';
      new_datafrag = fragment_rows_lem;
      garbage_collect_before = clean_rows;
      missing_frags_for = assembler.missing_rows_lem;
      parse = parse_rows;
      answer_line_says = line_rows_lem;
      feed_says = feed_line;
    }
