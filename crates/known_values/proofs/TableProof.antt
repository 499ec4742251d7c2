-- Document 01's table holds, by computation of the definitions. Assumes nothing.
use native.Mathlib.Omega.{arith}
use mathlib.Core.Logic.{inl}
use mathlib.Core.Path.{◌≡◌, refl, ap, ◌∙◌}
use lib.ListN.{length}
use lib.IntN.{pos}
use Rattle.sequence_number.specs.Number.{top}
use Rattle.proxy_record.specs.Entries.{RisingEntries, below, from, put_in, run_len}
use Rattle.proxy_record.specs.State.{Proxy, fresh_proxy}
use Rattle.proxy_record.specs.Rows.{rank}
use Rattle.proxy_steps.specs.Steps.{ProxyReply, noted, move_on, discard, cut_to, followed, capped, ended_proxy, without, skipped, put_each}
use Rattle.proxy_steps.proofs.CapLaws.{ended_cut}
use Rattle.proxy_steps.proofs.EachLaws.{base_each, rising_each, rank_each, length_each, each_cut_in}
use Rattle.writer_proxy.specs.Calls.{received_at, received, range_at, irrelevant_range}
use Rattle.fragment_assembler.specs.Call.{fragment}
use Rattle.assembly_record.specs.Fragments.{fragments}
use Rattle.fragment_assembler.specs.Refusal.{fragment_refusal}
use Rattle.assembly_record.specs.Table.{has_number}
use Rattle.known_values.specs.Table.{up_from, tracked_numbers, KnownValues}

-- P10: of a thousand numbers the last 256 are put
abbrev thousand : Proxy
thousand = put_each 2 1000 fresh_proxy

thousand_ranks : (rank 745 thousand.tracked ≡ 743) × (rank 746 thousand.tracked ≡ 744) × (length thousand.tracked ≡ 1000)
unfolding below
thousand_ranks = (
  rank_each 1000 743 2 fresh_proxy tt (omega arith) (omega arith),
  rank_each 1000 744 2 fresh_proxy tt (omega arith) (omega arith),
  length_each 1000 2 fresh_proxy tt (omega arith),
)

range_10 : (irrelevant_range (pos 2) (pos 1002) fresh_proxy).state ≡ put_each 746 256 (cut_to 746 fresh_proxy)
unfolding irrelevant_range range_at
range_10 =
    let r : RisingEntries thousand.base top thousand.tracked = rw (base_each 1000 2 fresh_proxy) (rising_each 1000 2 1 fresh_proxy tt (omega arith) (omega arith)) in
    let t = thousand_ranks in
    ap (λ (x : ProxyReply). x.state) (ended_cut fresh_proxy thousand 745 746 r refl (omega (arith, t.0, t.1)) (omega (arith, t.1, t.2)))
    ∙ each_cut_in 744 256 2 fresh_proxy

p10 : ((irrelevant_range (pos 2) (pos 1002) fresh_proxy).state.base ≡ 746) × (tracked_numbers (irrelevant_range (pos 2) (pos 1002) fresh_proxy).state ≡ up_from 746 256)
unfolding put_each put_in below from
p10 = rw range_10 (refl, refl)

pub known_values : KnownValues
unfolding fragments fragment_refusal has_number fragment received received_at noted followed move_on discard ended_proxy capped irrelevant_range range_at skipped without put_each put_in below from run_len
known_values =
    record {
      P1 = refl;
      P2 = refl;
      P3 = refl;
      P4 = refl;
      P5 = (refl, refl);
      P6 = refl;
      P7 = (refl, refl);
      P8 = λ reliable area e. rw e (refl, refl, refl, refl);
      P9 = (refl, refl);
      P10 = p10;
      P11 = λ time. (refl, inl refl);
    }
