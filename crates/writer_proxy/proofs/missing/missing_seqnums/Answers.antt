-- `writer_proxy::missing::missing_seqnums` meets its contract: the two ends are those of `missing_numbers`, and each answer is a case of `missing_listed`. Assumes nothing.
use Prim.Native.Nat.{◌-◌, ◌≤◌}
use native.Mathlib.Omega.{arith}
use mathlib.Core.Path.{◌≡◌, ap, ◌∙◌}
use mathlib.Core.List.{map}
use lib.ListN.{length, length-map}
use lib.Seq.{take_all}
use lib.IntN.{pos}
use Rattle.sequence_number.specs.Number.{top, nat_of}
use Rattle.proxy_record.specs.Words.{proxy_of, tracked_in}
use Rattle.writer_proxy.specs.Missing.{untracked_from, missing_numbers}
use Rattle.writer_proxy.proofs.MissingLaws.{listed_last, listed_short, listed_all}
use Rattle.writer_proxy.proofs.MissingInPlace.{last_is, ends_found}
use Rattle.writer_proxy.proofs.missing.missing_seqnums.Goals as goal
use Rattle.writer_proxy.proofs.missing.missing_seqnums.Goals.{After-max-hi}

-- the two ends are found: the heartbeat's end is open, they are in order, and what lies between them is the list
ends : (c : After-max-hi)
    → let lo = c.max-lo.result in
    let hi = c.max-hi.result in
    (nat_of c.args.end ≡ top → ⊥) × (lo ≤ hi) × (hi ≤ top) × (untracked_from lo (hi - lo) (tracked_in c.args.t.now) ≡ missing_numbers c.args.start c.args.end (proxy_of c.args.t.now))
ends c =
    let a = c.args in
    ends_found a.start a.end c.ranges.start c.ranges.end a.t.now c.requires _ _ _ _ c.natural-2.ensures c.natural.ensures c.if-end-eq9223372036854775807.false c.max-lo.ensures c.max-hi.ensures

pub returns-then-end-eq9223372036854775807 : goal.returns-then-end-eq9223372036854775807
returns-then-end-eq9223372036854775807 c =
    let a = c.args in
    listed_last a.start a.end (proxy_of a.t.now) a.out.now (last_is a.end c.ranges.end c.if-end-eq9223372036854775807.true)

pub returns-then-out-count : goal.returns-then-out-count
returns-then-out-count c =
    let a = c.args in
    let e = ends (goal.at.returns-then-out-count c).After-max-hi in
    listed_short a.start a.end (proxy_of a.t.now) a.out.now e.0 (omega (arith, c.count_missing-count.ensures, ap length e.3, c.if-out-count.true))

pub list_missing-requires : goal.list_missing-requires
list_missing-requires c =
    let e = ends (goal.at.list_missing-requires c).After-max-hi in
    (c.requires, e.1, e.2)

pub returns : goal.returns
returns c =
    let a = c.args in
    let e = ends (goal.at.returns c).After-max-hi in
    let m = missing_numbers a.start a.end (proxy_of a.t.now) in
    let k : length m ≤ length a.out.now = omega (arith, c.count_missing-count.ensures, ap length e.3, c.if-out-count.false) in
    let l : length (map pos m) ≤ length a.out.now = simp length-map k in
    listed_all a.start a.end (proxy_of a.t.now) a.out.now _ _ e.0 k (c.count_missing-count.ensures ∙ ap length e.3) (rw (e.3, take_all (length a.out.now) (map pos m) l) at c.list_missing.ensures)
