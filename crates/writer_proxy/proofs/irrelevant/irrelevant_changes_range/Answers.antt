-- `writer_proxy::irrelevant::irrelevant_changes_range` meets its contract: refused, skipped, or put, each a case of `irrelevant_range`. Assumes nothing.
use native.Mathlib.Omega.{arith}
use mathlib.Core.Path.{◌≡◌}
use mathlib.Core.Bool.{false}
use lib.Signed.{lt_z}
use Rattle.sequence_number.specs.Number.{nat_of}
use Rattle.sequence_number.proofs.NumberLaws.{nat_top, nat_passed}
use Rattle.sequence_number.proofs.SignedLaws.{test_back}
use Rattle.std.specs.Prelude.{Ok}
use Rattle.writer_proxy.proofs.CallsInPlace.{range_refused, range_keeps, range_order, range_skips, range_above_base, range_puts}
use Rattle.writer_proxy.proofs.irrelevant.irrelevant_changes_range.Goals as goal
use Rattle.writer_proxy.proofs.irrelevant.irrelevant_changes_range.Goals.{After-natural-b}

pub returns-then-until-from : goal.returns-then-until-from
returns-then-until-from c =
    let a = c.args in
    record {
      proxy_answers = range_refused a.from a.until c.ranges.until a.t.now c.requires (test_back a.until a.from c.ranges.until.sfits c.ranges.from.sfits c.if-until-from.true);
      good_proxy = c.requires;
    }

-- the two ends as the core takes them
ends : (c : After-natural-b) →
    (lt_z c.args.until c.args.from ≡ false) × (c.natural-a.result ≡ nat_of c.args.from) × (c.natural-b.result ≡ nat_of c.args.until)
ends c = (
  test_back c.args.until c.args.from c.ranges.until.sfits c.ranges.from.sfits c.if-until-from.false,
  nat_passed c.args.from _ c.ranges.from c.natural-a.ensures,
  nat_passed c.args.until _ c.ranges.until c.natural-b.ensures,
)

pub skip_to-requires : goal.skip_to-requires
skip_to-requires c =
    (c.requires, omega (arith, (ends (goal.at.skip_to-requires c).After-natural-b).2, nat_top c.args.until c.ranges.until))

pub returns-then-a-t : goal.returns-then-a-t
returns-then-a-t c =
    let a = c.args in
    let e = ends (goal.at.returns-then-a-t c).After-natural-b in
    let d = range_skips a.from a.until c.ranges.until a.t.now c.requires e.0 _ _ e.1 e.2 _ c.if-a-t.true c.skip_to.ensures in
    record { proxy_answers = d; good_proxy = range_keeps a.from a.until c.ranges.until a.t.now c.requires _ d.1 }

pub range_above-requires : goal.range_above-requires
range_above-requires c =
    let a = c.args in
    let e = ends (goal.at.range_above-requires c).After-natural-b in
    let o = range_order a.from a.until c.ranges.until a.t.now c.requires e.0 _ _ e.1 e.2 in
    (c.requires, range_above_base a.from a.until c.ranges.until a.t.now c.requires e.0 _ _ e.1 e.2 c.if-a-t.false, o.0, o.1)

pub returns : goal.returns
returns c =
    let a = c.args in
    let e = ends (goal.at.returns c).After-natural-b in
    let d = range_puts a.from a.until c.ranges.until a.t.now c.requires e.0 _ _ e.1 e.2 (Ok c.range_above.result) _ c.if-a-t.false c.range_above.ensures in
    record { proxy_answers = d; good_proxy = range_keeps a.from a.until c.ranges.until a.t.now c.requires _ d.1 }
