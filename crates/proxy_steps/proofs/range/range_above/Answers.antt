-- `proxy_steps::range::range_above` meets its contract: what the cap would drop goes before the range is put, and that is as if it went after.
-- Assumes nothing.
use Prim.Native.Nat.{ℕ, ◌≤◌}
use native.Mathlib.Omega.{arith}
use mathlib.Core.Path.{◌≡◌, refl}
use mathlib.Core.List.{List}
use lib.ListN.{get_or}
use Rattle.proxy_record.specs.Rules.{GoodProxy}
use Rattle.proxy_record.specs.Rows.{rank}
use Rattle.proxy_record.specs.Words.{tracked_in}
use Rattle.proxy_record.proofs.EntriesLaws.{rank_within}
use Rattle.proxy_record.proofs.RulesLaws.{good_more}
use Rattle.proxy_steps.proofs.RangeLaws.{Ends, room_few, range_few, low_below, room_low, range_low, room_high, range_high}
use Rattle.proxy_steps.proofs.range.range_above.Goals as goal
use Rattle.proxy_steps.proofs.range.range_above.Goals.{After-place-y}

-- the place of an end is within the table
place : (w : List ℕ) (n r : ℕ) → GoodProxy w → r ≡ rank n (tracked_in w) → r ≤ get_or w 1 0
place w n r g e = omega (arith, e, rank_within n (tracked_in w), g.count)

-- the two places are found
ends : (c : After-place-y) → Ends c.args.t.now c.args.a c.args.b c.place-x.result c.place-y.result
ends c =
    let r = c.requires in
    record { good = r.0; above = r.1; order = r.2; high = r.3; at_a = c.place-x.ensures; at_b = c.place-y.ensures }

pub overflow_add-total : goal.overflow_add-total
overflow_add-total c = omega (arith, place _ _ _ c.requires.0 c.place-x.ensures, c.requires.0.count, c.requires.0.ok.few, c.requires.3)

pub overflow_sub-total-2 : goal.overflow_sub-total-2
overflow_sub-total-2 c = place _ _ _ c.requires.0 c.place-y.ensures

pub overflow_add-total-2 : goal.overflow_add-total-2
overflow_add-total-2 c = omega (arith, place _ _ _ c.requires.0 c.place-x.ensures, c.requires.0.count, c.requires.0.ok.few, c.requires.3)

-- no entry goes

pub fill-requires : goal.fill-requires
fill-requires c = room_few (ends (goal.at.fill-requires c).After-place-y) _ refl c.if-total.true

pub returns-then-total : goal.returns-then-total
returns-then-total c = range_few (ends (goal.at.returns-then-total c).After-place-y) _ refl _ c.if-total.true c.fill.ensures

-- entries below the range go

pub number_at-new-requires : goal.number_at-new-requires
number_at-new-requires c =
    (good_more _ c.requires.0, omega (arith, place _ _ _ c.requires.0 c.place-x.ensures, c.requires.0.count, c.if-total.false, c.if-k-x.true))

pub overflow_add-new : goal.overflow_add-new
overflow_add-new c =
    omega (arith, low_below (ends (goal.at.overflow_add-new c).After-place-y) _ refl c.if-total.false c.if-k-x.true _ c.number_at-new.ensures, c.requires.2, c.requires.3)

pub shut_rows-requires : goal.shut_rows-requires
shut_rows-requires c = (good_more _ c.requires.0, omega (arith, place _ _ _ c.requires.0 c.place-x.ensures, c.requires.0.count, c.if-k-x.true))

pub fill-requires-then-k-x : goal.fill-requires-then-k-x
fill-requires-then-k-x c =
    room_low (ends (goal.at.fill-requires-then-k-x c).After-place-y) _ refl c.if-total.false c.if-k-x.true _ c.number_at-new.ensures c.shut_rows.new.t c.shut_rows.ensures

pub returns-then-k-x : goal.returns-then-k-x
returns-then-k-x c =
    range_low (ends (goal.at.returns-then-k-x c).After-place-y) _ refl c.if-total.false c.if-k-x.true _ c.number_at-new.ensures c.shut_rows.new.t c.shut_rows.ensures _ c.fill-then-k-x.ensures

-- entries below the range and the range's own first numbers go

pub shut_rows-requires-2 : goal.shut_rows-requires-2
shut_rows-requires-2 c = (good_more _ c.requires.0, rw c.place-z.ensures (rank_within _ (tracked_in c.args.t.now)))

pub fill-requires-2 : goal.fill-requires-2
fill-requires-2 c =
    room_high (ends (goal.at.fill-requires-2 c).After-place-y) _ refl c.if-k-x.false _ refl _ c.place-z.ensures c.shut_rows-2.new.t c.shut_rows-2.ensures

pub returns : goal.returns
returns c =
    range_high (ends (goal.at.returns c).After-place-y) _ refl c.if-k-x.false _ refl _ c.place-z.ensures c.shut_rows-2.new.t c.shut_rows-2.ensures _ c.fill-2.ensures
