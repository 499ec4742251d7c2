-- `assembly_record::rows::whole_at` meets its contract: the row stands for the place, and the marks before its first gap cover the sample where the place
-- is whole. Assumes nothing.
use native.Mathlib.Omega.{arith}
use mathlib.Core.Path.{◌≡◌}
use mathlib.Core.List.{[]}
use lib.ListN.{length, get_or}
use Rattle.assembly_record.proofs.FirstGapLaws.{whole_counted}
use Rattle.assembly_record.proofs.rows.whole_at.Goals as goal

pub returns : goal.returns
returns c =
    let n : length (get_or c.rows.result.now c.args.seat []) ≡ 7 = omega arith in
    whole_counted c.args.t.now c.args.seat c.rows.result.now _ c.requires c.rows.ensures.places c.rows.ensures.long n c.first_gap-come.ensures
