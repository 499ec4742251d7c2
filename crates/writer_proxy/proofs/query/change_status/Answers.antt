-- `writer_proxy::query::change_status` meets its contract: a number below 0 is not tracked, and neither is 0. Assumes nothing.
use Prim.Native.Nat.{ℕ}
use mathlib.Core.Path.{ap, ◌∙◌}
use Rattle.std.specs.Prelude.{Some}
use Rattle.proxy_record.specs.State.{cap}
use Rattle.proxy_record.specs.Words.{proxy_of, tracked_in}
use Rattle.sequence_number.proofs.NumberLaws.{nat_passed}
use Rattle.proxy_record.specs.Entries.{look}
use Rattle.writer_proxy.proofs.QueryLaws.{status_nat}
use Rattle.writer_proxy.proofs.query.change_status.Goals as goal

pub returns : goal.returns
returns c =
    let k = nat_passed c.args.number _ c.ranges.number c.natural.ensures in
    ap Some c.mark_at.ensures ∙ c.in_ok-at.ensures.shown ∙ ap (λ (n : ℕ). look n (tracked_in c.args.t.now)) k ∙ status_nat cap c.args.number (proxy_of c.args.t.now) c.requires.ok
