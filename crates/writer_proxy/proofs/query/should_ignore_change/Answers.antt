-- `writer_proxy::query::should_ignore_change` meets its contract: a number below 0 is below every base, and past the base the status tells. Assumes nothing.
use native.Mathlib.Omega.{arith}
use mathlib.Core.Path.{◌∙◌}
use borrow.Author.Tests.{lt-ltb}
use Rattle.proxy_record.specs.State.{cap}
use Rattle.proxy_record.specs.Words.{proxy_of}
use Rattle.sequence_number.proofs.NumberLaws.{nat_passed}
use Rattle.proxy_record.proofs.RulesLaws.{base_word}
use Rattle.writer_proxy.proofs.QueryLaws.{ignored_low, ignored_by}
use Rattle.writer_proxy.proofs.query.should_ignore_change.Goals as goal

pub returns-then-n-t : goal.returns-then-n-t
returns-then-n-t c =
    let k = nat_passed c.args.number _ c.ranges.number c.natural-n.ensures in
    rw (lt-ltb _ _ c.if-n-t.true)
    (ignored_low c.args.number (proxy_of c.args.t.now) (omega (arith, k, c.if-n-t.true, base_word cap _ (omega arith) c.requires)))

pub returns-else-n-t : goal.returns-else-n-t
returns-else-n-t c =
    let k = nat_passed c.args.number _ c.ranges.number c.natural-n.ensures in
    c.is_some.ensures
    ∙ ignored_by cap c.args.number _ (proxy_of c.args.t.now) c.find.result _ c.requires.ok k (omega (arith, c.if-n-t.false, base_word cap _ (omega arith) c.requires)) c.find.ensures.shown
