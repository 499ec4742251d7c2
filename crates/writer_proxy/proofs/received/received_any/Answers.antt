-- `writer_proxy::received::received_any` meets its contract: a number below the base is only noted, and any other is tracked. Assumes nothing.
use native.Mathlib.Omega.{arith}
use Rattle.std.specs.Prelude.{Ok}
use Rattle.proxy_record.specs.State.{cap}
use Rattle.proxy_record.proofs.RulesLaws.{base_word}
use Rattle.writer_proxy.proofs.CallsInPlace.{noted_good, received_old, received_above}
use Rattle.writer_proxy.proofs.received.received_any.Goals as goal

pub returns-then-n-t : goal.returns-then-n-t
returns-then-n-t c =
    received_old c.args.n c.args.time c.args.t.now _ c.requires.0 c.requires.1 c.note.ensures c.if-n-t.true

pub track-requires : goal.track-requires
track-requires c =
    let g = noted_good c.args.n c.args.time c.args.t.now _ c.requires.0 c.requires.1 c.note.ensures in
    (g, omega (arith, base_word cap _ (omega arith) g, c.if-n-t.false), c.requires.1)

pub returns : goal.returns
returns c =
    received_above c.args.n c.args.time c.args.t.now _ c.requires.0 c.requires.1 c.note.ensures (Ok c.track.result) _ c.track.ensures
