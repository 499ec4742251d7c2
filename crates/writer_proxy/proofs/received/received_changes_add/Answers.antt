-- `writer_proxy::received::received_changes_add` meets its contract: refused or received, each a case of `received`. Assumes nothing.
use mathlib.Core.Path.{ap, sym, ◌∙◌}
use Rattle.std.specs.Prelude.{Err, Ok}
use Rattle.std.proofs.lemmas.Result.{err_from_is_err_and}
use Rattle.proxy_record.specs.Words.{proxy_of}
use Rattle.proxy_steps.specs.Steps.{refused_proxy}
use Rattle.writer_proxy.specs.Calls.{received_at, received}
use Rattle.writer_proxy.proofs.CallsInPlace.{received_keeps, taken_is, taken_not}
use Rattle.writer_proxy.proofs.received.received_changes_add.Goals as goal

pub returns-in_err-n-clause-proxy_answers : goal.returns-in_err-n-clause-proxy_answers
unfolding received
returns-in_err-n-clause-proxy_answers c =
    let p = err_from_is_err_and c.from_residual.result c.from_residual.ensures.1 in
    let r = c.in_err-n.ensures in
    taken_not c.args.number c.ranges.number _ c.number_of.ensures r.ok_part c.in_err-n.field-0.0 r.value c.from_residual.result (p.1 ∙ ap Err p.2) _ c.args.t.now c.requires

pub returns : goal.returns
unfolding received
returns c =
    let a = c.args in
    let p = taken_is a.number _ c.ranges.number (sym c.in_ok-n.ensures.ok_part ∙ c.number_of.ensures) (λ n. received_at n a.time (proxy_of a.t.now)) (refused_proxy 4 (proxy_of a.t.now)) (Ok c.received_at.result) _ c.received_at.ensures in
    record { proxy_answers = p; good_proxy = received_keeps a.number a.time a.t.now _ c.requires p.1 }
