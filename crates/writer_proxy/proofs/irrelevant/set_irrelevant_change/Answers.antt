-- `writer_proxy::irrelevant::set_irrelevant_change` meets its contract: refused, below the base, or tracked, each a case of `irrelevant`. Assumes nothing.
use Prim.Native.Nat.{◌<◌, ◌≤◌}
use native.Mathlib.Omega.{arith}
use mathlib.Core.Path.{refl, sym, ap, ◌∙◌}
use Rattle.std.specs.Prelude.{Err, Ok, None}
use Rattle.std.proofs.lemmas.Result.{err_from_is_err_and}
use Rattle.proxy_record.specs.State.{cap}
use Rattle.proxy_record.specs.Words.{proxy_of}
use Rattle.proxy_steps.specs.Steps.{refused_proxy}
use Rattle.proxy_steps.proofs.BaseLaws.{answered}
use Rattle.proxy_record.proofs.RulesLaws.{base_word}
use Rattle.writer_proxy.specs.Calls.{irrelevant_at, irrelevant}
use Rattle.writer_proxy.proofs.CallsLaws.{irrelevant_old, irrelevant_new}
use Rattle.writer_proxy.proofs.CallsInPlace.{taken_below, taken_is, taken_not, irrelevant_keeps}
use Rattle.writer_proxy.proofs.irrelevant.set_irrelevant_change.Goals as goal

pub returns-in_err-n-clause-proxy_answers : goal.returns-in_err-n-clause-proxy_answers
unfolding irrelevant
returns-in_err-n-clause-proxy_answers c =
    let p = err_from_is_err_and c.from_residual.result c.from_residual.ensures.1 in
    let r = c.in_err-n.ensures in
    taken_not c.args.number c.ranges.number _ c.number_of.ensures r.ok_part c.in_err-n.field-0.0 r.value c.from_residual.result (p.1 ∙ ap Err p.2) _ c.args.t.now c.requires

pub returns-then-n-t-clause-proxy_answers : goal.returns-then-n-t-clause-proxy_answers
unfolding irrelevant
returns-then-n-t-clause-proxy_answers c =
    let a = c.args in
    let w = a.t.now in
    let h : c.in_ok-n.n < (proxy_of w).base = omega (arith, c.if-n-t.true, base_word cap w (omega arith) c.requires) in
    taken_is a.number _ c.ranges.number (sym c.in_ok-n.ensures.ok_part ∙ c.number_of.ensures) (λ n. irrelevant_at n (proxy_of w)) (refused_proxy 4 (proxy_of w)) (Ok None) _
    (rw (irrelevant_old _ (proxy_of w) c.requires.ok h) (refl, c.requires.made))

pub track-requires : goal.track-requires
track-requires c =
    (c.requires, omega (arith, c.if-n-t.false, base_word cap c.args.t.now (omega arith) c.requires), taken_below c.args.number _ c.ranges.number (sym c.in_ok-n.ensures.ok_part ∙ c.number_of.ensures))

pub returns : goal.returns
unfolding irrelevant
returns c =
    let a = c.args in
    let w = a.t.now in
    let h : (proxy_of w).base ≤ c.in_ok-n.n = omega (arith, c.if-n-t.false, base_word cap w (omega arith) c.requires) in
    let r = Ok c.track.result in
    let p = taken_is a.number _ c.ranges.number (sym c.in_ok-n.ensures.ok_part ∙ c.number_of.ensures) (λ n. irrelevant_at n (proxy_of w)) (refused_proxy 4 (proxy_of w)) r _ (answered r _ _ _ (sym (irrelevant_new _ (proxy_of w) h)) c.track.ensures) in
    record { proxy_answers = p; good_proxy = irrelevant_keeps a.number w _ c.requires p.1 }
