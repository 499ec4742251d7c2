use native.Mathlib.Omega.{arith}
use mathlib.Core.Path.{sym, ◌∙◌}
use Rattle.writer_proxy.proofs.MissingInPlace.{so_far_none, so_far_length, so_far_full, so_far_end, so_far_tracked, so_far_missing}
use Rattle.writer_proxy.proofs.missing.list_missing.Goals as goal
use Rattle.writer_proxy.proofs.missing.list_missing.Goals.{else-i-len-via-then-i-len+else-number_at-n, else-i-len-via-else-i-len}

pub loop-n-init : goal.loop-n-init
loop-n-init c =
    so_far_none c.requires.0 _ c.requires.1 c.place-i.ensures

pub loop-n-preserved-then-number_at-n : goal.loop-n-preserved-then-number_at-n
loop-n-preserved-then-number_at-n c =
    let l = c.loop-n in
    so_far_tracked c.requires.0 l.invariant c.loop-n-test.true c.if-i-len.true (sym c.number_at.ensures ∙ c.if-number_at-n.true)

pub returns-then-w-out : goal.returns-then-w-out
returns-then-w-out c =
    let l = c.loop-n in
    so_far_full c.requires.0 l.invariant
    (c.if-w-out.true ∙ so_far_length c.requires.0 l.invariant)

pub loop-n-preserved : goal.loop-n-preserved
loop-n-preserved c =
    let l = c.loop-n in
    so_far_missing c.requires.0 l.invariant c.loop-n-test.true c.requires.2
    (elim c.else-i-len.branch [
      | else-i-len-via-then-i-len+else-number_at-n w ↦ λ h e. w.if-number_at-n.false (w.number_at.ensures ∙ e)
      | else-i-len-via-else-i-len w ↦ λ h e. omega (arith, w.if-i-len.false)
    ])
    (omega (arith, so_far_length c.requires.0 l.invariant, l.invariant.room, c.if-w-out.false))

pub returns : goal.returns
returns c =
    let l = c.loop-n in
    so_far_end c.requires.0 l.invariant c.loop-n-test.false
