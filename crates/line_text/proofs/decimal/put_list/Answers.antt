use Rattle.std.proofs.Common.{arith, get_or, drop, pos, length-take, length-drop, ◌-◌, length}
use Rattle.line_text.proofs.DecimalLaws.{spaced_most, list_none, list_more}
use Rattle.line_text.proofs.decimal.put_list.Goals as goal

pub loop-n-init : goal.loop-n-init
loop-n-init c = ((list_none c.args.out.now).0, (list_none c.args.out.now).1, omega arith)

pub put_next-end-requires : goal.put_next-end-requires
put_next-end-requires c =
    let l = c.loop-n in
    omega (arith, spaced_most (get_or c.args.list.now l.n-index (pos 0)) _ (omega arith) c.natural.ensures, length-take (length l.out - l.end) (drop l.end l.out), length-drop l.end l.out)

pub loop-n-preserved : goal.loop-n-preserved
loop-n-preserved c =
    let v = c.loop-n.invariant in
    let a = c.args in
    let x = get_or a.list.now c.loop-n.n-index (pos 0) in
    let m = list_more a.out.now _ _ _ _ a.list.now c.loop-n.n-index _ (omega arith) (omega arith) c.natural.ensures v.0 v.1 c.put_next-end.ensures.0 c.put_next-end.ensures.1 in
    (m.0, m.1, omega (arith, c.put_next-end.ensures.1, spaced_most x _ (omega arith) c.natural.ensures))
