-- `replay_lines::answer::put_missing` meets its contract: head, count, list and line feed, which take 5,148 bytes at most. Assumes nothing.
use Rattle.std.proofs.Common.{◌+◌, ◌*◌, ◌<◌, arith, [], ◌∷◌, map, length}
use Rattle.sequence_number.specs.Number.{nat_of}
use Rattle.line_text.proofs.DecimalLaws.{goes_on, goes_on_one}
use Rattle.replay_lines.proofs.AnswerLaws.{room_on, head_most, count_most, ends}
use Rattle.replay_lines.proofs.answer.put_missing.Goals as goal
use Rattle.replay_lines.proofs.answer.put_missing.Goals.{After-put_next}

pub put_next-requires : goal.put_next-requires
put_next-requires c =
    (room_on _ _ _ 3 (0 ∷ c.args.base ∷ []) c.put_head-a.ensures _ (omega (arith, head_most _ c.requires.1, c.put_head-a.ensures.1, count_most (length c.args.list.now) c.requires.2))).1

-- the list and a line feed still fit
fits : (c : After-put_next) → c.put_head-a.result + c.put_next.result + 20 * length c.args.list.now < length c.args.out.now
fits c = omega (arith, head_most _ c.requires.1, c.put_head-a.ensures.1, count_most (length c.args.list.now) c.requires.2, c.put_next.ensures.1)

pub put_list-requires : goal.put_list-requires
put_list-requires c =
    let d = goes_on_one c.args.out.now _ _ _ _ 3 _ (0 ∷ c.args.base ∷ []) c.put_head-a.ensures c.put_next.ensures.0 c.put_next.ensures.1 in
    (room_on _ _ _ 3 _ d _ (omega (arith, fits (goal.at.put_list-requires c).After-put_next))).1

pub bounds-out-end : goal.bounds-out-end
bounds-out-end c =
    let d = goes_on_one c.args.out.now _ _ _ _ 3 _ (0 ∷ c.args.base ∷ []) c.put_head-a.ensures c.put_next.ensures.0 c.put_next.ensures.1 in
    let e = goes_on c.args.out.now _ _ _ _ 3 (0 ∷ c.args.base ∷ length c.args.list.now ∷ []) (map nat_of c.args.list.now) d c.put_list.ensures.0 c.put_list.ensures.1 in
    let h = (room_on _ _ _ 3 _ e 1 (omega (arith, fits (goal.at.bounds-out-end c).After-put_next, c.put_list.ensures.2))).0 in
    omega arith

pub returns : goal.returns
returns c =
    let d = goes_on_one c.args.out.now _ _ _ _ 3 _ (0 ∷ c.args.base ∷ []) c.put_head-a.ensures c.put_next.ensures.0 c.put_next.ensures.1 in
    let e = goes_on c.args.out.now _ _ _ _ 3 (0 ∷ c.args.base ∷ length c.args.list.now ∷ []) (map nat_of c.args.list.now) d c.put_list.ensures.0 c.put_list.ensures.1 in
    ends c.args.out.now _ _ 3 (0 ∷ c.args.base ∷ length c.args.list.now ∷ map nat_of c.args.list.now) e (omega (arith, fits (goal.at.returns c).After-put_next, c.put_list.ensures.2))
