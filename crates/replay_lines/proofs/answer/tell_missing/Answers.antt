-- `replay_lines::answer::tell_missing` meets its contract: the numbers that stand in the lent list are the missing ones. Assumes nothing.
use Rattle.std.proofs.Common.{◌≡◌, ◌≤◌, ◌++◌, arith, sym, length, take, drop, length-take-le}
use mir.Facts.{to_z-of_z}
use Rattle.outcome.specs.Outcome.{done}
use Rattle.proxy_record.specs.Words.{proxy_of}
use Rattle.writer_proxy.specs.Missing.{missing_listed}
use Rattle.replay_lines.proofs.AnswerLaws.{missing_fits, missing_told}
use Rattle.replay_lines.proofs.answer.tell_missing.Goals as goal
use Rattle.replay_lines.proofs.answer.tell_missing.Goals.{In-Ok}

-- the numbers that were listed, and how many they are
listed : (c : In-Ok) → (done c.in-Ok.count ≡ (missing_listed c.args.start c.args.end (proxy_of c.args.words.now) (take 256 c.args.list.now)).answer) × (c.missing_seqnums-listing.new.out ≡ (missing_listed c.args.start c.args.end (proxy_of c.args.words.now) (take 256 c.args.list.now)).list)
listed c = let fs = to_z-of_z c.ranges.start in let fe = to_z-of_z c.ranges.end in let h = c.in-Ok.ensures in rw (fs, fe) at h

fits : (c : In-Ok) → (c.in-Ok.count ≤ 256) × (c.in-Ok.count ≤ length (c.missing_seqnums-listing.new.out ++ drop 256 c.args.list.now))
fits c = missing_fits c.args.start c.args.end _ c.args.list.now _ (listed c).1 _ (listed c).0

pub slice_bounds-put_missing-end : goal.slice_bounds-put_missing-end
slice_bounds-put_missing-end c = (fits (goal.at.slice_bounds-put_missing-end c).In-Ok).1

pub slice_bounds-put_missing-end-in-Ok : goal.slice_bounds-put_missing-end-in-Ok
slice_bounds-put_missing-end-in-Ok c = sym (length-take-le _ _ (fits (goal.at.slice_bounds-put_missing-end-in-Ok c).In-Ok).1)

pub put_missing-requires : goal.put_missing-requires
put_missing-requires c =
    let h = fits (goal.at.put_missing-requires c).In-Ok in
    (c.requires.2, omega (arith, c.all_ackable_before-base.ensures, c.requires.0.ok.high), omega (arith, length-take-le _ _ h.1))

pub returns-in-Ok-clause-line_written : goal.returns-in-Ok-clause-line_written
returns-in-Ok-clause-line_written c =
    let h = listed (goal.at.returns-in-Ok-clause-line_written c).In-Ok in
    (missing_told c.args.start c.args.end _ c.args.list.now _ h.1 _ _ _ _ _ c.all_ackable_before-base.ensures h.0 c.put_missing.ensures).0
