-- `proxy_steps::base::track` meets its contract: 257 are tracked at most after the put, and the base steps over its own number. Assumes nothing.
use Rattle.std.specs.Prelude.{Ok}
use Rattle.proxy_record.specs.Entries.{marked_entry}
use Rattle.proxy_steps.proofs.BaseLaws.{put_good, track_above, track_base}
use Rattle.proxy_steps.proofs.base.track.Goals as goal

pub enforce_change_map_cap-requires : goal.enforce_change_map_cap-requires
enforce_change_map_cap-requires c =
    let a = c.args in
    put_good a.t.now c.requires.0 (marked_entry a.n a.mark) c.requires.1 c.requires.2 _ c.put.ensures

pub returns-then-n-t : goal.returns-then-n-t
returns-then-n-t c =
    let a = c.args in
    track_base a.t.now c.requires.0 (marked_entry a.n a.mark) c.requires.1 c.requires.2 _ c.if-n-t.true c.advance_ack_base.ensures

pub returns : goal.returns
returns c =
    let a = c.args in
    track_above a.t.now c.requires.0 (marked_entry a.n a.mark) c.requires.1 c.requires.2 _ c.put.ensures (Ok c.enforce_change_map_cap.result) _ c.if-n-t.false c.enforce_change_map_cap.ensures
