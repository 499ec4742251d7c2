-- `writer_proxy::set_up::set_up` meets its contract: too short, or wiped and the base set, each a case of `set_up_proxy`. Assumes nothing.
use native.Mathlib.Omega.{arith}
use Rattle.writer_proxy.proofs.SetUpLaws.{set_up_short, set_up_done, set_up_good}
use Rattle.writer_proxy.proofs.set_up.set_up.Goals as goal

pub returns-then-t-lt-PROXY_WORDS : goal.returns-then-t-lt-PROXY_WORDS
returns-then-t-lt-PROXY_WORDS c =
    let w = c.args.t.now in
    record { result_value = set_up_short w c.if-t-lt-PROXY_WORDS.true; good_proxy = λ h. absurd (omega (arith, c.if-t-lt-PROXY_WORDS.true)) }

pub returns : goal.returns
returns c =
    let w = c.args.t.now in
    let d = set_up_done w _ c.if-t-lt-PROXY_WORDS.false c.wipe_record.ensures in
    record { result_value = d; good_proxy = λ h. rw d.1 (set_up_good w h) }
