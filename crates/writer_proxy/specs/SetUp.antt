-- What set-up makes of lent words. Assumes nothing.
use Rattle.std.specs.Prelude.{ℕ, cond, List, length, ltb}
use Rattle.outcome.specs.Answers.{SetUpReply, set_up_reply}
use Rattle.outcome.specs.Lent.{over}
use Rattle.outcome.specs.Outcome.{refused, done}
use Rattle.proxy_record.specs.State.{fresh_proxy}
use Rattle.proxy_record.specs.Words.{proxy_words, proxy_size}

-- row 3: "lent output shorter than the answer" leaves the words; else the record of a proxy that has heard nothing, and past it what was there
unfoldable pub set_up_proxy : List ℕ → SetUpReply
set_up_proxy w = cond (ltb (length w) proxy_size) (set_up_reply (refused 3) w) (set_up_reply (done tt) (over (proxy_words fresh_proxy) w))
