-- The steps that the calls on a proxy are made of, in document 01's words, and how a call ends. Assumes nothing.
use Rattle.std.specs.Prelude.{ℕ, zero, suc, ◌+◌, ◌-◌, max, ◌≡◌, cond, List, [], ◌∷◌, ◌++◌, length, ltb, eqb, Option, Some, None, Result}
use Rattle.outcome.specs.Outcome.{Outcome, refused, done, found}
use Rattle.outcome.specs.Refusal.{said}
use Rattle.outcome.specs.declared.Refusal.{Refusal}
use Rattle.proxy_record.specs.Entries.{Entry, below, from, put_in, run_len}
use Rattle.proxy_record.specs.declared.Mark.TheVariants.{NotAvailable}
use Rattle.proxy_record.specs.State.{Proxy, with_tracked, cap}
use Rattle.proxy_record.specs.Words.{proxy_words}
use Rattle.proxy_steps.specs.declared.Forced.{Forced}

-- The steps

-- "If greater than the last received number, that and its time follow"
unfoldable pub noted : ℕ → ℕ → Proxy → Proxy
noted n t s = cond (ltb s.last n) (record { base = s.base; tracked = s.tracked; last = n; time = t }) s

-- "put .. over what was there"
abbrev pub put : Entry → Proxy → Proxy
put e s = with_tracked (put_in e s.tracked) s

-- a state with another base
abbrev pub rebased : ℕ → Proxy → Proxy
rebased b s = record { base = b; tracked = s.tracked; last = s.last; time = s.time }

-- "the base moves to the first untracked number": past the tracked numbers that follow it without a gap
unfoldable pub move_on : Proxy → Proxy
move_on s = rebased (s.base + run_len s.base (from s.base s.tracked)) s

-- "tracked numbers below the base go"
unfoldable pub discard : Proxy → Proxy
discard s = with_tracked (from s.base s.tracked) s

-- the base becomes b, and tracked numbers below it go
abbrev pub cut_to : ℕ → Proxy → Proxy
cut_to b s = rebased b (with_tracked (from b s.tracked) s)

-- "if the number equals the ack base, the base moves to the first untracked number. Then, in every case, tracked numbers below the base go"
unfoldable pub followed : ℕ → Proxy → Proxy
followed n s = discard (cond (eqb n s.base) (move_on s) s)

-- The cap

-- "the lowest n goes and the base becomes at least n + 1"
abbrev pub lowest_gone : List Entry → Proxy → Proxy
lowest_gone [] s = s
lowest_gone (x ∷ l) s = rebased (max s.base (suc x.number)) (with_tracked l s)

-- the same, k times
abbrev pub trim : ℕ → Proxy → Proxy
trim zero s = s
trim (suc k) s = trim k (lowest_gone s.tracked s)

-- "above 256 tracked, the lowest n goes .., repeated"
unfoldable pub capped : Proxy → Proxy
capped s = trim (length s.tracked - cap) s

-- what an accepted call reports: nothing, or "a forced step with old and new base"
pub data Forcing : Type 0 where
  unforced : Forcing
  forced : ℕ → ℕ → Forcing

-- the paper's number and values for each answer
abbrev pub forcing : Option Forced → Forcing
forcing None = unforced
forcing (Some f) = forced f.old f.new

abbrev pub report_said : Result (Option Forced) Refusal → Outcome Forcing
report_said r = found forcing (said r)

-- what a call says and leaves: the answer and the state
pub record ProxyReply : Type 0 where
  pub answer : Outcome Forcing
  pub state : Proxy

-- how a call ends that began in one state (which plays no part here) and whose steps led to another: "Cap, last .. The answer reports a forced step with old and new base"
unfoldable pub ended_proxy : Proxy → Proxy → ProxyReply
ended_proxy before s = record { state = capped s; answer = cond (ltb cap (length s.tracked)) (done (forced s.base (capped s).base)) (done unforced) }

-- "Every refusal returns its number alone and leaves state .. untouched"
abbrev pub refused_proxy : ℕ → Proxy → ProxyReply
refused_proxy k s = record { state = s; answer = refused k }

-- Numbers that are not available

-- an entry that is
abbrev pub unavailable : ℕ → Entry
unavailable n = record { number = n; mark = NotAvailable }

-- a range, from a until before b: "tracked numbers in it go"
unfoldable pub without : ℕ → ℕ → Proxy → Proxy
without a b s = with_tracked (below a s.tracked ++ from b s.tracked) s

-- "If a <= ack base: tracked numbers in it go, and if b > ack base, the base becomes b, moves on to the first untracked number, and all below go"
unfoldable pub skipped : ℕ → ℕ → Proxy → Proxy
skipped a b s = cond (ltb s.base b) (discard (move_on (rebased b (without a b s)))) (without a b s)

-- "Else each is put not available, over what was there": the k numbers from a on
unfoldable pub put_each : ℕ → ℕ → Proxy → Proxy
put_each a zero s = s
put_each a (suc k) s = put_each (suc a) k (put (unavailable a) s)

-- What is promised of a call: its answer, and the lent words after it
abbrev pub ProxyAnswers : Result (Option Forced) Refusal → List ℕ → ProxyReply → Type 0
ProxyAnswers r w x = (report_said r ≡ x.answer) × (w ≡ proxy_words x.state)
