-- What the proxy's exported calls promise: the proxy's own definitions, each answer by its number and its values. Assumes nothing.
use Rattle.std.specs.Prelude.{ℕ, ◌≡◌, List, ℤ, Option, Some, None}
use Rattle.outcome.specs.Answers.{ListReply}
use Rattle.outcome.specs.Outcome.{Outcome, refused, done, refusal}
use Rattle.proxy_record.specs.declared.Mark.{Mark}
use Rattle.proxy_record.specs.declared.Mark.TheVariants.{NotAvailable, Received}
use Rattle.proxy_record.specs.Rules.{GoodProxy}
use Rattle.proxy_record.specs.Words.{proxy_words}
use Rattle.proxy_steps.specs.Steps.{Forcing, unforced, forced, ProxyReply}
use Rattle.drucenal.specs.Exports.{found_or}

-- a forced step's old and new base behind two references: both 0 where there was none, and what was there where the call is refused
abbrev pub old_shown : Outcome Forcing → ℕ → ℕ
old_shown (done unforced) before = 0
old_shown (done (forced old new)) before = old
old_shown (refused k) before = before

abbrev pub new_shown : Outcome Forcing → ℕ → ℕ
new_shown (done unforced) before = 0
new_shown (done (forced old new)) before = new
new_shown (refused k) before = before

pub record Replies (x : ProxyReply) (old new r old' new' : ℕ) (words : List ℕ) : Type 0 where
  pub answer : r ≡ refusal x.answer
  pub from : old' ≡ old_shown x.answer old
  pub to : new' ≡ new_shown x.answer new
  pub after : words ≡ proxy_words x.state
  pub good : GoodProxy words

-- a missing list: how many numbers are listed behind a reference, or what was there; and the lent list
pub record ListsMissing (x : ListReply ℤ) (before r after : ℕ) (list : List ℤ) : Type 0 where
  pub answer : r ≡ refusal x.answer
  pub value : after ≡ found_or x.answer before
  pub entries : list ≡ x.list

-- a status: 0 untracked, 1 not available, 2 received; and behind a reference the time of a received number, else what was there
abbrev pub status_number : Option Mark → ℕ
status_number None = 0
status_number (Some NotAvailable) = 1
status_number (Some (Received t)) = 2

abbrev pub status_time : Option Mark → ℕ → ℕ
status_time None before = before
status_time (Some NotAvailable) before = before
status_time (Some (Received t)) before = t

-- the last received number, 0 for none; and behind a reference its time, else what was there
abbrev pub last_number : Option (ℕ × ℕ) → ℕ
last_number None = 0
last_number (Some p) = p.0

abbrev pub last_time : Option (ℕ × ℕ) → ℕ → ℕ
last_time None before = before
last_time (Some p) before = p.1
