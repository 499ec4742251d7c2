-- What the calls of both records say and leave. Assumes nothing.
use Rattle.std.specs.Prelude.{ℕ, List}
use Rattle.outcome.specs.Outcome.{Outcome}

-- what a set-up says and leaves: the answer and the lent words
pub record SetUpReply : Type 0 where
  pub answer : Outcome (Unit {0})
  pub words : List ℕ

abbrev pub set_up_reply : Outcome (Unit {0}) → List ℕ → SetUpReply
set_up_reply r w = record { answer = r; words = w }

-- what a call that lists says and leaves: the answer and the lent list
pub record ListReply (A : Type 0) : Type 0 where
  pub answer : Outcome ℕ
  pub list : List A

abbrev pub list_reply : {A : Type 0} → Outcome ℕ → List A → ListReply A
list_reply r out = record { answer = r; list = out }
