-- What a line does to the proxy, and the line that answers it. Assumes nothing.
use Rattle.std.specs.Prelude.{ℕ, ◌≡◌, List, [], ◌∷◌, ◌++◌, length, take, drop, ℤ}
use Rattle.outcome.specs.Lent.{over}
use Rattle.outcome.specs.Outcome.{Outcome, refused, done, refusal}
use Rattle.proxy_record.specs.State.{Proxy}
use Rattle.proxy_record.specs.Words.{proxy_words}
use Rattle.proxy_steps.specs.Steps.{ProxyReply}
use Rattle.writer_proxy.specs.Calls.{received, irrelevant_range}
use Rattle.writer_proxy.specs.Missing.{missing_numbers, missing_listed}
use Rattle.line_text.specs.Decimal.{line_of}
use Rattle.replay_lines.specs.declared.frame.Frame.{Frame}
use Rattle.replay_lines.specs.declared.frame.Frame.TheVariants.{Received, Range, Missing}

-- "03 missing (start, end; room 256)"
abbrev pub missing_room : ℕ
missing_room = 256

-- no answer line is longer
abbrev pub answer_most : ℕ
answer_most = 5148

-- what a line does: the proxy's state after it, the answer's kind and the numbers after that, and the lent list
pub record Step : Type 0 where
  pub state : Proxy
  pub kind : ℕ
  pub after : List ℕ
  pub list : List ℤ

-- "Each line gives kind, refusal or 0, ack base"
abbrev pub told : ℕ → ProxyReply → List ℤ → Step
told kind x list = record { state = x.state; kind = kind; after = refusal x.answer ∷ x.state.base ∷ []; list = list }

-- "03 accepted adds count and numbers"
abbrev pub counted : List ℕ → ℕ → Outcome ℕ → List ℕ
counted numbers base (done n) = 0 ∷ base ∷ n ∷ numbers
counted numbers base (refused k) = k ∷ base ∷ []

abbrev pub told_missing : ℤ → ℤ → Proxy → List ℤ → Step
told_missing start end s list = record {
  state = s;
  kind = 3;
  after = counted (missing_numbers start end s) s.base (missing_listed start end s (take missing_room list)).answer;
  list = (missing_listed start end s (take missing_room list)).list ++ drop missing_room list;
}

-- "01 received (number, time), 02 range (a, b), 03 missing (start, end; room 256)"; "A line that does not read gives `0 1` and the base"
unfoldable pub step_of : Outcome Frame → Proxy → List ℤ → Step
step_of (refused n) s list = record { state = s; kind = 0; after = n ∷ s.base ∷ []; list = list }
step_of (done (Received number time)) s list = told 1 (received number time s) list
step_of (done (Range from until)) s list = told 2 (irrelevant_range from until s) list
step_of (done (Missing start end)) s list = told_missing start end s list

abbrev pub text_of : Step → List ℕ
text_of x = line_of x.kind x.after

-- What is promised of a line

-- n bytes were written: a line of numbers, over what was there
pub record LineWritten (n : ℕ) (out out' : List ℕ) (kind : ℕ) (after : List ℕ) : Type 0 where
  pub line : out' ≡ over (line_of kind after) out
  pub count : n ≡ length (line_of kind after)

-- a step was done: the words and the list after it, and its answer, from the buffer's front
pub record LineAnswered (n : ℕ) (words : List ℕ) (list : List ℤ) (out out' : List ℕ) (x : Step) : Type 0 where
  pub words_are : words ≡ proxy_words x.state
  pub list_is : list ≡ x.list
  pub wrote : LineWritten n out out' x.kind x.after
