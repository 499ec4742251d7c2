-- Determination: two answers that a public call's promise allows, with the words and the entries that they leave, are equal. w is what was lent.
-- Assumes nothing.
use Prim.Native.Nat.{ℕ}
use mathlib.Core.Path.{◌≡◌, refl, sym, ap, ◌∙◌}
use mathlib.Core.Bool.{Bool}
use mathlib.Core.List.{List}
use lib.IntN.{ℤ}
use Rattle.std.specs.Prelude.{Option, None, Some, Result, Ok, Err}
use Rattle.outcome.specs.Outcome.{Outcome, found}
use Rattle.outcome.specs.Refusal.{said}
use Rattle.outcome.specs.declared.Refusal.{Refusal}
use Rattle.outcome.proofs.Determined.{equal_determined, result_determined}
use Rattle.proxy_record.specs.declared.Mark.{Mark}
use Rattle.proxy_record.specs.Words.{proxy_of}
use Rattle.proxy_steps.specs.declared.Forced.{Forced}
use Rattle.proxy_steps.specs.Steps.{Forcing, unforced, forced, report_said, ProxyReply, ProxyAnswers}
use Rattle.writer_proxy.specs.SetUp.{set_up_proxy}
use Rattle.writer_proxy.specs.Calls.{received, irrelevant, irrelevant_range, up_to}
use Rattle.writer_proxy.specs.Queries.{ignored, status_of, last_received}
use Rattle.writer_proxy.specs.Missing.{missing_listed}

-- ---- what an answer says determines it

abbrev forced_back : Forcing → Option Forced
forced_back unforced = None
forced_back (forced old new) = Some (record { old = old; new = new })

report_back : (r : Result (Option Forced) Refusal) → found forced_back (report_said r) ≡ said r
report_back (Ok None) = refl
report_back (Ok (Some f)) = refl
report_back (Err r) = refl

report_determined : (r r' : Result (Option Forced) Refusal) {x : Outcome Forcing} → report_said r ≡ x → report_said r' ≡ x → r ≡ r'
report_determined r r' p q = result_determined r r' (sym (report_back r) ∙ ap (found forced_back) p) (sym (report_back r') ∙ ap (found forced_back) q)

-- ---- the calls

answered_determined : (x : ProxyReply) (r r' : Result (Option Forced) Refusal) {o o' : List ℕ} → ProxyAnswers r o x → ProxyAnswers r' o' x → (r ≡ r') × (o ≡ o')
answered_determined x r r' a b = (report_determined r r' a.0 b.0, equal_determined a.1 b.1)

pub set_up_determined : (w : List ℕ) (r r' : Result (Unit {0}) Refusal) {o o' : List ℕ} → (said r ≡ (set_up_proxy w).answer) × (o ≡ (set_up_proxy w).words)
    → (said r' ≡ (set_up_proxy w).answer) × (o' ≡ (set_up_proxy w).words) → (r ≡ r') × (o ≡ o')
set_up_determined w r r' a b = (result_determined r r' a.0 b.0, equal_determined a.1 b.1)

module _ (w : List ℕ) (r r' : Result (Option Forced) Refusal) {o o' : List ℕ} where
  pub received_determined : (n : ℤ) (t : ℕ) → ProxyAnswers r o (received n t (proxy_of w)) → ProxyAnswers r' o' (received n t (proxy_of w)) → (r ≡ r') × (o ≡ o')
  received_determined n t = answered_determined (received n t (proxy_of w)) r r'

  pub irrelevant_determined : (n : ℤ) → ProxyAnswers r o (irrelevant n (proxy_of w)) → ProxyAnswers r' o' (irrelevant n (proxy_of w)) → (r ≡ r') × (o ≡ o')
  irrelevant_determined n = answered_determined (irrelevant n (proxy_of w)) r r'

  pub range_determined : (a b : ℤ) → ProxyAnswers r o (irrelevant_range a b (proxy_of w)) → ProxyAnswers r' o' (irrelevant_range a b (proxy_of w)) → (r ≡ r') × (o ≡ o')
  range_determined a b = answered_determined (irrelevant_range a b (proxy_of w)) r r'

  pub up_to_determined : (n : ℤ) → ProxyAnswers r o (up_to n (proxy_of w)) → ProxyAnswers r' o' (up_to n (proxy_of w)) → (r ≡ r') × (o ≡ o')
  up_to_determined n = answered_determined (up_to n (proxy_of w)) r r'

pub ackable_determined : (w : List ℕ) {r r' : ℕ} → r ≡ (proxy_of w).base → r' ≡ (proxy_of w).base → r ≡ r'
ackable_determined w = equal_determined

pub last_determined : (w : List ℕ) (r r' : Option (ℕ × ℕ)) → r ≡ last_received (proxy_of w) → r' ≡ last_received (proxy_of w) → r ≡ r'
last_determined w r r' = equal_determined

pub status_determined : (n : ℤ) (w : List ℕ) (r r' : Option Mark) → r ≡ status_of n (proxy_of w) → r' ≡ status_of n (proxy_of w) → r ≡ r'
status_determined n w r r' = equal_determined

pub ignore_determined : (n : ℤ) (w : List ℕ) {r r' : Bool} → r ≡ ignored n (proxy_of w) → r' ≡ ignored n (proxy_of w) → r ≡ r'
ignore_determined n w = equal_determined

pub missing_determined : (start end : ℤ) (w : List ℕ) (out : List ℤ) (r r' : Result ℕ Refusal) {o o' : List ℤ}
    → (said r ≡ (missing_listed start end (proxy_of w) out).answer) × (o ≡ (missing_listed start end (proxy_of w) out).list)
    → (said r' ≡ (missing_listed start end (proxy_of w) out).answer) × (o' ≡ (missing_listed start end (proxy_of w) out).list) → (r ≡ r') × (o ≡ o')
missing_determined start end w out r r' a b = (result_determined r r' a.0 b.0, equal_determined a.1 b.1)
