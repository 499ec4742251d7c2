-- Laws of `specs/ProxyExports.antt`: two answers that a promise allows are equal. Assumes nothing.
use Prim.Native.Nat.{ℕ}
use mathlib.Core.Path.{◌≡◌, ◌∙◌, sym}
use mathlib.Core.List.{List}
use lib.IntN.{ℤ}
use Rattle.proxy_steps.specs.Steps.{ProxyReply}
use Rattle.outcome.specs.Answers.{ListReply}
use Rattle.drucenal.specs.ProxyExports.{Replies, ListsMissing}

pub replies_determined : {x : ProxyReply} {old new r r₂ old' old₂ new' new₂ : ℕ} {words words₂ : List ℕ} → Replies x old new r old' new' words
    → Replies x old new r₂ old₂ new₂ words₂ → (r ≡ r₂) × (old' ≡ old₂) × (new' ≡ new₂) × (words ≡ words₂)
replies_determined p q = (p.answer ∙ sym q.answer, p.from ∙ sym q.from, p.to ∙ sym q.to, p.after ∙ sym q.after)

pub missing_determined : {x : (ListReply ℤ)} {before r r₂ after after₂ : ℕ} {list list₂ : List ℤ} → ListsMissing x before r after list
    → ListsMissing x before r₂ after₂ list₂ → (r ≡ r₂) × (after ≡ after₂) × (list ≡ list₂)
missing_determined p q = (p.answer ∙ sym q.answer, p.value ∙ sym q.value, p.entries ∙ sym q.entries)
