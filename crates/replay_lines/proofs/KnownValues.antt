-- Document 01's worked example, byte for byte. Assumes nothing.
use mathlib.Core.Path.{◌≡◌, refl, ap, ◌∙◌}
use mathlib.Core.Bool.{Bool, true, false, cond}
use Prim.Native.Nat.{ℕ, ◌≤◌}
use mathlib.Core.List.{List, [], ◌∷◌}
use native.Mathlib.Omega.{arith}
use lib.ListN.{length}
use lib.Dec.{eqb}
use lib.IntN.{ℤ}
use borrow.Author.Tests.{eqb-false}
use Rattle.outcome.proofs.Split.{split}
use Rattle.proxy_record.specs.State.{fresh_proxy}
use Rattle.proxy_record.specs.Words.{proxy_words}
use Rattle.proxy_record.proofs.WordsLaws.{good_is}
use Rattle.proxy_record.specs.Entries.{below, from, put_in, run_len, look}
use Rattle.proxy_record.proofs.RulesLaws.{ok_fresh}
use Rattle.proxy_steps.specs.Steps.{noted, move_on, discard, followed, capped, ended_proxy, without, skipped, put_each}
use Rattle.writer_proxy.specs.Calls.{received_at, received, range_at, irrelevant_range}
use Rattle.writer_proxy.specs.Missing.{untracked_from, missing_listed}
use Rattle.writer_proxy.proofs.Promises.{record_reads_back}
use Rattle.line_text.specs.Lines.{NoFeed, Lines, recorded}
use Rattle.line_text.specs.Hex.{digit_of, all_hex, value_at}
use Rattle.replay_lines.specs.Frame.{frame_of, parsed}
use Rattle.line_text.specs.Decimal.{digits_within, digits, spaced}
use Rattle.replay_lines.specs.Answer.{missing_room, step_of}
use Rattle.replay_lines.specs.Feed.{held_room, Feeding, feeding, said_through}
use Rattle.replay_lines.specs.Replay.{blank_list, replayed, BetweenLines, FeedCalls}
use Rattle.replay_lines.proofs.Promises.{recording_said, calls_said}

-- 010000000000000001000000000000000A
unfoldable pub first : List ℕ
first = 48 ∷ 49 ∷ 48 ∷ 48 ∷ 48 ∷ 48 ∷ 48 ∷ 48 ∷ 48 ∷ 48 ∷ 48 ∷ 48 ∷ 48 ∷ 48 ∷ 48 ∷ 48 ∷ 48 ∷ 49 ∷ 48 ∷ 48 ∷ 48 ∷ 48 ∷ 48 ∷ 48 ∷ 48 ∷ 48 ∷ 48 ∷ 48 ∷ 48 ∷ 48 ∷ 48 ∷ 48 ∷ 48 ∷ 65 ∷ []

-- 010000000000000003000000000000000B
unfoldable pub second : List ℕ
second = 48 ∷ 49 ∷ 48 ∷ 48 ∷ 48 ∷ 48 ∷ 48 ∷ 48 ∷ 48 ∷ 48 ∷ 48 ∷ 48 ∷ 48 ∷ 48 ∷ 48 ∷ 48 ∷ 48 ∷ 51 ∷ 48 ∷ 48 ∷ 48 ∷ 48 ∷ 48 ∷ 48 ∷ 48 ∷ 48 ∷ 48 ∷ 48 ∷ 48 ∷ 48 ∷ 48 ∷ 48 ∷ 48 ∷ 66 ∷ []

-- 0300000000000000010000000000000004
unfoldable pub third : List ℕ
third = 48 ∷ 51 ∷ 48 ∷ 48 ∷ 48 ∷ 48 ∷ 48 ∷ 48 ∷ 48 ∷ 48 ∷ 48 ∷ 48 ∷ 48 ∷ 48 ∷ 48 ∷ 48 ∷ 48 ∷ 49 ∷ 48 ∷ 48 ∷ 48 ∷ 48 ∷ 48 ∷ 48 ∷ 48 ∷ 48 ∷ 48 ∷ 48 ∷ 48 ∷ 48 ∷ 48 ∷ 48 ∷ 48 ∷ 52 ∷ []

-- 0200000000000000020000000000000003
unfoldable pub fourth : List ℕ
fourth = 48 ∷ 50 ∷ 48 ∷ 48 ∷ 48 ∷ 48 ∷ 48 ∷ 48 ∷ 48 ∷ 48 ∷ 48 ∷ 48 ∷ 48 ∷ 48 ∷ 48 ∷ 48 ∷ 48 ∷ 50 ∷ 48 ∷ 48 ∷ 48 ∷ 48 ∷ 48 ∷ 48 ∷ 48 ∷ 48 ∷ 48 ∷ 48 ∷ 48 ∷ 48 ∷ 48 ∷ 48 ∷ 48 ∷ 51 ∷ []

-- 0300000000000000010000000000000004
unfoldable pub fifth : List ℕ
fifth = 48 ∷ 51 ∷ 48 ∷ 48 ∷ 48 ∷ 48 ∷ 48 ∷ 48 ∷ 48 ∷ 48 ∷ 48 ∷ 48 ∷ 48 ∷ 48 ∷ 48 ∷ 48 ∷ 48 ∷ 49 ∷ 48 ∷ 48 ∷ 48 ∷ 48 ∷ 48 ∷ 48 ∷ 48 ∷ 48 ∷ 48 ∷ 48 ∷ 48 ∷ 48 ∷ 48 ∷ 48 ∷ 48 ∷ 52 ∷ []

-- "gives"
unfoldable pub answers : List ℕ
answers = 49 ∷ 32 ∷ 48 ∷ 32 ∷ 50 ∷ 10 ∷ 49 ∷ 32 ∷ 48 ∷ 32 ∷ 50 ∷ 10 ∷ 51 ∷ 32 ∷ 48 ∷ 32 ∷ 50 ∷ 32 ∷ 50 ∷ 32 ∷ 50 ∷ 32 ∷ 52 ∷ 10 ∷ 50 ∷ 32 ∷ 48 ∷ 32 ∷ 52 ∷ 10 ∷ 51 ∷ 32 ∷ 48 ∷ 32 ∷ 52 ∷ 32 ∷ 49 ∷ 32 ∷ 52 ∷ 10 ∷ []

abbrev pub example : List (List ℕ)
example = first ∷ second ∷ third ∷ fourth ∷ fifth ∷ []

pub example_replayed : replayed example fresh_proxy ≡ answers
unfolding first second third fourth fifth answers replayed blank_list step_of parsed frame_of all_hex digit_of value_at digits digits_within spaced received received_at noted followed move_on discard ended_proxy capped irrelevant_range range_at skipped without put_each missing_listed untracked_from look below from put_in run_len
example_replayed = refl

-- whether no byte is a line feed
abbrev feedless : List ℕ → Bool
feedless [] = true
feedless (b ∷ bytes) = cond (eqb b 10) false (feedless bytes)

no_feed : (bytes : List ℕ) → feedless bytes ≡ true → NoFeed bytes
no_feed [] = λ e. tt
no_feed (b ∷ bytes) =
    split (eqb b 10)
    (λ f. rw f (λ e. let z : ◌≡◌ {A = ℕ} 0 1 = cc in absurd (omega arith)))
    (λ f. rw f (λ e. (eqb-false b 10 f, no_feed bytes e)))

example_lines : Lines example
unfolding first second third fourth fifth
example_lines = (no_feed first refl, (no_feed second refl, (no_feed third refl, (no_feed fourth refl, (no_feed fifth refl, tt)))))

-- from a fresh proxy on, where nothing is held, with any list and any place to hold a line that are long enough
module _ (list : List ℤ) (held : List ℕ) (a : missing_room ≤ length list) (b : held_room ≤ length held) where
  abbrev pub fresh : Feeding
  fresh = feeding (proxy_words fresh_proxy) list held 0

  fresh_ready : BetweenLines fresh
  fresh_ready = record { good = good_is 256 (proxy_words fresh_proxy) fresh_proxy (omega arith) ok_fresh refl; long = a; holds = b; empty = refl }

  pub example_said : said_through (recorded example) fresh ≡ answers
  example_said = (recording_said example example_lines fresh fresh_ready).0 ∙ ap (replayed example) (record_reads_back fresh_proxy ok_fresh) ∙ example_replayed

  -- calls of `feed` over the bytes of the example write the bytes that it "gives"
  pub worked_example : {text : List ℕ} {end : Feeding} → FeedCalls (recorded example) fresh text end → text ≡ answers
  worked_example c = (calls_said c).0 ∙ example_said
