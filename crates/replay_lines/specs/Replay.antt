-- Lines one after the other, from the proxy's state on: what the replay writes. Assumes nothing.
use Rattle.std.specs.Prelude.{ℕ, ◌≤◌, ◌≡◌, List, [], ◌∷◌, ◌++◌, length, take, drop, replicate, ℤ, pos}
use Rattle.proxy_record.specs.State.{Proxy}
use Rattle.proxy_record.specs.Rules.{GoodProxy}
use Rattle.replay_lines.specs.Frame.{parsed}
use Rattle.replay_lines.specs.Answer.{Step, missing_room, step_of, text_of}
use Rattle.replay_lines.specs.Feed.{held_room, Feeding, fed_through, said_through, PieceFed}
use Rattle.replay_lines.specs.declared.feed.Fed.{Fed}

-- a list with just the room that document 01 gives
unfoldable pub blank_list : List ℤ
blank_list = replicate missing_room (pos 0)

abbrev pub line_step : List ℕ → Proxy → Step
line_step line s = step_of (parsed line) s blank_list

unfoldable pub replayed : List (List ℕ) → Proxy → List ℕ
replayed [] s = []
replayed (line ∷ lines) s = text_of (line_step line s) ++ replayed lines (line_step line s).state

-- lent between two lines: a good record, room for the list and for a line, and no byte held
pub record BetweenLines (r : Feeding) : Type 0 where
  pub good : GoodProxy r.words
  pub long : missing_room ≤ length r.list
  pub holds : held_room ≤ length r.held.bytes
  pub empty : r.held.count ≡ 0

-- Input in pieces

-- one piece after the other: what is lent after them, and all that was said
abbrev pub fed_each : List (List ℕ) → Feeding → Feeding
fed_each [] r = r
fed_each (piece ∷ pieces) r = fed_each pieces (fed_through piece r)

abbrev pub said_each : List (List ℕ) → Feeding → List ℕ
said_each [] r = []
said_each (piece ∷ pieces) r = said_through piece r ++ said_each pieces (fed_through piece r)

-- Calls of `feed` over an input until nothing of it is left: each is lent what the last one left and, from where that one stopped, a piece of any length.
-- The input, what is lent at first, all bytes that the calls wrote, and what is lent in the end.
pub data FeedCalls : List ℕ → Feeding → List ℕ → Feeding → Type 0 where
  finished : (r : Feeding) → FeedCalls [] r [] r
  call : {r after end : Feeding} (piece rest out out' : List ℕ) (f : Fed) {text : List ℕ} → PieceFed f after out out' piece r → FeedCalls (drop f.taken piece ++ rest) after text end
      → FeedCalls (piece ++ rest) r (take f.wrote out' ++ text) end
