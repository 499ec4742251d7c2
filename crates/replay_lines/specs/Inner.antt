-- What the functions below the public calls ask. No public promise cites it. Assumes nothing.
use Rattle.std.specs.Prelude.{ℕ, ◌+◌, ◌*◌}
use Rattle.replay_lines.specs.Answer.{answer_most}
use Rattle.replay_lines.specs.Feed.{held_room}

-- the buffer for n bytes: 35 of them may say 5,148, so each at most 148, those held before among them, and room for one answer is always left
abbrev pub said_most : ℕ → ℕ
said_most n = 148 * (n + held_room) + answer_most
