-- Reading and writing one number (RTPS 2.5, 9.4.2.5 and 9.4.2.7): what each call promises. Assumes nothing.
use Rattle.std.specs.Prelude.{ℕ, ◌≡◌, cond, List, length, ltb, Result}
use Rattle.outcome.specs.Outcome.{Outcome, refused, done, left}
use Rattle.outcome.specs.Refusal.{said}
use Rattle.outcome.specs.declared.Refusal.{Refusal}
use Rattle.sequence_number.specs.Kind.{Kind}
use Rattle.sequence_number.specs.declared.ByteOrder.{ByteOrder}

-- 1 where the bytes end early, else the number at their front; bytes after it are not looked at
abbrev pub read_number : {N : Type 0} (k : Kind N) → ByteOrder → List ℕ → Outcome N
read_number k o s = cond (ltb (length s) k.size) (refused 1) (done (k.number_at o s 0))

-- 3 where the lent room is too short, else how many bytes are written
abbrev pub write_number : {N : Type 0} → Kind N → ℕ → Outcome ℕ
write_number k room = cond (ltb room k.size) (refused 3) (done k.size)

-- what writing n to the lent bytes promises: the answer, and each byte
pub record Writes {N : Type 0} (k : Kind N) (o : ByteOrder) (n : N) (before : List ℕ) (r : Result ℕ Refusal) (after : List ℕ) : Type 0 where
  pub answer : said r ≡ write_number k (length before)
  pub bytes : after ≡ left (write_number k (length before)) (k.number_bytes o n) before
