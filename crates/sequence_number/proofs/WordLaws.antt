-- Laws of `specs/Word.antt`: a word that was written is read back. Assumes nothing.
use Prim.Native.Nat.{ℕ, ◌+◌, ◌^◌, ◌<◌}
use mathlib.Core.Path.{◌≡◌, ap, ◌∙◌}
use mathlib.Core.List.{List, ◌++◌}
use native.Mathlib.Omega.{arith}
use lib.ListN.{length, get_or}
use lib.Seq.{get_or-append-add}
use Rattle.sequence_number.specs.Word.{word_at, word_bytes}
use Rattle.sequence_number.specs.declared.ByteOrder.{ByteOrder}
use Rattle.sequence_number.specs.declared.ByteOrder.TheVariants.{Big, Little}

-- the word at the front of its own bytes, whatever follows
pub word_bytes_lem : (o : ByteOrder) (v : ℕ) (rest : List ℕ) → v < 2 ^ 32 → word_at o (word_bytes o v ++ rest) 0 ≡ v
word_bytes_lem Big v rest h = omega arith
word_bytes_lem Little v rest h = omega arith

-- the word past the front of a list
module _ (front rest : List ℕ) where
  past : (i n : ℕ) → i ≡ length front + n → get_or (front ++ rest) i 0 ≡ get_or rest n 0
  past i n e = ap (λ (k : ℕ). get_or (front ++ rest) k 0) e ∙ get_or-append-add front rest n 0

  pub word_append : (o : ByteOrder) (i n : ℕ) → i ≡ length front + n → word_at o (front ++ rest) i ≡ word_at o rest n
  word_append o i n e =
      let a = past i n e in
      let b = past (i + 1) (n + 1) (omega arith) in
      let c = past (i + 2) (n + 2) (omega arith) in
      let d = past (i + 3) (n + 3) (omega arith) in
      rw (a, b, c, d)
