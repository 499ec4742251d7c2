-- Laws of `specs/SetWords.antt`: each turn and each answer of the code. Assumes nothing.
use Prim.Native.Nat.{ℕ, zero, suc, ◌+◌, ◌*◌, ◌<◌, ◌≤◌}
use mathlib.Core.Path.{◌≡◌, refl, ap, ◌∙◌, sym, subst}
use mathlib.Core.List.{List, [], ◌∷◌, ◌++◌, append-nil}
use native.Mathlib.Omega.{arith}
use native.Mathlib.Decide.{dec_lt}
use native.Mathlib.Numerals.{add-one}
use lib.ListN.{length, length-append, length-take, get_or, take, drop, set}
use Rattle.std.proofs.lemmas.List.{drop_all}
use lib.Seq.{sets}
use borrow.Author.Tests.{lt-ltb, le-ltb}
use Rattle.std.specs.Prelude.{Result, Ok}
use Rattle.outcome.specs.Outcome.{refused, done}
use Rattle.outcome.specs.Refusal.{said}
use Rattle.outcome.specs.declared.Refusal.{Refusal}
use Rattle.sequence_number.specs.Word.{word_at, word_bytes}
use Rattle.bitmap.specs.Bitmap.{zero_words}
use Rattle.set_words.specs.SetWords.{word_count, set_length, read_count, words_from, read_words, words_bytes, bits_bytes, write_set}
use Rattle.sequence_number.specs.declared.ByteOrder.{ByteOrder}
use Rattle.outcome.proofs.LentLaws.{sets_sets, set_sets, sets_over, drop_replicate}
use Rattle.sequence_number.specs.Keeps.{length_bytes}

-- ---- reading

pub length_words : (o : ByteOrder) (s : List ℕ) (at n : ℕ) → length (words_from o s at n) ≡ n
length_words o s at zero = refl
length_words o s at (suc n) =
    let r = length_words o s at n in
    omega (arith, length-append (words_from o s at n) (word_at o s (at + 4 * n) ∷ []))

-- a turn of the loop that reads words
pub words_more : (o : ByteOrder) (s : List ℕ) (at i : ℕ) (l₀ l : List ℕ) (v : ℕ) → l ≡ sets l₀ 0 (words_from o s at i) → v ≡ word_at o s (at + 4 * i)
    → set l i v ≡ sets l₀ 0 (words_from o s at (i + 1))
words_more o s at i l₀ l v p e =
    ap (set l i) e
    ∙ set_sets l l₀ (words_from o s at i) i (word_at o s (at + 4 * i)) (sym (length_words o s at i)) p
    ∙ ap (λ (k : ℕ). sets l₀ 0 (words_from o s at k)) (sym (add-one i))

-- the words that were read, and the zeros past them
pub words_read : (o : ByteOrder) (s : List ℕ) (at n : ℕ) (l : List ℕ) → n ≤ 8 → l ≡ sets (take n zero_words) 0 (words_from o s at n) → l ++ drop n zero_words ≡ read_words o s at n
words_read o s at n l h e =
    let k = length_words o s at n in
    let m = length-take n zero_words in
    let over = sets_over (words_from o s at n) (take n zero_words) (omega arith) in
    let none : drop (length (words_from o s at n)) (take n zero_words) ≡ [] = drop_all _ (take n zero_words) (omega arith) in
    (λ i. (e ∙ over ∙ ap (λ (z : List ℕ). words_from o s at n ++ z) none ∙ append-nil (words_from o s at n)) i ++ drop_replicate n 8 0 i)

-- a count that is found is at most 256, and its words are there
module _ (size : ℕ) (o : ByteOrder) (s : List ℕ) where
  pub count_there : (n : ℕ) → done n ≡ read_count size o s → (n ≤ 256) × (set_length size n ≤ length s)
  count_there n e = go (dec_lt (length s) (size + 4)) (dec_lt 256 (word_at o s size)) (dec_lt (length s) (set_length size (word_at o s size)))
    where
      go : Dec (length s < size + 4) → Dec (256 < word_at o s size) → Dec (length s < set_length size (word_at o s size))
          → (n ≤ 256) × (set_length size n ≤ length s)
      go (yes h) a b =
          let r : read_count size o s ≡ refused 1 = rw (lt-ltb (length s) (size + 4) h) in
          let z : ◌≡◌ {A = ℕ} 0 1 = cc in
          absurd (omega arith)
      go (no h) (yes a) b =
          let r : read_count size o s ≡ refused 2 = rw (le-ltb (length s) (size + 4) (omega arith), lt-ltb 256 (word_at o s size) a) in
          let z : ◌≡◌ {A = ℕ} 0 1 = cc in
          absurd (omega arith)
      go (no h) (no a) (yes b) =
          let r : read_count size o s ≡ refused 1 =
          rw (le-ltb (length s) (size + 4) (omega arith), le-ltb 256 (word_at o s size) (omega arith), lt-ltb (length s) (set_length size (word_at o s size)) b) in
          let z : ◌≡◌ {A = ℕ} 0 1 = cc in
          absurd (omega arith)
      go (no h) (no a) (no b) =
          let r : read_count size o s ≡ done (word_at o s size) =
          rw (
            le-ltb (length s) (size + 4) (omega arith),
            le-ltb 256 (word_at o s size) (omega arith),
            le-ltb (length s) (set_length size (word_at o s size)) (omega arith),
          ) in
          let w : n ≡ word_at o s size = cc in
          (omega arith, subst (λ (k : ℕ). set_length size k ≤ length s) (sym w) (omega arith))

  -- the same of what `read_count` of the code answers
  pub bits_there : (r : Result ℕ Refusal) (n : ℕ) → said r ≡ read_count size o s → r ≡ Ok n → (n ≤ 256) × (set_length size n ≤ length s)
  bits_there r n e p = count_there n (sym (ap said p) ∙ e)

-- ---- writing

pub length_words_bytes : (o : ByteOrder) (ws : List ℕ) (n : ℕ) → length (words_bytes o ws n) ≡ 4 * n
length_words_bytes o ws zero = refl
length_words_bytes o ws (suc n) =
    let r = length_words_bytes o ws n in
    let b = length_bytes o (get_or ws n 0) in
    omega (arith, length-append (words_bytes o ws n) (word_bytes o (get_or ws n 0)))

-- a turn of the loop that writes words
pub bytes_more : (o : ByteOrder) (ws : List ℕ) (at i : ℕ) (l l' l'' : List ℕ) → l' ≡ sets l at (words_bytes o ws i)
    → l'' ≡ sets l' (at + 4 * i) (word_bytes o (get_or ws i 0)) → l'' ≡ sets l at (words_bytes o ws (i + 1))
bytes_more o ws at i l l' l'' p q =
    sets_sets l l' l'' (words_bytes o ws i) (word_bytes o (get_or ws i 0)) at (at + 4 * i) (ap (λ (k : ℕ). at + k) (sym (length_words_bytes o ws i))) p q
    ∙ ap (λ (k : ℕ). sets l at (words_bytes o ws k)) (sym (add-one i))

pub length_bits : (o : ByteOrder) (count : ℕ) (ws : List ℕ) → length (bits_bytes o count ws) ≡ 4 + 4 * word_count count
length_bits o count ws =
    let c = length_bytes o count in
    let d = length_words_bytes o ws (word_count count) in
    omega (arith, length-append (word_bytes o count) (words_bytes o ws (word_count count)))

-- what is written was allowed
pub wrote_means : (size count room : ℕ) {r : Result ℕ Refusal} (n : ℕ) → r ≡ Ok n → said r ≡ write_set size count room → (count ≤ 256) × (set_length size count ≤ room)
wrote_means size count room {r} n q p = go (dec_lt 256 count) (dec_lt room (set_length size count)) (sym (ap said q) ∙ p)
  where
    go : Dec (256 < count) → Dec (room < set_length size count) → done n ≡ write_set size count room → (count ≤ 256) × (set_length size count ≤ room)
    go (yes h) d e =
        let r : write_set size count room ≡ refused 2 = rw (lt-ltb 256 count h) in
        let z : ◌≡◌ {A = ℕ} 0 1 = cc in
        absurd (omega arith)
    go (no f) (yes h) e =
        let g : count ≤ 256 = omega arith in
        let r : write_set size count room ≡ refused 3 = rw (le-ltb 256 count g, lt-ltb room (set_length size count) h) in
        let z : ◌≡◌ {A = ℕ} 0 1 = cc in
        absurd (omega arith)
    go (no f) (no g) e = (omega arith, omega arith)
