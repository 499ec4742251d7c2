-- Reading what was written gives the set back, and takes exactly the measured length, over the kind of number. Assumes nothing.
use Prim.Native.Nat.{ℕ, zero, suc, ◌+◌, ◌*◌, ◌-◌, ◌^◌, ◌<◌, ◌≤◌}
use mathlib.Core.Path.{◌≡◌, refl, ap, ◌∙◌, sym}
use mathlib.Core.Logic.{⊎_elim}
use mathlib.Core.List.{List, [], ◌∷◌, ◌++◌, append_assoc}
use native.Mathlib.Omega.{arith}
use borrow.Author.Rules.{rules}
use lib.ListN.{length, get_or, take, drop, replicate, length-append}
use lib.Seq.{take-suc}
use Rattle.outcome.specs.Outcome.{done, found}
use Rattle.outcome.specs.Lent.{over}
use Rattle.sequence_number.specs.Word.{word_at, word_bytes}
use Rattle.sequence_number.specs.Kind.{Kind}
use Rattle.number_set.specs.declared.set.NumberSet.{NumberSet}
use Rattle.set_words.specs.SetWords.{word_count, set_length, words_from, read_count, words_bytes, bits_bytes}
use Rattle.number_set.specs.SetWire.{taken_set, read_set, set_bytes}
use Rattle.sequence_number.specs.declared.ByteOrder.{ByteOrder}
use Rattle.outcome.proofs.Split.{split_lt}
use Rattle.sequence_number.specs.Lawful.{Lawful, ReadsBack}
use Rattle.sequence_number.specs.Keeps.{length_bytes}
use Rattle.sequence_number.proofs.WordLaws.{word_bytes_lem, word_append}
use Rattle.set_words.proofs.SetWordsLaws.{length_words_bytes}
use Rattle.number_set.proofs.SetWireLaws.{length_set_bytes}

-- every word is one of 32 bits
abbrev pub Words : List ℕ → Type 0
Words ws = (length ws ≡ 8) × ((i : ℕ) → i < 8 → get_or ws i 0 < 2 ^ 32)

module _ (o : ByteOrder) (ws : List ℕ) (all : Words ws) where
  -- word j of the words that were written
  word_in : (n j : ℕ) (rest : List ℕ) → n ≤ 8 → j < n → word_at o (words_bytes o ws n ++ rest) (4 * j) ≡ get_or ws j 0
  word_in zero j rest h l = absurd (omega arith)
  word_in (suc n) j rest h l =
      ⊎_elim
      (λ p. rw append_assoc (word_in n j (word_bytes o (get_or ws n 0) ++ rest) (omega arith) p))
      (λ p.
      let e : j ≡ n = omega arith in
      let f : 4 * j ≡ length (words_bytes o ws n) + 0 = omega (arith, length_words_bytes o ws n) in
      rw append_assoc
      (word_append (words_bytes o ws n) (word_bytes o (get_or ws n 0) ++ rest) o (4 * j) 0 f
      ∙ word_bytes_lem o (get_or ws n 0) rest (all.1 n (omega arith))
      ∙ ap (λ (i : ℕ). get_or ws i 0) (sym e)))
      (split_lt j n)

  -- the words behind a front are those that were written
  words_back : (front rest : List ℕ) (m n : ℕ) → m ≤ 8 → n ≤ m → words_from o (front ++ (words_bytes o ws m ++ rest)) (length front) n ≡ take n ws
  words_back front rest m zero h l = refl
  words_back front rest m (suc n) h l =
      let w : word_at o (front ++ (words_bytes o ws m ++ rest)) (length front + 4 * n) ≡ get_or ws n 0 =
      word_append front (words_bytes o ws m ++ rest) o (length front + 4 * n) (4 * n) refl ∙ word_in m n rest h (omega arith) in
      (λ i. words_back front rest m n h (omega arith) i ++ (w i ∷ [])) ∙ sym (take-suc ws n 0 (omega arith))

-- reading the written bytes gives the set back (base, count, the words of the count), and takes exactly the measured length
module _ {N : Type 0} (k : Kind N) (law : Lawful k) {Valid : N → Type 0} (reads : ReadsBack k Valid) (o : ByteOrder) (s : NumberSet N) (v : Valid s.base) (all : Words s.words)
    (small : s.count ≤ 256) (out : List ℕ) where
  abbrev pub back : NumberSet N
  back = record { base = s.base; count = s.count; words = take (word_count s.count) s.words ++ replicate (8 - word_count s.count) 0 }

  few : word_count s.count ≤ 8
  few = omega arith

  -- what was written, as the base, the count, the words and the rest
  abbrev written : List ℕ
  written = over (set_bytes k o s) out

  abbrev rest : List ℕ
  rest = drop (length (set_bytes k o s)) out

  by_base : written ≡ k.number_bytes o s.base ++ (bits_bytes o s.count s.words ++ rest)
  by_base = append_assoc (k.number_bytes o s.base) (bits_bytes o s.count s.words) rest

  by_count : written ≡ k.number_bytes o s.base ++ (word_bytes o s.count ++ (words_bytes o s.words (word_count s.count) ++ rest))
  by_count =
      by_base
      ∙ ap (λ (l : List ℕ). k.number_bytes o s.base ++ l) (append_assoc (word_bytes o s.count) (words_bytes o s.words (word_count s.count)) rest)

  by_words : written ≡ (k.number_bytes o s.base ++ word_bytes o s.count) ++ (words_bytes o s.words (word_count s.count) ++ rest)
  by_words = by_count ∙ sym (append_assoc (k.number_bytes o s.base) (word_bytes o s.count) (words_bytes o s.words (word_count s.count) ++ rest))

  base_back : k.number_at o written 0 ≡ s.base
  base_back = ap (λ (l : List ℕ). k.number_at o l 0) by_base ∙ reads o s.base (bits_bytes o s.count s.words ++ rest) v

  count_back : word_at o written k.size ≡ s.count
  count_back =
      let e : k.size ≡ length (k.number_bytes o s.base) + 0 = omega (arith, law.length_number o s.base) in
      ap (λ (l : List ℕ). word_at o l k.size) by_count
      ∙ word_append (k.number_bytes o s.base) (word_bytes o s.count ++ (words_bytes o s.words (word_count s.count) ++ rest)) o k.size 0 e
      ∙ word_bytes_lem o s.count (words_bytes o s.words (word_count s.count) ++ rest) (omega arith)

  all_back : words_from o written (k.size + 4) (word_count s.count) ≡ take (word_count s.count) s.words
  all_back =
      let a = length-append (k.number_bytes o s.base) (word_bytes o s.count) in
      let e : k.size + 4 ≡ length (k.number_bytes o s.base ++ word_bytes o s.count) =
      omega (arith, law.length_number o s.base, length_bytes o s.count) in
      (λ i. words_from o (by_words i) (e i) (word_count s.count))
      ∙ words_back o s.words all (k.number_bytes o s.base ++ word_bytes o s.count) rest (word_count s.count) (word_count s.count) few (omega arith)

  long : set_length k.size s.count ≤ length written
  long = omega (arith, length_set_bytes k law o s, length-append (set_bytes k o s) rest)

  pub set_back : read_set k o (over (set_bytes k o s) out) ≡ done (record { set = back; taken = set_length k.size s.count })
  set_back =
      let room = long in
      let count = sym count_back in
      let c : done s.count ≡ read_count k.size o written = search rules in
      ap (found (taken_set k o written)) (sym c)
      ∙ (λ i. done (record {
        set = record { base = base_back i; count = s.count; words = all_back i ++ replicate (8 - word_count s.count) 0 };
        taken = set_length k.size s.count;
      }))
