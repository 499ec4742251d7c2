-- Laws of `proxy_layout`: a part of the record that is lent, and one that came back. Assumes nothing.
use Prim.Native.Nat.{ℕ}
use native.Mathlib.Omega.{arith}
use mathlib.Core.Path.{◌≡◌, refl, sym, ap, ◌∙◌}
use mathlib.Core.List.{List, [], ◌∷◌, ◌++◌, append_assoc, append-nil}
use lib.ListN.{length, take, drop, get_or, set, length-append}
use lib.Seq.{take_at, drop_at}
use Rattle.proxy_record.specs.Words.{proxy_size, column_size, numbers_at, kinds_at, times_at, proxy_layout}

-- any list in three
lent : {A : Type 0} (a b c : List A) (i n : ℕ) → length a ≡ i → length b ≡ n → take n (drop i (a ++ (b ++ c))) ≡ b
lent a b c i n e f = rw (drop_at a (b ++ c) i e, take_at b c n f)

back : {A : Type 0} (a b b' c : List A) (i n : ℕ) → length a ≡ i → length b ≡ n
    → take i (a ++ (b ++ c)) ++ (b' ++ drop n (drop i (a ++ (b ++ c)))) ≡ a ++ (b' ++ c)
back a b b' c i n e f = rw (take_at a (b ++ c) i e, drop_at a (b ++ c) i e, drop_at b c n f)

abbrev head : ℕ → ℕ → ℕ → ℕ → List ℕ
head b n l t = b ∷ n ∷ l ∷ t ∷ []

module _ (b n l t : ℕ) (x y z : List ℕ) where
  whole_two : proxy_layout b n l t x y z ≡ (head b n l t ++ x) ++ (y ++ z)
  unfolding proxy_layout
  whole_two = refl

  whole_three : proxy_layout b n l t x y z ≡ (head b n l t ++ (x ++ y)) ++ (z ++ [])
  unfolding proxy_layout
  whole_three = rw (append-nil z, append_assoc x y z) refl

module _ (b n l t : ℕ) (x y z : List ℕ) (p : length x ≡ column_size) (q : length y ≡ column_size) (r : length z ≡ column_size) where
  pub length_layout : length (proxy_layout b n l t x y z) ≡ proxy_size
  unfolding proxy_layout
  length_layout = simp length-append (omega arith)

  pub numbers_lent : take column_size (drop numbers_at (proxy_layout b n l t x y z)) ≡ x
  unfolding proxy_layout
  numbers_lent = lent (head b n l t) x (y ++ z) numbers_at column_size refl p

  pub numbers_back : (x' : List ℕ) → take numbers_at (proxy_layout b n l t x y z) ++ (x' ++ drop column_size (drop numbers_at (proxy_layout b n l t x y z))) ≡ proxy_layout b n l t x' y z
  unfolding proxy_layout
  numbers_back x' = back (head b n l t) x x' (y ++ z) numbers_at column_size refl p

  pub kinds_lent : take column_size (drop kinds_at (proxy_layout b n l t x y z)) ≡ y
  kinds_lent = rw (whole_two b n l t x y z) (lent (head b n l t ++ x) y z kinds_at column_size (simp length-append (omega arith)) q)

  pub kinds_back : (y' : List ℕ) → take kinds_at (proxy_layout b n l t x y z) ++ (y' ++ drop column_size (drop kinds_at (proxy_layout b n l t x y z))) ≡ proxy_layout b n l t x y' z
  kinds_back y' = rw (whole_two b n l t x y z) (back (head b n l t ++ x) y y' z kinds_at column_size (simp length-append (omega arith)) q ∙ sym (whole_two b n l t x y' z))

  pub times_lent : take column_size (drop times_at (proxy_layout b n l t x y z)) ≡ z
  times_lent = rw (whole_three b n l t x y z) (lent (head b n l t ++ (x ++ y)) z [] times_at column_size (simp length-append (omega arith)) r)

  pub times_back : (z' : List ℕ) → take times_at (proxy_layout b n l t x y z) ++ (z' ++ drop column_size (drop times_at (proxy_layout b n l t x y z))) ≡ proxy_layout b n l t x y z'
  times_back z' =
      rw (whole_three b n l t x y z) (back (head b n l t ++ (x ++ y)) z z' [] times_at column_size (simp length-append (omega arith)) r ∙ sym (whole_three b n l t x y z'))

-- a list of words that is laid out so, with three columns of 257
pub record Laid (w : List ℕ) (b n l t : ℕ) (x y z : List ℕ) : Type 0 where
  pub is : w ≡ proxy_layout b n l t x y z
  pub first : length x ≡ column_size
  pub second : length y ≡ column_size
  pub third : length z ≡ column_size

module _ {w : List ℕ} {b n l t : ℕ} {x y z : List ℕ} (d : Laid w b n l t x y z) where
  pub laid_length : length w ≡ proxy_size
  laid_length = ap length d.is ∙ length_layout b n l t x y z d.first d.second d.third

  pub numbers_of : take column_size (drop numbers_at w) ≡ x
  numbers_of = rw d.is (numbers_lent b n l t x y z d.first d.second d.third)

  pub kinds_of : take column_size (drop kinds_at w) ≡ y
  kinds_of = rw d.is (kinds_lent b n l t x y z d.first d.second d.third)

  pub times_of : take column_size (drop times_at w) ≡ z
  times_of = rw d.is (times_lent b n l t x y z d.first d.second d.third)

  pub numbers_laid : (v : List ℕ) → length v ≡ column_size → Laid (take numbers_at w ++ (v ++ drop column_size (drop numbers_at w))) b n l t v y z
  numbers_laid v e =
      record { is = rw d.is (numbers_back b n l t x y z d.first d.second d.third v); first = e; second = d.second; third = d.third }

  pub kinds_laid : (v : List ℕ) → length v ≡ column_size → Laid (take kinds_at w ++ (v ++ drop column_size (drop kinds_at w))) b n l t x v z
  kinds_laid v e =
      record { is = rw d.is (kinds_back b n l t x y z d.first d.second d.third v); first = d.first; second = e; third = d.third }

  pub times_laid : (v : List ℕ) → length v ≡ column_size → Laid (take times_at w ++ (v ++ drop column_size (drop times_at w))) b n l t x y v
  times_laid v e =
      record { is = rw d.is (times_back b n l t x y z d.first d.second d.third v); first = d.first; second = d.second; third = e }

  -- a word of the head
  pub base_at : get_or w 0 0 ≡ b
  unfolding proxy_layout
  base_at = rw d.is refl

  pub count_at : get_or w 1 0 ≡ n
  unfolding proxy_layout
  count_at = rw d.is refl

  pub last_at : get_or w 2 0 ≡ l
  unfolding proxy_layout
  last_at = rw d.is refl

  pub time_at : get_or w 3 0 ≡ t
  unfolding proxy_layout
  time_at = rw d.is refl

  pub base_laid : (v : ℕ) → Laid (set w 0 v) v n l t x y z
  unfolding proxy_layout
  base_laid v = record { is = rw d.is refl; first = d.first; second = d.second; third = d.third }

  pub count_laid : (v : ℕ) → Laid (set w 1 v) b v l t x y z
  unfolding proxy_layout
  count_laid v = record { is = rw d.is refl; first = d.first; second = d.second; third = d.third }

  pub last_laid : (v : ℕ) → Laid (set w 2 v) b n v t x y z
  unfolding proxy_layout
  last_laid v = record { is = rw d.is refl; first = d.first; second = d.second; third = d.third }

  pub time_laid : (v : ℕ) → Laid (set w 3 v) b n l v x y z
  unfolding proxy_layout
  time_laid v = record { is = rw d.is refl; first = d.first; second = d.second; third = d.third }
