-- "Making a set from a base and a strictly rising list". Assumes nothing.
use Rattle.std.specs.Prelude.{ℕ, ◌+◌, Bool, true, cond, ◌&&◌, List, [], ◌∷◌, length, get_or, leb}
use Rattle.outcome.specs.Outcome.{Outcome, refused, done}
use Rattle.sequence_number.specs.Kind.{Kind}
use Rattle.bitmap.specs.Bitmap.{zero_words}
use Rattle.bitmap.specs.Marking.{set_bits}
use Rattle.number_set.specs.NumberSet.{empty_at}
use Rattle.number_set.specs.declared.set.NumberSet.{NumberSet}

-- "strictly rising": each element is below the next
abbrev pub is_rising : {N : Type 0} (k : Kind N) → List N → Bool
is_rising k [] = true
is_rising k (x ∷ []) = true
is_rising k (x ∷ y ∷ xs) = k.below x y && is_rising k (y ∷ xs)

-- "base becomes the smaller of base and first element"
abbrev pub smaller : {N : Type 0} (k : Kind N) → N → N → N
smaller k a b = cond (k.below b a) b a

-- "if last - base >= 256, last becomes base + 255. Count is last - base + 1"
abbrev pub spanned : ℕ → ℕ
spanned away = cond (leb 256 away) 256 (away + 1)

-- the set from low through last
abbrev pub set_from : {N : Type 0} (k : Kind N) → N → N → List N → NumberSet N
set_from k low last xs =
    record {
      base = low;
      count = spanned (k.apart low last);
      words = set_bits (k.apart low) (spanned (k.apart low last)) zero_words xs;
    }

-- "base below 1 then gives the empty set at 1", else the set from there on
abbrev pub set_above : {N : Type 0} (k : Kind N) → N → N → List N → NumberSet N
set_above k low last xs = cond (k.below low k.least) (empty_at k.least) (set_from k low last xs)

-- "an empty list gives the empty set at that base, whatever it is"
abbrev pub set_over : {N : Type 0} (k : Kind N) → N → List N → NumberSet N
set_over k base [] = empty_at base
set_over k base (x ∷ xs) = set_above k (smaller k base x) (get_or (x ∷ xs) (length xs) k.nought) (x ∷ xs)

-- "Making: 15" where the list does not rise strictly
abbrev pub make_set : {N : Type 0} (k : Kind N) → N → List N → Outcome (NumberSet N)
make_set k base xs = cond (is_rising k xs) (done (set_over k base xs)) (refused 15)
