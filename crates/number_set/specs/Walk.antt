-- Walking a set: "Members are listed rising or falling". Assumes nothing.
use Rattle.std.specs.Prelude.{ℕ, ◌≡◌, Bool, cond, List, reverse, length, ltb, Result}
use Rattle.outcome.specs.Outcome.{Outcome, refused, done, left}
use Rattle.outcome.specs.Refusal.{said}
use Rattle.outcome.specs.declared.Refusal.{Refusal}
use Rattle.sequence_number.specs.Kind.{Kind}
use Rattle.bitmap.specs.Bitmap.{positions, any_past}
use Rattle.number_set.specs.NumberSet.{members}
use Rattle.number_set.specs.declared.set.NumberSet.{NumberSet}

-- "A set walked: 2, 4, 3", else how many members there are
abbrev pub walk_set : {N : Type 0} (k : Kind N) → NumberSet N → ℕ → Outcome ℕ
walk_set k s room =
    cond (ltb 256 s.count) (refused 2)
    (cond (any_past (k.fits s.base) (positions s.words s.count)) (refused 4)
    (cond (ltb room (length (members k s))) (refused 3)
    (done (length (members k s)))))

-- rising where up holds, else falling
abbrev pub in_order : {A : Type 0} → Bool → List A → List A
in_order up l = cond up l (reverse l)

-- what a walk to the lent list promises: the answer, and each entry
pub record Walks {N : Type 0} (k : Kind N) (s : NumberSet N) (up : Bool) (before : List N) (r : Result ℕ Refusal) (after : List N) : Type 0 where
  pub answer : said r ≡ walk_set k s (length before)
  pub entries : after ≡ left (walk_set k s (length before)) (in_order up (members k s)) before
