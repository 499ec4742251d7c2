-- Laws of `specs/Walk.antt`, over the kind of number: a set whose every position fits, and what an accepted walk leaves. Assumes nothing.
use Prim.Native.Nat.{ℕ, zero, suc, ◌<◌, ◌≤◌}
use mathlib.Core.Path.{◌≡◌, refl, ap, ◌∙◌, sym}
use mathlib.Core.Bool.{Bool, true, false, not, ◌||◌}
use mathlib.Core.List.{List, map, reverse}
use native.Mathlib.Omega.{arith}
use lib.ListN.{length, length-map, length-reverse}
use lib.Seq.{sets}
use borrow.Author.Rules.{rules}
use borrow.Author.Tests.{le-ltb}
use Rattle.std.specs.Prelude.{Ok}
use Rattle.outcome.specs.Outcome.{done}
use Rattle.outcome.specs.Row.{accepted, verdict}
use Rattle.sequence_number.specs.Kind.{Kind}
use Rattle.bitmap.specs.Bitmap.{has_bit, only_if, positions, any_past}
use Rattle.number_set.specs.NumberSet.{members}
use Rattle.number_set.specs.Walk.{walk_set, in_order, Walks}
use Rattle.number_set.specs.declared.set.NumberSet.{NumberSet}
use Rattle.outcome.proofs.LentLaws.{sets_over}
use Rattle.bitmap.proofs.PositionLaws.{length_positions}
use Rattle.bitmap.proofs.PastLaws.{past_append}
use Rattle.set_walk.proofs.FallingLaws.{reverse_map}

-- where each position fits, no member is past its type
none_past : (fits : ℕ → Bool) (ws : List ℕ) (n : ℕ) → ((i : ℕ) → i < n → fits i ≡ true) → any_past fits (positions ws n) ≡ false
none_past fits ws zero h = refl
none_past fits ws (suc n) h =
    past_append fits (positions ws n) (only_if (has_bit ws n) n)
    ∙ (λ j. none_past fits ws n (λ i l. h i (omega arith)) j || last (has_bit ws n) j)
  where
    last : (b : Bool) → any_past fits (only_if b n) ≡ false
    last true = ap (λ (x : Bool). not x || false) (h n (omega arith))
    last false = refl

-- and where each also has room, nothing refuses a walk
pub none_refuses : {N : Type 0} (k : Kind N) (s : NumberSet N) (room : ℕ) → s.count ≤ 256 → ((i : ℕ) → i < s.count → k.fits s.base i ≡ true) → s.count ≤ room
    → accepted ≡ verdict (walk_set k s room)
none_refuses k s room small fits r =
    let few = length_positions s.words s.count in
    let many = length-map (positions s.words s.count) (k.plus s.base) in
    rw (le-ltb 256 s.count small, none_past (k.fits s.base) s.words s.count fits, le-ltb room (length (members k s)) (omega arith))

module _ {N : Type 0} (k : Kind N) (s : NumberSet N) (before : List N) (e : accepted ≡ verdict (walk_set k s (length before))) where
  -- an accepted walk lists the members, which have room
  walk_taken : (walk_set k s (length before) ≡ done (length (members k s))) × (length (members k s) ≤ length before)
  walk_taken = search rules

  module _ (up : Bool) (n : ℕ) (c : n ≡ length (positions s.words s.count)) (after : List N) where
    walked : (ms : List N) → ms ≡ in_order up (members k s) → length ms ≡ length (members k s) → after ≡ sets before 0 ms → Walks k s up before (Ok n) after
    walked ms m l a =
        record {
          answer = rw walk_taken.0 (ap done (c ∙ sym (length-map (positions s.words s.count) (k.plus s.base))));
          entries = rw walk_taken.0 (a ∙ ap (λ (x : List N). sets before 0 x) m ∙ sets_over (in_order up (members k s)) before (omega (arith, ap length m, walk_taken.1)));
        }

    pub walk_up : up ≡ true → after ≡ sets before 0 (map (k.plus s.base) (positions s.words s.count)) → Walks k s up before (Ok n) after
    walk_up u a = walked (members k s) (rw u) refl a

    pub walk_down : up ≡ false → after ≡ sets before 0 (map (k.plus s.base) (reverse (positions s.words s.count))) → Walks k s up before (Ok n) after
    walk_down u a =
        walked (reverse (members k s)) (rw u) (length-reverse (members k s))
        (a ∙ ap (sets before 0) (reverse_map (k.plus s.base) (positions s.words s.count)))
