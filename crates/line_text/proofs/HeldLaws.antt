-- Laws of `specs/Held.antt`: what a byte changes, and what is held of a line. Assumes nothing.
use Prim.Native.Nat.{ℕ, suc, ◌<◌, ◌≤◌}
use mathlib.Core.Path.{◌≡◌, refl, sym, ap, ◌∙◌}
use mathlib.Core.Logic.{⊎_elim}
use mathlib.Core.List.{List, [], ◌∷◌, ◌++◌, append_assoc, append-nil}
use native.Mathlib.Omega.{arith}
use lib.ListN.{length, take, set, length-set, length-take}
use lib.Seq.{take-suc-set, take_all, take-append-le, length-take-le}
use borrow.Author.Tests.{lt-ltb, le-ltb}
use Rattle.outcome.proofs.Split.{split_lt}
use Rattle.line_text.specs.Held.{Holding, held_line, held_on, held_through}

-- no byte changes how many can be held, and one more is held at most
module _ (b : ℕ) (h : Holding) where
  pub held_room_lem : length (held_on b h).bytes ≡ length h.bytes
  unfolding held_on
  held_room_lem =
      ⊎_elim (λ p. rw (lt-ltb h.count (length h.bytes) p) (length-set h.bytes h.count b))
      (λ p. rw (le-ltb h.count (length h.bytes) p))
      (split_lt h.count (length h.bytes))

  pub held_one : length (held_line (held_on b h)) ≤ suc (length (held_line h))
  unfolding held_on
  held_one =
      ⊎_elim
      (λ p.
      rw (lt-ltb h.count (length h.bytes) p)
      (omega (arith, length-take-le (suc h.count) (set h.bytes h.count b) (omega (arith, length-set h.bytes h.count b)), length-take-le h.count h.bytes (omega arith))))
      (λ p. rw (le-ltb h.count (length h.bytes) p) (omega arith))
      (split_lt h.count (length h.bytes))

  -- the bytes that are held: those before, and this one where there is room
  held_next : (rest : List ℕ) → take (length h.bytes) (held_line (held_on b h) ++ rest) ≡ take (length h.bytes) (held_line h ++ (b ∷ rest))
  unfolding held_on
  held_next rest =
      let k = length h.bytes in
      ⊎_elim
      (λ p.
      rw (lt-ltb h.count k p)
      (ap (λ (l : List ℕ). take k (l ++ rest)) (take-suc-set h.bytes h.count b p) ∙ ap (take k) (append_assoc (held_line h) (b ∷ []) rest)))
      (λ p.
      let m : k ≤ length (held_line h) = omega (arith, ap length (take_all h.count h.bytes p)) in
      rw (le-ltb h.count k p) (take-append-le k (held_line h) rest m ∙ sym (take-append-le k (held_line h) (b ∷ rest) m)))
      (split_lt h.count k)

-- no line is held past what is lent
pub held_most : (h : Holding) → length (held_line h) ≤ length h.bytes
held_most h = omega (arith, length-take h.count h.bytes)

-- a line, or so much of it as there is room for
pub line_held : (line : List ℕ) (h : Holding) → held_line (held_through line h) ≡ take (length h.bytes) (held_line h ++ line)
line_held [] h = sym (ap (take (length h.bytes)) (append-nil (held_line h)) ∙ take_all (length h.bytes) (held_line h) (held_most h))
line_held (b ∷ line) h =
    line_held line (held_on b h) ∙ ap (λ (k : ℕ). take k (held_line (held_on b h) ++ line)) (held_room_lem b h) ∙ held_next b h line

-- of a line that has bytes some are held, where there is room
pub some_held : (line : List ℕ) → (line ≡ [] → ⊥) → (h : Holding) (k : ℕ) → 0 < k → held_line h ≡ take k line → 0 < h.count
some_held [] f h k p e = absurd (f refl)
some_held (b ∷ line) f h k p e =
    ⊎_elim (λ q. q)
    (λ q.
    let z : h.count ≡ 0 = omega arith in
    let w : [] ≡ take k (b ∷ line) = rw z at e in
    absurd (omega (arith, ap length w, length-take k (b ∷ line))))
    (split_lt 0 h.count)
