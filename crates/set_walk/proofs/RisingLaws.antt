-- The invariant of the rising walk, `Rising`: the members of the words before are written. f i is the number that position i stands for. Assumes nothing.
use Prim.Native.Nat.{ℕ, ◌+◌, ◌*◌, ◌-◌, ◌<◌, ◌≤◌, min}
use mathlib.Core.Path.{◌≡◌, ap, ◌∙◌, sym, subst}
use mathlib.Core.List.{List, ◌++◌, map, map-append, map-map}
use native.Mathlib.Omega.{arith}
use lib.ListN.{length, length-append, length-map, get_or}
use lib.Seq.{sets, length-sets}
use Rattle.outcome.proofs.LentLaws.{sets_sets}
use Rattle.bitmap.specs.Bitmap.{positions}
use Rattle.set_walk.specs.WordPositions.{word_positions}
use Rattle.set_walk.proofs.FirstBitsLaws.{FirstBits, positions_word, after, lengths}

-- the members below i are written
pub record Rising {A : Type 0} (f : ℕ → A) (ws : List ℕ) (count : ℕ) (out₀ out : List A) (n i : ℕ) : Type 0 where
  pub many : n ≡ length (positions ws i)
  pub stored : out ≡ sets out₀ 0 (map f (positions ws i))

module _ {A : Type 0} {f : ℕ → A} {ws : List ℕ} {count : ℕ} {out₀ : List A} where
  module _ {out : List A} {n i : ℕ} (l : Rising f ws count out₀ out n i) where
    pub rising_long : length out ≡ length out₀
    rising_long = ap length l.stored ∙ length-sets out₀ 0 (map f (positions ws i))

  module _ (k w : ℕ) (h : 32 * k < count) (first : FirstBits (get_or ws k 0) (count - 32 * k) w) {out : List A} {n : ℕ}
      (before : Rising f ws count out₀ out n (min (32 * k) count)) where
    l : Rising f ws count out₀ out n (32 * k)
    l = let e : min (32 * k) count ≡ 32 * k = omega arith in subst (λ (i : ℕ). Rising f ws count out₀ out n i) e before

    pub rising_room : length (positions ws count) ≤ length out₀ → n + length (word_positions w) ≤ length out
    rising_room r =
        let a = ap length (after ws k count w h first).1 in
        let b = length-append (positions ws (min (32 * k + 32) count)) (after ws k count w h first).0 in
        omega (arith, l.many, lengths ws k count w h first, rising_long l)

    pub rising_word : {out' : List A} {n' : ℕ} → n' ≡ n + length (word_positions w)
        → out' ≡ sets out n (map (λ (i : ℕ). f (32 * k + i)) (word_positions w)) → Rising f ws count out₀ out' n' (min (32 * (k + 1)) count)
    rising_word {out'} {n'} e p =
        let q : List ℕ = word_positions w in
        let z : n ≡ 0 + length (map f (positions ws (32 * k))) = omega (arith, l.many, length-map (positions ws (32 * k)) f) in
        let next : min (32 * k + 32) count ≡ min (32 * (k + 1)) count = omega arith in
        subst (λ (i : ℕ). Rising f ws count out₀ out' n' i) next
        (record {
          many = omega (arith, l.many, lengths ws k count w h first);
          stored =
              sets_sets out₀ out out' (map f (positions ws (32 * k))) (map (λ (i : ℕ). f (32 * k + i)) q) 0 n z l.stored p
              ∙ ap (sets out₀ 0)
              (ap (λ (x : List A). map f (positions ws (32 * k)) ++ x) (sym (map-map f (λ (i : ℕ). 32 * k + i) q))
              ∙ sym (map-append f (positions ws (32 * k)) (map (λ (i : ℕ). 32 * k + i) q))
              ∙ ap (map f) (sym (positions_word ws k count w h first)));
        })
