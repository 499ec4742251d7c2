-- The invariant of the falling walks, `Falling`: the members from a position on are written. f i is the number that position i stands for.
-- Assumes nothing.
use Prim.Native.Nat.{ℕ, ◌+◌, ◌*◌, ◌-◌, ◌<◌, ◌≤◌, min}
use mathlib.Core.Path.{◌≡◌, refl, ap, ◌∙◌, sym, subst}
use mathlib.Core.Bool.{true, false}
use mathlib.Core.List.{List, [], ◌∷◌, ◌++◌, map, reverse, reverse-cons, reverse-append, append_assoc, map-append, map-map}
use native.Mathlib.Omega.{arith}
use lib.ListN.{length, length-append, length-map, length-reverse, get_or, set}
use lib.Seq.{sets, length-sets, append_snoc}
use Rattle.outcome.proofs.LentLaws.{sets_sets}
use Rattle.bitmap.specs.Bitmap.{has_bit, positions}
use Rattle.bitmap.proofs.PositionLaws.{positions_yes, positions_no}
use Rattle.set_walk.specs.WordPositions.{word_positions}
use Rattle.set_walk.proofs.FirstBitsLaws.{FirstBits, positions_word, lengths}

pub reverse_map : {A : Type 0} (f : ℕ → A) (xs : List ℕ) → map f (reverse xs) ≡ reverse (map f xs)
reverse_map f [] = refl
reverse_map f (x ∷ xs) =
    ap (map f) (reverse-cons x xs) ∙ map-append f (reverse xs) (x ∷ []) ∙ ap (λ (l : List _). l ++ (f x ∷ [])) (reverse_map f xs) ∙ sym (reverse-cons (f x) (map f xs))

-- the members from i on, rest, are written, the highest first, from a place on
pub record Falling {A : Type 0} (f : ℕ → A) (ws : List ℕ) (count : ℕ) (out₀ : List A) (place : ℕ) (out : List A) (n i : ℕ) : Type 0 where
  pub rest : List ℕ
  pub whole : positions ws count ≡ positions ws i ++ rest
  pub many : n ≡ place + length rest
  pub stored : out ≡ sets out₀ place (map f (reverse rest))

module _ {A : Type 0} {f : ℕ → A} {ws : List ℕ} {count : ℕ} {out₀ : List A} {place : ℕ} where
  module _ {out : List A} {n i : ℕ} (l : Falling f ws count out₀ place out n i) where
    pub falling_long : length out ≡ length out₀
    falling_long = ap length l.stored ∙ length-sets out₀ place (map f (reverse l.rest))

    ends : n ≡ place + length (map f (reverse l.rest))
    ends = omega (arith, l.many, length-map (reverse l.rest) f, length-reverse l.rest)

    module _ (p : 0 < i) where
      step : (i - 1) + 1 ≡ i
      step = omega arith

      longer : has_bit ws (i - 1) ≡ true → positions ws count ≡ positions ws (i - 1) ++ ((i - 1) ∷ l.rest)
      longer e =
          l.whole
          ∙ ap (λ (ps : List ℕ). ps ++ l.rest) (ap (positions ws) (sym step) ∙ positions_yes ws (i - 1) e)
          ∙ append_snoc (positions ws (i - 1)) (i - 1) l.rest

      pub falling_yes : has_bit ws (i - 1) ≡ true → Falling f ws count out₀ place (set out n (f (i - 1))) (n + 1) (i - 1)
      falling_yes e =
          record {
            rest = (i - 1) ∷ l.rest;
            whole = longer e;
            many = omega (arith, l.many);
            stored =
                sets_sets out₀ out (set out n (f (i - 1))) (map f (reverse l.rest)) (f (i - 1) ∷ []) place n ends l.stored refl
                ∙ ap (sets out₀ place) (sym (map-append f (reverse l.rest) ((i - 1) ∷ [])) ∙ ap (map f) (sym (reverse-cons (i - 1) l.rest)));
          }

      pub falling_no : has_bit ws (i - 1) ≡ false → Falling f ws count out₀ place out n (i - 1)
      falling_no e =
          record {
            rest = l.rest;
            whole = l.whole ∙ ap (λ (ps : List ℕ). ps ++ l.rest) (ap (positions ws) (sym step) ∙ positions_no ws (i - 1) e);
            many = l.many;
            stored = l.stored;
          }

      pub falling_room : has_bit ws (i - 1) ≡ true → place + length (positions ws count) ≤ length out₀ → n < length out
      falling_room e r =
          let a = ap length (longer e) in
          let b = length-append (positions ws (i - 1)) ((i - 1) ∷ l.rest) in
          omega (arith, l.many, falling_long)

    -- where none is left
    pub falling_done : positions ws i ≡ []
        → record { value : n ≡ place + length (positions ws count); out_after : out ≡ sets out₀ place (map f (reverse (positions ws count))) }
    falling_done e =
        let w : positions ws count ≡ l.rest = l.whole ∙ ap (λ (ps : List ℕ). ps ++ l.rest) e in
        record {
          value = l.many ∙ ap (λ (ps : List ℕ). place + length ps) (sym w);
          out_after = l.stored ∙ ap (λ (ps : List ℕ). sets out₀ place (map f (reverse ps))) (sym w);
        }

  module _ (k w : ℕ) (h : 32 * k < count) (first : FirstBits (get_or ws k 0) (count - 32 * k) w) {out : List A} {n j : ℕ} (last : j ≡ k + 1)
      (before : Falling f ws count out₀ place out n (min (32 * j) count)) where
    here : Falling f ws count out₀ place out n (min (32 * k + 32) count)
    here =
        let e : min (32 * j) count ≡ min (32 * k + 32) count = omega arith in
        subst (λ (i : ℕ). Falling f ws count out₀ place out n i) e before

    pub falling_word_room : place + length (positions ws count) ≤ length out₀ → n + length (word_positions w) ≤ length out
    falling_word_room r =
        let a = ap length here.whole in
        let b = length-append (positions ws (min (32 * k + 32) count)) here.rest in
        omega (arith, here.many, lengths ws k count w h first, falling_long here)

    pub falling_word : {out' : List A} {n' : ℕ} → n' ≡ n + length (word_positions w)
        → out' ≡ sets out n (map (λ (i : ℕ). f (32 * k + i)) (reverse (word_positions w))) → Falling f ws count out₀ place out' n' (min (32 * k) count)
    falling_word {out'} {n'} e p =
        let q : List ℕ = word_positions w in
        let g : ℕ → ℕ = λ i. 32 * k + i in
        let next : 32 * k ≡ min (32 * k) count = omega arith in
        subst (λ (i : ℕ). Falling f ws count out₀ place out' n' i) next
        (record {
          rest = map g q ++ here.rest;
          whole =
              here.whole ∙ ap (λ (ps : List ℕ). ps ++ here.rest) (positions_word ws k count w h first) ∙ append_assoc (positions ws (32 * k)) (map g q) here.rest;
          many = omega (arith, here.many, length-append (map g q) here.rest, length-map q g);
          stored =
              sets_sets out₀ out out' (map f (reverse here.rest)) (map (λ (i : ℕ). f (32 * k + i)) (reverse q)) place n (ends here) here.stored p
              ∙ ap (sets out₀ place)
              (ap (λ (x : List A). map f (reverse here.rest) ++ x) (sym (map-map f g (reverse q)) ∙ ap (map f) (reverse_map g q))
              ∙ sym (map-append f (reverse here.rest) (reverse (map g q)))
              ∙ ap (map f) (sym (reverse-append (map g q) here.rest)));
        })
