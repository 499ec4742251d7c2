-- What a turn of the rising walk of one word asks for, and what is left of the word: its members, and the end. Assumes nothing.
use Prim.Native.Nat.{ℕ, suc, ◌+◌, ◌<◌, ◌≤◌}
use mathlib.Core.Path.{◌≡◌, refl, ap, ◌∙◌, sym}
use mathlib.Core.Bool.{Bool, true, false, not, ◌||◌}
use mathlib.Core.List.{List, [], ◌∷◌, ◌++◌, map, append-nil, map-append, map-map}
use native.Mathlib.Omega.{arith}
use native.Mathlib.Decide.{dec_lt}
use lib.ListN.{length, length-append, length-map}
use lib.Seq.{sets, append_snoc}
use Rattle.outcome.proofs.Split.{neither}
use Rattle.outcome.proofs.LentLaws.{sets_append}
use Rattle.sequence_number.specs.Kind.{Kind}
use Rattle.sequence_number.specs.Lawful.{Lawful}
use Rattle.bitmap.specs.Bitmap.{positions, any_past}
use Rattle.bitmap.proofs.PastLaws.{past_append, past_map}
use Rattle.set_walk.specs.WordPositions.{word_positions}
use Rattle.set_walk.proofs.WordBitLaws.{none_in_zero, some_in}
use Rattle.set_walk.proofs.ClimbsLaws.{Climbs, parts, small, climbs_fits, climbs_room}

module _ {A : Type 0} {f : ℕ → A} {from word : ℕ} {out₀ : List A} {place : ℕ} {out : List A} {n w i : ℕ} (l : Climbs f from word out₀ place out n w i) where
  -- what a step asks for: a position below one that fits, fits
  pub climbs_asks : {N : Type 0} {k : Kind N} (laws : Lawful k) (base : N) → any_past (λ (j : ℕ). k.fits base (from + j)) (word_positions word) ≡ false
      → place + length (word_positions word) ≤ length out₀ → 0 < w → record { i_value : k.fits base i ≡ true; n_in_bounds : n < length out }
  climbs_asks {k = k} laws base e r p =
      let m = climbs_fits l (λ (j : ℕ). k.fits base (from + j)) p e in
      record {
        i_value = laws.fits_below base i (from + (l.j + m.0)) (omega (arith, l.here)) m.1;
        n_in_bounds = omega (arith, climbs_room l p, l.long);
      }

  -- and what is asked of the word that is left
  pub climbs_past : (fits : ℕ → Bool) → any_past (λ (k : ℕ). fits (from + k)) (word_positions word) ≡ false → any_past (λ (k : ℕ). fits (i + k)) (word_positions w) ≡ false
  climbs_past fits e =
      let g : ℕ → Bool = λ k. fits (from + k) in
      let q : List ℕ = map (λ (k : ℕ). l.j + k) (word_positions w) in
      let b = (neither (any_past g (positions (word ∷ []) l.j)) (any_past g q) (sym (ap (any_past g) (parts l) ∙ past_append g (positions (word ∷ []) l.j) q) ∙ e)).1 in
      past_same (word_positions w) ∙ sym (past_map g (λ (k : ℕ). l.j + k) (word_positions w)) ∙ b
    where
      past_same : (ps : List ℕ) → any_past (λ (k : ℕ). fits (i + k)) ps ≡ any_past (λ (k : ℕ). fits (from + (l.j + k))) ps
      past_same [] = refl
      past_same (x ∷ ps) =
          let e : i + x ≡ from + (l.j + x) = omega (arith, l.here) in
          (λ k. not (fits (e k)) || past_same ps k)

  lengths : length (word_positions word) ≡ length (positions (word ∷ []) l.j) + length (word_positions w)
  lengths =
      ap length (parts l)
      ∙ length-append (positions (word ∷ []) l.j) (map (λ (k : ℕ). l.j + k) (word_positions w))
      ∙ ap (λ (m : ℕ). length (positions (word ∷ []) l.j) + m) (length-map (word_positions w) (λ (k : ℕ). l.j + k))

  pub climbs_left : place + length (word_positions word) ≤ length out₀ → n + length (word_positions w) ≤ length out
  climbs_left r = omega (arith, l.many, l.long, lengths)

  zero_word : word_positions w ≡ [] → w ≡ 0
  zero_word z = go (dec_lt 0 w)
    where
      go : Dec (0 < w) → w ≡ 0
      go (yes h) = absurd (omega (arith, some_in w h (small l), ap length z))
      go (no h) = omega (arith, h)

  -- the members of the word that is left, after those before them
  pub climbs_rest : (g : ℕ → A) → ((k : ℕ) → g k ≡ f (l.j + k)) → (out' : List A) (n' : ℕ) → n' ≡ n + length (word_positions w)
      → out' ≡ sets out n (map g (word_positions w))
      → record { value : n' ≡ place + length (word_positions word); out_after : out' ≡ sets out₀ place (map f (word_positions word)) }
  climbs_rest g same out' n' e p =
      record {
        value = omega (arith, l.many, lengths);
        out_after = p ∙ ap (sets out n) (map_same (word_positions w)) ∙ go (word_positions w) refl ∙ ap (sets out₀ place) (sym all);
      }
    where
      map_same : (q : List ℕ) → map g q ≡ map (λ (k : ℕ). f (l.j + k)) q
      map_same [] = refl
      map_same (x ∷ q) = (λ k. same x k ∷ map_same q k)

      all : map f (word_positions word) ≡ map f (positions (word ∷ []) l.j) ++ map (λ (k : ℕ). f (l.j + k)) (word_positions w)
      all =
          ap (map f) (parts l)
          ∙ map-append f (positions (word ∷ []) l.j) (map (λ (k : ℕ). l.j + k) (word_positions w))
          ∙ ap (λ (x : List A). map f (positions (word ∷ []) l.j) ++ x) (map-map f (λ (k : ℕ). l.j + k) (word_positions w))

      next_place : (t : ℕ) → suc t ≡ t + 1
      next_place t = omega arith

      go : (q : List ℕ) → word_positions w ≡ q
          → sets out n (map (λ (k : ℕ). f (l.j + k)) q) ≡ sets out₀ place (map f (positions (word ∷ []) l.j) ++ map (λ (k : ℕ). f (l.j + k)) q)
      go [] z = l.clean (zero_word z) ∙ ap (sets out₀ place) (sym (append-nil (map f (positions (word ∷ []) l.j))))
      go (x ∷ q) z =
          let m : n + 1 ≡ place + length (map f (positions (word ∷ []) l.j) ++ (f (l.j + x) ∷ [])) =
          omega (arith, l.many, length-append (map f (positions (word ∷ []) l.j)) (f (l.j + x) ∷ []), length-map (positions (word ∷ []) l.j) f) in
          (λ k. sets (l.loose (f (l.j + x)) k) (next_place n k) (map (λ (y : ℕ). f (l.j + y)) q))
          ∙ ap (λ (t : ℕ). sets (sets out₀ place (map f (positions (word ∷ []) l.j) ++ (f (l.j + x) ∷ []))) t (map (λ (y : ℕ). f (l.j + y)) q)) m
          ∙ sets_append (map f (positions (word ∷ []) l.j) ++ (f (l.j + x) ∷ [])) (map (λ (y : ℕ). f (l.j + y)) q) out₀ place
          ∙ ap (sets out₀ place) (append_snoc (map f (positions (word ∷ []) l.j)) (f (l.j + x)) (map (λ (y : ℕ). f (l.j + y)) q))

  done_all : w ≡ 0 → word_positions word ≡ positions (word ∷ []) l.j
  done_all z =
      parts l
      ∙ ap (λ (x : ℕ). positions (word ∷ []) l.j ++ map (λ (k : ℕ). l.j + k) (word_positions x)) z
      ∙ ap (λ (ps : List ℕ). positions (word ∷ []) l.j ++ map (λ (k : ℕ). l.j + k) ps) none_in_zero
      ∙ append-nil (positions (word ∷ []) l.j)

  -- where nothing is left of the word
  pub climbs_done : w ≡ 0 → record { value : n ≡ place + length (word_positions word); out_after : out ≡ sets out₀ place (map f (word_positions word)) }
  climbs_done z =
      record {
        value = l.many ∙ ap (λ (ps : List ℕ). place + length ps) (sym (done_all z));
        out_after = l.clean z ∙ ap (λ (ps : List ℕ). sets out₀ place (map f ps)) (sym (done_all z));
      }
