-- Whose numbers a set holds, in which order, and what a made set holds: what a reader of `specs/Walk.antt` and `specs/Make.antt`
-- asks for, over the kind of number. Assumes nothing.
use Prim.Native.Nat.{ℕ, zero, suc, ◌+◌, ◌-◌, ◌/◌, ◌^◌, ◌%◌, ◌<◌, ◌≤◌}
use mathlib.Core.Path.{◌≡◌, refl, ap, ◌∙◌, sym, subst}
use mathlib.Core.Logic.{◌⊎◌, inl, inr, ⊎_elim}
use mathlib.Core.Bool.{Bool, true, false, cond, ◌||◌, or-true}
use mathlib.Core.List.Memᴰ
use mathlib.Core.List.{List, [], ◌∷◌, ◌++◌, reverse, reverse-cons, Memᴰ}
use native.Mathlib.Omega.{arith}
use native.Mathlib.Nat.{le_of_suc-le-suc, zero-div}
use lib.ListN.{length, get_or, replicate, length-set, length-map, length-append, length-reverse, get_or-append, get_or-map}
use lib.Seq.{get_or-append-add}
use lib.Dec.{ltb, eqb, T}
use borrow.Author.Tests.{lt-ltb, le-ltb, eq-eqb, eqb-true}
use Rattle.sequence_number.specs.Kind.{Kind}
use Rattle.bitmap.specs.Bitmap.{has_bit, set_bit, only_if, positions, zero_words}
use Rattle.number_set.specs.NumberSet.{members}
use Rattle.number_set.specs.declared.set.NumberSet.{NumberSet}
use Rattle.bitmap.specs.Marking.{set_bits}
use Rattle.number_set.specs.Make.{is_rising, smaller, set_from}
use Rattle.outcome.proofs.Split.{split, split_lt}
use Rattle.sequence_number.specs.Lawful.{Lawful}
use Rattle.bitmap.proofs.BitLaws.{set_has}
use Rattle.number_set.proofs.MakeLaws.{spanned_small, none_below}

-- ---- which positions are listed

position_bit : (ws : List ℕ) (n i : ℕ) → Memᴰ i (positions ws n) → (i < n) × (has_bit ws i ≡ true)
position_bit ws zero i m = absurd (Memᴰ.not-nil m)
position_bit ws (suc n) i m =
    ⊎_elim
    (λ a. let r = position_bit ws n i a in (omega arith, r.1))
    (λ a. last (has_bit ws n) refl a)
    (Memᴰ.append_cases (positions ws n) m)
  where
    last : (b : Bool) → has_bit ws n ≡ b → Memᴰ i (only_if b n) → (i < suc n) × (has_bit ws i ≡ true)
    last true e a =
        let f : i ≡ n = Memᴰ.eq_of_singleton a in
        (omega arith, ap (has_bit ws) f ∙ e)
    last false e a = absurd (Memᴰ.not-nil a)

bit_position : (ws : List ℕ) (n i : ℕ) → i < n → has_bit ws i ≡ true → Memᴰ i (positions ws n)
bit_position ws zero i h e = absurd (omega arith)
bit_position ws (suc n) i h e =
    ⊎_elim
    (λ a. Memᴰ.append_left (only_if (has_bit ws n) n) (bit_position ws n i a e))
    (λ a.
    let f : i ≡ n = omega arith in
    let g : has_bit ws n ≡ true = sym (ap (has_bit ws) f) ∙ e in
    Memᴰ.append_right (positions ws n) (rw g (Memᴰ.head f)))
    (split_lt i n)

-- n is base + i for a set bit i below the count: that is listed, and nothing else
module _ {N : Type 0} (k : Kind N) (s : NumberSet N) (n : N) where
  pub member_bit : Memᴰ n (members k s) → (i : ℕ) × (i < s.count) × (has_bit s.words i ≡ true) × (n ≡ k.plus s.base i)
  member_bit m =
      let f = Memᴰ.of_map (k.plus s.base) (positions s.words s.count) m in
      let b = position_bit s.words s.count f.0 f.1 in
      (f.0, b.0, b.1, sym f.2)

  pub bit_member : (i : ℕ) → i < s.count → has_bit s.words i ≡ true → n ≡ k.plus s.base i → Memᴰ n (members k s)
  bit_member i h e f = Memᴰ.cast f (Memᴰ.map (k.plus s.base) (bit_position s.words s.count i h e))

-- ---- in which order

get_d_any : {A : Type 0} (l : List A) (i : ℕ) (d e : A) → i < length l → get_or l i d ≡ get_or l i e
get_d_any [] i d e h = absurd (omega arith)
get_d_any (x ∷ l) zero d e h = refl
get_d_any (x ∷ l) (suc i) d e h = get_d_any l i d e (le_of_suc-le-suc h)

position_below : (ws : List ℕ) (n i : ℕ) → i < length (positions ws n) → get_or (positions ws n) i 0 < n
position_below ws n i h = (position_bit ws n (get_or (positions ws n) i 0) (mem_at (positions ws n) i h)).0
  where
    mem_at : (l : List ℕ) (i : ℕ) → i < length l → Memᴰ (get_or l i 0) l
    mem_at [] i h = absurd (omega arith)
    mem_at (x ∷ l) zero h = Memᴰ.head refl
    mem_at (x ∷ l) (suc i) h = Memᴰ.tail (mem_at l i (le_of_suc-le-suc h))

positions_rise : (ws : List ℕ) (n i j : ℕ) → i < j → j < length (positions ws n) → get_or (positions ws n) i 0 < get_or (positions ws n) j 0
positions_rise ws zero i j h l = absurd (omega arith)
positions_rise ws (suc n) i j h l =
    last (λ p. positions_rise ws n i j h p) (has_bit ws n) (split_lt j (length (positions ws n))) (subst (λ (m : ℕ). j < m) (length-append (positions ws n) (only_if (has_bit ws n) n)) l)
  where
    last : (j < length (positions ws n) → get_or (positions ws n) i 0 < get_or (positions ws n) j 0) → (b : Bool) → (j < length (positions ws n)) ⊎ (length (positions ws n) ≤ j) → j < length (positions ws n) + length (only_if b n)
        → get_or (positions ws n ++ only_if b n) i 0 < get_or (positions ws n ++ only_if b n) j 0
    last before b (inl p) q =
        rw (get_or-append (positions ws n) (only_if b n) 0 i (omega arith), get_or-append (positions ws n) (only_if b n) 0 j p)
        (before p)
    last before true (inr p) q =
        let e : j ≡ length (positions ws n) + 0 = omega arith in
        let f : get_or (positions ws n ++ (n ∷ [])) j 0 ≡ n = ap (λ (m : ℕ). get_or (positions ws n ++ (n ∷ [])) m 0) e ∙ get_or-append-add (positions ws n) (n ∷ []) 0 0 in
        rw (get_or-append (positions ws n) (n ∷ []) 0 i (omega arith), f) (position_below ws n i (omega arith))
    last before false (inr p) q = absurd (omega arith)

-- "Members are listed rising or falling": rising, each member is below every later one
pub members_rise : {N : Type 0} (k : Kind N) → Lawful k → (s : NumberSet N) (i j : ℕ) → i < j → j < length (members k s)
    → k.below (get_or (members k s) i k.nought) (get_or (members k s) j k.nought) ≡ true
members_rise k law s i j h l =
    let ps : List ℕ = positions s.words s.count in
    let f = k.plus s.base in
    let m = length-map ps f in
    let at : (x : ℕ) → x < length (members k s) → get_or (members k s) x k.nought ≡ f (get_or ps x 0) =
    λ x p. get_d_any (members k s) x k.nought (f 0) p ∙ get_or-map f ps x 0 in
    rw (at i (omega arith), at j l) (law.below_plus s.base (get_or ps i 0) (get_or ps j 0) (positions_rise s.words s.count i j h (omega arith)))

get_d_reverse : {A : Type 0} (l : List A) (i : ℕ) (d : A) → i < length l → get_or (reverse l) i d ≡ get_or l (length l - suc i) d
get_d_reverse [] i d h = absurd (omega arith)
get_d_reverse (x ∷ l) i d h =
    ⊎_elim
    (λ p.
    let e : suc (length l) - suc i ≡ suc (length l - suc i) = omega arith in
    let n : i < length (reverse l) = omega (arith, length-reverse l) in
    rw reverse-cons
    (get_or-append (reverse l) (x ∷ []) d i n ∙ get_d_reverse l i d p ∙ ap (λ (n : ℕ). get_or (x ∷ l) n d) (sym e)))
    (λ p.
    let e : suc (length l) - suc i ≡ 0 = omega arith in
    let f : i ≡ length (reverse l) + 0 = omega (arith, length-reverse l) in
    rw reverse-cons
    (ap (λ (n : ℕ). get_or (reverse l ++ (x ∷ [])) n d) f ∙ get_or-append-add (reverse l) (x ∷ []) 0 d ∙ ap (λ (n : ℕ). get_or (x ∷ l) n d) (sym e)))
    (split_lt i (length l))

-- "Members are listed rising or falling": falling, each member is above every later one
pub members_fall : {N : Type 0} (k : Kind N) → Lawful k → (s : NumberSet N) (i j : ℕ) → i < j → j < length (reverse (members k s))
    → k.below (get_or (reverse (members k s)) j k.nought) (get_or (reverse (members k s)) i k.nought) ≡ true
members_fall k law s i j h l =
    let n = length-reverse (members k s) in
    rw (get_d_reverse (members k s) j k.nought (omega arith), get_d_reverse (members k s) i k.nought (omega arith))
    (members_rise k law s (length (members k s) - suc j) (length (members k s) - suc i) (omega arith) (omega arith))

-- ---- what a made set holds

none_marked : (i : ℕ) → has_bit zero_words i ≡ false
none_marked i = ap (λ (w : ℕ). eqb (w / 2 ^ (31 - i % 32) % 2) 1) (zero_at 8 (i / 32)) ∙ ap (λ (w : ℕ). eqb (w % 2) 1) (zero-div (2 ^ (31 - i % 32)))
  where
    zero_at : (m j : ℕ) → ◌≡◌ {A = ℕ} (get_or (replicate m 0) j 0) 0
    zero_at zero j = refl
    zero_at (suc m) zero = refl
    zero_at (suc m) (suc j) = zero_at m j

or_cases : (a b : Bool) → (a || b) ≡ true → (a ≡ true) ⊎ (b ≡ true)
or_cases true b e = inl refl
or_cases false b e = inr e

module _ {A : Type 0} (place : A → ℕ) (count : ℕ) (small : count ≤ 256) where
  -- the words after one element
  abbrev one_more : List ℕ → A → List ℕ
  one_more ws x = cond (ltb (place x) count) (set_bit ws (place x)) ws

  length_more : (ws : List ℕ) (x : A) → length ws ≡ 8 → length (one_more ws x) ≡ 8
  length_more ws x e = split (ltb (place x) count) (λ b. rw b (simp length-set e)) (λ b. rw b e)

  after_mark : (ws : List ℕ) (x : A) (i : ℕ) → length ws ≡ 8 → place x < count → has_bit (one_more ws x) i ≡ (has_bit ws i || eqb (place x) i)
  after_mark ws x i e h = rw (lt-ltb (place x) count h) (set_has ws (place x) i (omega arith))

  bit_kept : (ws : List ℕ) (xs : List A) (i : ℕ) → length ws ≡ 8 → has_bit ws i ≡ true → has_bit (set_bits place count ws xs) i ≡ true
  bit_kept ws [] i e b = b
  bit_kept ws (x ∷ xs) i e b =
      bit_kept (one_more ws x) xs i (length_more ws x e)
      (⊎_elim (λ h. after_mark ws x i e h ∙ ap (λ (c : Bool). c || eqb (place x) i) b) (λ h. rw (le-ltb (place x) count h) b) (split_lt (place x) count))

  marked_bit : (ws : List ℕ) (xs : List A) (i : ℕ) → length ws ≡ 8 → has_bit (set_bits place count ws xs) i ≡ true
      → (has_bit ws i ≡ true) ⊎ ((x : A) × Memᴰ x xs × (place x ≡ i))
  marked_bit ws [] i e b = inl b
  marked_bit ws (x ∷ xs) i e b =
      ⊎_elim
      (λ c.
      ⊎_elim
      (λ h.
      ⊎_elim (λ d. inl d) (λ d. inr (x, Memᴰ.head refl, eqb-true (place x) i d)) (or_cases (has_bit ws i) (eqb (place x) i) (sym (after_mark ws x i e h) ∙ c)))
      (λ h. inl (rw (le-ltb (place x) count h) at c))
      (split_lt (place x) count))
      (λ r. inr (r.0, Memᴰ.tail r.1, r.2))
      (marked_bit (one_more ws x) xs i (length_more ws x e) b)

  bit_marked : (ws : List ℕ) (xs : List A) (x : A) → length ws ≡ 8 → Memᴰ x xs → place x < count → has_bit (set_bits place count ws xs) (place x) ≡ true
  bit_marked ws [] x e m h = absurd (Memᴰ.not-nil m)
  bit_marked ws (y ∷ xs) x e m h =
      ⊎_elim
      (λ p.
      let f : place y ≡ place x = ap place (sym p) in
      bit_kept (one_more ws y) xs (place x) (length_more ws y e)
      (after_mark ws y (place x) e (omega arith)
      ∙ ap (λ (b : Bool). has_bit ws (place x) || b) (eq-eqb (place y) (place x) f)
      ∙ or-true (has_bit ws (place x))))
      (λ n. bit_marked (one_more ws y) xs x (length_more ws y e) n h)
      (Memᴰ.cases_cons m)

-- "list members through last are set": a made set that is not empty at 1 holds exactly the list's members below base + count
module _ {N : Type 0} (k : Kind N) (law : Lawful k) (base x : N) (xs : List N) (r : is_rising k (x ∷ xs) ≡ true)
    (above : k.below (smaller k base x) k.least ≡ false) (last n : N) where
  abbrev pub low : N
  low = smaller k base x

  abbrev pub made : NumberSet N
  made = set_from k (smaller k base x) last (x ∷ xs)

  one_least : 1 ≤ law.rank (smaller k base x)
  one_least = omega (arith, law.rank_least, law.rank_above k.least (smaller k base x) above)

  pub made_member : Memᴰ n (members k made) → Memᴰ n (x ∷ xs) × (k.apart low n < made.count)
  made_member m =
      let b = member_bit k made n m in
      ⊎_elim
      (λ z. let f : true ≡ false = sym z ∙ none_marked b.0 in absurd (subst T f tt))
      (λ j.
      let e : n ≡ j.0 =
      b.3 ∙ ap (k.plus low) (sym j.2) ∙ law.plus_apart low j.0 one_least (none_below k law base x xs r j.0 j.1) in
      (Memᴰ.cast e j.1, subst (λ (i : ℕ). i < made.count) (sym (ap (k.apart low) e ∙ j.2)) b.1))
      (marked_bit (k.apart low) made.count (spanned_small (k.apart low last)) zero_words (x ∷ xs) b.0 refl b.2)

  pub member_made : Memᴰ n (x ∷ xs) → k.apart low n < made.count → Memᴰ n (members k made)
  member_made m h =
      let b = bit_marked (k.apart low) made.count (spanned_small (k.apart low last)) zero_words (x ∷ xs) n refl m h in
      bit_member k made n (k.apart low n) h b (sym (law.plus_apart low n one_least (none_below k law base x xs r n m)))
