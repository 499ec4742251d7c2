-- Laws of `specs/Refusal.antt`: each case as the code tests it, and what an accepted call has passed. Assumes nothing.
use Prim.Native.Nat.{ℕ, ◌+◌, ◌*◌, ◌-◌, ◌≤◌, ◌<◌}
use native.Mathlib.Omega.{arith}
use mathlib.Core.Path.{◌≡◌, refl, sym, ap, ◌∙◌}
use mathlib.Core.Bool.{Bool, true, false, cond, not, ◌&&◌, ◌||◌}
use mathlib.Core.Logic.{⊎_elim}
use mathlib.Core.List.{List, [], map}
use lib.ListN.{length, get_or}
use lib.IntN.{ℤ, pos, negsuc}
use lib.Dec.{ltb, leb, eqb}
use mir.Syntax.{w64}
use mir.Val.{SFits, of_z, to_z}
use mir.Facts.{to_z-of_z}
use borrow.Author.Tests.{ltb-false, leb-false, eqb-true, eqb-false, not-false, lt-ltb, le-ltb, lt-leb, eq-eqb, ne_eqb}
use Rattle.assembly_record.specs.Sizes.{place_count, most_fragments}
use Rattle.std.specs.Prelude.{Option, Some, None}
use Rattle.sequence_number.specs.Number.{top, number_of, is_number, taken}
use Rattle.sequence_number.proofs.NumberLaws.{some_taken, none_taken}
use Rattle.outcome.proofs.Split.{split, split_lt, neither}
use Rattle.assembly_record.specs.Fragments.{fragments}
use Rattle.fragment_assembler.specs.Inner.{RunOk, opening_refusal}
use Rattle.outcome.specs.Refusal.{number_of_refusal}
use Rattle.outcome.specs.declared.Refusal.{Refusal}
use Rattle.outcome.specs.declared.Refusal.TheVariants as row
use Rattle.fragment_assembler.specs.Fragment.{FragmentHead}
use Rattle.fragment_assembler.specs.Refusal.{run_refusal, fragment_refusal, opens, size_for}
use Rattle.assembly_record.specs.State.{Assembler, Place, place_at}
use Rattle.assembly_record.specs.Table.{find, found_place, has_number}
use Rattle.assembly_record.specs.Words.{assembler_of, place_of, places_of}
use Rattle.assembly_record.proofs.TableLaws.{found_some, found_none}
use Rattle.assembly_record.proofs.WordsLaws.{length_places, row_place}

-- no row has the number 0
pub refusal_some : (r : Refusal) → number_of_refusal r ≡ 0 → ⊥
refusal_some row.EndsEarly e = omega arith
refusal_some row.TooManyBits e = omega arith
refusal_some row.ShortOutput e = omega arith
refusal_some row.NoNumber e = omega arith
refusal_some row.BackwardRange e = omega arith
refusal_some row.OtherFragmentSize e = omega arith
refusal_some row.ShortSample e = omega arith
refusal_some row.LongSample e = omega arith
refusal_some row.ManyFragments e = omega arith
refusal_some row.EmptyRun e = omega arith
refusal_some row.StartZero e = omega arith
refusal_some row.RunPastEnd e = omega arith
refusal_some row.ShortArea e = omega arith
refusal_some row.BadSetUp e = omega arith
refusal_some row.NotRising e = omega arith

-- ---- a run's refusals

module _ (most start count : ℕ) where
  pub run_12 : (count ≡ 0 → ⊥) → (start ≡ 0 → ⊥) → most < start - 1 + count → 12 ≡ run_refusal most start count
  run_12 n m l = rw (ne_eqb count 0 n, ne_eqb start 0 m, lt-ltb most (start - 1 + count) l)

  pub run_passes : (count ≡ 0 → ⊥) → (start ≡ 0 → ⊥) → start - 1 + count ≤ most → 0 ≡ run_refusal most start count
  run_passes n m l = rw (ne_eqb count 0 n, ne_eqb start 0 m, le-ltb most (start - 1 + count) l)

-- ---- the call's refusals, one by one

-- what is asked of a sample that opens, before what is asked of its run
opening_first : (d f p k r : ℕ) → k ≡ opening_refusal d f p → (k ≡ 0 → ⊥)
    → k ≡ cond (ltb d f) 7 (cond (ltb p d) 8 (cond (ltb most_fragments (fragments d f)) 9 r))
opening_first d f p k r e z =
    split (ltb d f) (λ x. e ∙ rw x refl)
    (λ x.
    split (ltb p d) (λ y. e ∙ rw (x, y) refl)
    (λ y. split (ltb most_fragments (fragments d f)) (λ u. e ∙ rw (x, y, u) refl) (λ u. absurd (z (e ∙ rw (x, y, u) refl)))))

opening_past : (d f p r : ℕ) → 0 ≡ opening_refusal d f p → r ≡ cond (ltb d f) 7 (cond (ltb p d) 8 (cond (ltb most_fragments (fragments d f)) 9 r))
opening_past d f p r e =
    split (ltb d f) (λ x. let k : 0 ≡ 7 = e ∙ rw x refl in absurd (omega arith))
    (λ x.
    split (ltb p d) (λ y. let k : 0 ≡ 8 = e ∙ rw (x, y) refl in absurd (omega arith))
    (λ y. split (ltb most_fragments (fragments d f)) (λ u. let k : 0 ≡ 9 = e ∙ rw (x, y, u) refl in absurd (omega arith)) (λ u. rw (x, y, u) refl)))

module _ (a : Assembler) (n : ℕ) (x : FragmentHead) where
  pub call_13 : n < place_count * a.place_size → 13 ≡ fragment_refusal a n x
  unfolding fragment_refusal
  call_13 h = rw (lt-ltb n (place_count * a.place_size) h)

  module _ (h : place_count * a.place_size ≤ n) where
    pub call_4 : x.number ≡ 0 → 4 ≡ fragment_refusal a n x
    unfolding fragment_refusal
    call_4 e = rw (le-ltb n (place_count * a.place_size) h, eq-eqb x.number 0 e)

    module _ (z : 0 < x.number) (t : x.number < top) where
      pub call_6 : (x.fragment_size ≡ a.fragment_size → ⊥) → 6 ≡ fragment_refusal a n x
      unfolding fragment_refusal
      call_6 e = rw (le-ltb n (place_count * a.place_size) h, ne_eqb x.number 0 (λ q. omega arith), lt-leb top x.number t, ne_eqb x.fragment_size a.fragment_size e)

      module _ (s : x.fragment_size ≡ a.fragment_size) where
        pub call_known : has_number a.places x.number ≡ true
            → run_refusal (fragments (place_at a.places (find x.number a.places)).size a.fragment_size) x.start x.count ≡ fragment_refusal a n x
        unfolding fragment_refusal
        call_known e =
            rw (le-ltb n (place_count * a.place_size) h, ne_eqb x.number 0 (λ q. omega arith), lt-leb top x.number t, eq-eqb x.fragment_size a.fragment_size s, e)

        module _ (e : has_number a.places x.number ≡ false) where
          -- what is left to ask of a call that opens
          opening : cond (ltb x.data_size a.fragment_size) 7
              (cond (ltb a.place_size x.data_size) 8
              (cond (ltb most_fragments (fragments x.data_size a.fragment_size)) 9
              (run_refusal (fragments x.data_size a.fragment_size) x.start x.count)))
              ≡ fragment_refusal a n x
          unfolding fragment_refusal
          opening =
              rw (le-ltb n (place_count * a.place_size) h, ne_eqb x.number 0 (λ q. omega arith), lt-leb top x.number t, eq-eqb x.fragment_size a.fragment_size s, e)

          pub call_refuses : (k : ℕ) → k ≡ opening_refusal x.data_size a.fragment_size a.place_size → (k ≡ 0 → ⊥) → k ≡ fragment_refusal a n x
          call_refuses k o q = opening_first x.data_size a.fragment_size a.place_size k _ o q ∙ opening

          pub call_opens : 0 ≡ opening_refusal x.data_size a.fragment_size a.place_size
              → run_refusal (fragments x.data_size a.fragment_size) x.start x.count ≡ fragment_refusal a n x
          call_opens o = opening_past x.data_size a.fragment_size a.place_size _ o ∙ opening

-- ---- the same, as the code comes to them

-- what was asked of a call before its number is sought
pub record Asked (w : List ℕ) (long : ℕ) (x : FragmentHead) (n : ℕ) : Type 0 where
  pub area : place_count * get_or w 1 0 ≤ long
  pub low : 0 < n
  pub high : n < top
  pub number : n ≡ x.number
  pub size : x.fragment_size ≡ get_or w 0 0

module _ {w : List ℕ} {long : ℕ} {x : FragmentHead} {n : ℕ} (h : Asked w long x n) where
  -- the number stands at k, whose row the code reads
  pub asked_known : (k : ℕ) (rs : List (List ℕ)) (d : ℕ) → Some k ≡ found_place n (places_of w) → map place_of rs ≡ places_of w → length rs ≡ place_count
      → d ≡ get_or (get_or rs k []) 1 0 → run_refusal (fragments d (get_or w 0 0)) x.start x.count ≡ fragment_refusal (assembler_of w) long x
  asked_known k rs d e p l ed =
      let s = found_some n (places_of w) k e in
      let is : has_number (places_of w) x.number ≡ true = ap (has_number (places_of w)) (sym h.number) ∙ s.2 in
      let q : d ≡ (place_at (places_of w) k).size = ed ∙ ap (λ (z : Place). z.size) (row_place rs (places_of w) k [] p (omega (arith, s.1, length_places w))) in
      ap (λ (j : ℕ). run_refusal (fragments j (get_or w 0 0)) x.start x.count)
      (q ∙ ap (λ (j : ℕ). (place_at (places_of w) j).size) (s.0 ∙ ap (λ (m : ℕ). find m (places_of w)) h.number))
      ∙ call_known (assembler_of w) long x h.area (omega (arith, h.low, h.number)) (omega (arith, h.high, h.number)) h.size is

  module _ (e : None ≡ found_place n (places_of w)) where
    absent : has_number (places_of w) x.number ≡ false
    absent = ap (has_number (places_of w)) (sym h.number) ∙ (found_none n (places_of w) e).1

    pub asked_refuses : (r : Refusal) → number_of_refusal r ≡ opening_refusal x.data_size (get_or w 0 0) (get_or w 1 0) → number_of_refusal r ≡ fragment_refusal (assembler_of w) long x
    asked_refuses r o =
        call_refuses (assembler_of w) long x h.area (omega (arith, h.low, h.number)) (omega (arith, h.high, h.number)) h.size absent (number_of_refusal r) o (refusal_some r)

    pub asked_opens : (d : ℕ) → d ≡ x.data_size → 0 ≡ opening_refusal x.data_size (get_or w 0 0) (get_or w 1 0)
        → run_refusal (fragments d (get_or w 0 0)) x.start x.count ≡ fragment_refusal (assembler_of w) long x
    asked_opens d ed o =
        ap (λ (j : ℕ). run_refusal (fragments j (get_or w 0 0)) x.start x.count) ed
        ∙ call_opens (assembler_of w) long x h.area (omega (arith, h.low, h.number)) (omega (arith, h.high, h.number)) h.size absent o

-- ---- what an accepted call has passed

-- a test whose number was not given, and what was asked after it
not_given : (b : Bool) (n r : ℕ) → 0 < n → cond b n r ≡ 0 → (b ≡ false) × (r ≡ 0)
not_given true n r h e = absurd (omega arith)
not_given false n r h e = (refl, e)

pub record OpenOk (p f d : ℕ) : Type 0 where
  pub least : f ≤ d
  pub most : d ≤ p
  pub few : fragments d f ≤ most_fragments

pub record Passed (a : Assembler) (n : ℕ) (h : FragmentHead) : Type 0 where
  pub long : place_count * a.place_size ≤ n
  pub low : 0 < h.number
  pub high : h.number < top
  pub size : h.fragment_size ≡ a.fragment_size
  pub run : RunOk (size_for a h) a.fragment_size h.start h.count
  pub new : has_number a.places h.number ≡ false → OpenOk a.place_size a.fragment_size h.data_size

pub passed : (a : Assembler) (n : ℕ) (h : FragmentHead) → fragment_refusal a n h ≡ 0 → Passed a n h
unfolding fragment_refusal
passed a n h e =
    let r13 = not_given (ltb n (place_count * a.place_size)) 13 _ (omega arith) e in
    let r4 = not_given (eqb h.number 0 || leb top h.number) 4 _ (omega arith) r13.1 in
    let r6 = not_given (not (eqb h.fragment_size a.fragment_size)) 6 _ (omega arith) r4.1 in
    let r7 = not_given (opens a h && ltb h.data_size a.fragment_size) 7 _ (omega arith) r6.1 in
    let r8 = not_given (opens a h && ltb a.place_size h.data_size) 8 _ (omega arith) r7.1 in
    let r9 = not_given (opens a h && ltb most_fragments (fragments h.data_size a.fragment_size)) 9 _ (omega arith) r8.1 in
    let r10 = not_given (eqb h.count 0) 10 _ (omega arith) r9.1 in
    let r11 = not_given (eqb h.start 0) 11 _ (omega arith) r10.1 in
    let r12 = not_given (ltb (fragments (size_for a h) a.fragment_size) (h.start - 1 + h.count)) 12 _ (omega arith) r11.1 in
    let n4 = neither (eqb h.number 0) (leb top h.number) r4.0 in
    let number : h.number ≡ 0 → ⊥ = eqb-false _ _ n4.0 in
    let count : h.count ≡ 0 → ⊥ = eqb-false _ _ r10.0 in
    let start : h.start ≡ 0 → ⊥ = eqb-false _ _ r11.0 in
    record {
      long = ltb-false _ _ r13.0;
      low = omega arith;
      high = leb-false _ _ n4.1;
      size = eqb-true _ _ (not-false _ r6.0);
      run = record { some = omega arith; start = omega arith; fits = ltb-false _ _ r12.0 };
      new = λ t.
          record {
            least = ltb-false _ _ (opened t (ltb h.data_size a.fragment_size) r7.0);
            most = ltb-false _ _ (opened t (ltb a.place_size h.data_size) r8.0);
            few = ltb-false _ _ (opened t (ltb most_fragments (fragments h.data_size a.fragment_size)) r9.0);
          };
    }
  where
    opened : has_number a.places h.number ≡ false → (b : Bool) → opens a h && b ≡ false → b ≡ false
    opened t b e = rw t at e

-- row 4 on the number as a call takes it
pub number_row : (n : ℤ) → eqb (number_of n) 0 || leb top (number_of n) ≡ not (is_number n)
number_row (negsuc n) = refl
number_row (pos n) =
    ⊎_elim
    (λ a.
    ⊎_elim (λ b. rw (lt-ltb 0 n a, lt-ltb n top b, ne_eqb n 0 (λ z. omega arith), lt-leb top n b)) (λ b. rw (lt-ltb 0 n a, le-ltb n top b)) (split_lt n top))
    (λ a. rw (le-ltb 0 n a)) (split_lt 0 n)

-- the number of a call, and the same after it was passed on
pub number_same : (n : ℤ) → SFits w64 n → number_of (to_z w64 (of_z w64 n)) ≡ number_of n
number_same n f = ap number_of (to_z-of_z f)

-- the number of a call as the code takes it, and where it takes none
pub number_some : (n : ℤ) (k : ℕ) {o : Option ℕ} → SFits w64 n → o ≡ taken (to_z w64 (of_z w64 n)) → o ≡ Some k → (0 < k) × (k < top) × (k ≡ number_of n)
number_some n k f e h = let t = some_taken n k (sym h ∙ (rw (to_z-of_z f) at e)) in (t.0, t.1, t.4)

pub number_none : (n : ℤ) {o : Option ℕ} → SFits w64 n → o ≡ taken (to_z w64 (of_z w64 n)) → o ≡ None → 0 ≡ number_of n
number_none n f e h = (none_taken n (sym h ∙ (rw (to_z-of_z f) at e))).1
