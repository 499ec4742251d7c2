-- Laws of `specs/Words.antt`: a row read, a row lent and back, and that words are the record of their state. Assumes nothing.
use Prim.Native.Nat.{ℕ, zero, suc, ◌+◌, ◌*◌, ◌-◌, ◌/◌, ◌≤◌, ◌<◌}
use native.Mathlib.Omega.{arith}
use native.Mathlib.Nat.{not-suc-le-zero, le_of_suc-le-suc}
use mathlib.Core.Path.{◌≡◌, refl, sym, ap, ◌∙◌}
use mathlib.Core.Bool.{Bool, true, false}
use mathlib.Core.List.{List, [], ◌∷◌, ◌++◌, map, append_assoc}
use lib.ListN.{length, get_or, set, take, drop, length-append, length-take, length-drop, take-append-drop}
use lib.Seq.{length-take-le, get_or-take, drop-drop, take-append-le, take_all, take_at, drop_at, take-add, take-take}
use lib.Dec.{eqb}
use borrow.Author.Tests.{eqb-true, eqb-false}
use Rattle.std.specs.Simd.{first_chunks}
use Rattle.assembly_record.specs.Sizes.{place_count, row_size, assembler_size}
use Rattle.outcome.proofs.Split.{split}
use Rattle.assembly_record.specs.Rows.{Became}
use Rattle.assembly_record.specs.State.{place_at, Place, Assembler, with_places}
use Rattle.assembly_record.specs.Words.{rows_of, place_of, places_of, row_of, table_of, bit, assembler_words, assembler_of}

-- ---- rows of equal length

pub length_rows : (n : ℕ) (l : List ℕ) → length (rows_of n l) ≡ n
length_rows zero l = refl
length_rows (suc n) l = ap suc (length_rows n (drop row_size l))

-- row i, read
pub row_at : (n i : ℕ) (l : List ℕ) → i < n → place_at (rows_of n l) i ≡ place_of (take row_size (drop (row_size * i) l))
row_at zero i l h = absurd (not-suc-le-zero h)
row_at (suc n) zero l h = refl
row_at (suc n) (suc i) l h =
    row_at n i (drop row_size l) (le_of_suc-le-suc h)
    ∙ ap (λ (k : List ℕ). place_of (take row_size k)) (drop-drop (row_size * i) 7 l ∙ ap (λ (k : ℕ). drop k l) step)
  where
    step : 7 + row_size * i ≡ row_size * suc i
    step = omega arith

-- the rows, all at once
chunks_rows : (n : ℕ) (l : List ℕ) → map place_of (first_chunks row_size n l) ≡ rows_of n l
chunks_rows zero l = refl
chunks_rows (suc n) l = ap (λ (ps : List Place). place_of (take row_size l) ∷ ps) (chunks_rows n (drop row_size l))

pub chunks_places : (w : List ℕ) (rs : List (List ℕ)) (m : ℕ) → m + 3 ≡ assembler_size → length w ≡ assembler_size
    → rs ≡ first_chunks row_size (length (take m (drop 3 w)) / row_size) (take m (drop 3 w)) → map place_of rs ≡ places_of w
unfolding places_of
chunks_places w rs m s e h =
    let all : take m (drop 3 w) ≡ drop 3 w = take_all m (drop 3 w) (omega (arith, length-drop 3 w)) in
    let n : length (drop 3 w) / row_size ≡ place_count = omega (arith, length-drop 3 w) in
    ap (map place_of) h
    ∙ ap (λ (l : List ℕ). map place_of (first_chunks row_size (length l / row_size) l)) all
    ∙ ap (λ (k : ℕ). map place_of (first_chunks row_size k (drop 3 w))) n
    ∙ chunks_rows place_count (drop 3 w)

-- one of them
pub row_place : (rs : List (List ℕ)) (ps : List Place) (i : ℕ) (d : List ℕ) → map place_of rs ≡ ps → i < length rs → place_of (get_or rs i d) ≡ place_at ps i
row_place rs ps i d e l = go rs i l ∙ ap (λ (qs : List Place). place_at qs i) e
  where
    go : (rs : List (List ℕ)) (i : ℕ) → i < length rs → place_of (get_or rs i d) ≡ place_at (map place_of rs) i
    go [] i l = absurd (not-suc-le-zero l)
    go (x ∷ rs) zero l = refl
    go (x ∷ rs) (suc i) l = go rs i (le_of_suc-le-suc l)

-- its marks, as the code reads them
pub row_marks : (rs : List (List ℕ)) (ps : List Place) (i : ℕ) (d : List ℕ) → map place_of rs ≡ ps → i < length rs → length (get_or rs i d) ≡ row_size
    → take 4 (drop 3 (get_or rs i d)) ≡ (place_at ps i).marks
row_marks rs ps i d e l n = take_all 4 (drop 3 (get_or rs i d)) (omega (arith, length-drop 3 (get_or rs i d))) ∙ ap (λ (p : Place). p.marks) (row_place rs ps i d e l)

-- row i, lent and back as ys
pub row_back : (n i : ℕ) (l ys : List ℕ) → i < n → row_size * n ≤ length l → length ys ≡ row_size
    → rows_of n (take (row_size * i) l ++ (ys ++ drop row_size (drop (row_size * i) l))) ≡ set (rows_of n l) i (place_of ys)
row_back zero i l ys h long e = absurd (not-suc-le-zero h)
row_back (suc n) zero l ys h long e =
    ap (λ (k : List ℕ). place_of k ∷ rows_of n (drop row_size (ys ++ drop row_size l))) (take_at ys (drop row_size l) 7 e)
    ∙ ap (λ (k : List ℕ). place_of ys ∷ rows_of n k) (drop_at ys (drop row_size l) 7 e)
row_back (suc n) (suc i) l ys h long e =
    ap (rows_of (suc n)) whole
    ∙ ap (λ (k : List ℕ). place_of k ∷ rows_of n (drop row_size (take row_size l ++ rest))) (take_at (take row_size l) rest 7 seven)
    ∙ ap (λ (k : List ℕ). place_of (take row_size l) ∷ rows_of n k) (drop_at (take row_size l) rest 7 seven)
    ∙ ap (λ (k : List Place). place_of (take row_size l) ∷ k) (row_back n i (drop row_size l) ys (le_of_suc-le-suc h) (omega (arith, length-drop row_size l)) e)
  where
    rest : List ℕ
    rest = take (row_size * i) (drop row_size l) ++ (ys ++ drop row_size (drop (row_size * i) (drop row_size l)))

    seven : length (take row_size l) ≡ row_size
    seven = length-take-le 7 l (omega arith)

    step : row_size * suc i ≡ row_size + row_size * i
    step = omega arith

    whole : take (row_size * suc i) l ++ (ys ++ drop row_size (drop (row_size * suc i) l)) ≡ take row_size l ++ rest
    whole = rw (step, take-add 7 (row_size * i) l, ← drop-drop (row_size * i) 7 l) (simp append_assoc)

-- ---- the same of the whole record

pub became_then : (w w' w'' : List ℕ) (ps ps' : List Place) → Became w ps w' → Became w' ps' w'' → Became w ps' w''
became_then w w' w'' ps ps' a b = record { head = b.head ∙ a.head; long = b.long; places = b.places }

pub became_as : (w w' : List ℕ) (ps ps' : List Place) → ps ≡ ps' → Became w ps w' → Became w ps' w'
became_as w w' ps ps' e a = record { head = a.head; long = a.long; places = a.places ∙ e }

pub head_same : (w w' : List ℕ) (i : ℕ) → i < 3 → take 3 w' ≡ take 3 w → get_or w' i 0 ≡ get_or w i 0
head_same w w' i h e = sym (get_or-take 3 w' i 0 h) ∙ ap (λ (l : List ℕ). get_or l i 0) e ∙ get_or-take 3 w i 0 h

pub state_became : (w : List ℕ) (ps : List Place) (w' : List ℕ) → Became w ps w' → assembler_of w' ≡ with_places (assembler_of w) ps
state_became w ps w' b =
    let u = head_same w w' 0 (omega arith) b.head in
    let p = head_same w w' 1 (omega arith) b.head in
    let m = head_same w w' 2 (omega arith) b.head in
    let q = b.places in
    cc

pub same : (w : List ℕ) → length w ≡ assembler_size → Became w (places_of w) w
same w e = record { head = refl; long = e; places = refl }

pub length_places : (w : List ℕ) → length (places_of w) ≡ place_count
unfolding places_of
length_places w = length_rows place_count (drop 3 w)

module _ (w : List ℕ) (i : ℕ) (h : i < place_count) where
  pub place_at_lem : place_at (places_of w) i ≡ place_of (take row_size (drop (3 + row_size * i) w))
  unfolding places_of
  place_at_lem = row_at place_count i (drop 3 w) h ∙ ap (λ (l : List ℕ). place_of (take row_size l)) (drop-drop (row_size * i) 3 w)

  part_seven : (3 + row_size * i + 7) - (3 + row_size * i) ≡ row_size
  part_seven = omega arith

  -- row i of the record, lent and back as ys
  pub lent_back : (ys : List ℕ) → length w ≡ assembler_size → length ys ≡ row_size
      → Became w (set (places_of w) i (place_of ys)) (take (3 + row_size * i) w ++ (ys ++ drop ((3 + row_size * i + 7) - (3 + row_size * i)) (drop (3 + row_size * i) w)))
  unfolding places_of
  lent_back ys e l =
      record {
        head = take-append-le 3 (take (3 + row_size * i) w) _ (omega (arith, front)) ∙ take-take 3 (3 + row_size * i) w (omega arith);
        long = simp (length-append, length-drop) (omega (arith, front));
        places =
            ap (λ (k : List ℕ). rows_of place_count k) shape
            ∙ row_back place_count i (drop 3 w) ys h (omega (arith, length-drop 3 w)) l;
      }
    where
      front : length (take (3 + row_size * i) w) ≡ 3 + row_size * i
      front = length-take-le (3 + row_size * i) w (omega arith)

      three : length (take 3 w) ≡ 3
      three = length-take-le 3 w (omega arith)

      shape : drop 3 (take (3 + row_size * i) w ++ (ys ++ drop ((3 + row_size * i + 7) - (3 + row_size * i)) (drop (3 + row_size * i) w)))
          ≡ take (row_size * i) (drop 3 w) ++ (ys ++ drop row_size (drop (row_size * i) (drop 3 w)))
      shape =
          rw (part_seven, take-add 3 (row_size * i) w, ← drop-drop (row_size * i) 3 w, append_assoc (take 3 w) (take (row_size * i) (drop 3 w)))
          (drop_at (take 3 w) _ 3 three)

  -- the row that is lent stands for the place
  pub row_is : place_of (take ((3 + row_size * i + 7) - (3 + row_size * i)) (drop (3 + row_size * i) w)) ≡ place_at (places_of w) i
  row_is = ap (λ (k : ℕ). place_of (take k (drop (3 + row_size * i) w))) part_seven ∙ sym place_at_lem

  -- the same law, as the leaves say it: the row keeps its length and stands for q
  pub lent_as : (ys : List ℕ) (q : Place) → length w ≡ assembler_size → length ys ≡ length (take ((3 + row_size * i + 7) - (3 + row_size * i)) (drop (3 + row_size * i) w)) → place_of ys ≡ q
      → Became w (set (places_of w) i q) (take (3 + row_size * i) w ++ (ys ++ drop ((3 + row_size * i + 7) - (3 + row_size * i)) (drop (3 + row_size * i) w)))
  lent_as ys q e l p =
      became_as w _ _ _ (ap (λ (x : Place). set (places_of w) i x) p)
      (lent_back ys e (omega (arith, l, part_seven, length-take ((3 + row_size * i + 7) - (3 + row_size * i)) (drop (3 + row_size * i) w), length-drop (3 + row_size * i) w)))

  pub row_long : length w ≡ assembler_size → length (take ((3 + row_size * i + 7) - (3 + row_size * i)) (drop (3 + row_size * i) w)) ≡ row_size
  row_long e = omega (arith, part_seven, length-take ((3 + row_size * i + 7) - (3 + row_size * i)) (drop (3 + row_size * i) w), length-drop (3 + row_size * i) w)

-- ---- a record is the words of the state that it stands for

row_round : (l : List ℕ) → 3 ≤ length l → row_of (place_of l) ≡ l
row_round [] h = absurd (omega arith)
row_round (a ∷ []) h = absurd (omega arith)
row_round (a ∷ (b ∷ [])) h = absurd (omega arith)
row_round (a ∷ (b ∷ (c ∷ l))) h = refl

table_round : (n : ℕ) (l : List ℕ) → length l ≡ row_size * n → table_of (rows_of n l) ≡ l
table_round zero [] h = refl
table_round zero (a ∷ l) h = absurd (omega arith)
table_round (suc n) l h =
    ap (λ (x : List ℕ). x ++ table_of (rows_of n (drop row_size l))) (row_round (take row_size l) (omega (arith, length-take-le 7 l (omega arith))))
    ∙ ap (λ (x : List ℕ). take row_size l ++ x) (table_round n (drop row_size l) (omega (arith, length-drop row_size l)))
    ∙ take-append-drop row_size l

bit_round : (m : ℕ) → m ≤ 1 → bit (eqb m 1) ≡ m
bit_round m h =
    split (eqb m 1) (λ t. rw t (sym (eqb-true m 1 t))) (λ t. rw t (let n = eqb-false m 1 t in omega arith))

pub round : (w : List ℕ) → length w ≡ assembler_size → get_or w 2 0 ≤ 1 → assembler_words (assembler_of w) ≡ w
unfolding assembler_words places_of
round [] h m = absurd (omega arith)
round (a ∷ []) h m = absurd (omega arith)
round (a ∷ (b ∷ [])) h m = absurd (omega arith)
round (a ∷ (b ∷ (c ∷ l))) h m =
    ap (λ (x : ℕ). a ∷ (b ∷ (x ∷ table_of (rows_of place_count l)))) (bit_round c m)
    ∙ ap (λ (x : List ℕ). a ∷ (b ∷ (c ∷ x))) (table_round place_count l (omega arith))

pub bit_le : (b : Bool) → bit b ≤ 1
bit_le true = omega arith
bit_le false = omega arith

pub mode_word : (a : Assembler) → get_or (assembler_words a) 2 0 ≡ bit a.reliable
unfolding assembler_words
mode_word a = refl

-- ---- a state is what its record stands for

rows_back : (n : ℕ) (ps : List Place) → length ps ≡ n → ((i : ℕ) → length (place_at ps i).marks ≡ 4) → rows_of n (table_of ps) ≡ ps
rows_back zero [] e h = refl
rows_back zero (p ∷ ps) e h = absurd (omega arith)
rows_back (suc n) [] e h = absurd (omega arith)
rows_back (suc n) (p ∷ ps) e h =
    let s : length (row_of p) ≡ row_size = omega (arith, h 0) in
    ap (λ (l : List ℕ). place_of l ∷ rows_of n (drop row_size (row_of p ++ table_of ps))) (take_at (row_of p) (table_of ps) 7 s)
    ∙ ap (λ (l : List ℕ). p ∷ rows_of n l) (drop_at (row_of p) (table_of ps) 7 s)
    ∙ ap (λ (l : List Place). p ∷ l) (rows_back n ps (omega arith) (λ i. h (suc i)))

pub length_table : (ps : List Place) → ((i : ℕ) → length (place_at ps i).marks ≡ 4) → length (table_of ps) ≡ row_size * length ps
length_table [] h = refl
length_table (p ∷ ps) h = omega (arith, length-append (row_of p) (table_of ps), h 0, length_table ps (λ i. h (suc i)))

bit_back : (b : Bool) → eqb (bit b) 1 ≡ b
bit_back true = refl
bit_back false = refl

pub back : (a : Assembler) → length a.places ≡ place_count → ((i : ℕ) → length (place_at a.places i).marks ≡ 4) → assembler_of (assembler_words a) ≡ a
unfolding assembler_words places_of
back a e h =
    ap (λ (b : Bool). record { fragment_size = a.fragment_size; place_size = a.place_size; reliable = b; places = rows_of place_count (table_of a.places) }) (bit_back a.reliable)
    ∙ ap (with_places a) (rows_back place_count a.places e h)
