-- The rows of numbers and sets, over the kind of number. Assumes nothing.
use Prim.Native.Nat.{ℕ, zero, suc, ◌+◌, ◌<◌, ◌^◌}
use native.Mathlib.Omega.{arith}
use mathlib.Core.Path.{◌≡◌, refl, sym, ap, subst, ◌∙◌}
use mathlib.Core.Bool.{Bool, true, false, not}
use mathlib.Core.Logic.{⊎_elim}
use mathlib.Core.List.Memᴰ
use mathlib.Core.List.{List, [], ◌∷◌, Memᴰ}
use lib.ListN.{length}
use lib.Dec.{T}
use lib.IntN.{ℤ, pos, ◌+ℤ◌}
use lib.Signed.{lt_z_yes, lt_z_no, clash_ℤ}
use borrow.Author.Tests.{ltb-true, ltb-false}
use Rattle.outcome.specs.Outcome.{Outcome, refused, done, refusal, found}
use Rattle.std.specs.Prelude.{Result, Ok, Err}
use Rattle.outcome.specs.declared.Refusal.{Refusal}
use Rattle.outcome.specs.Row.{verdict, accepted, Exactly}
use Rattle.sequence_number.specs.Kind.{Kind, sequence_number, fragment_number}
use Rattle.bitmap.specs.Bitmap.{positions, any_past}
use Rattle.sequence_number.specs.Word.{word_at}
use Rattle.sequence_number.specs.NumberWire.{read_number, write_number}
use Rattle.number_set.specs.NumberSet.{members, set_length}
use Rattle.number_set.specs.declared.set.NumberSet.{NumberSet}
use Rattle.number_set.specs.SetWire.{read_set, taken_set, set_bytes, write_set, measure_set}
use Rattle.number_set.specs.Make.{is_rising, make_set}
use Rattle.number_set.specs.Walk.{walk_set, in_order}
use Rattle.sequence_number.specs.declared.ByteOrder.{ByteOrder}
use Rattle.outcome.proofs.Split.{split, both}
use Rattle.sequence_number.specs.Lawful.{Lawful}
use Rattle.number_set.proofs.SetWireLaws.{length_set_bytes}
use Rattle.refusals.specs.RefusalTable.{Alone, read_number_rows, write_number_rows, read_set_rows, walk_rows, write_set_rows, measure_set_rows, make_set_rows, StrictlyRising, ReadNumber, WriteNumber, ReadSet, WalkSet, WriteSet, MeasureSet, MakeSet, PastSequence, PastFragment}
use Rattle.outcome.proofs.RowLaws.{none_left, asks, asks_not, asks_less, left_refused}

-- ---- what is found, or why it is refused

module _ {N : Type 0} (k : Kind N) where
  pub read_number_exactly : (o : ByteOrder) (s : List ℕ) → Exactly (verdict (read_number k o s)) (read_number_rows k s)
  read_number_exactly o s = asks_less verdict refl (length s) k.size (λ h. none_left)

  pub measure_exactly : (s : NumberSet N) → Exactly (verdict (measure_set k.size s.count)) (measure_set_rows k s)
  measure_exactly s = asks_less verdict refl 256 s.count (λ h. none_left)

  pub read_set_exactly : (o : ByteOrder) (s : List ℕ) → Exactly (verdict (read_set k o s)) (read_set_rows k o s)
  read_set_exactly o s =
      let reads : Outcome ℕ → Outcome (Unit {0}) = λ x. verdict (found (taken_set k o s) x) in
      let count : ℕ = word_at o s k.size in
      asks_less reads refl (length s) (k.size + 4)
      (λ a. asks_less reads refl 256 count (λ b. asks_less reads refl (length s) (set_length k.size count) (λ c. none_left)))

module _ {N : Type 0} (k : Kind N) (law : Lawful k) (o : ByteOrder) where
  pub write_number_exactly : (n : N) (out : List ℕ) → Exactly (verdict (write_number k (length out))) (write_number_rows k o n out)
  write_number_exactly n out = rw (law.length_number o n) (asks_less verdict refl (length out) k.size (λ h. none_left))

  pub write_set_exactly : (s : NumberSet N) (out : List ℕ) → Exactly (verdict (write_set k.size s.count (length out))) (write_set_rows k o s out)
  write_set_exactly s out =
      rw (length_set_bytes k law o s)
      (asks_less verdict refl 256 s.count (λ a. asks_less verdict refl (length out) (set_length k.size s.count) (λ b. none_left)))

-- ---- rising lists

module _ {N : Type 0} (k : Kind N) where
  rises : (xs : List N) → is_rising k xs ≡ true → StrictlyRising k xs
  rises [] e i h = absurd (omega arith)
  rises (x ∷ []) e i h = absurd (omega arith)
  rises (x ∷ y ∷ xs) e zero h = (both (k.below x y) (is_rising k (y ∷ xs)) e).0
  rises (x ∷ y ∷ xs) e (suc i) h = rises (y ∷ xs) (both (k.below x y) (is_rising k (y ∷ xs)) e).1 i (omega arith)

  risen : (xs : List N) → StrictlyRising k xs → is_rising k xs ≡ true
  risen [] f = refl
  risen (x ∷ []) f = refl
  risen (x ∷ y ∷ xs) f = rw (f 0 (omega arith)) (risen (y ∷ xs) (λ i h. f (suc i) (omega arith)))

  pub make_exactly : (base : N) (xs : List N) → Exactly (verdict (make_set k base xs)) (make_set_rows k xs)
  make_exactly base xs =
      asks_not verdict refl (is_rising k xs)
      (λ f s. let t = risen xs s in let z : ◌≡◌ {A = ℕ} 0 1 = cc in omega arith)
      (λ t g. g (rises xs t))
      (λ t. none_left)

-- ---- a member past its type

any_past_lem : (fits : ℕ → Bool) (ps : List ℕ) → any_past fits ps ≡ true → (p : ℕ) × Memᴰ p ps × (fits p ≡ false)
any_past_lem fits [] e = let z : ◌≡◌ {A = ℕ} 0 1 = cc in absurd (omega arith)
any_past_lem fits (p ∷ ps) e =
    split (fits p)
    (λ t. let r = any_past_lem fits ps (rw t at e) in (r.0, Memᴰ.tail r.1, r.2))
    (λ t. (p, Memᴰ.head refl, t))

none_past : (fits : ℕ → Bool) (ps : List ℕ) → any_past fits ps ≡ false → (p : ℕ) → Memᴰ p ps → fits p ≡ true
none_past fits [] e p m = absurd (Memᴰ.not-nil m)
none_past fits (q ∷ ps) e p m =
    split (fits q)
    (λ t. ⊎_elim (λ z. rw z t) (λ n. none_past fits ps (rw t at e) p n) (Memᴰ.cases_cons m))
    (λ t. let z : ◌≡◌ {A = ℕ} 0 1 = (let u : true ≡ false = rw t at e in cc) in absurd (omega arith))

module _ {N : Type 0} (k : Kind N) (Past : N → Type 0) (over : (b : N) (i : ℕ) → k.fits b i ≡ false → Past (k.plus b i))
    (within : (b : N) (i : ℕ) → k.fits b i ≡ true → Past (k.plus b i) → ⊥) where
  past_member : (s : NumberSet N) → any_past (k.fits s.base) (positions s.words s.count) ≡ true
      → (m : N) × Memᴰ m (members k s) × Past m
  past_member s e =
      let p = any_past_lem (k.fits s.base) (positions s.words s.count) e in
      (k.plus s.base p.0, Memᴰ.map (k.plus s.base) p.1, over s.base p.0 p.2)

  no_member : (s : NumberSet N) → any_past (k.fits s.base) (positions s.words s.count) ≡ false
      → (m : N) × Memᴰ m (members k s) × Past m → ⊥
  no_member s e x =
      let p = Memᴰ.of_map (k.plus s.base) (positions s.words s.count) x.1 in
      within s.base p.0 (none_past (k.fits s.base) (positions s.words s.count) e p.0 p.1) (subst Past (sym p.2) x.2)

  pub walk_exactly : (s : NumberSet N) (out : List N) → Exactly (verdict (walk_set k s (length out))) (walk_rows k Past s out)
  walk_exactly s out =
      asks_less verdict refl 256 s.count
      (λ a.
      asks verdict refl (any_past (k.fits s.base) (positions s.words s.count)) (past_member s) (no_member s)
      (λ t. asks_less verdict refl (length out) (length (members k s)) (λ b. none_left)))

  pub set_walked : WalkSet k Past
  set_walked s up out after r w =
      record {
        exactly = rw w.answer (walk_exactly s out);
        untouched = λ m e. w.entries ∙ left_refused (walk_set k s (length out)) (in_order up (members k s)) out m (rw w.answer at e);
      }

pub sequence_over : (b : ℤ) (i : ℕ) → sequence_number.fits b i ≡ false → PastSequence (sequence_number.plus b i)
sequence_over b i e = lt_z_no (subst (λ (t : Bool). T (not t)) (sym e) tt)

pub sequence_within : (b : ℤ) (i : ℕ) → sequence_number.fits b i ≡ true → PastSequence (sequence_number.plus b i) → ⊥
sequence_within b i e h = clash_ℤ (lt_z_yes {a = b +ℤ pos i} {b = pos (2 ^ 63)} (subst T (sym e) tt)) h

pub fragment_over : (b i : ℕ) → fragment_number.fits b i ≡ false → PastFragment (fragment_number.plus b i)
fragment_over b i e = ltb-false (b + i) (2 ^ 32) e

pub fragment_within : (b i : ℕ) → fragment_number.fits b i ≡ true → PastFragment (fragment_number.plus b i) → ⊥
fragment_within b i e h = let k : b + i < 2 ^ 32 = ltb-true (b + i) (2 ^ 32) e in omega arith

-- ---- the calls

accepted_refused : (n : ℕ) → accepted ≡ refused n → ⊥
accepted_refused n e =
    let z : ◌≡◌ {A = ℕ} 0 1 = ap (λ (x : Outcome (Unit {0})). is_refused_number x) e in
    omega arith
  where
    is_refused_number : Outcome (Unit {0}) → ℕ
    is_refused_number (refused m) = 1
    is_refused_number (done a) = 0

-- "Every refusal returns its number alone"
pub alone : {A : Type 0} (r : Result A Refusal) → Alone r
alone (Ok a) n e = absurd (accepted_refused n e)
alone (Err x) n e = (x, ap refusal e, refl)

module _ {N : Type 0} (k : Kind N) where
  pub number_read : ReadNumber k
  number_read o s r e = rw e (read_number_exactly k o s)

  pub set_measured : MeasureSet k
  set_measured s r e = rw e (measure_exactly k s)

  pub set_read : ReadSet k
  set_read o s r e = (rw e (read_set_exactly k o s), alone r)

  pub set_made : MakeSet k
  set_made base xs r e = (rw e (make_exactly k base xs), alone r)

module _ {N : Type 0} (k : Kind N) (law : Lawful k) where
  pub number_written : WriteNumber k
  number_written o n out after r w =
      record {
        exactly = rw w.answer (write_number_exactly k law o n out);
        untouched = λ m e. w.bytes ∙ left_refused (write_number k (length out)) (k.number_bytes o n) out m (rw w.answer at e);
      }

  pub set_written : WriteSet k
  set_written o s out after r w =
      record {
        exactly = rw w.answer (write_set_exactly k law o s out);
        untouched = λ m e. w.bytes ∙ left_refused (write_set k.size s.count (length out)) (set_bytes k o s) out m (rw w.answer at e);
      }
