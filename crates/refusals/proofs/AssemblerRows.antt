-- The rows of the assembler's calls. Assumes nothing.
use Prim.Native.Nat.{ℕ, zero, suc, ◌+◌, ◌-◌, ◌*◌, ◌<◌, ◌≤◌}
use native.Mathlib.Omega.{arith}
use mathlib.Core.Path.{◌≡◌, refl, sym, ap, subst, ◌∙◌}
use mathlib.Core.Bool.{Bool, true, false, cond, not, ◌&&◌, ◌||◌}
use mathlib.Core.Logic.{◌⊎◌, inl, inr, ⊎_elim}
use mathlib.Core.List.{List, [], ◌∷◌}
use lib.ListN.{length, replicate, length-replicate}
use lib.Dec.{ltb, leb, eqb}
use lib.IntN.{ℤ, pos, negsuc}
use mir.Syntax.{w64}
use mir.Val.{SFits}
use borrow.Author.Tests.{ltb-true, ltb-false, eqb-true, eqb-false, not-true, not-false, ne_eqb}
use Rattle.outcome.specs.Outcome.{Outcome, refused}
use Rattle.std.specs.Prelude.{Result}
use Rattle.outcome.specs.Refusal.{said}
use Rattle.outcome.specs.declared.Refusal.{Refusal}
use Rattle.outcome.specs.Answers.{SetUpReply, ListReply}
use Rattle.outcome.specs.Row.{row, verdict, numbered, Exactly, Refuses, shorter}
use Rattle.sequence_number.specs.Number.{top, is_number, number_of}
use Rattle.outcome.proofs.Split.{split, clash, both, neither}
use Rattle.assembly_record.specs.Sizes.{place_count, assembler_size}
use Rattle.assembly_record.specs.State.{Place, Assembler, place_at, free_place}
use Rattle.assembly_record.specs.Table.{find, has_number, is_partially_received}
use Rattle.assembly_record.specs.Fragments.{fragments}
use Rattle.fragment_assembler.specs.Fragment.{Fragment, fragment_with, head_of}
use Rattle.fragment_assembler.specs.Refusal.{fragment_refusal, size_for}
use Rattle.fragment_assembler.specs.Call.{FragmentReply, fragment_said, accepted_fragment, fragment}
use Rattle.fragment_assembler.specs.SetUp.{fresh_assembler, set_up_assembler, set_up_refusal}
use Rattle.assembly_record.specs.Stale.{stale_numbers}
use Rattle.fragment_assembler.specs.Clean.{CleanReply, clean}
use Rattle.fragment_assembler.specs.Missing.{missing_fragments, missing_fragments_for}
use Rattle.fragment_assembler.specs.Promise.{SetsUpAssembler, TakesFragment, CleansAssembler, ListsFragments}
use Rattle.assembly_record.specs.Words.{assembler_of, assembler_words}
use Rattle.assembly_record.specs.Rules.{GoodAssembler}
use Rattle.fragment_assembler.specs.declared.fragment.Answer.{Answer}
use Rattle.fragment_assembler.proofs.RefusalLaws.{number_row}
use Rattle.assembly_record.proofs.TableLaws.{at_free}
use Rattle.assembly_record.proofs.WordsLaws.{length_table}
use Rattle.fragment_assembler.proofs.Determined.{same_words}
use Rattle.refusals.specs.RefusalTable.{assembler_set_up_rows, sample_size, fragment_rows}
use Rattle.outcome.proofs.RowLaws.{none_left, asks, asks_less, not_refused}
use Rattle.refusals.proofs.ProxyRows.{row_holds, row_fails}

-- ---- numbers

numbered_some : (n : ℕ) → (n ≡ 0 → ⊥) → numbered n ≡ refused n
numbered_some zero f = absurd (f refl)
numbered_some (suc n) f = refl

-- of a number that a call takes the query looks at the table
asked : (ps : List Place) (n : ℤ) → is_number n ≡ true → has_number ps (number_of n) ≡ is_partially_received ps (number_of n)
asked ps (negsuc n) e = absurd (clash false e refl)
asked ps (pos n) e =
    let h : ltb 0 n ≡ true = (both (ltb 0 n) (ltb n top) e).0 in
    let k : 0 < n = ltb-true 0 n h in
    rw (e, ne_eqb n 0 (λ z. omega arith))

-- a row of an opening
module _ (x y : ℕ) where
  open_holds : (h i : Bool) → h ≡ i → (not h && ltb x y) ≡ true → (i ≡ false) × (x < y)
  open_holds true i e t = absurd (clash true refl (sym t))
  open_holds false i e t = (sym e, ltb-true x y t)

  open_fails : (h i : Bool) → h ≡ i → (not h && ltb x y) ≡ false → (i ≡ false) × (x < y) → ⊥
  open_fails true i e t p = clash true refl (e ∙ p.0)
  open_fails false i e t p = let k : y ≤ x = ltb-false x y t in omega (arith, p.1)

-- ---- the fragment call

call_number : (a : Assembler) (area : List ℕ) (c : Fragment) → verdict (fragment a area c).answer ≡ numbered (fragment_refusal a (length area) (head_of c))
unfolding fragment accepted_fragment
call_number a area c =
    split (eqb (fragment_refusal a (length area) (head_of c)) 0)
    (λ t. rw (t, eqb-true (fragment_refusal a (length area) (head_of c)) 0 t))
    (λ t. rw t (sym (numbered_some (fragment_refusal a (length area) (head_of c)) (eqb-false (fragment_refusal a (length area) (head_of c)) 0 t))))

pub call_leaves : (a : Assembler) (area : List ℕ) (c : Fragment) (n : ℕ) → verdict (fragment a area c).answer ≡ refused n
    → ((fragment a area c).state ≡ a) × ((fragment a area c).area ≡ area)
unfolding fragment accepted_fragment
call_leaves a area c n e =
    split (eqb (fragment_refusal a (length area) (head_of c)) 0) (λ t. absurd (not_refused n (rw t at e))) (λ t. rw t (refl, refl))

module _ (a : Assembler) (area : List ℕ) (number : ℤ) (fits : SFits w64 number) (time fragment_size D k n : ℕ) (payload : List ℕ) where
  abbrev pub call : Fragment
  call = fragment_with time (number_of number) fragment_size D k n payload

  call_rows : Exactly (numbered (fragment_refusal a (length area) (head_of call))) (fragment_rows a area number fragment_size D k n)
  unfolding fragment_refusal
  call_rows =
      let N : ℕ = number_of number in
      let f : ℕ = a.fragment_size in
      asks_less numbered refl (length area) (129 * a.place_size)
      (λ h.
      asks numbered refl (eqb N 0 || leb top N)
      (λ t. row_holds number fits (not-true (is_number number) (sym (number_row number) ∙ t)))
      (λ t. row_fails number fits (not-false (is_number number) (sym (number_row number) ∙ t)))
      (λ t.
      let q : has_number a.places N ≡ is_partially_received a.places N = asked a.places number (not-false (is_number number) (sym (number_row number) ∙ t)) in
      asks numbered refl (not (eqb fragment_size f))
      (λ u. eqb-false fragment_size f (not-true (eqb fragment_size f) u))
      (λ u g. g (eqb-true fragment_size f (not-false (eqb fragment_size f) u)))
      (λ u.
      asks numbered refl (not (has_number a.places N) && ltb D f)
      (open_holds D f (has_number a.places N) (is_partially_received a.places N) q) (open_fails D f (has_number a.places N) (is_partially_received a.places N) q)
      (λ v.
      asks numbered refl (not (has_number a.places N) && ltb a.place_size D)
      (open_holds a.place_size D (has_number a.places N) (is_partially_received a.places N) q) (open_fails a.place_size D (has_number a.places N) (is_partially_received a.places N) q)
      (λ w.
      asks numbered refl (not (has_number a.places N) && ltb 256 (fragments D f))
      (open_holds 256 (fragments D f) (has_number a.places N) (is_partially_received a.places N) q)
      (open_fails 256 (fragments D f) (has_number a.places N) (is_partially_received a.places N) q)
      (λ x.
      asks numbered refl (eqb n 0) (eqb-true n 0) (eqb-false n 0)
      (λ y.
      asks numbered refl (eqb k 0) (eqb-true k 0) (eqb-false k 0)
      (λ z.
      let s : size_for a (head_of call) ≡ sample_size a number D = ap (λ (b : Bool). cond b (place_at a.places (find N a.places)).size D) q in
      subst (λ (d : ℕ). Exactly (numbered (cond (ltb (fragments d f) (k - 1 + n)) 12 0)) (row 12 (fragments (sample_size a number D) f < k - 1 + n) ∷ [])) (sym s)
      (asks_less numbered refl (fragments (sample_size a number D) f) (k - 1 + n) (λ i. none_left))))))))))

  pub call_exactly : Exactly (verdict (fragment a area call).answer) (fragment_rows a area number fragment_size D k n)
  call_exactly = subst (λ (v : Outcome (Unit {0})). Exactly v (fragment_rows a area number fragment_size D k n)) (sym (call_number a area call)) call_rows

pub fragment_rows_lem : (w w' area area' : List ℕ) (time : ℕ) (number : ℤ) (fragment_size D k n : ℕ) (payload : List ℕ) (r : Result Answer Refusal) → GoodAssembler w → SFits w64 number
    → TakesFragment w area (fragment_with time (number_of number) fragment_size D k n payload) r w' area'
    → Refuses (verdict (fragment_said r)) (fragment_rows (assembler_of w) area number fragment_size D k n) ((w' ≡ w) × (area' ≡ area))
fragment_rows_lem w w' area area' time number fragment_size D k n payload r g fits h =
    let c : Fragment = fragment_with time (number_of number) fragment_size D k n payload in
    let e : verdict (fragment_said r) ≡ verdict (fragment (assembler_of w) area c).answer = ap (λ (x : FragmentReply). verdict x.answer) h.same in
    record {
      exactly =
          subst (λ (v : Outcome (Unit {0})). Exactly v (fragment_rows (assembler_of w) area number fragment_size D k n)) (sym e)
          (call_exactly (assembler_of w) area number fits time fragment_size D k n payload);
      untouched = λ m x.
          let l = call_leaves (assembler_of w) area c m (sym e ∙ x) in
          (same_words w' w h.good g (ap (λ (y : FragmentReply). y.state) h.same ∙ l.0), ap (λ (y : FragmentReply). y.area) h.same ∙ l.1);
    }

-- ---- set-up

fresh_long : (f : ℕ) (reliable : Bool) (p : ℕ) → length (assembler_words (fresh_assembler f reliable p)) ≡ assembler_size
unfolding assembler_words
fresh_long f reliable p =
    let t = length_table (replicate place_count free_place) (λ i. ap (λ (q : Place). length q.marks) (at_free place_count i)) in
    omega (arith, length-replicate place_count free_place)

module _ (f : ℕ) (reliable : Bool) (p : ℕ) (w : List ℕ) where
  set_up_number : verdict (set_up_assembler f reliable p w).answer ≡ numbered (set_up_refusal f p (length w))
  unfolding set_up_assembler
  set_up_number =
      split (eqb (set_up_refusal f p (length w)) 0)
      (λ t. rw (t, eqb-true (set_up_refusal f p (length w)) 0 t))
      (λ t. rw t (sym (numbered_some (set_up_refusal f p (length w)) (eqb-false (set_up_refusal f p (length w)) 0 t))))

  pub set_up_leaves : (n : ℕ) → verdict (set_up_assembler f reliable p w).answer ≡ refused n → (set_up_assembler f reliable p w).words ≡ w
  unfolding set_up_assembler
  set_up_leaves n e = split (eqb (set_up_refusal f p (length w)) 0) (λ t. absurd (not_refused n (rw t at e))) (λ t. rw t refl)

  abbrev Unfit : Type 0
  Unfit = (f ≡ 0) ⊎ (p ≡ 0) ⊎ (65536 < p)

  unfit : eqb f 0 || (eqb p 0 || ltb 65536 p) ≡ true → Unfit
  unfit t =
      split (eqb f 0) (λ x. inl (eqb-true f 0 x))
      (λ x. split (eqb p 0) (λ y. inr (inl (eqb-true p 0 y))) (λ y. inr (inr (ltb-true 65536 p (rw (x, y) at t)))))

  fit : eqb f 0 || (eqb p 0 || ltb 65536 p) ≡ false → Unfit → ⊥
  fit t u =
      let a = neither (eqb f 0) (eqb p 0 || ltb 65536 p) t in
      let b = neither (eqb p 0) (ltb 65536 p) a.1 in
      ⊎_elim (λ x. eqb-false f 0 a.0 x) (⊎_elim (λ x. eqb-false p 0 b.0 x) (λ x. let k : p ≤ 65536 = ltb-false 65536 p b.1 in omega arith)) u

  set_up_tests : Exactly (numbered (set_up_refusal f p (length w))) (assembler_set_up_rows f reliable p w)
  unfolding set_up_refusal
  set_up_tests =
      rw (fresh_long f reliable p)
      (asks numbered refl (eqb f 0 || (eqb p 0 || ltb 65536 p)) unfit fit (λ t. asks_less numbered refl (length w) assembler_size (λ h. none_left)))

  pub set_up_exactly : Exactly (verdict (set_up_assembler f reliable p w).answer) (assembler_set_up_rows f reliable p w)
  set_up_exactly = subst (λ (v : Outcome (Unit {0})). Exactly v (assembler_set_up_rows f reliable p w)) (sym set_up_number) set_up_tests

  pub set_up_rows : (w' : List ℕ) (r : Result (Unit {0}) Refusal) → SetsUpAssembler w f reliable p r w' → Refuses (verdict (said r)) (assembler_set_up_rows f reliable p w) (w' ≡ w)
  set_up_rows w' r h =
      let e : verdict (said r) ≡ verdict (set_up_assembler f reliable p w).answer = ap (λ (x : SetUpReply). verdict x.answer) h.same in
      record {
        exactly = subst (λ (v : Outcome (Unit {0})). Exactly v (assembler_set_up_rows f reliable p w)) (sym e) set_up_exactly;
        untouched = λ n x. ap (λ (y : SetUpReply). y.words) h.same ∙ set_up_leaves n (sym e ∙ x);
      }

-- ---- cleaning, and the missing fragments

module _ (a : Assembler) (cutoff : ℕ) (out : List ℤ) where
  abbrev pub clean_says : CleanReply → Outcome (Unit {0})
  clean_says x = verdict x.answer

  pub clean_exactly : Exactly (clean_says (clean a cutoff out)) (shorter out (stale_numbers cutoff a.places) ∷ [])
  unfolding clean
  clean_exactly = asks_less clean_says refl (length out) (length (stale_numbers cutoff a.places)) (λ h. none_left)

  pub clean_leaves : (n : ℕ) → clean_says (clean a cutoff out) ≡ refused n → ((clean a cutoff out).state ≡ a) × ((clean a cutoff out).list ≡ out)
  unfolding clean
  clean_leaves n e =
      split (ltb (length out) (length (stale_numbers cutoff a.places))) (λ t. rw t (refl, refl)) (λ t. absurd (not_refused n (rw t at e)))

pub clean_rows : (w w' : List ℕ) (cutoff : ℕ) (out after : List ℤ) (r : Result ℕ Refusal) → GoodAssembler w → CleansAssembler w cutoff out r w' after
    → Refuses (verdict (said r)) (shorter out (stale_numbers cutoff (assembler_of w).places) ∷ []) ((w' ≡ w) × (after ≡ out))
clean_rows w w' cutoff out after r g h =
    let e : verdict (said r) ≡ verdict (clean (assembler_of w) cutoff out).answer = ap (λ (x : CleanReply). verdict x.answer) h.same in
    record {
      exactly =
          subst (λ (v : Outcome (Unit {0})). Exactly v (shorter out (stale_numbers cutoff (assembler_of w).places) ∷ [])) (sym e)
          (clean_exactly (assembler_of w) cutoff out);
      untouched = λ n x.
          let l = clean_leaves (assembler_of w) cutoff out n (sym e ∙ x) in
          (same_words w' w h.good g (ap (λ (y : CleanReply). y.state) h.same ∙ l.0), ap (λ (y : CleanReply). y.list) h.same ∙ l.1);
    }

module _ (a : Assembler) (N : ℕ) (out : List ℕ) where
  abbrev pub miss_says : (ListReply ℕ) → Outcome (Unit {0})
  miss_says x = verdict x.answer

  pub miss_exactly : Exactly (miss_says (missing_fragments_for a N out)) (shorter out (missing_fragments a N) ∷ [])
  unfolding missing_fragments_for
  miss_exactly = asks_less miss_says refl (length out) (length (missing_fragments a N)) (λ h. none_left)

  pub miss_leaves : (n : ℕ) → miss_says (missing_fragments_for a N out) ≡ refused n → (missing_fragments_for a N out).list ≡ out
  unfolding missing_fragments_for
  miss_leaves n e = split (ltb (length out) (length (missing_fragments a N))) (λ t. rw t refl) (λ t. absurd (not_refused n (rw t at e)))

pub missing_rows_lem : (w : List ℕ) (number : ℤ) (out after : List ℕ) (r : Result ℕ Refusal) → GoodAssembler w → ListsFragments w (number_of number) out r after
    → Refuses (verdict (said r)) (shorter out (missing_fragments (assembler_of w) (number_of number)) ∷ []) (after ≡ out)
missing_rows_lem w number out after r g h =
    let e : verdict (said r) ≡ verdict (missing_fragments_for (assembler_of w) (number_of number) out).answer = ap (λ (x : ListReply ℕ). verdict x.answer) h.same in
    record {
      exactly = subst (λ (v : Outcome (Unit {0})). Exactly v (shorter out (missing_fragments (assembler_of w) (number_of number)) ∷ [])) (sym e) (miss_exactly (assembler_of w) (number_of number) out);
      untouched = λ n x. ap (λ (y : ListReply ℕ). y.list) h.same ∙ miss_leaves (assembler_of w) (number_of number) out n (sym e ∙ x);
    }
