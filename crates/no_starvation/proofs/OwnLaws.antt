-- What a call of its own number does to a block in reliable mode: it brings it further or returns it. Assumes nothing.
use Prim.Native.Nat.{ℕ, ◌+◌, ◌*◌, ◌-◌, ◌/◌, ◌%◌, ◌≤◌, ◌<◌}
use native.Mathlib.Omega.{arith}
use native.Mathlib.Nat.{mod-lt, mul-le-mul_right, div-add-mod'}
use mathlib.Core.Path.{◌≡◌, refl, sym, ap, subst, ◌∙◌}
use mathlib.Core.Bool.{Bool, true, false, ◌&&◌, ◌||◌}
use mathlib.Core.Logic.{◌⊎◌, inl, inr, ⊎_elim}
use mathlib.Core.List.{List, [], ◌∷◌}
use lib.ListN.{length, get_or, set, take, drop, length-take, length-drop, length-set}
use lib.Seq.{paste, get_or-take, get_or-drop, get_or-set_same, ext_get_or}
use lib.Arith.{digits_lt}
use lib.Dec.{eqb}
use borrow.Author.Tests.{ltb-true, ltb-false, leb-true, leb-false, lt-ltb, le-ltb, eq-eqb}
use Rattle.assembly_record.specs.Sizes.{place_count}
use Rattle.outcome.specs.Outcome.{done}
use Rattle.outcome.proofs.Split.{split, clash, both}
use Rattle.assembly_record.proofs.AreaLaws.{paste_in, paste_left, paste_right}
use Rattle.fragment_assembler.proofs.CallLaws.{end_not, begun, begin_fresh, begin_known, Begun, run_long, ran_long, inside, fragment_accepted}
use Rattle.assembly_record.proofs.FragmentsLaws.{fragment_of}
use Rattle.assembly_record.proofs.MarksLaws.{marked_none, marked_run, all_ext, all_at}
use Rattle.fragment_assembler.proofs.PlacingLaws.{ends_returned, shown_whole}
use Rattle.fragment_assembler.proofs.RefusalLaws.{Passed, passed}
use Rattle.assembly_record.proofs.TableLaws.{at_set, find_is, find_none, place_number}
use Rattle.fragment_assembler.specs.Call.{fragment, drop_if_full, Ending, finish_work, Work, accepted_fragment, run_work, begin_work, found_work, opened_work, run_length, run_at, returned, FragmentReply}
use Rattle.assembly_record.specs.Table.{lower, find, has_number, in_assembly}
use Rattle.assembly_record.specs.Fragments.{is_whole, fragments}
use Rattle.assembly_record.specs.Marks.{marked, all_below, covers}
use Rattle.fragment_assembler.specs.Fragment.{Fragment, head_of, run_of}
use Rattle.fragment_assembler.specs.Refusal.{fragment_refusal}
use Rattle.assembly_record.specs.Rules.{AssemblerRules}
use Rattle.no_starvation.specs.Starve.{brought, Stretch, Cut, wants, stretch_of, is_brought, returns, Delivered, moment}
use Rattle.assembly_record.specs.State.{Place, place_at, Assembler, free_place}
use Rattle.no_starvation.proofs.BlockStands.{Seated, Absent, Alone, Bytes, Stands}
use Rattle.no_starvation.proofs.OtherLaws.{drop_keeps}

-- ---- a call of the number itself

in_run : (k n j r f : ℕ) → k ≤ j → j < k + n → r < f → (k * f ≤ j * f + r) × (j * f + r < k * f + n * f)
in_run k n j r f a b l = (omega (arith, mul-le-mul_right f a), omega (arith, mul-le-mul_right f b))

after_run : (k n j r f : ℕ) → k + n ≤ j → k * f + n * f ≤ j * f + r
after_run k n j r f a = omega (arith, mul-le-mul_right f a)

or_one : (a b : Bool) → a || b ≡ true → b ≡ false → a ≡ true
or_one true b e f = refl
or_one false b e f = sym f ∙ e

and_none : (a b : Bool) → a && b ≡ false → (a ≡ false) ⊎ (b ≡ false)
and_none true b e = inr e
and_none false b e = inl refl

-- the place that the call works on, before its run
record Ready (N : ℕ) (B : List ℕ) (a : Assembler) (rs : List Stretch) (w : Work) : Type 0 where
  alone : Alone N w.seat a.places
  size : w.place.size ≡ length B
  marks : (j : ℕ) → j < fragments (length B) a.fragment_size → marked w.place.marks j ≡ brought rs j
  bytes : Bytes a.fragment_size B w.area (w.seat * a.place_size) rs

seated_has : (N i : ℕ) (ps : List Place) → length ps ≡ place_count → i < place_count → (place_at ps i).number ≡ N → Alone N i ps → (find N ps ≡ i) × (has_number ps N ≡ true)
unfolding has_number
seated_has N i ps full l e al =
    let q : find N ps ≡ i = find_is N ps i (omega arith) e (λ j lj z. let y = al j z in omega arith) in
    (q, lt-ltb (find N ps) (length ps) (omega arith))

absent_has : (N : ℕ) (ps : List Place) → Absent N ps → has_number ps N ≡ false
unfolding has_number
absent_has N ps ab = le-ltb (find N ps) (length ps) (omega (arith, find_none N ps (λ j l. ab j)))

known_ready : (N : ℕ) (B : List ℕ) (a : Assembler) (area : List ℕ) (rs : List Stretch) (t i : ℕ) (c : Fragment) → c.number ≡ N → find N a.places ≡ i
    → Seated N B a area rs t i → Ready N B a rs (found_work a area c)
known_ready N B a area rs t i c cn q s =
    let e : find c.number a.places ≡ i = ap (λ (n : ℕ). find n a.places) cn ∙ q in
    rw e (record { alone = s.alone; size = s.size; marks = s.marks; bytes = s.bytes })

fresh_ready : (N : ℕ) (B : List ℕ) (a : Assembler) (area : List ℕ) (c : Fragment) → c.data_size ≡ length B → Absent N a.places
    → Ready N B a [] (opened_work a area c)
fresh_ready N B a area c e ab =
    record {
      alone = λ j z. absurd (ab j z);
      size = e;
      marks = λ j l. marked_none j;
      bytes = λ j r l h z. absurd (clash false z refl);
    }

ready : (N : ℕ) (B : List ℕ) (a : Assembler) (area : List ℕ) (rs : List Stretch) (t : ℕ) (c : Fragment) → AssemblerRules a → Stands N B a area rs t → c.number ≡ N
    → Cut a.fragment_size B c → Ready N B a rs (begin_work a area c)
ready N B a area rs t c g st cn cut =
    ⊎_elim
    (λ x.
    subst (λ (l : List Stretch). Ready N B a l (begin_work a area c)) (sym x.0)
    (subst (Ready N B a []) (sym (begin_fresh a area c (ap (has_number a.places) cn ∙ absent_has N a.places x.1)))
    (fresh_ready N B a area c cut.size x.1)))
    (λ x.
    let s = x.1 in
    let o = seated_has N x.0 a.places g.full s.within s.here s.alone in
    subst (Ready N B a rs) (sym (begin_known a area c (ap (has_number a.places) cn ∙ o.1)))
    (known_ready N B a area rs t x.0 c cn o.0 s))
    st

-- the payload has all that the call's fragments want
enough : (f : ℕ) (B : List ℕ) (c : Fragment) → Cut f B c → wants f B c ≤ length c.payload
enough f B c cut =
    let e = ap length cut.begins in
    omega (arith, length-take (wants f B c) c.payload, length-take (wants f B c) (drop ((c.start - 1) * f) B), length-drop ((c.start - 1) * f) B, e)

module _ (N : ℕ) (B : List ℕ) (a : Assembler) (area : List ℕ) (rs : List Stretch) (c : Fragment) (g : AssemblerRules a) (q : Passed a (length area) (head_of c)) (cut : Cut a.fragment_size B c)
    (w : Work) (b : Begun a area c w) (y : Ready N B a rs w) where
  ran_marks : (j : ℕ) → j < fragments (length B) a.fragment_size → marked (run_work a (run_of c) w).place.marks j ≡ brought (stretch_of c ∷ rs) j
  unfolding run_work
  ran_marks j l =
      marked_run w.place.marks (c.start - 1) c.count j b.sample.long (omega (arith, b.ok.fits, b.sample.few))
      ∙ ap (λ (x : Bool). x || covers (c.start - 1) c.count j) (y.marks j l)

  ran_all : is_whole a.fragment_size (run_work a (run_of c) w).place ≡ is_brought a.fragment_size B (stretch_of c ∷ rs)
  unfolding run_work
  ran_all =
      ap (λ (d : ℕ). all_below (marked (run_work a (run_of c) w).place.marks) (fragments d a.fragment_size)) y.size
      ∙ all_ext (marked (run_work a (run_of c) w).place.marks) (brought (stretch_of c ∷ rs)) (fragments (length B) a.fragment_size) ran_marks

  -- a byte of the run, and one outside it
  byte_in : (v : ℕ) → (c.start - 1) * a.fragment_size ≤ v → v < (c.start - 1) * a.fragment_size + c.count * a.fragment_size → v < length B
      → get_or (run_work a (run_of c) w).area (w.seat * a.place_size + v) 0 ≡ get_or B v 0
  unfolding run_work
  byte_in v lo hi l =
      let o : ℕ = (c.start - 1) * a.fragment_size in
      let n : ℕ = run_length a (run_of c) w in
      let lw : v - o < wants a.fragment_size B c = omega arith in
      let ln : v - o < n = omega (arith, enough a.fragment_size B c cut, y.size) in
      ap (λ (k : ℕ). get_or (paste w.area (w.seat * a.place_size + o) c.payload n) k 0) (omega arith)
      ∙ paste_in w.area (w.seat * a.place_size + o) c.payload n (run_long a area c g q w b) (omega arith) (v - o) ln
      ∙ sym (get_or-take (wants a.fragment_size B c) c.payload (v - o) 0 lw)
      ∙ ap (λ (x : List ℕ). get_or x (v - o) 0) cut.begins
      ∙ get_or-take (wants a.fragment_size B c) (drop o B) (v - o) 0 lw
      ∙ get_or-drop o B (v - o) 0
      ∙ ap (λ (k : ℕ). get_or B k 0) (omega arith)

  byte_out : (v : ℕ) → (v < (c.start - 1) * a.fragment_size) ⊎ ((c.start - 1) * a.fragment_size + c.count * a.fragment_size ≤ v)
      → get_or (run_work a (run_of c) w).area (w.seat * a.place_size + v) 0 ≡ get_or w.area (w.seat * a.place_size + v) 0
  unfolding run_work
  byte_out v h =
      ⊎_elim
      (λ x.
      paste_left w.area (run_at a (run_of c) w) c.payload (run_length a (run_of c) w) (run_long a area c g q w b) (omega arith) (w.seat * a.place_size + v) (omega arith))
      (λ x.
      paste_right w.area (run_at a (run_of c) w) c.payload (run_length a (run_of c) w) (run_long a area c g q w b) (omega arith) (w.seat * a.place_size + v) (omega arith))
      h

  ran_bytes : Bytes a.fragment_size B (run_work a (run_of c) w).area (w.seat * a.place_size) (stretch_of c ∷ rs)
  ran_bytes j r l h e =
      split (covers (c.start - 1) c.count j)
      (λ t.
      let u = both _ _ t in
      let z = in_run (c.start - 1) c.count j r a.fragment_size (leb-true _ _ u.0) (ltb-true _ _ u.1) l in
      byte_in (j * a.fragment_size + r) z.0 z.1 h)
      (λ t.
      byte_out (j * a.fragment_size + r)
      (⊎_elim (λ x. inl (digits_lt (leb-false _ _ x) l))
      (λ x. inr (after_run (c.start - 1) c.count j r a.fragment_size (ltb-false _ _ x))) (and_none _ _ t))
      ∙ y.bytes j r l h (or_one _ _ e t))

  -- the whole block, where every fragment was brought
  ran_whole : is_brought a.fragment_size B (stretch_of c ∷ rs) ≡ true → take (length B) (drop (w.seat * a.place_size) (run_work a (run_of c) w).area) ≡ B
  ran_whole e =
      ext_get_or 0 (take (length B) (drop (w.seat * a.place_size) (run_work a (run_of c) w).area)) B len
      (λ v l.
      let lv : v < length B = omega (arith, len) in
      let s = div-add-mod' v a.fragment_size in
      get_or-take (length B) (drop (w.seat * a.place_size) (run_work a (run_of c) w).area) v 0 lv
      ∙ get_or-drop (w.seat * a.place_size) (run_work a (run_of c) w).area v 0
      ∙ subst (λ (k : ℕ). get_or (run_work a (run_of c) w).area (w.seat * a.place_size + k) 0 ≡ get_or B k 0) s
      (ran_bytes (v / a.fragment_size) (v % a.fragment_size) (mod-lt v g.some) (omega arith)
      (all_at (brought (stretch_of c ∷ rs)) (fragments (length B) a.fragment_size) (v / a.fragment_size) e (fragment_of (length B) a.fragment_size v g.some lv))))
    where
      len : length (take (length B) (drop (w.seat * a.place_size) (run_work a (run_of c) w).area)) ≡ length B
      len =
          omega (
            arith,
            length-take (length B) (drop (w.seat * a.place_size) (run_work a (run_of c) w).area),
            length-drop (w.seat * a.place_size) (run_work a (run_of c) w).area,
            ran_long a area c g q w b,
            inside a.place_size w.seat (length area) w.place.size b.within b.sample.most q.long,
            y.size,
          )

-- ---- the end of a call of the number itself

settle_silent : (r : Bool) (n : ℕ) (ps : List Place) → returns n (done (drop_if_full r ps).answer) ≡ false
unfolding drop_if_full
settle_silent r n ps = split (eqb (in_assembly ps) place_count) (λ e. rw e) (λ e. rw e)

module _ (N : ℕ) (B : List ℕ) (a : Assembler) (area : List ℕ) (rs : List Stretch) (t : ℕ) (c : Fragment) (g : AssemblerRules a) (r : a.reliable ≡ true) (st : Stands N B a area rs t) (cn : c.number ≡ N)
    (ok : fragment_refusal a (length area) (head_of c) ≡ 0) (cut : Cut a.fragment_size B c) where
  pass : Passed a (length area) (head_of c)
  pass = passed a (length area) (head_of c) ok

  work : Begun a area c (begin_work a area c)
  work = begun a area c g pass

  before : Ready N B a rs (begin_work a area c)
  before = ready N B a area rs t c g st cn cut

  same_all : is_whole a.fragment_size (run_work a (run_of c) (begin_work a area c)).place ≡ is_brought a.fragment_size B (stretch_of c ∷ rs)
  same_all = ran_all N B a area rs c g pass cut (begin_work a area c) work before

  whole_answer : is_brought a.fragment_size B (stretch_of c ∷ rs) ≡ true → (fragment a area c).answer ≡ done (returned N (begin_work a area c).seat (length B))
  whole_answer e =
      (ends_returned a area c g ok (same_all ∙ e)).0
      ∙ ap (λ (n : ℕ). done (returned n (begin_work a area c).seat (begin_work a area c).place.size)) cn
      ∙ ap (λ (n : ℕ). done (returned N (begin_work a area c).seat n)) before.size

  not_answer : is_brought a.fragment_size B (stretch_of c ∷ rs) ≡ false → returns N (fragment a area c).answer ≡ false
  unfolding accepted_fragment
  not_answer e =
      ap (λ (o : FragmentReply). returns N o.answer) (fragment_accepted a area c ok)
      ∙ ap (λ (x : Ending). returns N (done x.answer)) (end_not a (run_work a (run_of c) (begin_work a area c)).seat (run_work a (run_of c) (begin_work a area c)).place (same_all ∙ e))
      ∙ settle_silent a.reliable N (set a.places (run_work a (run_of c) (begin_work a area c)).seat (run_work a (run_of c) (begin_work a area c)).place)

  whole_bytes : is_brought a.fragment_size B (stretch_of c ∷ rs) ≡ true → take (length B) (drop ((begin_work a area c).seat * a.place_size) (fragment a area c).area) ≡ B
  unfolding accepted_fragment
  whole_bytes e =
      ap (λ (o : FragmentReply). take (length B) (drop ((begin_work a area c).seat * a.place_size) o.area)) (fragment_accepted a area c ok)
      ∙ ran_whole N B a area rs c g pass cut (begin_work a area c) work before e

  pub delivers : Delivered N B (moment a area) rs c
  delivers =
      record {
        exactly =
            split (is_brought a.fragment_size B (stretch_of c ∷ rs))
            (λ e. ap (returns N) (whole_answer e) ∙ eq-eqb N N refl ∙ sym e)
            (λ e. not_answer e ∙ sym e);
        bytes = λ e. (
          (begin_work a area c).seat,
          whole_answer e,
          shown_whole a area c g ok N (begin_work a area c).seat (length B) (whole_answer e) ∙ whole_bytes e,
        );
      }

  -- not returned: it is in assembly, with one run more
  pub own_seated : is_brought a.fragment_size B (stretch_of c ∷ rs) ≡ false → lower N (accepted_fragment a area c).state.places < 128
      → Seated N B (accepted_fragment a area c).state (accepted_fragment a area c).area (stretch_of c ∷ rs) c.time (begin_work a area c).seat
  unfolding accepted_fragment run_work
  own_seated e low =
      let i : ℕ = (begin_work a area c).seat in
      let w : Work = run_work a (run_of c) (begin_work a area c) in
      let ps : List Place = set a.places i w.place in
      let il : i < length a.places = omega (arith, work.within, g.full) in
      let here : place_at ps i ≡ w.place = get_or-set_same a.places i w.place free_place il in
      let eq : finish_work a w ≡ drop_if_full true ps = end_not a w.seat w.place (same_all ∙ e) ∙ ap (λ (x : Bool). drop_if_full x ps) r in
      let some : 0 < N = subst (λ (n : ℕ). 0 < n) cn pass.low in
      let al : Alone N i ps =
      (λ j z. ⊎_elim (λ x. x.1) (λ x. before.alone j (ap place_number (sym x) ∙ z)) (at_set a.places i w.place j)) in
      let k = drop_keeps N i ps some (length-set a.places i w.place ∙ g.full) work.within (ap place_number here ∙ cn) al
      (subst (λ (x : Ending). lower N x.places < 128) eq low) in
      let at_i : place_at (finish_work a w).places i ≡ w.place = ap (λ (x : Ending). place_at x.places i) eq ∙ k.0 ∙ here in
      record {
        within = work.within;
        here = ap place_number at_i ∙ cn;
        alone = subst (λ (x : Ending). Alone N i x.places) (sym eq) k.1;
        size = ap (λ (p : Place). p.size) at_i ∙ before.size;
        time = ap (λ (p : Place). p.time) at_i;
        marks = λ j l. ap (λ (p : Place). marked p.marks j) at_i ∙ ran_marks N B a area rs c g pass cut (begin_work a area c) work before j l;
        bytes = ran_bytes N B a area rs c g pass cut (begin_work a area c) work before;
      }
