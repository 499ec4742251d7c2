-- Laws of `specs/Words.antt`: columns under each change, and a record that means the state it was made of. Assumes nothing.
use Prim.Native.Nat.{ℕ, suc, ◌+◌, ◌-◌, ◌<◌, ◌≤◌}
use native.Mathlib.Omega.{arith}
use native.Mathlib.Nat.{add-zero}
use native.Mathlib.Numerals.{add-one}
use mathlib.Core.Path.{◌≡◌, refl, sym, ap, ◌∙◌, subst}
use mathlib.Core.List.{List, [], ◌∷◌, ◌++◌, map, append_assoc, map-append}
use lib.ListN.{length, take, drop, get_or, set, length-append, length-take, length-drop, length-map, get_or-append, get_or-map}
use lib.Seq.{set_split, get_or-take, get_or-drop, drop-drop, take_at, drop_at, take-append-le, drop-append-le, set-append_left}
use Rattle.std.proofs.lemmas.List.{take-map, drop-map}
use Rattle.proxy_record.specs.Entries.{Entry}
use Rattle.proxy_record.specs.declared.Mark.{Mark}
use Rattle.proxy_record.specs.declared.Mark.TheVariants.{NotAvailable, Received}
use Rattle.proxy_record.specs.State.{Proxy}
use Rattle.proxy_record.specs.Rules.{ProxyRules, GoodProxyUpTo}
use Rattle.proxy_record.specs.Column.{slot_opened, slots_shut}
use Rattle.proxy_record.specs.Words.{column_size, numbers_at, kinds_at, times_at, kind_of, time_of, mark_of, number_in, kind_in, time_in, column, proxy_layout, proxy_words, entry_at, entries_from, proxy_of, tracked_in, zeros}
use Rattle.proxy_record.specs.Rows.{blank_entry, insert_entry, replace_entry}
use Rattle.proxy_record.proofs.ColumnLaws.{length_zeros, zeros_append, drop_zeros}
use Rattle.proxy_record.proofs.PartLaws.{Laid, laid_length, numbers_of, kinds_of, times_of, base_at, count_at, last_at, time_at}

pub length_column : (f : Entry → ℕ) (l : List Entry) → length l ≤ column_size → length (column f l) ≡ column_size
unfolding column
length_column f l h = simp (length-append, length-map, length_zeros) (omega arith)

pub column_get : (f : Entry → ℕ) (l : List Entry) (i : ℕ) → f blank_entry ≡ 0 → i < length l → get_or (column f l) i 0 ≡ f (get_or l i blank_entry)
unfolding column
column_get f l i e h =
    get_or-append (map f l) _ 0 i (rw length-map h) ∙ ap (λ (d : ℕ). get_or (map f l) i d) (sym e) ∙ get_or-map f l i blank_entry

pub column_opened : (f : Entry → ℕ) (l : List Entry) (at : ℕ) (e : Entry) → at ≤ length l → length l < column_size
    → slot_opened (length l) at (f e) (column f l) ≡ column f (insert_entry at e l)
unfolding slot_opened column
column_opened f l at e h k =
    let m : length (map f l) ≡ length l = length-map l f in
    let a : at ≤ length (map f l) = omega arith in
    let d : length (drop at (map f l)) ≡ length l - at = simp length-drop (omega arith) in
    let n : length (insert_entry at e l) ≡ suc (length l) = simp (length-append, length-take, length-drop) (omega arith) in
    let z : drop (suc (length l)) (map f l ++ zeros (column_size - length l)) ≡ zeros (column_size - suc (length l)) =
    let g : column_size - length l - 1 ≡ column_size - suc (length l) = omega arith in
    rw (← add-one, ← drop-drop 1 (length l), drop_at (map f l) (zeros (column_size - length l)) (length l) m, drop_zeros, add-one, g) in
    rw (z, take-append-le at (map f l) (zeros (column_size - length l)) a, drop-append-le at (map f l) (zeros (column_size - length l)) a, take_at (drop at (map f l)) (zeros (column_size - length l)) (length l - at) d, n, map-append, append_assoc, take-map, drop-map)

pub column_set : (f : Entry → ℕ) (l : List Entry) (at : ℕ) (e : Entry) → at < length l → set (column f l) at (f e) ≡ column f (replace_entry at e l)
unfolding column
column_set f l at e h =
    let m : at < length (map f l) = rw length-map h in
    let n : length (replace_entry at e l) ≡ length l = simp (length-append, length-take, length-drop) (omega arith) in
    rw (set-append_left (map f l) (zeros (column_size - length l)) at (f e) m, set_split (map f l) at (f e) m, n, map-append, take-map, drop-map)

pub column_shut : (f : Entry → ℕ) (l : List Entry) (k : ℕ) → k ≤ length l → length l ≤ column_size → slots_shut (length l) k (column f l) ≡ column f (drop k l)
unfolding slots_shut column
column_shut f l k h j =
    let m : length (map f l) ≡ length l = length-map l f in
    let a : k ≤ length (map f l) = omega arith in
    let d : length (drop k (map f l)) ≡ length l - k = simp length-drop (omega arith) in
    let n : k + (column_size - length l) ≡ column_size - length (drop k l) = simp length-drop (omega arith) in
    rw (drop-append-le k (map f l) (zeros (column_size - length l)) a, take_at (drop k (map f l)) (zeros (column_size - length l)) (length l - k) d, drop_at (map f l) (zeros (column_size - length l)) (length l) m, zeros_append, n, drop-map)

-- the record of a state is laid out so, and what is laid out so is its record
abbrev pub Kept : List ℕ → Proxy → Type 0
Kept w s =
    Laid w s.base (length s.tracked) s.last s.time (column number_in s.tracked) (column kind_in s.tracked) (column time_in s.tracked)

pub kept_of : (s : Proxy) (w : List ℕ) → length s.tracked ≤ column_size → w ≡ proxy_words s → Kept w s
unfolding proxy_words
kept_of s w h e =
    record {
      is = e;
      first = length_column number_in s.tracked h;
      second = length_column kind_in s.tracked h;
      third = length_column time_in s.tracked h;
    }

pub good_kept : (m : ℕ) (w : List ℕ) → m ≤ column_size → GoodProxyUpTo m w → Kept w (proxy_of w)
good_kept m w h g = kept_of (proxy_of w) w (omega (arith, g.ok.few)) g.made

pub of_laid : (s : Proxy) {w : List ℕ} {b n l t : ℕ} {x y z : List ℕ} → Laid w b n l t x y z → b ≡ s.base → n ≡ length s.tracked → l ≡ s.last → t ≡ s.time
    → x ≡ column number_in s.tracked → y ≡ column kind_in s.tracked → z ≡ column time_in s.tracked → w ≡ proxy_words s
unfolding proxy_words
of_laid s d b n l t x y z = d.is ∙ (λ i. proxy_layout (b i) (n i) (l i) (t i) (x i) (y i) (z i))

-- a row
pub mark_same : (m : Mark) → mark_of (kind_of m) (time_of m) ≡ m
mark_same NotAvailable = refl
mark_same (Received t) = refl

at_part : (w : List ℕ) (a i : ℕ) (x : List ℕ) → take column_size (drop a w) ≡ x → i < column_size → get_or w (a + i) 0 ≡ get_or x i 0
at_part w a i x e h = sym (get_or-drop a w i 0) ∙ sym (get_or-take column_size (drop a w) i 0 h) ∙ ap (λ (m : List ℕ). get_or m i 0) e

row_of_lem : (s : Proxy) (w : List ℕ) (i : ℕ) → Kept w s → length s.tracked ≤ column_size → i < length s.tracked → entry_at w i ≡ get_or s.tracked i blank_entry
unfolding entry_at
row_of_lem s w i d h k =
    let p : i < column_size = omega arith in
    let e = get_or s.tracked i blank_entry in
    let a : get_or w (numbers_at + i) 0 ≡ e.number = at_part w numbers_at i _ (numbers_of d) p ∙ column_get number_in s.tracked i refl k in
    let b : get_or w (kinds_at + i) 0 ≡ kind_of e.mark = at_part w kinds_at i _ (kinds_of d) p ∙ column_get kind_in s.tracked i refl k in
    let c : get_or w (times_at + i) 0 ≡ time_of e.mark = at_part w times_at i _ (times_of d) p ∙ column_get time_in s.tracked i refl k in
    rw (a, b, c) (λ j. record { number = e.number; mark = mark_same e.mark j })

-- an entry, by its three words
pub row_is : (m i : ℕ) (w : List ℕ) → m ≤ column_size → GoodProxyUpTo m w → i < length (tracked_in w) → entry_at w i ≡ get_or (tracked_in w) i blank_entry
row_is m i w h g k = row_of_lem (proxy_of w) w i (good_kept m w h g) (omega (arith, g.ok.few)) k

pub number_is : (m i : ℕ) (w : List ℕ) → m ≤ column_size → GoodProxyUpTo m w → i < length (tracked_in w)
    → get_or w (numbers_at + i) 0 ≡ (get_or (tracked_in w) i blank_entry).number
unfolding entry_at
number_is m i w h g k = ap (λ (e : Entry). e.number) (row_is m i w h g k)

rows_of_lem : (w : List ℕ) (i : ℕ) (l : List Entry) → ((j : ℕ) → j < length l → entry_at w (i + j) ≡ get_or l j blank_entry) → entries_from (length l) i w ≡ l
unfolding entries_from
rows_of_lem w i [] h = refl
rows_of_lem w i (x ∷ l) h =
    let a : entry_at w i ≡ x = rw add-zero at (h 0 (omega arith)) in
    let b : entries_from (length l) (suc i) w ≡ l =
    rows_of_lem w (suc i) l (λ j k. let e : suc i + j ≡ i + suc j = omega arith in rw e (h (suc j) (omega arith))) in
    λ j. a j ∷ b j

-- what a record means
pub state_of : (s : Proxy) (w : List ℕ) → length s.tracked ≤ column_size → w ≡ proxy_words s → proxy_of w ≡ s
unfolding proxy_of
state_of s w h e =
    let d = kept_of s w h e in
    let r : entries_from (get_or w 1 0) 0 w ≡ s.tracked =
    rw (count_at d) (rows_of_lem w 0 s.tracked (λ j k. let z : 0 + j ≡ j = omega arith in rw z (row_of_lem s w j d h k))) in
    λ i. record { base = base_at d i; tracked = r i; last = last_at d i; time = time_at d i }

pub good_is : (m : ℕ) (w : List ℕ) (s : Proxy) → m ≤ column_size → ProxyRules m s → w ≡ proxy_words s → GoodProxyUpTo m w
good_is m w s h k e =
    let z : proxy_of w ≡ s = state_of s w (omega (arith, k.few)) e in
    let d = kept_of s w (omega (arith, k.few)) e in
    record {
      made = e ∙ ap proxy_words (sym z);
      whole = laid_length d;
      count = count_at d ∙ ap (λ (x : Proxy). length x.tracked) (sym z);
      ok = subst (λ (x : Proxy). ProxyRules m x) (sym z) k;
    }
