-- What stands in an area after bytes were put into it, byte by byte. Assumes nothing.
use Prim.Native.Nat.{ℕ, ◌+◌, ◌-◌, ◌≤◌, ◌<◌}
use native.Mathlib.Omega.{arith}
use mathlib.Core.Path.{◌≡◌, sym, ap, ◌∙◌}
use mathlib.Core.List.{List, ◌++◌}
use lib.ListN.{length, get_or, take, drop, get_or-append}
use lib.Seq.{paste, length_paste_head, length-take-le, get_or-take, get_or-drop, get_or-append-add}

module _ (d : List ℕ) (i : ℕ) (s : List ℕ) (n : ℕ) (hd : i + n ≤ length d) (hs : n ≤ length s) where
  private_head : length (take i d ++ take n s) ≡ i + n
  private_head = length_paste_head d i s n (omega arith) hs

  pub paste_left : (j : ℕ) → j < i → get_or (paste d i s n) j 0 ≡ get_or d j 0
  paste_left j h =
      get_or-append (take i d ++ take n s) (drop (i + n) d) 0 j (omega (arith, private_head))
      ∙ get_or-append (take i d) (take n s) 0 j (omega (arith, length-take-le i d (omega arith)))
      ∙ get_or-take i d j 0 h

  pub paste_in : (j : ℕ) → j < n → get_or (paste d i s n) (i + j) 0 ≡ get_or s j 0
  paste_in j h =
      get_or-append (take i d ++ take n s) (drop (i + n) d) 0 (i + j) (omega (arith, private_head))
      ∙ ap (λ (k : ℕ). get_or (take i d ++ take n s) (k + j) 0) (sym (length-take-le i d (omega arith)))
      ∙ get_or-append-add (take i d) (take n s) j 0
      ∙ get_or-take n s j 0 h

  pub paste_right : (j : ℕ) → i + n ≤ j → get_or (paste d i s n) j 0 ≡ get_or d j 0
  paste_right j h =
      ap (λ (k : ℕ). get_or (paste d i s n) k 0) e
      ∙ get_or-append-add (take i d ++ take n s) (drop (i + n) d) (j - (i + n)) 0
      ∙ get_or-drop (i + n) d (j - (i + n)) 0
      ∙ ap (λ (k : ℕ). get_or d k 0) (omega arith)
    where
      e : j ≡ length (take i d ++ take n s) + (j - (i + n))
      e = omega (arith, private_head)
