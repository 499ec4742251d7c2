use Rattle.std.proofs.Common.{◌≡◌, ℕ, ◌+◌, ◌-◌, ◌≤◌, ◌<◌, ◌*◌, true, List, length, get_or, take, drop, ◌∙◌, ap, arith, add-one, length-take, get_or-take, get_or-drop}
use Rattle.std.specs.Prelude.{Option, Some, SomeIff}
use Rattle.std.specs.Char.{digit_value}
use Rattle.line_text.specs.Hex.{digit_of, all_hex, value_at}
use Rattle.line_text.proofs.HexLaws.{digit_has_value, value_is_digit, hex_at, value_none, value_more, value_fits}
use Rattle.line_text.proofs.hex.value_at.Goals as goal
use Rattle.line_text.proofs.hex.value_at.Goals.{After-unwrap-digit}

-- a byte that the loop is at, and the number with its digit
module _ (s : List ℕ) (at n i b : ℕ) (hex : all_hex s ≡ true) (within : at + n ≤ length s) (few : n ≤ 16)
    (inside : i < length (take (at + n - at) (drop at s))) (e : b ≡ get_or (take (at + n - at) (drop at s)) i 0) where
  i_below : i < n
  i_below = omega (arith, length-take (at + n - at) (drop at s))

  b_is : b ≡ get_or s (at + i) 0
  b_is = let h : i < at + n - at = omega (arith, i_below) in e ∙ rw (get_or-take, get_or-drop)

  reads : digit_value b < 16
  reads = digit_has_value b (rw b_is (hex_at s (at + i) hex (omega (arith, i_below))))

  module _ (v d : ℕ) (o : Option ℕ) (so_far : v ≡ value_at s at i) (told : SomeIff o (digit_value b < 16) (digit_value b)) (some : o ≡ Some d) where
    goes_on : (v * 16 + d ≡ value_at s at (i + 1)) × (v * 16 + d < 18446744073709551616)
    goes_on =
        let p = rw some at told in
        let q : d ≡ digit_of (get_or s (at + i) 0) = p.1 ∙ value_is_digit b reads ∙ ap digit_of b_is in
        let r : v * 16 + d ≡ value_at s at (i + 1) = rw add-one (rw value_more (cc)) in
        (r, omega (arith, r, value_fits s at (i + 1) hex (omega (arith, i_below)) (omega (arith, i_below))))

pub loop-c-init : goal.loop-c-init
loop-c-init c = value_none _ _

pub unwrap-digit-requires : goal.unwrap-digit-requires
unwrap-digit-requires c = c.to_digit.ensures.succeeds (reads c.args.s.now c.args.at c.args.n c.loop-c.c-index _ c.requires.2 c.requires.0 c.requires.1 c.loop-c-test.true c.from.ensures)

-- the same of the loop's byte
digit_on : (c : After-unwrap-digit) → let v = c.loop-c.v * 16 + c.unwrap-digit.result in (v ≡ value_at c.args.s.now c.args.at (c.loop-c.c-index + 1)) × (v < 18446744073709551616)
digit_on c =
    let p = c.requires in
    goes_on c.args.s.now c.args.at c.args.n c.loop-c.c-index _ p.2 p.0 p.1 c.loop-c-test.true c.from.ensures _ _ _ c.loop-c.invariant c.to_digit.ensures.value c.unwrap-digit.ensures

pub overflow_mul-v : goal.overflow_mul-v
overflow_mul-v c = let h = digit_on (goal.at.overflow_mul-v c).After-unwrap-digit in omega arith

pub overflow_add-v : goal.overflow_add-v
overflow_add-v c = let h = digit_on (goal.at.overflow_add-v c).After-unwrap-digit in omega arith

pub loop-c-preserved : goal.loop-c-preserved
loop-c-preserved c = rw c.from-in-loop-c.ensures (digit_on (goal.at.loop-c-preserved c).After-unwrap-digit).0
