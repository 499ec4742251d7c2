-- `line_text::decimal::put_many` meets its contract: the library's digits are those of `digits`. Assumes nothing.
use Rattle.std.proofs.Common.{◌≡◌, ◌≤◌, arith, ◌++◌, length, drop, ap, ◌∙◌, length-take-le}
use Rattle.line_text.specs.Decimal.{digits}
use Rattle.line_text.proofs.DecimalLaws.{printed}
use Rattle.line_text.proofs.decimal.put_many.Goals as goal
use Rattle.line_text.proofs.decimal.put_many.Goals.{After-as_bytes-text}

text_is : (c : After-as_bytes-text) → c.as_bytes-text.result.now ≡ digits c.args.n
text_is c = c.as_bytes-text.ensures.value ∙ printed _ _ c.args.n c.format.ensures.text (omega arith) (omega arith)

fits : (c : After-as_bytes-text) → length c.as_bytes-text.result.now ≤ length c.args.out.now
fits c = omega (arith, ap length (text_is c))

pub slice_bounds-copy_from_slice-end : goal.slice_bounds-copy_from_slice-end
slice_bounds-copy_from_slice-end c = fits c

pub slice_bounds-copy_from_slice-end-2 : goal.slice_bounds-copy_from_slice-end-2
slice_bounds-copy_from_slice-end-2 c = omega (arith, length-take-le _ c.args.out.now (fits (goal.at.slice_bounds-copy_from_slice-end-2 c).After-as_bytes-text))

pub copy_from_slice-requires : goal.copy_from_slice-requires
copy_from_slice-requires c = omega (arith, length-take-le _ c.args.out.now (fits (goal.at.copy_from_slice-requires c).After-as_bytes-text))

pub returns : goal.returns
returns c =
    let e = text_is (goal.at.returns c).After-as_bytes-text in
    ((λ i. (c.copy_from_slice.ensures.after ∙ e) i ++ drop (length (e i)) c.args.out.now), ap length e)
