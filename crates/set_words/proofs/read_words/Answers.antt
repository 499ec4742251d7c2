use Rattle.set_words.proofs.SetWordsLaws.{words_more, words_read}
use Rattle.set_words.specs.SetWords.{words_from}
use native.Mathlib.Omega.{arith}
use mathlib.Core.Path.{◌≡◌, ap, ◌∙◌}
use lib.ListN.{take}
use borrow.Author.Rules.{rules}
use lib.Seq.{sets}
use Prim.Native.Nat.{ℕ}
use Rattle.bitmap.specs.Bitmap.{zero_words}
use Rattle.set_words.proofs.read_words.Goals as goal

pub loop-i-preserved : goal.loop-i-preserved
loop-i-preserved c =
    let a = c.args in
    words_more a.o a.s.now a.at _ _ _ _ c.loop-i.invariant c.read_word.ensures

pub returns : goal.returns
returns c =
    let a = c.args in
    let e : c.loop-i.i ≡ a.n = search rules in
    words_read a.o a.s.now a.at a.n _ (omega arith)
    (c.loop-i.invariant ∙ ap (λ (k : ℕ). sets (take a.n zero_words) 0 (words_from a.o a.s.now a.at k)) e)
