use Rattle.set_words.proofs.SetWordsLaws.{bytes_more}
use Rattle.sequence_number.specs.Word.{word_bytes}
use Rattle.std.proofs.lemmas.List.{get_or-take}
use native.Mathlib.Omega.{arith}
use lib.Seq.{sets}
use lib.ListN.{length-take}
use mathlib.Core.Path.{ap, ◌∙◌}
use Prim.Native.Nat.{ℕ, ◌+◌, ◌*◌}
use Rattle.set_words.proofs.write_words.Goals as goal

pub loop-i-preserved : goal.loop-i-preserved
loop-i-preserved c =
    let l = c.loop-i in
    let a = c.args in
    let m = length-take a.n a.words in
    bytes_more a.o a.words a.at l.i a.out.now l.out c.write_word.new.out l.invariant
    (c.write_word.ensures ∙ ap (λ (w : ℕ). sets l.out (a.at + 4 * l.i) (word_bytes a.o w)) (get_or-take a.n a.words l.i 0 (omega arith)))
