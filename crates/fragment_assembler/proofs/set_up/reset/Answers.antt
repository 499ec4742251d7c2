-- `fragment_assembler::set_up::reset` meets its contract: zeros with the three words stored over them. Assumes nothing.
use borrow.Author.Rules.{rules}
use Rattle.fragment_assembler.proofs.SetUpLaws.{reset_words}
use Rattle.fragment_assembler.proofs.set_up.reset.Goals as goal

pub returns : goal.returns
returns c =
    let x = c.args in
    reset_words _ x.fragment_size x.place_size x.reliable c.fill.new.self c.requires (search rules)
