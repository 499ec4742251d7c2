-- `drucenal::assembler::drucenal_assembler_view` meets its contract: the length and the start of the part from below.
-- Assumes nothing.
use Rattle.drucenal.proofs.AssemblerLaws.{views_out}
use Rattle.drucenal.proofs.assembler.drucenal_assembler_view.Goals as goal

pub returns : goal.returns
returns c =
    let x = c.args in
    views_out x.words.now x.area.now x.place x.length c.view_start.result c.view.result.now c.view.ensures c.view_start.ensures
