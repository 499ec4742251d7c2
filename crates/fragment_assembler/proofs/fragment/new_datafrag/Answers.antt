-- `fragment_assembler::fragment::new_datafrag` meets its contract: a row refuses the call, or it is taken under its number. Assumes nothing.
use mathlib.Core.Path.{◌∙◌}
use Rattle.std.proofs.lemmas.Result.{err_from_is_err_and}
use Rattle.fragment_assembler.proofs.DoesLaws.{admitted, does_as, does_refused}
use Rattle.fragment_assembler.proofs.RefusalLaws.{number_same}
use Rattle.fragment_assembler.proofs.fragment.new_datafrag.Goals as goal

pub returns-in_err-n : goal.returns-in_err-n
returns-in_err-n c =
    let x = c.args in
    let p = err_from_is_err_and c.from_residual.result c.from_residual.ensures.1 in
    rw (p.1, p.2)
    (does_as x.t.now x.area.now x.time x.frag _ _ _ (number_same x.number c.ranges.number) (does_refused x.t.now x.area.now _ c.requires _ c.in_err-n.ensures.refused))

pub take_frags-requires : goal.take_frags-requires
take_frags-requires c =
    let x = c.args in
    admitted x.t.now x.area.now x.time x.frag _ c.requires c.in_ok-n.ensures.place.0 c.in_ok-n.ensures.refused c.in_ok-n.ensures.place.1

pub returns : goal.returns
returns c =
    let x = c.args in
    does_as x.t.now x.area.now x.time x.frag _ _ _ (c.in_ok-n.ensures.place.0 ∙ number_same x.number c.ranges.number) c.take_frags.ensures
