-- `proxy_steps::base::advance_ack_base` meets its contract: what is below b and the run from b on are what goes. Assumes nothing.
use native.Mathlib.Omega.{arith}
use Rattle.proxy_record.specs.Words.{tracked_in}
use Rattle.proxy_record.proofs.EntriesLaws.{rank_within}
use Rattle.proxy_record.proofs.RulesLaws.{good_more}
use Rattle.proxy_steps.proofs.BaseLaws.{advance_within, advance_fits, advanced}
use Rattle.proxy_steps.proofs.base.advance_ack_base.Goals as goal

pub run_from-r-requires : goal.run_from-r-requires
run_from-r-requires c =
    (c.requires.0, omega (arith, c.place-k.ensures, rank_within c.args.b (tracked_in c.args.t.now)), c.requires.2)

pub overflow_add-k : goal.overflow_add-k
overflow_add-k c =
    omega (arith, advance_within c.requires.0 c.args.b c.requires.2 c.place-k.ensures c.run_from-r.ensures, c.requires.0.ok.few)

pub shut_rows-requires : goal.shut_rows-requires
shut_rows-requires c =
    (good_more _ c.requires.0, omega (arith, advance_within c.requires.0 c.args.b c.requires.2 c.place-k.ensures c.run_from-r.ensures))

pub overflow_add-t : goal.overflow_add-t
overflow_add-t c =
    omega (arith, advance_fits c.requires.0 c.args.b c.requires.2 c.place-k.ensures c.run_from-r.ensures)

pub returns : goal.returns
returns c =
    advanced c.requires.0 c.args.b c.requires.2 c.place-k.ensures c.run_from-r.ensures c.shut_rows.new.t c.shut_rows.ensures
