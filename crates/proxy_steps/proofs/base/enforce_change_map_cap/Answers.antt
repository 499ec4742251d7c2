-- `proxy_steps::base::enforce_change_map_cap` meets its contract: 257 are tracked at most, so one step is enough. Assumes nothing.
use native.Mathlib.Omega.{arith}
use Rattle.proxy_steps.proofs.BaseLaws.{cap_none, cap_one}
use Rattle.proxy_steps.proofs.base.enforce_change_map_cap.Goals as goal

pub returns-then-t : goal.returns-then-t
returns-then-t c = cap_none _ c.requires (omega (arith, c.if-t.true))

pub returns : goal.returns
returns c = cap_one _ c.requires _ _ _ c.if-t.false c.number_at.ensures c.max-new.ensures c.shut_rows.ensures
