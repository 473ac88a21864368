use Rattle.vl_ast.proofs.ClockEnable.{opened-acyclic}
use Rattle.vl_ast.proofs.ClockEnableRuns.{are-counted, opened-clocked, opened-stallable}
use Rattle.vl_ast.proofs.ClockEnableSound.{opened-breaks-none}
use Rattle.vl_ast.proofs.laws.opened_modules.Goals as goal

pub returns-clause-acyclic : goal.returns-clause-acyclic
returns-clause-acyclic c = opened-acyclic

pub returns-clause-clocked : goal.returns-clause-clocked
returns-clause-clocked c m o small fresh opened = opened-clocked m o opened small fresh

pub returns-clause-stallable : goal.returns-clause-stallable
returns-clause-stallable c = opened-stallable

pub returns-clause-rows : goal.returns-clause-rows
returns-clause-rows c m o window start inputs rows small fresh opened clocked = are-counted m o opened small fresh c.meaning_by_layer.ensures.value clocked window start inputs rows

pub returns-clause-conditions : goal.returns-clause-conditions
returns-clause-conditions c = opened-breaks-none c.meaning_by_layer.ensures.value
