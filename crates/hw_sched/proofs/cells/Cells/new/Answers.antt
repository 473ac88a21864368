use Rattle.hw_sched.proofs.CellNumbers.{cells_none}
use Rattle.hw_sched.proofs.cells.Cells.new.Goals as goal

pub returns : goal.returns
returns c = λ diagram plan timing. cells_none diagram plan timing _ c.new-operations.ensures.items c.new-numbers.ensures
