use Rattle.fx_io.proofs.FaultLines.{one_line}
use Rattle.mdl_text.specs.Prefix.{IsMdl}
use Rattle.mdl_text.proofs.reading.one_fault_line.Goals as goal

pub returns : goal.returns
returns c = one_line IsMdl
