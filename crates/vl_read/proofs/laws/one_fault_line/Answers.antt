use Rattle.fx_io.proofs.FaultLines.{one_line}
use Rattle.vl_read.specs.Prefix.{IsVerilog}
use Rattle.vl_read.proofs.laws.one_fault_line.Goals as goal

pub returns : goal.returns
returns c = one_line IsVerilog
