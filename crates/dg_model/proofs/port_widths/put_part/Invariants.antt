use Rattle.std.proofs.Common.{◌≡◌, ◌++◌, take}
use Rattle.dg_model.proofs.port_widths.put_part.Given as goal

abbrev pub invariant-loop-width : goal.invariant-loop-width
invariant-loop-width l = l.all ≡ l.fn.all ++ take l.width-index l.part
