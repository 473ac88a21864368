use Rattle.std.proofs.Common.{◌≡◌, length, take}
use Rattle.dg_model.specs.inner.Flat.{parts_of, AreStarts}
use Rattle.dg_model.proofs.port_widths.PortWidths.of.Given as goal

abbrev pub invariant-loop-part : goal.invariant-loop-part
invariant-loop-part l = record {
  parts : parts_of l.starts l.all ≡ take l.part-index l.lists;
  starts : AreStarts l.starts (length l.all);
}
