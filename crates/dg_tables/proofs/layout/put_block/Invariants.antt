use Rattle.std.proofs.Common.{◌≡◌}
use Rattle.dg_model.specs.Attributes.{attributes_of}
use Rattle.dg_tables.specs.inner.Layout.{ArePut}
use Rattle.dg_tables.proofs.layout.put_block.Given as goal

abbrev pub invariant-loop-i : goal.invariant-loop-i
invariant-loop-i l = record {
  lines : l.starts.lines.items ≡ l.initial.starts.lines.items;
  ports : l.starts.ports.items ≡ l.initial.starts.ports.items;
  put : ArePut l.checked.diagram (attributes_of l.checked.diagram) l.block l.one l.i l.initial.starts.entries.items l.initial.places l.starts.entries.items l.places;
}
