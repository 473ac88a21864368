use Rattle.std.proofs.Common.{◌-◌, sym}
use Rattle.dg_model.proofs.Flat.{item_at, block_within}
use Rattle.dg_model.proofs.port_widths.PortWidths.at.Goals as goal

-- src/port_widths.rt:76:21
pub bounds-as_slice-block : goal.bounds-as_slice-block
bounds-as_slice-block c = rw c.as_slice.ensures (block_within _ _ c.args.block (c.args.port - 1) (rw (← c.self.view_is) at c.requires.there))

-- src/port_widths.rt:77:9
pub bounds-as_slice-start : goal.bounds-as_slice-start
bounds-as_slice-start c = rw (c.as_slice.ensures, c.as_slice-2.ensures) (item_at _ _ c.args.block (c.args.port - 1) c.self.invariant (rw (← c.self.view_is) at c.requires.there)).0

-- src/port_widths.rt:71:5
pub returns : goal.returns
returns c = rw (c.as_slice.ensures, c.as_slice-2.ensures, ← c.self.view_is) (sym (item_at _ _ c.args.block (c.args.port - 1) c.self.invariant (rw (← c.self.view_is) at c.requires.there)).1)
