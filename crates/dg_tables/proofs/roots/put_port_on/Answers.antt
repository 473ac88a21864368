use Rattle.std.proofs.Common.{◌≡◌, ◌++◌, List, OnOk, subst}
use Rattle.std.specs.List.{position}
use Rattle.dg_model.specs.Attributes.{attributes_of}
use Rattle.dg_model.specs.RootElements.{has_number}
use Rattle.dg_tables.specs.declared.roots.Root.{Root}
use Rattle.dg_tables.specs.inner.Ports.{root_on, width_on}
use Rattle.dg_tables.proofs.RootPorts.{numbered_on, port_read}
use Rattle.dg_tables.proofs.RootElements.{port_roots}
use Rattle.dg_tables.proofs.roots.put_port_on.Goals as goal

pub returns : goal.returns
returns c =
    let diagram = c.args.checked.now.diagram in
    let side = c.args.side in
    let read = port_read (root_on side) diagram.blocks (numbered_on diagram c.keeps_rules.ensures.checked.wired side) c.args.ports.now c.requires.ports c.args.number c.requires.number in
    subst (λ (elements : List Root). OnOk c.put_port.result (c.put_port.new.roots ≡ c.args.roots.now ++ elements))
    (port_roots (attributes_of diagram) (width_on diagram (attributes_of diagram) side) c.args.number _
    c.width_on-width.result
    (position (has_number (root_on side) c.args.number) diagram.blocks) read.3 c.width_on-width.ensures)
    c.put_port.ensures

pub width_on-width-requires : goal.width_on-width-requires
width_on-width-requires c =
    let diagram = c.args.checked.now.diagram in
    let read = port_read (root_on c.args.side) diagram.blocks (numbered_on diagram c.keeps_rules.ensures.checked.wired c.args.side) c.args.ports.now c.requires.ports c.args.number c.requires.number in
    record { widths = c.requires.widths; port = (read.0, c.args.number, read.1, read.2) }
