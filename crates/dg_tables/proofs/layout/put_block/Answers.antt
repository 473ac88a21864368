use Rattle.std.proofs.Common.{◌≡◌, ◌≤◌, ◌+◌, ℕ, List, length, refl, ap, subst, ◌∙◌, arith}
use Rattle.std.specs.Prelude.{slice_set}
use Rattle.dg_model.specs.Attributes.{attributes_of}
use Rattle.dg_model.specs.Solves.{shown_ports}
use Rattle.dg_tables.specs.inner.Layout.{ArePut}
use Rattle.dg_tables.proofs.EntryLayout.{put_none, put_more}
use Rattle.dg_tables.proofs.layout.put_block.Goals as goal

pub loop-i-preserved : goal.loop-i-preserved
loop-i-preserved c =
    let diagram = c.args.checked.now.diagram in
    let inv = c.loop-i.invariant in
    let new = c.in_ok-put_port.ensures in
    let one = c.args.one.now in
    let ports : c.ports_shown-i-end.result ≡ shown_ports one.kind one.outputs = c.ports_shown-i-end.ensures in
    let end : c.loop-i.i + 1 ≤ shown_ports one.kind one.outputs = omega (arith, c.loop-i-test.true, ports) in
    record {
      lines = new.lines ∙ inv.lines;
      ports = new.ports ∙ inv.ports;
      put = put_more diagram (attributes_of diagram) c.args.block one c.requires.block c.loop-i.i
          c.args.starts.now.entries.items c.args.places.now c.loop-i.starts.entries.items
          c.put_port.new.starts.entries.items c.loop-i.places c.put_port.new.places end new.entries new.places
          inv.put;
    }

pub returns-clause-ports : goal.returns-clause-ports
returns-clause-ports c = c.loop-i.invariant.ports ∙ ap (λ (xs : List ℕ). slice_set c.args.starts.now.ports.items c.args.block (length xs)) c.as_slice.ensures.value

pub loop-i-init : goal.loop-i-init
loop-i-init c =
    let diagram = c.args.checked.now.diagram in
    record {
      lines = refl;
      ports = refl;
      put = put_none diagram (attributes_of diagram) c.args.block c.args.one.now c.requires.block c.args.starts.now.entries.items c.args.places.now;
    }

pub returns-clause-lines : goal.returns-clause-lines
returns-clause-lines c = c.loop-i.invariant.lines

pub returns-clause-put : goal.returns-clause-put
returns-clause-put c =
    let diagram = c.args.checked.now.diagram in
    let one = c.args.one.now in
    let all : c.loop-i.i ≡ shown_ports one.kind one.outputs = omega (arith, c.loop-i-test.false, c.loop-i.auto.i-end, c.ports_shown-i-end.ensures) in
    subst (λ (n : ℕ). ArePut diagram (attributes_of diagram) c.args.block one n c.args.starts.now.entries.items
    c.args.places.now c.loop-i.starts.entries.items c.loop-i.places) all c.loop-i.invariant.put
