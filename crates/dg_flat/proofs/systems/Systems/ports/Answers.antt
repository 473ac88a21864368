use Rattle.std.proofs.Common.{ap, sym, ◌∙◌, arith}
use Rattle.dg_model.specs.declared.nested.NestedBlock.{NestedBlock}
use Rattle.dg_flat.specs.declared.numbering.Side.{Side}
use Rattle.dg_flat.specs.declared.numbering.Side.TheVariants.{In, Out}
use Rattle.dg_flat.specs.Parts.{is_subsystem}
use Rattle.dg_flat.specs.inner.Ports.{ports_at, ports_of}
use Rattle.dg_flat.proofs.PortReads.{ports_read, ports_inside}
use Rattle.dg_flat.proofs.systems.Systems.ports.Goals as goal

pub returns-in-Some : goal.returns-in-Some
returns-in-Some c =
    let blocks = c.args.blocks.now in
    let own = rw c.in-Some.is at (c.own_ports.ensures blocks c.args.place) in
    own ∙ ap (λ (b : NestedBlock). ports_of blocks c.args.side c.args.place b.part) (sym c.index-blocks-place.is)
    ∙ ports_read blocks c.args.side c.args.place c.index-blocks-place.result c.requires.there
    c.index-blocks-place.is

pub returns-in-In : goal.returns-in-In
returns-in-In c =
    let blocks = c.args.blocks.now in
    let such = ap (λ (b : NestedBlock). is_subsystem b.part) c.index-blocks-place.is ∙ rw c.in-None.is at (c.own_ports.ensures blocks c.args.place) in
    c.count.ensures blocks In c.requires.systems.ins ∙ ports_inside blocks In c.args.place _ such
    ∙ ports_read blocks In c.args.place c.index-blocks-place.result c.requires.there c.index-blocks-place.is ∙ ap (λ (side : Side). ports_at blocks side c.args.place) (sym c.in-In.is)

pub returns-in-Out : goal.returns-in-Out
returns-in-Out c =
    let blocks = c.args.blocks.now in
    let such = ap (λ (b : NestedBlock). is_subsystem b.part) c.index-blocks-place.is ∙ rw c.in-None.is at (c.own_ports.ensures blocks c.args.place) in
    c.count-in-Out.ensures blocks Out c.requires.systems.outs ∙ ports_inside blocks Out c.args.place _ such
    ∙ ports_read blocks Out c.args.place c.index-blocks-place.result c.requires.there c.index-blocks-place.is ∙ ap (λ (side : Side). ports_at blocks side c.args.place) (sym c.in-Out.is)

pub count-requires : goal.count-requires
count-requires c = omega (arith, c.requires.there, c.requires.systems.ins.counts.size)

pub count-requires-in-Out : goal.count-requires-in-Out
count-requires-in-Out c = omega (arith, c.requires.there, c.requires.systems.outs.counts.size)
