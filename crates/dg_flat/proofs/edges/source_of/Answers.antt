use Rattle.std.proofs.Common.{ℕ, ◌<◌, suc, MatchOption, option_map, sym, ap, subst, ◌∙◌}
use Rattle.std.specs.Prelude.{⊤}
use Rattle.dg_model.specs.declared.nested.NestedBlock.{NestedBlock}
use Rattle.dg_flat.specs.declared.numbering.Side.TheVariants.{Out}
use Rattle.dg_flat.specs.Flat.{first_port}
use Rattle.dg_flat.specs.Parts.{is_subsystem}
use Rattle.dg_flat.proofs.Ends.{port_inner, port_own, port_with}
use Rattle.dg_flat.proofs.Positions.{found_is, found_inside}
use Rattle.dg_flat.proofs.PortReads.{read_at}
use Rattle.dg_flat.proofs.edges.source_of.Goals as goal

pub first_port-requires : goal.first_port-requires
first_port-requires c =
    let blocks = c.args.blocks.now in
    let line = c.args.line in
    subst (λ (n : ℕ). MatchOption c.first.result ⊤ (λ place. place < n)) (sym c.requires.places.size)
    (found_inside blocks Out (suc line.from) line.from_port c.first.result c.requires.numbers (c.first.ensures blocks Out c.requires.systems.outs))

pub returns-then-is_subsystem : goal.returns-then-is_subsystem
returns-then-is_subsystem c =
    let blocks = c.args.blocks.now in
    let line = c.args.line in
    let block = c.index-blocks-line.result in
    c.first_port.ensures blocks c.requires.places
    ∙ ap (option_map (first_port blocks)) (found_is blocks Out (suc line.from) line.from_port c.first.result c.requires.numbers (c.first.ensures blocks Out c.requires.systems.outs))
    ∙ sym (port_inner blocks line.from line.from_port Out block
    (read_at blocks line.from block c.requires.there c.index-blocks-line.is)
    (ap (λ (b : NestedBlock). is_subsystem b.part) c.index-blocks-line.is ∙ sym c.is_subsystem.ensures
    ∙ c.if-is_subsystem.true))

pub returns-else-is_subsystem : goal.returns-else-is_subsystem
returns-else-is_subsystem c =
    let blocks = c.args.blocks.now in
    let line = c.args.line in
    let block = c.index-blocks-line.result in
    port_with _ _ line.from_port (c.requires.places.at line.from 0 c.requires.there)
    ∙ sym (port_own blocks line.from line.from_port Out block
    (read_at blocks line.from block c.requires.there c.index-blocks-line.is)
    (ap (λ (b : NestedBlock). is_subsystem b.part) c.index-blocks-line.is ∙ sym c.is_subsystem.ensures
    ∙ c.if-is_subsystem.false))
