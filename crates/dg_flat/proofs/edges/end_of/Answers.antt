use Rattle.std.proofs.Common.{ℕ, ◌<◌, suc, MatchOption, option_map, sym, ap, subst, ◌∙◌}
use Rattle.std.specs.Prelude.{⊤}
use Rattle.dg_model.specs.declared.nested.NestedBlock.{NestedBlock}
use Rattle.dg_flat.specs.declared.numbering.Side.TheVariants.{In}
use Rattle.dg_flat.specs.Flat.{first_port, end_at}
use Rattle.dg_flat.specs.Parts.{is_subsystem}
use Rattle.dg_flat.proofs.Ends.{port_inner, port_own, port_with}
use Rattle.dg_flat.proofs.Positions.{found_is, found_inside}
use Rattle.dg_flat.proofs.PortReads.{read_at}
use Rattle.dg_flat.proofs.edges.end_of.Goals as goal

pub first_port-requires : goal.first_port-requires
first_port-requires c =
    let blocks = c.args.blocks.now in
    subst (λ (n : ℕ). MatchOption c.first.result ⊤ (λ place. place < n)) (sym c.requires.places.size)
    (found_inside blocks In (suc c.args.place) c.in-Port.port c.first.result c.requires.numbers (c.first.ensures blocks In c.requires.systems.ins))

pub returns-then-is_subsystem : goal.returns-then-is_subsystem
returns-then-is_subsystem c =
    let blocks = c.args.blocks.now in
    let block = c.index-blocks-place.result in
    c.first_port.ensures blocks c.requires.places
    ∙ ap (option_map (first_port blocks)) (found_is blocks In (suc c.args.place) c.in-Port.port c.first.result c.requires.numbers (c.first.ensures blocks In c.requires.systems.ins))
    ∙ sym (ap (end_at blocks c.args.place) c.in-Port.is
    ∙ port_inner blocks c.args.place c.in-Port.port In block
    (read_at blocks c.args.place block c.requires.there c.index-blocks-place.is)
    (ap (λ (b : NestedBlock). is_subsystem b.part) c.index-blocks-place.is ∙ sym c.is_subsystem.ensures
    ∙ c.if-is_subsystem.true))

pub returns-else-is_subsystem : goal.returns-else-is_subsystem
returns-else-is_subsystem c =
    let blocks = c.args.blocks.now in
    let block = c.index-blocks-place.result in
    port_with _ _ c.in-Port.port (c.requires.places.at c.args.place 0 c.requires.there)
    ∙ sym (ap (end_at blocks c.args.place) c.in-Port.is
    ∙ port_own blocks c.args.place c.in-Port.port In block
    (read_at blocks c.args.place block c.requires.there c.index-blocks-place.is)
    (ap (λ (b : NestedBlock). is_subsystem b.part) c.index-blocks-place.is ∙ sym c.is_subsystem.ensures
    ∙ c.if-is_subsystem.false))
