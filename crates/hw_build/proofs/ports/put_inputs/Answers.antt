use Rattle.std.proofs.Common.{◌≡◌, ℕ, ◌-◌, ◌<◌, [], length, sym, subst, arith}
use Rattle.std.specs.Prelude.{slice_index_or}
use Rattle.dg_model.specs.Attributes.{attributes_of}
use Rattle.dg_model.specs.Widths.{width_at}
use Rattle.hw_build.specs.inner.HubPlaces.{hub_at}
use Rattle.hw_build.specs.inner.PortSteps.{IsPortOf}
use Rattle.hw_build.proofs.PortSteps.{input_ports_more, column_of}
use Rattle.hw_build.proofs.ports.put_inputs.Goals as goal

pub at-requires-clause-there : goal.at-requires-clause-there
at-requires-clause-there c =
    let column = column_of c.args.checked.now.diagram c.args.inputs.now c.loop-column.column
    c.keeps_rules.ensures.checked c.root_elements_are_listed.ensures.inputs c.requires.are
    c.loop-column-test.true in
    subst (λ (b : ℕ). 0 < length (slice_index_or c.args.firsts.now b [])) column.block_is (c.requires.firsts.there c.loop-column.column column.e column.at)

pub overflow_sub-element : goal.overflow_sub-element
overflow_sub-element c =
    let k : ℕ = c.loop-column.column in
    let column = column_of c.args.checked.now.diagram c.args.inputs.now k c.keeps_rules.ensures.checked c.root_elements_are_listed.ensures.inputs c.requires.are c.loop-column-test.true in
    let here : hub_at c.args.firsts.now (slice_index_or c.args.inputs.now k 0) 1 column.e.element ≡ k =
    subst (λ (b : ℕ). hub_at c.args.firsts.now b 1 column.e.element ≡ k) column.block_is
    (c.requires.firsts.at k column.e column.at) in
    let first : c.at.result ≡ width_at c.args.firsts.now (slice_index_or c.args.inputs.now k 0) 1 = c.at.ensures in
    let number : c.in-Ok.number ≡ k = c.in-Ok.ensures.1 in
    omega (arith, here, first, number)

pub own_width-width-requires : goal.own_width-width-requires
own_width-width-requires c =
    let column = column_of c.args.checked.now.diagram c.args.inputs.now c.loop-column.column
    c.keeps_rules.ensures.checked c.root_elements_are_listed.ensures.inputs c.requires.are
    c.loop-column-test.true in
    record { there = subst (λ (b : ℕ). b < length c.args.checked.now.diagram.blocks) column.block_is column.there }

pub port_of-requires : goal.port_of-requires
port_of-requires c =
    let column = column_of c.args.checked.now.diagram c.args.inputs.now c.loop-column.column
    c.keeps_rules.ensures.checked c.root_elements_are_listed.ensures.inputs c.requires.are
    c.loop-column-test.true in
    subst (λ (b : ℕ). b < length c.args.checked.now.diagram.blocks) column.block_is column.there

pub loop-column-preserved : goal.loop-column-preserved
loop-column-preserved c =
    let diagram = c.args.checked.now.diagram in
    let k : ℕ = c.loop-column.column in
    let old = c.loop-column.names in
    let new = c.port_of.new.names in
    let port = c.in_ok-port.port in
    let block : ℕ = slice_index_or c.args.inputs.now k 0 in
    let element : ℕ = c.in-Ok.number - c.at.result in
    let column = column_of diagram c.args.inputs.now k c.keeps_rules.ensures.checked c.root_elements_are_listed.ensures.inputs c.requires.are c.loop-column-test.true in
    let here : hub_at c.args.firsts.now block 1 column.e.element ≡ k =
    subst (λ (b : ℕ). hub_at c.args.firsts.now b 1 column.e.element ≡ k) column.block_is
    (c.requires.firsts.at k column.e column.at) in
    let first : c.at.result ≡ width_at c.args.firsts.now block 1 = c.at.ensures in
    let number : c.in-Ok.number ≡ k = c.in-Ok.ensures.1 in
    let element_is : element ≡ column.e.element = omega (arith, here, first, number) in
    let width : c.own_width-width.result ≡ (attributes_of diagram).width_at block 1 = c.own_width-width.ensures in
    let one : IsPortOf diagram old new block c.own_width-width.result element k 0 port =
    subst (λ (n : ℕ). IsPortOf diagram old new block c.own_width-width.result element n 0 port) number
    c.in_ok-port.ensures in
    let two : IsPortOf diagram old new block ((attributes_of diagram).width_at block 1) element k 0 port = subst (λ (w : ℕ). IsPortOf diagram old new block w element k 0 port) width one in
    let three : IsPortOf diagram old new column.e.block
    ((attributes_of diagram).width_at column.e.block 1) element k 0 port =
    subst (λ (b : ℕ). IsPortOf diagram old new b ((attributes_of diagram).width_at b 1) element k 0 port)
    (sym column.block_is) two in
    input_ports_more diagram c.args.names.now old new c.args.net.now c.loop-column.net c.add_input.new.self k
    element column.e port c.loop-column.invariant column.at element_is column.period_is three
    c.in_ok-add_input.ensures.grown
