use Rattle.std.proofs.Common.{sym, subst, ◌≡◌, ◌++◌, ◌+◌, ℕ, List, filter_map, length, ap, ◌∙◌, arith}
use Rattle.std.specs.List.{position, flat_map}
use Rattle.math_list.specs.Numbers.{numbers_from}
use Rattle.dg_model.specs.declared.diagram.Block.{Block}
use Rattle.dg_model.specs.declared.diagram.Diagram.{Diagram}
use Rattle.dg_model.specs.Attributes.{attributes_of}
use Rattle.dg_model.specs.RootElements.{RootElement, has_number, number_in, elements_of_port}
use Rattle.dg_model.specs.Wired.{AreNumbered}
use Rattle.dg_tables.specs.declared.roots.Root.{Root}
use Rattle.dg_tables.specs.Roots.{roots_of}
use Rattle.dg_tables.specs.inner.Ports.{root_on, width_on}
use Rattle.dg_tables.proofs.RootPorts.{numbered_on}
use Rattle.dg_tables.proofs.RootElements.{filtered_at_most, roots_more}
use Rattle.dg_tables.proofs.roots.roots_on.Goals as goal
use Rattle.dg_tables.proofs.roots.roots_on.Goals.{After-as_slice-blocks, In_ok-ports}

blocks_are : (c : After-as_slice-blocks) → c.as_slice-blocks.result.now ≡ c.args.checked.now.diagram.blocks
blocks_are c = c.as_slice-blocks.ensures ∙ ap (λ (d : Diagram). d.blocks) c.diagram.ensures

all_ports : (c : In_ok-ports) → length c.in_ok-ports.ports.items ≡ length (filter_map (number_in (root_on c.args.side)) c.args.checked.now.diagram.blocks)
all_ports c = c.in_ok-ports.ensures.size
    ∙ ap (λ (xs : List Block). length (filter_map (number_in (root_on c.args.side)) xs))
    (c.as_slice-blocks.ensures ∙ ap (λ (d : Diagram). d.blocks) c.diagram.ensures)

pub loop-i-preserved : goal.loop-i-preserved
loop-i-preserved c =
    let diagram = c.args.checked.now.diagram in
    let side = c.args.side in
    let part : ℕ → List RootElement = λ number. elements_of_port (attributes_of diagram)
    (width_on diagram (attributes_of diagram) side) number
    (position (has_number (root_on side) number) diagram.blocks) in
    roots_more part c.loop-i.i c.put_port_on.new.roots (c.in_ok-put_port_on.ensures ∙ ap (λ (xs : List Root). xs ++ roots_of (part (c.loop-i.i + 1))) c.loop-i.invariant)

pub returns : goal.returns
returns c =
    let diagram = c.args.checked.now.diagram in
    let side = c.args.side in
    let part : ℕ → List RootElement = λ number. elements_of_port (attributes_of diagram)
    (width_on diagram (attributes_of diagram) side) number
    (position (has_number (root_on side) number) diagram.blocks) in
    let last : c.loop-i.i ≡ length c.in_ok-ports.ports.items = omega arith in
    c.loop-i.invariant ∙ ap (λ (n : ℕ). roots_of (flat_map part (numbers_from 1 n))) (last ∙ all_ports (goal.at.returns c).In_ok-ports)

pub ports_on-requires-clause-ports : goal.ports_on-requires-clause-ports
ports_on-requires-clause-ports c =
    subst (λ (list : List Block). AreNumbered (filter_map (number_in (root_on c.args.side)) list))
    (sym (blocks_are c))
    (numbered_on c.args.checked.now.diagram c.keeps_rules.ensures.checked.wired c.args.side)

pub put_port_on-requires-clause-number : goal.put_port_on-requires-clause-number
put_port_on-requires-clause-number c = (omega arith, omega (arith, all_ports (goal.at.put_port_on-requires-clause-number c).In_ok-ports))

pub overflow_cast-i-end : goal.overflow_cast-i-end
overflow_cast-i-end c =
    let many = ap (λ (xs : List Block). length xs) (blocks_are (goal.at.overflow_cast-i-end c).After-as_slice-blocks) in
    let few = filtered_at_most (number_in (root_on c.args.side)) c.as_slice-blocks.result.now in
    record { fits = omega (arith, c.in_ok-ports.ensures.size, few, many, c.keeps_rules.ensures.checked.wired.size) }
