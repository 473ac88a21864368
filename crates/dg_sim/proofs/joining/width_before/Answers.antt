use Rattle.std.proofs.Common.{◌≡◌, ◌-◌, ◌+◌, ◌<◌, ℕ, map, sum, ap, ◌∙◌, arith}
use Rattle.math_list.specs.Numbers.{numbers_from}
use Rattle.dg_model.specs.Attributes.{attributes_of}
use Rattle.math_list.proofs.Sums.{sum_before, sum_last}
use Rattle.dg_sim.proofs.joining.width_before.Goals as goal

pub loop-i-init : goal.loop-i-init
loop-i-init c = c.start_cursor-start.ensures.sums (attributes_of c.args.checked.now.diagram).width_at c.requires.out

pub loop-i-preserved : goal.loop-i-preserved
loop-i-preserved c =
    let diagram = c.args.checked.now.diagram in
    omega (arith, c.loop-i.invariant, sum_last ((attributes_of diagram).width_at c.args.block) c.loop-i.i, c.width_of_output-total.ensures)

pub returns : goal.returns
returns c =
    let f = (attributes_of c.args.checked.now.diagram).width_at c.args.block in
    let last : c.loop-i.i ≡ c.args.port - 1 = omega (arith, c.start_cursor-start.ensures.ports) in
    c.loop-i.invariant ∙ ap (λ (n : ℕ). sum (map f (numbers_from 1 n))) last

pub overflow_add-total : goal.overflow_add-total
overflow_add-total c =
    let b = c.requires.block in
    let f = (attributes_of c.args.checked.now.diagram).width_at c.args.block in
    let i : ℕ = c.loop-i.i in
    let to = b.2 in
    let few = b.3 in
    let next : 1 + i ≡ i + 1 = omega arith in
    let same : f (1 + i) ≡ f (i + 1) = ap f next in
    let within : i < b.0.outputs = omega (arith, to, c.loop-i-test.true) in
    record { fits = omega (arith, c.loop-i.invariant, c.width_of_output-total.ensures, same, sum_before f 1 b.0.outputs i within, few) }
