use Rattle.std.proofs.Common.{◌≡◌, ◌-◌, ◌<◌, ◌^◌, ℕ, List, All, length, ap, sym, ◌∙◌, subst, refl, arith}
use Rattle.std.specs.Prelude.{slice_index_or}
use Rattle.dg_model.specs.declared.diagram.Block.{Block}
use Rattle.dg_model.specs.declared.diagram.Diagram.{Diagram}
use Rattle.hw_build.specs.inner.HubPlaces.{hub_at}
use Rattle.hw_build.proofs.PortSteps.{outputs_there, ports_none}
use Rattle.hw_build.proofs.OutputColumns.{read_at, below_columns, output_here, element_is, outputs_next}
use Rattle.hw_build.specs.inner.RootOutputs.{AddsOutputs}
use Rattle.hw_build.proofs.outputs.put_outputs.Goals as goal

pub columns_of-requires : goal.columns_of-requires
columns_of-requires c =
    let blocks : c.as_slice.result.now ≡ c.args.design.checked.now.diagram.blocks = c.as_slice.ensures ∙ ap (λ (d : Diagram). d.blocks) c.diagram.ensures in
    subst (λ (bs : List Block). All (λ block. block < length bs) c.args.outputs.now) (sym blocks)
    (outputs_there c.args.design.checked.now.diagram c.args.outputs.now
    c.requires.can.designed.scheduled.checked c.root_elements_are_listed.ensures.outputs c.requires.are)

pub index-requires : goal.index-requires
index-requires c =
    let here = output_here c.args.design c.args.firsts.now c.args.outputs.now c.in_ok-columns.columns.items
    c.loop-column.column c.requires.can.designed.scheduled.checked c.root_elements_are_listed.ensures.outputs
    c.requires.can.small c.requires.are c.requires.firsts c.in_ok-columns.ensures.least
    c.loop-column-test.true in
    let low = below_columns (slice_index_or c.args.outputs.now c.loop-column.column 0) c.in_ok-columns.columns.items
    c.as_slice.result.now c.diagram.result.now c.args.design.checked.now.diagram here.there
    c.in_ok-columns.ensures.size c.as_slice.ensures c.diagram.ensures in
    omega (arith, low)

pub overflow_cast-block : goal.overflow_cast-block
overflow_cast-block c =
    let here = output_here c.args.design c.args.firsts.now c.args.outputs.now c.in_ok-columns.columns.items
    c.loop-column.column c.requires.can.designed.scheduled.checked c.root_elements_are_listed.ensures.outputs
    c.requires.can.small c.requires.are c.requires.firsts c.in_ok-columns.ensures.least
    c.loop-column-test.true in
    record { fits = omega (arith, here.there, c.requires.can.designed.scheduled.checked.wired.size) }

pub overflow_sub-element : goal.overflow_sub-element
overflow_sub-element c =
    let here = output_here c.args.design c.args.firsts.now c.args.outputs.now c.in_ok-columns.columns.items
    c.loop-column.column c.requires.can.designed.scheduled.checked c.root_elements_are_listed.ensures.outputs
    c.requires.can.small c.requires.are c.requires.firsts c.in_ok-columns.ensures.least
    c.loop-column-test.true in
    let column = here.column_is in
    let number : c.in-Ok.number ≡ c.loop-column.column = c.in-Ok.ensures.1 in
    let first : c.index.result.now ≡ slice_index_or c.in_ok-columns.columns.items
    (slice_index_or c.args.outputs.now c.loop-column.column 0) 0 =
    read_at c.in_ok-columns.columns.items _ c.index.result.now
    (below_columns (slice_index_or c.args.outputs.now c.loop-column.column 0)
    c.in_ok-columns.columns.items c.as_slice.result.now c.diagram.result.now
    c.args.design.checked.now.diagram here.there c.in_ok-columns.ensures.size c.as_slice.ensures
    c.diagram.ensures) c.index.ensures in
    omega (arith, column, number, first)

pub output_of-requires-clause-there : goal.output_of-requires-clause-there
output_of-requires-clause-there c =
    (output_here c.args.design c.args.firsts.now c.args.outputs.now c.in_ok-columns.columns.items
    c.loop-column.column c.requires.can.designed.scheduled.checked c.root_elements_are_listed.ensures.outputs
    c.requires.can.small c.requires.are c.requires.firsts c.in_ok-columns.ensures.least
    c.loop-column-test.true).there

pub output_of-requires-clause-small : goal.output_of-requires-clause-small
output_of-requires-clause-small c =
    (output_here c.args.design c.args.firsts.now c.args.outputs.now c.in_ok-columns.columns.items
    c.loop-column.column c.requires.can.designed.scheduled.checked c.root_elements_are_listed.ensures.outputs
    c.requires.can.small c.requires.are c.requires.firsts c.in_ok-columns.ensures.least
    c.loop-column-test.true).short

pub output_of-requires-clause-first : goal.output_of-requires-clause-first
output_of-requires-clause-first c =
    (output_here c.args.design c.args.firsts.now c.args.outputs.now c.in_ok-columns.columns.items
    c.loop-column.column c.requires.can.designed.scheduled.checked c.root_elements_are_listed.ensures.outputs
    c.requires.can.small c.requires.are c.requires.firsts c.in_ok-columns.ensures.least
    c.loop-column-test.true).first

pub output_of-requires-clause-fits : goal.output_of-requires-clause-fits
output_of-requires-clause-fits c =
    let block : ℕ = slice_index_or c.args.outputs.now c.loop-column.column 0 in
    let here = output_here c.args.design c.args.firsts.now c.args.outputs.now c.in_ok-columns.columns.items
    c.loop-column.column c.requires.can.designed.scheduled.checked c.root_elements_are_listed.ensures.outputs
    c.requires.can.small c.requires.are c.requires.firsts c.in_ok-columns.ensures.least
    c.loop-column-test.true in
    let number : c.in-Ok.number ≡ c.loop-column.column = c.in-Ok.ensures.1 in
    let first : c.index.result.now ≡ slice_index_or c.in_ok-columns.columns.items block 0 =
    read_at c.in_ok-columns.columns.items block c.index.result.now
    (below_columns (slice_index_or c.args.outputs.now c.loop-column.column 0) c.in_ok-columns.columns.items
    c.as_slice.result.now c.diagram.result.now c.args.design.checked.now.diagram here.there
    c.in_ok-columns.ensures.size c.as_slice.ensures c.diagram.ensures) c.index.ensures in
    let element : c.in-Ok.number - c.index.result.now ≡ here.e.element = element_is c.args.design c.args.firsts.now block _ c.loop-column.column c.in-Ok.number c.index.result.now here number first in
    subst (λ (n : ℕ). hub_at c.args.firsts.now block 1 n < 2 ^ 32) (sym element) here.fits

pub loop-column-preserved : goal.loop-column-preserved
loop-column-preserved c =
    let block : ℕ = slice_index_or c.args.outputs.now c.loop-column.column 0 in
    let here = output_here c.args.design c.args.firsts.now c.args.outputs.now c.in_ok-columns.columns.items
    c.loop-column.column c.requires.can.designed.scheduled.checked c.root_elements_are_listed.ensures.outputs
    c.requires.can.small c.requires.are c.requires.firsts c.in_ok-columns.ensures.least
    c.loop-column-test.true in
    let number : c.in-Ok.number ≡ c.loop-column.column = c.in-Ok.ensures.1 in
    let first : c.index.result.now ≡ slice_index_or c.in_ok-columns.columns.items block 0 =
    read_at c.in_ok-columns.columns.items block c.index.result.now
    (below_columns (slice_index_or c.args.outputs.now c.loop-column.column 0) c.in_ok-columns.columns.items
    c.as_slice.result.now c.diagram.result.now c.args.design.checked.now.diagram here.there
    c.in_ok-columns.ensures.size c.as_slice.ensures c.diagram.ensures) c.index.ensures in
    let element : c.in-Ok.number - c.index.result.now ≡ here.e.element = element_is c.args.design c.args.firsts.now block _ c.loop-column.column c.in-Ok.number c.index.result.now here number first in
    outputs_next c.args.design c.args.firsts.now c.args.names.now c.loop-column.names c.output_of.new.names
    c.args.net.now c.loop-column.net c.add_output.new.self block _ c.loop-column.column
    (c.in-Ok.number - c.index.result.now) c.in_ok-port.port here element c.loop-column.invariant
    c.in_ok-port.ensures c.in_ok-add_output.ensures.grown

pub output_of-requires-clause-can : goal.output_of-requires-clause-can
output_of-requires-clause-can c = c.requires.can

pub returns : goal.returns
returns c =
    let low = c.loop-column-test.false in
    let high = c.loop-column.auto.column-end in
    let all : c.loop-column.column ≡ length c.args.outputs.now = omega (arith, low, high) in
    subst (λ (n : ℕ). AddsOutputs c.args.design c.args.firsts.now c.args.names.now c.loop-column.names c.args.net.now c.loop-column.net n) all c.loop-column.invariant

pub bounds-outputs-column : goal.bounds-outputs-column
bounds-outputs-column c = c.loop-column-test.true

pub offset_bounds-outputs-column : goal.offset_bounds-outputs-column
offset_bounds-outputs-column c = omega (arith, c.loop-column-test.true)

pub loop-column-init : goal.loop-column-init
loop-column-init c = record {
  grown = refl;
  ports = ports_none c.args.design.checked.now.diagram _ _ _ _ c.args.names.now c.args.net.now.outputs c.requires.none;
}
