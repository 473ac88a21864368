use Rattle.std.proofs.Common.{◌≡◌, ◌+◌, ◌-◌, ◌<◌, ℕ, List, All, length, ap, sym, ◌∙◌, subst, arith}
use Rattle.std.specs.Prelude.{slice_index_or}
use Rattle.dg_model.specs.declared.diagram.Block.{Block}
use Rattle.dg_model.specs.declared.diagram.Diagram.{Diagram}
use Rattle.hw_names.specs.inner.Sides.{AddsNames}
use Rattle.hw_names.proofs.RootNames.{AtColumn, block_there, column_on, element_on, given_to, names_more, there_on}
use Rattle.hw_names.proofs.NameSets.{path_is}
use Rattle.hw_names.proofs.giving.put_names.Goals as goal
use Rattle.hw_names.proofs.giving.put_names.Goals.{In-Ok}

pub columns_of-requires : goal.columns_of-requires
columns_of-requires c =
    let blocks : c.as_slice.result.now ≡ c.args.checked.now.diagram.blocks = c.as_slice.ensures ∙ ap (λ (d : Diagram). d.blocks) c.diagram.ensures in
    subst (λ (bs : List Block). All (λ block. block < length bs) c.args.blocks.now) (sym blocks)
    (there_on c.args.checked.now.diagram c.args.side c.args.blocks.now c.keeps_rules.ensures.checked
    c.root_elements_are_listed.ensures.inputs c.root_elements_are_listed.ensures.outputs c.requires)

-- the element of the column at hand
element : (c : In-Ok) → AtColumn c.args.checked.now.diagram c.args.side c.args.blocks.now c.loop-column.column
element c = column_on c.args.checked.now.diagram c.args.side c.args.blocks.now c.loop-column.column
    c.keeps_rules.ensures.checked c.root_elements_are_listed.ensures.inputs
    c.root_elements_are_listed.ensures.outputs c.requires c.loop-column-test.true

-- its block is there, and has a first column
block : (c : In-Ok) → slice_index_or c.args.blocks.now c.loop-column.column 0 < length c.args.checked.now.diagram.blocks
block c = block_there c.args.checked.now.diagram c.args.side c.args.blocks.now c.loop-column.column (element c)

first : (c : In-Ok) → slice_index_or c.args.blocks.now c.loop-column.column 0 < length c.as_slice-firsts.result.now
first c =
    let low = block c in
    let many = ap (λ (bs : List Block). length bs) (c.as_slice.ensures ∙ ap (λ (d : Diagram). d.blocks) c.diagram.ensures) in
    let size = c.in_ok-columns.ensures.size in
    let whole = ap (λ (xs : List ℕ). length xs) c.as_slice-firsts.ensures.value in
    omega (arith, low, many, size, whole)

pub bounds-firsts-block : goal.bounds-firsts-block
bounds-firsts-block c = first (goal.at.bounds-firsts-block c).In-Ok

pub offset_bounds-firsts-block : goal.offset_bounds-firsts-block
offset_bounds-firsts-block c = let low = first (goal.at.offset_bounds-firsts-block c).In-Ok in omega (arith, low)

pub overflow_sub-element : goal.overflow_sub-element
overflow_sub-element c =
    let column = element (goal.at.overflow_sub-element c).In-Ok in
    let here = element_on c.args.checked.now.diagram c.args.side c.args.blocks.now c.in_ok-columns.columns.items
    c.as_slice-firsts.result.now c.loop-column.column column c.in_ok-columns.ensures.least
    c.as_slice-firsts.ensures.value in
    let number : c.in-Ok.number ≡ c.loop-column.column = c.in-Ok.ensures.1 in
    omega (arith, here, number)

pub width_of-width-requires : goal.width_of-width-requires
width_of-width-requires c = block (goal.at.width_of-width-requires c).In-Ok

pub block_at-requires : goal.block_at-requires
block_at-requires c = block (goal.at.block_at-requires c).In-Ok

pub loop-column-preserved : goal.loop-column-preserved
loop-column-preserved c =
    let diagram = c.args.checked.now.diagram in
    let k : ℕ = c.loop-column.column in
    let block : ℕ = slice_index_or c.args.blocks.now k 0 in
    let first : ℕ = slice_index_or c.as_slice-firsts.result.now block 0 in
    let column = element (goal.at.loop-column-preserved c).In-Ok in
    let here = element_on diagram c.args.side c.args.blocks.now c.in_ok-columns.columns.items c.as_slice-firsts.result.now k column c.in_ok-columns.ensures.least c.as_slice-firsts.ensures.value in
    let number : c.in-Ok.number ≡ k = c.in-Ok.ensures.1 in
    let element_is : c.in-Ok.number - first ≡ column.e.element = omega (arith, here, number) in
    let added = c.in_ok-put_name.ensures in
    let path = path_is diagram block c.block_at.result.now c.block_at.ensures in
    let given = given_to diagram c.args.side c.loop-column.names c.put_name.new.names column.e block
    c.width_of-width.result (c.in-Ok.number - first) c.block_at.result.now.path added.name column.block_is path
    c.width_of-width.ensures element_is added.given in
    subst (λ (texts : List (List ℕ)). AddsNames diagram c.args.side c.args.names.now c.put_name.new.names c.args.texts.now texts (k + 1)) (sym added.is)
    (names_more diagram c.args.side c.args.names.now c.loop-column.names c.put_name.new.names c.args.texts.now c.loop-column.texts k column.e added.name c.loop-column.invariant column.at given)

pub bounds-blocks-column : goal.bounds-blocks-column
bounds-blocks-column c = c.loop-column-test.true

pub offset_bounds-blocks-column : goal.offset_bounds-blocks-column
offset_bounds-blocks-column c = omega (arith, c.loop-column-test.true)

pub overflow_cast-element : goal.overflow_cast-element
overflow_cast-element c =
    let low = block (goal.at.overflow_cast-element c).In-Ok in
    record { fits = omega (arith, low, c.keeps_rules.ensures.checked.wired.size) }

pub returns : goal.returns
returns c =
    let all : c.loop-column.column ≡ length c.args.blocks.now = omega (arith, c.loop-column-test.false, c.loop-column.auto.column-end) in
    subst (λ (n : ℕ). AddsNames c.args.checked.now.diagram c.args.side c.args.names.now c.loop-column.names c.args.texts.now c.loop-column.texts n) all c.loop-column.invariant
