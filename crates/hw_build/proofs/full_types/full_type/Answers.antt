use Rattle.std.proofs.Common.{subst, sym}
use Rattle.fx_type.specs.FullType.{IsFullProduct}
use Rattle.fx_type.specs.FxType.{IsType}
use Rattle.dg_model.specs.Readable.{IsReadable}
use Rattle.hw_build.proofs.FullTypes.{found_ok, full_is_there, second_is_valid}
use Rattle.hw_build.proofs.Multipliers.{multiplies_input}
use Rattle.math_list.proofs.Places.{held}
use Rattle.hw_build.proofs.full_types.full_type.Goals as goal

pub full_product-requires-clause-left : goal.full_product-requires-clause-left
full_product-requires-clause-left c =
    let valid = c.operations_prepare.ensures.types c.args.checked.now.diagram c.args.checked.now.order c.args.block
    c.args.one.now (record { checked = c.keeps_rules.ensures.checked; ordered = c.keeps_rules.ensures.ordered })
    c.requires.block in
    subst IsType (sym c.type_into-left.ensures) (valid.2 1)

pub full_product-requires-clause-right : goal.full_product-requires-clause-right
full_product-requires-clause-right c =
    subst IsType (sym c.second_type-right.ensures)
    (second_is_valid c.storing_gives_one.ensures c.operations_prepare.ensures.operations
    c.operations_prepare.ensures.types c.args.checked.now.diagram c.args.checked.now.order
    (record { checked = c.keeps_rules.ensures.checked; ordered = c.keeps_rules.ensures.ordered })
    c.args.block c.args.one.now c.requires.block c.requires.multiplies)

pub unwrap-requires : goal.unwrap-requires
unwrap-requires c =
    let full = full_is_there c.storing_gives_one.ensures c.operations_prepare.ensures.operations
    c.operations_prepare.ensures.types c.args.checked.now.diagram c.args.checked.now.order
    (record { checked = c.keeps_rules.ensures.checked; ordered = c.keeps_rules.ensures.ordered })
    c.args.block c.args.one.now c.requires.block c.requires.multiplies in
    found_ok (IsFullProduct c.type_into-left.result c.second_type-right.result) c.full_product.result c.full_product.ensures.too_wide (rw (c.type_into-left.ensures, c.second_type-right.ensures) full)

pub type_into-left-requires-clause-to : goal.type_into-left-requires-clause-to
type_into-left-requires-clause-to c =
    let readable = held IsReadable c.args.checked.now.diagram.blocks c.args.block c.args.one.now c.keeps_rules.ensures.checked.wired.blocks c.requires.block in
    multiplies_input c.args.one.now.kind c.args.one.now.inputs c.args.one.now.outputs readable.ports c.requires.multiplies
