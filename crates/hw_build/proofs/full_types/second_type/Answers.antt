use Rattle.std.proofs.Common.{ap, sym, ◌∙◌}
use Rattle.dg_model.specs.Lent.{lent_full}
use Rattle.dg_model.specs.Readable.{IsReadable}
use Rattle.hw_build.proofs.Multipliers.{is_product, product_inputs}
use Rattle.math_list.proofs.Places.{held}
use Rattle.std.proofs.lemmas.Option.{slice_get_within}
use Rattle.hw_build.proofs.full_types.second_type.Goals as goal

pub type_into-requires-clause-to : goal.type_into-requires-clause-to
type_into-requires-clause-to c =
    let readable = held IsReadable c.args.checked.now.diagram.blocks c.args.block c.args.one.now c.keeps_rules.ensures.checked.wired.blocks c.requires in
    product_inputs c.args.one.now.kind c.args.one.now.inputs c.args.one.now.outputs readable.ports (ap is_product (sym c.full.ensures ∙ ap lent_full c.in-FullProduct.is))

pub param-requires : goal.param-requires
param-requires c = slice_get_within c.args.checked.now.diagram.blocks c.args.block c.args.one.now c.requires
