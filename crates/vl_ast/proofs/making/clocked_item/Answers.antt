use Rattle.std.proofs.Common.{ap}
use Rattle.vl_ast.specs.declared.modules.ModItem.TheVariants.{Always}
use Rattle.vl_ast.proofs.making.clocked_item.Goals as goal

pub returns : goal.returns
returns c text test taken name condition value =
    ap (λ (parts : _). Always parts.0.0 c.args.first parts.0.1 parts.1) (c.in_ok-name.ensures (text, test) taken (c.both.ensures text test name condition) value)
