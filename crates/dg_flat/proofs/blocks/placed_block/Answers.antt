use Rattle.std.proofs.Common.{ap}
use Rattle.dg_model.specs.declared.kind.Kind.{Kind}
use Rattle.dg_flat.specs.Flat.{placed_as}
use Rattle.dg_flat.proofs.blocks.placed_block.Goals as goal

pub returns : goal.returns
returns c = ap (λ (kind : Kind). record (placed_as c.args.path c.args.resets c.args.enable c.args.block.now) { kind = kind }) c.in_ok-kind.ensures
