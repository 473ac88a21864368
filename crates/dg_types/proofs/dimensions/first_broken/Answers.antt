use Rattle.std.proofs.Common.{◌≡◌, ℕ, length, true, below_more, ap, arith}
use Rattle.std.specs.Prelude.{slice_get, Some}
use Rattle.dg_model.specs.declared.diagram.Block.{Block}
use Rattle.dg_model.specs.Dimension.{KeepsDimension}
use Rattle.dg_model.specs.Widths.{widths_of}
use Rattle.dg_types.proofs.dimensions.first_broken.Goals as goal

pub loop-place-preserved : goal.loop-place-preserved
loop-place-preserved c other block below at =
    let diagram = c.args.diagram.now in
    let keeps : c.keeps_at.result ≡ true = grind arith in
    below_more (λ (k : ℕ). (b : Block) → slice_get diagram.blocks k ≡ Some b → KeepsDimension diagram (widths_of diagram) k b) c.loop-place.place
    (λ k inside b there. c.loop-place.invariant k b inside there) (λ b there. (c.keeps_at.ensures b there).0 keeps) other below block at

pub returns-clause-none : goal.returns-clause-none
returns-clause-none c _ other block below at =
    let end : length c.as_slice-place-end.result.now ≡ length c.args.diagram.now.blocks = ap length c.as_slice-place-end.ensures in
    c.loop-place.invariant other block (omega (arith, end)) at
