use Rattle.std.proofs.Common.{◌≡◌, ℕ, length, true, below_more, ap, arith}
use Rattle.std.specs.Prelude.{slice_get, Some}
use Rattle.dg_model.specs.declared.diagram.Block.{Block}
use Rattle.dg_types.specs.inner.TypeScan.{KeepsPart}
use Rattle.dg_types.proofs.typed.first_broken.Goals as goal

pub loop-place-preserved : goal.loop-place-preserved
loop-place-preserved c other block below at =
    let diagram = c.args.typed.diagram.now in
    let yes : c.keeps.result ≡ true = grind arith in
    below_more (λ (k : ℕ). (b : Block) → slice_get diagram.blocks k ≡ Some b → KeepsPart c.args.part diagram k b) c.loop-place.place
    (λ k inside b there. c.loop-place.invariant k b inside there) (λ b there. (c.keeps.ensures b there).0 yes) other below block at

pub returns-clause-none : goal.returns-clause-none
returns-clause-none c _ other block below at =
    let end : length c.as_slice-place-end.result.now ≡ length c.args.typed.diagram.now.blocks = ap length c.as_slice-place-end.ensures in
    c.loop-place.invariant other block (omega (arith, end)) at
