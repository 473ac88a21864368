use Rattle.std.proofs.Common.{◌≡◌, Some, length, map, take, ap, ◌∙◌, arith, codes}
use Rattle.std.specs.Prelude.{slice_get}
use Rattle.std.proofs.Math.Seq.{take-length}
use Rattle.dg_model.specs.declared.fault.Shown.TheVariants.{Word}
use Rattle.dg_model.specs.Periods.{first_period, units_of}
use Rattle.dg_model.specs.Rate.{KeepsDeclared}
use Rattle.dg_rates.proofs.BasePeriods.{first_is, first_more, kept_in, kept_out}
use Rattle.dg_rates.proofs.FirstFault.{breaks_at, keep_more, keep_all, read_at}
use Rattle.dg_rates.proofs.declared.first_periods.Goals as goal

pub loop-block-preserved : goal.loop-block-preserved
loop-block-preserved c =
    let diagram = c.args.diagram.now in
    let place = c.loop-block.block-index in
    let block = c.block-item.result in
    let at : slice_get diagram.blocks place ≡ Some block =
    read_at diagram.blocks place block (rw c.as_slice-block-items.ensures at c.loop-block-test.true) (rw c.as_slice-block-items.ensures at c.block-item.is) in
    let known = c.in-Ok.ensures.known ∙ first_is diagram (units_of c.args.base) block.kind block.period c.requires.base_is in
    record {
      known = rw c.in_ok-push-in-Ok.ensures.appended (first_more diagram c.loop-block.first place block c.in-Ok.known at c.loop-block.invariant.known known);
      kept = keep_more diagram (KeepsDeclared diagram) place block at (kept_in diagram (units_of c.args.base) place block c.requires.base_is c.in-Ok.ensures.kept) c.loop-block.invariant.kept;
    }

pub returns-clause-kept : goal.returns-clause-kept
returns-clause-kept c =
    let diagram = c.args.diagram.now in
    keep_all diagram (KeepsDeclared diagram) c.loop-block.block-index (rw c.as_slice-block-items.ensures at c.loop-block-test.false) c.loop-block.invariant.kept

pub returns-clause-known : goal.returns-clause-known
returns-clause-known c =
    let blocks = c.args.diagram.now.blocks in
    let all : c.loop-block.block-index ≡ length blocks = omega (arith, c.loop-block-test.false, c.loop-block.auto.block-index-end, ap length c.as_slice-block-items.ensures) in
    c.into_vec.ensures ∙ c.loop-block.invariant.known
    ∙ ap (map (λ block. first_period c.args.diagram.now block.kind block.period)) (ap (λ k. take k blocks) all ∙ take-length blocks)

pub returns-in-Err-clause-refused : goal.returns-in-Err-clause-refused
returns-in-Err-clause-refused c =
    let diagram = c.args.diagram.now in
    let place = c.loop-block.block-index in
    let block = c.block-item.result in
    let at : slice_get diagram.blocks place ≡ Some block =
    read_at diagram.blocks place block (rw c.as_slice-block-items.ensures at c.loop-block-test.true) (rw c.as_slice-block-items.ensures at c.block-item.is) in
    breaks_at diagram (KeepsDeclared diagram) (λ k b. Word (codes "declared")) place block c.in_ok-fault-in-Err.fault at
    (λ keeps. c.in-Err.ensures.broken (kept_out diagram (units_of c.args.base) place block c.requires.base_is keeps))
    c.loop-block.invariant.kept c.in_ok-fault-in-Err.ensures
