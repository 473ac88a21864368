use Rattle.std.proofs.Common.{◌≡◌, ℕ, List, length, pos, slice_get, ap, sym, subst, ◌∙◌, arith}
use Rattle.std.proofs.lemmas.Option.{slice_get-get_or}
use Rattle.dg_model.specs.Attributes.{attributes_of}
use Rattle.dg_sim.specs.declared.program.Cell.{Cell}
use Rattle.dg_sim.specs.Ready.{AreReady}
use Rattle.dg_sim.proofs.Readiness.{can_some, ready_more}
use Rattle.dg_sim.proofs.readying.prepare.Goals as goal

pub ready_for-requires : goal.ready_for-requires
ready_for-requires c =
    let k = c.loop-cell.cell-index in
    let here = ap (λ (cells : List Cell). slice_get cells k) (sym c.as_slice-cell-items.ensures) ∙ slice_get-get_or c.as_slice-cell-items.result.now k _ c.loop-cell-test.true in
    (λ j. pos 0, can_some c.args.checked.now.diagram (attributes_of c.args.checked.now.diagram) c.args.program.now k _ c.requires here)

pub loop-cell-preserved : goal.loop-cell-preserved
loop-cell-preserved c =
    let k = c.loop-cell.cell-index in
    let here = ap (λ (cells : List Cell). slice_get cells k) (sym c.as_slice-cell-items.ensures) ∙ slice_get-get_or c.as_slice-cell-items.result.now k _ c.loop-cell-test.true in
    ready_more c.args.program.now c.loop-cell.prepared.items c.push.new.self.items c.ready_for.result k _ here c.loop-cell.invariant c.ready_for.ensures c.in_ok-push.ensures.items

pub returns : goal.returns
returns c =
    let program = c.args.program.now in
    let all : c.loop-cell.cell-index ≡ length program.cells = omega (arith, c.loop-cell-test.false, c.loop-cell.auto.cell-index-end, ap length c.as_slice-cell-items.ensures) in
    subst (λ (n : ℕ). AreReady program c.loop-cell.prepared.items n) all c.loop-cell.invariant
