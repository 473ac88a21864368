use Rattle.std.proofs.Common.{◌≡◌, ◌<◌, ℕ, ℤ, pos, List, length, set, slice_get, length-set, get_or-set_other, refl, ap, sym, ◌∙◌, subst, arith, add-one}
use Rattle.std.specs.Int.{w128}
use Rattle.std.proofs.lemmas.Int.{to_z-of_z}
use Rattle.std.proofs.lemmas.Option.{slice_get-get_or}
use Rattle.dg_model.specs.Attributes.{attributes_of}
use Rattle.dg_sim.specs.declared.program.Cell.{Cell}
use Rattle.dg_sim.specs.Program.{value_at}
use Rattle.dg_sim.specs.Sim.{Agrees}
use Rattle.math_list.proofs.Places.{get_some}
use Rattle.dg_sim.proofs.Sweep.{can_give, swept_hit, swept_miss}
use Rattle.dg_sim.proofs.sweeping.sweep.Goals as goal
use Rattle.dg_sim.proofs.sweeping.sweep.Goals.{then-hits, else-hits}

pub give-requires-clause-can : goal.give-requires-clause-can
give-requires-clause-can c =
    let k : ℕ = c.loop-k.k in
    let at = c.requires.at in
    let same = c.as_slice-cell-items.ensures in
    let here = ap (λ (cells : List Cell). slice_get cells k) (sym same) ∙ slice_get-get_or c.as_slice-cell-items.result.now k _ c.loop-k-test.true in
    let below : k < length c.args.program.now.places = subst (λ (n : ℕ). k < n) c.requires.program.size (rw same at c.loop-k-test.true) in
    let place = get_some c.args.program.now.places k below in
    can_give c.args.checked.now c.args.program.now c.args.t c.args.pasts.now c.args.prepared.now c.args.numbers.now
    c.args.row.now (record { checked = c.keeps_rules.ensures.checked; ordered = c.keeps_rules.ensures.ordered })
    c.requires.program c.entry_is_one.ensures c.solved_is_in_range.ensures c.entries_stay.ensures k place.0 _ c.loop-k.row at.0 at.1 at.2 place.1 here at.3 c.loop-k.invariant.swept

pub give-requires-clause-ready : goal.give-requires-clause-ready
give-requires-clause-ready c =
    let k : ℕ = c.loop-k.k in
    let same = c.as_slice-cell-items.ensures in
    let here = ap (λ (cells : List Cell). slice_get cells k) (sym same) ∙ slice_get-get_or c.as_slice-cell-items.result.now k _ c.loop-k-test.true in
    let inside : k < length c.args.prepared.now = subst (λ (n : ℕ). k < n) (sym c.requires.ready.size) (rw same at c.loop-k-test.true) in
    c.requires.ready.each k _ _ here (slice_get-get_or c.args.prepared.now k _ inside)

pub loop-k-preserved : goal.loop-k-preserved
loop-k-preserved c =
    let inv = c.loop-k.invariant in
    let k : ℕ = c.loop-k.k in
    let row : List ℤ = c.loop-k.row in
    let same = c.as_slice-cell-items.ensures in
    let here = ap (λ (cells : List Cell). slice_get cells k) (sym same) ∙ slice_get-get_or c.as_slice-cell-items.result.now k _ c.loop-k-test.true in
    let below : k < length c.args.program.now.places = subst (λ (n : ℕ). k < n) c.requires.program.size (rw same at c.loop-k-test.true) in
    let place = get_some c.args.program.now.places k below in
    let inside : k < length row = subst (λ (n : ℕ). k < n) (sym inv.size) below in
    elim c.if-hits.branch [
      | then-hits w ↦
          let v : ℤ = w.give.result in
          let e = to_z-of_z w128 v (record { sfits = w.give.type_inv }) in
          let r : c.if-hits.row ≡ set row k v = rw e at w.row-is in
          rw (r, add-one) (record {
            size = length-set row k v ∙ inv.size;
            inputs = ap length w.inputs-is ∙ w.give.auto.inputs ∙ inv.inputs;
            swept = swept_hit c.args.checked.now c.args.program.now c.args.t c.args.pasts.now c.args.prepared.now
                c.args.numbers.now c.args.row.now
                (record { checked = c.keeps_rules.ensures.checked; ordered = c.keeps_rules.ensures.ordered })
                c.requires.program c.entry_is_one.ensures c.solved_is_in_range.ensures c.entries_stay.ensures k
                place.0 _ row v place.1 here inside
                (sym c.hits.ensures ∙ w.if-hits.true) inv.swept w.give.ensures;
            later = λ j above. let apart : j ≡ k → ⊥ = λ e. absurd (omega (arith, e, above)) in get_or-set_other row k j v (pos 0) apart ∙ inv.later j (omega (arith, above));
          })
      | else-hits w ↦ rw (w.row-is, add-one) (record {
        size = inv.size;
        inputs = ap length w.inputs-is ∙ inv.inputs;
        swept = swept_miss c.args.checked.now c.args.program.now c.args.t c.args.pasts.now c.args.prepared.now
            c.args.numbers.now c.args.row.now
            (record { checked = c.keeps_rules.ensures.checked; ordered = c.keeps_rules.ensures.ordered })
            c.requires.program c.entry_is_one.ensures c.solved_is_in_range.ensures c.entries_stay.ensures k place.0
            _ row place.1 here (sym c.hits.ensures ∙ w.if-hits.false) (inv.later k (omega arith)) inv.swept;
        later = λ j above. inv.later j (omega (arith, above));
      })
    ]

pub loop-k-init : goal.loop-k-init
loop-k-init c = record {
  size = c.requires.row;
  inputs = refl;
  swept = λ stimulus n table at j place below. absurd (omega (arith, below));
  later = λ j above. refl;
}

pub returns : goal.returns
returns c = λ stimulus n table at.
    let checked = c.args.checked.now in
    let program = c.args.program.now in
    let all : c.loop-k.k ≡ length program.places = omega (arith, c.loop-k-test.false, c.loop-k.auto.k-end, ap length c.as_slice-cell-items.ensures, c.requires.program.size) in
    subst (λ (k : ℕ). Agrees checked.diagram (attributes_of checked.diagram) program.places k (value_at c.loop-k.row) table c.args.t) all (c.loop-k.invariant.swept stimulus n table at)
