use Rattle.std.proofs.Common.{◌≡◌, ◌<◌, ◌+◌, ◌-◌, ℕ, AllPairs, List, Some, true, false, drop, get_or, length, slice_get, take, sym, ap, subst, ◌∙◌, arith}
use Rattle.dg_model.specs.declared.diagram.Diagram.{Diagram}
use Rattle.dg_model.specs.declared.diagram.Edge.{Edge}
use Rattle.dg_model.specs.Attributes.{attributes_of}
use Rattle.dg_model.specs.Wired.{StandsBefore}
use Rattle.hw_sched.specs.inner.Greatest.{IsGreatest, IsLineFrom}
use Rattle.hw_sched.proofs.Items.{rest_past, rest_read, tested, next_counts, next_skips, first_as}
use Rattle.hw_sched.proofs.BlockDepths.{lines_begin, lines_stop, lines_end, from_there}
use Rattle.hw_sched.proofs.lines.best_of_lines.Goals.{Else-edge-place, then-is_same_period, else-is_same_period}
use Rattle.hw_sched.proofs.lines.best_of_lines.Goals as goal

abbrev none : Edge
none = record { from = 0; from_port = 0; to = 0; to_port = 0 }

pub returns-then-edge-place : goal.returns-then-edge-place
returns-then-edge-place c =
    let es = c.as_slice-edges.ensures ∙ ap (λ (d : Diagram). d.edges) c.diagram.ensures in
    let at = rest_read c.args.checked.now.diagram.edges c.as_slice-edges.result.now c.first_into-first.result c.loop-edge.edge-index none es c.loop-edge-test.true in
    lines_stop c.args.checked.now.diagram c.args.place c.args.depths.now c.first_into-first.result
    (c.first_into-first.result + c.loop-edge.edge-index) c.loop-edge.best _
    c.keeps_rules.ensures.checked.wired.ordered
    (first_as c.args.checked.now.diagram.edges c.as_slice-edges.result.now c.args.place c.first_into-first.result es c.first_into-first.ensures) (omega arith) at
    (λ e. let differs = c.if-edge-place.true in omega (arith, differs, e)) c.loop-edge.invariant

-- the line at hand, and where it stands
abbrev line : Else-edge-place → Edge
line c = get_or (take (length c.as_slice-edges.result.now - c.first_into-first.result) (drop c.first_into-first.result c.as_slice-edges.result.now)) c.loop-edge.edge-index none

stands : (c : Else-edge-place) → slice_get c.args.checked.now.diagram.edges (c.first_into-first.result + c.loop-edge.edge-index) ≡ Some (line c)
stands c =
    let es = c.as_slice-edges.ensures ∙ ap (λ (d : Diagram). d.edges) c.diagram.ensures in
    rest_read c.args.checked.now.diagram.edges c.as_slice-edges.result.now c.first_into-first.result c.loop-edge.edge-index none es c.loop-edge-test.true

-- the block that it comes from is there
source : (c : Else-edge-place) → (line c).from < length c.args.checked.now.diagram.blocks
source c = from_there c.args.checked.now.diagram c.args.place (c.first_into-first.result + c.loop-edge.edge-index) (line c) c.keeps_rules.ensures.checked.wired (stands c)

pub period-requires : goal.period-requires
period-requires c = source (goal.at.period-requires c).Else-edge-place

pub bounds-depths-edge : goal.bounds-depths-edge
bounds-depths-edge c = let inside = source (goal.at.bounds-depths-edge c).Else-edge-place in omega (arith, inside, c.requires.size)

pub offset_bounds-depths-edge : goal.offset_bounds-depths-edge
offset_bounds-depths-edge c = let inside = source (goal.at.offset_bounds-depths-edge c).Else-edge-place in omega (arith, inside, c.requires.size)

pub loop-edge-preserved : goal.loop-edge-preserved
loop-edge-preserved c =
    let at = stands (goal.at.loop-edge-preserved c).Else-edge-place in
    elim c.if-is_same_period.branch [
      | then-is_same_period w ↦
          rw (w.best-is, w.max-best.ensures)
          (next_counts c.args.checked.now.diagram c.args.place c.args.depths.now c.first_into-first.result c.loop-edge.edge-index c.loop-edge.best _ at
          (let same = c.if-edge-place.false in omega (arith, same))
          (tested c.period.result c.period-own.result _
          ((attributes_of c.args.checked.now.diagram).period_at c.args.place) c.is_same_period.result true
          c.period.ensures c.period-own.ensures c.is_same_period.ensures w.if-is_same_period.true)
          c.loop-edge.invariant)
      | else-is_same_period w ↦
          rw w.best-is
          (next_skips c.args.checked.now.diagram c.args.place c.args.depths.now c.first_into-first.result c.loop-edge.edge-index c.loop-edge.best _ at
          (tested c.period.result c.period-own.result _
          ((attributes_of c.args.checked.now.diagram).period_at c.args.place) c.is_same_period.result false
          c.period.ensures c.period-own.ensures c.is_same_period.ensures w.if-is_same_period.false)
          c.loop-edge.invariant)
    ]

pub returns : goal.returns
returns c =
    let es = c.as_slice-edges.ensures ∙ ap (λ (d : Diagram). d.edges) c.diagram.ensures in
    let past = rest_past c.args.checked.now.diagram.edges c.as_slice-edges.result.now c.first_into-first.result
    c.loop-edge.edge-index es c.first_into-first.ensures.within (omega (arith, c.loop-edge-test.false)) in
    lines_end c.args.checked.now.diagram c.args.place c.args.depths.now (c.first_into-first.result + c.loop-edge.edge-index) c.loop-edge.best past c.loop-edge.invariant

pub period-own-requires : goal.period-own-requires
period-own-requires c = c.requires.there

pub first_into-first-requires : goal.first_into-first-requires
first_into-first-requires c =
    let es = c.as_slice-edges.ensures ∙ ap (λ (d : Diagram). d.edges) c.diagram.ensures in
    subst (λ (edges : List Edge). AllPairs StandsBefore edges) (sym es) c.keeps_rules.ensures.checked.wired.ordered

pub loop-edge-init : goal.loop-edge-init
loop-edge-init c =
    let es = c.as_slice-edges.ensures ∙ ap (λ (d : Diagram). d.edges) c.diagram.ensures in
    let first = c.first_into-first.result in
    let start : first ≡ first + 0 = omega arith in
    subst (λ (count : ℕ). IsGreatest (IsLineFrom c.args.checked.now.diagram count c.args.place) c.args.depths.now 0) start
    (lines_begin c.args.checked.now.diagram c.args.place c.args.depths.now first
    (first_as c.args.checked.now.diagram.edges c.as_slice-edges.result.now c.args.place first es
    c.first_into-first.ensures))
