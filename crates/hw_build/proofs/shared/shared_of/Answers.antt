use Rattle.std.proofs.Common.{rules, ◌≡◌, ℕ, ◌<◌, List, length, sym, subst, ap, ◌∙◌, arith}
use Rattle.std.specs.Prelude.{slice_index_or}
use Rattle.std.proofs.lemmas.Option.{same_Some, slice_get_within, get_or_from_slice_get}
use Rattle.dg_model.specs.declared.diagram.Block.{Block}
use Rattle.dg_model.specs.Library.{row_of}
use Rattle.dg_model.specs.Attributes.{attributes_of}
use Rattle.hw_arcs.specs.Latencies.{latency_at}
use Rattle.hw_latency.specs.Weight.{samples}
use Rattle.hw_sched.specs.Slots.{Operation, operation, shared_operations, slot_of, unit_of}
use Rattle.hw_build.specs.inner.DesignTimes.{times_for}
use Rattle.hw_build.specs.declared.design.Design.{Design}
use Rattle.hw_build.specs.inner.Factors.{IsNumbered, IsSecond}
use Rattle.hw_build.specs.inner.Operands.{offered_at}
use Rattle.hw_build.proofs.Factors.{shared_multiplies}
use Rattle.hw_build.proofs.Operations.{of_shared}
use Rattle.hw_build.proofs.Within.{entry_read}
use Rattle.hw_build.proofs.shared.shared_of.Goals as goal

pub second_of-requires-clause-multiplies : goal.second_of-requires-clause-multiplies
second_of-requires-clause-multiplies c =
    let of = of_shared c.args.design.checked.now.diagram (attributes_of c.args.design.checked.now.diagram) c.args.design.plan.now c.args.number (operation c.args.block c.args.element) c.requires.is in
    shared_multiplies c.args.design.checked.now.diagram c.args.design.plan.now c.args.block c.args.one.now c.requires.block of.shared

pub second_of-requires-clause-element : goal.second_of-requires-clause-element
second_of-requires-clause-element c =
    let of = of_shared c.args.design.checked.now.diagram (attributes_of c.args.design.checked.now.diagram) c.args.design.plan.now c.args.number (operation c.args.block c.args.element) c.requires.is in
    of.element

pub period-requires : goal.period-requires
period-requires c = slice_get_within _ c.args.block c.args.one.now c.requires.block

pub bounds-as_slice-block : goal.bounds-as_slice-block
bounds-as_slice-block c =
    let inside = slice_get_within _ c.args.block c.args.one.now c.requires.block in
    entry_read _ c.args.block _ c.as_slice.result.now inside c.requires.can.designed.scheduled.timed.size c.as_slice.ensures

pub offset_bounds-as_slice-block : goal.offset_bounds-as_slice-block
offset_bounds-as_slice-block c =
    let inside = slice_get_within _ c.args.block c.args.one.now c.requires.block in
    let low = entry_read _ c.args.block _ c.as_slice.result.now inside c.requires.can.designed.scheduled.timed.size c.as_slice.ensures in
    omega (arith, low)

-- what is read has an entry for each shared operation
listed : (design : Design) (number : ℕ) (o : Operation) (list read : List ℕ) → IsNumbered design number o
    → length list ≡ length (shared_operations design.checked.now.diagram
    (attributes_of design.checked.now.diagram) design.plan.now) → read ≡ list → number < length read
listed design number o list read is size same = entry_read _ number list read (slice_get_within _ number o is) size same

pub bounds-as_slice-number : goal.bounds-as_slice-number
bounds-as_slice-number c = listed c.args.design c.args.number (operation c.args.block c.args.element) _ c.as_slice-2.result.now c.requires.is c.requires.can.slots.starts.size c.as_slice-2.ensures

pub offset_bounds-as_slice-number : goal.offset_bounds-as_slice-number
offset_bounds-as_slice-number c =
    let below = listed c.args.design c.args.number (operation c.args.block c.args.element) _ c.as_slice-2.result.now c.requires.is c.requires.can.slots.starts.size c.as_slice-2.ensures in
    search (rules, below)

pub bounds-as_slice-number-2 : goal.bounds-as_slice-number-2
bounds-as_slice-number-2 c = listed c.args.design c.args.number (operation c.args.block c.args.element) _ c.as_slice-3.result.now c.requires.is c.requires.can.slots.units.size c.as_slice-3.ensures

pub offset_bounds-as_slice-number-2 : goal.offset_bounds-as_slice-number-2
offset_bounds-as_slice-number-2 c =
    let below = listed c.args.design c.args.number (operation c.args.block c.args.element) _ c.as_slice-3.result.now c.requires.is c.requires.can.slots.units.size c.as_slice-3.ensures in
    search (rules, below)

pub returns-clause-made : goal.returns-clause-made
returns-clause-made c =
    let diagram = c.args.design.checked.now.diagram in
    let o : Operation = operation c.args.block c.args.element in
    let period : c.samples.result ≡ samples ((attributes_of diagram).period_at c.args.block) = c.samples.ensures ∙ ap samples c.period.ensures in
    let late : slice_index_or c.as_slice.result.now c.args.block 0
    ≡ latency_at c.args.design.latencies.now.lat c.args.block =
    ap (λ (xs : List ℕ). slice_index_or xs c.args.block 0) c.as_slice.ensures in
    let slot : slice_index_or c.as_slice-2.result.now c.args.number 0 ≡ slot_of diagram (attributes_of diagram) c.args.design.plan.now (times_for c.args.design) c.args.number o =
    ap (λ (xs : List ℕ). slice_index_or xs c.args.number 0) c.as_slice-2.ensures
    ∙ get_or_from_slice_get c.args.design.slots.now.starts c.args.number _ 0
    (c.requires.can.slots.starts.are c.args.number o c.requires.is) in
    let unit : slice_index_or c.as_slice-3.result.now c.args.number 0 ≡ unit_of diagram (attributes_of diagram) c.args.design.plan.now (times_for c.args.design) c.args.number o =
    ap (λ (xs : List ℕ). slice_index_or xs c.args.number 0) c.as_slice-3.ensures
    ∙ get_or_from_slice_get c.args.design.slots.now.units c.args.number _ 0
    (c.requires.can.slots.units.are c.args.number o c.requires.is) in
    record {
      frame = ap (λ (p : ℕ). record { period = p; latency = slice_index_or c.as_slice.result.now c.args.block 0 })
          period ∙ ap (λ (l : ℕ). record {
            period =
                samples ((attributes_of diagram).period_at c.args.block);
            latency = l;
          }) late;
      slot = slot;
      unit = unit;
      left = c.at-left.ensures;
      right = λ b at.
          subst (λ (one : Block). IsSecond diagram
          (offered_at diagram c.args.operands.now) c.args.net.now c.second_of.new.net c.args.block
          c.args.element (row_of one.kind).types.full c.in_ok-right.right)
          (same_Some c.args.one.now b (sym c.requires.block ∙ at)) c.in_ok-right.ensures.is;
    }
