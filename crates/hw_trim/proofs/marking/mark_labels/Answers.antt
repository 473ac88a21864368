use Rattle.std.proofs.Common.{◌≡◌, Some, slice_get, ℕ, true, inl, inr, arith, subst, ◌∙◌}
use Rattle.std.proofs.lemmas.Bool.{cases_lt}
use Rattle.std.proofs.lemmas.Option.{get_or_from_slice_get, slice_get_within}
use Rattle.hw_net.specs.declared.netlist.NetLabel.{NetLabel}
use Rattle.math_list.proofs.Elements.{all-from}
use Rattle.hw_trim.specs.inner.Marks.{is_marked}
use Rattle.hw_trim.proofs.Marks.{marks-none, marks-trans}
use Rattle.hw_trim.proofs.marking.mark_labels.Goals as goal

pub loop-label-init : goal.loop-label-init
loop-label-init c = record { marks = marks-none c.args.marks.now c.args.order.now.items c.requires.marking; marked = λ j label less is. absurd (omega (arith, less)) }

pub loop-label-preserved : goal.loop-label-preserved
loop-label-preserved c =
    let inv = c.loop-label.invariant in
    let ens = c.in_ok-mark.ensures in
    let i : ℕ = c.loop-label.label-index in
    let x : NetLabel = c.label-item.result in
    record {
      marks = marks-trans c.args.marks.now c.loop-label.marks c.mark.new.marks c.args.order.now.items c.loop-label.order.items c.mark.new.order.items inv.marks ens.marks;
      marked = λ j label less is. elim (cases_lt j i) [
        | inl before ↦ ens.marks.kept label.net (inv.marked j label before is)
        | inr late ↦
            (let here : j ≡ i = omega (arith, less, late) in
            let same : x ≡ label = c.label-item.is ∙ get_or_from_slice_get c.args.labels.now i label x (subst (λ (k : ℕ). slice_get c.args.labels.now k ≡ Some label) here is) in
            subst (λ (one : NetLabel). is_marked c.mark.new.marks one.net ≡ true) same ens.marked)
      ];
    }

pub returns-clause-marked : goal.returns-clause-marked
returns-clause-marked c =
    all-from (λ (one : NetLabel). is_marked c.loop-label.marks one.net ≡ true) c.args.labels.now
    (λ k label is. c.loop-label.invariant.marked k label (let within = slice_get_within c.args.labels.now k label is in omega (arith, within)) is)
