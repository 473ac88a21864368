use Rattle.std.proofs.Common.{◌≡◌, Some, slice_get, ℕ, inl, inr, arith, subst, ◌∙◌}
use Rattle.std.proofs.lemmas.Bool.{cases_lt}
use Rattle.std.proofs.lemmas.Option.{get_or_from_slice_get, slice_get_within}
use Rattle.hw_net.specs.declared.netlist.NetLabel.{NetLabel}
use Rattle.math_list.proofs.Elements.{all-from}
use Rattle.hw_fold.specs.inner.Pins.{IsPinned}
use Rattle.hw_fold.proofs.Marks.{keeps-none, keeps-trans, pinned-on}
use Rattle.hw_fold.proofs.pinned.pin.Goals as goal

pub loop-label-init : goal.loop-label-init
loop-label-init c = record {
  own = keeps-none c.args.own.now;
  alone = keeps-none c.args.alone.now;
  pinned = λ j label less is. absurd (omega (arith, less));
}

pub loop-label-preserved : goal.loop-label-preserved
loop-label-preserved c =
    let inv = c.loop-label.invariant in
    let ens = c.pin_net.ensures in
    let i : ℕ = c.loop-label.label-index in
    let x : NetLabel = c.label-item.result in
    record {
      own = keeps-trans c.args.own.now c.loop-label.own c.pin_net.new.own inv.own ens.own;
      alone = keeps-trans c.args.alone.now c.loop-label.alone c.pin_net.new.alone inv.alone ens.alone;
      pinned = λ j label less is. elim (cases_lt j i) [
        | inl before ↦ pinned-on c.args.nets.now c.loop-label.own c.loop-label.alone c.pin_net.new.own c.pin_net.new.alone label.net ens.own ens.alone (inv.pinned j label before is)
        | inr late ↦
            (let here : j ≡ i = omega (arith, less, late) in
            let same : x ≡ label = c.label-item.is ∙ get_or_from_slice_get c.args.labels.now i label x (subst (λ (k : ℕ). slice_get c.args.labels.now k ≡ Some label) here is) in
            subst (λ (one : NetLabel). IsPinned c.args.nets.now c.pin_net.new.own c.pin_net.new.alone one.net) same ens.pinned)
      ];
    }

pub returns-clause-pinned : goal.returns-clause-pinned
returns-clause-pinned c =
    all-from (λ (one : NetLabel). IsPinned c.args.nets.now c.loop-label.own c.loop-label.alone one.net) c.args.labels.now
    (λ k label is. c.loop-label.invariant.pinned k label (let within = slice_get_within c.args.labels.now k label is in omega (arith, within)) is)
