use Rattle.std.proofs.Common.{◌≡◌, Some, slice_get, ℕ, true, inl, inr, arith, subst, ◌∙◌}
use Rattle.std.proofs.lemmas.Bool.{cases_lt}
use Rattle.std.proofs.lemmas.Option.{get_or_from_slice_get, slice_get_within}
use Rattle.hw_net.specs.declared.netlist.NetPort.{NetPort}
use Rattle.math_list.proofs.Elements.{all-from}
use Rattle.hw_trim.specs.inner.Marks.{is_marked}
use Rattle.hw_trim.proofs.Marks.{marks-none, marks-trans}
use Rattle.hw_trim.proofs.marking.mark_ports.Goals as goal

pub loop-port-init : goal.loop-port-init
loop-port-init c = record { marks = marks-none c.args.marks.now c.args.order.now.items c.requires.marking; marked = λ j port less is. absurd (omega (arith, less)) }

pub loop-port-preserved : goal.loop-port-preserved
loop-port-preserved c =
    let inv = c.loop-port.invariant in
    let ens = c.in_ok-mark.ensures in
    let i : ℕ = c.loop-port.port-index in
    let x : NetPort = c.port-item.result in
    record {
      marks = marks-trans c.args.marks.now c.loop-port.marks c.mark.new.marks c.args.order.now.items c.loop-port.order.items c.mark.new.order.items inv.marks ens.marks;
      marked = λ j port less is. elim (cases_lt j i) [
        | inl before ↦ ens.marks.kept port.net (inv.marked j port before is)
        | inr late ↦
            (let here : j ≡ i = omega (arith, less, late) in
            let same : x ≡ port = c.port-item.is ∙ get_or_from_slice_get c.args.ports.now i port x (subst (λ (k : ℕ). slice_get c.args.ports.now k ≡ Some port) here is) in
            subst (λ (one : NetPort). is_marked c.mark.new.marks one.net ≡ true) same ens.marked)
      ];
    }

pub returns-clause-marked : goal.returns-clause-marked
returns-clause-marked c =
    all-from (λ (one : NetPort). is_marked c.loop-port.marks one.net ≡ true) c.args.ports.now
    (λ k port is. c.loop-port.invariant.marked k port (let within = slice_get_within c.args.ports.now k port is in omega (arith, within)) is)
