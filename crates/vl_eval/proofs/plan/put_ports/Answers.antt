use Rattle.std.proofs.Common.{◌≤◌, ◌==◌, ◌&&◌, ◌||◌, not, Bool, List, bytes_eq, codes, filter, length, map, Vec, Global, ℕ, refl, sym, ap, subst, ◌∙◌}
use Rattle.std.proofs.lemmas.List.{take_all}
use Rattle.vl_ast.specs.declared.modules.Port.{Port}
use Rattle.vl_ast.specs.Control.{is_number_output}
use Rattle.vl_eval.specs.declared.plan.Output.{Output}
use Rattle.vl_eval.specs.inner.PlanOperations.{output_of, slot_of_port}
use Rattle.vl_eval.specs.inner.Site.{slot_in}
use Rattle.vl_eval.proofs.Captures.{items-more}
use Rattle.vl_eval.proofs.LoopLists.{none-gathered, one-gathered}
use Rattle.vl_eval.proofs.plan.put_ports.Goals.{then-is_driven_input+in_ok-push, else-is_driven_input, then-is_number_output+in_ok-push-2, else-is_number_output}
use Rattle.vl_eval.proofs.plan.put_ports.Goals as goal

abbrev is_driven : Port → Bool
is_driven port = port.input && not (bytes_eq port.name (codes "clk"))

pub loop-port-init : goal.loop-port-init
loop-port-init c = (c.requires.inputs, c.requires.outputs)

pub loop-port-preserved : goal.loop-port-preserved
loop-port-preserved c =
    let site = c.args.site.now in
    let scope = site.scope.now in
    let f = output_of scope site.slots.now in
    let test = is_number_output c.is_stallable-stalls.result in
    let all = c.args.source.now.ports in
    let i = c.loop-port.port-index in
    let port = c.port-item.result in
    let more = items-more c.as_slice-port-items.result.now all i port port c.as_slice-port-items.ensures c.loop-port-test.true c.port-item.is refl in (
      elim c.if-is_driven_input.branch [
        | then-is_driven_input+in_ok-push w ↦
            one-gathered (slot_of_port scope site.slots.now) is_driven all i port _ _ _ more c.loop-port.invariant.0
            (ap (λ (places : Vec ℕ Global). places.items) w.inputs-is ∙ w.in_ok-push.ensures.items)
            (w.slot.ensures ∙ ap (slot_in scope site.slots.now) w.bytes.ensures) (sym c.is_driven_input.ensures ∙ w.if-is_driven_input.true)
        | else-is_driven_input w ↦
            none-gathered (slot_of_port scope site.slots.now) is_driven all i port _ _ more c.loop-port.invariant.0
            (ap (λ (places : Vec ℕ Global). places.items) w.inputs-is)
            (sym c.is_driven_input.ensures ∙ w.if-is_driven_input.false)
      ],
      elim c.if-is_number_output.branch [
        | then-is_number_output+in_ok-push-2 w ↦
            one-gathered f test all i port _ _ _ more c.loop-port.invariant.1 (ap (λ (outputs : Vec Output Global). outputs.items) w.outputs-is ∙ w.in_ok-push-2.ensures.items)
            (λ j. record {
              slot = (w.slot-then-is_number_output.ensures
                  ∙ ap (slot_in scope site.slots.now) w.bytes-then-is_number_output.ensures) j;
              width =
                  port.width;
              signed = port.signed || port.width == 128;
            })
            (sym c.is_number_output.ensures ∙ w.if-is_number_output.true)
        | else-is_number_output w ↦
            none-gathered f test all i port _ _ more c.loop-port.invariant.1
            (ap (λ (outputs : Vec Output Global). outputs.items) w.outputs-is)
            (sym c.is_number_output.ensures ∙ w.if-is_number_output.false)
      ],
    )

pub returns-clause-inputs : goal.returns-clause-inputs
returns-clause-inputs c =
    let ports = c.args.source.now.ports in
    let end = subst (λ (xs : List Port). length xs ≤ c.loop-port.port-index) c.as_slice-port-items.ensures c.loop-port-test.false in
    c.loop-port.invariant.0 ∙ ap (λ (xs : List Port). map (slot_of_port c.args.site.now.scope.now c.args.site.now.slots.now) (filter is_driven xs)) (take_all c.loop-port.port-index ports end)

pub returns-clause-outputs : goal.returns-clause-outputs
returns-clause-outputs c =
    let f = output_of c.args.site.now.scope.now c.args.site.now.slots.now in
    let ports = c.args.source.now.ports in
    let end = subst (λ (xs : List Port). length xs ≤ c.loop-port.port-index) c.as_slice-port-items.ensures c.loop-port-test.false in
    c.loop-port.invariant.1 ∙ ap (λ (xs : List Port). map f (filter (is_number_output c.is_stallable-stalls.result) xs)) (take_all c.loop-port.port-index ports end)
    ∙ ap (λ (stalls : Bool). map f (filter (is_number_output stalls) ports)) c.is_stallable-stalls.ensures
