use Rattle.std.proofs.Common.{◌++◌, ◌∷◌, ◌/◌, ◌%◌, [], filter, map, take, Vec, Global, refl, sym, ap, ◌∙◌}
use Rattle.vl_ast.specs.Control.{is_number_output}
use Rattle.vl_eval.proofs.Captures.{items-more}
use Rattle.vl_eval.proofs.LoopLists.{kept-none, kept-one}
use Rattle.vl_replay.specs.declared.samplers.Sampler.{Sampler}
use Rattle.vl_replay.specs.inner.Samplers.{sampler_of}
use Rattle.vl_replay.proofs.samplers.samplers_of.Goals.{then-is_number_output+in_ok-push, else-is_number_output}
use Rattle.vl_replay.proofs.samplers.samplers_of.Goals as goal

pub loop-port-init : goal.loop-port-init
loop-port-init c = c.new-samplers.ensures.items

pub loop-port-preserved : goal.loop-port-preserved
loop-port-preserved c =
    let ports = c.args.source.now.ports in
    let i = c.loop-port.port-index in
    let port = c.port-item.result in
    let test = is_number_output c.is_stallable-stalls.result in
    let sampler = sampler_of c.args.cycles in
    let more = items-more c.as_slice-port-items.result.now ports i port port c.as_slice-port-items.ensures c.loop-port-test.true c.port-item.is refl in
    elim c.if-is_number_output.branch [
      | then-is_number_output+in_ok-push w ↦ (
          ap (λ (samplers : Vec Sampler Global). samplers.items) w.samplers-is ∙ w.in_ok-push.ensures.items
          ∙ (λ j. c.loop-port.invariant j ++ record {
            period = w.step_of.ensures.step j;
            delay =
                w.lateness_of-latency.ensures j / c.args.cycles;
            phase =
                w.lateness_of-latency.ensures j % c.args.cycles;
          } ∷ [])
          ∙ kept-one sampler test (take i ports) port (sym c.is_number_output.ensures ∙ w.if-is_number_output.true) ∙ ap (λ xs. map sampler (filter test xs)) (sym more))
      | else-is_number_output w ↦ (
          ap (λ (samplers : Vec Sampler Global). samplers.items) w.samplers-is ∙ c.loop-port.invariant
          ∙ kept-none sampler test (take i ports) port (sym c.is_number_output.ensures ∙ w.if-is_number_output.false) ∙ ap (λ xs. map sampler (filter test xs)) (sym more))
    ]
