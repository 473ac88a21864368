use Rattle.std.proofs.Common.{◌≡◌, ℕ, List, ◌-◌, ◌∙◌, ap, arith, drop, length, map, take}
use Rattle.std.specs.List.{zip}
use Rattle.std.proofs.lemmas.List.{length-map, take_rest}
use Rattle.std.proofs.lemmas.Slice.Zip.{length-zip}
use Rattle.std.proofs.lemmas.Result.{IfOk-weaker}
use Rattle.vl_ast.specs.declared.modules.Module.{Module}
use Rattle.vl_ast.specs.Attributes.{clocks_of}
use Rattle.vl_ast.specs.Driven.{output_ports, stimulus_ports}
use Rattle.st_wrap.specs.inner.Columns.{input_column, output_column}
use Rattle.st_wrap.specs.inner.Wrapper.{inputs_of, made_of, outputs_of}
use Rattle.st_wrap.proofs.ColumnPorts.{input-columns, others-behind}
use Rattle.st_wrap.proofs.wrapping.module_of.Goals as goal

-- as many columns as inputs have names
columns-length : (core : Module) (names : List (List ℕ)) → length (map (output_column (clocks_of core) 0) (zip (stimulus_ports core) names)) ≡ length (zip (stimulus_ports core) names)
columns-length core names = length-map (zip (stimulus_ports core) names) (output_column (clocks_of core) 0)

pub slice_bounds-others-start : goal.slice_bounds-others-start
slice_bounds-others-start c = omega (
  arith,
  ap length (c.as_slice-ins.ensures ∙ c.in_ok-inputs.ensures),
  columns-length c.args.core.now c.args.names.now,
  length-zip (stimulus_ports c.args.core.now) c.args.names.now,
)

pub slice_bounds-others-count : goal.slice_bounds-others-count
slice_bounds-others-count c = omega (
  arith,
  ap length (c.as_slice-ins.ensures ∙ c.in_ok-inputs.ensures),
  columns-length c.args.core.now c.args.names.now,
  length-zip (stimulus_ports c.args.core.now) c.args.names.now,
)

pub returns : goal.returns
returns c =
    let core = c.args.core.now in
    let names = c.args.names.now in
    let cycles = clocks_of core in
    let first : c.in_ok-inputs.inputs ≡ inputs_of core names = c.in_ok-inputs.ensures ∙ input-columns cycles (zip (stimulus_ports core) names) in
    let n = length c.as_slice-ins.result.now in
    let others : take (length names - n) (drop n names) ≡ drop (length (stimulus_ports core)) names =
    take_rest names n ∙ ap (λ k. drop k names) (ap length (c.as_slice-ins.ensures ∙ first)) ∙ others-behind input_column (stimulus_ports core) names in
    let second : c.in_ok-outputs.outputs ≡ outputs_of core names = c.in_ok-outputs.ensures ∙ (λ i. map (output_column cycles (c.latest_in.ensures i)) (zip (output_ports core) (others i))) in
    let counters = c.counters_for-counters in
    IfOk-weaker c.whole_module.result _ _ (λ m is. record {
      counters = counters.result;
      counted = counters.ensures;
      is = is ∙ (λ i. made_of core counters.result ((c.as_slice-ins.ensures ∙ first) i) ((c.as_slice-outs.ensures ∙ second) i));
    }) (c.whole_module.ensures _ _ c.ports_of-ports.ensures c.items_of-items.ensures)
