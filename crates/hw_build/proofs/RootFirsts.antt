-- The nets of root ports begin where the hubs say.
use Rattle.std.proofs.Common.{ℕ, List, ap, arith}
use Rattle.dg_model.specs.declared.diagram.Diagram.{Diagram}
use Rattle.dg_model.specs.Attributes.{attributes_of}
use Rattle.dg_model.specs.Checked.{IsChecked}
use Rattle.dg_model.specs.Laws.{InputsAreListed, OutputsAreListed}
use Rattle.dg_model.specs.Library.{row_of}
use Rattle.hw_net.specs.Circuit.{Circuit}
use Rattle.hw_sched.proofs.Periods.{readable_at}
use Rattle.hw_build.specs.inner.HubPlaces.{is_input_role, hub_at, HasHubs}
use Rattle.hw_build.specs.inner.PortSteps.{AreInputFirsts, AreOutputFirsts}
use Rattle.hw_build.proofs.HubsOnly.{place_other}
use Rattle.hw_build.proofs.WithPorts.{output_shown}
use Rattle.hw_build.proofs.HubStart.{role_is_input, one_port}

module _ (diagram : Diagram) (earlier later : Circuit) (firsts : List (List ℕ)) (has : HasHubs diagram earlier later firsts) (checked : IsChecked diagram) where
  pub inputs_first : InputsAreListed → AreInputFirsts diagram firsts
  inputs_first listed = record {
    there = λ k e at.
        let of = (listed diagram (attributes_of diagram) checked.wired).elements_of k e at in
        let one = one_port of.0.kind of.0.inputs of.0.outputs (readable_at diagram checked.wired e.block of.0 of.1).ports (role_is_input (row_of of.0.kind).place.role e.number of.2) in
        let low = has.there e.block of.0 1 of.1 (omega arith) (omega (arith, one)) in
        omega (arith, low);
    at = has.of_inputs;
  }

  pub outputs_first : OutputsAreListed → AreOutputFirsts diagram firsts
  outputs_first listed = record {
    there = λ k e at.
        let is = output_shown diagram checked.wired listed k e at in
        let low = has.there e.block is.b 1 is.shown.block_is is.shown.port_from is.shown.port_to in
        omega (arith, low);
    small = λ k e at.
        let is = output_shown diagram checked.wired listed k e at in
        let place = place_other diagram earlier later firsts has e.block is.b 1 e.element is.shown (ap is_input_role is.role) in
        (has.fresh e.block is.b (hub_at firsts e.block 1 e.element) is.shown.block_is place.0 place.1).1;
  }
