-- A netlist without ports and labels can be emitted.
use Rattle.std.proofs.Common.{◌≡◌, ◌≤◌, ◌++◌, All, length, arith}
use Rattle.std.proofs.lemmas.List.{length-append}
use Rattle.hw_net.specs.declared.netlist.Net.{Net}
use Rattle.hw_net.specs.Circuit.{Circuit}
use Rattle.math_list.proofs.Places.{held as at-place}
use Rattle.hw_net.specs.Emittable.{IsEmittable}
use Rattle.tests_hardware.specs.inner.NetTests.{IsCounted}

pub bare : (netlist : Circuit) → netlist.cycles ≤ 1024 → All (λ net. IsCounted netlist net.kind) netlist.nets
    → length netlist.inputs ≡ 0 → length netlist.outputs ≡ 0 → length netlist.labels ≡ 0 → IsEmittable netlist
bare netlist few counted inputs outputs labels =
    let ports : length (netlist.inputs ++ netlist.outputs) ≡ 0 = omega (arith, length-append netlist.inputs netlist.outputs, inputs, outputs) in
    record {
      cycles = few;
      counters = record { each = λ k net frame at own. at-place (λ (net : Net). IsCounted netlist net.kind) netlist.nets k net counted at frame own };
      ports = record {
        names = λ port held. let less = held.1 in absurd (omega (arith, less, ports));
        differ = λ i j d less below. absurd (omega (arith, below, ports));
        periods = λ port held. let less = held.1 in absurd (omega (arith, less, ports));
        latencies = λ port held. let less = held.1 in absurd (omega (arith, less, outputs));
      };
      labels = record {
        there = λ label held. let less = held.1 in absurd (omega (arith, less, labels));
        names = λ label held. let less = held.1 in absurd (omega (arith, less, labels));
        nets_differ = λ i j d less below. absurd (omega (arith, below, labels));
        names_differ = λ i j d less below. absurd (omega (arith, below, labels));
      };
    }
