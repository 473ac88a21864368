use Rattle.std.proofs.Common.{rules, ◌≡◌, All, ◌≤◌, length}
use Rattle.tests_hardware.specs.inner.NetTests.{IsCounted}
use Rattle.tests_hardware.proofs.BareNetlists.{bare}
use Rattle.tests_hardware.proofs.modules.is_bare.Goals as goal

pub returns : goal.returns
returns c = λ empty.
    let few : c.args.netlist.now.cycles ≤ 1024 = search rules in
    let counted : All (λ net. IsCounted c.args.netlist.now net.kind) c.args.netlist.now.nets = search rules in
    let inputs : length c.args.netlist.now.inputs ≡ 0 = search rules in
    let outputs : length c.args.netlist.now.outputs ≡ 0 = search rules in
    let labels : length c.args.netlist.now.labels ≡ 0 = search rules in
    bare c.args.netlist.now few counted inputs outputs labels
