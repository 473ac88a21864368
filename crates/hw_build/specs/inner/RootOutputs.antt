-- The root outputs of a design (own).
use Rattle.std.specs.Prelude.{ℕ, List}
use Rattle.dg_model.specs.Attributes.{attributes_of}
use Rattle.dg_model.specs.RootElements.{root_outputs}
use Rattle.dg_model.specs.Wires.{width_into}
use Rattle.dg_tables.specs.Listing.{AreBlocksOf}
use Rattle.hw_net.specs.declared.netlist.NetPort.{NetPort}
use Rattle.hw_net.specs.Circuit.{Circuit}
use Rattle.hw_sched.specs.Ready.{declared_latency}
use Rattle.hw_sched.specs.Storage.{KeepsSize}
use Rattle.hw_build.specs.declared.design.Design.{Design}
use Rattle.hw_names.specs.declared.names.Names.{Names}
use Rattle.hw_build.specs.inner.DesignTimes.{times_for}
use Rattle.hw_build.specs.inner.HubPlaces.{hub_at}
use Rattle.hw_build.specs.inner.PortSteps.{IsPortOf, AddsOutputPorts}

-- it keeps the rule of size
abbrev pub IsSmall : Design → Type 0
IsSmall design = KeepsSize design.checked.now.diagram design.plan.now (times_for design)

-- the latency of a block
abbrev pub clocks_to : Design → ℕ → ℕ
clocks_to design block =
    declared_latency design.checked.now.diagram
    (attributes_of design.checked.now.diagram) design.plan.now (times_for design) block

-- these are the blocks of its root outputs
abbrev pub AreOutputBlocks : Design → List ℕ → Type 0
AreOutputBlocks design blocks =
    AreBlocksOf
    (root_outputs design.checked.now.diagram (attributes_of design.checked.now.diagram)) blocks

-- the port of an element of a block
abbrev pub IsOutputPort : Design → List (List ℕ) → Names → Names → ℕ → ℕ → NetPort → Type 0
IsOutputPort design firsts old new block element port =
    IsPortOf design.checked.now.diagram old new block
    (width_into design.checked.now.diagram (attributes_of design.checked.now.diagram) block 1)
    element (hub_at firsts block 1 element) (clocks_to design block) port

-- so many ports were put in
abbrev pub AddsOutputs : Design → List (List ℕ) → Names → Names → Circuit → Circuit → ℕ → Type 0
AddsOutputs design firsts old new earlier later count =
    AddsOutputPorts design.checked.now.diagram design.plan.now
    (times_for design) firsts old new earlier later count
