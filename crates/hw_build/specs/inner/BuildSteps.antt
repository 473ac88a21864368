-- What the steps of a building ask and leave, by what a netlist is built from (own).
use Rattle.std.specs.Prelude.{◌≡◌, ℕ, List, []}
use Rattle.dg_model.specs.Attributes.{attributes_of}
use Rattle.dg_model.specs.RootElements.{root_inputs}
use Rattle.dg_tables.specs.Listing.{AreBlocksOf}
use Rattle.hw_net.specs.Circuit.{Circuit}
use Rattle.hw_build.specs.declared.design.Design.{Design}
use Rattle.hw_build.specs.Places.{Places}
use Rattle.hw_build.specs.inner.RootOutputs.{IsSmall}
use Rattle.hw_build.specs.inner.Factors.{HasSlots}
use Rattle.hw_build.specs.inner.DesignTimes.{IsDesigned, times_for}
use Rattle.hw_build.specs.inner.Done.{IsDone}
use Rattle.hw_build.specs.inner.AllElements.{IsFilled}
use Rattle.hw_build.specs.inner.HubPlaces.{hubs_in_all}
use Rattle.hw_build.specs.inner.PortSteps.{AreInputFirsts, AreOutputFirsts}

-- a netlist without a net
abbrev pub empty_circuit : ℕ → Circuit
empty_circuit cycles = record { cycles = cycles; nets = []; inputs = []; outputs = []; labels = [] }

abbrev pub IsEmptyFor : Design → Circuit → Type 0
IsEmptyFor design netlist = netlist ≡ empty_circuit design.plan.now.cycles

abbrev pub AreInputBlocks : Design → List ℕ → Type 0
AreInputBlocks design blocks =
    AreBlocksOf
    (root_inputs design.checked.now.diagram (attributes_of design.checked.now.diagram)) blocks

-- all nets stand, those that readers name from these on
pub record IsFilledFor (design : Design) (netlist : Circuit) (firsts : List (List ℕ)) : Type 0 where
  pub places : Places
  pub place_of : ℕ → ℕ
  pub filled : IsFilled design.checked.now.diagram design.plan.now
      (times_for design) firsts places place_of netlist
  pub inputs : AreInputFirsts design.checked.now.diagram firsts
  pub outputs : AreOutputFirsts design.checked.now.diagram firsts

-- a design with its slots, that keeps the rule of size
pub record CanBuild (design : Design) : Type 0 where
  pub designed : IsDesigned design
  pub slots : HasSlots design
  pub small : IsSmall design

-- the netlist is done
pub record IsDoneFor (design : Design) (netlist : Circuit) : Type 0 where
  pub places : Places
  pub done : IsDone design.checked.now.diagram design.plan.now (times_for design) places
      (hubs_in_all design.checked.now.diagram) netlist
