-- What the sections on a netlist's module, and on a run of it, speak of.
use Rattle.std.proofs.Common.{ℕ, ◌+◌, ◌-◌, List, length, map, flat_map, ℤ}
use Rattle.vl_ast.specs.declared.modules.ModItem.{ModItem}
use Rattle.hw_net.specs.declared.netlist.Net.{Net}
use Rattle.hw_net.specs.declared.netlist.NetPort.{NetPort}
use Rattle.hw_net.specs.Circuit.{Circuit}
use Rattle.hw_net.specs.Products.{places, net_at}
use Rattle.vl_emit.specs.Names.{Wire, shown}
use Rattle.vl_emit.specs.inner.NetItems.{Naming, wire_of, naming_of, declarers, unit_drivers, other_drivers, output_item}

-- a netlist's clocks for a base sample, its nets, and how they are named
pub record Parts : Type 0 where
  pub cycles : ℕ
  pub count : ℕ
  pub net : ℕ → Net
  pub naming : Naming

abbrev pub parts_of : Circuit → Parts
parts_of netlist = record { cycles = netlist.cycles; count = length netlist.nets; net = net_at netlist.nets; naming = naming_of netlist }

-- the same with the clocks of a run after `reset`: how many, the row of each, and the number that a net has there
pub record Run : Type 0 where
  pub cycles : ℕ
  pub count : ℕ
  pub net : ℕ → Net
  pub naming : Naming
  pub wire : ℕ → Wire
  pub clocks : ℕ
  pub row : ℕ → List ℕ → ℕ
  pub value : ℕ → ℕ → ℤ

abbrev pub run_of : Circuit → ℕ → ℕ → (ℕ → List ℕ → ℕ) → Run
run_of netlist total last rows = record {
  cycles = netlist.cycles;
  count = length netlist.nets;
  net = net_at netlist.nets;
  naming = naming_of netlist;
  wire = wire_of (naming_of netlist) (net_at netlist.nets);
  clocks = total - (last + 1);
  row = λ clock. rows (last + 1 + clock);
  value = λ k clock. shown (rows (last + 1 + clock)) (wire_of (naming_of netlist) (net_at netlist.nets) k);
}

-- the items of a module: declarations, the drivers of units, the other drivers, and what shows the outputs
pub record Items : Type 0 where
  pub declaring : List ModItem
  pub units : List ModItem
  pub others : List ModItem
  pub showing : List ModItem

abbrev pub items_in : ℕ → ℕ → Naming → (ℕ → Net) → List NetPort → Items
items_in cycles count naming net outputs = record {
  declaring = flat_map (λ k. declarers naming net k (net k).kind) (places count);
  units = flat_map (λ k. unit_drivers cycles naming net k (net k).kind) (places count);
  others = flat_map (λ k. other_drivers cycles naming net k (net k).kind) (places count);
  showing = map (output_item naming) outputs;
}
