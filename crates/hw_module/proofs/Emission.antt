-- The clauses of an emission as one fact.
use Rattle.std.proofs.Common.{Result, Ok, Err, IfOk}
use Rattle.vl_ast.specs.declared.modules.Module.{Module}
use Rattle.vl_ast.specs.Conditions.{BreaksNone}
use Rattle.vl_ast.specs.Stalls.{KeepsBits}
use Rattle.hw_net.specs.Circuit.{Circuit}
use Rattle.vl_emit.specs.Header.{HasHeader}
use Rattle.vl_emit.specs.Items.{ItemsAre, NamesDiffer}
use Rattle.vl_emit.specs.Labelled.{LabelsAreNames}
use Rattle.vl_emit.specs.Products.{ProductsAre}
use Rattle.vl_emit.specs.Reads.{ReadsOnly}
use Rattle.vl_emit.specs.Registers.{RegistersAre}
use Rattle.vl_emit.specs.Shown.{NetsAreShown, NetsFit, OutputsAreShown}
use Rattle.hw_module.specs.inner.Emission.{IsEmissionOf}

pub emission-of : {E : Type 0} (netlist : Circuit) (r : Result Module E) → IfOk r (HasHeader netlist)
    → IfOk r BreaksNone → IfOk r KeepsBits → IfOk r (NetsAreShown netlist) → IfOk r (OutputsAreShown netlist)
    → IfOk r (ProductsAre netlist) → IfOk r (ReadsOnly netlist)
    → IfOk r (RegistersAre netlist) → IfOk r (LabelsAreNames netlist) → IfOk r (ItemsAre netlist) → IfOk r (λ m. NamesDiffer netlist) → IfOk r (NetsFit netlist) → IfOk r (IsEmissionOf netlist)
emission-of netlist (Ok m) header conditions keeps nets outputs products reads registers labels items names fit = record {
  header = header;
  conditions = conditions;
  keeps = keeps;
  nets = nets;
  fit = fit;
  outputs = outputs;
  products = products;
  reads = reads;
  items = items;
  registers = registers;
  labels = labels;
  names = names;
}
emission-of netlist (Err e) header conditions keeps nets outputs products reads registers labels items names fit = tt
