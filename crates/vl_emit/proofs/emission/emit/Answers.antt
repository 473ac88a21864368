use Rattle.std.proofs.Common.{◌<◌, ◌^◌, length}
use Rattle.vl_ast.specs.Conditions.{BreaksNone}
use Rattle.vl_ast.specs.Stalls.{KeepsBits}
use Rattle.vl_ast.specs.Grammar.{Spells}
use Rattle.vl_ast.specs.Spelling.{spelling}
use Rattle.vl_emit.specs.Header.{HasHeader}
use Rattle.vl_emit.specs.Items.{ItemsAre, NamesDiffer}
use Rattle.vl_emit.specs.Labelled.{LabelsAreNames}
use Rattle.vl_emit.specs.Products.{ProductsAre}
use Rattle.vl_emit.specs.Reads.{ReadsOnly}
use Rattle.vl_emit.specs.Registers.{RegistersAre}
use Rattle.vl_emit.specs.Shown.{NetsAreShown, NetsFit, OutputsAreShown}
use Rattle.vl_emit.specs.inner.NetItems.{module_of}
use Rattle.vl_emit.proofs.ModuleItems.{items-are, labels-are, names-differ, nets-fit}
use Rattle.vl_emit.proofs.ProductAssigns.{products-are}
use Rattle.vl_emit.proofs.Multiplications.{registers-are}
use Rattle.vl_emit.proofs.EnablePorts.{gated-breaks, header, keeps-bits}
use Rattle.vl_emit.proofs.ItemReads.{reads-only}
use Rattle.vl_emit.proofs.Result.{if-made}
use Rattle.vl_emit.proofs.Spellings.{spells}
use Rattle.vl_emit.proofs.Shows.{nets-are-shown, outputs-are-shown}
use Rattle.vl_emit.proofs.emission.emit.Goals as goal

pub module_of-requires : goal.module_of-requires
module_of-requires c = record { runs = c.requires.runs; counters = c.requires.emittable.counters; labels = c.requires.emittable.labels.there }

pub returns : goal.returns
returns c =
    let n = c.args.netlist.now in
    let few = length c.args.netlist.now.nets < 2 ^ 64 in
    let runs = c.requires.runs in
    let emits = c.requires.emittable in
    let is = c.module_of.ensures.is in
    let small = c.module_of.ensures.few in
    record {
      header = if-made (module_of c.args.netlist.now) (length c.args.netlist.now.nets < 2 ^ 64)
          (HasHeader c.args.netlist.now) c.module_of.result is small (λ h. header c.args.netlist.now runs emits h);
      conditions = if-made (module_of c.args.netlist.now) (length c.args.netlist.now.nets < 2 ^ 64) BreaksNone c.module_of.result is small (λ h. gated-breaks c.args.netlist.now runs emits h);
      keeps = if-made (module_of c.args.netlist.now) (length c.args.netlist.now.nets < 2 ^ 64) KeepsBits c.module_of.result is small (λ h. keeps-bits c.args.netlist.now runs emits h);
      nets = if-made (module_of c.args.netlist.now) (length c.args.netlist.now.nets < 2 ^ 64) (NetsAreShown c.args.netlist.now) c.module_of.result is small
          (λ h. nets-are-shown c.args.netlist.now runs emits h c.counter_is_telling.ensures c.steps_give_rows.ensures);
      outputs = if-made (module_of c.args.netlist.now) (length c.args.netlist.now.nets < 2 ^ 64)
          (OutputsAreShown c.args.netlist.now) c.module_of.result is small
          (λ h. outputs-are-shown c.args.netlist.now runs emits h);
      products = if-made (module_of c.args.netlist.now) (length c.args.netlist.now.nets < 2 ^ 64)
          (ProductsAre c.args.netlist.now) c.module_of.result is small
          (λ h. products-are c.args.netlist.now runs emits h);
      reads = if-made (module_of c.args.netlist.now) (length c.args.netlist.now.nets < 2 ^ 64)
          (ReadsOnly c.args.netlist.now) c.module_of.result is small
          (λ h. reads-only c.args.netlist.now runs emits h);
      registers = if-made (module_of c.args.netlist.now) (length c.args.netlist.now.nets < 2 ^ 64)
          (RegistersAre c.args.netlist.now) c.module_of.result is small
          (λ h. registers-are c.args.netlist.now runs emits h);
      labels = if-made (module_of c.args.netlist.now) (length c.args.netlist.now.nets < 2 ^ 64)
          (LabelsAreNames c.args.netlist.now) c.module_of.result is small
          (λ h. labels-are c.args.netlist.now runs emits h);
      items = if-made (module_of c.args.netlist.now) (length c.args.netlist.now.nets < 2 ^ 64)
          (ItemsAre c.args.netlist.now) c.module_of.result is small
          (λ h. items-are c.args.netlist.now runs emits h);
      names = if-made (module_of c.args.netlist.now) (length c.args.netlist.now.nets < 2 ^ 64)
          (λ m. NamesDiffer c.args.netlist.now) c.module_of.result is small
          (λ h. names-differ c.args.netlist.now runs emits h);
      spelled = if-made (module_of c.args.netlist.now) (length c.args.netlist.now.nets < 2 ^ 64) (λ m. Spells (spelling m) m) c.module_of.result is small (λ h. spells c.args.netlist.now runs emits h);
      fit = if-made (module_of c.args.netlist.now) (length c.args.netlist.now.nets < 2 ^ 64) (NetsFit c.args.netlist.now) c.module_of.result is small (λ h. nets-fit c.args.netlist.now runs emits h);
    }
