-- What the module of a netlist shows.
use Rattle.std.proofs.Common.{ℕ, ◌+◌, ◌^◌, ◌<◌, ◌≤◌, Bool, true, false, length, codes, ap, sym, ◌∙◌, arith}
use Rattle.vl_ast.specs.declared.expressions.Expr.TheVariants as expression
use Rattle.vl_ast.specs.declared.modules.Module.{Module}
use Rattle.vl_ast.specs.Context.{Net as DeclaredNet}
use Rattle.vl_ast.specs.Nets.{nets_of}
use Rattle.vl_ast.specs.Value.{assigned}
use Rattle.hw_net.specs.Circuit.{Circuit}
use Rattle.hw_net.specs.Closed.{CounterIsTelling}
use Rattle.hw_net.specs.Netlist.{IsNetlist}
use Rattle.hw_net.specs.Step.{StepsGiveRows}
use Rattle.hw_net.specs.Emittable.{IsEmittable}
use Rattle.vl_emit.specs.Names.{Wire, name_of, net_wire, input_wire, shown}
use Rattle.hw_net.specs.Products.{net_at}
use Rattle.vl_emit.specs.Shown.{IsReset, NetsAreShown, OutputsAreShown}
use Rattle.vl_emit.specs.inner.NetItems.{naming_of, plain_module, module_of}
use Rattle.vl_emit.specs.inner.Sound.{wire_of_output}
use Rattle.vl_emit.proofs.AtWidth.{as-name, assigned-written}
use Rattle.vl_emit.proofs.Interfaces.{emitted}
use Rattle.vl_emit.proofs.NetItems.{has-outputs}
use Rattle.vl_emit.proofs.OfOperations.{width-at-least}
use Rattle.vl_emit.proofs.EnablePorts.{enable-nets, enable-there, gated-there, kept-net, plain-run}
use Rattle.vl_emit.proofs.Origins.{has}
use Rattle.vl_emit.proofs.Ports.{named-net}
use Rattle.vl_emit.proofs.NetBits.{Running, wire-shows}
use Rattle.vl_emit.proofs.Waves.{rows-are}
use Rattle.vl_emit.proofs.Sounds.{netlist-sound}

module _ (netlist : Circuit) (runs : IsNetlist netlist) (emits : IsEmittable netlist) (few : length netlist.nets < 2 ^ 64) where
  pub nets-are-shown : CounterIsTelling → StepsGiveRows → NetsAreShown netlist (module_of netlist)
  nets-are-shown telling stepping = record {
    are = λ total last start inputs rows run on.
        let sound = netlist-sound netlist runs emits.counters in
        let em = emitted netlist runs emits few in
        let run_plain = plain-run netlist runs emits few total start inputs rows run.runs on in
        let reset : IsReset (plain_module netlist) total last start inputs rows = record { runs = run_plain; within = run.within; reset = run.reset; released = run.released } in
        let running : Running netlist runs.ranked.0 (plain_module netlist) total last start inputs rows = record { sound = sound; has = has netlist runs emits few; reset = reset } in
        rows-are running telling stepping runs
        (λ k h clock port args is below.
        wire-shows (plain_module netlist) total start inputs rows run_plain (last + 1 + clock) (omega (arith, below)) (input_wire netlist port)
        (named-net netlist.cycles (length netlist.nets) (naming_of netlist)
        (net_at netlist.nets) runs.ranked.0 netlist.outputs (plain_module netlist) sound em true
        (input_wire netlist port) (em.ports.inputs k port args h is))
        (em.ports.words k port args h is));
  }

  pub outputs-are-shown : OutputsAreShown netlist (module_of netlist)
  outputs-are-shown = record {
    are = λ total start inputs rows run k below output c.
        let m : Module = module_of netlist in
        let sound = netlist-sound netlist runs emits.counters in
        let em = emitted netlist runs emits few in
        let h = em.ports.there output c in
        let width : ℕ = (net_at netlist.nets output.net).width in
        let signed : Bool = (net_at netlist.nets output.net).signed in
        let some : 1 ≤ width = width-at-least signed width (sound.word output.net h) in
        let own = kept-net netlist runs emits few (name_of netlist output.net) width signed ((has netlist runs emits few).declared output.net h) some in
        let shows = wire-shows (module_of netlist) total start inputs rows run k below (net_wire netlist output.net) own (sound.word output.net h) in
        let declared = kept-net netlist runs emits few output.name width signed
        (named-net netlist.cycles (length netlist.nets) (naming_of netlist)
        (net_at netlist.nets) runs.ranked.0 netlist.outputs (plain_module netlist) sound em false
        (wire_of_output (net_at netlist.nets) output) (em.ports.outputs_are output c)) some in
        run.assigns k below output.name (expression.Name (name_of netlist output.net))
        (gated-there netlist runs emits few _ (has-outputs netlist.cycles (length netlist.nets) (naming_of netlist) (net_at netlist.nets) netlist.outputs output c))
        ∙ ap (λ (n : DeclaredNet). assigned (nets_of m) (rows k) n.width (expression.Name (name_of netlist output.net))) declared
        ∙ assigned-written (nets_of m) (rows k) (net_at netlist.nets output.net).width (shown (rows k) (net_wire netlist output.net)) (expression.Name (name_of netlist output.net))
        (as-name (nets_of m) (rows k) (net_wire netlist output.net) (shown (rows k) (net_wire netlist output.net)) shows)
        ∙ sym shows.bits;
    enable = λ total start inputs rows run k below.
        let m : Module = module_of netlist in
        let wire : Wire = record { name = codes "clk_enable"; width = 1; signed = false } in
        let shows = wire-shows (module_of netlist) total start inputs rows run k below wire (enable-nets netlist runs emits few).0 (omega arith, omega arith) in
        run.assigns k below (codes "ce_out") (expression.Name (codes "clk_enable")) (enable-there netlist runs emits few)
        ∙ ap (λ (n : DeclaredNet). assigned (nets_of m) (rows k) n.width (expression.Name (codes "clk_enable"))) (enable-nets netlist runs emits few).1
        ∙ assigned-written (nets_of m) (rows k) 1 (shown (rows k) wire) (expression.Name (codes "clk_enable")) (as-name (nets_of m) (rows k) wire (shown (rows k) wire) shows)
        ∙ sym shows.bits;
  }
