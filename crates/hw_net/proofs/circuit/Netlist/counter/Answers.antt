use Rattle.std.proofs.Common.{◌≡◌, ◌∙◌, sym, None, refl, false}
use Rattle.hw_net.specs.declared.netlist.Net.{Net}
use Rattle.hw_net.specs.declared.netlist.NetKind.TheVariants.{Counter}
use Rattle.hw_net.specs.Frames.{counter_of}
use Rattle.hw_net.proofs.Index.{counter-found}
use Rattle.hw_net.proofs.circuit.Netlist.counter.Goals as goal

pub returns-clause-found : goal.returns-clause-found
returns-clause-found c =
    let none : counter_of c.args.self.now.nets c.args.frame ≡ None = sym c.counter_of.ensures ∙ c.in_default.is in
    let net : Net = record { signed = false; width = c.count_width.result; kind = Counter c.args.frame } in
    counter-found c.add.result c.args.self.now c.add.new.self net c.args.frame none refl c.add.ensures.number c.add.ensures.grown
