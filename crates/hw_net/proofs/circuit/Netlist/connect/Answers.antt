use Rattle.std.proofs.Common.{◌≡◌, ◌∙◌, ap, None, ◌∷◌, [], slice_get, slice_set, Some, List, ℕ, refl}
use Rattle.hw_net.specs.declared.netlist.Net.{Net}
use Rattle.hw_net.specs.declared.netlist.NetKind.TheVariants.{Comb}
use Rattle.hw_net.specs.declared.netlist.NetOp.TheVariants.{Resize}
use Rattle.hw_net.specs.Frames.{counted_frame}
use Rattle.hw_net.proofs.Index.{in-place, index-set}
use Rattle.hw_net.proofs.circuit.Netlist.connect.Goals as goal

pub invariant_of-self : goal.invariant_of-self
invariant_of-self c =
    let there : slice_get c.self.inside.nets c.args.number ≡ Some c.requires.net = rw (← c.self.view_is) at c.requires.is in
    let none : counted_frame c.requires.net.kind ≡ None = ap counted_frame c.requires.resizes in
    rw (in-place c.self.inside.nets c.as_mut_slice.result.now c.args.number c.index-as_mut_slice-number.result c.requires.net (Comb Resize c.push.new.self) c.as_mut_slice.ensures.value there)
    (index-set c.self.inside.nets c.self.inside.counters c.args.number c.requires.net (Comb Resize c.push.new.self) c.self.invariant there none refl)

pub returns-clause-connected : goal.returns-clause-connected
returns-clause-connected c =
    let there : slice_get c.self.inside.nets c.args.number ≡ Some c.requires.net = rw (← c.self.view_is) at c.requires.is in
    let args : c.push.new.self ≡ c.args.argument ∷ [] = rw c.new-args.ensures at c.in_ok-push.ensures.appended in
    rw (← c.self.view_is) (record {
      net = c.requires.net;
      was = there;
      is = ap (λ (nets : List Net). record { cycles = c.self.inside.cycles; nets = nets; inputs = c.self.inside.inputs; outputs = c.self.inside.outputs; labels = c.self.inside.labels })
          (in-place c.self.inside.nets c.as_mut_slice.result.now c.args.number c.index-as_mut_slice-number.result c.requires.net (Comb Resize c.push.new.self) c.as_mut_slice.ensures.value there
          ∙ ap (λ (xs : List ℕ). slice_set c.self.inside.nets c.args.number (record c.requires.net { kind = Comb Resize xs })) args);
    })
