-- The kind of a net that the code reads, and what drives a register with enable.
use Rattle.std.proofs.Common.{◌≡◌, ℕ, ℤ, Bool, true, false, Some, List, [], ◌∷◌, get_or, map, refl, subst, sym}
use Rattle.vl_ast.specs.Gated.{gated_condition, gated_item}
use Rattle.vl_ast.specs.declared.modules.ModItem.TheVariants.{Always}
use Rattle.hw_net.specs.declared.netlist.Frame.{Frame}
use Rattle.hw_net.specs.declared.netlist.Net.{Net}
use Rattle.hw_net.specs.declared.netlist.NetKind.{NetKind}
use Rattle.hw_net.specs.declared.netlist.NetKind.TheVariants.{Comb, EnReg, Unit}
use Rattle.hw_net.specs.Circuit.{Circuit}
use Rattle.vl_emit.specs.declared.source.Source.{Source}
use Rattle.vl_emit.specs.inner.NetItems.{constant, drivers_at, units_at}
use Rattle.vl_emit.specs.inner.Ready.{HasKind, IsNet, IsReady, circuit_of, taken_in, taking_in, wire_in}
use Rattle.vl_emit.proofs.Lists.{net-read}

pub read-kind : (source : Source) (own : ℕ) (read : List Net) (net : Net) → IsNet source own → read ≡ (circuit_of source).nets → net ≡ get_or read own net → HasKind source own net.kind
read-kind source own read net is same at = record {
  net = is;
  ready = subst (λ (n : Net). IsReady (circuit_of source) n.kind) (sym (net-read (circuit_of source).nets read own net same at is.there)) (is.is.ready.kinds own is.there);
}

-- what is no Unit has no driver of one
pub no-unit : (netlist : Circuit) (own : ℕ) (kind : NetKind) → ((left right : ℕ) → kind ≡ Unit left right → ⊥) → [] ≡ units_at netlist own kind
no-unit netlist own (Unit left right) not = absurd (not left right refl)
no-unit netlist own (Comb op args) not = refl
no-unit netlist own _ not = refl

module _ (source : Source) (own : ℕ) (frame : Frame) (enable : ℕ) where
  pub enabled-driver : (reset : Bool) (first : ℤ) (from : ℕ) → let number = constant (wire_in source own).width first in
      Always (wire_in source own).name number (Some (gated_condition (Some (taking_in source frame enable reset)))) (taken_in source enable reset from number) ∷ []
      ≡ map gated_item (drivers_at (circuit_of source) own (EnReg frame enable reset first from))
  enabled-driver true first from = refl
  enabled-driver false first from = refl
