-- The ports of the module of a netlist are declared with their words.
use Rattle.std.proofs.Common.{◌≡◌, inl, inr, ℕ, Bool, List, Contains, ap, sym, ◌∙◌, subst, refl}
use Rattle.vl_ast.specs.declared.modules.Port.{Port}
use Rattle.vl_ast.specs.declared.modules.ModItem.{ModItem}
use Rattle.vl_ast.specs.declared.modules.Module.{Module}
use Rattle.vl_ast.specs.Nets.{Declared, port_declared, nets_of}
use Rattle.hw_net.specs.declared.netlist.Net.{Net}
use Rattle.hw_net.specs.declared.netlist.NetPort.{NetPort}
use Rattle.vl_emit.specs.inner.NetItems.{Naming}
use Rattle.vl_emit.specs.Names.{Wire}
use Rattle.vl_emit.specs.inner.Sound.{IsSound, IsPort, IsEmitted}
use Rattle.vl_emit.proofs.ModuleNets.{net-of-name, declared-where, declared-port}
use Rattle.vl_emit.proofs.NetItems.{of-a-net}

module _ (cycles count : ℕ) (naming : Naming) (net : ℕ → Net) (rank : ℕ → ℕ) (outputs : List NetPort) (m : Module)
    (sound : IsSound cycles count naming net rank) (emitted : IsEmitted cycles count naming net outputs m) where
  -- a port's name is declared with its word
  pub port-net : (port : Port) → Contains m.ports port → nets_of m port.name ≡ record { width = port.width; signed = port.signed }
  port-net port c =
      net-of-name m port.name (record { width = port.width; signed = port.signed }) (port_declared port) (declared-port m port c) refl
      (λ other d e. elim (declared-where m other d) [
        | inl p ↦ (let same : p.0 ≡ port = emitted.ports.differ p.0 port p.1 c (ap (λ (x : Declared). x.name) p.2 ∙ e) in
            sym (ap (λ (x : Declared). x.net) p.2) ∙ ap (λ (x : Port). (port_declared x).net) same)
        | inr p ↦ (let r = of-a-net cycles count naming net outputs p.0 other (subst (λ (l : List ModItem). Contains l p.0) emitted.items p.1) p.2 in
            elim r.2.0 [
              | inl n ↦ absurd (emitted.names.no_net port c r.0 r.1 (sym e ∙ n))
              | inr n ↦ absurd (emitted.names.no_hold port c r.0 r.1 (sym e ∙ n))
            ])
      ])

  pub named-net : (inward : Bool) (wire : Wire) → IsPort m inward wire → nets_of m wire.name ≡ record { width = wire.width; signed = wire.signed }
  named-net inward wire p =
      subst (λ (name : List ℕ). nets_of m name ≡ record { width = wire.width; signed = wire.signed }) p.name
      (port-net p.port p.there ∙ (λ i. record { width = p.width i; signed = p.signed i }))
