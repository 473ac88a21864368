-- The numbers of the nets that readers name, in the order in which they are closed.
use Rattle.std.proofs.Common.{◌≡◌, ℕ, suc, ◌+◌, ◌-◌, ◌≤◌, Bool, true, false, if◌then◌else◌, List, Some, ap, sym, ◌∙◌, arith}
use Rattle.std.specs.Prelude.{slice_get}
use Rattle.dg_model.specs.declared.diagram.Diagram.{Diagram}
use Rattle.dg_model.specs.declared.diagram.Block.{Block}
use Rattle.dg_model.specs.Attributes.{attributes_of}
use Rattle.dg_model.specs.Library.{row_of}
use Rattle.dg_model.specs.Solves.{IsShown, shown_ports, shown_width}
use Rattle.hw_build.specs.inner.HubPlaces.{before, hub_at, hub_start, is_input_role, own_count, own_hubs, port_size}
use Rattle.hw_build.specs.inner.ElementLoop.{StoodHubs, port_start}

module _ (diagram : Diagram) (firsts : List (List ℕ)) (stood : StoodHubs diagram firsts) (block : ℕ) (b : Block) where
  -- of an element
  pub hub_is : (port element : ℕ) → IsShown diagram (attributes_of diagram) block b port element
      → is_input_role (row_of b.kind).place.role ≡ false
      → port_start diagram block b (port - 1) + element ≡ hub_at firsts block port element
  hub_is port element shown other = sym (stood.has.of_others block b port element shown other)

  -- behind a port
  pub port_ends : (port width : ℕ) → 1 ≤ port → width ≡ shown_width diagram (attributes_of diagram) b.kind block port → port_start diagram block b (port - 1) + width ≡ port_start diagram block b port
  port_ends port width from wide =
      let here : suc (port - 1) ≡ port = omega (arith, from) in
      let size : port_size diagram block b (port - 1) ≡ shown_width diagram (attributes_of diagram) b.kind block port = ap (shown_width diagram (attributes_of diagram) b.kind block) here in
      let next : before (port_size diagram block b) (suc (port - 1)) ≡ before (port_size diagram block b) port = ap (before (port_size diagram block b)) here in
      omega (arith, size, next, wide)

module _ (diagram : Diagram) (block : ℕ) (b : Block) (at : slice_get diagram.blocks block ≡ Some b) where
  own_are : (input : Bool) → is_input_role (row_of b.kind).place.role ≡ input → own_hubs diagram block ≡ (if input then 0 else before (port_size diagram block b) (shown_ports b.kind b.outputs))
  own_are input is = ap (own_count diagram block) at ∙ ap (λ (flag : Bool). if flag then 0 else before (port_size diagram block b) (shown_ports b.kind b.outputs)) is

  -- behind a block
  pub block_ends : is_input_role (row_of b.kind).place.role ≡ false → port_start diagram block b (shown_ports b.kind b.outputs) ≡ hub_start diagram (suc block)
  block_ends other = let own = own_are false other in omega (arith, own)

  -- a root input has none of its own
  pub block_skipped : is_input_role (row_of b.kind).place.role ≡ true → hub_start diagram block ≡ hub_start diagram (suc block)
  block_skipped input = let own = own_are true input in omega (arith, own)
