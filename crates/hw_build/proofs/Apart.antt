-- Different elements have different nets that readers name.
use Rattle.std.proofs.Common.{◌≡◌, ℕ, suc, ◌+◌, ◌-◌, inl, inr, false, List, length, ap, sym, ◌∙◌, subst, arith}
use Rattle.std.specs.Prelude.{slice_get}
use Rattle.std.proofs.lemmas.Option.{same_Some, slice_get_within}
use Rattle.dg_model.specs.declared.diagram.Diagram.{Diagram}
use Rattle.dg_model.specs.declared.diagram.Block.{Block}
use Rattle.dg_model.specs.Library.{row_of}
use Rattle.dg_model.specs.Attributes.{attributes_of}
use Rattle.dg_model.specs.Laws.{InputsAreListed}
use Rattle.dg_model.specs.RootElements.{root_inputs}
use Rattle.dg_model.specs.Solves.{IsShown, shown_ports, shown_width}
use Rattle.dg_tables.specs.Laws.{IsOrdered, TypesAreValid}
use Rattle.hw_net.specs.Circuit.{Circuit}
use Rattle.hw_build.specs.inner.HubPlaces.{before, is_input_role, own_hubs, port_size, owner_in, hub_at, HasHubs}
use Rattle.hw_build.proofs.HubsOnly.{owner_is, place_other, place_input}
use Rattle.std.proofs.lemmas.Bool.{cases_Bool}

module _ (diagram : Diagram) (order : List ℕ) (earlier later : Circuit) (firsts : List (List ℕ))
    (has : HasHubs diagram earlier later firsts) (listed : InputsAreListed) (valid : TypesAreValid)
    (ordered : IsOrdered diagram order) where
  -- of blocks that are no root inputs
  same_block : (block : ℕ) (b : Block) (port element : ℕ) (other : ℕ) (q : Block) (outer member : ℕ)
      → IsShown diagram (attributes_of diagram) block b port element
      → IsShown diagram (attributes_of diagram) other q outer member
      → is_input_role (row_of b.kind).place.role ≡ false → is_input_role (row_of q.kind).place.role ≡ false
      → hub_at firsts other outer member ≡ hub_at firsts block port element → block ≡ other
  same_block block b port element other q outer member shown also is_other is_too same =
      let one = place_other diagram earlier later firsts has block b port element shown is_other in
      let two = place_other diagram earlier later firsts has other q outer member also is_too in
      let low = one.0 in
      let high = one.1 in
      let low_too = two.0 in
      let high_too = two.1 in
      let roots : ℕ = length (root_inputs diagram (attributes_of diagram)) in
      sym (owner_is (own_hubs diagram) (length diagram.blocks) block (hub_at firsts block port element - roots)
      (slice_get_within diagram.blocks block b shown.block_is) (omega (arith, low)) (omega (arith, low, high)))
      ∙ owner_is (own_hubs diagram) (length diagram.blocks) other (hub_at firsts block port element - roots)
      (slice_get_within diagram.blocks other q also.block_is) (omega (arith, low_too, same))
      (omega (arith, low_too, high_too, same))

  -- of one block
  same_element : (block : ℕ) (b : Block) (port element outer member : ℕ)
      → IsShown diagram (attributes_of diagram) block b port element
      → IsShown diagram (attributes_of diagram) block b outer member
      → is_input_role (row_of b.kind).place.role ≡ false
      → hub_at firsts block outer member ≡ hub_at firsts block port element
      → (port ≡ outer) × (element ≡ member)
  same_element block b port element outer member shown also is_other same =
      let size : ℕ → ℕ = port_size diagram block b in
      let one = has.of_others block b port element shown is_other in
      let two = has.of_others block b outer member also is_other in
      let from = shown.port_from in
      let to = shown.port_to in
      let from_too = also.port_from in
      let to_too = also.port_to in
      let here : suc (port - 1) ≡ port = omega (arith, from) in
      let here_too : suc (outer - 1) ≡ outer = omega (arith, from_too) in
      let wide : size (port - 1) ≡ shown_width diagram (attributes_of diagram) b.kind block port = ap (shown_width diagram (attributes_of diagram) b.kind block) here in
      let wide_too : size (outer - 1) ≡ shown_width diagram (attributes_of diagram) b.kind block outer = ap (shown_width diagram (attributes_of diagram) b.kind block) here_too in
      let below = shown.element_below in
      let below_too = also.element_below in
      let x : ℕ = before size (port - 1) + element in
      let flat : before size (outer - 1) + member ≡ before size (port - 1) + element = omega (arith, one, two, same) in
      let owner : owner_in size (shown_ports b.kind b.outputs) (before size (port - 1) + element) ≡ port - 1 =
      owner_is size (shown_ports b.kind b.outputs) (port - 1) (before size (port - 1) + element) (omega (arith, from, to)) (omega arith) (omega (arith, wide, below))
      in
      let owner_too : owner_in size (shown_ports b.kind b.outputs) (before size (port - 1) + element) ≡ outer - 1 =
      owner_is size (shown_ports b.kind b.outputs) (outer - 1) (before size (port - 1) + element) (omega (arith, from_too, to_too)) (omega (arith, flat)) (omega (arith, wide_too, below_too, flat))
      in
      let ports : port - 1 ≡ outer - 1 = sym owner ∙ owner_too in
      let starts : before size (port - 1) ≡ before size (outer - 1) = ap (before size) ports in
      (omega (arith, ports, from, from_too), omega (arith, flat, starts))

  pub one_hub : (block : ℕ) (b : Block) (port element : ℕ) (other : ℕ) (q : Block) (outer member : ℕ)
      → IsShown diagram (attributes_of diagram) block b port element
      → IsShown diagram (attributes_of diagram) other q outer member
      → is_input_role (row_of b.kind).place.role ≡ false
      → hub_at firsts other outer member ≡ hub_at firsts block port element
      → (block ≡ other) × (port ≡ outer) × (element ≡ member)
  one_hub block b port element other q outer member shown also is_other same = elim (cases_Bool (is_input_role (row_of q.kind).place.role)) [
    | inl input ↦
        let place = place_input diagram order earlier later firsts has listed valid ordered other q outer member also input in
        let k : ℕ = place.0 in
        let inside = slice_get_within (root_inputs diagram (attributes_of diagram)) k place.1 place.2 in
        let at = place.3 in
        let low = (place_other diagram earlier later firsts has block b port element shown is_other).0 in
        absurd (omega (arith, inside, at, low, same))
    | inr too ↦
        let blocks : block ≡ other = same_block block b port element other q outer member shown also is_other too same in
        let own : ◌≡◌ {A = Block} q b = same_Some q b (sym also.block_is ∙ ap (slice_get diagram.blocks) (sym blocks) ∙ shown.block_is) in
        let here : IsShown diagram (attributes_of diagram) block b outer member =
        subst (λ (x : ℕ). IsShown diagram (attributes_of diagram) x b outer member) (sym blocks)
        (subst (λ (y : Block). IsShown diagram (attributes_of diagram) other y outer member) own also) in
        let parts = same_element block b port element outer member shown here is_other (ap (λ (x : ℕ). hub_at firsts x outer member) blocks ∙ same) in
        (blocks, parts.0, parts.1)
  ]
