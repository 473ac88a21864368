-- Elements that blocks show have hubs of their own.
use Rattle.std.proofs.Common.{◌≡◌, ℕ, suc, ◌-◌, inl, inr, List, length, false, ap, sym, ◌∙◌, subst, arith}
use Rattle.std.specs.Prelude.{slice_get}
use Rattle.std.proofs.lemmas.Option.{same_Some, slice_get_within}
use Rattle.dg_model.specs.declared.diagram.Diagram.{Diagram}
use Rattle.dg_model.specs.declared.diagram.Block.{Block}
use Rattle.dg_model.specs.Attributes.{attributes_of}
use Rattle.dg_model.specs.Laws.{InputsAreListed}
use Rattle.dg_model.specs.Library.{row_of}
use Rattle.dg_model.specs.RootElements.{RootElement, root_element, root_inputs}
use Rattle.dg_model.specs.Solves.{shown_ports, shown_width, IsShown}
use Rattle.dg_tables.specs.Laws.{IsOrdered}
use Rattle.hw_net.specs.Circuit.{Circuit}
use Rattle.hw_build.specs.inner.HubPlaces.{before, is_input_role, port_size, own_hubs, owner_in, owner_of, hub_start, hub_at, HasHubs}
use Rattle.hw_build.proofs.HubsOnly.{owner_is, place_other, root_hub}
use Rattle.std.proofs.lemmas.Bool.{cases_Bool}

module _ (diagram : Diagram) (order : List ℕ) (earlier later : Circuit) (firsts : List (List ℕ))
    (has : HasHubs diagram earlier later firsts) (listed : InputsAreListed)
    (ordered : IsOrdered diagram order) where
  abbrev roots : List RootElement
  roots = root_inputs diagram (attributes_of diagram)

  -- that of another element tells its block
  owner_other : (block : ℕ) (b : Block) (port element : ℕ)
      → IsShown diagram (attributes_of diagram) block b port element
      → is_input_role (row_of b.kind).place.role ≡ false
      → owner_of diagram (hub_at firsts block port element) ≡ block
  owner_other block b port element shown other =
      let place = place_other diagram earlier later firsts has block b port element shown other in
      let low = place.0 in
      let high = place.1 in
      let n : ℕ = hub_at firsts block port element in
      owner_is (own_hubs diagram) (length diagram.blocks) block (n - length roots) (slice_get_within diagram.blocks block b shown.block_is) (omega (arith, low)) (omega (arith, low, high))

  -- its port, and its place there
  port_other : (block : ℕ) (b : Block) (port element : ℕ) → IsShown diagram (attributes_of diagram) block b port element → is_input_role (row_of b.kind).place.role ≡ false
      → owner_in (port_size diagram block b) (shown_ports b.kind b.outputs) (hub_at firsts block port element - hub_start diagram block) ≡ port - 1
  port_other block b port element shown other =
      let is = has.of_others block b port element shown other in
      let from = shown.port_from in
      let to = shown.port_to in
      let below = shown.element_below in
      let here : suc (port - 1) ≡ port = omega (arith, from) in
      let wide : port_size diagram block b (port - 1) ≡ shown_width diagram (attributes_of diagram) b.kind block port = ap (shown_width diagram (attributes_of diagram) b.kind block) here in
      owner_is (port_size diagram block b) (shown_ports b.kind b.outputs) (port - 1)
      (hub_at firsts block port element - hub_start diagram block) (omega (arith, from, to)) (omega (arith, is))
      (omega (arith, is, wide, below))

  -- two elements of one block
  same_in_block : (block : ℕ) (b : Block) (port element other_port other_element : ℕ)
      → IsShown diagram (attributes_of diagram) block b port element
      → IsShown diagram (attributes_of diagram) block b other_port other_element
      → is_input_role (row_of b.kind).place.role ≡ false
      → hub_at firsts block port element ≡ hub_at firsts block other_port other_element → (port ≡ other_port) × (element ≡ other_element)
  same_in_block block b port element other_port other_element one two other equal =
      let p : port - 1 ≡ other_port - 1 =
      sym (port_other block b port element one other)
      ∙ ap (λ (n : ℕ). owner_in (port_size diagram block b) (shown_ports b.kind b.outputs)
      (n - hub_start diagram block)) equal ∙ port_other block b other_port other_element two other
      in
      let low = one.port_from in
      let other_low = two.port_from in
      let start : before (port_size diagram block b) (port - 1) ≡ before (port_size diagram block b) (other_port - 1) = ap (before (port_size diagram block b)) p in
      let is = has.of_others block b port element one other in
      let other_is = has.of_others block b other_port other_element two other in
      (omega (arith, p, low, other_low), omega (arith, is, other_is, start, equal))

  pub record IsSameElement (block port element other_block other_port other_element : ℕ) : Type 0 where
    pub block_is : block ≡ other_block
    pub port_is : port ≡ other_port
    pub element_is : element ≡ other_element

  pub hubs_differ : (block : ℕ) (b : Block) (port element other_block : ℕ) (o : Block)
      (other_port other_element : ℕ) → IsShown diagram (attributes_of diagram) block b port element
      → IsShown diagram (attributes_of diagram) other_block o other_port other_element
      → hub_at firsts block port element ≡ hub_at firsts other_block other_port other_element → IsSameElement block port element other_block other_port other_element
  hubs_differ block b port element other_block o other_port other_element one two equal = elim (cases_Bool (is_input_role (row_of b.kind).place.role)) [
    | inl input ↦
        let root = root_hub diagram order earlier later firsts has listed ordered block b port element one input in
        elim (cases_Bool (is_input_role (row_of o.kind).place.role)) [
          | inl other_input ↦
              let other_root = root_hub diagram order earlier later firsts has listed ordered other_block o other_port other_element two other_input in
              let same : ◌≡◌ {A = RootElement} (root_element (attributes_of diagram) root.number block element) (root_element (attributes_of diagram) other_root.number other_block other_element) =
              same_Some (root_element (attributes_of diagram) root.number block element)
              (root_element (attributes_of diagram) other_root.number other_block other_element)
              (sym root.at ∙ ap (slice_get roots) equal ∙ other_root.at)
              in
              record { block_is = ap (λ (e : RootElement). e.block) same; port_is = root.first ∙ sym other_root.first; element_is = ap (λ (e : RootElement). e.element) same }
          | inr plain ↦
              let low = slice_get_within roots (hub_at firsts block port element) (root_element (attributes_of diagram) root.number block element) root.at in
              let high = (place_other diagram earlier later firsts has other_block o other_port other_element two plain).0 in
              absurd (omega (arith, low, high, equal))
        ]
    | inr plain ↦ elim (cases_Bool (is_input_role (row_of o.kind).place.role)) [
      | inl other_input ↦
          let root = root_hub diagram order earlier later firsts has listed ordered other_block o other_port other_element two other_input in
          let low = slice_get_within roots (hub_at firsts other_block other_port other_element) (root_element (attributes_of diagram) root.number other_block other_element) root.at in
          let high = (place_other diagram earlier later firsts has block b port element one plain).0 in
          absurd (omega (arith, low, high, equal))
      | inr other_plain ↦
          let block_is : block ≡ other_block = sym (owner_other block b port element one plain) ∙ ap (owner_of diagram) equal ∙ owner_other other_block o other_port other_element two other_plain in
          let b_is : ◌≡◌ {A = Block} o b = same_Some o b (sym two.block_is ∙ ap (slice_get diagram.blocks) (sym block_is) ∙ one.block_is) in
          let moved : IsShown diagram (attributes_of diagram) block b other_port other_element =
          subst (λ (x : Block). IsShown diagram (attributes_of diagram) block x other_port other_element) b_is
          (subst (λ (n : ℕ). IsShown diagram (attributes_of diagram) n o other_port other_element)
          (sym block_is) two) in
          let same = same_in_block block b port element other_port other_element one moved plain (equal ∙ ap (λ (n : ℕ). hub_at firsts n other_port other_element) (sym block_is)) in
          record { block_is = block_is; port_is = same.0; element_is = same.1 }
    ]
  ]
