-- The elements that a Mux and a Demux read are there.
use Rattle.std.proofs.Common.{◌≡◌, ℕ, suc, ◌+◌, ◌-◌, ◌^◌, ◌<◌, ◌≤◌, inr, List, Option, Some, None, MatchOption, slice_get, map, sum, ap, sym, ◌∙◌, subst, refl, arith}
use Rattle.math_list.specs.Numbers.{numbers_from}
use Rattle.dg_model.specs.declared.diagram.Diagram.{Diagram}
use Rattle.dg_model.specs.declared.diagram.Block.{Block}
use Rattle.dg_model.specs.declared.diagram.Edge.{Edge}
use Rattle.dg_model.specs.declared.kind.Kind.{Kind}
use Rattle.dg_model.specs.declared.kind.Kind.TheVariants.{Mux, Demux}
use Rattle.dg_model.specs.Attributes.{attributes_of}
use Rattle.dg_model.specs.Checked.{IsChecked}
use Rattle.dg_model.specs.Equation.{IsPart}
use Rattle.dg_model.specs.Solves.{IsShown, shown_ports, shown_width}
use Rattle.dg_model.specs.Wired.{Joins}
use Rattle.dg_model.specs.Wires.{driver_of, enters, at_source, width_into, widths_into}
use Rattle.dg_tables.specs.Fit.{HasWidths}
use Rattle.dg_tables.specs.Finding.{IsRead}
use Rattle.dg_tables.proofs.Drivers.{source_there}
use Rattle.dg_sim.proofs.Entries.{ports_are}
use Rattle.dg_tables.proofs.Widths.{widths_fit}
use Rattle.dg_tables.proofs.Lists.{below_repeated}
use Rattle.math_list.proofs.Numbers.{get_number, length_mapped}
use Rattle.math_list.proofs.Searches.{find_holds}
use Rattle.math_list.proofs.Sums.{sum_before}

module _ (diagram : Diagram) (is : IsChecked diagram) (block : ℕ) where
  abbrev into : ℕ → ℕ
  into port = width_into diagram (attributes_of diagram) block port

  -- no signal is wider than 1024 elements
  pub small : (port : ℕ) → into port ≤ 1024
  small port = go (driver_of diagram block port) refl
    where
      go : (o : Option Edge) → driver_of diagram block port ≡ o → at_source o 0 (attributes_of diagram).width_at ≤ 1024
      go None e = omega arith
      go (Some edge) e = at (slice_get diagram.blocks edge.from) refl (find_holds (Joins diagram.blocks) (enters block port) diagram.edges edge is.wired.edges e).source
        where
          at : (o : Option Block) → slice_get diagram.blocks edge.from ≡ o
              → MatchOption o ⊥ (λ b. (1 ≤ edge.from_port) × (edge.from_port ≤ b.outputs))
              → (attributes_of diagram).width_at edge.from edge.from_port ≤ 1024
          at None there h = absurd h
          at (Some b) there h = (is.dimensions.blocks edge.from b there).within (omega (arith, h.0, h.1)) (edge.from_port - 1) 0 (source_there diagram is block port edge e).1

  module _ (b : Block) (port element : ℕ) (shown : IsShown diagram (attributes_of diagram) block b port element) where
    at_kind : (kind : Kind) → b.kind ≡ kind
        → (port ≤ shown_ports kind b.outputs)
        × (element < shown_width diagram (attributes_of diagram) kind block port)
        × HasWidths diagram (attributes_of diagram) block kind b.inputs b.outputs
    at_kind kind e = (
      subst (λ (kind : Kind). port ≤ shown_ports kind b.outputs) e shown.port_to,
      subst (λ (kind : Kind). element < shown_width diagram (attributes_of diagram) kind block port) e shown.element_below,
      subst (λ (kind : Kind). HasWidths diagram (attributes_of diagram) block kind b.inputs b.outputs) e (widths_fit diagram is.wired is.dimensions block b shown.block_is),
    )

    pub mux_below : (sizes : List ℕ) → b.kind ≡ Mux sizes → element < sum (widths_into diagram (attributes_of diagram) block b.inputs)
    mux_below sizes e =
        let k = at_kind (Mux sizes) e in
        let ports = (ports_are diagram is.wired block b shown.block_is (Mux sizes) e).1 in
        let to = k.0 in
        let one : port ≡ 1 = omega (arith, to, ports, shown.port_from) in
        subst (λ (n : ℕ). element < n) k.2 (subst (λ (p : ℕ). element < (attributes_of diagram).width_at block p) one k.1)

    -- the elements of the ports before one of a Demux, and an element of this one
    abbrev place : ℕ
    place = sum (map ((attributes_of diagram).width_at block) (numbers_from 1 (port - 1))) + element

    pub demux_to : (sizes : List ℕ) → b.kind ≡ Demux sizes → port ≤ b.outputs
    demux_to sizes e = (at_kind (Demux sizes) e).0

    pub demux_few : (sizes : List ℕ) → b.kind ≡ Demux sizes → sum (map ((attributes_of diagram).width_at block) (numbers_from 1 b.outputs)) < 2 ^ 32
    demux_few sizes e = let k = at_kind (Demux sizes) e in let widths = k.2 in omega (arith, widths, small 1)

    pub demux_below : (sizes : List ℕ) → b.kind ≡ Demux sizes → place < into 1
    demux_below sizes e =
        let k = at_kind (Demux sizes) e in
        let to = k.0 in
        let below = k.1 in
        let widths = k.2 in
        let same : (attributes_of diagram).width_at block (1 + (port - 1))
        ≡ (attributes_of diagram).width_at block port = let p : 1 + (port - 1) ≡ port =
        omega (arith, shown.port_from) in ap ((attributes_of diagram).width_at block) p in
        omega (arith, same, widths, below, sum_before ((attributes_of diagram).width_at block) 1 b.outputs (port - 1) (omega (arith, to, shown.port_from)))

    pub demux_read : (sizes : List ℕ) (at : ℕ) → b.kind ≡ Demux sizes → at ≡ place → IsRead diagram (attributes_of diagram) block 1 at
    demux_read sizes at e is_place = below_repeated (into 1) at (inr (subst (λ (n : ℕ). n < into 1) (sym is_place) (demux_below sizes e)))

  -- a part of a signal is an element of it
  pub part_read : (inputs element signal k : ℕ) → IsPart (widths_into diagram (attributes_of diagram) block inputs) element signal k → IsRead diagram (attributes_of diagram) block (suc signal) k
  part_read inputs element signal k part =
      let f = width_into diagram (attributes_of diagram) block in
      let signal_is : signal < inputs = subst (λ (n : ℕ). signal < n) (length_mapped f 1 inputs) part.signal_is in
      let e : 1 + signal ≡ suc signal = omega arith in
      let within : k < f (suc signal) = subst (λ (n : ℕ). k < n) (get_number f 1 inputs signal signal_is ∙ ap f e) part.within in
      below_repeated (f (suc signal)) k (inr within)
