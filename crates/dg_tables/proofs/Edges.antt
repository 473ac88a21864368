-- The edges into a block by its ports.
use Rattle.std.proofs.Common.{◌≡◌, ℕ, suc, ◌+◌, ◌<◌, List, length, map, slice_get, Option, Some, ap, sym, ◌∙◌, arith}
use Rattle.math_list.specs.Numbers.{numbers_from}
use Rattle.math_list.proofs.Numbers.{mapped_at, length_mapped}
use Rattle.dg_model.specs.declared.diagram.Diagram.{Diagram}
use Rattle.dg_model.specs.declared.diagram.Block.{Block}
use Rattle.dg_model.specs.declared.diagram.Edge.{Edge}
use Rattle.dg_model.specs.Wires.{driver_of, edges_into, at_source}
use Rattle.dg_model.specs.Wired.{IsWired}
use Rattle.dg_model.proofs.Ports.{drivers_are_edges}
use Rattle.math_list.proofs.Places.{map_there}
use Rattle.std.proofs.lemmas.List.{length-map}

module _ (diagram : Diagram) (wired : IsWired diagram) (block : ℕ) (b : Block) (block_is : slice_get diagram.blocks block ≡ Some b) where
  -- as many as it has input ports
  pub edges_length : length (edges_into diagram block) ≡ b.inputs
  edges_length =
      sym (length-map {B = Option Edge} (edges_into diagram block) (λ edge. Some edge))
      ∙ ap (λ (drivers : List (Option Edge)). length drivers) (sym (drivers_are_edges diagram block b wired block_is))
      ∙ length_mapped (driver_of diagram block) 1 b.inputs

  -- the edge at a place in the list enters the port after it
  pub edge_at : (i : ℕ) → i < b.inputs → (edge : Edge) × (slice_get (edges_into diagram block) i ≡ Some edge) × (driver_of diagram block (suc i) ≡ Some edge)
  edge_at i below =
      let port : 1 + i ≡ suc i = omega arith in
      let here : slice_get (map (driver_of diagram block) (numbers_from 1 b.inputs)) i
      ≡ Some (driver_of diagram block (suc i)) =
      mapped_at (driver_of diagram block) 1 b.inputs i below
      ∙ ap (λ (n : ℕ). Some (driver_of diagram block n)) port in
      let there = map_there {B = Option Edge} (λ edge. Some edge) (edges_into diagram block) i (driver_of diagram block (suc i))
      (ap (λ (drivers : List (Option Edge)). slice_get drivers i) (sym (drivers_are_edges diagram block b wired block_is)) ∙ here) in
      (there.0, there.1, sym there.2)

  -- what holds at the source of a port
  pub source_at : {A : Type 0} (other : A) (of_port : ℕ → ℕ → A) (i : ℕ) (edge : Edge) → driver_of diagram block (suc i) ≡ Some edge
      → at_source (driver_of diagram block (suc i)) other of_port ≡ of_port edge.from edge.from_port
  source_at other of_port i edge e = ap (λ (o : Option Edge). at_source o other of_port) e
