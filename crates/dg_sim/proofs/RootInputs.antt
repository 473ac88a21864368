-- A root input port takes its number from the row.
use Rattle.std.proofs.Common.{◌≡◌, ◌<◌, ◌≤◌, ℕ, Option, Some, slice_get, sym, ◌∙◌, subst, ap, ap₂, arith}
use Rattle.dg_model.specs.declared.diagram.Diagram.{Diagram}
use Rattle.dg_model.specs.declared.diagram.Block.{Block}
use Rattle.dg_model.specs.declared.kind.Kind.{Kind}
use Rattle.dg_model.specs.declared.kind.Kind.TheVariants.{Inport}
use Rattle.dg_model.specs.Attributes.{attributes_of}
use Rattle.dg_model.specs.Hits.{Hits}
use Rattle.dg_model.specs.Laws.{InputsAreListed}
use Rattle.dg_model.specs.Library.{row_of}
use Rattle.dg_model.specs.RootElements.{RootElement, number_in, root_inputs}
use Rattle.dg_model.specs.Solves.{IsShown, shown_ports, shown_width}
use Rattle.dg_model.specs.Wired.{IsWired, root_input}
use Rattle.dg_tables.specs.declared.entries.Place.{Place}
use Rattle.dg_sim.specs.declared.program.Program.{Program}
use Rattle.dg_sim.specs.declared.program.Rule.TheVariants.{Input}
use Rattle.dg_tables.specs.declared.roots.Root.{Root}
use Rattle.dg_sim.specs.inner.ProgramSteps.{IsRule}
use Rattle.dg_tables.specs.Roots.{root_at, roots_of}
use Rattle.dg_sim.proofs.ByKind.{of_kind}
use Rattle.math_list.proofs.Places.{map_there, there_map}
use Rattle.dg_sim.proofs.Entries.{ports_are}

pub input_rule : (diagram : Diagram) (program : Program) (k : ℕ) (place : Place) (b : Block) → slice_get diagram.blocks place.block ≡ Some b → IsWired diagram → InputsAreListed
    → (number width column : ℕ) → b.kind ≡ Inport number width → slice_get (roots_of (root_inputs diagram (attributes_of diagram))) column ≡ Some (root_at number place.block place.element)
    → IsRule diagram (attributes_of diagram) program k place (Input column)
input_rule diagram program k place b block_is wired listed number width column kind at = record {
  within = tt;
  serves = λ stimulus table t look kept row v agrees keep row_is hit gives.
      let found = map_there (λ (e : RootElement). root_at e.number e.block e.element) (root_inputs diagram (attributes_of diagram)) column (root_at number place.block place.element) at in
      let e = found.0 in
      let same_number : e.number ≡ number = ap (λ (r : Root). r.number) found.2 in
      let same_block : e.block ≡ place.block = ap (λ (r : Root). r.block) found.2 in
      let same_element : e.element ≡ place.element = ap (λ (r : Root). r.element) found.2 in
      let is = (listed diagram (attributes_of diagram) wired).elements_of column e found.1 in
      let period : e.period ≡ (attributes_of diagram).period_at place.block = ap (λ (e : RootElement). e.period) is.4 ∙ ap (attributes_of diagram).period_at same_block in
      of_kind diagram (attributes_of diagram) place b block_is (Inport number width) kind stimulus table t v
      (gives ∙ row_is column e found.1 (subst (λ (p : Option ℕ). Hits p t) (sym period) hit) ∙ ap₂ (λ (n m : ℕ). stimulus n m t) same_number same_element);
  can = λ table t look agrees in_range. tt;
}

-- each of its elements has a column
pub input_there : (diagram : Diagram) (place : Place) (b : Block) → IsWired diagram → InputsAreListed → IsShown diagram (attributes_of diagram) place.block b place.port place.element
    → (number width : ℕ) → b.kind ≡ Inport number width → (column : ℕ) × (slice_get (roots_of (root_inputs diagram (attributes_of diagram))) column ≡ Some (root_at number place.block place.element))
input_there diagram place b wired listed shown number width kind =
    let attributes = attributes_of diagram in
    let own : number_in root_input b ≡ Some number = ap (λ (kind : Kind). root_input (row_of kind).place.role) kind in
    let outputs : b.outputs ≡ 1 = (ports_are diagram wired place.block b shown.block_is (Inport number width) kind).1 in
    let port : place.port ≤ b.outputs = subst (λ (kind : Kind). place.port ≤ shown_ports kind b.outputs) kind shown.port_to in
    let one : place.port ≡ 1 = omega (arith, shown.port_from, port, outputs) in
    let below : place.element < attributes.width_at place.block place.port =
    subst (λ (kind : Kind). place.element < shown_width diagram attributes kind place.block place.port) kind
    shown.element_below in
    let found = (listed diagram attributes wired).has_each place.block b number place.element shown.block_is own
    (subst (λ (port : ℕ). place.element < attributes.width_at place.block port) one below) in
    (found.0, there_map (λ (e : RootElement). root_at e.number e.block e.element) (root_inputs diagram attributes) found.0 _ found.1)
