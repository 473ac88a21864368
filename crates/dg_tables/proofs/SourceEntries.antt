-- The entry at the source of a line is there, and stands before those of a block that reads it in the same sample.
use Rattle.std.proofs.Common.{◌≡◌, ℕ, ◌<◌, List, Option, Some, None, pos, slice_get, ap, sym, subst, arith}
use Rattle.fx_type.specs.declared.kind.FxType.TheVariants.{Logical}
use Rattle.dg_model.specs.declared.diagram.Diagram.{Diagram}
use Rattle.dg_model.specs.declared.diagram.Edge.{Edge}
use Rattle.dg_model.specs.Attributes.{attributes_of}
use Rattle.dg_model.specs.Checked.{CheckedDiagram}
use Rattle.dg_model.specs.Loop.{LeadsNow}
use Rattle.dg_model.specs.Signals.{Attributes}
use Rattle.dg_model.specs.Wired.{IsWired}
use Rattle.dg_model.specs.Wires.{driver_of, at_source, repeated}
use Rattle.dg_tables.specs.declared.entries.Place.{Place}
use Rattle.dg_tables.specs.declared.reading.Starts.{Starts}
use Rattle.dg_tables.specs.Entries.{IsSource, IsEntry}
use Rattle.dg_tables.specs.Finding.{Finds, IsRead, IsBeforeReader, source_of}
use Rattle.dg_tables.proofs.Ranks.{driver_leads}
use Rattle.dg_tables.proofs.Sources.{source_shown}

-- ---- the entry at the source of a line
module _ (diagram : Diagram) (attributes : Attributes) (block port element : ℕ) where
  pub none_read : driver_of diagram block port ≡ None → IsRead diagram attributes block port element → ⊥
  none_read none read =
      let h : repeated 0 element < 0 = subst (λ (o : Option Edge). repeated (at_source o 0 attributes.width_at) element < at_source o 0 attributes.width_at) none read in
      omega (arith, h)

  pub source_is : (edge : Edge) → driver_of diagram block port ≡ Some edge → IsSource diagram attributes block port element (source_of attributes edge element)
  source_is edge e = record {
    value = λ table t. ap (λ (o : Option Edge). at_source o (pos 0) (λ from from_port. table from from_port (repeated (attributes.width_at from from_port) element) t)) e;
    type = ap (λ (o : Option Edge). at_source o Logical attributes.type_at) e;
  }

  pub source_entry : (edge : Edge) → IsWired diagram → driver_of diagram block port ≡ Some edge
      → IsRead diagram attributes block port element
      → IsEntry diagram attributes (source_of attributes edge element)
  source_entry edge wired e read =
      source_shown diagram attributes wired block port edge (repeated (attributes.width_at edge.from edge.from_port) element) e
      (subst (λ (o : Option Edge). repeated (at_source o 0 attributes.width_at) element < at_source o 0 attributes.width_at) e read)

pub source_before : (checked : CheckedDiagram) (starts : Starts) (places : List Place)
    (block port element number : ℕ) (edge : Edge) → Finds checked starts places
    → driver_of checked.diagram block port ≡ Some edge
    → slice_get places number ≡ Some (source_of (attributes_of checked.diagram) edge element) → IsBeforeReader checked places block number
source_before checked starts places block port element number edge finds e there k now =
    let attributes : Attributes = attributes_of checked.diagram in
    finds.ranked number k (source_of attributes edge element) now.0 there now.2
    (subst (λ (n : ℕ). LeadsNow checked.diagram attributes edge.from n) (sym now.3) (driver_leads checked.diagram attributes block now.1 port edge now.4 now.5 e))
