-- The block of an entry.
use Rattle.std.proofs.Common.{◌≡◌, ℕ, List, Some, slice_get, subst, refl, get_or, ◌≤◌, Bool}
use Rattle.std.proofs.lemmas.Option.{slice_get_read, slice_get_within}
use Rattle.fx_type.specs.declared.decimal.Decimal.{Decimal}
use Rattle.dg_model.specs.declared.diagram.Block.{Block}
use Rattle.dg_model.specs.declared.kind.Kind.{Kind}
use Rattle.dg_model.specs.declared.kind.Kind.TheVariants.{Delay}
use Rattle.dg_model.specs.Library.{row_of}
use Rattle.dg_model.specs.Readable.{HasPorts, IsReadable}
use Rattle.dg_model.specs.Wired.{IsWired}
use Rattle.dg_model.specs.declared.diagram.Diagram.{Diagram}
use Rattle.dg_model.specs.Signals.{Attributes}
use Rattle.dg_tables.specs.declared.entries.Place.{Place}
use Rattle.dg_tables.specs.Entries.{IsEntry}
use Rattle.math_list.proofs.Places.{held}

-- what is read at an entry's block is the block
pub block_there : (diagram : Diagram) (attributes : Attributes) (place : Place) (list : List Block) (one : Block)
    → list ≡ diagram.blocks → IsEntry diagram attributes place → one ≡ get_or list place.block one
    → slice_get diagram.blocks place.block ≡ Some one
block_there diagram attributes place list one e entry is =
    slice_get_read diagram.blocks _ place.block one refl (slice_get_within diagram.blocks place.block entry.0 entry.1.block_is) (subst (λ (xs : List Block). one ≡ get_or xs place.block one) e is)

module _ (diagram : Diagram) (wired : IsWired diagram) (block : ℕ) (b : Block) (block_is : slice_get diagram.blocks block ≡ Some b) where
  readable : IsReadable b
  readable = held IsReadable diagram.blocks block b wired.blocks block_is

  pub ports_are : (kind : Kind) → b.kind ≡ kind → HasPorts kind b.inputs b.outputs
  ports_are kind e = subst (λ (kind : Kind). HasPorts kind b.inputs b.outputs) e readable.ports

  pub delay_some : (delay : ℕ) (initial : List Decimal) (reset : Bool) → b.kind ≡ Delay delay initial reset → 1 ≤ delay
  delay_some delay initial reset e = let p = subst (λ (kind : Kind). (row_of kind).parameters) e readable.parameters in p.0.0
