-- A wired diagram has what the rounds of widths ask of it.
use Rattle.std.proofs.Common.{◌≡◌, ℕ, ◌-◌, ◌≤◌, Bool, true, false, List, length, All, Some, get_or, refl, sym, subst, ◌∙◌, inl, inr, arith}
use Rattle.std.specs.Prelude.{slice_get, ◌⊎◌, if◌then◌else◌}
use Rattle.std.proofs.lemmas.Bool.{lt-ltb, cases_lt}
use Rattle.std.proofs.lemmas.List.{get_or_past}
use Rattle.std.proofs.lemmas.Option.{same_Some, slice_get_within, get_or_from_slice_get}
use Rattle.dg_model.specs.declared.diagram.Diagram.{Diagram}
use Rattle.dg_model.specs.declared.diagram.Block.{Block}
use Rattle.dg_model.specs.declared.kind.Kind.{Kind}
use Rattle.dg_model.specs.declared.kind.Kind.TheVariants.{Inport, Constant, Gain, Switch, Delay, Demux, RateTransition, Pass, EnOut}
use Rattle.dg_model.specs.KindRow.{Shape, IsBetween}
use Rattle.dg_model.specs.Library.{row_of}
use Rattle.dg_model.specs.Readable.{HasPorts, IsReadable}
use Rattle.dg_model.specs.Widths.{are_open, list_length}
use Rattle.dg_model.specs.Wired.{IsWired}
use Rattle.dg_types.specs.declared.linked.Share.TheVariants.{Even, Fixed}
use Rattle.dg_types.specs.inner.Widths.{is_shared_out}
use Rattle.dg_types.specs.inner.WidthShapes.{shape_of, declared_width, IsPort, HasParts, IsLaid, share_at}
use Rattle.dg_types.specs.inner.Build.{AreAlike, CanLink, IsPortOf}
use Rattle.dg_types.specs.inner.Rows.{HasRow}
use Rattle.dg_model.proofs.Ports.{found, joins}

port_is : (kind : Kind) (inputs outputs port : ℕ) → HasPorts kind inputs outputs → 1 ≤ port → port ≤ outputs → IsPort (shape_of kind) port
port_is (Demux sizes) inputs outputs port has low high = (low, omega (arith, has.1))
port_is _ inputs outputs port has low high = omega (arith, has.1)

size_fits : (sizes : List ℕ) → (All (IsBetween 1 1024) sizes ⊎ All (λ size. size ≡ 0) sizes) → (k : ℕ) → get_or sizes k 0 ≤ 1025
size_fits sizes has k =
    elim (cases_lt k (length sizes)) [
      | inl inside ↦ elim has [ inl between ↦ omega (arith, (between k 0 inside).1) | inr zeros ↦ omega (arith, zeros k 0 inside) ]
      | inr past ↦ omega (arith, get_or_past sizes k 0 past)
    ]

parts_are : (kind : Kind) → (row_of kind).parameters → HasParts (shape_of kind)
parts_are (Demux sizes) has = (has.0.0, size_fits sizes (has.1))
parts_are _ has = tt

declared_fits : (kind : Kind) → (row_of kind).parameters → declared_width kind ≤ 1025
declared_fits (Inport number width) has = omega (arith, has.1.1)
declared_fits (Constant value) has = omega (arith, has.1)
declared_fits (Pass width) has = omega (arith, has.1)
declared_fits _ has = omega arith

-- the lists of a kind are short
lists_are : (kind : Kind) → (row_of kind).parameters → list_length kind ≤ 1024
lists_are (Constant value) has = omega (arith, has.1)
lists_are (Gain value param) has = omega (arith, has.0.1)
lists_are (Switch criterion threshold) has = omega (arith, has.1)
lists_are (Delay delay initial reset) has = omega (arith, has.1.1)
lists_are (RateTransition period initial) has = omega (arith, has.1.1)
lists_are (EnOut reset initial) has = omega (arith, has.1)
lists_are _ has = omega arith

pub readable : (diagram : Diagram) (k : ℕ) (block : Block) → IsWired diagram → slice_get diagram.blocks k ≡ Some block → IsReadable block
readable diagram k block wired at = subst IsReadable (get_or_from_slice_get diagram.blocks k block block at) (wired.blocks k block (slice_get_within diagram.blocks k block at))

pub is_laid : (diagram : Diagram) → IsWired diagram → IsLaid diagram
is_laid diagram wired = record {
  ports = λ k edge at.
      let from = found (slice_get diagram.blocks edge.from) (λ block. (1 ≤ edge.from_port) × (edge.from_port ≤ block.outputs)) (joins diagram k edge wired at).source in
      (from.0, from.1, port_is from.0.kind from.0.inputs from.0.outputs edge.from_port (readable diagram edge.from (from.0) wired (from.1)).ports (from.2.0) (from.2.1));
  parts = λ k block at. parts_are block.kind (readable diagram k block wired at).parameters;
  declared = λ k block at. declared_fits block.kind (readable diagram k block wired at).parameters;
}

part_shared : (shape : Shape) (port : ℕ) → HasParts shape → is_shared_out (share_at shape port) ≡ true
part_shared (Shape.Parted sizes) port has = go (are_open sizes) where
  go : (b : Bool) → is_shared_out (if b then Even (length sizes) (port - 1) else Fixed (get_or sizes (port - 1) 0)) ≡ true
  go true = lt-ltb 0 (length sizes) (omega (arith, has.0))
  go false = refl
part_shared _ port has = refl

port_of : (shape : Shape) (port : ℕ) → (parted : (sizes : List ℕ) → shape ≡ Shape.Parted sizes → (length sizes ≤ 1024) × AreAlike sizes) → IsPort shape port → IsPortOf shape port
port_of (Shape.Parted sizes) port parted is = (is.1, omega (arith, (parted sizes refl).0), (parted sizes refl).1)
port_of _ port parted is = tt

parts_alike : (kind : Kind) (sizes : List ℕ) → (row_of kind).parameters → shape_of kind ≡ Shape.Parted sizes → (length sizes ≤ 1024) × AreAlike sizes
parts_alike (Demux others) sizes has is =
    let same : others ≡ sizes = cc in subst (λ (xs : List ℕ). (length xs ≤ 1024) × AreAlike xs) same (has.0.1, has.1)
parts_alike _ sizes has is = absurd (cc)

few_of : (shape : Shape) → ((sizes : List ℕ) → shape ≡ Shape.Parted sizes → length sizes ≤ 1024) → HasRow shape
few_of (Shape.Parted sizes) few = few sizes refl
few_of _ few = tt

-- each block has few outputs
pub have_rows : (diagram : Diagram) → IsWired diagram → All (λ block. HasRow (shape_of block.kind)) diagram.blocks
have_rows diagram wired = λ k d inside.
    let block = get_or diagram.blocks k d in
    few_of (shape_of block.kind) (λ sizes is. (parts_alike block.kind sizes (wired.blocks k d inside).parameters is).0)

pub can_link : (diagram : Diagram) → IsWired diagram → CanLink diagram.blocks diagram.edges
can_link diagram wired = record {
  lists = λ k block inside. lists_are (get_or diagram.blocks k block).kind (wired.blocks k block inside).parameters;
  ends = λ k edge at.
      let edge_joins = joins diagram k edge wired at in
      let from = found (slice_get diagram.blocks edge.from) (λ block. (1 ≤ edge.from_port) × (edge.from_port ≤ block.outputs)) edge_joins.source in
      let to = found (slice_get diagram.blocks edge.to) (λ block. (1 ≤ edge.to_port) × (edge.to_port ≤ block.inputs)) edge_joins.target in
      (slice_get_within diagram.blocks edge.from (from.0) (from.1), slice_get_within diagram.blocks edge.to (to.0) (to.1));
  ports = λ k edge at block here.
      let from = (is_laid diagram wired).ports k edge at in
      let same : from.0 ≡ block = same_Some (from.0) block (sym (from.1) ∙ here) in
      let port : IsPort (shape_of block.kind) edge.from_port = subst (λ (b : Block). IsPort (shape_of b.kind) edge.from_port) same (from.2) in
      port_of (shape_of block.kind) edge.from_port (λ sizes is. parts_alike block.kind sizes (readable diagram edge.from block wired here).parameters is) port;
  first_port = λ k edge inside.
      let e = get_or diagram.edges k edge in
      (found (slice_get diagram.blocks e.from) (λ block. (1 ≤ e.from_port) × (e.from_port ≤ block.outputs)) (wired.edges k edge inside).source).2.0;
  shared_out = λ k edge at.
      let from = (is_laid diagram wired).ports k edge at in
      rw (from.1) (part_shared (shape_of from.0.kind) edge.from_port (parts_are from.0.kind (readable diagram edge.from (from.0) wired (from.1)).parameters));
}
