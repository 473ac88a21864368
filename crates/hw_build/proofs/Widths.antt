-- The widths of a diagram that keeps the rule of dimensions: the inputs of a block that works element by element have one element or as many as the block.
use Rattle.std.proofs.Common.{◌≡◌, ℕ, ◌+◌, ◌-◌, ◌<◌, ◌≤◌, Bool, true, false, List, [], ◌∷◌, map, length, Option, Some, ap, sym, ◌∙◌, subst, refl, arith}
use Rattle.std.specs.Prelude.{slice_get, slice_index_or, min, max}
use Rattle.std.proofs.lemmas.Bool.{false≢true}
use Rattle.std.proofs.lemmas.Option.{none-some}
use Rattle.fx_type.specs.declared.decimal.Decimal.{Decimal}
use Rattle.dg_model.specs.declared.diagram.Diagram.{Diagram}
use Rattle.dg_model.specs.declared.diagram.Block.{Block}
use Rattle.dg_model.specs.declared.diagram.Edge.{Edge}
use Rattle.dg_model.specs.declared.kind.Kind.{Kind}
use Rattle.dg_model.specs.declared.kind.Kind.TheVariants.{Delay, RateTransition}
use Rattle.dg_model.specs.Attributes.{attributes_of}
use Rattle.dg_model.specs.Checked.{IsChecked}
use Rattle.dg_model.specs.Dimension.{IsRepeated, Agrees}
use Rattle.dg_model.specs.declared.row.Reading.{Reading}
use Rattle.dg_model.specs.KindRow.{Shape}
use Rattle.dg_model.specs.Laws.{WidthsAreOfEdges}
use Rattle.dg_model.specs.Library.{row_of}
use Rattle.dg_model.specs.Readable.{IsReadable}
use Rattle.dg_model.specs.Widths.{width_at, widths_of, input_widths, list_length, most_width, taken, next_of}
use Rattle.math_list.specs.Numbers.{greatest}
use Rattle.dg_model.specs.Wires.{at_source, width_into, widths_into}
use Rattle.hw_shows.specs.Timed.{lag_of}
use Rattle.hw_build.specs.inner.Facts.{LateAreWide}
use Rattle.math_list.proofs.Numbers.{mapped_at}
use Rattle.math_list.proofs.Places.{held}

-- the width into a port is among those of the inputs
width_listed : WidthsAreOfEdges → (diagram : Diagram) → IsChecked diagram → (block : ℕ) (b : Block) (port : ℕ) → slice_get diagram.blocks block ≡ Some b → 1 ≤ port → port ≤ b.inputs
    → slice_get (input_widths diagram (widths_of diagram) block) (port - 1) ≡ Some (width_into diagram (attributes_of diagram) block port)
width_listed law diagram checked block b port at from to =
    let same : widths_into diagram (attributes_of diagram) block b.inputs ≡ input_widths diagram (widths_of diagram) block = law diagram (attributes_of diagram) block b checked.wired at in
    let here = mapped_at (width_into diagram (attributes_of diagram) block) 1 b.inputs (port - 1) (omega (arith, from, to)) in
    let number : 1 + (port - 1) ≡ port = omega (arith, from) in
    ap (λ (xs : List ℕ). slice_get xs (port - 1)) (sym same) ∙ here ∙ ap (λ (x : ℕ). Some (width_into diagram (attributes_of diagram) block x)) number

-- element by element
pub repeated_into : WidthsAreOfEdges → (diagram : Diagram) → IsChecked diagram → (block : ℕ) (b : Block) (port : ℕ)
    → slice_get diagram.blocks block ≡ Some b → (row_of b.kind).signal.shape ≡ Shape.Elementwise → 1 ≤ port
    → port ≤ b.inputs
    → IsRepeated ((attributes_of diagram).width_at block 1) (width_into diagram (attributes_of diagram) block port)
repeated_into law diagram checked block b port at shape from to =
    let keeps = checked.dimensions.blocks block b at in
    let agrees : Agrees Shape.Elementwise (slice_index_or (widths_of diagram) block []) (input_widths diagram (widths_of diagram) block) =
    subst (λ (s : Shape). Agrees s (slice_index_or (widths_of diagram) block []) (input_widths diagram (widths_of diagram) block)) shape keeps.agrees in
    held (IsRepeated ((attributes_of diagram).width_at block 1)) (input_widths diagram (widths_of diagram) block)
    (port - 1) (width_into diagram (attributes_of diagram) block port) agrees
    (width_listed law diagram checked block b port at from to)

-- a block with a list parameter has elements
first_width : (diagram : Diagram) → IsChecked diagram → (block : ℕ) (b : Block) → slice_get diagram.blocks block ≡ Some b → (row_of b.kind).signal.shape ≡ Shape.Elementwise
    → (attributes_of diagram).width_at block 1 ≡ min most_width (max ((attributes_of diagram).width_at block 1) (max (greatest (input_widths diagram (widths_of diagram) block)) (list_length b.kind)))
first_width diagram checked block b at shape =
    let keeps = checked.dimensions.blocks block b at in
    let own : ℕ = width_at (widths_of diagram) block 1 in
    let inputs : List ℕ = input_widths diagram (widths_of diagram) block in
    let next : next_of (Some b) own inputs ≡ slice_index_or (widths_of diagram) block [] = ap (λ (o : Option Block). next_of o own inputs) (sym at) ∙ keeps.settled in
    ap (λ (xs : List ℕ). slice_index_or xs 0 0) (sym next) ∙ ap (λ (s : Shape). slice_index_or (map (min most_width) (taken s (list_length b.kind) own inputs)) 0 0) shape

one_list : (list : List Decimal) → 1 ≤ length list → 1 ≤ greatest (map length (list ∷ []))
one_list list some = omega (arith, some)

has_elements : (diagram : Diagram) → IsChecked diagram → (block : ℕ) (b : Block)
    → slice_get diagram.blocks block ≡ Some b → (row_of b.kind).signal.shape ≡ Shape.Elementwise
    → 1 ≤ list_length b.kind → 0 < (attributes_of diagram).width_at block 1
has_elements diagram checked block b at shape some = let e = first_width diagram checked block b at shape in omega (arith, e, some)

-- what has registers on its line
abbrev is_late : Reading → Bool
is_late Reading.Now = false
is_late Reading.Before = true
is_late Reading.BeforeIfSlower = true

late_reading : (reading : Reading) (delay : ℕ) (enable : Option ℕ) (slower : Bool) (period lag : ℕ) → lag_of reading delay enable slower period ≡ Some lag → is_late reading ≡ true
late_reading Reading.Now delay enable slower period lag e = absurd (none-some lag e)
late_reading Reading.Before delay enable slower period lag e = refl
late_reading Reading.BeforeIfSlower delay enable slower period lag e = refl

late_shape : (kind : Kind) → is_late (row_of kind).timing.reads ≡ true → (row_of kind).signal.shape ≡ Shape.Elementwise
late_shape (Delay delay initial reset) e = refl
late_shape (RateTransition period initial) e = refl
late_shape _ e = absurd (false≢true e)

late_list : (kind : Kind) → (row_of kind).parameters → is_late (row_of kind).timing.reads ≡ true → 1 ≤ list_length kind
late_list (Delay delay initial reset) has e = one_list initial has.1.0
late_list (RateTransition period initial) has e = one_list initial has.1.0
late_list _ has e = absurd (false≢true e)

pub late_are_wide : WidthsAreOfEdges → (diagram : Diagram) → IsChecked diagram → LateAreWide diagram
late_are_wide law diagram checked = record {
  each = λ block b port source lag edge at from to drives late.
      let reads : is_late (row_of b.kind).timing.reads ≡ true = late_reading (row_of b.kind).timing.reads (row_of b.kind).timing.delay b.enable _ source lag late in
      let shape = late_shape b.kind reads in
      let readable = held IsReadable diagram.blocks block b checked.wired.blocks at in
      let width : width_into diagram (attributes_of diagram) block port
      ≡ (attributes_of diagram).width_at edge.from edge.from_port =
      ap (λ (o : Option Edge). at_source o 0 (attributes_of diagram).width_at) drives in (
        has_elements diagram checked block b at shape (late_list b.kind readable.parameters reads),
        subst (λ (w : ℕ). IsRepeated ((attributes_of diagram).width_at block 1) w) width (repeated_into law diagram checked block b port at shape from to),
      );
}
