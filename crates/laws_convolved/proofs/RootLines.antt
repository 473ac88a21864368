-- What a table that solves shows along lines from a root input to a filter and on to a root output.
use Rattle.std.proofs.Common.{◌≡◌, ◌⊎◌, ℕ, ◌<◌, ◌≤◌, ◌==◌, Bool, true, false, cond, pos, inl, inr, List, Option, Some}
use Rattle.std.proofs.Common.{refl, sym, ◌∙◌, ap, subst, arith}
use Rattle.std.proofs.lemmas.Option.{MatchOption-at_some, none-some, same_Some}
use Rattle.math_list.proofs.Places.{held}
use Rattle.dg_model.specs.declared.diagram.Block.{Block}
use Rattle.dg_model.specs.declared.diagram.Diagram.{Diagram}
use Rattle.dg_model.specs.declared.diagram.Edge.{Edge}
use Rattle.dg_model.specs.declared.kind.Kind.{Kind}
use Rattle.dg_model.specs.declared.kind.Kind.TheVariants.{Inport, Outport}
use Rattle.dg_model.specs.declared.op.Op.{Op}
use Rattle.dg_model.specs.declared.op.Op.TheVariants.{Pass as OpPass}
use Rattle.dg_model.specs.Attributes.{attributes_of}
use Rattle.dg_model.specs.Convolution.{IsKindAt, IsFed, shown_to}
use Rattle.dg_model.specs.Equation.{ElementEquation, IsOpOf, KindEquation, signs_of}
use Rattle.dg_model.specs.Hits.{Hits}
use Rattle.dg_model.specs.KindRow.{Shape}
use Rattle.dg_model.specs.Library.{row_of}
use Rattle.dg_model.specs.Operation.{Gives, Operation, value_of}
use Rattle.dg_model.specs.Rate.{joins_periods}
use Rattle.dg_model.specs.Readable.{IsReadable, HasPorts}
use Rattle.dg_model.specs.Signals.{Attributes, Stimulus, Table}
use Rattle.dg_model.specs.Solves.{IsShown, shown_ports, shown_width}
use Rattle.dg_model.specs.Wired.{root_input, root_output}
use Rattle.dg_model.specs.Wires.{at_source, repeated, type_into, types_into, values_into, width_into}
use Rattle.dg_tables.specs.Fit.{HasWidths, FitShape}
use Rattle.laws_filters.specs.Laws.{IsSolved}
use Rattle.laws_convolved.specs.inner.LawsBelow.{AreKnown}

-- ---- elements that are repeated

pub repeated_one : (width element : ℕ) → width ≡ 1 → repeated width element ≡ 0
repeated_one width element one = ap (λ (w : ℕ). repeated w element) one

pub twice : (width element : ℕ) → repeated width (repeated width element) ≡ repeated width element
twice width element = go (width == 1)
  where
    go : (one : Bool) → cond one 0 (cond one 0 element) ≡ cond one 0 element
    go true = refl
    go false = refl

pub repeated_below : (width element : ℕ) → element < width → repeated width element < width
repeated_below width element below = go (width == 1)
  where
    go : (one : Bool) → cond one 0 element < width
    go true = omega (arith, below)
    go false = below

-- where a signal is repeated for its reader, or as wide, the reader's element makes no difference
pub through : (source own element : ℕ) → (source ≡ 1) ⊎ (source ≡ own)
    → repeated source (repeated own element) ≡ repeated source element
through source own element (inl one) = repeated_one source (repeated own element) one
    ∙ sym (repeated_one source element one)
through source own element (inr same) = ap (λ (w : ℕ). repeated w (repeated own element)) same ∙ twice own element
    ∙ sym (ap (λ (w : ℕ). repeated w element) same)

pub below_source : (source own element : ℕ) → (source ≡ 1) ⊎ (source ≡ own) → element < own
    → repeated source element < source
below_source source own element (inl one) below = let none = repeated_one source element one in omega (arith, one, none)
below_source source own element (inr same) below = repeated_below source element (omega (arith, same, below))

-- ---- kinds of root ports

pub output_kind : (kind : Kind) (number : ℕ) → root_output (row_of kind).place.role ≡ Some number
    → (own : ℕ) × (kind ≡ Outport own)
output_kind (Outport own) number is = (own, refl)
output_kind _ number is = absurd (none-some number is)

pub input_kind : (kind : Kind) (number : ℕ) → root_input (row_of kind).place.role ≡ Some number
    → (width : ℕ) × (kind ≡ Inport number width)
input_kind (Inport own width) number is = (width, ap (λ (n : ℕ). Inport n width) (same_Some own number is))
input_kind _ number is = absurd (none-some number is)

module _ (known : AreKnown) {diagram : Diagram} {order : List ℕ} {stimulus : Stimulus} {n : ℕ} {table : Table}
    (solved : IsSolved diagram order stimulus n table) where
  abbrev A : Attributes
  A = attributes_of diagram

  pub ports : (place : ℕ) (kind : Kind) (b : Block) → IsKindAt diagram place kind b → HasPorts kind b.inputs b.outputs
  ports place kind b is =
      subst (λ (k : Kind). HasPorts k b.inputs b.outputs) is.kind_is
      (held IsReadable diagram.blocks place b solved.ordered.checked.wired.blocks is.block_is).ports

  pub shown_as : (place : ℕ) (kind : Kind) (b : Block) (element : ℕ) → IsKindAt diagram place kind b
      → 1 ≤ shown_ports kind b.outputs → element < shown_width diagram (attributes_of diagram) kind place 1
      → IsShown diagram (attributes_of diagram) place b 1 element
  shown_as place kind b element is some below = record {
    block_is = is.block_is;
    port_from = omega arith;
    port_to = subst (λ (k : Kind). 1 ≤ shown_ports k b.outputs) (sym is.kind_is) some;
    element_below =
        subst (λ (k : Kind). element < shown_width diagram (attributes_of diagram) k place 1) (sym is.kind_is) below;
  }

  -- a block's equation at a hit
  pub equation : (place : ℕ) (kind : Kind) (b : Block) (element t : ℕ) → IsKindAt diagram place kind b
      → IsShown diagram (attributes_of diagram) place b 1 element → t < n
      → Hits ((attributes_of diagram).period_at place) t
      → KindEquation diagram (attributes_of diagram) stimulus table kind b place 1 element t (table place 1 element t)
  equation place kind b element t is shown early hit =
      let at = solved.solves.at_hits place b 1 element t shown early hit in
      let of = MatchOption-at_some ⊥
      (λ (b : Block). KindEquation diagram A stimulus table b.kind b place 1 element t (table place 1 element t))
      b is.block_is at in
      subst (λ (k : Kind). KindEquation diagram A stimulus table k b place 1 element t (table place 1 element t))
      is.kind_is of

  -- what hands on its input shows what the source shows
  pub handed : (from place : ℕ) (kind : Kind) (b : Block) (element t : ℕ) → IsKindAt diagram place kind b
      → b.inputs ≡ 1 → IsFed diagram from place 1
      → ((op : Op) → IsOpOf kind element ((attributes_of diagram).param_at place)
      (type_into diagram (attributes_of diagram) place 2) op → op ≡ OpPass)
      → ElementEquation diagram (attributes_of diagram) stimulus table b place element t (table place 1 element t)
      → table place 1 element t ≡ shown_to (attributes_of diagram) table from element t
  handed from place kind b element t is one fed passes eq =
      let is_op : eq.0 ≡ OpPass =
      passes eq.0 (subst (λ (k : Kind). IsOpOf k element (A.param_at place) (type_into diagram A place 2) eq.0)
      is.kind_is eq.1) in
      let operation : Operation = record {
        op = eq.0;
        signs = signs_of b.kind;
        types = types_into diagram A place b.inputs;
        result = A.type_at place 1;
        rounding = b.rounding;
        saturate = b.saturate;
      } in
      let gives : Gives OpPass operation (types_into diagram A place b.inputs)
      (values_into diagram A table place b.inputs element t) (table place 1 element t) =
      subst (λ (op : Op). Gives op operation (types_into diagram A place b.inputs)
      (values_into diagram A table place b.inputs element t) (table place 1 element t)) is_op eq.2 in
      gives
      ∙ ap (λ (m : ℕ). value_of (values_into diagram A table place m element t) 0) one
      ∙ ap (λ (o : Option Edge). at_source o (pos 0)
      (λ source port. table source port (repeated (A.width_at source port) element) t)) fed

  -- ---- widths and periods along a line

  pub narrow : (from place : ℕ) (kind : Kind) (b : Block) → IsKindAt diagram place kind b
      → (row_of kind).signal.shape ≡ Shape.Elementwise → b.inputs ≡ 1 → 1 ≤ shown_ports kind b.outputs
      → IsFed diagram from place 1
      → ((attributes_of diagram).width_at from 1 ≡ 1)
      ⊎ ((attributes_of diagram).width_at from 1 ≡ shown_width diagram (attributes_of diagram) kind place 1)
  narrow from place kind b is shape one some fed =
      let fits = (known.fit diagram order place b solved.ordered is.block_is).0 in
      let own : HasWidths diagram A place kind b.inputs b.outputs =
      subst (λ (k : Kind). HasWidths diagram A place k b.inputs b.outputs) is.kind_is fits in
      let same : width_into diagram A place 1 ≡ A.width_at from 1 =
      ap (λ (o : Option Edge). at_source o 0 A.width_at) fed in
      let repeated_so : FitShape Shape.Elementwise diagram A place kind b.inputs b.outputs =
      subst (λ (s : Shape). FitShape s diagram A place kind b.inputs b.outputs) shape own in
      let here = repeated_so 1 1 (omega arith) (omega (arith, one)) (omega arith) some in
      subst (λ (w : ℕ). (w ≡ 1) ⊎ (w ≡ shown_width diagram A kind place 1)) same here

  pub paced : (from place port own : ℕ) (kind : Kind) (b : Block) → IsKindAt diagram place kind b
      → joins_periods (row_of kind).timing.reads ≡ false → IsFed diagram from place port
      → (attributes_of diagram).period_at from ≡ Some own → (attributes_of diagram).period_at place ≡ Some own
  paced from place port own kind b is joins fed period =
      let edge = known.lines diagram place port _ fed in
      let j = known.joins diagram edge.0 _ b own solved.ordered.checked edge.1 is.block_is period in
      j.1.period ∙ ap (λ (p : ℕ). Some p)
      (j.1.same (ap (λ (k : Kind). joins_periods (row_of k).timing.reads) is.kind_is ∙ joins))
