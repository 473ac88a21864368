-- What drives the ends of blocks is shown.
use Rattle.std.proofs.Common.{◌≡◌, ℕ, ◌<◌, ◌≤◌, ◌⊎◌, inl, inr, ◌==◌, Bool, true, false, List, [], Option, None, Some, ap, sym, ◌∙◌, subst, refl, arith, eq-eqb}
use Rattle.std.specs.Prelude.{min, map, cond, slice_get, slice_index_or}
use Rattle.std.proofs.lemmas.Bool.{false≢true, eqb-true}
use Rattle.std.proofs.lemmas.Option.{get_or_from_slice_get, slice_get_within}
use Rattle.dg_model.specs.declared.diagram.Diagram.{Diagram}
use Rattle.dg_model.specs.declared.diagram.Block.{Block}
use Rattle.dg_model.specs.declared.diagram.Edge.{Edge}
use Rattle.dg_model.specs.declared.kind.Kind.{Kind}
use Rattle.dg_model.specs.declared.kind.Kind.TheVariants.{Outport, Delay, EnableTest, EnOut}
use Rattle.dg_model.specs.declared.nested.Target.TheVariants.{Port}
use Rattle.dg_model.specs.Attributes.{attributes_of}
use Rattle.dg_model.specs.Checked.{IsChecked}
use Rattle.dg_model.specs.declared.row.Role.{Role}
use Rattle.dg_model.specs.KindRow.{Shape}
use Rattle.dg_model.specs.LatencyEdges.{asks_ever}
use Rattle.dg_model.specs.Library.{row_of}
use Rattle.dg_model.specs.Readable.{HasPorts}
use Rattle.dg_model.specs.Signals.{Attributes}
use Rattle.dg_model.specs.Solves.{width_of_role, shown_ports, shown_width, IsShown}
use Rattle.dg_model.specs.Widths.{widths_of, width_at, input_widths, next_of, taken, list_length, most_width}
use Rattle.dg_model.specs.Wired.{IsWired, NamesControl}
use Rattle.dg_model.specs.Wires.{driver_of, enters, repeated}
use Rattle.dg_model.proofs.Ports.{joins}
use Rattle.dg_sort.proofs.Lines.{matched}
use Rattle.hw_sched.proofs.Periods.{readable_at}
use Rattle.hw_shows.specs.Timed.{lag_into}
use Rattle.dg_tables.proofs.Sources.{is_control}
use Rattle.hw_build.specs.inner.Asks.{SourcesAreShown, EnabledShow}
use Rattle.hw_build.specs.inner.Facts.{count_by_lag, count_by, line_count, LateAreWide}
use Rattle.hw_build.specs.inner.HubPlaces.{is_output_role}
use Rattle.hw_build.proofs.HubSteps.{plain_ports}
use Rattle.dg_tables.proofs.Ranks.{found_at}

-- ---- elements

pub repeated_own : (width element : ℕ) → element < width → repeated width element ≡ element
repeated_own width element below = go (width == 1) refl
  where
    go : (b : Bool) → (width == 1) ≡ b → cond b 0 element ≡ element
    go true e = let one = eqb-true width 1 e in omega (arith, one, below)
    go false e = refl

repeated_one : (width element : ℕ) → width ≡ 1 → repeated width element < width
repeated_one width element one = let e : repeated width element ≡ 0 = ap (λ (b : Bool). cond b 0 element) (eq-eqb width 1 one) in omega (arith, e, one)

repeated_same : (width element : ℕ) → element < width → repeated width element < width
repeated_same width element below = let e = repeated_own width element below in omega (arith, e, below)

-- ---- blocks that drive lines

not_output : (kind : Kind) (inputs outputs : ℕ) → HasPorts kind inputs outputs → 1 ≤ outputs → is_output_role (row_of kind).place.role ≡ false
not_output (Outport number) inputs outputs ports some = let none = ports.1 in absurd (omega (arith, none, some))
not_output _ inputs outputs ports some = refl

plain_width : (diagram : Diagram) (a : Attributes) (role : Role) (block port : ℕ) → is_output_role role ≡ false → width_of_role diagram a role block port ≡ a.width_at block port
plain_width diagram a (Role.RootOutput number) block port is = absurd (false≢true (sym is))
plain_width diagram a _ block port is = refl

pub output_shown : (diagram : Diagram) (block : ℕ) (b : Block) (port : ℕ) → IsWired diagram → slice_get diagram.blocks block ≡ Some b → 1 ≤ port → port ≤ b.outputs
    → (port ≤ shown_ports b.kind b.outputs) × (shown_width diagram (attributes_of diagram) b.kind block port ≡ (attributes_of diagram).width_at block port)
output_shown diagram block b port wired at from to =
    let other = not_output b.kind b.inputs b.outputs (readable_at diagram wired block b at).ports (omega (arith, from, to)) in
    let ports = plain_ports (row_of b.kind).place.role b.outputs other in
    (omega (arith, ports, to), plain_width diagram (attributes_of diagram) (row_of b.kind).place.role block port other)

pub output_element : (diagram : Diagram) (block : ℕ) (b : Block) (port element : ℕ) → IsWired diagram
    → slice_get diagram.blocks block ≡ Some b → 1 ≤ port → port ≤ b.outputs
    → element < (attributes_of diagram).width_at block port
    → IsShown diagram (attributes_of diagram) block b port element
output_element diagram block b port element wired at from to below =
    let shown = output_shown diagram block b port wired at from to in
    let width = shown.1 in
    record { block_is = at; port_from = from; port_to = shown.0; element_below = omega (arith, width, below) }

-- ---- the source of a line

pub record IsSourceOf (diagram : Diagram) (edge : Edge) : Type 0 where
  pub source : Block
  pub is : slice_get diagram.blocks edge.from ≡ Some source
  pub port_from : 1 ≤ edge.from_port
  pub port_to : edge.from_port ≤ source.outputs

pub source_is : (diagram : Diagram) (number : ℕ) (edge : Edge) → IsWired diagram → slice_get diagram.edges number ≡ Some edge → IsSourceOf diagram edge
source_is diagram number edge wired at =
    let found = matched (slice_get diagram.blocks edge.from) (λ (b : Block). (1 ≤ edge.from_port) × (edge.from_port ≤ b.outputs)) (joins diagram number edge wired at).source in
    record { source = found.0; is = found.1; port_from = found.2.0; port_to = found.2.1 }

pub source_element : (diagram : Diagram) (edge : Edge) (element : ℕ) → IsWired diagram
    → (of : IsSourceOf diagram edge) → element < (attributes_of diagram).width_at edge.from edge.from_port
    → IsShown diagram (attributes_of diagram) edge.from of.source edge.from_port element
source_element diagram edge element wired of below = output_element diagram edge.from of.source edge.from_port element wired of.is of.port_from of.port_to below

-- the element that serves one of a line is there
serves_by_lag : (source own element : ℕ) (lag : Option ℕ) → ((l : ℕ) → lag ≡ Some l → (source ≡ 1) ⊎ (source ≡ own)) → element < count_by_lag source own lag → repeated source element < source
serves_by_lag source own element None wide below = repeated_same source element below
serves_by_lag source own element (Some l) wide below = elim (wide l refl) [
  | inl one ↦ repeated_one source element one
  | inr same ↦ repeated_same source element (omega (arith, same, below))
]

serves_by : (source own element : ℕ) (lags : ℕ → Option ℕ) (period : Option ℕ)
    → ((p l : ℕ) → lags p ≡ Some l → (source ≡ 1) ⊎ (source ≡ own)) → element < count_by source own lags period
    → repeated source element < source
serves_by source own element lags None wide below = repeated_same source element below
serves_by source own element lags (Some p) wide below = serves_by_lag source own element (lags p) (λ l e. wide p l e) below

pub serves : (diagram : Diagram) → LateAreWide diagram → (block : ℕ) (b : Block) (port element : ℕ) (edge : Edge)
    → slice_get diagram.blocks block ≡ Some b → 1 ≤ port → port ≤ b.inputs
    → driver_of diagram block port ≡ Some edge → element < line_count diagram block b port edge
    → repeated ((attributes_of diagram).width_at edge.from edge.from_port) element < (attributes_of diagram).width_at edge.from edge.from_port
serves diagram wide block b port element edge at from to drives below =
    serves_by ((attributes_of diagram).width_at edge.from edge.from_port)
    ((attributes_of diagram).width_at block 1) element
    (lag_into diagram (attributes_of diagram) block b (Port port))
    ((attributes_of diagram).period_at edge.from)
    (λ p l e. (wide.each block b port p l edge at from to drives e).1) below

-- ---- controls

control_shape : (kind : Kind) → (row_of kind).place.role ≡ Role.Control → (row_of kind).signal.shape ≡ Shape.Single
control_shape EnableTest is = refl
control_shape _ is = absurd (false≢true (ap is_control is))

control_outputs : (kind : Kind) (inputs outputs : ℕ) → HasPorts kind inputs outputs → (row_of kind).place.role ≡ Role.Control → outputs ≡ 1
control_outputs EnableTest inputs outputs ports is = ports.1
control_outputs _ inputs outputs ports is = absurd (false≢true (ap is_control is))

pub record IsControlOf (diagram : Diagram) (control : ℕ) : Type 0 where
  pub source : Block
  pub is : slice_get diagram.blocks control ≡ Some source
  pub outputs : source.outputs ≡ 1
  pub one : (attributes_of diagram).width_at control 1 ≡ 1

pub control_is : (diagram : Diagram) (block : ℕ) (b : Block) (control : ℕ) → IsChecked diagram → slice_get diagram.blocks block ≡ Some b → b.enable ≡ Some control → IsControlOf diagram control
control_is diagram block b control checked at enable =
    let names = subst (λ (x : Block). NamesControl diagram.blocks x.enable)
    (get_or_from_slice_get diagram.blocks block b b at)
    (checked.wired.controls block b (slice_get_within diagram.blocks block b at)) in
    let found = matched (slice_get diagram.blocks control) (λ (c : Block). (row_of c.kind).place.role ≡ Role.Control) (subst (λ (o : Option ℕ). NamesControl diagram.blocks o) enable names) in
    let c : Block = found.0 in
    let own : ℕ = width_at (widths_of diagram) control 1 in
    let inputs : List ℕ = input_widths diagram (widths_of diagram) control in
    let settled : next_of (Some c) own inputs ≡ slice_index_or (widths_of diagram) control [] =
    ap (λ (o : Option Block). next_of o own inputs) (sym found.1)
    ∙ (checked.dimensions.blocks control c found.1).settled in
    record {
      source = c;
      is = found.1;
      outputs = control_outputs c.kind c.inputs c.outputs (readable_at diagram checked.wired control c found.1).ports found.2;
      one = ap (λ (xs : List ℕ). slice_index_or xs 0 0) (sym settled)
          ∙ ap (λ (s : Shape). slice_index_or (map (min most_width) (taken s (list_length c.kind) own inputs)) 0 0)
          (control_shape c.kind found.2);
    }

pub control_shown : (diagram : Diagram) (control : ℕ) → IsWired diagram → (of : IsControlOf diagram control) → IsShown diagram (attributes_of diagram) control of.source 1 0
control_shown diagram control wired of =
    let outputs = of.outputs in
    let one = of.one in
    output_element diagram control of.source 1 0 wired of.is (omega arith) (omega (arith, outputs)) (omega (arith, one))

-- what asks for its control shows something
asking_shows : (kind : Kind) (inputs outputs : ℕ) → HasPorts kind inputs outputs → asks_ever (row_of kind).timing.asks ≡ true → 1 ≤ shown_ports kind outputs
asking_shows (Delay delay initial reset) inputs outputs ports asks = let one = ports.1 in omega (arith, one)
asking_shows (EnOut reset initial) inputs outputs ports asks = let one = ports.1 in omega (arith, one)
asking_shows _ inputs outputs ports asks = absurd (false≢true asks)

-- ---- all of them

pub sources_are_shown : (diagram : Diagram) → IsChecked diagram → LateAreWide diagram → SourcesAreShown diagram
sources_are_shown diagram checked wide = record {
  lines = λ block b port element edge at showing from to drives below.
      let found = found_at (enters block port) diagram.edges edge drives in
      let of = source_is diagram found.0 edge checked.wired found.1 in (
        of.source,
        source_element diagram edge
            (repeated ((attributes_of diagram).width_at edge.from edge.from_port) element) checked.wired of
            (serves diagram wide block b port element edge at from to drives below),
      );
  enables = λ block b control at feeds. let of = control_is diagram block b control checked at feeds.0 in (of.source, control_shown diagram control checked.wired of);
}

pub enabled_show : (diagram : Diagram) → IsWired diagram → EnabledShow diagram
enabled_show diagram wired = record { some = λ block b control at feeds. asking_shows b.kind b.inputs b.outputs (readable_at diagram wired block b at).ports feeds.1 }
