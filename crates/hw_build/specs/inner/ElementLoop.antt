-- The netlist while the elements of blocks are put in, for all places that the nets so far allow
-- (own).
use Rattle.std.specs.Prelude.{◌≡◌, ℕ, zero, suc, ◌+◌, ◌<◌, ◌≤◌, ◌==◌, ◌&&◌, ◌⊎◌, not, List, length, Contains, [], slice_get, slice_index_or, Some, false, true}
use Rattle.fx_type.specs.FxType.{is_signed, width_of}
use Rattle.fx_type.specs.Laws.{StoredIsOne}
use Rattle.dg_model.specs.declared.diagram.Diagram.{Diagram}
use Rattle.dg_model.specs.declared.diagram.Block.{Block}
use Rattle.dg_model.specs.declared.diagram.Edge.{Edge}
use Rattle.dg_model.specs.declared.nested.Target.TheVariants.{Port}
use Rattle.dg_model.specs.Attributes.{attributes_of}
use Rattle.dg_model.specs.Laws.{InputsAreListed, WidthsAreOfEdges}
use Rattle.dg_model.specs.Library.{row_of}
use Rattle.dg_model.specs.RootElements.{root_inputs}
use Rattle.dg_model.specs.Solves.{IsShown, shown_ports}
use Rattle.dg_model.specs.Wires.{driver_of}
use Rattle.dg_tables.specs.Laws.{IsOrdered, SignalsFit, TypesAreValid}
use Rattle.hw_net.specs.declared.netlist.Frame.{Frame}
use Rattle.hw_net.specs.Circuit.{Circuit}
use Rattle.hw_net.specs.Frames.{register_count, IsCounterAt}
use Rattle.hw_net.specs.Growing.{Appends}
use Rattle.hw_net.specs.Netlist.{HasWord}
use Rattle.hw_sched.specs.Laws.{ControlsAreEdges, LinesAreEdges}
use Rattle.hw_shows.specs.Timed.{lag_into}
use Rattle.hw_build.specs.Places.{Places}
use Rattle.hw_build.specs.Serving.{multipliers, others}
use Rattle.hw_build.specs.declared.blocks.Setting.{Setting}
use Rattle.hw_build.specs.declared.entry.Entry.{Entry}
use Rattle.hw_build.specs.declared.operands.Operands.{Operands}
use Rattle.hw_build.specs.inner.DesignTimes.{IsDesigned, timing_for, times_for}
use Rattle.hw_build.specs.inner.Entries.{IsEntryAt, kept_each}
use Rattle.hw_build.specs.inner.ElementStep.{ProductsAreLow}
use Rattle.hw_build.specs.inner.Facts.{line_count, IsElementMade}
use Rattle.hw_build.specs.inner.FrameCounts.{IsBlockFrame}
use Rattle.hw_build.specs.inner.Growth.{GoesOn}
use Rattle.hw_build.specs.inner.HubPlaces.{before, hub_at, hub_of, hub_start, hubs_in_all, is_input_role, port_size, start_level, HasHubs}
use Rattle.hw_build.specs.inner.MarkNames.{AreMarked}
use Rattle.hw_build.specs.inner.Operands.{AreLinePlaces, enabled_by, first_at, first_not, offered_at}
use Rattle.hw_build.specs.inner.ResultNets.{AreProducts, HaveProducts, product_net}
use Rattle.hw_build.specs.inner.Spots.{Spots, AreEven, AreSpotted, IsGoing}
use Rattle.hw_build.specs.inner.Tally.{ReadThere, AreTallied, IsOwnProduct, products_by}
use Rattle.hw_build.specs.inner.Start.{IsReadied}
use Rattle.hw_build.specs.inner.Units.{HaveUnits}
use Rattle.hw_build.specs.inner.UnderWay.{IsUnderWay, own_level}

-- the place of a block in an order
abbrev pub place_in : List ℕ → ℕ → ℕ
place_in order block = first_not (λ other. not (other == block)) order

-- ---- places by what is gathered

-- the first register of a state is what it takes
abbrev pub state_from : ℕ → ℕ → ℕ → ℕ
state_from taken first zero = taken
state_from taken first (suc k) = first + k

module _ (diagram : Diagram) (firsts : List (List ℕ)) (operands : Operands) (product : ℕ → ℕ → ℕ) where
  -- the places whose lines and products are these
  pub record IsFitting (places : Places) : Type 0 where
    pub lines : AreLinePlaces diagram firsts operands places
    pub product_is : (block element : ℕ) → places.product block element ≡ product block element

  -- those of elements with these
  abbrev pub places_of : Spots → Places
  places_of spots = record {
    input = λ number element. first_not (λ e. not ((e.number == number) && (e.element == element))) (root_inputs diagram (attributes_of diagram));
    entry = λ block port element. slice_index_or spots.entries (hub_at firsts block port element) 0;
    after = λ block port element. hub_at firsts block port element;
    stage = λ block port element k. slice_index_or spots.stages (hub_at firsts block port element) 0 + k;
    offered = λ block port element. offered_at diagram operands block port element;
    enable = λ block. enabled_by operands block;
    state = λ block element k. state_from (offered_at diagram operands block 1 element) (slice_index_or spots.states (hub_at firsts block 1 element) 0) k;
    first = λ block element. first_at diagram block element;
    product = product;
  }

-- ---- what is kept

-- the nets that readers name were put in first
pub record StoodHubs (diagram : Diagram) (firsts : List (List ℕ)) : Type 0 where
  pub earlier : Circuit
  pub later : Circuit
  pub has : HasHubs diagram earlier later firsts

-- the first net of a port of a block that is no root input, behind so many ports
abbrev pub port_start : Diagram → ℕ → Block → ℕ → ℕ
port_start diagram block b ports = hub_start diagram block + before (port_size diagram block b) ports

-- what is known when elements are put in
pub record IsSet (setting : Setting) : Type 0 where
  pub designed : IsDesigned setting.design
  pub stood : StoodHubs setting.design.checked.now.diagram setting.firsts.now
  pub products_are : AreProducts setting.design.checked.now.diagram setting.design.plan.now setting.products.now

-- and of diagrams
pub record IsKnown (setting : Setting) : Type 0 where
  pub listed : InputsAreListed
  pub fit : SignalsFit
  pub valid : TypesAreValid
  pub widths : WidthsAreOfEdges
  pub storing : StoredIsOne
  pub lines : LinesAreEdges
  pub controls : ControlsAreEdges
  pub ordered : IsOrdered setting.design.checked.now.diagram setting.design.checked.now.order
  pub set : IsSet setting

module _ (setting : Setting) where
  abbrev pub diagram_of : Diagram
  diagram_of = setting.design.checked.now.diagram

  abbrev pub roots_of : ℕ
  roots_of = length (root_inputs diagram_of (attributes_of diagram_of))

  -- the places whose lines and products are those that are known
  abbrev pub Fits : Places → Type 0
  Fits places = IsFitting diagram_of setting.firsts.now setting.operands.now (product_net setting.products.now) places

-- the netlist at which elements begin: by all places that fit it is under way, and the nets that
-- readers name wait on the levels of their blocks
pub record IsBegunBy (setting : Setting) (places : Places) (now : Circuit) : Type 0 where
  pub level : ℕ → ℕ
  pub way : IsUnderWay (diagram_of setting) (timing_for setting.design) places
      (place_in setting.design.checked.now.order) (roots_of setting)
      (hubs_in_all (diagram_of setting)) now level 0
  pub levels : (k : ℕ) → k < hubs_in_all (diagram_of setting) → level k ≡ start_level (diagram_of setting) (place_in setting.design.checked.now.order) k
  -- what an end with registers is offered reads nothing in its own clock
  pub late : (block : ℕ) (b : Block) (port element : ℕ) (edge : Edge) (source lag : ℕ) → slice_get (diagram_of setting).blocks block ≡ Some b
      → 1 ≤ shown_ports b.kind b.outputs → 1 ≤ port → port ≤ b.inputs → driver_of (diagram_of setting) block port ≡ Some edge
      → element < line_count (diagram_of setting) block b port edge → (attributes_of (diagram_of setting)).period_at edge.from ≡ Some source
      → lag_into (diagram_of setting) (attributes_of (diagram_of setting)) block b (Port port) source ≡ Some lag → level (places.offered block port element) ≡ 0
  pub products : HaveProducts (diagram_of setting) setting.design.plan.now
      (times_for setting.design) places (roots_of setting) (hubs_in_all (diagram_of setting)) now
  pub low : ProductsAreLow (diagram_of setting) setting.design.plan.now (times_for setting.design) places level
  pub units : HaveUnits (diagram_of setting) setting.design.plan.now (times_for setting.design) places (roots_of setting) (hubs_in_all (diagram_of setting)) now

pub record IsBegun (setting : Setting) (now : Circuit) : Type 0 where
  pub cycles : now.cycles ≡ setting.design.plan.now.cycles
  pub few : length now.inputs ≤ roots_of setting
  pub fresh : (block : ℕ) (b : Block) (port element : ℕ)
      → IsShown (diagram_of setting) (attributes_of (diagram_of setting)) block b port element
      → is_input_role (row_of b.kind).place.role ≡ false
      → slice_get now.nets (hub_at setting.firsts.now block port element) ≡ Some (hub_of ((attributes_of (diagram_of setting)).type_at block 1))
  pub there : ReadThere now.nets
  pub readied : IsReadied (diagram_of setting) setting.design.plan.now (times_for setting.design) now
  pub unnamed : now.labels ≡ []
  pub each : (places : Places) → Fits setting places → IsBegunBy setting places now

module _ (setting : Setting) where
  -- by these places, the netlist goes on
  abbrev pub IsGoingBy : Places → Circuit → ℕ → Circuit → (ℕ → ℕ) → Type 0
  IsGoingBy places start closed now level =
      IsGoing (diagram_of setting) (timing_for setting.design) places
      (place_in setting.design.checked.now.order) (roots_of setting) start closed
      (hubs_in_all (diagram_of setting)) now level

  abbrev pub HaveProductsBy : Places → ℕ → Circuit → Type 0
  HaveProductsBy places closed now =
      HaveProducts (diagram_of setting) setting.design.plan.now
      (times_for setting.design) places closed (hubs_in_all (diagram_of setting)) now

  -- it does by all that fit
  pub record AreGoing (now : Circuit) (spots : Spots) : Type 0 where
    pub even : AreEven spots
    pub cycles : now.cycles ≡ setting.design.plan.now.cycles
    pub start : Circuit
    pub begun : IsBegun setting start
    pub tally : AreTallied (diagram_of setting) setting.design.plan.now (timing_for setting.design) setting.firsts.now start now spots
    pub marks : AreMarked (diagram_of setting) setting.design.plan.now (times_for setting.design) setting.firsts.now start now (length spots.entries)
    pub each : (places : Places) → Fits setting places
        → AreSpotted (diagram_of setting) setting.firsts.now spots places → (level : ℕ → ℕ)
        × IsGoingBy places start (length spots.entries) now level

  -- up to a net that readers name, by the places of the elements before
  pub record Reaches (now : Circuit) (closed : ℕ) : Type 0 where
    pub spots : Spots
    pub going : AreGoing now spots
    pub at : length spots.entries ≡ closed

  -- an element was put in: its net stands below the one that readers name
  pub record IsEnteredBy (places : Places) (start : Circuit) (closed : ℕ) (after : Circuit)
      (block : ℕ) (b : Block) (port element : ℕ) (entry : Entry) : Type 0 where
    pub next : ℕ → ℕ
    pub going : IsGoingBy places start closed after next
    pub low : next entry.net ≤ own_level (place_in setting.design.checked.now.order block)
    pub made : IsElementMade (diagram_of setting) (timing_for setting.design) places closed (hubs_in_all (diagram_of setting)) after block b port element

  pub record IsEntered (before after : Circuit) (block : ℕ) (b : Block) (port element : ℕ) (entry : Entry) : Type 0 where
    pub named : List ℕ
    pub appends : Appends before after named
    -- what it reads stood when elements began, and so did its net, or it is new
    pub below : (start : Circuit) → IsBegun setting start → length start.nets ≤ length before.nets → (read : ℕ) → Contains named read → read < length start.nets
    pub stands : Contains named entry.net ⊎ (length before.nets ≤ entry.net)
    pub few : register_count after.nets ≤ register_count before.nets + kept_each (diagram_of setting) block b
    pub own : length (others after) ≡ length (others before) + products_by (diagram_of setting) setting.design.plan.now block
    pub shared : multipliers after ≡ multipliers before
    pub new_product : (k : ℕ) → entry.multiply ≡ Some k → (length before.nets ≤ k)
        × (k < length after.nets)
        × (products_by (diagram_of setting) setting.design.plan.now block ≡ 1)
    pub product : products_by (diagram_of setting) setting.design.plan.now block ≡ 1 → IsOwnProduct after entry.multiply
    pub own_number : (m : ℕ) → entry.multiply ≡ Some m → ((row_of b.kind).hardware.multiplies ≡ true) × (length before.nets ≤ m) × (m < length after.nets)
    pub own_frames : (k : ℕ) (frame : Frame) → length before.nets ≤ k → IsCounterAt after.nets k frame
        → IsBlockFrame (diagram_of setting) setting.design.plan.now (times_for setting.design) block frame
    pub word : HasWord after.nets entry.net
        (width_of ((attributes_of (diagram_of setting)).type_at block 1))
        (is_signed ((attributes_of (diagram_of setting)).type_at block 1))
    pub each : (places : Places) (start : Circuit) (closed : ℕ) (level : ℕ → ℕ) → Fits setting places → IsEntryAt places block b port element entry
        → HaveProductsBy places (roots_of setting) start → IsGoingBy places start closed before level
        → IsEnteredBy places start closed after block b port element entry

  -- so do the places of those before
  pub record Stands (now : Circuit) : Type 0 where
    pub spots : Spots
    pub going : AreGoing now spots

-- all elements stand, by the places that were gathered: what is left to do is no more than ports
pub record HasElements (setting : Setting) (now : Circuit) (spots : Spots) : Type 0 where
  pub fits : Fits setting (places_of (diagram_of setting) setting.firsts.now setting.operands.now (product_net setting.products.now) spots)
  pub level : ℕ → ℕ
  pub way : IsUnderWay (diagram_of setting) (timing_for setting.design)
      (places_of (diagram_of setting) setting.firsts.now setting.operands.now (product_net setting.products.now) spots)
      (place_in setting.design.checked.now.order) (hubs_in_all (diagram_of setting)) (hubs_in_all (diagram_of setting)) now level
      (length (diagram_of setting).blocks)
  -- what was so of the netlist at which the elements began is so of each that this one may become
  pub start : Circuit
  pub begun : IsBegun setting start
  pub tally : AreTallied (diagram_of setting) setting.design.plan.now (timing_for setting.design) setting.firsts.now start now spots
  pub marks : AreMarked (diagram_of setting) setting.design.plan.now (times_for setting.design) setting.firsts.now start now (length spots.entries)
  pub size : length spots.entries ≡ hubs_in_all (diagram_of setting)
  pub since : GoesOn (roots_of setting) (hubs_in_all (diagram_of setting)) start now
