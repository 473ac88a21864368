-- What the ends of a block offer to an element, for all places that fit what is known (own).
use Rattle.std.specs.Prelude.{◌≡◌, ◌<◌, ◌+◌, ◌∷◌, [], ℕ, Bool, false, List, Some, length, map, sum, slice_get, slice_index_or}
use Rattle.math_list.specs.Numbers.{numbers_from}
use Rattle.dg_model.specs.Attributes.{attributes_of}
use Rattle.dg_model.specs.LatencyEdges.{asks_ever}
use Rattle.dg_model.specs.Library.{row_of}
use Rattle.dg_model.specs.Solves.{IsShown, shown_ports, shown_width}
use Rattle.dg_model.specs.Wires.{types_into, width_into}
use Rattle.hw_build.specs.declared.block_inputs.BlockAt.{BlockAt}
use Rattle.hw_build.specs.declared.block_inputs.BlockInputs.{BlockInputs}
use Rattle.dg_model.specs.declared.diagram.Block.{Block}
use Rattle.dg_model.specs.declared.diagram.Diagram.{Diagram}
use Rattle.dg_model.specs.declared.kind.Kind.{Kind}
use Rattle.dg_model.specs.declared.kind.Kind.TheVariants.{Mux, Demux}
use Rattle.hw_build.specs.declared.blocks.Setting.{Setting}
use Rattle.hw_build.specs.inner.Entries.{AreOffered}
use Rattle.hw_build.specs.declared.offers.Element.{Element}
use Rattle.hw_build.specs.inner.HubPlaces.{is_input_role}
use Rattle.hw_build.specs.inner.ElementLoop.{Fits, diagram_of}
use Rattle.hw_build.specs.Places.{Places}

-- the block is there
abbrev pub IsBlockAt : BlockAt → Type 0
IsBlockAt at = slice_get (diagram_of at.setting).blocks at.block ≡ Some at.one.now

abbrev pub Offer : Setting → ℕ → Block → ℕ → ℕ → List ℕ → Type 0
Offer setting block b port element operands =
    (places : Places) → Fits setting places
    → AreOffered (diagram_of setting) places block b port element b.kind operands

abbrev pub OffersTo : Element → List ℕ → Type 0
OffersTo to operands =
    Offer to.setting to.place.block to.one.now to.place.port to.place.element operands

-- of a Mux the nets that are offered to the elements of its first input ports, and to so many of
-- the next one
pub record ArePartsTo (setting : Setting) (block : ℕ) (b : Block) (ports left : ℕ)
    (parts : List ℕ) : Type 0 where
  pub size : length parts
      ≡ sum (map (width_into (diagram_of setting) (attributes_of (diagram_of setting)) block)
      (numbers_from 1 ports)) + left
  pub each : (element : ℕ) → element < length parts
      → Offer setting block b 1 element (slice_index_or parts element 0 ∷ [])

-- how many elements stand before those of each of the first ports
pub record AreBegins (diagram : Diagram) (block : ℕ) (b : Block) (ports : ℕ)
    (begins : List ℕ) : Type 0 where
  pub size : length begins ≡ ports
  pub each : (k : ℕ) → k < ports
      → slice_index_or begins k 0
      ≡ sum (map (shown_width diagram (attributes_of diagram) b.kind block) (numbers_from 1 k))

-- what all elements of a block read
pub record AreReadBy (setting : Setting) (block : ℕ) (b : Block)
    (inputs : BlockInputs) : Type 0 where
  pub types_are : inputs.types.items
      ≡ types_into (diagram_of setting) (attributes_of (diagram_of setting)) block b.inputs
  pub parts_are : (sizes : List ℕ) → b.kind ≡ Mux sizes
      → ArePartsTo setting block b b.inputs 0 inputs.parts
  pub begins_are : (sizes : List ℕ) → b.kind ≡ Demux sizes
      → AreBegins (diagram_of setting) block b (shown_ports b.kind b.outputs) inputs.begins

-- nothing is read yet
pub record AreBare (inputs : BlockInputs) : Type 0 where
  pub types : inputs.types.items ≡ []
  pub parts : inputs.parts ≡ []
  pub begins : inputs.begins ≡ []

-- the table shows the element
abbrev pub IsShownAt : Element → Type 0
IsShownAt to =
    IsShown (diagram_of to.setting)
    (attributes_of (diagram_of to.setting)) to.place.block to.one.now to.place.port to.place.element

-- it is one of a block that is no root input and reads this
pub record IsAtHand (to : Element) (inputs : BlockInputs) : Type 0 where
  pub shown : IsShownAt to
  pub other : is_input_role (row_of to.one.now.kind).place.role ≡ false
  pub reading : AreReadBy to.setting to.place.block to.one.now inputs

-- whether a kind reads the element of its one input, and what enables it
abbrev pub reads_enable : Kind → Bool
reads_enable kind = asks_ever (row_of kind).timing.asks
