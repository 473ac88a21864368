-- What the steps of a building owe: the facts of ends, blocks and pipelines, of the rows of every
-- netlist that the one under way may become (own).
use Rattle.std.specs.Prelude.{◌≡◌, ℕ, ◌-◌, ◌<◌, ◌≤◌, ◌⊎◌, min, ℤ, pos, [], Option, None, Some, slice_get}
use Rattle.fx_type.specs.FxType.{is_signed, width_of}
use Rattle.dg_model.specs.declared.diagram.Diagram.{Diagram}
use Rattle.dg_model.specs.declared.diagram.Block.{Block}
use Rattle.dg_model.specs.declared.diagram.Edge.{Edge}
use Rattle.dg_model.specs.declared.nested.Target.{Target}
use Rattle.dg_model.specs.declared.nested.Target.TheVariants.{Port, Enable}
use Rattle.dg_model.specs.Attributes.{attributes_of}
use Rattle.dg_model.specs.RootElements.{RootElement, root_inputs}
use Rattle.dg_model.specs.Solves.{IsShown, shown_ports}
use Rattle.dg_model.specs.Wires.{driver_of, repeated}
use Rattle.hw_net.specs.declared.netlist.Net.{Net}
use Rattle.hw_net.specs.declared.netlist.NetKind.TheVariants.{Comb}
use Rattle.hw_net.specs.declared.netlist.NetOp.TheVariants.{Input}
use Rattle.hw_net.specs.Circuit.{Circuit}
use Rattle.hw_shows.specs.Timing.{Timing}
use Rattle.hw_shows.specs.Timed.{lag_into, Feeds}
use Rattle.hw_shows.specs.Series.{IsOffered}
use Rattle.hw_shows.specs.Waves.{IsMadeAs, IsPiped}
use Rattle.hw_build.specs.Places.{Places, waves_of}
use Rattle.hw_build.specs.inner.Growth.{InLater}

-- how many nets the line into a port has: one for each element of its source, or where it has
-- registers for each element of the block
abbrev pub count_by_lag : ℕ → ℕ → Option ℕ → ℕ
count_by_lag source own None = source
count_by_lag source own (Some lag) = own

abbrev pub count_by : ℕ → ℕ → (ℕ → Option ℕ) → Option ℕ → ℕ
count_by source own lags None = source
count_by source own lags (Some period) = count_by_lag source own (lags period)

abbrev pub line_count : Diagram → ℕ → Block → ℕ → Edge → ℕ
line_count diagram block b port edge =
    count_by ((attributes_of diagram).width_at edge.from edge.from_port)
    ((attributes_of diagram).width_at block 1)
    (lag_into diagram (attributes_of diagram) block b (Port port))
    ((attributes_of diagram).period_at edge.from)

module _ (diagram : Diagram) (timing : Timing) (places : Places) (closed hubs : ℕ)
    (now : Circuit) where
  -- an end of a block is offered a net by another
  abbrev pub IsOfferedBy : ℕ → Block → Target → ℕ → ℤ → ℕ → ℕ → Type 0
  IsOfferedBy block b target from first source line =
      InLater closed hubs now
      (λ n rows. IsOffered n timing from ((attributes_of diagram).period_at from) block
      ((attributes_of diagram).period_at block)
      (lag_into diagram (attributes_of diagram) block b target) first (rows source) (rows line))

  -- the lines
  pub record HaveLines : Type 0 where
    pub each : (block : ℕ) (b : Block) (port element : ℕ) (edge : Edge)
        → slice_get diagram.blocks block ≡ Some b → 1 ≤ shown_ports b.kind b.outputs
        → 1 ≤ port → port ≤ b.inputs → driver_of diagram block port ≡ Some edge
        → element < line_count diagram block b port edge
        → IsOfferedBy block b (Port port) edge.from (places.first block element)
        (places.after edge.from edge.from_port
        (repeated ((attributes_of diagram).width_at edge.from edge.from_port) element))
        (places.offered block port element)

  -- what enables
  pub record HaveEnables : Type 0 where
    pub each : (block : ℕ) (b : Block) (control : ℕ) → slice_get diagram.blocks block ≡ Some b
        → Feeds diagram block b Enable control
        → IsOfferedBy block b Enable control (pos 0) (places.after control 1 0)
        (places.enable block)

  -- an element of a block, and its pipeline
  abbrev pub IsElementMade : ℕ → Block → ℕ → ℕ → Type 0
  IsElementMade block b port element =
      InLater closed hubs now
      (λ n rows. IsMadeAs diagram (attributes_of diagram) timing n
      (waves_of places rows) b.kind block b port element)

  abbrev pub IsElementPiped : ℕ → ℕ → ℕ → Type 0
  IsElementPiped block port element =
      InLater closed hubs now
      (λ n rows. IsPiped diagram (attributes_of diagram) timing n (waves_of places rows)
      ((attributes_of diagram).period_at block) block port element)

  -- the elements of the first blocks
  pub record HaveElements (count : ℕ) : Type 0 where
    pub made : (block : ℕ) (b : Block) (port element : ℕ) → block < count
        → IsShown diagram (attributes_of diagram) block b port element
        → IsElementMade block b port element
    pub piped : (block : ℕ) (b : Block) (port element : ℕ) → block < count
        → IsShown diagram (attributes_of diagram) block b port element
        → IsElementPiped block port element

-- the net of a root input's element shows the input port of its number, in the word of its type
pub record IsInputNet (now : Circuit) (port number : ℕ) (e : RootElement) : Type 0 where
  pub net : Net
  pub is : slice_get now.nets number ≡ Some net
  pub kind : net.kind ≡ Comb (Input port) []
  pub wide : net.width ≡ width_of e.type
  pub sign : net.signed ≡ is_signed e.type

pub record HaveInputs (diagram : Diagram) (places : Places) (now : Circuit) : Type 0 where
  pub each : (port : ℕ) (e : RootElement)
      → slice_get (root_inputs diagram (attributes_of diagram)) port ≡ Some e
      → IsInputNet now port (places.input e.number e.element) e

-- past the elements of a line or a block stand those of the last again, so that places are told of
-- every number
pub record AreSpread (diagram : Diagram) (places : Places) : Type 0 where
  pub offered : (block : ℕ) (b : Block) (port element : ℕ) (edge : Edge)
      → slice_get diagram.blocks block ≡ Some b → driver_of diagram block port ≡ Some edge
      → places.offered block port element
      ≡ places.offered block port (min element (line_count diagram block b port edge - 1))
  pub first : (block element : ℕ)
      → places.first block element
      ≡ places.first block (min element ((attributes_of diagram).width_at block 1 - 1))

-- a block whose end has registers has elements, and its source one for all or one for each of them
pub record LateAreWide (diagram : Diagram) : Type 0 where
  pub each : (block : ℕ) (b : Block) (port source lag : ℕ) (edge : Edge)
      → slice_get diagram.blocks block ≡ Some b → 1 ≤ port → port ≤ b.inputs
      → driver_of diagram block port ≡ Some edge
      → lag_into diagram (attributes_of diagram) block b (Port port) source ≡ Some lag
      → (0 < (attributes_of diagram).width_at block 1)
      × (((attributes_of diagram).width_at edge.from edge.from_port ≡ 1)
      ⊎ ((attributes_of diagram).width_at edge.from edge.from_port
      ≡ (attributes_of diagram).width_at block 1))

-- all of it
pub record HaveFacts (diagram : Diagram) (timing : Timing) (places : Places) (closed hubs : ℕ)
    (now : Circuit) (count : ℕ) : Type 0 where
  pub cycles : now.cycles ≡ timing.cycles
  pub spread : AreSpread diagram places
  pub inputs : HaveInputs diagram places now
  pub lines : HaveLines diagram timing places closed hubs now
  pub enables : HaveEnables diagram timing places closed hubs now
  pub elements : HaveElements diagram timing places closed hubs now count
