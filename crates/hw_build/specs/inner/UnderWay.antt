-- All that is kept while a netlist is built, from one call to the next (own).
use Rattle.std.specs.Prelude.{◌≡◌, ℕ, ◌+◌, ◌*◌, ◌<◌, ◌≤◌, Some, slice_get, length}
use Rattle.fx_type.specs.FxType.{is_signed, width_of}
use Rattle.dg_model.specs.declared.diagram.Diagram.{Diagram}
use Rattle.dg_model.specs.declared.diagram.Block.{Block}
use Rattle.dg_model.specs.declared.diagram.Edge.{Edge}
use Rattle.dg_model.specs.declared.nested.Target.TheVariants.{Enable}
use Rattle.dg_model.specs.Attributes.{attributes_of}
use Rattle.dg_model.specs.RootElements.{root_inputs}
use Rattle.dg_model.specs.Solves.{IsShown, shown_ports}
use Rattle.dg_model.specs.Wires.{driver_of}
use Rattle.hw_net.specs.Circuit.{Circuit}
use Rattle.hw_net.specs.Frames.{CountersDiffer}
use Rattle.hw_net.specs.Netlist.{HasWord}
use Rattle.hw_shows.specs.Timing.{Timing}
use Rattle.hw_shows.specs.Timed.{Feeds}
use Rattle.hw_build.specs.Places.{Places}
use Rattle.hw_build.specs.inner.Facts.{line_count, HaveFacts}
use Rattle.hw_build.specs.inner.Levels.{IsLevelled}
use Rattle.hw_build.specs.inner.Soundness.{AreSound}

-- the levels of the hub of a block, of its lines and of its other nets, by the place of the block
-- in the order of a checked diagram
abbrev pub own_level : ℕ → ℕ
own_level place = 3 * place + 1

abbrev pub hub_level : ℕ → ℕ
hub_level place = 3 * place + 2

abbrev pub line_level : ℕ → ℕ
line_level place = 3 * place + 3

module _ (diagram : Diagram) (places : Places) (place_of : ℕ → ℕ) (hubs : ℕ) (now : Circuit)
    (level : ℕ → ℕ) where
  -- the hubs are the first nets, in the words of their elements
  pub record HaveHubs : Type 0 where
    pub there : hubs ≤ length now.nets
    pub below : (block : ℕ) (b : Block) (port element : ℕ)
        → IsShown diagram (attributes_of diagram) block b port element
        → places.after block port element < hubs
    pub words : (block : ℕ) (b : Block) (port element : ℕ)
        → IsShown diagram (attributes_of diagram) block b port element
        → HasWord now.nets (places.after block port element)
        (width_of ((attributes_of diagram).type_at block port))
        (is_signed ((attributes_of diagram).type_at block port))
    pub levels : (block : ℕ) (b : Block) (port element : ℕ)
        → IsShown diagram (attributes_of diagram) block b port element
        → level (places.after block port element) ≤ hub_level (place_of block)

  -- what ends of blocks are offered has the words of their sources, and stands above these at the
  -- most as their lines do
  pub record HaveOperands : Type 0 where
    pub there : (block : ℕ) (b : Block) (port element : ℕ) (edge : Edge)
        → slice_get diagram.blocks block ≡ Some b → 1 ≤ shown_ports b.kind b.outputs
        → 1 ≤ port → port ≤ b.inputs → driver_of diagram block port ≡ Some edge
        → element < line_count diagram block b port edge
        → HasWord now.nets (places.offered block port element)
        (width_of ((attributes_of diagram).type_at edge.from edge.from_port))
        (is_signed ((attributes_of diagram).type_at edge.from edge.from_port))
    pub levels : (block : ℕ) (b : Block) (port element : ℕ) (edge : Edge)
        → slice_get diagram.blocks block ≡ Some b → 1 ≤ shown_ports b.kind b.outputs
        → 1 ≤ port → port ≤ b.inputs → driver_of diagram block port ≡ Some edge
        → element < line_count diagram block b port edge
        → level (places.offered block port element) ≤ line_level (place_of edge.from)
    pub enables : (block : ℕ) (b : Block) (control : ℕ) → slice_get diagram.blocks block ≡ Some b
        → Feeds diagram block b Enable control
        → HasWord now.nets (places.enable block)
        (width_of ((attributes_of diagram).type_at control 1))
        (is_signed ((attributes_of diagram).type_at control 1))
    pub enable_levels : (block : ℕ) (b : Block) (control : ℕ)
        → slice_get diagram.blocks block ≡ Some b → Feeds diagram block b Enable control
        → level (places.enable block) ≤ line_level (place_of control)

-- the first `count` blocks have their elements, and the hubs below `closed` their arguments
pub record IsUnderWay (diagram : Diagram) (timing : Timing) (places : Places) (place_of : ℕ → ℕ)
    (closed hubs : ℕ) (now : Circuit) (level : ℕ → ℕ) (count : ℕ) : Type 0 where
  pub facts : HaveFacts diagram timing places closed hubs now count
  pub hubs_are : HaveHubs diagram places place_of hubs now level
  pub operands : HaveOperands diagram places place_of hubs now level
  pub sound : AreSound closed hubs now (length (root_inputs diagram (attributes_of diagram)))
  pub levelled : IsLevelled now.nets level
  pub differ : CountersDiffer now.nets
