-- What ends of blocks ask by the times of a schedule: a source as it is where it never changes,
-- else one that is shown later (own).
use Rattle.std.specs.Prelude.{◌≡◌, ℕ, ◌<◌, ◌≤◌, ◌⊎◌, ℤ, pos, true, is_some, List, None, Some, slice_get}
use Rattle.math_num.specs.Word.{IsWord, InWord}
use Rattle.dg_model.specs.declared.diagram.Diagram.{Diagram}
use Rattle.dg_model.specs.declared.diagram.Block.{Block}
use Rattle.dg_model.specs.declared.diagram.Edge.{Edge}
use Rattle.dg_model.specs.declared.nested.Target.{Target}
use Rattle.dg_model.specs.declared.nested.Target.TheVariants.{Port, Enable}
use Rattle.dg_model.specs.Attributes.{attributes_of}
use Rattle.dg_model.specs.Solves.{IsShown, shown_ports}
use Rattle.dg_model.specs.Wires.{driver_of, repeated}
use Rattle.hw_net.specs.declared.netlist.Net.{Net}
use Rattle.hw_net.specs.Circuit.{Circuit}
use Rattle.hw_shows.specs.Timing.{Timing}
use Rattle.hw_shows.specs.Timed.{lag_into, Feeds}
use Rattle.hw_build.specs.declared.wants.Want.{Want}
use Rattle.hw_build.specs.Places.{Places}
use Rattle.hw_build.specs.inner.Facts.{line_count}
use Rattle.hw_build.specs.inner.Lines.{frame_behind, use_into}
use Rattle.hw_build.specs.inner.Wants.{first_of}

-- the want of an end of a block, whose source has this period and this hub
pub record IsEndWant (diagram : Diagram) (timing : Timing) (block : ℕ) (b : Block) (target : Target) (from p : ℕ) (first : ℤ) (hub : ℕ) (want : Want) : Type 0 where
  pub own : ℕ
  pub period : (attributes_of diagram).period_at block ≡ Some own
  pub hub_is : want.feed.hub ≡ hub
  pub frame_is : want.feed.frame ≡ frame_behind timing p from
  pub late : is_some want.feed.first ≡ is_some (lag_into diagram (attributes_of diagram) block b target p)
  pub first_is : is_some (lag_into diagram (attributes_of diagram) block b target p) ≡ true → first_of want.feed.first ≡ first
  pub to_is : want.to ≡ use_into timing from p block own (lag_into diagram (attributes_of diagram) block b target p)

module _ (diagram : Diagram) (timing : Timing) (wants : List Want) (numbers : List ℕ) where
  -- the net of this number is that of a want of the end
  pub record IsLateAsk (block : ℕ) (b : Block) (target : Target) (from : ℕ) (first : ℤ) (hub number : ℕ) : Type 0 where
    pub p : ℕ
    pub moves : (attributes_of diagram).period_at from ≡ Some p
    pub place : ℕ
    pub want : Want
    pub at : slice_get wants place ≡ Some want
    pub answer : slice_get numbers place ≡ Some number
    pub is : IsEndWant diagram timing block b target from p first hub want

  -- or the hub itself, of a source that never changes
  abbrev pub IsAsk : ℕ → Block → Target → ℕ → ℤ → ℕ → ℕ → Type 0
  IsAsk block b target from first hub number = (((attributes_of diagram).period_at from ≡ None) × (number ≡ hub)) ⊎ IsLateAsk block b target from first hub number

  -- all ends have their nets
  pub record AreAsks (places : Places) : Type 0 where
    pub lines : (block : ℕ) (b : Block) (port element : ℕ) (edge : Edge) → slice_get diagram.blocks block ≡ Some b → 1 ≤ shown_ports b.kind b.outputs
        → 1 ≤ port → port ≤ b.inputs → driver_of diagram block port ≡ Some edge
        → element < line_count diagram block b port edge
        → IsAsk block b (Port port) edge.from (places.first block element)
        (places.after edge.from edge.from_port (repeated ((attributes_of diagram).width_at edge.from edge.from_port) element)) (places.offered block port element)
    pub enables : (block : ℕ) (b : Block) (control : ℕ) → slice_get diagram.blocks block ≡ Some b → Feeds diagram block b Enable control
        → IsAsk block b Enable control (pos 0) (places.after control 1 0) (places.enable block)

-- what drives an end is shown: an element of the type of its source's port
pub record SourcesAreShown (diagram : Diagram) : Type 0 where
  pub lines : (block : ℕ) (b : Block) (port element : ℕ) (edge : Edge) → slice_get diagram.blocks block ≡ Some b → 1 ≤ shown_ports b.kind b.outputs
      → 1 ≤ port → port ≤ b.inputs → driver_of diagram block port ≡ Some edge
      → element < line_count diagram block b port edge
      → (source : Block) × IsShown diagram (attributes_of diagram) edge.from source edge.from_port (repeated ((attributes_of diagram).width_at edge.from edge.from_port) element)
  pub enables : (block : ℕ) (b : Block) (control : ℕ) → slice_get diagram.blocks block ≡ Some b → Feeds diagram block b Enable control
      → (source : Block) × IsShown diagram (attributes_of diagram) control source 1 0

-- what an enabled block shows
pub record EnabledShow (diagram : Diagram) : Type 0 where
  pub some : (block : ℕ) (b : Block) (control : ℕ) → slice_get diagram.blocks block ≡ Some b → Feeds diagram block b Enable control → 1 ≤ shown_ports b.kind b.outputs

-- the hub has a word, which has what its chain has first
pub record IsHubNet (now : Circuit) (hub : ℕ) (first : ℤ) : Type 0 where
  pub net : Net
  pub is : slice_get now.nets hub ≡ Some net
  pub word : IsWord net.width net.signed
  pub first_in : InWord net.width net.signed first
