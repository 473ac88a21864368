-- Where the nets of a diagram stand, and what they show as waves (own).
use Rattle.std.specs.Prelude.{◌≡◌, ℕ, ◌<◌, ℤ, Some, slice_get}
use Rattle.dg_model.specs.declared.diagram.Diagram.{Diagram}
use Rattle.dg_model.specs.Attributes.{attributes_of}
use Rattle.dg_model.specs.RootElements.{RootElement, root_inputs}
use Rattle.dg_model.specs.Signals.{Stimulus, Table}
use Rattle.dg_model.specs.Solves.{IsStimulus, Solves}
use Rattle.hw_net.specs.Circuit.{Circuit}
use Rattle.hw_net.specs.NetRows.{Inputs, Rows, NetRows}
use Rattle.hw_shows.specs.Shows.{IsSeen}
use Rattle.hw_shows.specs.Waves.{Waves}

-- the numbers of nets, which are chosen before any row is
pub record Places : Type 0 where
  -- of a root input's number and element
  pub input : ℕ → ℕ → ℕ
  -- of a block, an output port and an element: before its pipeline, and behind it, where its
  -- readers look
  pub entry : ℕ → ℕ → ℕ → ℕ
  pub after : ℕ → ℕ → ℕ → ℕ
  -- the registers of the pipeline by their number, 0 being what it begins with
  pub stage : ℕ → ℕ → ℕ → ℕ → ℕ
  -- of a block, an input port and an element: what the port offers to the element
  pub offered : ℕ → ℕ → ℕ → ℕ
  -- of a block: what enables it
  pub enable : ℕ → ℕ
  -- of a block and an element: the registers of its state by their number, 0 being what they take
  pub state : ℕ → ℕ → ℕ → ℕ
  -- what these have first; it is no net, but as settled as they are
  pub first : ℕ → ℕ → ℤ
  -- what a shared multiplier gave the element
  pub product : ℕ → ℕ → ℕ

-- what the nets there show
abbrev pub waves_of : Places → Rows → Waves
waves_of places rows = record {
  input = λ number element. rows (places.input number element);
  entry = λ block port element. rows (places.entry block port element);
  after = λ block port element. rows (places.after block port element);
  stage = λ block port element stage. rows (places.stage block port element stage);
  offered = λ block port element. rows (places.offered block port element);
  enable = λ block. rows (places.enable block);
  state = λ block element number. rows (places.state block element number);
  first = places.first;
  product = λ block element. rows (places.product block element);
}

-- at the first clocks each input port shows the stimulus of its element, each hit below n in its
-- whole frame
pub record AreFedIn (diagram : Diagram) (stimulus : Stimulus) (n cycles clocks : ℕ)
    (inputs : Inputs) : Type 0 where
  pub shows : (port : ℕ) (e : RootElement) (t c : ℕ)
      → slice_get (root_inputs diagram (attributes_of diagram)) port ≡ Some e → t < n → c < clocks
      → IsSeen cycles e.period 0 0 t c
      → inputs port c ≡ stimulus e.number e.element t

-- the rows of a netlist under a stimulus, and a table that solves
pub record IsRunOf (diagram : Diagram) (netlist : Circuit) (stimulus : Stimulus) (n clocks : ℕ)
    (inputs : Inputs) (rows : Rows) (table : Table) : Type 0 where
  pub stimulus_is : IsStimulus diagram (attributes_of diagram) stimulus n
  pub solves : Solves diagram (attributes_of diagram) stimulus n table
  pub fed : AreFedIn diagram stimulus n netlist.cycles clocks inputs
  pub rows_are : NetRows netlist clocks inputs rows
