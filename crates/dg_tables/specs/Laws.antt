-- For a diagram that keeps the rules exactly one table solves (own). The order of its blocks is the
-- one that `Checked` holds; the table is the same by any.
use Rattle.std.specs.Prelude.{◌≡◌, ℕ, ℤ, suc, ◌<◌, List, Some, slice_get}
use Rattle.fx_type.specs.FxType.{IsType, InRange}
use Rattle.dg_model.specs.declared.diagram.Diagram.{Diagram}
use Rattle.dg_model.specs.declared.diagram.Block.{Block}
use Rattle.dg_model.specs.Signals.{Attributes, Stimulus, Table}
use Rattle.dg_model.specs.Attributes.{attributes_of}
use Rattle.dg_model.specs.Checked.{IsChecked}
use Rattle.dg_model.specs.Loop.{IsOrder}
use Rattle.dg_model.specs.Hits.{Hits}
use Rattle.dg_model.specs.Equation.{Equation, IsOpOf, signs_of}
use Rattle.dg_model.specs.declared.op.Op.{Op}
use Rattle.dg_model.specs.Operation.{CanPrepare}
use Rattle.dg_model.specs.Wires.{type_into, types_into}
use Rattle.dg_model.specs.Solves.{IsStimulus, IsShown, Solves, AgreeBelow}
use Rattle.dg_tables.specs.Fit.{HasWidths, HasLists, KeepsType}

-- the diagram keeps the rules, and this is an order of its blocks along the instant edges
pub record IsOrdered (diagram : Diagram) (order : List ℕ) : Type 0 where
  pub checked : IsChecked diagram
  pub ordered : IsOrder diagram (attributes_of diagram) order

-- at most one table solves: any two agree on all that they show
abbrev pub TablesAreOne : Type 0
TablesAreOne =
    (diagram : Diagram) (order : List ℕ) (stimulus : Stimulus) (n : ℕ) (table other : Table)
    → IsOrdered diagram order → Solves diagram (attributes_of diagram) stimulus n table
    → Solves diagram (attributes_of diagram) stimulus n other
    → AgreeBelow diagram (attributes_of diagram) table other n

-- some table solves, for every stimulus in range
abbrev pub SomeTableSolves : Type 0
SomeTableSolves = (diagram : Diagram) (order : List ℕ) (stimulus : Stimulus) (n : ℕ)
    → IsOrdered diagram order → IsStimulus diagram (attributes_of diagram) stimulus n
    → (table : Table) × Solves diagram (attributes_of diagram) stimulus n table

-- what a table shows below n is in the range of its type
abbrev pub EntriesAreInRange : Diagram → Attributes → Table → ℕ → Type 0
EntriesAreInRange diagram attributes table n =
    (block : ℕ) (b : Block) (port element t : ℕ) → IsShown diagram attributes block b port element
    → t < n → InRange (attributes.type_at block port) (table block port element t)

-- so are the entries of each table that solves
abbrev pub SolvedIsInRange : Type 0
SolvedIsInRange = (diagram : Diagram) (order : List ℕ) (stimulus : Stimulus) (n : ℕ) (table : Table)
    → IsOrdered diagram order → IsStimulus diagram (attributes_of diagram) stimulus n
    → Solves diagram (attributes_of diagram) stimulus n table
    → EntriesAreInRange diagram (attributes_of diagram) table n

-- off its hits a block keeps the entry of the sample before
abbrev pub EntriesStay : Type 0
EntriesStay =
    (diagram : Diagram) (attributes : Attributes) (stimulus : Stimulus) (n : ℕ) (table : Table)
    → Solves diagram attributes stimulus n table
    → (block : ℕ) (b : Block) (port element t : ℕ) → IsShown diagram attributes block b port element
    → suc t < n
    → ¬ Hits (attributes.period_at block) (suc t)
    → table block port element (suc t) ≡ table block port element t

-- at a hit an equation gives a table that solves no other number than its entry
abbrev pub EntryIsOne : Type 0
EntryIsOne =
    (diagram : Diagram) (order : List ℕ) (stimulus : Stimulus) (n : ℕ) (table : Table)
    → IsOrdered diagram order → Solves diagram (attributes_of diagram) stimulus n table
    → (block : ℕ) (b : Block) (port element t : ℕ) (v : ℤ)
    → IsShown diagram (attributes_of diagram) block b port element → t < n
    → Hits ((attributes_of diagram).period_at block) t
    → Equation diagram (attributes_of diagram) stimulus table block port element t v
    → v ≡ table block port element t

-- the operation of a block can be prepared
abbrev pub OperationsPrepare : Type 0
OperationsPrepare =
    (diagram : Diagram) (order : List ℕ) (block : ℕ) (b : Block) (element : ℕ) (op : Op)
    → IsOrdered diagram order → slice_get diagram.blocks block ≡ Some b
    → IsOpOf b.kind element ((attributes_of diagram).param_at block)
    (type_into diagram (attributes_of diagram) block 2) op
    → CanPrepare (record {
      op = op;
      signs = signs_of b.kind;
      types = types_into diagram (attributes_of diagram) block b.inputs;
      result =
          (attributes_of diagram).type_at block 1;
      rounding = b.rounding;
      saturate = b.saturate;
    })

-- the type of what a block shows is valid, and that of its coefficients
abbrev pub TypesAreValid : Type 0
TypesAreValid =
    (diagram : Diagram) (order : List ℕ) (block : ℕ) (b : Block) → IsOrdered diagram order
    → slice_get diagram.blocks block ≡ Some b
    → IsType ((attributes_of diagram).type_at block 1)
    × IsType ((attributes_of diagram).param_at block)
    × ((port : ℕ) → IsType (type_into diagram (attributes_of diagram) block port))

-- widths, lists and types of a block and of its inputs fit
abbrev pub SignalsFit : Type 0
SignalsFit =
    (diagram : Diagram) (order : List ℕ) (block : ℕ) (b : Block) → IsOrdered diagram order
    → slice_get diagram.blocks block ≡ Some b
    → HasWidths diagram (attributes_of diagram) block b.kind b.inputs b.outputs
    × HasLists b.kind ((attributes_of diagram).width_at block 1)
    × KeepsType diagram (attributes_of diagram) block b.kind b.inputs b.outputs
