-- What is written of a model and a plan with valid and ready on both sides, and the rule on the
-- model's ports that this asks for (own).
use Rattle.std.specs.Prelude.{◌≡◌, ℕ, ◌<◌, ◌||◌, Bool, true, List, map, Some, is_some, unwrap_or}
use Rattle.dg_model.specs.declared.diagram.Block.{Block}
use Rattle.dg_model.specs.declared.diagram.Diagram.{Diagram}
use Rattle.dg_model.specs.declared.fault.RuleFault.{RuleFault}
use Rattle.dg_model.specs.declared.fault.Shown.TheVariants.{Periods}
use Rattle.dg_model.specs.declared.resolved.Resolved.{Resolved}
use Rattle.dg_model.specs.declared.rule.Rule.{Rule}
use Rattle.dg_model.specs.Attributes.{attributes_of}
use Rattle.dg_model.specs.Faults.{AllKeep, BreaksAt}
use Rattle.dg_model.specs.Library.{row_of}
use Rattle.dg_model.specs.Signals.{Stimulus, Table}
use Rattle.dg_model.specs.Solves.{IsStimulus, Solves}
use Rattle.dg_model.specs.Wired.{root_input, root_output}
use Rattle.cmd_design.specs.Design.{IsBadPlan, IsDesignOf}
use Rattle.cmd_model.specs.Model.{IsAccepted}
use Rattle.cmd_model.specs.RuleLine.{rule_line}
use Rattle.fx_tables.specs.declared.table.TableCause.{TableCause}
use Rattle.cmd_generate.specs.Generated.{CanBeDesigned, IsWritten}
use Rattle.fx_type.specs.FxType.{width_of}
use Rattle.hw_module.specs.Design.{IsModuleOf}
use Rattle.hw_module.specs.Interface.{input_elements, output_elements}
use Rattle.hw_module.specs.Serves.{MultipliesAsOwed}
use Rattle.hw_names.specs.Names.{AreStreamNames}
use Rattle.hw_sched.specs.Slots.{Timing}
use Rattle.st_wrap.specs.Carried.{ShakesHands, taken_by}
use Rattle.st_wrap.specs.Header.{HasStreamHeader}
use Rattle.st_wrap.specs.Transfers.{IsTransfer, in_side, out_side}
use Rattle.vl_ast.specs.declared.modules.Module.{Module}
use Rattle.vl_ast.specs.Conditions.{BreaksNone}
use Rattle.vl_ast.specs.Driven.{IsResetLast}
use Rattle.vl_ast.specs.Runs.{Row, Rows, Runs}
use Rattle.vl_ast.specs.Value.{bits_of}
use Rattle.vl_ast.specs.Windows.{Each, Window, row_at}

-- ---- the rule

-- the block is a root input or a root output
abbrev pub is_root_port : Block → Bool
is_root_port block =
    is_some (root_input (row_of block.kind).place.role)
    || is_some (root_output (row_of block.kind).place.role)

-- a root port has a number in every base sample
abbrev pub KeepsStream : Diagram → ℕ → Block → Type 0
KeepsStream diagram place block =
    is_root_port block ≡ true → (attributes_of diagram).period_at place ≡ Some 1

-- the first root port that hasn't is told with its period
abbrev pub BreaksStream : Diagram → RuleFault → Type 0
BreaksStream diagram fault =
    BreaksAt diagram Rule.Stream (KeepsStream diagram)
    (λ place block. Periods (unwrap_or ((attributes_of diagram).period_at place) 0) 1) fault

-- the texts make a design whose ports break the rule, and this line tells it
pub record TellsStreamRule (model plan line : List ℕ) : Type 0 where
  pub diagram : Diagram
  pub resolved : Resolved
  pub timing : Timing
  pub design : IsDesignOf model plan diagram resolved timing
  pub fault : RuleFault
  pub broken : BreaksStream diagram fault
  pub line_is : line ≡ rule_line (map (λ block. block.path) diagram.blocks) fault

-- nothing is broken, and no rule of ports
pub record CanBeStreamed (model plan : List ℕ) : Type 0 where
  pub designed : CanBeDesigned model plan
  pub steady : (line : List ℕ) → TellsStreamRule model plan line → ⊥

-- the model keeps its rules, no line of the plan is bad, and the two make no design whose ports
-- keep the rule
pub record IsWithoutStream (model plan : List ℕ) : Type 0 where
  pub accepted : IsAccepted model
  pub good : (line : ℕ) (cause : TableCause) → IsBadPlan model plan line cause → ⊥
  pub none : (diagram : Diagram) (resolved : Resolved) (timing : Timing)
      → IsDesignOf model plan diagram resolved timing → AllKeep diagram (KeepsStream diagram) → ⊥

-- ---- the transfers

-- the stimulus of the first so many samples that were taken
pub record IsTaken (diagram : Diagram) (names : List (List ℕ)) (window : Window) (rows : Rows)
    (samples : ℕ) (stimulus : Stimulus) : Type 0 where
  pub in_range : IsStimulus diagram (attributes_of diagram) stimulus samples
  pub at : (t place : ℕ) → t < samples → IsTransfer in_side window rows t place
      → Each (input_elements names diagram)
      (λ index e. rows (row_at window place) e.name
      ≡ bits_of (width_of e.root.type) (stimulus e.root.number e.root.element t))

-- the outputs show the table's entries of a sample
abbrev pub ShowsSample : Diagram → List (List ℕ) → Row → Table → ℕ → Type 0
ShowsSample diagram names row table sample =
    Each (output_elements names diagram)
    (λ index e. row e.name
    ≡ bits_of (width_of e.root.type) (table e.root.block 1 e.root.element sample))

-- the sample that a row hands over was taken before or in it, and its outputs are those of every
-- table that solves the diagram under the samples that were
pub record AnswersAt (diagram : Diagram) (names : List (List ℕ)) (window : Window) (rows : Rows)
    (number place : ℕ) : Type 0 where
  pub taken : number < taken_by window rows place
  pub shown : (stimulus : Stimulus) (table : Table)
      → IsTaken diagram names window rows (taken_by window rows place) stimulus
      → Solves diagram (attributes_of diagram) stimulus (taken_by window rows place) table
      → ShowsSample diagram names (rows (row_at window place)) table number

-- in every run that is reset
abbrev pub Answers : Module → Diagram → List (List ℕ) → Type 0
Answers m diagram names =
    (window : Window) (start : Row) (inputs rows : Rows) → IsResetLast window inputs
    → Runs m window.rows start inputs rows
    → (number place : ℕ) → IsTransfer out_side window rows number place
    → AnswersAt diagram names window rows number place

-- the module with valid and ready round the module of a diagram by a plan
pub record IsStreamOf (m : Module) (diagram : Diagram) (plan : Resolved)
    (timing : Timing) : Type 0 where
  pub names : List (List ℕ)
  pub are_names : AreStreamNames diagram names
  pub core : Module
  pub owed : IsModuleOf core diagram plan timing
  pub header : HasStreamHeader core names m
  pub sound : BreaksNone m
  pub multiplies : MultipliesAsOwed m diagram plan timing
  pub handshake : ShakesHands core m
  pub answers : Answers m diagram names

-- of the bytes of a model and of a plan, whose ports keep the rule, the text is the written one of
-- such a module, and it spells this module alone
pub record IsStreamedOf (model plan text : List ℕ) : Type 0 where
  pub diagram : Diagram
  pub resolved : Resolved
  pub timing : Timing
  pub design : IsDesignOf model plan diagram resolved timing
  pub kept : AllKeep diagram (KeepsStream diagram)
  pub written : IsWritten (λ made. IsStreamOf made diagram resolved timing) text
