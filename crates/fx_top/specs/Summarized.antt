-- The summary of a sample: the whole way from its model to what a bench tells of its module (own).
use Rattle.std.specs.Prelude.{◌≡◌, ◌⊎◌, ℕ, List, [], length, map, slice_index_or}
use Rattle.dg_model.specs.declared.diagram.Diagram.{Diagram}
use Rattle.dg_model.specs.declared.resolved.Resolved.{Resolved}
use Rattle.dg_model.specs.Attributes.{attributes_of}
use Rattle.dg_model.specs.RootElements.{RootElement, root_outputs}
use Rattle.cmd_design.specs.Design.{IsDesignOf, TellsPlanRule}
use Rattle.cmd_generate.specs.Generated.{SpellsAlone}
use Rattle.cmd_model.specs.RuleLine.{TellsRule}
use Rattle.cmd_sample.specs.declared.summing.Made.{Made}
use Rattle.cmd_sample.specs.ModelText.{sample_model}
use Rattle.cmd_sample.specs.Stimulus.{sample_plan, sample_stimulus}
use Rattle.cmd_sample.specs.Summary.{equal_count, summary_text}
use Rattle.fx_top.specs.Simulated.{CanBeSimulated, IsSimulationOf}
use Rattle.hw_module.specs.Design.{IsModuleOf}
use Rattle.hw_sched.specs.Ready.{declared_latency}
use Rattle.hw_sched.specs.Slots.{Timing}
use Rattle.vl_ast.specs.declared.modules.Module.{Module}
use Rattle.vl_ast.specs.Multiplications.{multiplications}
use Rattle.vl_ast.specs.Spelling.{spelling}

-- the declared latency of the root output element at a place, 0 where there is none
abbrev pub latency_of_output : Diagram → Resolved → Timing → ℕ → ℕ
latency_of_output diagram plan timing place =
    slice_index_or
    (map (λ (e : RootElement). declared_latency diagram
    (attributes_of diagram) plan timing e.block)
    (root_outputs diagram (attributes_of diagram))) place 0

-- what a module of the design of a sample says of itself
pub record IsMade (m : Module) (diagram : Diagram) (plan : Resolved) (timing : Timing)
    (made : Made) : Type 0 where
  pub multiplications_are : made.multiplications ≡ length (multiplications m)
  pub out_is : made.out_latency ≡ latency_of_output diagram plan timing 0
  pub slow_is : made.slow_latency ≡ latency_of_output diagram plan timing 1

-- the response of the model of a sample to the sample's stimulus, and no bytes where the stimulus
-- doesn't fit the columns of the model's diagram
abbrev pub IsSampleResponse : ℕ → List ℕ → Type 0
IsSampleResponse count response =
    IsSimulationOf (sample_model count) (sample_stimulus count) response
    ⊎ ((CanBeSimulated (sample_model count) (sample_stimulus count) → ⊥) × (response ≡ []))

-- the text is the summary of a sample whose bench tells these bytes, as it may of a module that owes
-- the sample's design nothing and that its written text spells alone
pub record IsSummaryOf (MayTell : List ℕ → List ℕ → List ℕ → Type 0) (count : ℕ)
    (told text : List ℕ) : Type 0 where
  pub diagram : Diagram
  pub plan : Resolved
  pub timing : Timing
  pub design : IsDesignOf (sample_model count) sample_plan diagram plan timing
  pub own : Module
  pub owed : IsModuleOf own diagram plan timing
  pub alone : SpellsAlone (spelling own) own
  pub may : MayTell (spelling own) (sample_stimulus count) told
  pub response : List ℕ
  pub simulated : IsSampleResponse count response
  pub made : Made
  pub says : IsMade own diagram plan timing made
  pub text_is : text ≡ summary_text count made (equal_count response told)

-- the text is the summary of a sample by some bytes that its bench may tell
abbrev pub IsSummed : (List ℕ → List ℕ → List ℕ → Type 0) → ℕ → List ℕ → Type 0
IsSummed MayTell count text = (told : List ℕ) × IsSummaryOf MayTell count told text

-- the model of a sample breaks a rule, or its plan does on the model's diagram, and this line tells
-- the first of them
abbrev pub TellsSampleRule : ℕ → List ℕ → Type 0
TellsSampleRule count line =
    TellsRule (sample_model count) line ⊎ TellsPlanRule (sample_model count) sample_plan line
