-- What is written with valid and ready of a design whose ports keep the rule.
use Rattle.std.proofs.Common.{◌≡◌, inr, ℕ, List, length, Result, Ok, Err, IfOk, ◌∙◌}
use Rattle.dg_model.specs.declared.diagram.Diagram.{Diagram}
use Rattle.dg_model.specs.declared.resolved.Resolved.{Resolved}
use Rattle.dg_model.specs.declared.fault.CheckFault.{CheckFault}
use Rattle.dg_model.specs.declared.fault.CheckFault.TheVariants.{Broken, OutOfMemory}
use Rattle.dg_model.specs.Checked.{IsChecked}
use Rattle.dg_model.specs.Faults.{AllKeep, IsRefusal}
use Rattle.dg_model.specs.Laws.{InputsAreListed, OutputsAreListed}
use Rattle.dg_model.specs.PlanOf.{IsPlanOf}
use Rattle.cmd_design.specs.declared.designing.DesignFault.{DesignFault}
use Rattle.cmd_design.specs.declared.designing.DesignFault.TheVariants as design
use Rattle.cmd_design.specs.Design.{IsDesignOf}
use Rattle.cmd_generate.specs.Streamed.{BreaksStream, IsStreamOf, KeepsStream}
use Rattle.cmd_generate.specs.Streaming.{IsCoreOf, IsRefusedOnPorts, IsRefusedStream}
use Rattle.cmd_generate.proofs.Transfers.{answers, columns-many}
use Rattle.cmd_generate.proofs.Elements.{wanted-are}
use Rattle.cmd_generate.proofs.SteadyPorts.{in-steady, out-ready, out-steady}
use Rattle.cmd_generate.proofs.HandshakeNames.{names-apart, names-each, taken_names}
use Rattle.hw_build.specs.Laws.{SlotsAreScheduled}
use Rattle.hw_module.specs.Design.{IsModuleOf}
use Rattle.hw_names.specs.Names.{AreStreamNames, wanted_names}
use Rattle.hw_names.proofs.NameSets.{given_size}
use Rattle.hw_rules.specs.declared.times.Times.{Times}
use Rattle.hw_rules.specs.Times.{AreTimes, timing_in}
use Rattle.hw_sched.specs.Laws.{ReadyFits}
use Rattle.hw_sched.specs.Scheduled.{IsScheduled}
use Rattle.hw_sched.specs.Slots.{Timing}
use Rattle.st_wrap.specs.Carried.{CarriesTransfers, FollowsCore, ShakesHands}
use Rattle.st_wrap.specs.Header.{HasStreamHeader}
use Rattle.st_wrap.specs.Names.{AreColumnNames}
use Rattle.vl_ast.specs.declared.modules.Module.{Module}
use Rattle.vl_ast.specs.Conditions.{BreaksNone}
use Rattle.vl_ast.specs.Grammar.{Spells}
use Rattle.vl_ast.specs.Multiplications.{multiplications}
use Rattle.vl_ast.specs.Spelling.{spelling}
use Rattle.vl_ast.specs.Stalls.{KeepsBits}

-- a design whose ports keep the rule, and its core with the names of its columns
pub record IsCore (diagram : Diagram) (plan : Resolved) (timing : Timing) (core : Module) (names : List (List ℕ)) : Type 0 where
  pub kept : AllKeep diagram (KeepsStream diagram)
  pub scheduled : IsScheduled diagram plan timing
  pub owed : IsModuleOf core diagram plan timing
  pub are_names : AreStreamNames diagram names

-- the laws of lower crates
pub record Laws : Type 0 where
  pub inputs : InputsAreListed
  pub outputs : OutputsAreListed
  pub fits : ReadyFits

module _ (laws : Laws) {diagram : Diagram} {plan : Resolved} {timing : Timing} {core : Module} {names : List (List ℕ)} (s : IsCore diagram plan timing core names) where
  many : length names ≡ length (wanted_names diagram)
  many = given_size taken_names (wanted_names diagram) names s.are_names.given

  pub column-names : AreColumnNames core names
  column-names = record {
    count = columns-many s.owed.carries (in-steady diagram s.scheduled.checked.wired s.kept laws.inputs laws.outputs) (out-steady diagram s.scheduled.checked.wired s.kept laws.inputs laws.outputs)
        (out-ready diagram s.scheduled.checked.wired s.kept laws.inputs laws.outputs plan timing laws.fits s.scheduled) names many;
    each = names-each (wanted_names diagram) names (wanted-are diagram s.scheduled.checked laws.inputs laws.outputs) s.are_names.given;
    differ = names-apart taken_names (wanted_names diagram) names s.are_names.given;
  }

  pub stream-of : (m : Module) → HasStreamHeader core names m → BreaksNone m
      → length (multiplications m) ≡ length (multiplications core) → ShakesHands core m
      → CarriesTransfers core names m → FollowsCore core names m
      → IsStreamOf m diagram plan timing
  stream-of m header sound products shakes carries follows = record {
    names = names;
    are_names = s.are_names;
    core = core;
    owed = s.owed;
    header = header;
    sound = sound;
    multiplies = products ∙ s.owed.owed;
    handshake = shakes;
    answers = answers s.owed.carries (in-steady diagram s.scheduled.checked.wired s.kept laws.inputs laws.outputs) (out-steady diagram s.scheduled.checked.wired s.kept laws.inputs laws.outputs)
        (out-ready diagram s.scheduled.checked.wired s.kept laws.inputs laws.outputs plan timing laws.fits s.scheduled) names many m carries follows;
  }

  -- what is given is such a module
  pub stream-all : {E : Type 0} (r : Result Module E) → IfOk r (HasStreamHeader core names) → IfOk r BreaksNone
      → IfOk r (λ m. length (multiplications m) ≡ length (multiplications core)) → IfOk r (ShakesHands core)
      → IfOk r (CarriesTransfers core names) → IfOk r (FollowsCore core names) → IfOk r (λ m. IsStreamOf m diagram plan timing)
  stream-all (Ok m) header sound products shakes carries follows = stream-of m header sound products shakes carries follows
  stream-all (Err e) header sound products shakes carries follows = tt

-- the core that is given of a diagram with its times
pub core-all : {E : Type 0} (diagram : Diagram) (plan : Resolved) (times : Times) (r : Result Module E)
    → IfOk r (λ m. IsModuleOf m diagram plan (timing_in times)) → IfOk r (λ m. Spells (spelling m) m)
    → IfOk r KeepsBits
    → IfOk r (IsCoreOf diagram plan times)
core-all diagram plan times (Ok m) owed spelled keeps = record { owed = owed; keeps = keeps; spelled = spelled }
core-all diagram plan times (Err e) owed spelled keeps = tt

pub is-core : (diagram : Diagram) (plan : Resolved) (times : Times) (core : Module) (names : List (List ℕ))
    → SlotsAreScheduled → IsChecked diagram → IsPlanOf diagram plan → AreTimes diagram plan times
    → AllKeep diagram (KeepsStream diagram)
    → IsCoreOf diagram plan times core → AreStreamNames diagram names → IsCore diagram plan (timing_in times) core names
is-core diagram plan times core names scheduled checked planned are kept of are_names = record {
  kept = kept;
  scheduled = scheduled diagram plan times.latencies times.slots checked planned are.slots;
  owed = of.owed;
  are_names = are_names;
}

-- what refuses the ports of a design
pub refused-ports : (model text : List ℕ) (diagram : Diagram) (resolved : Resolved) (timing : Timing) → IsDesignOf model text diagram resolved timing
    → (fault : CheckFault) (told : DesignFault) → IsRefusal (BreaksStream diagram) fault → IsRefusedOnPorts diagram fault told → IsRefusedStream model text told
refused-ports model text diagram resolved timing made (Broken rule) (design.NotMdl line) why told = absurd told
refused-ports model text diagram resolved timing made (Broken rule) (design.BreaksRule line) why told =
    inr (inr (record { diagram = diagram; resolved = resolved; timing = timing; design = made; fault = rule; broken = why; line_is = told }))
refused-ports model text diagram resolved timing made (Broken rule) (design.BadPlan line cause) why told = absurd told
refused-ports model text diagram resolved timing made (Broken rule) design.OutOfMemory why told = tt
refused-ports model text diagram resolved timing made OutOfMemory (design.NotMdl line) why told = absurd told
refused-ports model text diagram resolved timing made OutOfMemory (design.BreaksRule line) why told = absurd told
refused-ports model text diagram resolved timing made OutOfMemory (design.BadPlan line cause) why told = absurd told
refused-ports model text diagram resolved timing made OutOfMemory design.OutOfMemory why told = tt
