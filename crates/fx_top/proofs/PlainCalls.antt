-- A command by the empty plan can be done where its model keeps the rules and storage is within the limit.
use Rattle.std.proofs.Common.{ℕ, List, [], refl}
use Rattle.cmd_generate.specs.Plain.{EmptyPlansMakeDesigns}
use Rattle.fx_top.specs.Call.{Files, Stream}
use Rattle.fx_top.specs.Command.{Command, PlanWord, EmptyPlan, Named, Generate, Replay, Simulate, Explore, Check, Stream as StreamOf}
use Rattle.fx_top.specs.Outcome.{CanBeDone, CanBeDonePlain, CanDesign, CanDesignPlain, CanStream, CanStreamPlain, IfCommand, IfEmpty, IsComplete, IsPlainComplete}

module _ (makes : EmptyPlansMakeDesigns) (files : Files) where
  can-design : (model : List ℕ) (plan : PlanWord) → IfEmpty plan (CanDesignPlain files model) → CanDesign files model plan
  can-design model EmptyPlan can = record {
    model_bytes = can.bytes;
    plan_bytes = [];
    model_told = can.told;
    plan_told = refl;
    can = makes can.bytes can.accepted can.stored;
  }
  can-design model (Named file) can = absurd can

  can-stream : (model : List ℕ) (plan : PlanWord) → IfEmpty plan (CanStreamPlain files model) → CanStream files model plan
  can-stream model EmptyPlan can = record {
    model_bytes = can.plain.bytes;
    plan_bytes = [];
    model_told = can.plain.told;
    plan_told = refl;
    can = record { designed = makes can.plain.bytes can.plain.accepted can.plain.stored; steady = can.steady };
  }
  can-stream model (Named file) can = absurd can

  can-be-done : (command : Command) → CanBeDonePlain files command → CanBeDone files command
  can-be-done (Generate model plan) can = can-design model plan can
  can-be-done (Replay verilog stimulus) can = absurd can
  can-be-done (Simulate model stimulus) can = absurd can
  can-be-done (Explore model range) can = absurd can
  can-be-done (Check model plan) can = can-design model plan can
  can-be-done (StreamOf model plan) can = can-stream model plan can

  pub plain_complete-clause : (out : Stream) (words : List (List ℕ)) (status : ℕ) → IfCommand words (λ command. IsComplete files out command status) → IfCommand words (λ command. IsPlainComplete files out command status)
  plain_complete-clause out words status complete command shape can gives writes = complete command shape (can-be-done command can) gives writes
