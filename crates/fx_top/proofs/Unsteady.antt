-- What a fault of the ports of a design excludes, and what excludes it.
use Rattle.std.proofs.Common.{◌≡◌, ℕ, List, Some, ap, sym, subst}
use Rattle.fx_top.specs.Call.{Files}
use Rattle.fx_top.specs.Cause.{HasBrokenPorts}
use Rattle.fx_top.specs.Command.{Command, PlanWord, Stream as StreamOf, first_of, model_of, table_of}
use Rattle.fx_top.specs.Outcome.{CanBeDone, CanDesign, CanStream, IsBadFor, Tells, TellsPlan}
use Rattle.fx_top.specs.Output.{IsOfFiles, IsOutput}
use Rattle.cmd_generate.specs.Streamed.{IsStreamedOf, IsWithoutStream, TellsStreamRule}
use Rattle.fx_top.proofs.Commands.{IsGood}
use Rattle.fx_top.proofs.ShelfFacts.{HasDesign, design-good, design-is, design-planned, has-design, stream-design, told-is, told-plan}

-- where no rule of ports is broken there can be a design
pub designable : {files : Files} {model : List ℕ} {plan : PlanWord} → CanStream files model plan → CanDesign files model plan
designable can = record { model_bytes = can.model_bytes; plan_bytes = can.plan_bytes; model_told = can.model_told; plan_told = can.plan_told; can = can.can.designed }

module _ (files : Files) (command : Command) where
  -- what is written has ports that keep the rule
  pub unstreamed : (own bytes text model : List ℕ) (plan : PlanWord) → command ≡ StreamOf model plan
      → IsOutput command files.held own → Tells files (first_of command) bytes → TellsPlan files plan text
      → IsWithoutStream bytes text → ⊥
  unfolding stream-design
  unstreamed own bytes text model plan is output tells told refused =
      subst (λ (c : Command). IsOutput c files.held own → Tells files (first_of c) bytes → ⊥) (sym is) of output tells
    where
      of : IsOfFiles IsStreamedOf files.held model plan own → Tells files model bytes → ⊥
      of written here =
          let has = stream-design written in
          refused.none has.diagram has.resolved has.timing (design-is files model plan has bytes here text told) written.made.kept

  module _ (line : List ℕ) (why : HasBrokenPorts files command line) where
    has : HasDesign files.held why.model why.plan
    has = has-design why.fetched why.says why.told.design

    pub ports-model : model_of command ≡ Some why.model
    ports-model = ap model_of why.streams

    -- the model keeps its rules
    pub ports-good : (bytes : List ℕ) → Tells files (first_of command) bytes → IsGood command bytes
    ports-good bytes tells =
        subst (λ (c : Command). Tells files (first_of c) bytes → IsGood c bytes) (sym why.streams) (λ here. design-good files why.model why.plan has bytes here) tells

    -- and the plan has no bad line
    pub ports-planned : (file bytes text : List ℕ) → table_of command ≡ Some file → Tells files (first_of command) bytes → Tells files file text → IsBadFor command bytes text → ⊥
    ports-planned file bytes text is tells told bad =
        subst (λ (c : Command). table_of c ≡ Some file → Tells files (first_of c) bytes → IsBadFor c bytes text → ⊥) (sym why.streams)
        (λ at here broken. design-planned files why.model why.plan has bytes here file text at told broken) is tells bad

    -- where the command can be done there is none
    pub ports-kept : CanBeDone files command → ⊥
    ports-kept can = subst (λ (c : Command). CanBeDone files c → ⊥) (sym why.streams) of can
      where
        of : CanStream files why.model why.plan → ⊥
        of able =
            let first = told-is files why.model able.model_bytes why.bytes why.fetched able.model_told in
            let second = told-plan files why.plan able.plan_bytes why.text why.says able.plan_told in
            able.can.steady line
            (subst (λ (b : List ℕ). TellsStreamRule b able.plan_bytes line) (sym first) (subst (λ (t : List ℕ). TellsStreamRule why.bytes t line) (sym second) why.told))
