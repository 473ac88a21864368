-- What the answer to a sample says of its status, and of the bench that it was made by.
use Rattle.std.proofs.Common.{◌≡◌, ◌⊎◌, ⊎_elim, ℕ, List, None, Some, refl, ap, ◌∙◌, subst, arith}
use Rattle.fx_top.specs.declared.answer.Answer.{Answer}
use Rattle.fx_top.specs.declared.answer.Answer.TheVariants.{Done, OutOfMemory, Usage, CannotRead, CannotWrite, NotMdl, BadTable, BreaksRule, NotVerilog, Broken, BadInstance, TooLong}
use Rattle.dg_model.specs.declared.diagram.Diagram.{Diagram}
use Rattle.cmd_design.specs.declared.designing.DesignFault.{DesignFault}
use Rattle.cmd_design.specs.declared.designing.DesignFault.TheVariants as design
use Rattle.cmd_design.specs.Design.{IsBadPlan, TellsPlanRule}
use Rattle.cmd_design.specs.Refused.{IsRefusedDesign}
use Rattle.cmd_model.specs.Model.{IsModelOf, IsNotMdl, IsWithoutDiagram}
use Rattle.cmd_model.specs.RuleLine.{TellsRule}
use Rattle.cmd_sample.specs.Laws.{PlanIsGood}
use Rattle.cmd_sample.specs.ModelText.{sample_model}
use Rattle.cmd_sample.specs.Stimulus.{sample_plan, sample_stimulus}
use Rattle.fx_tables.specs.declared.table.TableCause.{TableCause}
use Rattle.fx_tables.specs.declared.table.TableFault.{TableFault}
use Rattle.fx_tables.specs.declared.table.TableFault.TheVariants.{Bad}
use Rattle.cmd_simulate.specs.Simulating.{IsStimulusFault, fault_in}
use Rattle.mdl_text.specs.Prefix.{IsMdl}
use Rattle.fx_top.specs.Answer.{status_of}
use Rattle.cmd_replay.specs.Benched.{IsTold}
use Rattle.fx_top.specs.Call.{Files, Stream}
use Rattle.fx_top.specs.Caused.{IsCarriedOut}
use Rattle.fx_top.specs.Command.{Sample, asked_of}
use Rattle.cmd_generate.specs.Generated.{CanBeDesigned, IsWithoutDesign}
use Rattle.fx_top.specs.Sampled.{HasSampleCause, HasSampleWritten, IfSample, IsCompleteSample, IsDueSample}
use Rattle.fx_top.specs.Simulated.{CanBeSimulated}
use Rattle.fx_top.specs.Summarized.{IsSummaryOf, IsSummed, TellsSampleRule}
use Rattle.fx_top.proofs.CarriedOut.{carried}

-- what was written by some bytes that the bench tells
pub written-summed : (MayTell : List ℕ → List ℕ → List ℕ → Type 0) (number : ℕ) (told : List ℕ) (out : Stream)
    (answer : Answer) → HasSampleWritten (IsSummaryOf MayTell number told) out answer
    → HasSampleWritten (IsSummed MayTell number) out answer
written-summed MayTell number told out Done wrote = record { text = wrote.text; summary = (told, wrote.summary); taken = wrote.taken }
written-summed MayTell number told out OutOfMemory wrote = wrote
written-summed MayTell number told out Usage wrote = wrote
written-summed MayTell number told out (CannotRead file) wrote = wrote
written-summed MayTell number told out CannotWrite wrote = record { rise = wrote.rise; text = wrote.text; summary = (told, wrote.summary); taken = wrote.taken }
written-summed MayTell number told out (NotMdl file line) wrote = wrote
written-summed MayTell number told out (BadTable file line cause) wrote = wrote
written-summed MayTell number told out (BreaksRule line) wrote = wrote
written-summed MayTell number told out (NotVerilog file line) wrote = wrote
written-summed MayTell number told out (Broken file fault) wrote = wrote
written-summed MayTell number told out (BadInstance file name) wrote = wrote
written-summed MayTell number told out (TooLong file length) wrote = wrote

-- a summary is that of a design
designed : (number : ℕ) (text : List ℕ) → IsSummed IsTold number text → IsWithoutDiagram (sample_model number) ⊎ IsWithoutDesign (sample_model number) sample_plan → ⊥
designed number text summed = ⊎_elim (λ refused. refused.none summed.1.diagram summed.1.design.accepted) (λ refused. refused.none summed.1.diagram summed.1.plan summed.1.timing summed.1.design)

module _ (out : Stream) (number : ℕ) where
  is-due : (answer : Answer) → HasSampleCause number answer → HasSampleWritten (IsSummed IsTold number) out answer → IsDueSample number (status_of answer)
  is-due Done why wrote refused = absurd (designed number wrote.text wrote.summary refused)
  is-due OutOfMemory why wrote refused = (1, omega arith, refl)
  is-due Usage why wrote refused = absurd why
  is-due (CannotRead file) why wrote refused = absurd why
  is-due CannotWrite why wrote refused = absurd (designed number wrote.text wrote.summary refused)
  is-due (NotMdl file line) why wrote refused = absurd why
  is-due (BadTable file line cause) why wrote refused = absurd why
  is-due (BreaksRule line) why wrote refused = (0, omega arith, refl)
  is-due (NotVerilog file line) why wrote refused = absurd why
  is-due (Broken file fault) why wrote refused = absurd why
  is-due (BadInstance file name) why wrote refused = absurd why
  is-due (TooLong file length) why wrote refused = absurd why

  none-broken : (line : List ℕ) → CanBeDesigned (sample_model number) sample_plan → TellsSampleRule number line → ⊥
  none-broken line can = ⊎_elim (λ (told : TellsRule (sample_model number) line). can.accepted.kept told.fault
      told.paths told.broken) (λ (told : TellsPlanRule (sample_model number) sample_plan line). can.kept line told)

  is-complete : (answer : Answer) → HasSampleCause number answer → HasSampleWritten (IsSummed IsTold number) out answer → IsCompleteSample out number (status_of answer)
  is-complete Done why wrote can writes = (0, omega arith, refl)
  is-complete OutOfMemory why wrote can writes = (1, omega arith, refl)
  is-complete Usage why wrote can writes = absurd why
  is-complete (CannotRead file) why wrote can writes = absurd why
  is-complete CannotWrite why wrote can writes = absurd (writes wrote.rise)
  is-complete (NotMdl file line) why wrote can writes = absurd why
  is-complete (BadTable file line cause) why wrote can writes = absurd why
  is-complete (BreaksRule line) why wrote can writes = absurd (none-broken line can why)
  is-complete (NotVerilog file line) why wrote can writes = absurd why
  is-complete (Broken file fault) why wrote can writes = absurd why
  is-complete (BadInstance file name) why wrote can writes = absurd why
  is-complete (TooLong file length) why wrote can writes = absurd why

module _ (files : Files) (out : Stream) where
  pub sample_due-clause : (words : List (List ℕ)) (answer : Answer) → IsCarriedOut files out (asked_of words) answer → IfSample words (λ number. IsDueSample number (status_of answer))
  sample_due-clause words answer why number shape = let own = carried files out words answer (Sample number) why shape in is-due out number answer own.0 own.1

  pub sample_complete-clause : (words : List (List ℕ)) (answer : Answer) → IsCarriedOut files out (asked_of words) answer → IfSample words (λ number. IsCompleteSample out number (status_of answer))
  sample_complete-clause words answer why number shape = let own = carried files out words answer (Sample number) why shape in is-complete out number answer own.0 own.1

-- ---- what a model and a plan of a sample can't be refused for

pub no-design-syntax : (number line : ℕ) (fault : DesignFault) → IsMdl (sample_model number) → fault ≡ design.NotMdl line → IsRefusedDesign (sample_model number) sample_plan fault → ⊥
no-design-syntax number line fault there is why =
    let told : IsNotMdl (sample_model number) line = subst (λ (one : DesignFault). IsRefusedDesign (sample_model number) sample_plan one) is why in
    told.no_tree there.0 there.1

pub no-bad-plan : (number line : ℕ) (cause : TableCause) (fault : DesignFault) → PlanIsGood → fault ≡ design.BadPlan line cause → IsRefusedDesign (sample_model number) sample_plan fault → ⊥
no-bad-plan number line cause fault good is why =
    let told : IsBadPlan (sample_model number) sample_plan line cause = subst (λ (one : DesignFault). IsRefusedDesign (sample_model number) sample_plan one) is why in
    good (Bad line cause) told.bad

-- ---- a simulation of a sample's own stimulus

-- where a line of it is bad, it doesn't fit the columns of the model's diagram
pub unfit : (number line : ℕ) (cause : TableCause) (diagram : Diagram) (own : List ℕ) (fault : TableFault)
    → IsModelOf (sample_model number) diagram → own ≡ sample_stimulus number → fault ≡ Bad line cause
    → IsStimulusFault diagram own fault → CanBeSimulated (sample_model number) (sample_stimulus number) → ⊥
unfit number line cause diagram own fault accepted same is why can =
    let bad : fault_in diagram own ≡ Some (Bad line cause) = subst (IsStimulusFault diagram own) is why in
    let good : fault_in diagram own ≡ None = ap (fault_in diagram) same ∙ can.good diagram accepted in
    absurd (cc (good, bad))
