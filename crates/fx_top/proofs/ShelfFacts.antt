-- What the shelf tells of files that were fetched, and of a model and a plan.
use Rattle.std.proofs.Common.{◌≡◌, ◌≤◌, ◌<◌, ℕ, List, [], ◌∷◌, length, nat_lt, false, All, Option, None, Some, refl, ap, sym, ◌∙◌, subst, arith}
use Rattle.std.proofs.lemmas.Bool.{false_from_ne_true, ltb-true}
use Rattle.std.proofs.lemmas.List.Elements.{All-head, All-tail}
use Rattle.dg_model.specs.declared.diagram.Diagram.{Diagram}
use Rattle.dg_model.specs.declared.resolved.Resolved.{Resolved}
use Rattle.hw_sched.specs.Slots.{Timing}
use Rattle.fx_tables.specs.declared.table.TableCause.{TableCause}
use Rattle.fx_tables.specs.Plan.{IsPlan}
use Rattle.fx_io.specs.Shelf.{Told, Fetched}
use Rattle.cmd_design.specs.Design.{IsBadPlan, IsDesignOf, TellsPlanRule}
use Rattle.cmd_model.specs.Model.{IsModelOf}
use Rattle.fx_top.specs.Call.{Files, Trouble, trouble_or, first_trouble, file_limit}
use Rattle.fx_top.specs.Cause.{IsFetched, HasBadLine, HasBrokenPlan}
use Rattle.fx_top.specs.Command.{Command, PlanWord, EmptyPlan, Named, Generate, Replay, Simulate, Explore, Check, Stream, model_of, plan_of, plan_file, table_of, first_of}
use Rattle.fx_top.specs.CheckedText.{IsCheckOf}
use Rattle.cmd_generate.specs.Generated.{HasNoPlan, IsVerilogOf, IsWithoutDesign}
use Rattle.fx_top.specs.Outcome.{CanDesign, IsBadFor, Tells, TellsPlan}
use Rattle.fx_top.specs.Output.{IsBadTable, IsOfFiles, IsPlanText}
use Rattle.cmd_generate.specs.Streamed.{IsStreamedOf}

-- a file that was fetched is in no trouble
pub untroubled : (file : List ℕ) (told : Told) (bytes : List ℕ) → Fetched told file_limit bytes → (later : Option Trouble) → trouble_or file told later ≡ later
untroubled file None bytes fetched later = refl
untroubled file (Some None) bytes fetched later = let is = fetched.held None refl in absurd (cc is)
untroubled file (Some (Some own)) bytes fetched later =
    let is : Some own ≡ Some bytes = fetched.held (Some own) refl in
    let same : own ≡ bytes = cc is in
    let within : length own ≤ file_limit = subst (λ (text : List ℕ). length text ≤ file_limit) (sym same) fetched.within in
    let short : nat_lt file_limit (length own) ≡ false =
    false_from_ne_true (nat_lt file_limit (length own))
    (λ e. let above : file_limit < length own =
    ltb-true file_limit (length own) e in absurd (omega arith)) in
    simp short

pub no-trouble : (held : List ℕ → Told) (names : List (List ℕ)) → All (λ file. (bytes : List ℕ) × Fetched (held file) file_limit bytes) names → first_trouble held names ≡ None
no-trouble held [] all = refl
no-trouble held (file ∷ names) all =
    let P : List ℕ → Type 0 = λ name. (bytes : List ℕ) × Fetched (held name) file_limit bytes in
    let here = All-head P file names all in
    untroubled file (held file) here.0 here.1 (first_trouble held names) ∙ no-trouble held names (All-tail P file names all)

-- ---- commands of a model and a plan

-- the command reads a model and this plan, and what is bad of its table is bad of the plan
pub record ReadsPlan (command : Command) (plan : PlanWord) : Type 0 where
  pub is_model : model_of command ≡ Some (first_of command)
  pub is_plan : plan_of command ≡ Some plan
  pub is_table : table_of command ≡ plan_file plan
  pub bad : (first table : List ℕ) (line : ℕ) (cause : TableCause) → IsBadPlan first table line cause → IsBadTable command first table line cause
  pub only : (first table : List ℕ) (line : ℕ) (cause : TableCause) → IsBadTable command first table line cause → IsBadPlan first table line cause
  pub none : (first table : List ℕ) → IsBadFor command first table → HasNoPlan first table

-- a command over a plan does so
pub reads-plan : (command : Command) (plan : PlanWord) → plan_of command ≡ Some plan → ReadsPlan command plan
reads-plan (Generate model own) plan is =
    let same : own ≡ plan = cc is in
    record { is_model = refl; is_plan = is; is_table = ap plan_file same; bad = λ first table line cause bad. bad; only = λ first table line cause bad. bad; none = λ first table bad. bad }
reads-plan (Replay verilog stimulus) plan is = absurd (cc is)
reads-plan (Simulate model stimulus) plan is = absurd (cc is)
reads-plan (Explore model range) plan is = absurd (cc is)
reads-plan (Check model own) plan is =
    let same : own ≡ plan = cc is in
    record { is_model = refl; is_plan = is; is_table = ap plan_file same; bad = λ first table line cause bad. bad; only = λ first table line cause bad. bad; none = λ first table bad. bad }
reads-plan (Stream model own) plan is =
    let same : own ≡ plan = cc is in
    record { is_model = refl; is_plan = is; is_table = ap plan_file same; bad = λ first table line cause bad. bad; only = λ first table line cause bad. bad; none = λ first table bad. bad }

-- what was fetched of a model and a plan makes a design
pub record HasDesign (held : List ℕ → Told) (model : List ℕ) (plan : PlanWord) : Type 0 where
  pub model_bytes : List ℕ
  pub plan_bytes : List ℕ
  pub model_fetched : Fetched (held model) file_limit model_bytes
  pub plan_says : IsPlanText held plan plan_bytes
  pub diagram : Diagram
  pub resolved : Resolved
  pub timing : Timing
  pub design : IsDesignOf model_bytes plan_bytes diagram resolved timing

abbrev pub has-design : {held : List ℕ → Told} {model : List ℕ} {plan : PlanWord} {bytes text : List ℕ} {diagram : Diagram} {resolved : Resolved} {timing : Timing}
    → Fetched (held model) file_limit bytes → IsPlanText held plan text → IsDesignOf bytes text diagram resolved timing → HasDesign held model plan
has-design {held} {model} {plan} {bytes} {text} {diagram} {resolved} {timing} fetched says design = record {
  model_bytes = bytes;
  plan_bytes = text;
  model_fetched = fetched;
  plan_says = says;
  diagram = diagram;
  resolved = resolved;
  timing = timing;
  design = design;
}

-- the design that a written text is of
pub verilog-design : {held : List ℕ → Told} {model : List ℕ} {plan : PlanWord} {text : List ℕ} → IsOfFiles IsVerilogOf held model plan text → HasDesign held model plan
verilog-design output = has-design output.fetched output.says output.made.design

pub check-design : {held : List ℕ → Told} {model : List ℕ} {plan : PlanWord} {text : List ℕ} → IsOfFiles IsCheckOf held model plan text → HasDesign held model plan
check-design output = has-design output.fetched output.says output.made.design

-- the design that a text with valid and ready is of
unfoldable pub stream-design : {held : List ℕ → Told} {model : List ℕ} {plan : PlanWord} {text : List ℕ} → IsOfFiles IsStreamedOf held model plan text → HasDesign held model plan
stream-design output = has-design output.fetched output.says output.made.design

module _ (files : Files) where
  pub told-is : (file told bytes : List ℕ) → IsFetched files file bytes → Tells files file told → told ≡ bytes
  told-is file told bytes fetched tells = let same : Some told ≡ Some bytes = fetched.held (Some told) tells in cc same

  -- what was fetched under a name is what the shelf tells under it
  pub fetched-told : (name file told bytes : List ℕ) → name ≡ file → IsFetched files file bytes → Tells files name told → told ≡ bytes
  fetched-told name file told bytes same fetched tells = told-is file told bytes fetched (subst (λ (n : List ℕ). Tells files n told) same tells)

  -- of a plan
  pub told-plan : (plan : PlanWord) (told text : List ℕ) → IsPlanText files.held plan text → TellsPlan files plan told → told ≡ text
  told-plan EmptyPlan told text says tells = tells ∙ sym says
  told-plan (Named file) told text says tells = told-is file told text says tells

  -- the text of a plan that has a file is what is told of that
  plan-told : (plan : PlanWord) (file told text : List ℕ) → plan_file plan ≡ Some file → IsPlanText files.held plan text → Tells files file told → told ≡ text
  plan-told EmptyPlan file told text is says tells = absurd (cc is)
  plan-told (Named own) file told text is says tells = let same : own ≡ file = cc is in fetched-told file own told text (sym same) says tells

  -- a file that is fetched for a plan is told
  file-told : (plan : PlanWord) (file told text : List ℕ) → plan_file plan ≡ Some file → TellsPlan files plan told → IsFetched files file text → told ≡ text
  file-told EmptyPlan file told text is tells fetched = absurd (cc is)
  file-told (Named own) file told text is tells fetched = fetched-told own file told text (cc is) fetched tells

  -- ---- where there is a design

  module _ (model : List ℕ) (plan : PlanWord) (has : HasDesign files.held model plan) (bytes : List ℕ) (tells : Tells files model bytes) where
    pub design-good : (diagram : Diagram) × IsModelOf bytes diagram
    design-good = (has.diagram, subst (λ (b : List ℕ). IsModelOf b has.diagram) (sym (told-is model bytes has.model_bytes has.model_fetched tells)) has.design.accepted)

    -- the text is that of a plan
    pub design-planned : (file text : List ℕ) → plan_file plan ≡ Some file → Tells files file text → HasNoPlan bytes text → ⊥
    design-planned file text is told bad =
        bad.none has.design.plan (subst (λ (own : List ℕ). IsPlan own has.design.plan) (sym (plan-told plan file text has.plan_bytes is has.plan_says told)) has.design.says)

    -- it is that of what is told
    pub design-is : (text : List ℕ) → TellsPlan files plan text → IsDesignOf bytes text has.diagram has.resolved has.timing
    design-is text told =
        let first = told-is model bytes has.model_bytes has.model_fetched tells in
        let second = told-plan plan text has.plan_bytes has.plan_says told in
        subst (λ (b : List ℕ). IsDesignOf b text has.diagram has.resolved has.timing) (sym first)
        (subst (λ (t : List ℕ). IsDesignOf has.model_bytes t has.diagram has.resolved has.timing) (sym second) has.design)

    pub design-told : (text : List ℕ) → TellsPlan files plan text → IsWithoutDesign bytes text → ⊥
    design-told text told refused = refused.none has.diagram has.resolved has.timing (design-is text told)

  -- ---- faults of a plan

  module _ (command : Command) (plan : PlanWord) (reads : ReadsPlan command plan) where
    -- where no line of it is bad, none is told
    pub lines-kept : (bytes text : List ℕ) → Tells files (first_of command) bytes → TellsPlan files plan text → ((line : ℕ) (cause : TableCause) → IsBadPlan bytes text line cause → ⊥)
        → (file : List ℕ) (line : ℕ) (cause : TableCause) → HasBadLine files command file line cause → ⊥
    lines-kept bytes text tells told good file line cause why =
        let first = told-is (first_of command) bytes why.first why.first_fetched tells in
        let second = file-told plan file text why.table (sym reads.is_table ∙ why.is_table) told why.table_fetched in
        let bad = reads.only why.first why.table line cause why.bad in
        good line cause (subst (λ (b : List ℕ). IsBadPlan b text line cause) (sym first) (subst (λ (t : List ℕ). IsBadPlan why.first t line cause) (sym second) bad))

    -- it is the plan that breaks a rule
    same-plan : (line : List ℕ) (why : HasBrokenPlan files command line) → IsPlanText files.held plan why.text
    same-plan line why =
        let is = reads.is_plan in
        let own = why.is_plan in
        let same : why.plan ≡ plan = cc (is, own) in
        subst (λ (w : PlanWord). IsPlanText files.held w why.text) same why.says

    -- a text that is no plan breaks no rule
    pub none-broken : (file bytes text : List ℕ) → table_of command ≡ Some file → Tells files file text → IsBadFor command bytes text → (line : List ℕ) → HasBrokenPlan files command line → ⊥
    none-broken file bytes text is told bad line why =
        let none = (reads.none bytes text bad).none in
        none why.told.plan (subst (λ (t : List ℕ). IsPlan t why.told.plan) (sym (plan-told plan file text why.text (sym reads.is_table ∙ is) (same-plan line why) told)) why.told.says)

    -- where there can be a design its plan breaks none
    pub rules-kept : CanDesign files (first_of command) plan → (line : List ℕ) → HasBrokenPlan files command line → ⊥
    rules-kept can line why =
        let is = reads.is_model in
        let own = why.is_model in
        let same : first_of command ≡ why.file = cc (is, own) in
        let first = fetched-told (first_of command) why.file can.model_bytes why.bytes same why.fetched can.model_told in
        let second = told-plan plan can.plan_bytes why.text (same-plan line why) can.plan_told in
        can.can.kept line (subst (λ (b : List ℕ). TellsPlanRule b can.plan_bytes line) (sym first) (subst (λ (t : List ℕ). TellsPlanRule why.bytes t line) (sym second) why.told))
