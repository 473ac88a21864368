-- What commands of a model and a plan fetch, and what a plan breaks.
use Rattle.std.proofs.Common.{◌⊎◌, inl, inr, ◌≡◌, ℕ, Bool, true, false, if◌then◌else◌, List, [], ◌∷◌, ◌++◌, All, bytes_eq, codes, refl, subst}
use Rattle.std.specs.Str.Lines.{lines}
use Rattle.std.proofs.lemmas.List.Elements.{All-cons, All-nil}
use Rattle.cmd_design.specs.Design.{IsBadPlan, TellsPlanRule}
use Rattle.fx_io.specs.Shelf.{Told, Fetched}
use Rattle.cmd_model.specs.RuleLine.{TellsRule}
use Rattle.fx_tables.specs.declared.table.TableCause.{TableCause}
use Rattle.fx_tables.specs.declared.table.TableFault.TheVariants.{Bad}
use Rattle.fx_tables.specs.Plan.{IsPlanFault}
use Rattle.fx_top.specs.Call.{Files, file_limit}
use Rattle.fx_top.specs.Cause.{BreaksSomeRule, HasBadLine, IsFetched}
use Rattle.fx_top.specs.Command.{Command, PlanWord, EmptyPlan, Named, Stream as StreamOf, first_of, plan_files, plan_word}
use Rattle.fx_top.specs.Output.{IsPlanText}
use Rattle.cmd_generate.specs.Streamed.{TellsStreamRule}
use Rattle.fx_top.proofs.ShelfFacts.{ReadsPlan, reads-plan}

fetched-all : (held : List ℕ → Told) (model bytes : List ℕ) → Fetched (held model) file_limit bytes → All (λ file. (bytes : List ℕ) × Fetched (held file) file_limit bytes) (model ∷ [])
fetched-all held model bytes fetched =
    let P : List ℕ → Type 0 = λ file. (bytes : List ℕ) × Fetched (held file) file_limit bytes in
    All-cons P model [] (bytes, fetched) (All-nil P)

pub fetched-planned : (held : List ℕ → Told) (model : List ℕ) (plan : PlanWord) (bytes text : List ℕ) → Fetched (held model) file_limit bytes → IsPlanText held plan text
    → All (λ file. (bytes : List ℕ) × Fetched (held file) file_limit bytes) (model ∷ plan_files plan)
fetched-planned held model EmptyPlan bytes text fetched says = fetched-all held model bytes fetched
fetched-planned held model (Named file) bytes text fetched says =
    let P : List ℕ → Type 0 = λ file. (bytes : List ℕ) × Fetched (held file) file_limit bytes in
    All-cons P model (file ∷ []) (bytes, fetched) (fetched-all held file text says)

-- a rule of the model or of the plan that is told
pub plan-rule : (files : Files) (command : Command) (plan : PlanWord) → ReadsPlan command plan → (bytes text line : List ℕ) → IsFetched files (first_of command) bytes → IsPlanText files.held plan text
    → TellsRule bytes line ⊎ TellsPlanRule bytes text line → BreaksSomeRule files command line
plan-rule files command plan reads bytes text line fetched says (inl told) = inl (record { file = first_of command; is_model = reads.is_model; bytes = bytes; fetched = fetched; told = told })
plan-rule files command plan reads bytes text line fetched says (inr told) =
    inr (inl (record { file = first_of command; is_model = reads.is_model; plan = plan; is_plan = reads.is_plan; bytes = bytes; fetched = fetched; text = text; says = says; told = told }))

-- a rule of ports too
pub stream-rule : (files : Files) (model : List ℕ) (plan : PlanWord) (bytes text line : List ℕ) → IsFetched files model bytes → IsPlanText files.held plan text
    → TellsRule bytes line ⊎ (TellsPlanRule bytes text line ⊎ TellsStreamRule bytes text line) → BreaksSomeRule files (StreamOf model plan) line
stream-rule files model plan bytes text line fetched says (inl told) = plan-rule files (StreamOf model plan) plan (reads-plan (StreamOf model plan) plan refl) bytes text line fetched says (inl told)
stream-rule files model plan bytes text line fetched says (inr (inl told)) =
    plan-rule files (StreamOf model plan) plan
    (reads-plan (StreamOf model plan) plan refl) bytes text line fetched says (inr told)
stream-rule files model plan bytes text line fetched says (inr (inr told)) =
    inr (inr (record { model = model; plan = plan; streams = refl; bytes = bytes; fetched = fetched; text = text; says = says; told = told }))

-- no bytes have no bad line
no-line : (before : List (List ℕ)) (bad : List ℕ) (after : List (List ℕ)) → lines [] ≡ before ++ bad ∷ after → ⊥
no-line [] bad after e = absurd (cc e)
no-line (line ∷ before) bad after e = absurd (cc e)

bad-by : (files : Files) (command : Command) (word : List ℕ) (empty : Bool) → ReadsPlan command (if empty then EmptyPlan else Named word) → (bytes text : List ℕ) (line : ℕ) (cause : TableCause)
    → IsFetched files (first_of command) bytes → IsPlanText files.held (if empty then EmptyPlan else Named word) text → IsBadPlan bytes text line cause → HasBadLine files command word line cause
bad-by files command word true reads bytes text line cause fetched says bad =
    let fault = subst (λ (own : List ℕ). IsPlanFault own (Bad line cause)) says bad.bad in
    absurd (no-line fault.before fault.bad fault.after fault.whole)
bad-by files command word false reads bytes text line cause fetched says bad = record {
  is_table = reads.is_table;
  first = bytes;
  table = text;
  first_fetched = fetched;
  table_fetched = says;
  bad = reads.bad bytes text line cause bad;
}

-- a bad line of the plan that a word names
pub plan-bad : (files : Files) (command : Command) (word : List ℕ) → ReadsPlan command (plan_word word) → (bytes text : List ℕ) (line : ℕ) (cause : TableCause)
    → IsFetched files (first_of command) bytes → IsPlanText files.held (plan_word word) text → IsBadPlan bytes text line cause → HasBadLine files command word line cause
plan-bad files command word reads bytes text line cause fetched says bad = bad-by files command word (bytes_eq word (codes "-")) reads bytes text line cause fetched says bad
