-- No line of the plan of a sample is bad.
use Rattle.std.proofs.Common.{◌≡◌, ℕ, true, false, true≢false, List, [], ◌∷◌, ◌++◌, length, Some, refl, sym, ◌∙◌, ap, subst, arith, codes, length-append}
use Rattle.std.specs.Option.{option_to_list}
use Rattle.std.specs.Str.Lines.{lines}
use Rattle.fx_tables.specs.declared.table.TableFault.{TableFault}
use Rattle.fx_tables.specs.Plan.{IsPlanFault, SayEach, cycles_of, is_repeated}
use Rattle.fx_tables.specs.PlanLines.{Says}
use Rattle.fx_tables.specs.inner.PlainPlan.{entry_of, is_bad_entry}
use Rattle.fx_tables.proofs.PlanForms.{entry_form, form_entry}
use Rattle.cmd_sample.specs.Stimulus.{sample_plan}
use Rattle.math_list.proofs.Tests.{some_of}

abbrev domain : {A B : Type 0} → (A → B) → Type 0
domain {A} f = A

-- what a line of a plan says
abbrev Entry : Type 0
Entry = domain cycles_of

abbrev first : List ℕ
first = codes "cycles 64"

abbrev second : List ℕ
second = codes "multipliers 64"

no_line : (before : List (List ℕ)) (bad : List ℕ) (after : List (List ℕ)) (entries : List Entry) → first ∷ second ∷ [] ≡ before ++ bad ∷ after → SayEach before entries
    → ((entry : Entry) → Says bad entry → is_repeated entries entry ≡ true) → ⊥
no_line [] bad after [] whole say repeats =
    let same : first ≡ bad = cc whole in
    let own = some_of (entry_of first) refl in
    let once : is_repeated [] own.0 ≡ false = ap (is_bad_entry []) (sym own.1) in
    true≢false (sym (repeats own.0 (subst (λ line. Says line own.0) same (entry_form first own.0 own.1))) ∙ once)
no_line [] bad after (entry ∷ entries) whole say repeats = say
no_line (line ∷ before) bad after [] whole say repeats = say
no_line (line ∷ []) bad after (entry ∷ []) whole say repeats =
    let same : second ≡ bad = cc whole in
    let front : line ≡ first = cc whole in
    let said = form_entry first entry (subst (λ line. Says line entry) front say.0) in
    let own = some_of (entry_of second) refl in
    let once : is_repeated (entry ∷ []) own.0 ≡ false =
    ap (λ read. is_bad_entry (option_to_list read) (Some own.0)) (sym said) ∙ ap (is_bad_entry (option_to_list (entry_of first))) (sym own.1) in
    true≢false (sym (repeats own.0 (subst (λ line. Says line own.0) same (entry_form second own.0 own.1))) ∙ once)
no_line (line ∷ []) bad after (entry ∷ other ∷ entries) whole say repeats = say.1
no_line (line ∷ next ∷ before) bad after (entry ∷ entries) whole say repeats =
    let long = ap length whole in
    absurd (omega (arith, long, length-append before (bad ∷ after)))

plan_lines : lines sample_plan ≡ first ∷ second ∷ []
plan_lines = refl

pub plan_good : (fault : TableFault) → IsPlanFault sample_plan fault → ⊥
plan_good fault is = no_line is.before is.bad is.after is.entries (sym plan_lines ∙ is.whole) is.say is.is_bad
