-- What is read of a plan's lines is what they say, and the first bad line.
use Rattle.std.proofs.Common.{◌≡◌, ℕ, ◌+◌, true, false, None, Some, Option, List, [], ◌∷◌, ◌++◌, length, refl, sym, ap, ◌∙◌, ⊎_elim, append_assoc, append-nil, arith}
use Rattle.std.specs.List.{filter_map, cons_option}
use Rattle.std.specs.Option.{option_to_list}
use Rattle.std.specs.Str.Lines.{lines}
use Rattle.std.proofs.lemmas.Bool.{true≢false}
use Rattle.dg_model.specs.declared.plan.Plan.{Plan}
use Rattle.fx_tables.specs.Plan.{is_repeated, SayEach, AreOnce, IsPlan, IsPlanFault}
use Rattle.fx_tables.specs.PlanLines.{Says}
use Rattle.fx_tables.specs.inner.PlainPlan.{entry_of, is_bad_entry, entries_fault, plan_fault, ReadsPlan}
use Rattle.fx_tables.specs.declared.entry.PlanEntry.{PlanEntry}
use Rattle.fx_tables.specs.declared.table.TableFault.{TableFault}
use Rattle.fx_tables.specs.declared.table.TableFault.TheVariants.{Bad}
use Rattle.fx_tables.specs.declared.table.TableCause.TheVariants.{PlanLine}
use Rattle.math_list.proofs.Tests.{cond_cases}
use Rattle.fx_tables.proofs.PlanForms.{entry_form, form_entry}

abbrev Good : List PlanEntry → List (List ℕ) → List PlanEntry → Type 0
Good earlier lines entries = SayEach lines entries × AreOnce earlier entries

good_more : (earlier : List PlanEntry) (line : List ℕ) (later : List (List ℕ)) (entries : List PlanEntry)
    (found : Option PlanEntry) → entry_of line ≡ found → is_bad_entry earlier found ≡ false
    → Good (earlier ++ option_to_list found) later entries
    → Good earlier (line ∷ later) (cons_option found entries)
good_more earlier line later entries None is fine more = absurd (true≢false fine)
good_more earlier line later entries (Some entry) is fine more = ((entry_form line entry is, more.0), (fine, more.1))

all_good : (earlier : List PlanEntry) (number : ℕ) (lines : List (List ℕ)) → entries_fault earlier number lines ≡ None → Good earlier lines (filter_map entry_of lines)
all_good earlier number [] none = (tt, tt)
all_good earlier number (line ∷ later) none = ⊎_elim
    (λ bad. let no : Some (Bad number PlanLine) ≡ None = bad.1 in cc)
    (λ fine. good_more earlier line later (filter_map entry_of later) (entry_of line) refl fine.0 (all_good (earlier ++ option_to_list (entry_of line)) (number + 1) later fine.1))
    (cond_cases (is_bad_entry earlier (entry_of line)) (Some (Bad number PlanLine)) (entries_fault (earlier ++ option_to_list (entry_of line)) (number + 1) later) None none)

pub plan_said : (text : List ℕ) (plan : Plan) → ReadsPlan text plan → IsPlan text plan
plan_said text plan reads =
    let good = all_good [] 1 (lines text) reads.no_fault in
    record {
      entries = filter_map entry_of (lines text);
      say = good.0;
      once = good.1;
      clocks = reads.clocks;
      shared = reads.shared;
      registers = reads.registers;
    }

record Broken (earlier : List PlanEntry) (number : ℕ) (lines : List (List ℕ)) (fault : TableFault) : Type 0 where
  pub before : List (List ℕ)
  pub bad : List ℕ
  pub after : List (List ℕ)
  pub entries : List PlanEntry
  pub whole : lines ≡ before ++ bad ∷ after
  pub say : SayEach before entries
  pub once : AreOnce earlier entries
  pub is_bad : (entry : PlanEntry) → Says bad entry → is_repeated (earlier ++ entries) entry ≡ true
  pub is : fault ≡ Bad (number + length before) PlanLine

broken_more : (earlier : List PlanEntry) (number : ℕ) (line : List ℕ) (later : List (List ℕ)) (fault : TableFault)
    (found : Option PlanEntry) → entry_of line ≡ found → is_bad_entry earlier found ≡ false
    → Broken (earlier ++ option_to_list found) (number + 1) later fault
    → Broken earlier number (line ∷ later) fault
broken_more earlier number line later fault None is fine more = absurd (true≢false fine)
broken_more earlier number line later fault (Some entry) is fine more = record {
  before = line ∷ more.before;
  bad = more.bad;
  after = more.after;
  entries = entry ∷ more.entries;
  whole = ap (λ l. line ∷ l) more.whole;
  say = (entry_form line entry is, more.say);
  once = (fine, more.once);
  is_bad = λ other says. ap (λ l. is_repeated l other) (sym (append_assoc earlier (entry ∷ []) more.entries)) ∙ more.is_bad other says;
  is = more.is ∙ ap (λ n. Bad n PlanLine) (omega arith);
}

broken : (earlier : List PlanEntry) (number : ℕ) (lines : List (List ℕ)) (fault : TableFault) → entries_fault earlier number lines ≡ Some fault → Broken earlier number lines fault
broken earlier number [] fault h = cc
broken earlier number (line ∷ later) fault h = ⊎_elim
    (λ bad. record {
      before = [];
      bad = line;
      after = later;
      entries = [];
      whole = refl;
      say = tt;
      once = tt;
      is_bad = λ entry says. ap (λ l. is_repeated l entry) (append-nil earlier) ∙ ap (is_bad_entry earlier) (sym (form_entry line entry says)) ∙ bad.0;
      is = let same : Bad number PlanLine ≡ fault = let e = bad.1 in cc in sym same ∙ ap (λ n. Bad n PlanLine) (omega arith);
    })
    (λ fine. broken_more earlier number line later fault (entry_of line) refl fine.0 (broken (earlier ++ option_to_list (entry_of line)) (number + 1) later fault fine.1))
    (cond_cases (is_bad_entry earlier (entry_of line)) (Some (Bad number PlanLine)) (entries_fault (earlier ++ option_to_list (entry_of line)) (number + 1) later) (Some fault) h)

pub fault_said : (text : List ℕ) (fault : TableFault) → plan_fault text ≡ Some fault → IsPlanFault text fault
fault_said text fault h =
    let first = broken [] 1 (lines text) fault h in
    record {
      before = first.before;
      bad = first.bad;
      after = first.after;
      entries = first.entries;
      whole =
          first.whole;
      say = first.say;
      once = first.once;
      is_bad =
          first.is_bad;
      is = first.is ∙ ap (λ n. Bad n PlanLine) (omega arith);
    }
