-- The lines of a plan, one on.
use Rattle.std.proofs.Common.{◌≡◌, ℕ, ◌+◌, true, false, None, Some, Option, List, ◌∷◌, ◌++◌, refl, sym, ap, ◌∙◌, append_assoc}
use Rattle.std.specs.List.{filter_map, cons_option}
use Rattle.std.specs.Option.{option_to_list}
use Rattle.std.proofs.lemmas.Bool.{cond-true, cond-false}
use Rattle.fx_tables.specs.inner.PlainPlan.{entry_of, is_bad_entry, entries_fault}
use Rattle.fx_tables.specs.declared.entry.PlanEntry.{PlanEntry}
use Rattle.fx_tables.specs.declared.table.TableFault.TheVariants.{Bad}
use Rattle.fx_tables.specs.declared.table.TableCause.TheVariants.{PlanLine}

pub entries_fault-bad : (earlier : List PlanEntry) (line : ℕ) (text : List ℕ) (later all : List (List ℕ))
    → all ≡ text ∷ later → is_bad_entry earlier (entry_of text) ≡ true
    → entries_fault earlier line all ≡ Some (Bad line PlanLine)
entries_fault-bad earlier line text later all is bad =
    ap (entries_fault earlier line) is
    ∙ cond-true (is_bad_entry earlier (entry_of text)) (Some (Bad line PlanLine)) (entries_fault (earlier ++ option_to_list (entry_of text)) (line + 1) later) bad

pub entries_fault-good : (earlier : List PlanEntry) (line : ℕ) (text : List ℕ) (later all : List (List ℕ))
    → all ≡ text ∷ later → is_bad_entry earlier (entry_of text) ≡ false
    → entries_fault earlier line all
    ≡ entries_fault (earlier ++ option_to_list (entry_of text)) (line + 1) later
entries_fault-good earlier line text later all is good =
    ap (entries_fault earlier line) is
    ∙ cond-false (is_bad_entry earlier (entry_of text)) (Some (Bad line PlanLine)) (entries_fault (earlier ++ option_to_list (entry_of text)) (line + 1) later) good

front : (entry : Option PlanEntry) (entries : List PlanEntry) → cons_option entry entries ≡ option_to_list entry ++ entries
front None entries = refl
front (Some entry) entries = refl

pub entries-more : (earlier : List PlanEntry) (text : List ℕ) (later all : List (List ℕ)) → all ≡ text ∷ later
    → earlier ++ filter_map entry_of all ≡ (earlier ++ option_to_list (entry_of text)) ++ filter_map entry_of later
entries-more earlier text later all is =
    ap (λ l. earlier ++ filter_map entry_of l) is
    ∙ ap (λ l. earlier ++ l) (front (entry_of text) (filter_map entry_of later))
    ∙ sym (append_assoc earlier (option_to_list (entry_of text)) (filter_map entry_of later))
