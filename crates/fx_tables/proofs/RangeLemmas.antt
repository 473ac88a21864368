-- That what the lines of a plan have said so far is in range.
use Rattle.std.proofs.Common.{◌≡◌, ◌≢◌, ◌≤◌, ℕ, true, false, Some, Option, List, [], ◌∷◌, ◌++◌, sym, ap, subst, ◌∙◌}
use Rattle.std.specs.Prelude.{Vec, IfSome}
use Rattle.std.specs.Global.{Global}
use Rattle.std.specs.List.{list_any, AllByRecursion}
use Rattle.std.specs.Str.{bytes_eq}
use Rattle.std.specs.BTreeSet.{BTreeSet, Updates}
use Rattle.std.proofs.lemmas.Bool.{or_parts}
use Rattle.dg_model.specs.declared.plan.Pipeline.{Pipeline}
use Rattle.dg_model.specs.PlanRange.{AreDifferent, IsRegisterCount}
use Rattle.fx_tables.specs.inner.Draft.{IsDraftInRange, IsEntryInRange}
use Rattle.fx_tables.specs.declared.entry.PlanEntry.{PlanEntry}
use Rattle.fx_tables.specs.declared.entry.PlanEntry.TheVariants.{Cycles, Multipliers}
use Rattle.fx_tables.specs.declared.draft.Draft.{Draft}
use Rattle.fx_tables.proofs.DraftLemmas.{path_cmp, more_paths}
use Rattle.math_list.proofs.Tests.{differ}

-- one more at the end
each-more : {X : Type 0} (P : X → Type 0) (xs : List X) (last : X) → AllByRecursion P xs → P last → AllByRecursion P (xs ++ last ∷ [])
each-more P [] last each one = (one, tt)
each-more P (x ∷ xs) last each one = (each.0, each-more P xs last each.1 one)

different-more : (pipelines : List Pipeline) (last : Pipeline) → AreDifferent pipelines → list_any (λ other. bytes_eq other.path last.path) pipelines ≡ false → AreDifferent (pipelines ++ last ∷ [])
different-more [] last different none = (tt, tt)
different-more (first ∷ later) last different none =
    let parts = or_parts (bytes_eq first.path last.path) (list_any (λ other. bytes_eq other.path last.path) later) none in (
      each-more (λ other. first.path ≢ other.path) later last different.0 (differ first.path last.path parts.0),
      different-more later last different.1 parts.1,
    )

if_slot : (P : ℕ → Type 0) (slot : Option ℕ) (count : ℕ) → slot ≡ Some count → P count → IfSome slot P
if_slot P slot count is holds = subst (λ (s : Option ℕ). IfSome s P) (sym is) holds

pub range_cycles : (draft : Draft) (count : ℕ) (slot : Option ℕ) → slot ≡ Some count → IsEntryInRange (Cycles count) → IsDraftInRange draft → IsDraftInRange (record draft { cycles = slot })
range_cycles draft count slot is range d = record {
  clocks = if_slot (λ count. (1 ≤ count) × (count ≤ 1024)) slot count is range;
  shared = d.shared;
  counts = d.counts;
  different = d.different;
  known = d.known;
}

pub range_multipliers : (draft : Draft) (count : ℕ) (slot : Option ℕ) → slot ≡ Some count
    → IsEntryInRange (Multipliers count) → IsDraftInRange draft
    → IsDraftInRange (record draft { multipliers = slot })
range_multipliers draft count slot is range d = record {
  clocks = d.clocks;
  shared = if_slot (λ count. count ≤ 64) slot count is range;
  counts = d.counts;
  different = d.different;
  known = d.known;
}

-- a path that was not there
pub range_path : (draft : Draft) (pipeline : Pipeline) (key : Vec ℕ Global) (paths : BTreeSet (Vec ℕ Global))
    (pipelines : List Pipeline) → key.items ≡ pipeline.path
    → list_any (λ other. bytes_eq other.path key.items) draft.pipelines ≡ false
    → Updates path_cmp draft.paths paths key true → pipelines ≡ draft.pipelines ++ pipeline ∷ []
    → IsRegisterCount pipeline → IsDraftInRange draft
    → IsDraftInRange (record draft { pipelines = pipelines; paths = paths })
range_path draft pipeline key paths pipelines is none updates pushed range d = record {
  clocks = d.clocks;
  shared = d.shared;
  counts = subst (λ (ps : List Pipeline). AllByRecursion IsRegisterCount ps) (sym pushed) (each-more IsRegisterCount draft.pipelines pipeline d.counts range);
  different = subst AreDifferent (sym pushed)
      (different-more draft.pipelines pipeline d.different (ap (λ items. list_any (λ other. bytes_eq other.path items) draft.pipelines) (sym is) ∙ none));
  known = λ path.
      more_paths draft.paths paths draft.pipelines pipeline key path is (d.known path) updates
      ∙ ap (list_any (λ other. bytes_eq other.path path.items)) (sym pushed);
}

-- an entry is in range, where it is known which it is
pub range-as : (entry other : PlanEntry) → entry ≡ other → IsEntryInRange entry → IsEntryInRange other
range-as entry other is range = subst IsEntryInRange is range
