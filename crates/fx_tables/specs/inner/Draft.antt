-- What the lines of a plan have said so far (own).
use Rattle.std.specs.Prelude.{◌≡◌, ◌≤◌, ℕ, List, IfSome}
use Rattle.std.specs.List.{list_any, filter_map, AllByRecursion}
use Rattle.std.specs.Option.{option_to_list}
use Rattle.std.specs.Str.{bytes_eq}
use Rattle.std.specs.Cmp.Lexicographic.{slice_cmp}
use Rattle.std.specs.Ordering.{nat_cmp}
use Rattle.std.specs.BTreeSet.{contains}
use Rattle.std.specs.Prelude.{Vec}
use Rattle.std.specs.Global.{Global}
use Rattle.dg_model.specs.Limits.{most_cycles}
use Rattle.fx_tables.specs.Plan.{cycles_of, multipliers_of, pipeline_of}
use Rattle.dg_model.specs.PlanRange.{AreDifferent, IsRegisterCount}
use Rattle.fx_tables.specs.declared.entry.PlanEntry.{PlanEntry}
use Rattle.fx_tables.specs.declared.entry.PlanEntry.TheVariants.{Passed, Cycles, Multipliers, Pipelined}
use Rattle.fx_tables.specs.declared.draft.Draft.{Draft}

-- a plan's reader holds what the lines so far have said (private contracts)
pub record Describes (draft : Draft) (entries : List PlanEntry) : Type 0 where
  pub clocks : filter_map cycles_of entries ≡ option_to_list draft.cycles
  pub shared : filter_map multipliers_of entries ≡ option_to_list draft.multipliers
  pub registers : filter_map pipeline_of entries ≡ draft.pipelines
  pub paths : (path : Vec ℕ Global) →
      contains (λ x y. slice_cmp nat_cmp x.items y.items) draft.paths path
      ≡ list_any (λ other. bytes_eq other.path path.items) draft.pipelines

-- what a line of a plan says is in range
abbrev pub IsEntryInRange : PlanEntry → Type 0
IsEntryInRange Passed = Unit {0}
IsEntryInRange (Cycles count) = (1 ≤ count) × (count ≤ most_cycles)
IsEntryInRange (Multipliers count) = count ≤ 64
IsEntryInRange (Pipelined pipeline) = IsRegisterCount pipeline

-- what was said so far is in range
pub record IsDraftInRange (draft : Draft) : Type 0 where
  pub clocks : IfSome draft.cycles (λ count. (1 ≤ count) × (count ≤ most_cycles))
  pub shared : IfSome draft.multipliers (λ count. count ≤ 64)
  pub counts : AllByRecursion IsRegisterCount draft.pipelines
  pub different : AreDifferent draft.pipelines
  pub known : (path : Vec ℕ Global) →
      contains (λ x y. slice_cmp nat_cmp x.items y.items) draft.paths path
      ≡ list_any (λ other. bytes_eq other.path path.items) draft.pipelines
