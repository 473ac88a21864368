use Rattle.std.proofs.Common.{◌≡◌, ◌+◌, ◌≤◌, ◌++◌, List, length}
use Rattle.std.specs.List.{filter_map}
use Rattle.std.specs.Str.Lines.{lines}
use Rattle.fx_tables.specs.inner.PlainPlan.{entry_of, entries_of, entries_fault, plan_fault}
use Rattle.fx_tables.specs.inner.Draft.{Describes, IsDraftInRange}
use Rattle.fx_tables.specs.declared.entry.PlanEntry.{PlanEntry}
use Rattle.fx_tables.proofs.plan.read_plan.Given as goal

abbrev pub invariant-loop-rest : goal.invariant-loop-rest
invariant-loop-rest l = record {
  counted : l.line + length l.rest ≤ length l.bytes;
  in_range : IsDraftInRange l.draft;
  read : (earlier : List PlanEntry) × Describes l.draft earlier
      × (earlier ++ filter_map entry_of (lines l.rest) ≡ entries_of l.bytes)
      × (entries_fault earlier (l.line + 1) (lines l.rest) ≡ plan_fault l.bytes);
}

abbrev pub decreases-loop-rest : goal.decreases-loop-rest
decreases-loop-rest l = length l.rest
