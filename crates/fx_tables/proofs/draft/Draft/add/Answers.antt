use Rattle.std.proofs.Common.{◌≡◌, refl, Ok, Err, Result, Bool, List}
use Rattle.std.specs.Prelude.{IfOk, IsTrue}
use Rattle.std.proofs.lemmas.Bool.{OnTrue_at}
use Rattle.fx_tables.specs.inner.Draft.{Describes, IsDraftInRange, IsEntryInRange}
use Rattle.fx_tables.specs.declared.entry.PlanEntry.{PlanEntry}
use Rattle.fx_tables.specs.declared.draft.Draft.{Draft}
use Rattle.fx_tables.proofs.DraftLemmas.{add_passed, add_cycles, add_multipliers, Added, Added-as}
use Rattle.fx_tables.proofs.RangeLemmas.{range_cycles, range_multipliers, range-as}
use Rattle.fx_tables.proofs.draft.Draft.add.Goals as goal

pub returns-in-Passed-clause-describes : goal.returns-in-Passed-clause-describes
returns-in-Passed-clause-describes c earlier d =
    Added-as earlier _ _ _ _ c.in-Passed.is (refl, add_passed c.args.self.now earlier d)

pub returns-in-Cycles-clause-describes : goal.returns-in-Cycles-clause-describes
returns-in-Cycles-clause-describes c earlier d =
    Added-as earlier _ _ _ _ c.in-Cycles.is
    (add_cycles c.args.self.now earlier c.in-Cycles.count c.set_once.result c.set_once.new.slot c.set_once.ensures.new c.set_once.ensures.set d)

pub returns-in-Multipliers-clause-describes : goal.returns-in-Multipliers-clause-describes
returns-in-Multipliers-clause-describes c earlier d =
    let set = c.set_once-in-Multipliers in
    Added-as earlier _ _ _ _ c.in-Multipliers.is
    (add_multipliers c.args.self.now earlier c.in-Multipliers.count set.result set.new.slot set.ensures.new set.ensures.set d)

as_entry : {E : Type 0} (r : Result Bool E) (old new : Draft) (entry other : PlanEntry) → entry ≡ other
    → IfOk r (λ fresh. (earlier : List PlanEntry) → Describes old earlier → Added earlier other fresh new)
    → IfOk r (λ fresh. (earlier : List PlanEntry) → Describes old earlier → Added earlier entry fresh new)
as_entry (Ok fresh) old new entry other is added = λ earlier d. Added-as earlier entry other fresh new is (added earlier d)
as_entry (Err e) old new entry other is added = added

pub returns-in-Pipelined-clause-describes : goal.returns-in-Pipelined-clause-describes
returns-in-Pipelined-clause-describes c = as_entry c.add_pipeline.result c.args.self.now _ _ _ c.in-Pipelined.is c.add_pipeline.ensures.describes

pub returns-in-Cycles-clause-in_range : goal.returns-in-Cycles-clause-in_range
returns-in-Cycles-clause-in_range c fine range d =
    range_cycles c.args.self.now c.in-Cycles.count c.set_once.new.slot (OnTrue_at fine c.set_once.ensures.set)
    (range-as _ _ c.in-Cycles.is range) d

pub returns-in-Multipliers-clause-in_range : goal.returns-in-Multipliers-clause-in_range
returns-in-Multipliers-clause-in_range c fine range d =
    let set = c.set_once-in-Multipliers in
    range_multipliers c.args.self.now c.in-Multipliers.count set.new.slot (OnTrue_at fine set.ensures.set)
    (range-as _ _ c.in-Multipliers.is range) d

as_range : {E : Type 0} (r : Result Bool E) (old new : Draft) (entry other : PlanEntry) → entry ≡ other
    → IfOk r (λ fresh. IsTrue fresh → IsEntryInRange other → IsDraftInRange old → IsDraftInRange new)
    → IfOk r (λ fresh. IsTrue fresh → IsEntryInRange entry → IsDraftInRange old → IsDraftInRange new)
as_range (Ok fresh) old new entry other is kept = λ fine range d. kept fine (range-as entry other is range) d
as_range (Err e) old new entry other is kept = kept

pub returns-in-Pipelined-clause-in_range : goal.returns-in-Pipelined-clause-in_range
returns-in-Pipelined-clause-in_range c =
    as_range c.add_pipeline.result c.args.self.now _ _ _ c.in-Pipelined.is c.add_pipeline.ensures.in_range
