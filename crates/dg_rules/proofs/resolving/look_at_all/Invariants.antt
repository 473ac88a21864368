use Rattle.std.proofs.Common.{◌≡◌, map, take}
use Rattle.dg_model.specs.Attributes.{attributes_of}
use Rattle.dg_model.specs.PlanNames.{count_of}
use Rattle.dg_rules.specs.inner.Standings.{AreStandings}
use Rattle.dg_rules.proofs.resolving.look_at_all.Given as goal

abbrev pub invariant-loop-place : goal.invariant-loop-place
invariant-loop-place l = record {
  standings : AreStandings l.fn.checked.diagram (attributes_of l.fn.checked.diagram) l.place l.fn.plan.pipelines l.standings.items;
  stages : l.stages ≡ map (λ block. count_of l.fn.plan block.path) (take l.place l.fn.checked.diagram.blocks);
}
