use Rattle.std.proofs.Common.{◌≡◌, ◌+◌, ◌^◌, ◌-◌, ◌<◌, min, drop}
use Rattle.dg_types.specs.inner.Elements.{outputs_from, delays_from}
use Rattle.dg_types.proofs.elements.all_kept.Given as goal

abbrev pub invariant-loop-place : goal.invariant-loop-place
invariant-loop-place l = record {
  outputs : min (2 ^ 64 - 1) (l.outputs + outputs_from l.widths l.place (drop l.place l.blocks)) ≡ min (2 ^ 64 - 1) (outputs_from l.widths 0 l.blocks);
  fit : l.outputs < 2 ^ 64;
  delayed : min (2 ^ 64 - 1) (l.kept + delays_from l.widths l.place (drop l.place l.blocks)) ≡ min (2 ^ 64 - 1) (delays_from l.widths 0 l.blocks);
  kept_fit : l.kept < 2 ^ 64;
}
