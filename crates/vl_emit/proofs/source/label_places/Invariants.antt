use Rattle.std.proofs.Common.{◌≤◌, length, drop}
use Rattle.vl_emit.specs.inner.Ready.{IsIndexFrom}
use Rattle.vl_emit.proofs.source.label_places.Given as goal

abbrev pub invariant-loop-left : goal.invariant-loop-left
invariant-loop-left l = (l.left ≤ length l.labels) × IsIndexFrom l.labels (drop l.left l.labels) l.count l.places.items

abbrev pub decreases-loop-left : goal.decreases-loop-left
decreases-loop-left l = l.left
