use Rattle.std.proofs.Common.{◌≡◌, ◌-◌, ◌≤◌, length, drop}
use Rattle.mdl_build.specs.Sections.{value_of, value_within}
use Rattle.mdl_build.proofs.layout.Layout.value.Given as goal

abbrev pub invariant-loop-next : goal.invariant-loop-next
invariant-loop-next l = (l.next ≤ length l.self.items.now) × (value_of l.self.items.now l.place l.name ≡ value_within l.above l.name (drop l.next l.self.items.now))

abbrev pub decreases-loop-next : goal.decreases-loop-next
decreases-loop-next l = length l.self.items.now - l.next
