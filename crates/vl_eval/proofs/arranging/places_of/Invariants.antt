use Rattle.vl_eval.specs.inner.Order.{ArePlaces}
use Rattle.vl_eval.proofs.arranging.places_of.Given as goal

abbrev pub invariant-loop-place : goal.invariant-loop-place
invariant-loop-place l = ArePlaces l.base l.entries l.place l.places.items
