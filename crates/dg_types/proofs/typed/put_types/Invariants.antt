use Rattle.std.proofs.Common.{◌≡◌, map, take}
use Rattle.math_list.specs.Numbers.{numbers_from}
use Rattle.dg_model.specs.Attributes.{or_logical, param_type_at}
use Rattle.dg_model.specs.TypeRounds.{types_of}
use Rattle.dg_types.proofs.typed.put_types.Given as goal

abbrev pub invariant-loop-place : goal.invariant-loop-place
invariant-loop-place l = record {
  results : l.results ≡ map or_logical (take l.place l.typed.types.now);
  params : l.params ≡ map (λ place. or_logical (param_type_at l.typed.diagram.now (types_of l.typed.diagram.now) place)) (numbers_from 0 l.place);
}
