use Rattle.std.proofs.Common.{◌≡◌, ◌≤◌, true, take}
use Rattle.std.specs.List.{list_all}
use Rattle.vl_ast.specs.Conditions.{is_sound}
use Rattle.vl_check.specs.Scope.{nets_in}
use Rattle.vl_check.proofs.FormShapes.{lengths}
use Rattle.vl_check.proofs.shapes.+sound_shape.Given as goal

abbrev pub invariant-concat_shape-loop-part : goal.invariant-concat_shape-loop-part
invariant-concat_shape-loop-part l = record {
  sound : list_all (is_sound (nets_in l.scope)) (take l.part-index l.parts) ≡ true;
  length : l.length ≡ lengths (nets_in l.scope) (take l.part-index l.parts);
  few : l.length ≤ 128;
}
