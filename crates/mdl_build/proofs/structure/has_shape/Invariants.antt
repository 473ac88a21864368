use Rattle.std.proofs.Common.{◌≡◌, ◌+◌, ◌≤◌, ◌==◌, drop}
use Rattle.std.specs.Prelude.{count_by}
use Rattle.std.specs.List.{list_all}
use Rattle.mdl_build.specs.Rules.{is_model, is_system, is_shallow}
use Rattle.mdl_build.proofs.structure.has_shape.Given as goal

abbrev pub invariant-loop-role : goal.invariant-loop-role
invariant-loop-role l = record {
  models : l.models + count_by is_model (drop l.role-index l.roles) ≡ count_by is_model l.roles;
  firsts : l.firsts + count_by (is_system (λ level. level == 1)) (drop l.role-index l.roles) ≡ count_by (is_system (λ level. level == 1)) l.roles;
  shallow : list_all is_shallow (drop l.role-index l.roles) ≡ list_all is_shallow l.roles;
  few_models : l.models ≤ l.role-index;
  few_firsts : l.firsts ≤ l.role-index;
}
