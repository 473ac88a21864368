use Rattle.std.proofs.Common.{◌≡◌, true, List, take}
use Rattle.std.specs.List.{list_all}
use Rattle.vl_ast.specs.declared.modules.Module.{Module}
use Rattle.vl_hier.specs.inner.Tables.{AreTables}
use Rattle.vl_hier.specs.inner.Tests.{is_linked}
use Rattle.vl_hier.proofs.unlinked.first_among.Given as goal

abbrev pub invariant-loop-place : goal.invariant-loop-place
invariant-loop-place l = (below : List Module) (top : Module) → AreTables below top l.instances l.tables → list_all (is_linked l.instances below top) (take l.place l.instances) ≡ true
