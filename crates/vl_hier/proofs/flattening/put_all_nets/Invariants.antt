use Rattle.std.proofs.Common.{flat_map, take}
use Rattle.vl_ast.specs.declared.designs.Instance.{Instance}
use Rattle.vl_ast.specs.Listing.{Lists}
use Rattle.vl_hier.specs.Flat.{nets_by}
use Rattle.vl_hier.specs.inner.Tables.{module_by}
use Rattle.vl_hier.proofs.flattening.put_all_nets.Given as goal

abbrev pub invariant-loop-one : goal.invariant-loop-one
invariant-loop-one l = Lists l.initial.out l.out (flat_map (λ (i : Instance). nets_by i.name (module_by l.modules i.of)) (take l.one-index l.all))
