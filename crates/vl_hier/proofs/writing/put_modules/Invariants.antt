use Rattle.std.proofs.Common.{◌≡◌, ◌++◌, flat_map, take}
use Rattle.vl_ast.specs.Spelling.{spelling}
use Rattle.vl_hier.proofs.writing.put_modules.Given as goal

abbrev pub invariant-loop-one : goal.invariant-loop-one
invariant-loop-one g l = l.out.items ≡ l.initial.out.items ++ flat_map spelling (take l.one-index l.modules)
