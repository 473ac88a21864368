use Rattle.std.proofs.Common.{map, take}
use Rattle.vl_ast.specs.Listing.{Holds}
use Rattle.st_wrap.specs.inner.CoreNames.{renamed}
use Rattle.st_wrap.proofs.renaming.+renaming.Given as goal

abbrev pub invariant-renamed_parts-loop-part : goal.invariant-renamed_parts-loop-part
invariant-renamed_parts-loop-part l = Holds l.out (map renamed (take l.part-index l.parts))
