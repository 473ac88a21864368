use Rattle.std.proofs.Common.{map, take}
use Rattle.vl_ast.specs.Listing.{Lists}
use Rattle.st_wrap.specs.inner.CoreNames.{renamed_item}
use Rattle.st_wrap.proofs.renaming.put_core.Given as goal

abbrev pub invariant-loop-item : goal.invariant-loop-item
invariant-loop-item l = Lists l.initial.out l.out (map renamed_item (take l.item-index l.core.items))
