use Rattle.std.proofs.Common.{map, take}
use Rattle.vl_ast.specs.Listing.{Holds}
use Rattle.vl_inner.specs.Names.{name_by}
use Rattle.vl_inner.specs.Renamed.{renamed}
use Rattle.vl_inner.proofs.renaming.+renaming.Given as goal

abbrev pub invariant-renamed_parts-loop-part : goal.invariant-renamed_parts-loop-part
invariant-renamed_parts-loop-part l = Holds l.out (map (renamed (name_by l.naming)) (take l.part-index l.parts))
