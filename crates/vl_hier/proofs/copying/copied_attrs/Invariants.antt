use Rattle.std.proofs.Common.{map, take}
use Rattle.vl_ast.specs.declared.modules.Attr.{Attr}
use Rattle.vl_ast.specs.Listing.{Holds}
use Rattle.vl_hier.proofs.copying.copied_attrs.Given as goal

abbrev pub invariant-loop-attr : goal.invariant-loop-attr
invariant-loop-attr l = Holds l.out (map (λ (x : Attr). x) (take l.attr-index l.attrs))
