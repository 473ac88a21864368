use Rattle.std.proofs.Common.{◌≡◌, bytes_eq, drop, find}
use Rattle.vl_ast.specs.declared.modules.Attr.{Attr}
use Rattle.vl_ast.proofs.attributes.attribute.Given as goal

abbrev pub invariant-loop-attr : goal.invariant-loop-attr
invariant-loop-attr l =
    find (λ (attr : Attr). bytes_eq attr.name l.name) (drop l.attr-index l.attrs) ≡ find (λ (attr : Attr). bytes_eq attr.name l.name) l.attrs
