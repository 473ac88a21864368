use Rattle.std.proofs.Common.{◌≡◌, true, take}
use Rattle.std.specs.List.{list_all}
use Rattle.vl_ast.specs.Conditions.{is_width, is_sound_item}
use Rattle.vl_check.specs.Scope.{nets_in}
use Rattle.vl_check.proofs.widths.too_wide.Given as goal

abbrev pub invariant-loop-port : goal.invariant-loop-port
invariant-loop-port l = list_all (λ port. is_width port.width) (take l.port-index l.source.ports) ≡ true

abbrev pub invariant-loop-item : goal.invariant-loop-item
invariant-loop-item l = record {
  ports : list_all (λ port. is_width port.width) l.source.ports ≡ true;
  items : list_all (is_sound_item (nets_in l.scope)) (take l.item-index l.source.items) ≡ true;
}
