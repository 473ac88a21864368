use Rattle.std.proofs.Common.{◌∷◌, [], true, false, ap, map, sym, ◌∙◌}
use Rattle.std.proofs.lemmas.List.{map-append}
use Rattle.vl_ast.specs.Nets.{Clocks, Declares, Drives, PlainWire, Reads, Register, condition_names, item_mentions, names_read}
use Rattle.vl_check.specs.inner.Mentions.{net_declared}
use Rattle.vl_check.proofs.ExpressionNames.{both, puts-as}
use Rattle.vl_check.proofs.mentions.push_item.Goals as goal

pub returns-in-Wire : goal.returns-in-Wire
returns-in-Wire c =
    puts-as ((λ i. Declares (net_declared PlainWire (c.bytes.ensures i) c.in-Wire.width c.in-Wire.signed) ∷ []) ∙ ap item_mentions (sym c.in-Wire.is)) c.push_net.ensures

pub returns-in-Reg : goal.returns-in-Reg
returns-in-Reg c =
    puts-as ((λ i. Declares (net_declared Register (c.bytes-in-Reg.ensures i) c.in-Reg.width c.in-Reg.signed) ∷ []) ∙ ap item_mentions (sym c.in-Reg.is)) c.push_net-in-Reg.ensures

pub returns-in-Assign : goal.returns-in-Assign
returns-in-Assign c =
    puts-as ((λ i. Drives false (c.bytes-in-Assign.ensures i) ∷ map Reads (names_read c.in-Assign.value)) ∙ ap item_mentions (sym c.in-Assign.is))
    (both c.push_driven.ensures c.push_names.ensures)

pub returns-in-Always : goal.returns-in-Always
returns-in-Always c =
    puts-as
    ((λ i. Clocks ∷ Drives true (c.bytes-in-Always.ensures i)
    ∷ sym (map-append Reads (condition_names c.in-Always.condition) (names_read c.in-Always.value)) i)
    ∙ ap item_mentions (sym c.in-Always.is))
    (both c.push.ensures (both c.push_driven-in-Always.ensures (both c.push_condition.ensures c.push_names-in-Always.ensures)))
