use Rattle.std.proofs.Common.{codes, ap, sym, ◌∙◌}
use Rattle.vl_ast.specs.declared.modules.ModItem.TheVariants.{Wire, Reg, Assign, Always}
use Rattle.vl_ast.specs.Conditions.{item_name}
use Rattle.vl_ast.specs.Spelling.{condition_text, expr_text, item_text, range_text, signed_text, sized_text}
use Rattle.vl_write.proofs.Puts.{both, clocked-left, left5, net-left, puts-as}
use Rattle.vl_write.proofs.items.put_item.Goals as goal

pub returns-in-Wire : goal.returns-in-Wire
returns-in-Wire c =
    let name = c.name-name.ensures ∙ ap item_name c.in-Wire.is in
    puts-as (net-left (codes "wire ") (signed_text c.in-Wire.signed) (range_text c.in-Wire.width) c.name-name.result.now (codes ";\n")
    ∙ ap (λ xs. item_text (Wire c.in-Wire.signed c.in-Wire.width xs)) name ∙ ap item_text (sym c.in-Wire.is))
    (both c.put_net.ensures c.put.ensures)

pub returns-in-Reg : goal.returns-in-Reg
returns-in-Reg c =
    let name = c.name-name.ensures ∙ ap item_name c.in-Reg.is in
    puts-as (net-left (codes "reg ") (signed_text c.in-Reg.signed) (range_text c.in-Reg.width) c.name-name.result.now (codes ";\n")
    ∙ ap (λ xs. item_text (Reg c.in-Reg.signed c.in-Reg.width xs)) name ∙ ap item_text (sym c.in-Reg.is))
    (both c.put_net-in-Reg.ensures c.put-in-Reg.ensures)

pub returns-in-Assign : goal.returns-in-Assign
returns-in-Assign c =
    let name = c.name-name.ensures ∙ ap item_name c.in-Assign.is in
    puts-as (left5 (codes "assign ") c.name-name.result.now (codes " = ") (expr_text c.in-Assign.value) (codes ";\n")
    ∙ ap (λ xs. item_text (Assign xs c.in-Assign.value)) name ∙ ap item_text (sym c.in-Assign.is))
    (both c.put-in-Assign.ensures c.put_value.ensures)

pub returns-in-Always : goal.returns-in-Always
returns-in-Always c =
    let name = c.name-name.ensures ∙ ap item_name c.in-Always.is in
    puts-as
    (clocked-left (codes "always @ (posedge clk) begin if (reset) ") c.name-name.result.now
    (codes " <= ") (sized_text c.in-Always.first)
    (codes "; else ") (condition_text c.in-Always.condition) (expr_text c.in-Always.value) (codes "; end\n")
    ∙ ap (λ xs. item_text (Always xs c.in-Always.first c.in-Always.condition c.in-Always.value)) name ∙ ap item_text (sym c.in-Always.is))
    (both c.put-in-Always.ensures (both c.put-in-Always-2.ensures
    (both c.put-in-Always-3.ensures (both c.put_sized.ensures
    (both c.put-in-Always-4.ensures (both c.put_condition.ensures c.put_value-in-Always.ensures))))))
