use Rattle.std.proofs.Common.{◌≡◌, ◌∙◌, ◌∷◌, [], IfOk, ℕ, List, ap, refl, subst, sym}
use Rattle.vl_ast.specs.declared.modules.ModItem.{ModItem}
use Rattle.vl_ast.specs.Conditions.{item_name}
use Rattle.vl_ast.proofs.Listings.{lists-as}
use Rattle.vl_inner.specs.Names.{name_by}
use Rattle.vl_inner.specs.Renamed.{renamed_item}
use Rattle.vl_inner.proofs.renaming.put_renamed.Goals as goal

pub returns-in-Wire : goal.returns-in-Wire
returns-in-Wire c =
    let name = subst (λ (text : List ℕ). IfOk c.name_by-name.result (λ made. made ≡ name_by c.args.naming text)) (c.name.ensures ∙ ap item_name c.in-Wire.is) c.name_by-name.ensures in
    lists-as (ap (λ (item : ModItem). renamed_item (name_by c.args.naming) item ∷ []) (sym c.in-Wire.is)) (c.put_declaration.ensures _ name)

pub returns-in-Reg : goal.returns-in-Reg
returns-in-Reg c =
    let name = subst (λ (text : List ℕ). IfOk c.name_by-name.result (λ made. made ≡ name_by c.args.naming text)) (c.name.ensures ∙ ap item_name c.in-Reg.is) c.name_by-name.ensures in
    lists-as (ap (λ (item : ModItem). renamed_item (name_by c.args.naming) item ∷ []) (sym c.in-Reg.is)) (c.put_declaration-in-Reg.ensures _ name)

pub returns-in-Assign : goal.returns-in-Assign
returns-in-Assign c =
    let name = subst (λ (text : List ℕ). IfOk c.name_by-name.result (λ made. made ≡ name_by c.args.naming text)) (c.name.ensures ∙ ap item_name c.in-Assign.is) c.name_by-name.ensures in
    lists-as (ap (λ (item : ModItem). renamed_item (name_by c.args.naming) item ∷ []) (sym c.in-Assign.is)) (c.put_assignment.ensures _ _ name c.renamed_expr.ensures)

pub returns-in-Always : goal.returns-in-Always
returns-in-Always c =
    let name = subst (λ (text : List ℕ). IfOk c.name_by-name.result (λ made. made ≡ name_by c.args.naming text)) (c.name.ensures ∙ ap item_name c.in-Always.is) c.name_by-name.ensures in
    lists-as (ap (λ (item : ModItem). renamed_item (name_by c.args.naming) item ∷ []) (sym c.in-Always.is))
    (c.put_clocked.ensures _ _ _ _ refl name c.renamed_condition.ensures c.renamed_expr-in-Always.ensures)
