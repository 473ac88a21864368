-- The core's items and ports in the wrapper (own).
use Rattle.std.specs.Prelude.{ℕ, if◌then◌else◌, List, [], ◌∷◌, map, flat_map, Option, Some, None}
use Rattle.vl_ast.specs.declared.expressions.Expr.{Expr}
use Rattle.vl_ast.specs.declared.expressions.Expr.TheOpen.{Expr-F}
use Rattle.vl_ast.specs.declared.expressions.Expr.TheVariants.{Name, Bit, Part, Literal, Concat, Repeat, AsSigned, AsUnsigned, Unary, Binary, Shift, Choose}
use Rattle.vl_ast.specs.declared.expressions.Expr.TheFolds.{fold-Expr}
use Rattle.vl_ast.specs.declared.modules.ModItem.{ModItem}
use Rattle.vl_ast.specs.declared.modules.ModItem.TheVariants.{Wire, Reg, Assign, Always}
use Rattle.vl_ast.specs.declared.modules.Module.{Module}
use Rattle.vl_ast.specs.declared.modules.Port.{Port}
use Rattle.st_wrap.specs.inner.Names.{inner_name, is_shared}

-- `renamed` by the form of an expression
abbrev pub renamed_step : Expr-F Expr → Expr
renamed_step (Expr-F.Name name) = Name (inner_name name)
renamed_step (Expr-F.Bit name place) = Bit (inner_name name) place
renamed_step (Expr-F.Part name high low) = Part (inner_name name) high low
renamed_step (Expr-F.Literal number) = Literal number
renamed_step (Expr-F.Concat parts) = Concat parts
renamed_step (Expr-F.Repeat count part) = Repeat count part
renamed_step (Expr-F.AsSigned part) = AsSigned part
renamed_step (Expr-F.AsUnsigned part) = AsUnsigned part
renamed_step (Expr-F.Unary op part) = Unary op part
renamed_step (Expr-F.Binary op left right) = Binary op left right
renamed_step (Expr-F.Shift op part amount) = Shift op part amount
renamed_step (Expr-F.Choose test chosen other) = Choose test chosen other

-- an expression over the names that the core's have in the wrapper
abbrev pub renamed : Expr → Expr
renamed = fold-Expr Expr renamed_step

-- a bit or a part of another name, by the form of an expression, or else the name
abbrev pub with_name : Expr-F Expr → List ℕ → Expr
with_name (Expr-F.Bit old place) name = Bit name place
with_name (Expr-F.Part old high low) name = Part name high low
with_name other name = Name name

-- what the form of an expression makes of one operand, or else a cast without sign
abbrev pub with_part : Expr-F Expr → Expr → Expr
with_part (Expr-F.Repeat count old) part = Repeat count part
with_part (Expr-F.AsSigned old) part = AsSigned part
with_part (Expr-F.Unary op old) part = Unary op part
with_part (Expr-F.Shift op old amount) part = Shift op part amount
with_part other part = AsUnsigned part

-- the same of a condition
abbrev pub renamed_condition : Option Expr → Option Expr
renamed_condition None = None
renamed_condition (Some condition) = Some (renamed condition)

-- the same of an item
abbrev pub renamed_item : ModItem → ModItem
renamed_item (Wire signed width name) = Wire signed width (inner_name name)
renamed_item (Reg signed width name) = Reg signed width (inner_name name)
renamed_item (Assign name value) = Assign (inner_name name) (renamed value)
renamed_item (Always name first condition value) =
    Always (inner_name name) first (renamed_condition condition) (renamed value)

-- the wire of a port of the core; `clk` and `reset` are the wrapper's own
abbrev pub wires_for : Port → List ModItem
wires_for port =
    if is_shared port.name then [] else Wire port.signed port.width (inner_name port.name) ∷ []

-- the wires of all ports of the core
abbrev pub wires_of : Module → List ModItem
wires_of core = flat_map wires_for core.ports

-- the items of the core
abbrev pub core_items : Module → List ModItem
core_items core = map renamed_item core.items
