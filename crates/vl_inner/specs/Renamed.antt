-- Expressions and items whose names are exchanged for others (own).
use Rattle.std.specs.Prelude.{ℕ, List, map, Option, Some, None}
use Rattle.vl_ast.specs.declared.expressions.Expr.{Expr}
use Rattle.vl_ast.specs.declared.expressions.Expr.TheOpen.{Expr-F}
use Rattle.vl_ast.specs.declared.expressions.Expr.TheVariants.{Name, Bit, Part, Literal, Concat, Repeat, AsSigned, AsUnsigned, Unary, Binary, Shift, Choose}
use Rattle.vl_ast.specs.declared.expressions.Expr.TheFolds.{fold-Expr}
use Rattle.vl_ast.specs.declared.modules.ModItem.{ModItem}
use Rattle.vl_ast.specs.declared.modules.ModItem.TheVariants.{Wire, Reg, Assign, Always}

-- how names are exchanged
abbrev pub Renaming : Type 0
Renaming = List ℕ → List ℕ

-- `renamed` by the form of an expression
abbrev pub renamed_step : Renaming → Expr-F Expr → Expr
renamed_step rename (Expr-F.Name name) = Name (rename name)
renamed_step rename (Expr-F.Bit name place) = Bit (rename name) place
renamed_step rename (Expr-F.Part name high low) = Part (rename name) high low
renamed_step rename (Expr-F.Literal number) = Literal number
renamed_step rename (Expr-F.Concat parts) = Concat parts
renamed_step rename (Expr-F.Repeat count part) = Repeat count part
renamed_step rename (Expr-F.AsSigned part) = AsSigned part
renamed_step rename (Expr-F.AsUnsigned part) = AsUnsigned part
renamed_step rename (Expr-F.Unary op part) = Unary op part
renamed_step rename (Expr-F.Binary op left right) = Binary op left right
renamed_step rename (Expr-F.Shift op part amount) = Shift op part amount
renamed_step rename (Expr-F.Choose test chosen other) = Choose test chosen other

-- an expression over other names
abbrev pub renamed : Renaming → Expr → Expr
renamed rename = fold-Expr Expr (renamed_step rename)

-- the same of a condition
abbrev pub renamed_condition : Renaming → Option Expr → Option Expr
renamed_condition rename None = None
renamed_condition rename (Some condition) = Some (renamed rename condition)

-- the same of an item
abbrev pub renamed_item : Renaming → ModItem → ModItem
renamed_item rename (Wire signed width name) = Wire signed width (rename name)
renamed_item rename (Reg signed width name) = Reg signed width (rename name)
renamed_item rename (Assign name value) = Assign (rename name) (renamed rename value)
renamed_item rename (Always name first condition value) =
    Always (rename name) first (renamed_condition rename condition) (renamed rename value)

-- a bit or a part of another name, by the form of an expression, or else the name
abbrev pub with_name : Expr-F Expr → List ℕ → Expr
with_name (Expr-F.Bit old place) name = Bit name place
with_name (Expr-F.Part old high low) name = Part name high low
with_name other name = Name name

-- what the form of an expression makes of one operand, or else a cast without sign
abbrev pub with_part : Expr-F Expr → Expr → Expr
with_part (Expr-F.Repeat count old) part = Repeat count part
with_part (Expr-F.AsSigned old) part = AsSigned part
with_part (Expr-F.Unary op old) part = Unary op part
with_part (Expr-F.Shift op old amount) part = Shift op part amount
with_part other part = AsUnsigned part
