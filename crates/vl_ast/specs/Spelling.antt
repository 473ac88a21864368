-- The one written text of a module: single spaces between tokens, numbers without leading zeros and
-- in base ten, each port, item and list of attributes on a line of its own (own; the tokens are
-- those of IEEE 1364-2005).
use Rattle.std.specs.Prelude.{ℕ, ◌-◌, ◌==◌, Bool, if◌then◌else◌, List, [], ◌∷◌, ◌++◌, map, Option, Some, None, codes}
use Rattle.std.specs.List.{flat_map}
use Rattle.std.specs.Fmt.{decimal}
use Rattle.vl_ast.specs.declared.expressions.Sized.{Sized}
use Rattle.vl_ast.specs.declared.expressions.Expr.{Expr}
use Rattle.vl_ast.specs.declared.expressions.Expr.TheOpen.{Expr-F}
use Rattle.vl_ast.specs.declared.expressions.Expr.TheFolds.{fold-Expr}
use Rattle.vl_ast.specs.declared.modules.Attr.{Attr}
use Rattle.vl_ast.specs.declared.modules.Port.{Port}
use Rattle.vl_ast.specs.declared.modules.ModItem.{ModItem}
use Rattle.vl_ast.specs.declared.modules.ModItem.TheVariants.{Wire, Reg, Assign, Always}
use Rattle.vl_ast.specs.declared.modules.Module.{Module}
use Rattle.vl_ast.specs.Operators.{unary_text, binary_text, shift_text}

-- the parts in order, with the separator between each two
abbrev pub joined : {A : Type 0} → List A → List (List A) → List A
joined separator [] = []
joined separator (part ∷ parts) = part ++ flat_map (λ more. separator ++ more) parts

-- a based number, as 16'sd7
abbrev pub sized_text : Sized → List ℕ
sized_text number =
    decimal number.width ++ codes "'" ++ (if number.signed then codes "s" else []) ++ codes "d"
    ++ decimal number.bits

-- an expression, where those of its operands are written already
abbrev pub expr_step : Expr-F (List ℕ) → List ℕ
expr_step (Expr-F.Name name) = name
expr_step (Expr-F.Bit name place) = name ++ codes " [" ++ decimal place ++ codes "]"
expr_step (Expr-F.Part name high low) =
    name ++ codes " [" ++ decimal high ++ codes ":" ++ decimal low ++ codes "]"
expr_step (Expr-F.Literal number) = sized_text number
expr_step (Expr-F.Concat parts) = codes "{" ++ joined (codes ", ") parts ++ codes "}"
expr_step (Expr-F.Repeat count part) =
    codes "{" ++ decimal count ++ codes " {" ++ part ++ codes "}}"
expr_step (Expr-F.AsSigned part) = codes "$signed (" ++ part ++ codes ")"
expr_step (Expr-F.AsUnsigned part) = codes "$unsigned (" ++ part ++ codes ")"
expr_step (Expr-F.Unary op part) = codes "(" ++ unary_text op ++ codes " " ++ part ++ codes ")"
expr_step (Expr-F.Binary op left right) =
    codes "(" ++ left ++ codes " " ++ binary_text op ++ codes " " ++ right ++ codes ")"
expr_step (Expr-F.Shift op part amount) =
    codes "(" ++ part ++ codes " " ++ shift_text op ++ codes " " ++ sized_text amount ++ codes ")"
expr_step (Expr-F.Choose test chosen other) =
    codes "(" ++ test ++ codes " ? " ++ chosen ++ codes " : " ++ other ++ codes ")"

-- the text of an expression
abbrev pub expr_text : Expr → List ℕ
expr_text = fold-Expr (List ℕ) expr_step

-- `signed` and a blank, or nothing
abbrev pub signed_text : Bool → List ℕ
signed_text signed = if signed then codes "signed " else []

-- one bit has no range
abbrev pub range_text : ℕ → List ℕ
range_text width = if width == 1 then [] else codes "[" ++ decimal (width - 1) ++ codes ":0] "

-- the text of one attribute
abbrev pub attr_text : Attr → List ℕ
attr_text attr = attr.name ++ codes " = " ++ decimal attr.value

-- a line of attributes, where there are some
abbrev pub attrs_text : List ℕ → List Attr → List ℕ
attrs_text indent [] = []
attrs_text indent (attr ∷ attrs) =
    indent ++ codes "(* " ++ joined (codes ", ") (map attr_text (attr ∷ attrs)) ++ codes " *)\n"

-- the text of a port
abbrev pub port_text : Port → List ℕ
port_text port =
    attrs_text (codes "  ") port.attrs
    ++ (if port.input then codes "  input wire " else codes "  output wire ")
    ++ signed_text port.signed ++ range_text port.width ++ port.name

-- the condition of a clocked item, with the blank after it
abbrev pub condition_text : Option Expr → List ℕ
condition_text None = []
condition_text (Some condition) = codes "if (" ++ expr_text condition ++ codes ") "

-- the line of an item
abbrev pub item_text : ModItem → List ℕ
item_text (Wire signed width name) =
    codes "wire " ++ signed_text signed ++ range_text width ++ name ++ codes ";\n"
item_text (Reg signed width name) =
    codes "reg " ++ signed_text signed ++ range_text width ++ name ++ codes ";\n"
item_text (Assign name value) =
    codes "assign " ++ name ++ codes " = " ++ expr_text value ++ codes ";\n"
item_text (Always name first condition value) =
    codes "always @ (posedge clk) begin if (reset) " ++ name ++ codes " <= " ++ sized_text first
    ++ codes "; else "
    ++ condition_text condition ++ name ++ codes " <= " ++ expr_text value ++ codes "; end\n"

-- the one written text of a module
abbrev pub spelling : Module → List ℕ
spelling m =
    attrs_text [] m.attrs ++ codes "module " ++ m.name
    ++ codes " (\n" ++ joined (codes ",\n") (map port_text m.ports)
    ++ codes "\n);\n" ++ flat_map item_text m.items ++ codes "endmodule\n"
