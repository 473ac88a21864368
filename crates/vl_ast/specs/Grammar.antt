-- The grammar of the subset: which tokens stand for a module, and which bytes spell it
-- (IEEE 1364-2005, annex A, of which the subset keeps these forms).
use Rattle.std.specs.Prelude.{◌≡◌, ◌≢◌, ◌⊎◌, ℕ, ◌+◌, ◌-◌, ◌<◌, ◌≤◌, max, fold, Bool, true, false, ◌&&◌, if◌then◌else◌, List, [], ◌∷◌, ◌++◌, map, flat_map, codes, Option, Some, None, ⊤}
use Rattle.std.specs.List.{AllZip, list_all}
use Rattle.vl_ast.specs.declared.expressions.Expr.{Expr}
use Rattle.vl_ast.specs.declared.expressions.Expr.TheOpen.{Expr-F}
use Rattle.vl_ast.specs.declared.expressions.Expr.TheFolds.{fold-Expr}
use Rattle.vl_ast.specs.declared.modules.Attr.{Attr}
use Rattle.vl_ast.specs.declared.modules.Port.{Port}
use Rattle.vl_ast.specs.declared.modules.ModItem.{ModItem}
use Rattle.vl_ast.specs.declared.modules.ModItem.TheVariants.{Wire, Reg, Assign, Always}
use Rattle.vl_ast.specs.declared.modules.Module.{Module}
use Rattle.vl_ast.specs.Spelling.{joined}
use Rattle.vl_ast.specs.Operators.{unary_text, binary_text, shift_text}
use Rattle.vl_ast.specs.Tokens.{Token, Key, Sign, Identifier, Number, Based, Lays}

-- the separating token
abbrev pub comma : List Token
comma = Sign (codes ",") ∷ []

-- expr = id | id "[" dec "]" | id "[" dec ":" dec "]" | sized
--      | "{" expr {"," expr} "}" | "{" dec "{" expr "}" "}"
--      | "$signed" "(" expr ")" | "$unsigned" "(" expr ")"
--      | "(" unop expr ")" | "(" expr binop expr ")"
--      | "(" expr shift sized ")" | "(" expr "?" expr ":" expr ")"
abbrev pub tokens_step : Expr-F (List Token) → List Token
tokens_step (Expr-F.Name name) = Identifier name ∷ []
tokens_step (Expr-F.Bit name place) =
    Identifier name ∷ Sign (codes "[") ∷ Number place ∷ Sign (codes "]") ∷ []
tokens_step (Expr-F.Part name high low) =
    Identifier name
    ∷ Sign (codes "[") ∷ Number high ∷ Sign (codes ":") ∷ Number low ∷ Sign (codes "]") ∷ []
tokens_step (Expr-F.Literal number) = Based number ∷ []
tokens_step (Expr-F.Concat parts) = Sign (codes "{") ∷ (joined comma parts ++ Sign (codes "}") ∷ [])
tokens_step (Expr-F.Repeat count part) =
    Sign (codes "{") ∷ Number count
    ∷ Sign (codes "{") ∷ (part ++ Sign (codes "}") ∷ Sign (codes "}") ∷ [])
tokens_step (Expr-F.AsSigned part) =
    Key (codes "$signed") ∷ Sign (codes "(") ∷ (part ++ Sign (codes ")") ∷ [])
tokens_step (Expr-F.AsUnsigned part) =
    Key (codes "$unsigned") ∷ Sign (codes "(") ∷ (part ++ Sign (codes ")") ∷ [])
tokens_step (Expr-F.Unary op part) =
    Sign (codes "(") ∷ Sign (unary_text op) ∷ (part ++ Sign (codes ")") ∷ [])
tokens_step (Expr-F.Binary op left right) =
    Sign (codes "(") ∷ (left ++ Sign (binary_text op) ∷ (right ++ Sign (codes ")") ∷ []))
tokens_step (Expr-F.Shift op part amount) =
    Sign (codes "(") ∷ (part ++ Sign (shift_text op) ∷ Based amount ∷ Sign (codes ")") ∷ [])
tokens_step (Expr-F.Choose test chosen other) =
    Sign (codes "(")
    ∷ (test ++ Sign (codes "?")
    ∷ (chosen ++ Sign (codes ":") ∷ (other ++ Sign (codes ")") ∷ [])))

-- the tokens of an expression
abbrev pub expr_tokens : Expr → List Token
expr_tokens = fold-Expr (List Token) tokens_step

-- `depth` by the form of an expression (own)
abbrev pub depth_step : Expr-F ℕ → ℕ
depth_step (Expr-F.Name name) = 0
depth_step (Expr-F.Bit name place) = 0
depth_step (Expr-F.Part name high low) = 0
depth_step (Expr-F.Literal number) = 0
depth_step (Expr-F.Concat parts) = fold max 0 parts + 1
depth_step (Expr-F.Repeat count part) = part + 1
depth_step (Expr-F.AsSigned part) = part + 1
depth_step (Expr-F.AsUnsigned part) = part + 1
depth_step (Expr-F.Unary op part) = part + 1
depth_step (Expr-F.Binary op left right) = max left right + 1
depth_step (Expr-F.Shift op part amount) = part + 1
depth_step (Expr-F.Choose test chosen other) = max test (max chosen other) + 1

-- how deep an expression nests; one without parts has depth 0
abbrev pub depth : Expr → ℕ
depth = fold-Expr ℕ depth_step

-- `is_filled` by the form of an expression (own)
abbrev pub is_filled_step : Expr-F Bool → Bool
is_filled_step (Expr-F.Name name) = true
is_filled_step (Expr-F.Bit name place) = true
is_filled_step (Expr-F.Part name high low) = true
is_filled_step (Expr-F.Literal number) = true
is_filled_step (Expr-F.Concat []) = false
is_filled_step (Expr-F.Concat (part ∷ parts)) = part && list_all (λ more. more) parts
is_filled_step (Expr-F.Repeat count part) = part
is_filled_step (Expr-F.AsSigned part) = part
is_filled_step (Expr-F.AsUnsigned part) = part
is_filled_step (Expr-F.Unary op part) = part
is_filled_step (Expr-F.Binary op left right) = left && right
is_filled_step (Expr-F.Shift op part amount) = part
is_filled_step (Expr-F.Choose test chosen other) = test && chosen && other

-- whether no concatenation is empty
abbrev pub is_filled : Expr → Bool
is_filled = fold-Expr Bool is_filled_step

-- an expression of the grammar nests at most 256 deep (own) and has no empty concatenation
abbrev pub IsExpr : Expr → Type 0
IsExpr e = (depth e ≤ 256) × (is_filled e ≡ true)

-- the tokens of one attribute
abbrev pub attr_tokens : Attr → List Token
attr_tokens attr = Identifier attr.name ∷ Sign (codes "=") ∷ Number attr.value ∷ []

-- attrs = "(*" id "=" dec {"," id "=" dec} "*)", or nothing
abbrev pub attrs_tokens : List Attr → List Token
attrs_tokens [] = []
attrs_tokens (attr ∷ attrs) =
    Sign (codes "(*") ∷ (joined comma (map attr_tokens (attr ∷ attrs)) ++ Sign (codes "*)") ∷ [])

-- `signed`, or nothing
abbrev pub signed_tokens : Bool → List Token
signed_tokens signed = if signed then Key (codes "signed") ∷ [] else []

-- range = "[" dec ":" "0" "]", which one bit may lack
abbrev pub IsRange : ℕ → List Token → Type 0
IsRange width tokens =
    ((width ≡ 1) × (tokens ≡ []))
    ⊎ ((0 < width)
    × (tokens
    ≡ Sign (codes "[") ∷ Number (width - 1) ∷ Sign (codes ":") ∷ Key (codes "0")
    ∷ Sign (codes "]") ∷ []))

-- a net's declaration, from its first word to its name
abbrev pub declaration_tokens : List Token → Bool → List Token → List ℕ → List Token
declaration_tokens words signed range name =
    words ++ (signed_tokens signed ++ (range ++ Identifier name ∷ []))

-- port = [attrs] ("input" | "output") "wire" ["signed"] [range] id
abbrev pub IsPortText : Port → List Token → Type 0
IsPortText port tokens =
    (range : List Token) × IsRange port.width range
    × (tokens ≡ attrs_tokens port.attrs
    ++ declaration_tokens
    (Key (if port.input then codes "input" else codes "output") ∷ Key (codes "wire") ∷ [])
    port.signed range port.name)

-- the tokens of the condition of a clocked item, or none
abbrev pub condition_tokens : Option Expr → List Token
condition_tokens None = []
condition_tokens (Some condition) =
    Key (codes "if") ∷ Sign (codes "(") ∷ (expr_tokens condition ++ Sign (codes ")") ∷ [])

-- the condition, where there is one, is an expression of the grammar
abbrev pub IsCondition : Option Expr → Type 0
IsCondition None = ⊤
IsCondition (Some condition) = IsExpr condition

-- item = "wire" ["signed"] [range] id ";"
--      | "reg" ["signed"] [range] id ";"
--      | "assign" id "=" expr ";"
--      | "always" "@" "(" "posedge" "clk" ")" "begin"
--          "if" "(" "reset" ")" id "<=" sized ";"
--          "else" ["if" "(" expr ")"] id "<=" expr ";" "end"
abbrev pub IsItemText : ModItem → List Token → Type 0
IsItemText (Wire signed width name) tokens =
    (range : List Token) × IsRange width range
    × (tokens ≡ declaration_tokens (Key (codes "wire") ∷ []) signed range name ++ Sign (codes ";")
    ∷ [])
IsItemText (Reg signed width name) tokens =
    (range : List Token) × IsRange width range
    × (tokens ≡ declaration_tokens (Key (codes "reg") ∷ []) signed range name ++ Sign (codes ";")
    ∷ [])
IsItemText (Assign name value) tokens =
    IsExpr value
    × (tokens ≡ Key (codes "assign") ∷ Identifier name ∷ Sign (codes "=")
    ∷ (expr_tokens value ++ Sign (codes ";") ∷ []))
IsItemText (Always name first condition value) tokens =
    IsCondition condition × IsExpr value
    × (tokens ≡ Key (codes "always") ∷ Sign (codes "@")
    ∷ Sign (codes "(") ∷ Key (codes "posedge") ∷ Key (codes "clk")
    ∷ Sign (codes ")") ∷ Key (codes "begin") ∷ Key (codes "if")
    ∷ Sign (codes "(") ∷ Key (codes "reset") ∷ Sign (codes ")")
    ∷ Identifier name ∷ Sign (codes "<=") ∷ Based first ∷ Sign (codes ";") ∷ Key (codes "else")
    ∷ (condition_tokens condition
    ++ Identifier name ∷ Sign (codes "<=")
    ∷ (expr_tokens value ++ Sign (codes ";") ∷ Key (codes "end") ∷ [])))

-- module = [attrs] "module" id "(" port {"," port} ")" ";" {item} "endmodule"
pub record IsModuleText (m : Module) (tokens : List Token) : Type 0 where
  pub ports : List (List Token)
  pub items : List (List Token)
  pub has_port : m.ports ≢ []
  pub each_port : AllZip IsPortText m.ports ports
  pub each_item : AllZip IsItemText m.items items
  pub text : tokens ≡ attrs_tokens m.attrs ++
      (Key (codes "module") ∷ Identifier m.name
      ∷ Sign (codes "(")
      ∷ (joined comma ports ++ (Sign (codes ")") ∷ Sign (codes ";")
      ∷ (flat_map (λ item. item) items ++ Key (codes "endmodule") ∷ []))))

-- the bytes are a text of the module
pub record Spells (bytes : List ℕ) (m : Module) : Type 0 where
  pub tokens : List Token
  pub grammar : IsModuleText m tokens
  pub layout : Lays false tokens bytes

-- how many items a module has at most that is read (own)
abbrev pub most_items : ℕ
most_items = 4000000
