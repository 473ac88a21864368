-- What a module declares, and the names that its text declares, drives and reads, in the order of
-- the text (IEEE 1364-2005, 4.2, 6.1, 9.2.2 and 12.3).
use Rattle.std.specs.Prelude.{ℕ, Bool, true, false, ◌||◌, if◌then◌else◌, List, [], ◌∷◌, ◌++◌, map, flat_map, find, length, take_while, not, bytes_eq, codes, Option, Some, None}
use Rattle.vl_ast.specs.declared.expressions.Expr.{Expr}
use Rattle.vl_ast.specs.declared.expressions.Expr.TheOpen.{Expr-F}
use Rattle.vl_ast.specs.declared.expressions.Expr.TheFolds.{fold-Expr}
use Rattle.vl_ast.specs.declared.modules.Port.{Port}
use Rattle.vl_ast.specs.declared.modules.ModItem.{ModItem}
use Rattle.vl_ast.specs.declared.modules.ModItem.TheVariants.{Wire, Reg, Assign, Always}
use Rattle.vl_ast.specs.declared.modules.Module.{Module}
use Rattle.vl_ast.specs.Context.{Net}

-- input, output, wire or register
pub data Kind : Type 0 where
  InputPort : Kind
  OutputPort : Kind
  PlainWire : Kind
  Register : Kind

-- a declared name with its kind and net
pub record Declared : Type 0 where
  pub name : List ℕ
  pub kind : Kind
  pub net : Net

-- what a port declares
abbrev pub port_declared : Port → Declared
port_declared port =
    record { name = port.name; kind = if port.input then InputPort else OutputPort; net = record { width = port.width; signed = port.signed } }

-- one place of a net's name in the text
pub data Mention : Type 0 where
  Declares : Declared → Mention
  Drives : (clocked : Bool) → List ℕ → Mention
  Reads : List ℕ → Mention
  -- the `clk` and the `reset` of a clocked item
  Clocks : Mention

-- `names_read` by the form of an expression
abbrev pub names_step : Expr-F (List (List ℕ)) → List (List ℕ)
names_step (Expr-F.Name name) = name ∷ []
names_step (Expr-F.Bit name place) = name ∷ []
names_step (Expr-F.Part name high low) = name ∷ []
names_step (Expr-F.Literal number) = []
names_step (Expr-F.Concat parts) = flat_map (λ part. part) parts
names_step (Expr-F.Repeat count part) = part
names_step (Expr-F.AsSigned part) = part
names_step (Expr-F.AsUnsigned part) = part
names_step (Expr-F.Unary op part) = part
names_step (Expr-F.Binary op left right) = left ++ right
names_step (Expr-F.Shift op part amount) = part
names_step (Expr-F.Choose test chosen other) = test ++ (chosen ++ other)

-- the names that an expression reads, from the left
abbrev pub names_read : Expr → List (List ℕ)
names_read = fold-Expr (List (List ℕ)) names_step

-- the names that a condition reads
abbrev pub condition_names : Option Expr → List (List ℕ)
condition_names None = []
condition_names (Some condition) = names_read condition

-- the places of names in an item
abbrev pub item_mentions : ModItem → List Mention
item_mentions (Wire signed width name) =
    Declares (record { name = name; kind = PlainWire; net = record { width = width; signed = signed } }) ∷ []
item_mentions (Reg signed width name) =
    Declares (record { name = name; kind = Register; net = record { width = width; signed = signed } }) ∷ []
item_mentions (Assign name value) = Drives false name ∷ map Reads (names_read value)
item_mentions (Always name first condition value) =
    Clocks ∷ Drives true name ∷ map Reads (condition_names condition ++ names_read value)

-- the places of names in a module, in the order of the text
abbrev pub mentions : Module → List Mention
mentions m = map (λ port. Declares (port_declared port)) m.ports ++ flat_map item_mentions m.items

-- what a place declares
abbrev pub declared_by : Mention → List Declared
declared_by (Declares declared) = declared ∷ []
declared_by (Drives clocked name) = []
declared_by (Reads name) = []
declared_by Clocks = []

-- what a module declares, in the order of the text
abbrev pub declarations : Module → List Declared
declarations m = flat_map declared_by (mentions m)

-- the first declaration of a name
abbrev pub declaration_of : Module → List ℕ → Option Declared
declaration_of m name = find (λ declared. bytes_eq declared.name name) (declarations m)

-- the net of a declaration, and no bits without one
abbrev pub net_or_none : Option Declared → Net
net_or_none None = record { width = 0; signed = false }
net_or_none (Some declared) = declared.net

-- the width and the sign that a module gives a name; one that it doesn't declare has no bits
abbrev pub nets_of : Module → List ℕ → Net
nets_of m name = net_or_none (declaration_of m name)

-- whether a name stands there
abbrev pub is_mention_of : List ℕ → Mention → Bool
is_mention_of name (Declares declared) = bytes_eq declared.name name
is_mention_of name (Drives clocked driven) = bytes_eq driven name
is_mention_of name (Reads read) = bytes_eq read name
is_mention_of name Clocks = bytes_eq (codes "clk") name || bytes_eq (codes "reset") name

-- how many places of names stand before the first of this one
abbrev pub place_of : Module → List ℕ → ℕ
place_of m name = length (take_while (λ mention. not (is_mention_of name mention)) (mentions m))
