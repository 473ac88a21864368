-- The states of the plain reading: the module so far, and where in a module the reading is with
-- what was read for that place (own).
use Prim.Native.Char.{code}
use Rattle.std.specs.Prelude.{ℕ, Bool, List, Option}
use Rattle.vl_ast.specs.declared.expressions.ShiftOp.{ShiftOp}
use Rattle.vl_ast.specs.declared.expressions.Sized.{Sized}
use Rattle.vl_ast.specs.declared.expressions.Expr.{Expr}
use Rattle.vl_ast.specs.declared.modules.Attr.{Attr}
use Rattle.vl_ast.specs.declared.modules.ModItem.{ModItem}
use Rattle.vl_read.specs.declared.places.Frame.{Frame}
use Rattle.vl_read.specs.declared.places.Bracket.{Bracket}
use Rattle.vl_read.specs.declared.places.Bracket.TheVariants.{OpenParenthesis, OpenBrace, CloseParenthesis, CloseBrace, CloseBracket}
use Rattle.vl_read.specs.declared.places.NetSpot.{NetSpot}
use Rattle.vl_read.specs.declared.places.HeadSpot.{HeadSpot}
use Rattle.vl_read.specs.declared.places.Draft.{Draft}

-- the byte of a mark
abbrev pub bracket_byte : Bracket → ℕ
bracket_byte OpenParenthesis = code "("
bracket_byte OpenBrace = code "{"
bracket_byte CloseParenthesis = code ")"
bracket_byte CloseBrace = code "}"
bracket_byte CloseBracket = code "]"

-- where in an expression the reading is
pub data Spot : Type 0 where
  -- an operand begins
  Operand : Spot
  -- after `(`
  Opened : Spot
  -- after `{`
  Braced : Spot
  -- this mark is next, and then an operand begins
  Begins : Bracket → Spot
  -- an operand was read
  Value : Expr → Spot
  -- this mark is next, and then the operand was read
  Ends : Expr → Bracket → Spot
  -- the amount of a shift is next
  Amount : ShiftOp → Expr → Spot
  -- after a name and `[`
  Index : List ℕ → Spot
  -- after a name, `[` and a number
  High : List ℕ → ℕ → Spot
  -- after a name, `[`, a number and `:`
  Low : List ℕ → ℕ → Spot

-- the head of an item with a clock: its name, the value at a reset, and the condition if there is
-- one
pub record Clocked : Type 0 where
  pub name : List ℕ
  pub first : Sized
  pub condition : Option Expr

-- what an expression is read for
pub data Goal : Type 0 where
  -- the value of an assignment
  Assigned : List ℕ → Goal
  -- the condition of an item with a clock
  Condition : List ℕ → Sized → Goal
  -- the value of an item with a clock
  Next : Clocked → Goal

-- whose declaration is read
pub data NetKind : Type 0 where
  OfPort : List Attr → Bool → NetKind
  -- a register, or else a wire
  OfItem : Bool → NetKind

-- where in a list of attributes the reading is
pub data AttrSpot : Type 0 where
  -- a name is next
  AttrName : AttrSpot
  -- `=` is next
  AttrSign : List ℕ → AttrSpot
  -- a number is next
  AttrValue : List ℕ → AttrSpot
  -- `,` or `*)` is next
  More : AttrSpot

-- where in a module the reading is
pub data Place : Type 0 where
  -- the module's attributes, where there are none yet, or `module` is next
  Start : Place
  -- in the attributes of a port, or else of the module
  Attributes : Bool → List Attr → AttrSpot → Place
  -- the module's name is next
  Title : Place
  -- `(` is next
  Ports : Place
  -- the port's attributes, where there are none yet, or its direction is next
  Port : List Attr → Place
  -- in a declaration
  Net : NetKind → NetSpot → Place
  -- `,` or `)` is next
  AfterPort : Place
  -- `;` is next, and then the items
  AfterPorts : Place
  -- an item or `endmodule` is next
  Items : Place
  -- after `assign`
  AssignName : Place
  -- `=` is next
  AssignSign : List ℕ → Place
  -- in the head of an item with a clock
  Head : HeadSpot → Place
  -- the name of an item with a clock is next
  ClockedName : Place
  -- `<=` is next
  ClockedSign : List ℕ → Place
  -- the value at a reset is next
  First : List ℕ → Place
  -- `;` is next
  AfterFirst : List ℕ → Sized → Place
  -- `else` is next
  Else : List ℕ → Sized → Place
  -- `if` or the name again is next
  Branch : List ℕ → Sized → Place
  -- `(` is next
  If : List ℕ → Sized → Place
  -- the name again is next
  Again : Clocked → Place
  -- `<=` is next, and then the value
  NextSign : Clocked → Place
  -- in an expression
  Expression : Goal → List Frame → Spot → Place
  -- `;` is next, which ends the item
  Semicolon : ModItem → Place
  -- `end` is next, which ends the item
  End : ModItem → Place
  -- the module is read
  Done : Place

-- what the lexemes so far say
pub record Parser : Type 0 where
  pub draft : Draft
  pub place : Place
