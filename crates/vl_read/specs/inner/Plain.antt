-- The plain reading: what each lexeme makes of what was read before it. It goes one lexeme after
-- another, with the expressions that are begun on a list, the innermost last (IEEE 1364-2005, annex
-- A, as a plain reading).
use Prim.Native.Char.{code}
use Rattle.std.specs.Prelude.{ℕ, ◌+◌, nat_lt, Bool, true, false, ◌&&◌, if◌then◌else◌, List, [], ◌∷◌, ◌++◌, length, bytes_eq, codes, Option, Some, None, option_and_then}
use Rattle.vl_ast.specs.declared.expressions.UnOp.{UnOp}
use Rattle.vl_ast.specs.declared.expressions.BinOp.{BinOp}
use Rattle.vl_ast.specs.declared.expressions.ShiftOp.{ShiftOp}
use Rattle.vl_ast.specs.declared.expressions.Expr.{Expr}
use Rattle.vl_ast.specs.declared.expressions.Expr.TheOpen.{Expr-F}
use Rattle.vl_ast.specs.declared.expressions.Expr.TheViews.{roll-Expr, out-Expr}
use Rattle.vl_ast.specs.declared.modules.Attr.{Attr}
use Rattle.vl_ast.specs.declared.modules.ModItem.{ModItem}
use Rattle.vl_ast.specs.declared.modules.ModItem.TheVariants.{Wire, Reg, Assign, Always}
use Rattle.vl_ast.specs.Operators.{unary_of, infix_of, shift_of}
use Rattle.vl_ast.specs.Tokens.{Token, Key, Sign}
use Rattle.vl_ast.specs.declared.modules.Module.{Module}
use Rattle.vl_read.specs.declared.scan.Kind.{Kind}
use Rattle.vl_read.specs.declared.scan.Kind.TheVariants.{Name, Count, Constant, Fixed}
use Rattle.vl_read.specs.declared.places.Frame.{Frame}
use Rattle.vl_read.specs.declared.places.Frame.TheVariants.{InConcat, InRepeat, InCast, InUnary, InLeft, InRight, InChosen, InOther}
use Rattle.vl_read.specs.declared.places.Bracket.TheVariants.{OpenParenthesis, OpenBrace, CloseParenthesis, CloseBrace, CloseBracket}
use Rattle.vl_read.specs.inner.Places.{Spot, Clocked, Goal, NetKind, AttrSpot, Place, Parser, bracket_byte}
use Rattle.vl_read.specs.inner.Places.Spot.{Operand, Opened, Braced, Begins, Value, Ends, Amount, Index, High, Low}
use Rattle.vl_read.specs.inner.Places.Goal.{Assigned, Condition, Next}
use Rattle.vl_read.specs.inner.Places.NetKind.{OfPort, OfItem}
use Rattle.vl_read.specs.declared.places.NetSpot.{NetSpot}
use Rattle.vl_read.specs.declared.places.NetSpot.TheVariants.{Word, Signed, Ranged, Bound, Colon, Zero, Close, Named}
use Rattle.vl_read.specs.declared.places.HeadSpot.{HeadSpot}
use Rattle.vl_read.specs.declared.places.HeadSpot.TheVariants.{Event, OpenEvent, Posedge, Clock, CloseEvent, Begin, Test, OpenTest, Reset, CloseTest}
use Rattle.vl_read.specs.inner.Places.AttrSpot.{AttrName, AttrSign, AttrValue, More}
use Rattle.vl_read.specs.inner.Places.Place.{Start, Attributes, Title, Ports, Port as PortPlace, Net, AfterPort, AfterPorts, Items, AssignName, AssignSign, Head, ClockedName, ClockedSign, First, AfterFirst, Else, Branch, If, Again, NextSign, Expression, Semicolon, End, Done}
use Rattle.vl_read.specs.declared.places.Draft.{Draft}
use Rattle.vl_read.specs.declared.scan.Mode.TheVariants.{Between}
use Rattle.vl_read.specs.inner.LexemeSteps.{parser_at, goes, expect, on_name, on_number, on_based}
use Rattle.vl_read.specs.inner.Lexemes.{kind_of, lexemes_from}

-- the next lexeme in a list of attributes
unfoldable pub attr_step : Draft → Bool → List Attr → AttrSpot → Kind → List ℕ → Option Parser
attr_step draft of_port attrs AttrName kind lexeme =
    on_name kind (goes draft (Attributes of_port attrs (AttrSign lexeme))) None
attr_step draft of_port attrs (AttrSign name) kind lexeme =
    expect (codes "=") lexeme draft (Attributes of_port attrs (AttrValue name))
attr_step draft of_port attrs (AttrValue name) kind lexeme =
    on_number kind
    (λ number. goes draft
    (Attributes of_port (attrs ++ record { name = name; value = number } ∷ []) More))
attr_step draft of_port attrs More kind lexeme =
    if bytes_eq lexeme (codes ",") then goes draft (Attributes of_port attrs AttrName)
    else (if of_port then expect (codes "*)") lexeme draft (PortPlace attrs)
    else expect (codes "*)") lexeme (record draft { attrs = attrs }) Start)

-- no attributes
abbrev pub has_none : List Attr → Bool
has_none [] = true
has_none (attr ∷ attrs) = false

-- a register, or else a wire
abbrev pub net_item : Bool → Bool → ℕ → List ℕ → ModItem
net_item true signed width name = Reg signed width name
net_item false signed width name = Wire signed width name

-- a port, a wire or a register is declared
unfoldable pub declared : Draft → NetKind → Bool → ℕ → List ℕ → Option Parser
declared draft (OfPort attrs input) signed width name =
    goes (record draft {
      ports = draft.ports
          ++ record { attrs = attrs; input = input; signed = signed; width = width; name = name }
          ∷ [];
    }) AfterPort
declared draft (OfItem is_reg) signed width name =
    goes draft (Semicolon (net_item is_reg signed width name))

-- the next lexeme in a declaration
unfoldable pub net_step : Draft → NetKind → NetSpot → Kind → List ℕ → Option Parser
net_step draft net Word kind lexeme = expect (codes "wire") lexeme draft (Net net Signed)
net_step draft net Signed kind lexeme =
    on_name kind (declared draft net false 1 lexeme)
    (if bytes_eq lexeme (codes "signed") then goes draft (Net net (Ranged true))
    else expect (codes "[") lexeme draft (Net net (Bound false)))
net_step draft net (Ranged signed) kind lexeme =
    on_name kind (declared draft net signed 1 lexeme)
    (expect (codes "[") lexeme draft (Net net (Bound signed)))
net_step draft net (Bound signed) kind lexeme =
    on_number kind (λ number. goes draft (Net net (Colon signed (number + 1))))
net_step draft net (Colon signed width) kind lexeme =
    expect (codes ":") lexeme draft (Net net (Zero signed width))
net_step draft net (Zero signed width) kind lexeme =
    expect (codes "0") lexeme draft (Net net (Close signed width))
net_step draft net (Close signed width) kind lexeme =
    expect (codes "]") lexeme draft (Net net (Named signed width))
net_step draft net (Named signed width) kind lexeme =
    on_name kind (declared draft net signed width lexeme) None

-- on to a place in an expression
abbrev pub spot_at : Draft → Goal → List Frame → Spot → Option Parser
spot_at draft goal frames spot = goes draft (Expression goal frames spot)

-- the lexeme is this mark, and then a place in an expression is next
abbrev pub expect_spot : ℕ → List ℕ → Draft → Goal → List Frame → Spot → Option Parser
expect_spot byte lexeme draft goal frames spot =
    expect (byte ∷ []) lexeme draft (Expression goal frames spot)

-- expressions nest at most 256 deep
abbrev pub has_room : List Frame → Bool
has_room frames = nat_lt (length frames) 256

-- an operand that is no name and no number
unfoldable pub compound_step : Draft → Goal → List Frame → List ℕ → Option Parser
compound_step draft goal frames lexeme =
    if has_room frames
    then (if bytes_eq lexeme (codes "(") then spot_at draft goal frames Opened
    else (if bytes_eq lexeme (codes "{") then spot_at draft goal frames Braced
    else (if bytes_eq lexeme (codes "$signed")
    then spot_at draft goal (frames ++ InCast true ∷ []) (Begins OpenParenthesis)
    else (if bytes_eq lexeme (codes "$unsigned")
    then spot_at draft goal (frames ++ InCast false ∷ []) (Begins OpenParenthesis)
    else None))))
    else None

-- the first lexeme of an operand
unfoldable pub operand_step : Draft → Goal → List Frame → Kind → List ℕ → Option Parser
operand_step draft goal frames Name lexeme =
    spot_at draft goal frames (Value (roll-Expr (Expr-F.Name lexeme)))
operand_step draft goal frames (Count number) lexeme = None
operand_step draft goal frames (Constant number) lexeme =
    spot_at draft goal frames (Value (roll-Expr (Expr-F.Literal number)))
operand_step draft goal frames Fixed lexeme = compound_step draft goal frames lexeme

-- an operator or a first operand, after `(`
unfoldable pub unary_or_left : Draft → Goal → List Frame → Option UnOp → List ℕ → Option Parser
unary_or_left draft goal frames (Some op) lexeme =
    spot_at draft goal (frames ++ InUnary op ∷ []) Operand
unary_or_left draft goal frames None lexeme =
    compound_step draft goal (frames ++ InLeft ∷ []) lexeme

-- after `(`
unfoldable pub opened_step : Draft → Goal → List Frame → Kind → List ℕ → Option Parser
opened_step draft goal frames Name lexeme =
    operand_step draft goal (frames ++ InLeft ∷ []) Name lexeme
opened_step draft goal frames (Count number) lexeme = None
opened_step draft goal frames (Constant number) lexeme =
    operand_step draft goal (frames ++ InLeft ∷ []) (Constant number) lexeme
opened_step draft goal frames Fixed lexeme =
    unary_or_left draft goal frames (unary_of lexeme) lexeme

-- after `{`
unfoldable pub braced_step : Draft → Goal → List Frame → Kind → List ℕ → Option Parser
braced_step draft goal frames Name lexeme =
    operand_step draft goal (frames ++ InConcat [] ∷ []) Name lexeme
braced_step draft goal frames (Count number) lexeme =
    spot_at draft goal (frames ++ InRepeat number ∷ []) (Begins OpenBrace)
braced_step draft goal frames (Constant number) lexeme =
    operand_step draft goal (frames ++ InConcat [] ∷ []) (Constant number) lexeme
braced_step draft goal frames Fixed lexeme =
    compound_step draft goal (frames ++ InConcat [] ∷ []) lexeme

-- the innermost frame, and those around it, from those further in
abbrev pub innermost_of : Frame → Option (List Frame × Frame) → Option (List Frame × Frame)
innermost_of frame None = Some ([], frame)
innermost_of frame (Some parts) = Some (frame ∷ parts.0, parts.1)

-- the innermost frame of a list, and those around it
abbrev pub innermost : List Frame → Option (List Frame × Frame)
innermost [] = None
innermost (frame ∷ frames) = innermost_of frame (innermost frames)

-- an operator after the first operand of what is in parentheses
abbrev pub left_by : Draft → Goal → List Frame → Expr → Option BinOp → Option ShiftOp
    → Option Parser
left_by draft goal outer value (Some op) shift =
    spot_at draft goal (outer ++ InRight op value ∷ []) Operand
left_by draft goal outer value None (Some op) = spot_at draft goal outer (Amount op value)
left_by draft goal outer value None None = None

-- what follows the first operand in parentheses
unfoldable pub left_step : Draft → Goal → List Frame → Expr → List ℕ → Option Parser
left_step draft goal outer value lexeme =
    if bytes_eq lexeme (codes "?") then spot_at draft goal (outer ++ InChosen value ∷ []) Operand
    else left_by draft goal outer value (infix_of lexeme) (shift_of lexeme)

-- after an operand in a frame
unfoldable pub frame_step : Draft → Goal → List Frame → Frame → Expr → List ℕ → Option Parser
frame_step draft goal outer (InConcat parts) value lexeme =
    if bytes_eq lexeme (codes ",")
    then spot_at draft goal (outer ++ InConcat (parts ++ value ∷ []) ∷ []) Operand
    else expect_spot (code "}") lexeme draft goal outer
    (Value (roll-Expr (Expr-F.Concat (parts ++ value ∷ []))))
frame_step draft goal outer (InRepeat count) value lexeme =
    expect_spot (code "}") lexeme draft goal outer
    (Ends (roll-Expr (Expr-F.Repeat count value)) CloseBrace)
frame_step draft goal outer (InCast signed) value lexeme =
    expect_spot (code ")") lexeme draft goal outer
    (Value (if signed then roll-Expr (Expr-F.AsSigned value)
    else roll-Expr (Expr-F.AsUnsigned value)))
frame_step draft goal outer (InUnary op) value lexeme =
    expect_spot (code ")") lexeme draft goal outer (Value (roll-Expr (Expr-F.Unary op value)))
frame_step draft goal outer InLeft value lexeme = left_step draft goal outer value lexeme
frame_step draft goal outer (InRight op left) value lexeme =
    expect_spot (code ")") lexeme draft goal outer (Value (roll-Expr (Expr-F.Binary op left value)))
frame_step draft goal outer (InChosen test) value lexeme =
    expect_spot (code ":") lexeme draft goal (outer ++ InOther test value ∷ []) Operand
frame_step draft goal outer (InOther test chosen) value lexeme =
    expect_spot (code ")") lexeme draft goal outer
    (Value (roll-Expr (Expr-F.Choose test chosen value)))

-- after an expression that is in no other
unfoldable pub goal_step : Draft → Goal → Expr → List ℕ → Option Parser
goal_step draft (Assigned name) value lexeme =
    expect (codes ";") lexeme (record draft { items = draft.items ++ Assign name value ∷ [] }) Items
goal_step draft (Condition name first) value lexeme =
    expect (codes ")") lexeme draft
    (Again (record { name = name; first = first; condition = Some value }))
goal_step draft (Next clocked) value lexeme =
    expect (codes ";") lexeme draft
    (End (Always clocked.name clocked.first clocked.condition value))

-- the lexeme after an operand
abbrev pub value_step : Draft → Goal → Option (List Frame × Frame) → Expr → List ℕ → Option Parser
value_step draft goal None value lexeme = goal_step draft goal value lexeme
value_step draft goal (Some parts) value lexeme = frame_step draft goal parts.0 parts.1 value lexeme

-- the name that an expression is
abbrev pub name_of : Expr-F Expr → Option (List ℕ)
name_of (Expr-F.Name name) = Some name
name_of layer = None

-- `[` after a name
abbrev pub indexed : Draft → Goal → List Frame → Option (List ℕ) → Option Parser
indexed draft goal frames None = None
indexed draft goal frames (Some name) = spot_at draft goal frames (Index name)

-- the next lexeme in an expression
unfoldable pub spot_step : Draft → Goal → List Frame → Spot → Kind → List ℕ → Option Parser
spot_step draft goal frames Operand kind lexeme = operand_step draft goal frames kind lexeme
spot_step draft goal frames Opened kind lexeme = opened_step draft goal frames kind lexeme
spot_step draft goal frames Braced kind lexeme = braced_step draft goal frames kind lexeme
spot_step draft goal frames (Begins mark) kind lexeme =
    expect_spot (bracket_byte mark) lexeme draft goal frames Operand
spot_step draft goal frames (Value value) kind lexeme =
    if bytes_eq lexeme
    (codes "[") then indexed draft goal frames (name_of (out-Expr value))
    else value_step draft goal (innermost frames) value lexeme
spot_step draft goal frames (Ends value mark) kind lexeme =
    expect_spot (bracket_byte mark) lexeme draft goal frames (Value value)
spot_step draft goal frames (Amount op value) kind lexeme =
    on_based kind
    (λ amount. spot_at draft goal frames
    (Ends (roll-Expr (Expr-F.Shift op value amount)) CloseParenthesis))
spot_step draft goal frames (Index name) kind lexeme =
    on_number kind (λ place. spot_at draft goal frames (High name place))
spot_step draft goal frames (High name place) kind lexeme =
    if bytes_eq lexeme (codes "]")
    then spot_at draft goal frames (Value (roll-Expr (Expr-F.Bit name place)))
    else expect_spot (code ":") lexeme draft goal frames (Low name place)
spot_step draft goal frames (Low name high) kind lexeme =
    on_number kind
    (λ low. spot_at draft goal frames
    (Ends (roll-Expr (Expr-F.Part name high low)) CloseBracket))

-- the bytes of a token that is written as it stands
abbrev pub fixed_bytes : Token → List ℕ
fixed_bytes (Key word) = word
fixed_bytes (Sign sign) = sign
fixed_bytes token = []

-- the first word of an item
unfoldable pub item_step : Draft → List ℕ → Option Parser
item_step draft lexeme =
    if bytes_eq lexeme (codes "wire") then goes draft (Net (OfItem false) Signed)
    else (if bytes_eq lexeme (codes "reg") then goes draft (Net (OfItem true) Signed)
    else (if bytes_eq lexeme (codes "assign") then goes draft AssignName
    else expect (codes "always") lexeme draft (Head Event)))

-- a word of the head of an item with a clock, of letters or a mark
abbrev pub head_token : HeadSpot → Token
head_token Event = Sign (codes "@")
head_token OpenEvent = Sign (codes "(")
head_token Posedge = Key (codes "posedge")
head_token Clock = Key (codes "clk")
head_token CloseEvent = Sign (codes ")")
head_token Begin = Key (codes "begin")
head_token Test = Key (codes "if")
head_token OpenTest = Sign (codes "(")
head_token Reset = Key (codes "reset")
head_token CloseTest = Sign (codes ")")

-- its bytes
abbrev pub head_word : HeadSpot → List ℕ
head_word at = fixed_bytes (head_token at)

-- what is next after it
abbrev pub after_head : HeadSpot → Place
after_head Event = Head OpenEvent
after_head OpenEvent = Head Posedge
after_head Posedge = Head Clock
after_head Clock = Head CloseEvent
after_head CloseEvent = Head Begin
after_head Begin = Head Test
after_head Test = Head OpenTest
after_head OpenTest = Head Reset
after_head Reset = Head CloseTest
after_head CloseTest = ClockedName

-- the same name again
abbrev pub again_step : Draft → Clocked → List ℕ → Option Parser
again_step draft clocked lexeme = expect clocked.name lexeme draft (NextSign clocked)

-- the next lexeme at a place
unfoldable pub step_at : Draft → Place → Kind → List ℕ → Option Parser
step_at draft Start kind lexeme =
    if bytes_eq lexeme
    (codes "(*") && has_none draft.attrs then goes draft (Attributes false [] AttrName)
    else expect (codes "module") lexeme draft Title
step_at draft (Attributes of_port attrs at) kind lexeme =
    attr_step draft of_port attrs at kind lexeme
step_at draft Title kind lexeme = on_name kind (goes (record draft { name = lexeme }) Ports) None
step_at draft Ports kind lexeme = expect (codes "(") lexeme draft (PortPlace [])
step_at draft (PortPlace attrs) kind lexeme =
    if bytes_eq lexeme (codes "(*") && has_none attrs then goes draft (Attributes true [] AttrName)
    else (if bytes_eq lexeme (codes "input") then goes draft (Net (OfPort attrs true) Word)
    else expect (codes "output") lexeme draft (Net (OfPort attrs false) Word))
step_at draft (Net net at) kind lexeme = net_step draft net at kind lexeme
step_at draft AfterPort kind lexeme =
    if bytes_eq lexeme (codes ",") then goes draft (PortPlace []) else expect (codes ")") lexeme
    draft AfterPorts
step_at draft AfterPorts kind lexeme = expect (codes ";") lexeme draft Items
step_at draft Items kind lexeme =
    if bytes_eq lexeme (codes "endmodule") then goes draft Done
    else (if nat_lt (length draft.items) draft.most then item_step draft lexeme else None)
step_at draft AssignName kind lexeme = on_name kind (goes draft (AssignSign lexeme)) None
step_at draft (AssignSign name) kind lexeme =
    expect (codes "=") lexeme draft (Expression (Assigned name) [] Operand)
step_at draft (Head at) kind lexeme = expect (head_word at) lexeme draft (after_head at)
step_at draft ClockedName kind lexeme = on_name kind (goes draft (ClockedSign lexeme)) None
step_at draft (ClockedSign name) kind lexeme = expect (codes "<=") lexeme draft (First name)
step_at draft (First name) kind lexeme = on_based kind (λ first. goes draft (AfterFirst name first))
step_at draft (AfterFirst name first) kind lexeme =
    expect (codes ";") lexeme draft (Else name first)
step_at draft (Else name first) kind lexeme = expect (codes "else") lexeme draft (Branch name first)
step_at draft (Branch name first) kind lexeme =
    on_name kind (again_step draft (record { name = name; first = first; condition = None }) lexeme)
    (expect (codes "if") lexeme draft (If name first))
step_at draft (If name first) kind lexeme =
    expect (codes "(") lexeme draft (Expression (Condition name first) [] Operand)
step_at draft (Again clocked) kind lexeme = on_name kind (again_step draft clocked lexeme) None
step_at draft (NextSign clocked) kind lexeme =
    expect (codes "<=") lexeme draft (Expression (Next clocked) [] Operand)
step_at draft (Expression goal frames spot) kind lexeme =
    spot_step draft goal frames spot kind lexeme
step_at draft (Semicolon item) kind lexeme =
    expect (codes ";") lexeme (record draft { items = draft.items ++ item ∷ [] }) Items
step_at draft (End item) kind lexeme =
    expect (codes "end") lexeme (record draft { items = draft.items ++ item ∷ [] }) Items
step_at draft Done kind lexeme = None

-- the next lexeme
unfoldable pub step : Parser → List ℕ → Option Parser
step parser lexeme = step_at parser.draft parser.place (kind_of lexeme) lexeme

-- the module of a draft, at its end
abbrev pub module_at : Draft → Place → Option Module
module_at draft Done =
    Some (record {
      name = draft.name;
      attrs = draft.attrs;
      ports = draft.ports;
      items = draft.items;
    })
module_at draft place = None

-- the module, where it is read whole
abbrev pub finish : Parser → Option Module
finish parser = module_at parser.draft parser.place

-- what the lexemes that are left make of what was read
abbrev pub parse : Parser → List (List ℕ) → Option Module
parse parser [] = finish parser
parse parser (lexeme ∷ lexemes) = option_and_then (λ next. parse next lexemes) (step parser lexeme)

-- before the first lexeme of a module of at most so many items
abbrev pub start : ℕ → Parser
start most = parser_at (record { name = []; attrs = []; ports = []; items = []; most = most }) Start

-- the module of the bytes, which has at most so many items
abbrev pub reading : ℕ → List ℕ → Option Module
reading most bytes = option_and_then (parse (start most)) (lexemes_from Between [] bytes)
