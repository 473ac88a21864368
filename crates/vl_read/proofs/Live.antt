-- What holds in each state that the reading comes to, and lets it be ended: the names of items with a clock are
-- identifiers, and the marks that are next are brackets.
use Rattle.std.proofs.Common.{bytes_eq, codes, ◌≡◌, ℕ, ◌+◌, Bool, true, false, cond, List, [], ◌∷◌, ◌++◌, Option, Some, None, refl, subst}
use Rattle.std.specs.Prelude.{⊤}
use Rattle.vl_ast.specs.declared.expressions.UnOp.{UnOp}
use Rattle.vl_ast.specs.declared.expressions.BinOp.{BinOp}
use Rattle.vl_ast.specs.declared.expressions.ShiftOp.{ShiftOp}
use Rattle.vl_ast.specs.declared.expressions.Sized.{Sized}
use Rattle.vl_ast.specs.declared.expressions.Expr.{Expr}
use Rattle.vl_ast.specs.declared.expressions.Expr.TheOpen.{Expr-F}
use Rattle.vl_ast.specs.declared.expressions.Expr.TheViews.{roll-Expr, out-Expr}
use Rattle.vl_ast.specs.declared.modules.Attr.{Attr}
use Rattle.vl_names.specs.Identifiers.{is_identifier}
use Rattle.vl_read.specs.declared.places.Bracket.TheVariants.{OpenParenthesis, OpenBrace, CloseParenthesis, CloseBrace, CloseBracket}
use Rattle.vl_read.specs.declared.scan.Kind.{Kind}
use Rattle.vl_read.specs.declared.scan.Kind.TheVariants.{Name, Count, Constant, Fixed}
use Rattle.vl_read.specs.declared.places.Frame.{Frame}
use Rattle.vl_read.specs.declared.places.Frame.TheVariants.{InConcat, InRepeat, InCast, InUnary, InLeft, InRight, InChosen, InOther}
use Rattle.vl_read.specs.inner.Places.{Spot, Goal, NetKind, AttrSpot, Place, Parser}
use Rattle.vl_read.specs.inner.Places.Spot.{Operand, Opened, Braced, Begins, Value, Ends, Amount, Index, High, Low}
use Rattle.vl_read.specs.inner.Places.Goal.{Assigned, Condition, Next}
use Rattle.vl_read.specs.inner.Places.NetKind.{OfPort, OfItem}
use Rattle.vl_read.specs.declared.places.NetSpot.{NetSpot}
use Rattle.vl_read.specs.declared.places.NetSpot.TheVariants.{Word, Signed, Ranged, Bound, Colon, Zero, Close, Named}
use Rattle.vl_read.specs.inner.Places.AttrSpot.{AttrName, AttrSign, AttrValue, More}
use Rattle.vl_read.specs.inner.Places.Place.{Start, Attributes, Title, Ports, Port as PortPlace, Net, AfterPort, AfterPorts, Items, AssignName, AssignSign, Head, ClockedName, ClockedSign, First}
use Rattle.vl_read.specs.inner.Places.Place.{AfterFirst, Else, Branch, If, Again, NextSign, Expression, Semicolon, End, Done}
use Rattle.vl_read.specs.declared.places.Draft.{Draft}
use Rattle.vl_read.specs.declared.places.HeadSpot.{HeadSpot}
use Rattle.vl_read.specs.declared.places.HeadSpot.TheVariants.{Event}
use Rattle.vl_read.specs.inner.Lexemes.{kind_of}
use Rattle.vl_read.specs.inner.Turns.{feed}
use Rattle.vl_read.specs.inner.Plain.{after_head, spot_at, expect_spot, attr_step, net_item, declared, net_step, compound_step, operand_step, unary_or_left, opened_step, braced_step, innermost}
use Rattle.vl_read.specs.inner.Plain.{left_by, left_step, frame_step, goal_step, value_step, name_of, indexed, spot_step, item_step, step_at, step, start}
use Rattle.vl_read.specs.inner.LexemeSteps.{goes, expect, on_name, on_number, on_based}
use Rattle.vl_ast.specs.Operators.{unary_of, infix_of, shift_of}
use Rattle.vl_read.proofs.KindSound.{then_some, name_sound}

abbrev pub IsName : List ℕ → Type 0
IsName name = is_identifier name ≡ true

abbrev pub IsLiveSpot : Spot → Type 0
IsLiveSpot spot = ⊤

abbrev pub IsLiveGoal : Goal → Type 0
IsLiveGoal (Condition name first) = IsName name
IsLiveGoal goal = ⊤

abbrev pub IsLive : Place → Type 0
IsLive (ClockedSign name) = IsName name
IsLive (First name) = IsName name
IsLive (AfterFirst name first) = IsName name
IsLive (Else name first) = IsName name
IsLive (Branch name first) = IsName name
IsLive (If name first) = IsName name
IsLive (Again clocked) = IsName clocked.name
IsLive (Expression goal frames spot) = IsLiveGoal goal × IsLiveSpot spot
IsLive place = ⊤

-- the state, where the reading goes on, is one of these
record Lives (next : Option Parser) : Type 0 where
  each : (parser : Parser) → next ≡ Some parser → IsLive parser.place

stopped : Lives None
stopped = record { each = λ parser e. let no : ⊥ = cc in absurd no }

there : (draft : Draft) (place : Place) → IsLive place → Lives (goes draft place)
there draft place h = record { each = λ parser e. let same : place ≡ parser.place = cc in subst IsLive same h }

if_lives : (test : Bool) (one other : Option Parser) → Lives one → Lives other → Lives (cond test one other)
if_lives true one other h k = h
if_lives false one other h k = k

expect_lives : (word lexeme : List ℕ) (draft : Draft) (place : Place) → IsLive place → Lives (expect word lexeme draft place)
expect_lives word lexeme draft place h = if_lives _ _ None (there draft place h) stopped

name_lives : (kind : Kind) (named other : Option Parser) → (kind ≡ Name → Lives named) → Lives other → Lives (on_name kind named other)
name_lives Name named other h k = h refl
name_lives _ named other h k = k

number_lives : (kind : Kind) (then : ℕ → Option Parser) → ((number : ℕ) → Lives (then number)) → Lives (on_number kind then)
number_lives (Count number) then h = h number
number_lives _ then h = stopped

based_lives : (kind : Kind) (then : Sized → Option Parser) → ((number : Sized) → Lives (then number)) → Lives (on_based kind then)
based_lives (Constant number) then h = h number
based_lives _ then h = stopped

-- attributes and declarations

attr_lives : (draft : Draft) (of_port : Bool) (attrs : List Attr) (at : AttrSpot) (kind : Kind) (lexeme : List ℕ) → Lives (attr_step draft of_port attrs at kind lexeme)
unfolding attr_step
attr_lives draft of_port attrs AttrName kind lexeme = name_lives kind _ None (λ h. there draft (Attributes of_port attrs (AttrSign lexeme)) tt) stopped
attr_lives draft of_port attrs (AttrSign name) kind lexeme = expect_lives _ lexeme draft (Attributes of_port attrs (AttrValue name)) tt
attr_lives draft of_port attrs (AttrValue name) kind lexeme = number_lives kind _ (λ number. there draft (Attributes of_port (attrs ++ record { name = name; value = number } ∷ []) More) tt)
attr_lives draft true attrs More kind lexeme =
    if_lives (bytes_eq lexeme (codes ",")) _ _ (there draft (Attributes true attrs AttrName) tt)
    (expect_lives (codes "*)") lexeme draft (PortPlace attrs) tt)
attr_lives draft false attrs More kind lexeme =
    if_lives (bytes_eq lexeme (codes ",")) _ _ (there draft (Attributes false attrs AttrName) tt)
    (expect_lives (codes "*)") lexeme (record draft { attrs = attrs }) Start tt)

declared_lives : (draft : Draft) (net : NetKind) (signed : Bool) (width : ℕ) (name : List ℕ) → Lives (declared draft net signed width name)
unfolding declared
declared_lives draft (OfPort attrs input) signed width name = there _ AfterPort tt
declared_lives draft (OfItem is_reg) signed width name = there draft (Semicolon (net_item is_reg signed width name)) tt

net_lives : (draft : Draft) (net : NetKind) (at : NetSpot) (kind : Kind) (lexeme : List ℕ) → Lives (net_step draft net at kind lexeme)
unfolding net_step
net_lives draft net Word kind lexeme = expect_lives _ lexeme draft (Net net Signed) tt
net_lives draft net Signed kind lexeme =
    name_lives kind _ _ (λ h. declared_lives draft net false 1 lexeme)
    (if_lives (bytes_eq lexeme (codes "signed")) _ _ (there draft (Net net (Ranged true)) tt) (expect_lives (codes "[") lexeme draft (Net net (Bound false)) tt))
net_lives draft net (Ranged signed) kind lexeme = name_lives kind _ _ (λ h. declared_lives draft net signed 1 lexeme) (expect_lives _ lexeme draft (Net net (Bound signed)) tt)
net_lives draft net (Bound signed) kind lexeme = number_lives kind _ (λ number. there draft (Net net (Colon signed (number + 1))) tt)
net_lives draft net (Colon signed width) kind lexeme = expect_lives _ lexeme draft (Net net (Zero signed width)) tt
net_lives draft net (Zero signed width) kind lexeme = expect_lives _ lexeme draft (Net net (Close signed width)) tt
net_lives draft net (Close signed width) kind lexeme = expect_lives _ lexeme draft (Net net (Named signed width)) tt
net_lives draft net (Named signed width) kind lexeme = name_lives kind _ None (λ h. declared_lives draft net signed width lexeme) stopped

-- expressions

spot_there : (draft : Draft) (goal : Goal) (frames : List Frame) (spot : Spot) → IsLiveGoal goal → IsLiveSpot spot → Lives (spot_at draft goal frames spot)
spot_there draft goal frames spot g h = there draft (Expression goal frames spot) (g, h)

spot_expected : (byte : ℕ) (lexeme : List ℕ) (draft : Draft) (goal : Goal) (frames : List Frame) (spot : Spot)
    → IsLiveGoal goal → IsLiveSpot spot → Lives (expect_spot byte lexeme draft goal frames spot)
spot_expected byte lexeme draft goal frames spot g h = expect_lives (byte ∷ []) lexeme draft (Expression goal frames spot) (g, h)

compound_lives : (draft : Draft) (goal : Goal) (frames : List Frame) (lexeme : List ℕ) → IsLiveGoal goal → Lives (compound_step draft goal frames lexeme)
unfolding compound_step
compound_lives draft goal frames lexeme g =
    if_lives _ _ None (if_lives _ _ _ (spot_there draft goal frames Opened g tt)
    (if_lives _ _ _ (spot_there draft goal frames Braced g tt)
    (if_lives _ _ _ (spot_there draft goal (frames ++ InCast true ∷ []) (Begins OpenParenthesis) g tt)
    (if_lives _ _ None (spot_there draft goal (frames ++ InCast false ∷ []) (Begins OpenParenthesis) g tt) stopped)))) stopped

operand_lives : (draft : Draft) (goal : Goal) (frames : List Frame) (kind : Kind) (lexeme : List ℕ) → IsLiveGoal goal → Lives (operand_step draft goal frames kind lexeme)
unfolding operand_step
operand_lives draft goal frames Name lexeme g = spot_there draft goal frames (Value (roll-Expr (Expr-F.Name lexeme))) g tt
operand_lives draft goal frames (Count number) lexeme g = stopped
operand_lives draft goal frames (Constant number) lexeme g = spot_there draft goal frames (Value (roll-Expr (Expr-F.Literal number))) g tt
operand_lives draft goal frames Fixed lexeme g = compound_lives draft goal frames lexeme g

unary_lives : (draft : Draft) (goal : Goal) (frames : List Frame) (op : Option UnOp) (lexeme : List ℕ) → IsLiveGoal goal → Lives (unary_or_left draft goal frames op lexeme)
unfolding unary_or_left
unary_lives draft goal frames None lexeme g = compound_lives draft goal (frames ++ InLeft ∷ []) lexeme g
unary_lives draft goal frames (Some op) lexeme g = spot_there draft goal (frames ++ InUnary op ∷ []) Operand g tt

opened_lives : (draft : Draft) (goal : Goal) (frames : List Frame) (kind : Kind) (lexeme : List ℕ) → IsLiveGoal goal → Lives (opened_step draft goal frames kind lexeme)
unfolding opened_step
opened_lives draft goal frames Name lexeme g = operand_lives draft goal (frames ++ InLeft ∷ []) Name lexeme g
opened_lives draft goal frames (Count number) lexeme g = stopped
opened_lives draft goal frames (Constant number) lexeme g = operand_lives draft goal (frames ++ InLeft ∷ []) (Constant number) lexeme g
opened_lives draft goal frames Fixed lexeme g = unary_lives draft goal frames (unary_of lexeme) lexeme g

braced_lives : (draft : Draft) (goal : Goal) (frames : List Frame) (kind : Kind) (lexeme : List ℕ) → IsLiveGoal goal → Lives (braced_step draft goal frames kind lexeme)
unfolding braced_step
braced_lives draft goal frames Name lexeme g = operand_lives draft goal (frames ++ InConcat [] ∷ []) Name lexeme g
braced_lives draft goal frames (Count number) lexeme g = spot_there draft goal (frames ++ InRepeat number ∷ []) (Begins OpenBrace) g tt
braced_lives draft goal frames (Constant number) lexeme g = operand_lives draft goal (frames ++ InConcat [] ∷ []) (Constant number) lexeme g
braced_lives draft goal frames Fixed lexeme g = compound_lives draft goal (frames ++ InConcat [] ∷ []) lexeme g

infix_lives : (draft : Draft) (goal : Goal) (outer : List Frame) (value : Expr) (op : Option BinOp) (shift : Option ShiftOp) → IsLiveGoal goal → Lives (left_by draft goal outer value op shift)
infix_lives draft goal outer value (Some op) shift g = spot_there draft goal (outer ++ InRight op value ∷ []) Operand g tt
infix_lives draft goal outer value None (Some op) g = spot_there draft goal outer (Amount op value) g tt
infix_lives draft goal outer value None None g = stopped

frame_lives : (draft : Draft) (goal : Goal) (outer : List Frame) (frame : Frame) (value : Expr) (lexeme : List ℕ) → IsLiveGoal goal → Lives (frame_step draft goal outer frame value lexeme)
unfolding frame_step left_step
frame_lives draft goal outer (InConcat parts) value lexeme g =
    if_lives _ _ _ (spot_there draft goal (outer ++ InConcat (parts ++ value ∷ []) ∷ []) Operand g tt) (spot_expected 125 lexeme draft goal outer (Value _) g tt)
frame_lives draft goal outer (InRepeat count) value lexeme g = spot_expected 125 lexeme draft goal outer (Ends _ CloseBrace) g tt
frame_lives draft goal outer InLeft value lexeme g =
    if_lives _ _ _ (spot_there draft goal (outer ++ InChosen value ∷ []) Operand g tt) (infix_lives draft goal outer value (infix_of lexeme) (shift_of lexeme) g)
frame_lives draft goal outer (InChosen test) value lexeme g = spot_expected 58 lexeme draft goal (outer ++ InOther test value ∷ []) Operand g tt
frame_lives draft goal outer _ value lexeme g = spot_expected 41 lexeme draft goal outer (Value _) g tt

goal_lives : (draft : Draft) (goal : Goal) (value : Expr) (lexeme : List ℕ) → IsLiveGoal goal → Lives (goal_step draft goal value lexeme)
unfolding goal_step
goal_lives draft (Assigned name) value lexeme g = expect_lives _ lexeme _ Items tt
goal_lives draft (Condition name first) value lexeme g = expect_lives _ lexeme draft (Again (record { name = name; first = first; condition = Some value })) g
goal_lives draft (Next clocked) value lexeme g = expect_lives _ lexeme draft (End _) tt

value_lives : (draft : Draft) (goal : Goal) (parts : Option (List Frame × Frame)) (value : Expr) (lexeme : List ℕ) → IsLiveGoal goal → Lives (value_step draft goal parts value lexeme)
value_lives draft goal None value lexeme g = goal_lives draft goal value lexeme g
value_lives draft goal (Some parts) value lexeme g = frame_lives draft goal parts.0 parts.1 value lexeme g

index_lives : (draft : Draft) (goal : Goal) (frames : List Frame) (name : Option (List ℕ)) → IsLiveGoal goal → Lives (indexed draft goal frames name)
index_lives draft goal frames None g = stopped
index_lives draft goal frames (Some name) g = spot_there draft goal frames (Index name) g tt

spot_lives : (draft : Draft) (goal : Goal) (frames : List Frame) (spot : Spot) (kind : Kind) (lexeme : List ℕ) → IsLiveGoal goal → Lives (spot_step draft goal frames spot kind lexeme)
unfolding spot_step
spot_lives draft goal frames Operand kind lexeme g = operand_lives draft goal frames kind lexeme g
spot_lives draft goal frames Opened kind lexeme g = opened_lives draft goal frames kind lexeme g
spot_lives draft goal frames Braced kind lexeme g = braced_lives draft goal frames kind lexeme g
spot_lives draft goal frames (Begins mark) kind lexeme g = spot_expected _ lexeme draft goal frames Operand g tt
spot_lives draft goal frames (Value value) kind lexeme g =
    if_lives _ _ _ (index_lives draft goal frames (name_of (out-Expr value)) g) (value_lives draft goal (innermost frames) value lexeme g)
spot_lives draft goal frames (Ends value mark) kind lexeme g = spot_expected _ lexeme draft goal frames (Value value) g tt
spot_lives draft goal frames (Amount op value) kind lexeme g =
    based_lives kind _ (λ amount. spot_there draft goal frames (Ends (roll-Expr (Expr-F.Shift op value amount)) CloseParenthesis) g tt)
spot_lives draft goal frames (Index name) kind lexeme g = number_lives kind _ (λ place. spot_there draft goal frames (High name place) g tt)
spot_lives draft goal frames (High name place) kind lexeme g =
    if_lives _ _ _ (spot_there draft goal frames (Value (roll-Expr (Expr-F.Bit name place))) g tt) (spot_expected 58 lexeme draft goal frames (Low name place) g tt)
spot_lives draft goal frames (Low name high) kind lexeme g =
    number_lives kind _ (λ low. spot_there draft goal frames (Ends (roll-Expr (Expr-F.Part name high low)) CloseBracket) g tt)

-- modules

item_lives : (draft : Draft) (lexeme : List ℕ) → Lives (item_step draft lexeme)
unfolding item_step
item_lives draft lexeme =
    if_lives (bytes_eq lexeme (codes "wire")) _ _ (there draft (Net (OfItem false) Signed) tt)
    (if_lives (bytes_eq lexeme (codes "reg")) _ _ (there draft (Net (OfItem true) Signed) tt)
    (if_lives (bytes_eq lexeme (codes "assign")) _ _ (there draft AssignName tt)
    (expect_lives (codes "always") lexeme draft (Head Event) tt)))

head_live : (at : HeadSpot) → IsLive (after_head at)
head_live Event = tt
head_live _ = tt

place_lives : (draft : Draft) (place : Place) (kind : Kind) (lexeme : List ℕ) → (kind ≡ Name → IsName lexeme) → IsLive place → Lives (step_at draft place kind lexeme)
unfolding step_at
place_lives draft Start kind lexeme n h = if_lives _ _ _ (there draft (Attributes false [] AttrName) tt) (expect_lives _ lexeme draft Title tt)
place_lives draft (Attributes of_port attrs spot) kind lexeme n h = attr_lives draft of_port attrs spot kind lexeme
place_lives draft Title kind lexeme n h = name_lives kind _ None (λ e. there _ Ports tt) stopped
place_lives draft Ports kind lexeme n h = expect_lives _ lexeme draft (PortPlace []) tt
place_lives draft (PortPlace attrs) kind lexeme n h =
    if_lives _ _ _ (there draft (Attributes true [] AttrName) tt)
    (if_lives (bytes_eq lexeme (codes "input")) _ _ (there draft (Net (OfPort attrs true) Word) tt) (expect_lives (codes "output") lexeme draft (Net (OfPort attrs false) Word) tt))
place_lives draft (Net net spot) kind lexeme n h = net_lives draft net spot kind lexeme
place_lives draft AfterPort kind lexeme n h = if_lives (bytes_eq lexeme (codes ",")) _ _ (there draft (PortPlace []) tt) (expect_lives (codes ")") lexeme draft AfterPorts tt)
place_lives draft AfterPorts kind lexeme n h = expect_lives _ lexeme draft Items tt
place_lives draft Items kind lexeme n h = if_lives _ _ _ (there draft Done tt) (if_lives _ _ None (item_lives draft lexeme) stopped)
place_lives draft AssignName kind lexeme n h = name_lives kind _ None (λ e. there draft (AssignSign lexeme) tt) stopped
place_lives draft (AssignSign name) kind lexeme n h = expect_lives _ lexeme draft (Expression (Assigned name) [] Operand) (tt, tt)
place_lives draft (Head at) kind lexeme n h = expect_lives _ lexeme draft _ (head_live at)
place_lives draft ClockedName kind lexeme n h = name_lives kind _ None (λ e. there draft (ClockedSign lexeme) (n e)) stopped
place_lives draft (ClockedSign name) kind lexeme n h = expect_lives _ lexeme draft (First name) h
place_lives draft (First name) kind lexeme n h = based_lives kind _ (λ first. there draft (AfterFirst name first) h)
place_lives draft (AfterFirst name first) kind lexeme n h = expect_lives _ lexeme draft (Else name first) h
place_lives draft (Else name first) kind lexeme n h = expect_lives _ lexeme draft (Branch name first) h
place_lives draft (Branch name first) kind lexeme n h =
    name_lives kind _ _ (λ e. expect_lives name lexeme draft (NextSign (record { name = name; first = first; condition = None })) tt) (expect_lives _ lexeme draft (If name first) h)
place_lives draft (If name first) kind lexeme n h = expect_lives _ lexeme draft (Expression (Condition name first) [] Operand) (h, tt)
place_lives draft (Again clocked) kind lexeme n h = name_lives kind _ None (λ e. expect_lives clocked.name lexeme draft (NextSign clocked) tt) stopped
place_lives draft (NextSign clocked) kind lexeme n h = expect_lives _ lexeme draft (Expression (Next clocked) [] Operand) (tt, tt)
place_lives draft (Expression goal frames spot) kind lexeme n h = spot_lives draft goal frames spot kind lexeme h.0
place_lives draft (Semicolon item) kind lexeme n h = expect_lives _ lexeme _ Items tt
place_lives draft (End item) kind lexeme n h = expect_lives _ lexeme _ Items tt
place_lives draft Done kind lexeme n h = stopped

pub step_lives : (parser next : Parser) (lexeme : List ℕ) → IsLive parser.place → step parser lexeme ≡ Some next → IsLive next.place
unfolding step
step_lives parser next lexeme h e = (place_lives parser.draft parser.place (kind_of lexeme) lexeme (name_sound lexeme) h).each next e

fed_live : (lexemes : List (List ℕ)) (parser last : Parser) → IsLive parser.place → feed parser lexemes ≡ Some last → IsLive last.place
fed_live [] parser last h e = let same : parser ≡ last = cc in subst (λ (p : Parser). IsLive p.place) same h
fed_live (lexeme ∷ lexemes) parser last h e =
    let first = then_some (step parser lexeme) (λ next. feed next lexemes) last e in
    fed_live lexemes first.0 last (step_lives parser first.0 lexeme h first.1) first.2

-- the states that lexemes lead to
pub reached_live : (most : ℕ) (lexemes : List (List ℕ)) (parser : Parser) → feed (start most) lexemes ≡ Some parser → IsLive parser.place
reached_live most lexemes parser e = fed_live lexemes (start most) parser tt e
