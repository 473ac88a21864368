-- Each beginning of a text can be ended, so that the whole is one of a module.
use Rattle.std.proofs.Common.{◌≡◌, ℕ, zero, suc, Bool, true, false, cond, List, [], ◌∷◌, ◌++◌, Some, None, refl, sym, ◌∙◌, ap, subst, codes}
use Rattle.vl_ast.specs.declared.expressions.Sized.{Sized}
use Rattle.vl_ast.specs.declared.modules.Attr.{Attr}
use Rattle.vl_ast.specs.declared.modules.Port.{Port}
use Rattle.vl_ast.specs.declared.modules.ModItem.{ModItem}
use Rattle.vl_ast.specs.declared.modules.ModItem.TheVariants.{Assign, Always}
use Rattle.vl_ast.specs.declared.modules.Module.{Module}
use Rattle.vl_read.specs.declared.scan.Mode.{Mode}
use Rattle.vl_read.specs.declared.scan.Mode.TheVariants.{Between, Word as InWord, Mark as InMark, Slash, LineComment, BlockComment, Star}
use Rattle.vl_read.specs.inner.Places.{Clocked, Goal, NetKind, AttrSpot, Place, Parser}
use Rattle.vl_read.specs.inner.Places.Goal.{Assigned, Condition, Next}
use Rattle.vl_read.specs.inner.Places.NetKind.{OfPort, OfItem}
use Rattle.vl_read.specs.declared.places.NetSpot.{NetSpot}
use Rattle.vl_read.specs.declared.places.NetSpot.TheVariants.{Word, Signed, Ranged, Bound, Colon, Zero, Close, Named}
use Rattle.vl_read.specs.inner.Places.AttrSpot.{AttrName, AttrSign, AttrValue, More}
use Rattle.vl_read.specs.inner.Places.Place.{Start, Attributes, Title, Ports, Port as PortPlace, Net, AfterPort, AfterPorts, Items, AssignName, AssignSign, Head, ClockedName, ClockedSign, First}
use Rattle.vl_read.specs.inner.Places.Place.{AfterFirst, Else, Branch, If, Again, NextSign, Expression, Semicolon, End, Done}
use Rattle.vl_read.specs.declared.places.Draft.{Draft}
use Rattle.vl_read.specs.declared.places.HeadSpot.{HeadSpot}
use Rattle.vl_read.specs.declared.places.HeadSpot.TheVariants.{Event, OpenEvent, Posedge, Clock, CloseEvent, Begin, Test, OpenTest, Reset, CloseTest}
use Rattle.vl_read.specs.inner.Lexemes.{class_of, extends, kind_of, dec_of, sized_of, Move, move, moved, lexemes_from}
use Rattle.vl_read.specs.inner.Turns.{IsBeyond, feed}
use Rattle.vl_read.specs.inner.Plain.{parse, start, head_word, after_head, step, attr_step, net_item, declared, net_step, goal_step, spot_step, step_at}
use Rattle.vl_read.specs.inner.LexemeSteps.{parser_at, goes}
use Rattle.vl_read.proofs.LexemeKinds.{name_kind}
use Rattle.vl_read.proofs.GapScan.{silent}
use Rattle.vl_read.proofs.Lexemes.{identifier_text}
use Rattle.math_list.proofs.Tests.{same_bytes}
use Rattle.vl_read.proofs.ItemReader.{head_step}
use Rattle.vl_read.proofs.Expressions.{at}
use Rattle.vl_read.proofs.Live.{IsName, IsLiveGoal, IsLive, reached_live}
use Rattle.vl_read.proofs.Division.{IsLexeme, a_word, a_key, a_mark, AllLexemes, spaced, divided}
use Rattle.vl_read.proofs.ExpressionEnds.{CanEnd, by_lexeme, Closes, operand_ends, frames_end, spot_ends}

-- items

done_ends : (draft : Draft) → CanEnd (parser_at draft Done)
done_ends draft = record {
  more = [];
  whole = record { name = draft.name; attrs = draft.attrs; ports = draft.ports; items = draft.items };
  lexemes = tt;
  same = refl;
}

pub items_end : (draft : Draft) → CanEnd (parser_at draft Items)
unfolding step step_at class_of
items_end draft = by_lexeme _ _ (codes "endmodule") (a_key _ refl) refl (done_ends draft)

semicolon_ends : (draft : Draft) (item : ModItem) → CanEnd (parser_at draft (Semicolon item))
unfolding step step_at class_of extends
semicolon_ends draft item = by_lexeme _ _ (codes ";") (a_mark _ refl) refl (items_end (record draft { items = draft.items ++ item ∷ [] }))

end_ends : (draft : Draft) (item : ModItem) → CanEnd (parser_at draft (End item))
unfolding step step_at class_of
end_ends draft item = by_lexeme _ _ (codes "end") (a_key _ refl) refl (items_end (record draft { items = draft.items ++ item ∷ [] }))

-- what an expression is read for

assigned_ends : (draft : Draft) (name : List ℕ) → Closes draft (Assigned name) []
unfolding step step_at spot_step goal_step class_of extends
assigned_ends draft name value = by_lexeme _ _ (codes ";") (a_mark _ refl) refl (items_end (record draft { items = draft.items ++ Assign name value ∷ [] }))

next_ends : (draft : Draft) (clocked : Clocked) → Closes draft (Next clocked) []
unfolding step step_at spot_step goal_step class_of extends
next_ends draft clocked value = by_lexeme _ _ (codes ";") (a_mark _ refl) refl (end_ends draft (Always clocked.name clocked.first clocked.condition value))

next_sign_ends : (draft : Draft) (clocked : Clocked) → CanEnd (parser_at draft (NextSign clocked))
unfolding step step_at class_of extends
next_sign_ends draft clocked = by_lexeme _ _ (codes "<=") (a_mark _ refl) refl (operand_ends draft (Next clocked) [] (next_ends draft clocked))

again_step_is : (draft : Draft) (clocked : Clocked) → IsName clocked.name → step (parser_at draft (Again clocked)) clocked.name ≡ Some (parser_at draft (NextSign clocked))
unfolding step step_at
again_step_is draft clocked h = rw (name_kind clocked.name h) (ap (λ t. cond t (goes draft (NextSign clocked)) None) (same_bytes clocked.name))

again_ends : (draft : Draft) (clocked : Clocked) → IsName clocked.name → CanEnd (parser_at draft (Again clocked))
again_ends draft clocked h = by_lexeme _ _ clocked.name (a_word _ (identifier_text clocked.name h)) (again_step_is draft clocked h) (next_sign_ends draft clocked)

condition_ends : (draft : Draft) (name : List ℕ) (first : Sized) → IsName name → Closes draft (Condition name first) []
unfolding step step_at spot_step goal_step class_of extends
condition_ends draft name first h value =
    by_lexeme _ _ (codes ")") (a_mark _ refl) refl (again_ends draft (record { name = name; first = first; condition = Some value }) h)

goal_ends : (draft : Draft) (goal : Goal) → IsLiveGoal goal → Closes draft goal []
goal_ends draft (Assigned name) h = assigned_ends draft name
goal_ends draft (Condition name first) h = condition_ends draft name first h
goal_ends draft (Next clocked) h = next_ends draft clocked

-- the other places in items

assign_sign_ends : (draft : Draft) (name : List ℕ) → CanEnd (parser_at draft (AssignSign name))
unfolding step step_at class_of extends
assign_sign_ends draft name = by_lexeme _ _ (codes "=") (a_mark _ refl) refl (operand_ends draft (Assigned name) [] (assigned_ends draft name))

assign_name_ends : (draft : Draft) → CanEnd (parser_at draft AssignName)
unfolding step step_at kind_of class_of
assign_name_ends draft = by_lexeme _ _ (codes "a") (a_key _ refl) refl (assign_sign_ends draft (codes "a"))

if_ends : (draft : Draft) (name : List ℕ) (first : Sized) → IsName name → CanEnd (parser_at draft (If name first))
unfolding step step_at class_of extends
if_ends draft name first h = by_lexeme _ _ (codes "(") (a_mark _ refl) refl (operand_ends draft (Condition name first) [] (condition_ends draft name first h))

branch_ends : (draft : Draft) (name : List ℕ) (first : Sized) → IsName name → CanEnd (parser_at draft (Branch name first))
unfolding step step_at kind_of dec_of sized_of class_of
branch_ends draft name first h = by_lexeme _ _ (codes "if") (a_key _ refl) refl (if_ends draft name first h)

else_ends : (draft : Draft) (name : List ℕ) (first : Sized) → IsName name → CanEnd (parser_at draft (Else name first))
unfolding step step_at class_of
else_ends draft name first h = by_lexeme _ _ (codes "else") (a_key _ refl) refl (branch_ends draft name first h)

after_first_ends : (draft : Draft) (name : List ℕ) (first : Sized) → IsName name → CanEnd (parser_at draft (AfterFirst name first))
unfolding step step_at class_of extends
after_first_ends draft name first h = by_lexeme _ _ (codes ";") (a_mark _ refl) refl (else_ends draft name first h)

first_ends : (draft : Draft) (name : List ℕ) → IsName name → CanEnd (parser_at draft (First name))
unfolding step step_at kind_of dec_of sized_of class_of
first_ends draft name h =
    let zero_bit : Sized = record { width = 1; signed = false; bits = 0 } in
    by_lexeme _ _ (codes "1'b0") (a_key _ refl) refl (after_first_ends draft name zero_bit h)

clocked_sign_ends : (draft : Draft) (name : List ℕ) → IsName name → CanEnd (parser_at draft (ClockedSign name))
unfolding step step_at class_of extends
clocked_sign_ends draft name h = by_lexeme _ _ (codes "<=") (a_mark _ refl) refl (first_ends draft name h)

clocked_name_ends : (draft : Draft) → CanEnd (parser_at draft ClockedName)
unfolding step step_at kind_of class_of
clocked_name_ends draft = by_lexeme _ _ (codes "a") (a_key _ refl) refl (clocked_sign_ends draft (codes "a") refl)

-- the words after `always`

head_word_is : (at : HeadSpot) → IsLexeme (head_word at)
unfolding class_of extends
head_word_is Event = a_mark (codes "@") refl
head_word_is OpenEvent = a_mark (codes "(") refl
head_word_is Posedge = a_key (codes "posedge") refl
head_word_is Clock = a_key (codes "clk") refl
head_word_is CloseEvent = a_mark (codes ")") refl
head_word_is Begin = a_key (codes "begin") refl
head_word_is Test = a_key (codes "if") refl
head_word_is OpenTest = a_mark (codes "(") refl
head_word_is Reset = a_key (codes "reset") refl
head_word_is CloseTest = a_mark (codes ")") refl

-- the place after so many of them
abbrev later : ℕ → Place → Place
later zero place = place
later (suc n) (Head at) = later n (after_head at)
later (suc n) place = place

-- behind ten the name is next
head_over : (at : HeadSpot) → later 10 (Head at) ≡ ClockedName
head_over Event = refl
head_over _ = refl

head_goes : (n : ℕ) (draft : Draft) (place : Place) → CanEnd (parser_at draft (later n place)) → CanEnd (parser_at draft place)
head_goes zero draft place rest = rest
head_goes (suc n) draft (Head at) rest = by_lexeme _ _ (head_word at) (head_word_is at) (head_step draft at) (head_goes n draft (after_head at) rest)
head_goes (suc n) draft place rest = rest

head_ends : (draft : Draft) (at : HeadSpot) → CanEnd (parser_at draft (Head at))
head_ends draft at = head_goes 10 draft (Head at) (subst (λ place. CanEnd (parser_at draft place)) (sym (head_over at)) (clocked_name_ends draft))

-- ports and declarations

after_ports_end : (draft : Draft) → CanEnd (parser_at draft AfterPorts)
unfolding step step_at class_of extends
after_ports_end draft = by_lexeme _ _ (codes ";") (a_mark _ refl) refl (items_end draft)

after_port_ends : (draft : Draft) → CanEnd (parser_at draft AfterPort)
unfolding step step_at class_of extends
after_port_ends draft = by_lexeme _ _ (codes ")") (a_mark _ refl) refl (after_ports_end draft)

-- what a declaration leads to
record Declares (draft : Draft) (net : NetKind) (signed : Bool) (width : ℕ) (name : List ℕ) : Type 0 where
  to : Parser
  same : declared draft net signed width name ≡ Some to
  ends : CanEnd to

declares : (draft : Draft) (net : NetKind) (signed : Bool) (width : ℕ) (name : List ℕ) → Declares draft net signed width name
unfolding declared
declares draft (OfPort attrs input) signed width name =
    let port : Port = record { attrs = attrs; input = input; signed = signed; width = width; name = name } in
    record { to = _; same = refl; ends = after_port_ends (record draft { ports = draft.ports ++ port ∷ [] }) }
declares draft (OfItem is_reg) signed width name = record { to = _; same = refl; ends = semicolon_ends draft (net_item is_reg signed width name) }

named_ends : (draft : Draft) (net : NetKind) (signed : Bool) (width : ℕ) → CanEnd (parser_at draft (Net net (Named signed width)))
unfolding step step_at net_step kind_of class_of
named_ends draft net signed width = let is = declares draft net signed width (codes "a") in by_lexeme _ is.to (codes "a") (a_key _ refl) is.same is.ends

close_ends : (draft : Draft) (net : NetKind) (signed : Bool) (width : ℕ) → CanEnd (parser_at draft (Net net (Close signed width)))
unfolding step step_at net_step class_of extends
close_ends draft net signed width = by_lexeme _ _ (codes "]") (a_mark _ refl) refl (named_ends draft net signed width)

zero_ends : (draft : Draft) (net : NetKind) (signed : Bool) (width : ℕ) → CanEnd (parser_at draft (Net net (Zero signed width)))
unfolding step step_at net_step class_of
zero_ends draft net signed width = by_lexeme _ _ (codes "0") (a_key _ refl) refl (close_ends draft net signed width)

colon_ends : (draft : Draft) (net : NetKind) (signed : Bool) (width : ℕ) → CanEnd (parser_at draft (Net net (Colon signed width)))
unfolding step step_at net_step class_of extends
colon_ends draft net signed width = by_lexeme _ _ (codes ":") (a_mark _ refl) refl (zero_ends draft net signed width)

bound_ends : (draft : Draft) (net : NetKind) (signed : Bool) → CanEnd (parser_at draft (Net net (Bound signed)))
unfolding step step_at net_step kind_of dec_of class_of
bound_ends draft net signed = by_lexeme _ _ (codes "0") (a_key _ refl) refl (colon_ends draft net signed 1)

ranged_ends : (draft : Draft) (net : NetKind) (signed : Bool) → CanEnd (parser_at draft (Net net (Ranged signed)))
unfolding step step_at net_step kind_of class_of
ranged_ends draft net signed = let is = declares draft net signed 1 (codes "a") in by_lexeme _ is.to (codes "a") (a_key _ refl) is.same is.ends

signed_ends : (draft : Draft) (net : NetKind) → CanEnd (parser_at draft (Net net Signed))
unfolding step step_at net_step kind_of class_of
signed_ends draft net = let is = declares draft net false 1 (codes "a") in by_lexeme _ is.to (codes "a") (a_key _ refl) is.same is.ends

word_ends : (draft : Draft) (net : NetKind) → CanEnd (parser_at draft (Net net Word))
unfolding step step_at net_step class_of
word_ends draft net = by_lexeme _ _ (codes "wire") (a_key _ refl) refl (signed_ends draft net)

net_ends : (draft : Draft) (net : NetKind) (spot : NetSpot) → CanEnd (parser_at draft (Net net spot))
net_ends draft net Word = word_ends draft net
net_ends draft net Signed = signed_ends draft net
net_ends draft net (Ranged signed) = ranged_ends draft net signed
net_ends draft net (Bound signed) = bound_ends draft net signed
net_ends draft net (Colon signed width) = colon_ends draft net signed width
net_ends draft net (Zero signed width) = zero_ends draft net signed width
net_ends draft net (Close signed width) = close_ends draft net signed width
net_ends draft net (Named signed width) = named_ends draft net signed width

port_ends : (draft : Draft) (attrs : List Attr) → CanEnd (parser_at draft (PortPlace attrs))
unfolding step step_at class_of
port_ends draft attrs = by_lexeme _ _ (codes "input") (a_key _ refl) refl (word_ends draft (OfPort attrs true))

-- the module's head

ports_end : (draft : Draft) → CanEnd (parser_at draft Ports)
unfolding step step_at class_of extends
ports_end draft = by_lexeme _ _ (codes "(") (a_mark _ refl) refl (port_ends draft [])

title_ends : (draft : Draft) → CanEnd (parser_at draft Title)
unfolding step step_at kind_of class_of
title_ends draft = by_lexeme _ _ (codes "a") (a_key _ refl) refl (ports_end (record draft { name = codes "a" }))

start_ends : (draft : Draft) → CanEnd (parser_at draft Start)
unfolding step step_at class_of
start_ends draft = by_lexeme _ _ (codes "module") (a_key _ refl) refl (title_ends draft)

more_ends : (draft : Draft) (of_port : Bool) (attrs : List Attr) → CanEnd (parser_at draft (Attributes of_port attrs More))
unfolding step step_at attr_step class_of extends
more_ends draft true attrs = by_lexeme _ _ (codes "*)") (a_mark _ refl) refl (port_ends draft attrs)
more_ends draft false attrs = by_lexeme _ _ (codes "*)") (a_mark _ refl) refl (start_ends (record draft { attrs = attrs }))

attr_value_ends : (draft : Draft) (of_port : Bool) (attrs : List Attr) (name : List ℕ) → CanEnd (parser_at draft (Attributes of_port attrs (AttrValue name)))
unfolding step step_at attr_step kind_of dec_of class_of
attr_value_ends draft of_port attrs name =
    let attr : Attr = record { name = name; value = 0 } in
    by_lexeme _ _ (codes "0") (a_key _ refl) refl (more_ends draft of_port (attrs ++ attr ∷ []))

attr_sign_ends : (draft : Draft) (of_port : Bool) (attrs : List Attr) (name : List ℕ) → CanEnd (parser_at draft (Attributes of_port attrs (AttrSign name)))
unfolding step step_at attr_step class_of extends
attr_sign_ends draft of_port attrs name = by_lexeme _ _ (codes "=") (a_mark _ refl) refl (attr_value_ends draft of_port attrs name)

attr_name_ends : (draft : Draft) (of_port : Bool) (attrs : List Attr) → CanEnd (parser_at draft (Attributes of_port attrs AttrName))
unfolding step step_at attr_step kind_of class_of
attr_name_ends draft of_port attrs = by_lexeme _ _ (codes "a") (a_key _ refl) refl (attr_sign_ends draft of_port attrs (codes "a"))

attr_ends : (draft : Draft) (of_port : Bool) (attrs : List Attr) (spot : AttrSpot) → CanEnd (parser_at draft (Attributes of_port attrs spot))
attr_ends draft of_port attrs AttrName = attr_name_ends draft of_port attrs
attr_ends draft of_port attrs (AttrSign name) = attr_sign_ends draft of_port attrs name
attr_ends draft of_port attrs (AttrValue name) = attr_value_ends draft of_port attrs name
attr_ends draft of_port attrs More = more_ends draft of_port attrs

-- each place

pub place_ends : (draft : Draft) (place : Place) → IsLive place → CanEnd (parser_at draft place)
place_ends draft Start h = start_ends draft
place_ends draft (Attributes of_port attrs spot) h = attr_ends draft of_port attrs spot
place_ends draft Title h = title_ends draft
place_ends draft Ports h = ports_end draft
place_ends draft (PortPlace attrs) h = port_ends draft attrs
place_ends draft (Net net spot) h = net_ends draft net spot
place_ends draft AfterPort h = after_port_ends draft
place_ends draft AfterPorts h = after_ports_end draft
place_ends draft Items h = items_end draft
place_ends draft AssignName h = assign_name_ends draft
place_ends draft (AssignSign name) h = assign_sign_ends draft name
place_ends draft (Head at) h = head_ends draft at
place_ends draft ClockedName h = clocked_name_ends draft
place_ends draft (ClockedSign name) h = clocked_sign_ends draft name h
place_ends draft (First name) h = first_ends draft name h
place_ends draft (AfterFirst name first) h = after_first_ends draft name first h
place_ends draft (Else name first) h = else_ends draft name first h
place_ends draft (Branch name first) h = branch_ends draft name first h
place_ends draft (If name first) h = if_ends draft name first h
place_ends draft (Again clocked) h = again_ends draft clocked h
place_ends draft (NextSign clocked) h = next_sign_ends draft clocked
place_ends draft (Expression goal frames spot) h = spot_ends draft goal frames spot h.1 (frames_end draft goal frames (goal_ends draft goal h.0))
place_ends draft (Semicolon item) h = semicolon_ends draft item
place_ends draft (End item) h = end_ends draft item
place_ends draft Done h = done_ends draft

-- lexemes that were read go on to a module
pub ended : (most : ℕ) (lexemes : List (List ℕ)) (parser : Parser) → feed (start most) lexemes ≡ Some parser →
    (more : List (List ℕ)) × (m : Module) × AllLexemes more × (parse parser more ≡ Some m)
ended most lexemes parser e =
    let end : CanEnd parser = place_ends parser.draft parser.place (reached_live most lexemes parser e) in
    (end.more, end.whole, end.lexemes, end.same)

-- what ends a comment
abbrev comment_end : Mode → List ℕ
comment_end Slash = codes "/\n"
comment_end LineComment = codes "\n"
comment_end BlockComment = codes "*/"
comment_end Star = codes "/"
comment_end mode = []

comment_read : (mode : Mode) (bytes : List ℕ) → IsBeyond mode → lexemes_from mode [] (comment_end mode ++ bytes) ≡ lexemes_from Between [] bytes
comment_read Between bytes h = refl
comment_read InWord bytes h = absurd h
comment_read InMark bytes h = absurd h
comment_read Slash bytes h = silent Slash LineComment [] [] 47 (10 ∷ bytes) refl ∙ silent LineComment Between [] [] 10 bytes refl
comment_read LineComment bytes h = silent LineComment Between [] [] 10 bytes refl
comment_read BlockComment bytes h = silent BlockComment Star [] [] 42 (47 ∷ bytes) refl ∙ silent Star Between [] [] 47 bytes refl
comment_read Star bytes h = silent Star Between [] [] 47 bytes refl

-- bytes that give these lexemes, behind what ends neither in a word nor in a mark
abbrev pub end_bytes : Mode → List (List ℕ) → List ℕ
end_bytes mode more = comment_end mode ++ spaced more

pub end_divided : (mode : Mode) (more : List (List ℕ)) → IsBeyond mode → AllLexemes more → lexemes_from mode [] (end_bytes mode more) ≡ Some more
end_divided mode more beyond all = comment_read mode (spaced more) beyond ∙ divided more all

same_end : (lexemes : List (List ℕ)) (mode : Mode) (next : Move) → moved lexemes mode [] ≡ Some next → IsBeyond mode → IsBeyond next.mode × (next.lexeme ≡ [])
same_end lexemes mode next e h =
    let first : Move = record { lexemes = lexemes; mode = mode; lexeme = [] } in
    let same : first ≡ next = cc in
    subst (λ (n : Move). IsBeyond n.mode × (n.lexeme ≡ [])) same (h, refl)

-- and at the end of each line they end in neither
pub line_end : (mode : Mode) (lexeme : List ℕ) (next : Move) → move mode lexeme 10 ≡ Some next → IsBeyond next.mode × (next.lexeme ≡ [])
unfolding class_of
line_end Between lexeme next e = same_end [] Between next e tt
line_end InWord lexeme next e = same_end (lexeme ∷ []) Between next e tt
line_end InMark lexeme next e = same_end (lexeme ∷ []) Between next e tt
line_end Slash lexeme next e = let no : ⊥ = cc in absurd no
line_end LineComment lexeme next e = same_end [] Between next e tt
line_end BlockComment lexeme next e = same_end [] BlockComment next e tt
line_end Star lexeme next e = same_end [] BlockComment next e tt
