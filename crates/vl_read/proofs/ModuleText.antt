-- What was read of a module, where its reading stands.
use Rattle.std.proofs.Common.{◌≡◌, ◌≢◌, ℕ, ◌-◌, ◌<◌, ◌≤◌, Bool, true, false, List, [], ◌∷◌, ◌++◌, map, take, length, Contains, codes}
use Rattle.std.specs.List.{AllZip, flat_map}
use Rattle.vl_ast.specs.declared.expressions.Sized.{Sized}
use Rattle.vl_ast.specs.declared.designs.Instance.{Instance}
use Rattle.vl_ast.specs.declared.modules.Attr.{Attr}
use Rattle.vl_ast.specs.declared.modules.Module.{Module}
use Rattle.vl_ast.specs.Spelling.{joined}
use Rattle.vl_ast.specs.Tokens.{Token, Key, Sign, Identifier, Number, Based}
use Rattle.vl_ast.specs.Grammar.{comma, attr_tokens, attrs_tokens, signed_tokens, IsPortText, condition_tokens, IsCondition, IsItemText}
use Rattle.vl_ast.specs.Instances.{BodyPart, IsTopText, instance_parts, instance_tokens, item_parts, part_tokens}
use Rattle.vl_read.specs.declared.places.Frame.{Frame}
use Rattle.vl_read.specs.inner.Designs.{module_of}
use Rattle.vl_read.specs.inner.Places.{Spot, Goal, NetKind, AttrSpot, Place}
use Rattle.vl_read.specs.inner.Places.Goal.{Assigned, Condition, Next}
use Rattle.vl_read.specs.inner.Places.NetKind.{OfPort, OfItem}
use Rattle.vl_read.specs.declared.places.NetSpot.{NetSpot}
use Rattle.vl_read.specs.declared.places.NetSpot.TheVariants.{Word, Signed, Ranged, Bound, Colon, Zero, Close, Named}
use Rattle.vl_read.specs.inner.Places.AttrSpot.{AttrName, AttrSign, AttrValue, More}
use Rattle.vl_read.specs.inner.Places.Place.{Start, Attributes, Title, Ports, Port as PortPlace, Net, AfterPort, AfterPorts, Items, AssignName, AssignSign, Head, ClockedName, ClockedSign, First}
use Rattle.vl_read.specs.inner.Places.Place.{AfterFirst, Else, Branch, If, Again, NextSign, Expression, Semicolon, End, Done}
use Rattle.vl_read.specs.declared.places.Draft.{Draft}
use Rattle.vl_read.specs.declared.places.HeadSpot.{HeadSpot}
use Rattle.vl_read.specs.declared.places.HeadSpot.TheVariants.{Event, OpenEvent, Posedge, Clock, CloseEvent, Begin, Test, OpenTest, Reset, CloseTest}
use Rattle.vl_read.proofs.ModuleTokens.{direction, item_word, named_tokens, always_tokens}
use Rattle.vl_read.proofs.ExpressionText.{before_next, Begun}

-- the text before a spot of a list of attributes. After a number, both ways to go on are told
abbrev pub IsAttrText : List Attr → AttrSpot → List Token → Type 0
IsAttrText attrs AttrName text = text ≡ Sign (codes "(*") ∷ before_next (map attr_tokens attrs)
IsAttrText attrs (AttrSign name) text = text ≡ Sign (codes "(*") ∷ (before_next (map attr_tokens attrs) ++ Identifier name ∷ [])
IsAttrText attrs (AttrValue name) text = text ≡ Sign (codes "(*") ∷ (before_next (map attr_tokens attrs) ++ Identifier name ∷ Sign (codes "=") ∷ [])
IsAttrText attrs More text =
    (text ++ comma ≡ Sign (codes "(*") ∷ before_next (map attr_tokens attrs)) × (text ++ Sign (codes "*)") ∷ [] ≡ attrs_tokens attrs)

-- the words of a declaration
abbrev pub net_words : NetKind → List Token
net_words (OfPort attrs input) = Key (direction input) ∷ Key (codes "wire") ∷ []
net_words (OfItem is_reg) = Key (item_word is_reg) ∷ []

-- the text before a spot of a declaration
abbrev pub IsNetText : NetKind → NetSpot → List Token → Type 0
IsNetText net Word text = text ++ Key (codes "wire") ∷ [] ≡ net_words net
IsNetText net Signed text = text ≡ net_words net
IsNetText net (Ranged signed) text = text ≡ net_words net ++ signed_tokens signed
IsNetText net (Bound signed) text = text ≡ net_words net ++ (signed_tokens signed ++ Sign (codes "[") ∷ [])
IsNetText net (Colon signed width) text = (0 < width) × (text ≡ net_words net ++ (signed_tokens signed ++ Sign (codes "[") ∷ Number (width - 1) ∷ []))
IsNetText net (Zero signed width) text = (0 < width) × (text ≡ net_words net ++ (signed_tokens signed ++ Sign (codes "[") ∷ Number (width - 1) ∷ Sign (codes ":") ∷ []))
IsNetText net (Close signed width) text =
    (0 < width) × (text ≡ net_words net ++ (signed_tokens signed ++ Sign (codes "[") ∷ Number (width - 1) ∷ Sign (codes ":") ∷ Key (codes "0") ∷ []))
IsNetText net (Named signed width) text =
    (0 < width) × (text ≡ net_words net ++ (signed_tokens signed ++ Sign (codes "[") ∷ Number (width - 1) ∷ Sign (codes ":") ∷ Key (codes "0") ∷ Sign (codes "]") ∷ []))

-- the words of an item with a clock before its name
abbrev pub head_tokens : List Token
head_tokens =
    Key (codes "always") ∷ Sign (codes "@") ∷ Sign (codes "(") ∷ Key (codes "posedge") ∷ Key (codes "clk")
    ∷ Sign (codes ")") ∷ Key (codes "begin") ∷ Key (codes "if") ∷ Sign (codes "(") ∷ Key (codes "reset")
    ∷ Sign (codes ")") ∷ []

-- those before one of the head
abbrev pub head_before : HeadSpot → List Token
head_before Event = take 1 head_tokens
head_before OpenEvent = take 2 head_tokens
head_before Posedge = take 3 head_tokens
head_before Clock = take 4 head_tokens
head_before CloseEvent = take 5 head_tokens
head_before Begin = take 6 head_tokens
head_before Test = take 7 head_tokens
head_before OpenTest = take 8 head_tokens
head_before Reset = take 9 head_tokens
head_before CloseTest = take 10 head_tokens

-- all of them up to `else`
abbrev pub clocked_tokens : List ℕ → Sized → List Token
clocked_tokens name first = always_tokens name first []

-- the text of an item before an expression
abbrev pub goal_tokens : Goal → List Token
goal_tokens (Assigned name) = Key (codes "assign") ∷ Identifier name ∷ Sign (codes "=") ∷ []
goal_tokens (Condition name first) = clocked_tokens name first ++ (Key (codes "if") ∷ Sign (codes "(") ∷ [])
goal_tokens (Next clocked) = clocked_tokens clocked.name clocked.first ++ (condition_tokens clocked.condition ++ Identifier clocked.name ∷ Sign (codes "<=") ∷ [])

-- the condition before the expression is one of the grammar
abbrev pub IsGoal : Goal → Type 0
IsGoal (Assigned name) = Unit {0}
IsGoal (Condition name first) = Unit {0}
IsGoal (Next clocked) = IsCondition clocked.condition

-- the text of an item before a spot of its expression
pub record ExpressionAt (goal : Goal) (frames : List Frame) (spot : Spot) (text : List Token) : Type 0 where
  pub own : List Token
  pub is : text ≡ goal_tokens goal ++ own
  pub goal_is : IsGoal goal
  pub begun : Begun frames spot own

-- the text of an item before a place
abbrev pub IsBegunItem : Place → List Token → Type 0
IsBegunItem AssignName text = text ≡ Key (codes "assign") ∷ []
IsBegunItem (AssignSign name) text = text ≡ Key (codes "assign") ∷ Identifier name ∷ []
IsBegunItem (Head at) text = text ≡ head_before at
IsBegunItem ClockedName text = text ≡ head_tokens
IsBegunItem (ClockedSign name) text = text ≡ named_tokens name []
IsBegunItem (First name) text = text ≡ named_tokens name (Sign (codes "<=") ∷ [])
IsBegunItem (AfterFirst name first) text = text ≡ named_tokens name (Sign (codes "<=") ∷ Based first ∷ [])
IsBegunItem (Else name first) text = text ≡ named_tokens name (Sign (codes "<=") ∷ Based first ∷ Sign (codes ";") ∷ [])
IsBegunItem (Branch name first) text = text ≡ clocked_tokens name first
IsBegunItem (If name first) text = text ≡ clocked_tokens name first ++ Key (codes "if") ∷ []
IsBegunItem (Again clocked) text = IsCondition clocked.condition × (text ≡ clocked_tokens clocked.name clocked.first ++ condition_tokens clocked.condition)
IsBegunItem (NextSign clocked) text =
    IsCondition clocked.condition × (text ≡ clocked_tokens clocked.name clocked.first ++ (condition_tokens clocked.condition ++ Identifier clocked.name ∷ []))
IsBegunItem (Expression goal frames spot) text = ExpressionAt goal frames spot text
IsBegunItem (Semicolon item) text = IsItemText item (text ++ Sign (codes ";") ∷ [])
IsBegunItem (End item) text = IsItemText item (text ++ Key (codes "end") ∷ [])
IsBegunItem place text = ⊥

-- the module's text before its ports
abbrev pub opened_tokens : Draft → List Token
opened_tokens draft = attrs_tokens draft.attrs ++ (Key (codes "module") ∷ Identifier draft.name ∷ Sign (codes "(") ∷ [])

-- what stands beside the draft of a module: how many items it may have, and the instances that were read in it
pub record Given : Type 0 where
  pub most : ℕ
  pub instances : List Instance

-- nothing but attributes and the name was read
pub record BeforePorts (given : Given) (draft : Draft) : Type 0 where
  pub no_ports : draft.ports ≡ []
  pub no_items : draft.items ≡ []
  pub no_instances : given.instances ≡ []
  pub kept : draft.most ≡ given.most

-- the ports so far were read, and of the next one its own tokens
pub record AtPort (given : Given) (draft : Draft) (own text : List Token) : Type 0 where
  pub ports : List (List Token)
  pub each_port : AllZip IsPortText draft.ports ports
  pub no_items : draft.items ≡ []
  pub no_instances : given.instances ≡ []
  pub kept : draft.most ≡ given.most
  pub is : text ≡ opened_tokens draft ++ (before_next ports ++ own)

-- the tokens of all ports, and of the items and instances so far
pub record BodyParts (given : Given) (draft : Draft) : Type 0 where
  pub ports : List (List Token)
  pub parts : List BodyPart
  pub has_port : draft.ports ≢ []
  pub has_link : (i : Instance) → Contains given.instances i → i.links ≢ []
  pub each_port : AllZip IsPortText draft.ports ports
  pub each_item : AllZip IsItemText draft.items (item_parts parts)
  pub each_instance : instance_parts parts ≡ map instance_tokens given.instances
  pub kept : draft.most ≡ given.most
  pub room : length draft.items ≤ given.most

-- they were read, and of the next item its own tokens
pub record InBody (given : Given) (draft : Draft) (own text : List Token) : Type 0 where
  pub parts : BodyParts given draft
  pub is : text ≡ opened_tokens draft ++ (joined comma parts.ports ++ (Sign (codes ")") ∷ Sign (codes ";") ∷ (flat_map part_tokens parts.parts ++ own)))

-- the same where one more item has room
pub record InItem (given : Given) (draft : Draft) (own text : List Token) : Type 0 where
  pub body : InBody given draft own text
  pub room : length draft.items < given.most

-- an item is begun up to a place
pub record ItemAt (given : Given) (draft : Draft) (place : Place) (text : List Token) : Type 0 where
  pub own : List Token
  pub around : InItem given draft own text
  pub is : IsBegunItem place own

-- what stands around a list of attributes
abbrev pub AroundAttrs : Given → Draft → Bool → List Token → List Token → Type 0
AroundAttrs given draft true own text = AtPort given draft own text
AroundAttrs given draft false own text = BeforePorts given draft × (text ≡ own)

-- a list of attributes is begun up to a spot
pub record AttrsAt (given : Given) (draft : Draft) (of_port : Bool) (attrs : List Attr) (at : AttrSpot) (text : List Token) : Type 0 where
  pub own : List Token
  pub around : AroundAttrs given draft of_port own text
  pub is : IsAttrText attrs at own

-- what stands around a declaration
abbrev pub AroundNet : Given → Draft → NetKind → List Token → List Token → Type 0
AroundNet given draft (OfPort attrs input) own text = AtPort given draft (attrs_tokens attrs ++ own) text
AroundNet given draft (OfItem is_reg) own text = InItem given draft own text

-- a declaration is begun up to a spot
pub record NetAt (given : Given) (draft : Draft) (net : NetKind) (at : NetSpot) (text : List Token) : Type 0 where
  pub own : List Token
  pub around : AroundNet given draft net own text
  pub is : IsNetText net at own

-- the text is one of the module, which has at given so many items
pub record Whole (given : Given) (m : Module) (text : List Token) : Type 0 where
  pub is : IsTopText m given.instances text
  pub room : length m.items ≤ given.most

-- the text before a place
abbrev pub Has : Given → Draft → Place → List Token → Type 0
Has given draft Start text = BeforePorts given draft × (text ≡ attrs_tokens draft.attrs)
Has given draft (Attributes of_port attrs at) text = AttrsAt given draft of_port attrs at text
Has given draft Title text = BeforePorts given draft × (text ≡ attrs_tokens draft.attrs ++ Key (codes "module") ∷ [])
Has given draft Ports text = BeforePorts given draft × (text ≡ attrs_tokens draft.attrs ++ Key (codes "module") ∷ Identifier draft.name ∷ [])
Has given draft (PortPlace attrs) text = AtPort given draft (attrs_tokens attrs) text
Has given draft (Net net at) text = NetAt given draft net at text
Has given draft AfterPort text = AtPort given draft [] (text ++ comma) × InBody given draft [] (text ++ Sign (codes ")") ∷ Sign (codes ";") ∷ [])
Has given draft AfterPorts text = InBody given draft [] (text ++ Sign (codes ";") ∷ [])
Has given draft Items text = InBody given draft [] text
Has given draft Done text = (draft.most ≡ given.most) × Whole given (module_of draft) text
Has given draft place text = ItemAt given draft place text
