-- What the reader's place and registers stand for in the plain reading (own).
use Rattle.std.specs.Prelude.{ℕ, false, List, Option, Some, None}
use Rattle.vl_ast.specs.declared.expressions.Expr.{Expr}
use Rattle.vl_ast.specs.declared.expressions.Sized.{Sized}
use Rattle.vl_ast.specs.declared.expressions.Expr.TheOpen.{Expr-F}
use Rattle.vl_ast.specs.declared.expressions.Expr.TheViews.{roll-Expr}
use Rattle.vl_ast.specs.declared.modules.Attr.{Attr}
use Rattle.vl_ast.specs.declared.modules.ModItem.TheVariants.{Always}
use Rattle.vl_read.specs.declared.places.Spot.{Spot}
use Rattle.vl_read.specs.declared.places.Spot.TheVariants.{Operand, Opened, Braced, Begins, Value, Ends, Amount, Index, High, Low}
use Rattle.vl_read.specs.declared.places.Goal.{Goal}
use Rattle.vl_read.specs.declared.places.Goal.TheVariants.{Assigned, Condition, Next}
use Rattle.vl_read.specs.declared.places.NetKind.{NetKind}
use Rattle.vl_read.specs.declared.places.NetKind.TheVariants.{OfPort, OfItem}
use Rattle.vl_read.specs.declared.places.AttrSpot.{AttrSpot}
use Rattle.vl_read.specs.declared.places.AttrSpot.TheVariants.{AttrName, AttrSign, AttrValue, More}
use Rattle.vl_read.specs.declared.places.Place.{Place}
use Rattle.vl_read.specs.declared.places.Place.TheVariants.{Start, Attributes, Title, Ports, Port as PortPlace, Net, AfterPort, AfterPorts, Items, AssignName, AssignSign, Head, ClockedName, ClockedSign, First, AfterFirst, Else, Branch, If, Again, NextSign, Expression, AfterNet, End, Done}
use Rattle.vl_read.specs.declared.places.Frame.{Frame}
use Rattle.vl_read.specs.declared.places.Draft.{Draft}
use Rattle.vl_read.specs.declared.places.Held.{Held}
use Rattle.vl_read.specs.declared.places.Reader.{Reader}
use Rattle.vl_read.specs.inner.Places as plain
use Rattle.vl_read.specs.inner.Plain.{net_item}

-- what the reader holds where no operand was read
abbrev pub nothing : Expr
nothing = roll-Expr (Expr-F.Literal (record { width = 1; signed = false; bits = 0 }))

-- a place in a list of attributes
abbrev pub attr_spot_seen : List ℕ → AttrSpot → plain.AttrSpot
attr_spot_seen name AttrName = plain.AttrName
attr_spot_seen name AttrSign = plain.AttrSign name
attr_spot_seen name AttrValue = plain.AttrValue name
attr_spot_seen name More = plain.More

-- whose declaration is read
abbrev pub net_seen : List Attr → NetKind → plain.NetKind
net_seen attrs (OfPort input) = plain.OfPort attrs input
net_seen attrs (OfItem is_reg) = plain.OfItem is_reg

-- what an expression is read for
abbrev pub goal_seen : List ℕ → Sized → Option Expr → Goal → plain.Goal
goal_seen name first condition Assigned = plain.Assigned name
goal_seen name first condition Condition = plain.Condition name first
goal_seen name first condition Next =
    plain.Next (record { name = name; first = first; condition = condition })

-- a place in an expression
abbrev pub spot_seen : List ℕ → Expr → Spot → plain.Spot
spot_seen operand value Operand = plain.Operand
spot_seen operand value Opened = plain.Opened
spot_seen operand value Braced = plain.Braced
spot_seen operand value (Begins mark) = plain.Begins mark
spot_seen operand value Value = plain.Value value
spot_seen operand value (Ends mark) = plain.Ends value mark
spot_seen operand value (Amount op) = plain.Amount op value
spot_seen operand value Index = plain.Index operand
spot_seen operand value (High place) = plain.High operand place
spot_seen operand value (Low high) = plain.Low operand high

-- a place in a module
abbrev pub place_seen : Held → Place → plain.Place
place_seen held Start = plain.Start
place_seen held (Attributes of_port at) =
    plain.Attributes of_port held.attrs (attr_spot_seen held.name at)
place_seen held Title = plain.Title
place_seen held Ports = plain.Ports
place_seen held PortPlace = plain.Port held.attrs
place_seen held (Net kind at) = plain.Net (net_seen held.attrs kind) at
place_seen held AfterPort = plain.AfterPort
place_seen held AfterPorts = plain.AfterPorts
place_seen held Items = plain.Items
place_seen held AssignName = plain.AssignName
place_seen held AssignSign = plain.AssignSign held.name
place_seen held (Head at) = plain.Head at
place_seen held ClockedName = plain.ClockedName
place_seen held ClockedSign = plain.ClockedSign held.name
place_seen held First = plain.First held.name
place_seen held AfterFirst = plain.AfterFirst held.name held.first
place_seen held Else = plain.Else held.name held.first
place_seen held Branch = plain.Branch held.name held.first
place_seen held If = plain.If held.name held.first
place_seen held Again =
    plain.Again (record { name = held.name; first = held.first; condition = held.condition })
place_seen held NextSign =
    plain.NextSign (record { name = held.name; first = held.first; condition = held.condition })
place_seen held (Expression spot) =
    plain.Expression (goal_seen held.name held.first held.condition held.goal) held.frames.items
    (spot_seen held.operand held.value spot)
place_seen held (AfterNet is_reg signed width) =
    plain.Semicolon (net_item is_reg signed width held.name)
place_seen held End = plain.End (Always held.name held.first held.condition held.value)
place_seen held Done = plain.Done

-- the state of the plain reading that the reader is in
abbrev pub seen : Reader → plain.Parser
seen reader = record { draft = reader.draft; place = place_seen reader.held reader.place }

-- the state that is next, where the reading goes on at a place
abbrev pub next_seen : Draft → Held → Option Place → Option plain.Parser
next_seen draft held None = None
next_seen draft held (Some place) = Some (record { draft = draft; place = place_seen held place })

-- the same of what the reader holds
abbrev pub next_of : Reader → Option Place → Option plain.Parser
next_of reader next = next_seen reader.draft reader.held next

-- what an expression is read for, as the reader holds it
abbrev pub goal_of : Reader → Goal → plain.Goal
goal_of reader goal = goal_seen reader.held.name reader.held.first reader.held.condition goal

-- and that of the expression that is read
abbrev pub goal_in : Reader → plain.Goal
goal_in reader = goal_of reader reader.held.goal

-- the expressions that are begun, as the reader holds them
abbrev pub frames_of : Reader → List Frame
frames_of reader = reader.held.frames.items

-- a place in them, as the reader holds it
abbrev pub spot_of : Reader → Spot → plain.Spot
spot_of reader spot = spot_seen reader.held.operand reader.held.value spot
