-- The six conditions on a module, tried in this order, each with the first name at fault in the
-- text (own; widths are bounded by 128 so that a value fits the program's numbers).
use Rattle.std.specs.Prelude.{◌≡◌, ℕ, ◌+◌, ◌%◌, ◌^◌, ◌<◌, ◌≤◌, nat_le, nat_lt, Bool, true, false, not, ◌&&◌, ◌||◌, if◌then◌else◌, List, [], ◌∷◌, ◌++◌, map, length, slice_index_or, find, All, Contains, bytes_eq, codes, Option, Some, None, option_map, is_none}
use Rattle.std.specs.List.{list_any, list_all, IsDistinct}
use Rattle.vl_ast.specs.declared.expressions.Sized.{Sized}
use Rattle.vl_ast.specs.declared.expressions.Expr.{Expr}
use Rattle.vl_ast.specs.declared.expressions.Expr.TheOpen.{Expr-F}
use Rattle.vl_ast.specs.declared.expressions.Expr.TheFolds.{para-Expr}
use Rattle.vl_ast.specs.declared.modules.Port.{Port}
use Rattle.vl_ast.specs.declared.modules.ModItem.{ModItem}
use Rattle.vl_ast.specs.declared.modules.ModItem.TheVariants.{Wire, Reg, Assign, Always}
use Rattle.vl_ast.specs.declared.modules.Module.{Module}
use Rattle.vl_ast.specs.Attributes.{cycles_of, period_of, latency_of}
use Rattle.vl_ast.specs.Context.{Net, own_length}
pub use Rattle.vl_ast.specs.Control.{is_bit_input}
use Rattle.vl_ast.specs.Control.{is_control_input, is_control_output, is_stallable}
use Rattle.vl_ast.specs.Nets.{Kind, InputPort, OutputPort, PlainWire, Register, Declared, Mention, Declares, Drives, Reads, Clocks, mentions, names_read, declaration_of, nets_of, place_of}

-- the place declares the name
abbrev pub is_declaration_of : List ℕ → Mention → Bool
is_declaration_of name (Declares declared) = bytes_eq declared.name name
is_declaration_of name (Drives clocked driven) = false
is_declaration_of name (Reads read) = false
is_declaration_of name Clocks = false

-- the place drives the name
abbrev pub is_driver_of : List ℕ → Mention → Bool
is_driver_of name (Declares declared) = false
is_driver_of name (Drives clocked driven) = bytes_eq driven name
is_driver_of name (Reads read) = false
is_driver_of name Clocks = false

-- the place reads the name
abbrev pub is_read_of : List ℕ → Mention → Bool
is_read_of name (Declares declared) = false
is_read_of name (Drives clocked driven) = false
is_read_of name (Reads read) = bytes_eq read name
is_read_of name Clocks = false

-- the name at a place
abbrev pub mentioned : Mention → List ℕ
mentioned (Declares declared) = declared.name
mentioned (Drives clocked name) = name
mentioned (Reads name) = name
mentioned Clocks = codes "clk"

-- the name at the first place at fault, where a test sees what stands before a place
abbrev pub first_fault : (List Mention → Mention → Bool) → List Mention → List Mention
    → Option (List ℕ)
first_fault at_fault before [] = None
first_fault at_fault before (here ∷ after) =
    if at_fault before here then Some (mentioned here)
    else first_fault at_fault (before ++ here ∷ []) after

-- 1. a name that is read or driven isn't declared before, or one that needs a driver has none

-- wires, registers and outputs
abbrev pub needs_driver : Kind → Bool
needs_driver InputPort = false
needs_driver OutputPort = true
needs_driver PlainWire = true
needs_driver Register = true

-- the place breaks the first condition
abbrev pub is_undriven : List Mention → List Mention → Mention → Bool
is_undriven all before (Declares declared) =
    needs_driver declared.kind && not (list_any (is_driver_of declared.name) all)
is_undriven all before (Drives clocked name) = not (list_any (is_declaration_of name) before)
is_undriven all before (Reads name) = not (list_any (is_declaration_of name) before)
is_undriven all before Clocks = false

-- first condition: the first name that is not declared before or lacks its driver
abbrev pub undriven : Module → Option (List ℕ)
undriven m = first_fault (is_undriven (mentions m)) [] (mentions m)

-- 2. a name is declared twice or driven twice, or is driven by what may not drive it

-- whether a clocked item, or else an assignment, may drive it
abbrev pub may_drive : Bool → Kind → Bool
may_drive clocked InputPort = false
may_drive clocked OutputPort = not clocked
may_drive clocked PlainWire = not clocked
may_drive clocked Register = clocked

-- the declaration may be so driven
abbrev pub may_drive_it : Bool → Option Declared → Bool
may_drive_it clocked None = true
may_drive_it clocked (Some declared) = may_drive clocked declared.kind

-- the place breaks the second condition
abbrev pub is_double : Module → List Mention → Mention → Bool
is_double m before (Declares declared) = list_any (is_declaration_of declared.name) before
is_double m before (Drives clocked name) =
    list_any (is_driver_of name) before || not (may_drive_it clocked (declaration_of m name))
is_double m before (Reads name) = false
is_double m before Clocks = false

-- second condition: the first name declared or driven twice, or driven by what may not
abbrev pub doubly : Module → Option (List ℕ)
doubly m = first_fault (is_double m) [] (mentions m)

-- 3. assignments read each other in a cycle

-- the assignment of one name reads the other
pub record AssignmentReads (m : Module) (name read : List ℕ) : Type 0 where
  pub value : Expr
  pub assigned : Contains m.items (Assign name value)
  pub reads : Contains (names_read value) read

-- the names are different, the assignment of each reads the next and that of the last reads the
-- first, and the first is the one that stands first in the text
pub record IsLoop (m : Module) (first : List ℕ) (others : List (List ℕ)) : Type 0 where
  pub reads : (k : ℕ) → k < length (first ∷ others)
      → AssignmentReads m (slice_index_or (first ∷ others) k [])
      (slice_index_or (first ∷ others) ((k + 1) % length (first ∷ others)) [])
  pub different : IsDistinct bytes_eq (first ∷ others)
  pub begun : All (λ other. place_of m first ≤ place_of m other) others

-- 4. a width isn't 1 to 128, or an item holds a faulty select, number, repetition or context

-- 1 to 128
abbrev pub is_width : ℕ → Bool
is_width width = nat_le 1 width && nat_le width 128

-- a literal of such a width, with digits below 2 to the width
abbrev pub is_number : Sized → Bool
is_number number = is_width number.width && nat_lt number.bits (2 ^ number.width)

-- an operand that is sound, and not longer than 128 bits by itself: so no context is
abbrev pub is_narrow : (List ℕ → Net) → Expr × Bool → Bool
is_narrow nets operand = operand.1 && nat_le (own_length nets operand.0) 128

-- `is_sound` by the form of an expression
abbrev pub is_sound_step : (List ℕ → Net) → Expr-F (Expr × Bool) → Bool
is_sound_step nets (Expr-F.Name name) = true
is_sound_step nets (Expr-F.Bit name place) =
    nat_lt 1 (nets name).width && nat_lt place (nets name).width
is_sound_step nets (Expr-F.Part name high low) =
    nat_lt 1 (nets name).width && nat_le low high && nat_lt high (nets name).width
is_sound_step nets (Expr-F.Literal number) = is_number number
is_sound_step nets (Expr-F.Concat parts) = list_all (is_narrow nets) parts
is_sound_step nets (Expr-F.Repeat count part) = nat_lt 0 count && is_narrow nets part
is_sound_step nets (Expr-F.AsSigned part) = is_narrow nets part
is_sound_step nets (Expr-F.AsUnsigned part) = is_narrow nets part
is_sound_step nets (Expr-F.Unary op part) = is_narrow nets part
is_sound_step nets (Expr-F.Binary op left right) = is_narrow nets left && is_narrow nets right
is_sound_step nets (Expr-F.Shift op part amount) = is_narrow nets part && is_number amount
is_sound_step nets (Expr-F.Choose test chosen other) =
    is_narrow nets test && is_narrow nets chosen && is_narrow nets other

-- no select, literal, repetition or length of the expression is at fault
abbrev pub is_sound : (List ℕ → Net) → Expr → Bool
is_sound nets e = is_narrow nets (e, para-Expr Bool (is_sound_step nets) e)

-- the same of a condition
abbrev pub is_sound_condition : (List ℕ → Net) → Option Expr → Bool
is_sound_condition nets None = true
is_sound_condition nets (Some condition) = is_sound nets condition

-- the same of an item
abbrev pub is_sound_item : (List ℕ → Net) → ModItem → Bool
is_sound_item nets (Wire signed width name) = is_width width
is_sound_item nets (Reg signed width name) = is_width width
is_sound_item nets (Assign name value) = is_sound nets value
is_sound_item nets (Always name first condition value) =
    is_number first && is_sound_condition nets condition && is_sound nets value

-- the name that an item declares or drives
abbrev pub item_name : ModItem → List ℕ
item_name (Wire signed width name) = name
item_name (Reg signed width name) = name
item_name (Assign name value) = name
item_name (Always name first condition value) = name

-- each port and item, and whether its widths are sound
abbrev pub soundness : Module → List (List ℕ × Bool)
soundness m =
    map (λ port. (port.name, is_width port.width)) m.ports
    ++ map (λ item. (item_name item, is_sound_item (nets_of m) item)) m.items

-- fourth condition: the first port or item with a width at fault
abbrev pub too_wide : Module → Option (List ℕ)
too_wide m = option_map (λ part. part.0) (find (λ part. not part.1) (soundness m))

-- 5. `clk` and `reset` aren't both unsigned inputs of one bit, or `clk` is read

-- `clk` is no such input, or is read
abbrev pub is_clk_at_fault : Module → Bool
is_clk_at_fault m =
    not (list_any (is_bit_input (codes "clk")) m.ports)
    || list_any (is_read_of (codes "clk")) (mentions m)

-- `reset` is no such input
abbrev pub is_reset_at_fault : Module → Bool
is_reset_at_fault m = not (list_any (is_bit_input (codes "reset")) m.ports)

-- of both the one that stands first in the text, and `clk` where neither does
abbrev pub no_reset : Module → Option (List ℕ)
no_reset m =
    if is_clk_at_fault m && is_reset_at_fault m
    then Some (if nat_le (place_of m (codes "clk")) (place_of m (codes "reset")) then codes "clk"
    else codes "reset")
    else (if is_clk_at_fault m then Some (codes "clk")
    else (if is_reset_at_fault m then Some (codes "reset") else None))

-- 6. the module or a port that carries numbers lacks an attribute in its range

-- the port of a module that stalls or doesn't lacks an attribute in its range
abbrev pub lacks_attribute : Bool → Port → Bool
lacks_attribute stalls port =
    if port.input then not (is_control_input stalls port) && is_none (period_of port)
    else not (is_control_output stalls port)
    && (is_none (period_of port) || is_none (latency_of port))

-- sixth condition: the module or the first port that carries numbers and lacks an attribute in its
-- range
abbrev pub no_attribute : Module → Option (List ℕ)
no_attribute m =
    if is_none (cycles_of m) then Some m.name
    else option_map (λ port. port.name) (find (lacks_attribute (is_stallable m)) m.ports)

-- a broken condition, with the name or the names that it shows
pub data Fault : Type 0 where
  Undriven : List ℕ → Fault
  Doubly : List ℕ → Fault
  CombLoop : List (List ℕ) → Fault
  TooWide : List ℕ → Fault
  NoReset : List ℕ → Fault
  NoAttribute : List ℕ → Fault

-- a list of names that is a loop
abbrev pub IsLoopList : Module → List (List ℕ) → Type 0
IsLoopList m [] = ⊥
IsLoopList m (first ∷ others) = IsLoop m first others

-- no conditions before the fourth are broken
pub record IsAcyclic (m : Module) : Type 0 where
  pub driven : undriven m ≡ None
  pub once : doubly m ≡ None
  pub acyclic : (first : List ℕ) (others : List (List ℕ)) → ¬ IsLoop m first others

-- the condition is broken, with these names, and none before it is
abbrev pub IsFirstFault : Module → Fault → Type 0
IsFirstFault m (Undriven name) = undriven m ≡ Some name
IsFirstFault m (Doubly name) = (undriven m ≡ None) × (doubly m ≡ Some name)
IsFirstFault m (CombLoop names) = (undriven m ≡ None) × (doubly m ≡ None) × IsLoopList m names
IsFirstFault m (TooWide name) = IsAcyclic m × (too_wide m ≡ Some name)
IsFirstFault m (NoReset name) = IsAcyclic m × (too_wide m ≡ None) × (no_reset m ≡ Some name)
IsFirstFault m (NoAttribute name) =
    IsAcyclic m × (too_wide m ≡ None) × (no_reset m ≡ None) × (no_attribute m ≡ Some name)

-- a module that breaks no condition
pub record BreaksNone (m : Module) : Type 0 where
  pub acyclic : IsAcyclic m
  pub narrow : too_wide m ≡ None
  pub clocked : no_reset m ≡ None
  pub attributed : no_attribute m ≡ None
