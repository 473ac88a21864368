-- The operations of a module's assignments and registers, while they are added, by the numbers of
-- names.
use Rattle.std.specs.Prelude.{◌≡◌, ◌⊎◌, ℕ, ◌+◌, ◌^◌, ◌<◌, ◌≤◌, ◌==◌, ◌||◌, List, [], length, map, slice_get, slice_index, slice_index_or, Contains, Option, None, Some, option_and_then}
use Rattle.vl_ast.specs.declared.expressions.Sized.{Sized}
use Rattle.vl_ast.specs.declared.expressions.Expr.{Expr}
use Rattle.vl_ast.specs.declared.modules.Port.{Port}
use Rattle.vl_ast.specs.declared.modules.ModItem.{ModItem}
use Rattle.vl_ast.specs.declared.modules.ModItem.TheVariants.{Wire, Reg, Assign, Always}
use Rattle.vl_ast.specs.declared.modules.Module.{Module}
use Rattle.vl_ast.specs.Conditions.{BreaksNone}
use Rattle.vl_ast.specs.Driven.{output_ports}
use Rattle.vl_ast.specs.Nets.{Declared, declarations}
use Rattle.vl_ast.specs.Value.{assigned}
use Rattle.vl_check.specs.declared.checking.Checked.{Checked}
use Rattle.vl_check.specs.declared.scope.Scope.{Scope}
use Rattle.vl_check.specs.Ordering.{IsOrdering}
use Rattle.vl_check.specs.Scope.{IsScopeOf, names_in, nets_in, number_in}
use Rattle.vl_eval.specs.Given.{driven_ports}
use Rattle.vl_eval.specs.declared.arranging.Arranged.{Arranged}
use Rattle.vl_eval.specs.declared.ops.Op.{Op}
use Rattle.vl_eval.specs.declared.plan.Assignment.{Assignment}
use Rattle.vl_eval.specs.declared.plan.Capture.{Capture}
use Rattle.vl_eval.specs.declared.plan.Output.{Output}
use Rattle.vl_eval.specs.declared.plan.Plan.{Plan}
use Rattle.vl_eval.specs.inner.Assigns.{next_in}
use Rattle.vl_eval.specs.inner.Ops.{IsSettled}
use Rattle.vl_eval.specs.inner.Steps.{AreConstants}
use Rattle.vl_eval.specs.inner.PlaceBits.{Grows, row_of}
use Rattle.vl_eval.specs.inner.Site.{slot_in}

-- the numbers below a count
pub record AreNumbers (count : ℕ) (numbers : List ℕ) : Type 0 where
  pub long : length numbers ≡ count
  pub at : (k : ℕ) → k < count → slice_index numbers k ≡ k

-- the row that values in places are
abbrev pub row_in : Scope → List ℕ → (ℕ → ℕ) → List ℕ → ℕ
row_in scope slots values = row_of (slot_in scope slots) values

-- no item assigns the name
abbrev pub IsFixed : Module → List ℕ → Type 0
IsFixed m name = (value : Expr) → ¬ Contains m.items (Assign name value)

-- some item does
abbrev pub IsAssigned : Module → List ℕ → Type 0
IsAssigned m name = (value : Expr) × Contains m.items (Assign name value)

-- the declared names that no assignment gives their bits have bits that fit
pub record FixedFit (m : Module) (scope : Scope) (row : List ℕ → ℕ) : Type 0 where
  pub at : (d : Declared) → Contains (declarations m) d → IsFixed m d.name
      → row d.name < 2 ^ (nets_in scope d.name).width

-- a name has its assignment's value
pub record IsGiven (m : Module) (scope : Scope) (slots : List ℕ) (ops : List Op) (name : List ℕ)
    (value : Expr) : Type 0 where
  pub is : (values : ℕ → ℕ) → IsSettled (length (names_in scope)) ops values
      → FixedFit m scope (row_in scope slots values)
      → row_in scope slots values name
      ≡ assigned (nets_in scope) (row_in scope slots values) (nets_in scope name).width value

-- the assignments of the first so many numbers in the order have their operations
pub record IsWired (m : Module) (scope : Scope) (order : List ℕ) (places : List (Option ℕ))
    (count : ℕ) (slots : List ℕ) (ops : List Op) : Type 0 where
  pub grows : Grows (length (names_in scope)) [] ops
  pub long : length slots ≡ length (names_in scope)
  pub below : (k : ℕ) → k < length (names_in scope)
      → slice_index slots k < length (names_in scope) + length ops
  pub fixed : (k : ℕ) → k < length (names_in scope) → slice_index_or places k None ≡ None
      → slice_index slots k ≡ k
  pub given : (q j : ℕ) (name : List ℕ) (value : Expr) → q < count
      → slice_index_or places (slice_index order q) None ≡ Some j
      → slice_get m.items j ≡ Some (Assign name value)
      → IsGiven m scope slots ops name value

-- all assignments have their operations
pub record AreWired (m : Module) (scope : Scope) (slots : List ℕ) (ops : List Op) : Type 0 where
  pub grows : Grows (length (names_in scope)) [] ops
  pub long : length slots ≡ length (names_in scope)
  pub below : (k : ℕ) → k < length (names_in scope)
      → slice_index slots k < length (names_in scope) + length ops
  pub fixed : (name : List ℕ) (k : ℕ) → number_in scope name ≡ Some k → IsFixed m name
      → slice_index slots k ≡ k
  pub given : (name : List ℕ) (value : Expr) → Contains m.items (Assign name value)
      → IsGiven m scope slots ops name value
  pub either : (name : List ℕ) (k : ℕ) → number_in scope name ≡ Some k → IsAssigned m name
      ⊎ IsFixed m name

-- what a register takes is at a place behind the names'
pub record IsCaptured (m : Module) (scope : Scope) (slots : List ℕ) (ops : List Op)
    (capture : Capture) (name : List ℕ) (first : Sized) (condition : Option Expr)
    (value : Expr) : Type 0 where
  pub to : capture.to ≡ slot_in scope slots name
  pub above : length (names_in scope) ≤ capture.from
  pub below : capture.from < length (names_in scope) + length ops
  pub is : (values : ℕ → ℕ) → IsSettled (length (names_in scope)) ops values
      → FixedFit m scope (row_in scope slots values)
      → values capture.from
      ≡ next_in (nets_in scope) (row_in scope slots values) name first condition value

-- each register of these items has what it takes, and nothing else is captured
pub record AreCaptured (m : Module) (scope : Scope) (slots : List ℕ) (passed : List ModItem)
    (before after : List Op) (captures : List Capture) : Type 0 where
  pub grows : Grows (length (names_in scope)) before after
  pub each : (name : List ℕ) (first : Sized) (condition : Option Expr) (value : Expr)
      → Contains passed (Always name first condition value)
      → (c : Capture) × Contains captures c
      × IsCaptured m scope slots after c name first condition value
  pub only : (c : Capture) → Contains captures c
      → (name : List ℕ) × (first : Sized) × (condition : Option Expr) × (value : Expr)
      × Contains passed (Always name first condition value)
      × IsCaptured m scope slots after c name first condition value

-- the assignment at the place that a number has
abbrev pub as_assignment : Option ModItem → Option (List ℕ × Expr)
as_assignment None = None
as_assignment (Some (Wire signed width name)) = None
as_assignment (Some (Reg signed width name)) = None
as_assignment (Some (Assign name value)) = Some (name, value)
as_assignment (Some (Always name first condition value)) = None

abbrev pub assignment_at : List ModItem → List (Option ℕ) → ℕ → Option (List ℕ × Expr)
assignment_at items places number =
    option_and_then (λ place. as_assignment (slice_get items place))
    (slice_index_or places number None)

abbrev pub the_assignment : Assignment → List ℕ × Expr
the_assignment assignment = (assignment.name.now, assignment.value.now)

-- the place of a port, and how an output is read
abbrev pub slot_of_port : Scope → List ℕ → Port → ℕ
slot_of_port scope slots port = slot_in scope slots port.name

abbrev pub output_of : Scope → List ℕ → Port → Output
output_of scope slots port =
    record {
      slot = slot_of_port scope slots port;
      width = port.width;
      signed = port.signed
          || port.width == 128;
    }

-- what trying the six conditions gives of a module that breaks none
pub record IsChecked (m : Module) (checked : Checked) : Type 0 where
  pub sound : BreaksNone m
  pub scope : IsScopeOf m checked.scope
  pub order : IsOrdering m checked.scope checked.order.items checked.places.items

-- the operations of a module's assignments and registers, in some order
pub record AreOperations (m : Module) (scope : Scope) (arranged : Arranged) : Type 0 where
  pub wires : List Op
  pub wired : AreWired m scope arranged.slots.items wires
  pub captured : AreCaptured m scope arranged.slots.items m.items wires arranged.ops
      arranged.captures.items

-- the operations of a module, and where its names have their values
pub record IsPlan (m : Module) (scope : Scope) (plan : Plan) : Type 0 where
  pub base : plan.base ≡ length (names_in scope)
  pub wires : List Op
  pub wired : AreWired m scope plan.arranged.slots.items wires
  pub captured : AreCaptured m scope plan.arranged.slots.items m.items wires plan.arranged.ops
      plan.arranged.captures.items
  pub constants : AreConstants plan.constants plan.arranged.ops
  pub inputs : plan.inputs.items
      ≡ map (slot_of_port scope plan.arranged.slots.items) (driven_ports m)
  pub outputs : plan.outputs.items
      ≡ map (output_of scope plan.arranged.slots.items) (output_ports m)

-- a plan of a module that breaks no condition
pub record IsPlanOf (m : Module) (plan : Plan) : Type 0 where
  pub sound : BreaksNone m
  pub scope : Scope
  pub scope_is : IsScopeOf m scope
  pub plan_is : IsPlan m scope plan
