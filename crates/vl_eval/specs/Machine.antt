-- The row that a machine is in, and what it keeps from one row to the next.
use Rattle.std.specs.Prelude.{◌≡◌, ℕ, ◌+◌, ◌^◌, ◌<◌, true, List, length, position, slice_get, slice_index, bytes_eq, codes, Contains, IfSome, Some}
use Rattle.vl_ast.specs.declared.modules.Port.{Port}
use Rattle.vl_ast.specs.declared.modules.Module.{Module}
use Rattle.vl_ast.specs.Nets.{Declared, declarations}
use Rattle.vl_ast.specs.Runs.{Row}
use Rattle.vl_check.specs.Names.{names_of}
use Rattle.vl_eval.specs.declared.machine.Machine.{Machine}
use Rattle.vl_eval.specs.declared.machine.Snapshot.{Snapshot}
use Rattle.vl_eval.specs.inner.Moves.{IsWatch}
use Rattle.vl_eval.specs.inner.Ops.{IsSettled}
use Rattle.vl_eval.specs.inner.PlanOperations.{IsPlanOf}
use Rattle.vl_eval.specs.inner.Site.{slot_at}

-- the module that it was made with
abbrev pub source_of : Machine → Module
source_of machine = machine.source

-- the place of a name's value
abbrev pub slot_of : Machine → List ℕ → ℕ
slot_of machine name =
    slot_at machine.plan.arranged.slots.items (position (bytes_eq name) (names_of machine.source))

-- the bits of each name
abbrev pub row_of : Machine → Row
row_of machine name = slice_index machine.values.items (slot_of machine name)

-- each of these ports has bits that fit it
pub record AreFit (ports : List Port) (bits : List ℕ) : Type 0 where
  pub count : length bits ≡ length ports
  pub narrow : (k : ℕ) (port : Port) → slice_get ports k ≡ Some port
      → slice_index bits k < 2 ^ port.width

-- it is made of a module that breaks no condition, and each of its values is worked out
pub record IsReady (machine : Machine) : Type 0 where
  pub plan_is : IsPlanOf machine.source machine.plan
  pub room : length machine.values.items ≡ machine.plan.base + length machine.plan.arranged.ops
  pub settled : IsSettled machine.plan.base machine.plan.arranged.ops
      (λ k. slice_index machine.values.items k)
  pub fits : (declared : Declared) → Contains (declarations machine.source) declared
      → row_of machine declared.name < 2 ^ declared.net.width
  pub still : (port : Port) → Contains machine.source.ports port → port.input ≡ true
      → bytes_eq port.name (codes "clk") ≡ true → row_of machine port.name ≡ 0
  pub watched : IfSome machine.watch (IsWatch machine.plan)

-- a snapshot has room for the values of the machine (own)
abbrev pub HasRoom : Machine → Snapshot → Type 0
HasRoom machine snapshot =
    length snapshot.values.items ≡ machine.plan.base + length machine.plan.arranged.ops

-- it has the values that the machine has now (own)
abbrev pub HasValues : Machine → Snapshot → Type 0
HasValues machine snapshot = snapshot.values.items ≡ machine.values.items

-- it has the values that the machine has in a row (own)
pub record IsKept (machine : Machine) (snapshot : Snapshot) (row : Row) : Type 0 where
  pub room : HasRoom machine snapshot
  pub row_is : row ≡ (λ name. slice_index snapshot.values.items (slot_of machine name))
