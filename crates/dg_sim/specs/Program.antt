-- What the rules of a program's cells give, from the values of the cells before, from what is kept
-- and from a row of numbers (own).
use Rattle.std.specs.Prelude.{◌≡◌, ℕ, ◌+◌, ◌≤◌, ◌<◌, ℤ, pos, int_lt, Bool, true, false, if◌then◌else◌, List, map, take, drop, length, slice_get, slice_index_or, unwrap_or, Option, Some, None, ⊤}
use Rattle.std.specs.List.{list_any}
use Rattle.std.specs.Ordering.{int_eq}
use Rattle.dg_model.specs.Operation.{Operation, OpGives, CanCarryOut, stored_truth}
use Rattle.dg_model.specs.Hits.{is_hit}
use Rattle.dg_sim.specs.declared.program.Work.{Work}
use Rattle.dg_sim.specs.declared.program.Rule.{Rule}
use Rattle.dg_sim.specs.declared.program.Rule.TheVariants.{Input, Fixed, Same, Works, Above, Past, Slower, Held, Reset}
use Rattle.dg_sim.specs.declared.program.Program.{Program}
use Rattle.dg_tables.specs.State.{Move, Stay, Count, Forget}

-- the value of a cell in a row; past the end 0
abbrev pub value_at : List ℤ → ℕ → ℤ
value_at row cell = slice_index_or row cell (pos 0)

-- so many items of a list from one on
abbrev pub part : {A : Type 0} → List A → ℕ → ℕ → List A
part items first count = take count (drop first items)

-- the operation of a work
abbrev pub operation_at : Program → Work → Operation
operation_at program work = record {
  op = work.op;
  signs = part program.signs work.first_sign work.signs;
  types = part program.types work.first work.count;
  result = work.result;
  rounding = work.rounding;
  saturate = work.saturate;
}

-- the values of so many of the program's arguments
abbrev pub looked_at : Program → (ℕ → ℤ) → ℕ → ℕ → List ℤ
looked_at program look first count = map look (part program.args first count)

-- a kept value, or the initial one
abbrev pub kept_or : List ℤ → ℕ → ℤ → ℤ
kept_or kept age initial = unwrap_or (slice_get kept age) initial

-- a control is on; without one it always is
abbrev pub is_on : (ℕ → ℤ) → Option ℕ → Bool
is_on look None = true
is_on look (Some control) = int_eq (look control) (pos 1)

-- v is what a rule gives at t, where cells have these values, memories keep these lists, and this
-- is the row of the root inputs
abbrev pub Gives : Program → (ℕ → ℤ) → (ℕ → List ℤ) → List ℤ → ℕ → Rule → ℤ → Type 0
Gives program look kept row t (Input column) v = v ≡ value_at row column
Gives program look kept row t (Fixed value) v = v ≡ value
Gives program look kept row t (Same from) v = v ≡ look from
Gives program look kept row t (Works work) v =
    OpGives (operation_at program work) (looked_at program look work.first work.count) v
Gives program look kept row t (Above first count) v =
    v ≡ stored_truth (list_any (λ x. int_lt (pos 0) x) (looked_at program look first count))
Gives program look kept row t (Past memory age initial) v = v ≡ kept_or (kept memory) age initial
Gives program look kept row t (Slower memory period initial) v =
    v ≡ kept_or (kept memory) (if is_hit period t then 0 else 1) initial
Gives program look kept row t (Held memory from control initial) v =
    v ≡ (if is_on look (Some control) then look from else kept_or (kept memory) 0 initial)
Gives program look kept row t (Reset from control initial) v =
    v ≡ (if is_on look (Some control) then look from else initial)

-- a rule can be carried out on these values
abbrev pub CanGive : Program → (ℕ → ℤ) → Rule → Type 0
CanGive program look (Input column) = ⊤
CanGive program look (Fixed value) = ⊤
CanGive program look (Same from) = ⊤
CanGive program look (Works work) =
    (work.count ≤ 32) × (work.first + work.count ≤ length program.args)
    × (work.first + work.count ≤ length program.types)
    × (work.first_sign + work.signs ≤ length program.signs)
    × CanCarryOut (operation_at program work) (looked_at program look work.first work.count)
CanGive program look (Above first count) = first + count ≤ length program.args
CanGive program look (Past memory age initial) = ⊤
CanGive program look (Slower memory period initial) = ⊤
CanGive program look (Held memory from control initial) = ⊤
CanGive program look (Reset from control initial) = ⊤

-- what a rule names is there
abbrev pub IsWithin : Program → Rule → Type 0
IsWithin program (Input column) = ⊤
IsWithin program (Fixed value) = ⊤
IsWithin program (Same from) = ⊤
IsWithin program (Works work) =
    (work.first + work.count ≤ length program.args)
    × (work.first + work.count ≤ length program.types)
    × (work.first_sign + work.signs ≤ length program.signs)
IsWithin program (Above first count) = first + count ≤ length program.args
IsWithin program (Past memory age initial) = memory < length program.memories
IsWithin program (Slower memory period initial) = memory < length program.memories
IsWithin program (Held memory from control initial) = memory < length program.memories
IsWithin program (Reset from control initial) = ⊤

-- what a memory does at a sample, by whether its period hits and its control is on
abbrev pub move_of : Bool → Bool → Bool → Move
move_of false on reset = Stay
move_of true true reset = Count
move_of true false true = Forget
move_of true false false = Stay
