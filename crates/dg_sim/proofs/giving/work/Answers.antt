use Rattle.std.proofs.Common.{◌≡◌, ◌+◌, ◌-◌, ◌≤◌, ℕ, ℤ, List, map, take, drop, length, slice_range, arith, length-drop}
use Rattle.std.specs.Int.{w128}
use Rattle.std.proofs.lemmas.Int.{to_z-of_z}
use Rattle.std.proofs.lemmas.List.{length-take-le}
use Rattle.dg_model.specs.Operation.{OpGives}
use Rattle.dg_sim.specs.Program.{part, value_at, operation_at}
use Rattle.dg_sim.proofs.giving.work.Goals as goal

-- what was gathered are the values of the arguments
looked : (args : List ℕ) (first count : ℕ) (look : ℕ → ℤ) (inputs : List ℤ) → first + count ≤ length args
    → take (length (slice_range args first (first + count))) inputs ≡ map look (slice_range args first (first + count)) → take count inputs ≡ map look (part args first count)
looked args first count look inputs within h =
    let e : first + count - first ≡ count = omega arith in
    let size : length (take count (drop first args)) ≡ count = length-take-le count (drop first args) (omega (arith, length-drop first args)) in
    rw (e, size) at h

pub operation_output-requires-clause-can : goal.operation_output-requires-clause-can
operation_output-requires-clause-can c =
    let work = c.args.work.now in
    let values = looked c.as_slice.result.now work.first work.count (value_at c.args.row.now) c.gather.new.inputs (rw c.as_slice.ensures c.requires.args) c.gather.ensures in
    rw (values, c.as_slice.ensures) c.requires.can

pub returns : goal.returns
returns c =
    let work = c.args.work.now in
    let e = to_z-of_z w128 c.operation_output.result (record { sfits = c.operation_output.type_inv }) in
    let values = looked c.as_slice.result.now work.first work.count (value_at c.args.row.now) c.gather.new.inputs (rw c.as_slice.ensures c.requires.args) c.gather.ensures in
    let given : OpGives (operation_at c.args.program.now work) (take work.count c.gather.new.inputs) c.operation_output.result = c.operation_output.ensures in
    rw e (rw (values, c.as_slice.ensures) at given)
