use Rattle.std.proofs.Common.{◌≡◌, ◌≤◌, ℕ, length}
use Rattle.dg_sim.specs.Program.{value_at}
use Rattle.dg_sim.proofs.Sweep.{IsSwept}
use Rattle.dg_sim.proofs.sweeping.sweep.Given as goal

abbrev pub invariant-loop-k : goal.invariant-loop-k
invariant-loop-k l = record {
  size : length l.row ≡ length l.program.places;
  inputs : length l.inputs ≡ 32;
  swept : IsSwept l.checked l.program l.t l.pasts l.prepared l.numbers l.initial.row l.k l.row;
  later : (j : ℕ) → l.k ≤ j → value_at l.row j ≡ value_at l.initial.row j;
}
