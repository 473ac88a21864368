use Rattle.std.proofs.Common.{◌≡◌, ◌≤◌, ℕ, slice_get, length}
use Rattle.dg_sim.proofs.Moves.{AreMoved}
use Rattle.dg_sim.proofs.sweeping.keep.Given as goal

abbrev pub invariant-loop-m : goal.invariant-loop-m
invariant-loop-m l = record {
  size : length l.pasts ≡ length l.initial.pasts;
  done : AreMoved l.program l.t l.row l.initial.pasts l.m l.pasts;
  later : (j : ℕ) → l.m ≤ j → slice_get l.pasts j ≡ slice_get l.initial.pasts j;
}
