-- The nets of a plan.
use Rattle.std.specs.Prelude.{◌≡◌, ℕ, zero, suc, ◌+◌, ◌<◌, ◌≤◌, List, [], ◌∷◌, length, map}
use Rattle.std.specs.Prelude.{slice_get, slice_index_or, Some}
use Rattle.hw_net.specs.declared.netlist.Net.{Net}
use Rattle.hw_net.specs.declared.netlist.NetKind.TheVariants.{Comb}
use Rattle.hw_net.specs.Circuit.{Circuit}
use Rattle.hw_net.specs.Growing.{Appends}
use Rattle.hw_net.specs.Netlist.{HasWord}
use Rattle.hw_lower.specs.declared.plan.Step.{Step}
use Rattle.hw_lower.specs.inner.PlanSteps.{IsSound, reads_of}
use Rattle.hw_lower.specs.inner.Spread.{IsInner}

-- The number of the net of a step: those of the arguments are given, and the others are put behind
-- so many nets.
abbrev pub number_of : List ℕ → ℕ → ℕ → ℕ
number_of [] base place = base + place
number_of (arg ∷ args) base zero = arg
number_of (arg ∷ args) base (suc place) = number_of args base place

-- the net of a step
abbrev pub net_of : List ℕ → ℕ → Step → Net
net_of args base step =
    record {
      signed = step.word.signed;
      width = step.word.width;
      kind = Comb step.op (map (number_of args base) (reads_of step));
    }

-- the same from the numbers of the steps before
abbrev pub net_by : List ℕ → Step → Net
net_by numbers step =
    record {
      signed = step.word.signed;
      width = step.word.width;
      kind = Comb step.op (map (λ place. slice_index_or numbers place 0) (reads_of step));
    }

-- the first steps have these numbers
pub record AreNumbers (args : List ℕ) (base count : ℕ) (numbers : List ℕ) : Type 0 where
  pub size : length numbers ≡ count
  pub each : (place : ℕ) → place < count
      → slice_get numbers place ≡ Some (number_of args base place)

-- the plan begins with the arguments, of their words, and the other steps can be nets
pub record CanPut (before : Circuit) (steps : List Step) (args : List ℕ) : Type 0 where
  pub count : length args ≤ length steps
  pub words : (k number : ℕ) (step : Step) → slice_get args k ≡ Some number
      → slice_get steps k ≡ Some step
      → HasWord before.nets number step.word.width step.word.signed
  pub sound : (k : ℕ) (step : Step) → length args ≤ k → slice_get steps k ≡ Some step
      → IsSound steps k step
  pub inner : (k : ℕ) (step : Step) → length args ≤ k → slice_get steps k ≡ Some step
      → IsInner step.op

-- the nets of the first steps behind the arguments stand behind the others
pub record AreNets (before after : Circuit) (args : List ℕ) (steps : List Step) (count : ℕ)
    : Type 0 where
  pub size : length after.nets + length args ≡ length before.nets + count
  pub appends : Appends before after args
  pub each : (k : ℕ) (step : Step) → length args + k < count
      → slice_get steps (length args + k) ≡ Some step
      → slice_get after.nets (length before.nets + k)
      ≡ Some (net_of args (length before.nets) step)
