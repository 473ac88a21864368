-- The control of an enabled subsystem as nets (own).
use Rattle.std.specs.Prelude.{◌≡◌, ◌≢◌, ℕ, ◌<◌, ◌≤◌, pos, int_lt, Bool, false, List, length, take}
use Rattle.std.specs.List.{list_any}
use Rattle.dg_model.specs.Operation.{stored_truth}
use Rattle.hw_net.specs.declared.netlist.NetKind.{NetKind}
use Rattle.hw_net.specs.declared.netlist.NetKind.TheVariants.{Comb, Reg, EnReg, Acc, Bridge, Unit, Counter}
use Rattle.hw_net.specs.declared.netlist.NetOp.TheVariants.{Multiply}
use Rattle.hw_net.specs.Circuit.{Circuit}
use Rattle.hw_net.specs.Netlist.{HasWord}
use Rattle.hw_net.specs.NetRows.{Rows}
use Rattle.hw_net.specs.Registers.{Wave}
use Rattle.hw_shows.specs.Series.{AreSame, steady}
use Rattle.hw_share.specs.inner.Parts.{Grows}
use Rattle.hw_build.specs.inner.Growth.{InLater}

-- operations, but no multiplication
abbrev pub IsGate : NetKind → Type 0
IsGate (Comb op args) = op ≢ Multiply
IsGate (Reg frame slot first from) = ⊥
IsGate (EnReg frame enable reset first from) = ⊥
IsGate (Acc frame enable from) = ⊥
IsGate (Bridge frame live from) = ⊥
IsGate (Unit left right) = ⊥
IsGate (Counter frame) = ⊥

-- a wave that tells a truth at each clock
pub record Tells (clocks : ℕ) (holds : ℕ → Bool) (wave : Wave) : Type 0 where
  pub at : (c : ℕ) → c < clocks → wave c ≡ stored_truth (holds c)

-- whether one of some nets is above 0 at a clock
abbrev pub any_above : List ℕ → Rows → ℕ → Bool
any_above operands rows clock = list_any (λ operand. int_lt (pos 0) (rows operand clock)) operands

-- a net was put in that tells it
pub record PutsControl (before after : Circuit) (operands : List ℕ) (number : ℕ) : Type 0 where
  pub grows : Grows before after operands IsGate 0
  pub word : HasWord after.nets number 1 false
  pub new : length before.nets ≤ number
  pub tells : (closed hubs : ℕ) → hubs ≤ length before.nets
      → InLater closed hubs after (λ n rows. Tells n (any_above operands rows) (rows number))

-- one was put in that tells it of the first, and a 0 beside it
pub record PutsAny (before after : Circuit) (operands : List ℕ)
    (count zero_at some : ℕ) : Type 0 where
  pub grows : Grows before after operands IsGate 0
  pub word : HasWord after.nets some 1 false
  pub new : length before.nets ≤ some
  pub zero_new : length before.nets ≤ zero_at
  pub zero_inside : zero_at < length after.nets
  pub zeros : (closed hubs : ℕ) → hubs ≤ length before.nets
      → InLater closed hubs after (λ n rows. AreSame n (rows zero_at) (steady (pos 0)))
  pub tells : (closed hubs : ℕ) → hubs ≤ length before.nets
      → InLater closed hubs after
      (λ n rows. Tells n (any_above (take count operands) rows) (rows some))
