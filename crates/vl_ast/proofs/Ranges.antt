-- The ranges of what ports and modules say, or of what holds where they don't.
use Rattle.std.proofs.Common.{◌≡◌, ◌≤◌, ℕ, Bool, true, false, ◌&&◌, if◌then◌else◌, nat_le, Option, None, Some, unwrap_or, refl, arith, find, codes, bytes_eq}
use Rattle.std.proofs.lemmas.Bool.{and_parts, leb-true}
use Rattle.vl_ast.specs.declared.modules.Attr.{Attr}
use Rattle.vl_ast.specs.declared.modules.Port.{Port}
use Rattle.vl_ast.specs.declared.modules.Module.{Module}
use Rattle.vl_ast.specs.Attributes.{value_between, most_cycles, most_period, most_latency, clocks_of, step_of, lateness_of}

between : (low high other : ℕ) → low ≤ other → other ≤ high → (o : Option Attr) → (low ≤ unwrap_or (value_between low high o) other) × (unwrap_or (value_between low high o) other ≤ high)
between low high other above below None = (above, below)
between low high other above below (Some attr) = by (nat_le low attr.value && nat_le attr.value high) refl where
  by : (t : Bool) → nat_le low attr.value && nat_le attr.value high ≡ t → (low ≤ unwrap_or (if t then Some attr.value else None) other) × (unwrap_or (if t then Some attr.value else None) other ≤ high)
  by true e = let p = and_parts (nat_le low attr.value) (nat_le attr.value high) e in (leb-true low attr.value p.0, leb-true attr.value high p.1)
  by false e = (above, below)

pub step-some : (port : Port) → (1 ≤ step_of port) × (step_of port ≤ most_period)
step-some port = between 1 most_period 1 (omega arith) (omega arith) (find (λ (attr : Attr). bytes_eq attr.name (codes "fx_period")) port.attrs)

pub clocks-some : (m : Module) → (1 ≤ clocks_of m) × (clocks_of m ≤ most_cycles)
clocks-some m = between 1 most_cycles 1 (omega arith) (omega arith) (find (λ (attr : Attr). bytes_eq attr.name (codes "fx_cycles")) m.attrs)

pub late-few : (port : Port) → lateness_of port ≤ most_latency
late-few port = (between 0 most_latency 0 (omega arith) (omega arith) (find (λ (attr : Attr). bytes_eq attr.name (codes "fx_latency")) port.attrs)).1
