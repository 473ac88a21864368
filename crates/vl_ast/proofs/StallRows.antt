-- Stallable modules and counted rows, worked out by hand.
use Rattle.std.proofs.Common.{◌≡◌, ℕ, zero, suc, Bool, true, false, if◌then◌else◌, List, [], ◌∷◌, ◌++◌, bytes_eq, codes, Some, None, refl, arith}
use Rattle.vl_ast.specs.declared.modules.Attr.{Attr}
use Rattle.vl_ast.specs.declared.modules.Port.{Port}
use Rattle.vl_ast.specs.declared.modules.Module.{Module}
use Rattle.vl_ast.specs.Conditions.{no_attribute}
use Rattle.vl_ast.specs.Control.{is_stallable}
use Rattle.vl_ast.specs.Driven.{stimulus_ports, output_ports}
use Rattle.vl_ast.specs.Header.{attribute_of, bit_input, HasHeader, bit_output}
use Rattle.vl_ast.specs.Windows.{Window, IsClock, clocks_in}
use Rattle.vl_ast.specs.Runs.{Rows}

abbrev port : Bool → Bool → ℕ → List ℕ → List Attr → Port
port input signed width name attrs = record { attrs = attrs; input = input; signed = signed; width = width; name = name }

abbrev period : Attr
period = attribute_of (codes "fx_period") 1

abbrev input_u : Port
input_u = port true true 8 (codes "u") (period ∷ [])

abbrev output_y : Port
output_y = port false true 8 (codes "y") (period ∷ attribute_of (codes "fx_latency") 0 ∷ [])

abbrev of : List Port → Module
of ports = record { name = codes "fx_model"; attrs = attribute_of (codes "fx_cycles") 1 ∷ []; ports = ports; items = [] }

abbrev with : Port → Module
with enable = of (bit_input (codes "clk") ∷ bit_input (codes "reset") ∷ enable ∷ input_u ∷ bit_output (codes "ce_out") ∷ output_y ∷ [])

abbrev stalls : Module
stalls = with (bit_input (codes "clk_enable"))

abbrev plain : Module
plain = of (bit_input (codes "clk") ∷ bit_input (codes "reset") ∷ input_u ∷ output_y ∷ [])

-- of one bit and unsigned
stallable : is_stallable stalls ∷ is_stallable plain ∷ is_stallable (with (port true true 1 (codes "clk_enable") []))
    ∷ is_stallable (with (port true false 2 (codes "clk_enable") [])) ∷ is_stallable (with (port false false 1 (codes "clk_enable") [])) ∷ []
    ≡ true ∷ false ∷ false ∷ false ∷ false ∷ []
stallable = refl

carry : stimulus_ports stalls ++ output_ports stalls ≡ input_u ∷ output_y ∷ []
carry = refl

-- an input `clk_enable` that is signed, or a `ce_out` beside none, wants its attributes
bare : no_attribute stalls ∷ no_attribute plain ∷ no_attribute (with (port true true 1 (codes "clk_enable") []))
    ∷ no_attribute (with (port true true 1 (codes "clk_enable") (period ∷ []))) ∷ no_attribute (with (bit_input (codes "run"))) ∷ []
    ≡ None ∷ None ∷ Some (codes "clk_enable") ∷ Some (codes "ce_out") ∷ Some (codes "run") ∷ []
bare = refl

headed : HasHeader stalls 1 (input_u ∷ []) (output_y ∷ [])
headed = record { name = refl; attrs = refl; ports = refl }

-- ---- rows: one of reset, then `clk_enable` is 1, 0, 0, 1, 1

abbrev enables : ℕ → ℕ
enables zero = 0
enables (suc zero) = 1
enables (suc (suc zero)) = 0
enables (suc (suc (suc zero))) = 0
enables (suc (suc (suc (suc k)))) = 1

abbrev inputs : Rows
inputs k name = if bytes_eq name (codes "clk_enable") then enables k else 0

abbrev window : Window
window = record { rows = 6; last_reset = 0 }

clocks : clocks_in stalls window inputs ∷ clocks_in plain window inputs ∷ [] ≡ 3 ∷ 5 ∷ []
clocks = refl

clock-0 : IsClock stalls window inputs 0 0
clock-0 = record { within = omega arith; counts = refl; number = refl }

clock-1 : IsClock stalls window inputs 1 3
clock-1 = record { within = omega arith; counts = refl; number = refl }

clock-2 : IsClock stalls window inputs 2 4
clock-2 = record { within = omega arith; counts = refl; number = refl }

none-at-1 : (clock : ℕ) → IsClock stalls window inputs clock 1 → ⊥
none-at-1 clock is = absurd (cc is.counts)

each-of-plain : IsClock plain window inputs 1 1
each-of-plain = record { within = omega arith; counts = refl; number = refl }
