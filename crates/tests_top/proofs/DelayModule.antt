-- A module of one delay, by hand: one register of signed eight bits, which the output shows.
use Rattle.std.proofs.Common.{◌≡◌, ◌<◌, ◌%◌, ◌+◌, ◌-◌, ◌^◌, if◌then◌else◌, ℕ, ℤ, List, [], ◌∷◌, Bool, true, false, None, codes, refl, ap, ◌∙◌, arith}
use Rattle.std.proofs.Math.Nat.{mod-eq_of_lt}
use Rattle.vl_ast.specs.declared.expressions.Expr.TheVariants.{Name}
use Rattle.vl_ast.specs.declared.modules.ModItem.{ModItem}
use Rattle.vl_ast.specs.declared.modules.ModItem.TheVariants.{Reg, Assign, Always}
use Rattle.vl_ast.specs.declared.modules.Module.{Module}
use Rattle.vl_ast.specs.Context.{Net}
use Rattle.vl_ast.specs.Header.{DataPort, attribute_of, bit_input, input_port, output_port}
use Rattle.vl_ast.specs.Nets.{Declared, Kind, InputPort, OutputPort, Register, declarations}
use Rattle.vl_ast.specs.Value.{Bits, bits_of, is_negative, assigned}
use Rattle.vl_ast.proofs.Copies.{reads-Name}
use Rattle.tests_top.proofs.Names.{own_length-name, is_signed-name, value_in-name, register}

-- the names of its ports, and what it shows first
pub record OneDelay : Type 0 where
  pub input : List ℕ
  pub output : List ℕ
  pub initial : ℤ

-- a port of signed eight bits and of period 1, without delay
abbrev pub byte_port : List ℕ → DataPort
byte_port name = record { name = name; width = 8; signed = true; period = 1; latency = 0 }

-- a register that takes the input at each edge, and the output that shows it
abbrev pub delay_items : List ℕ → List ℕ → ℤ → List ModItem
delay_items input output initial =
    Reg true 8 register
    ∷ Always register (record { width = 8; signed = true; bits = bits_of 8 initial }) None (Name input)
    ∷ Assign output (Name register) ∷ []

abbrev pub delay_module : OneDelay → Module
delay_module delay = record {
  name = codes "fx_model";
  attrs = attribute_of (codes "fx_cycles") 1 ∷ [];
  ports = bit_input (codes "clk") ∷ bit_input (codes "reset") ∷ input_port (byte_port delay.input) ∷ output_port (byte_port delay.output) ∷ [];
  items = delay_items delay.input delay.output delay.initial;
}

-- no extension at the same width
extended-same : (negative : Bool) (bits width : ℕ) → (if negative then bits + (2 ^ width - 2 ^ width) else bits) ≡ bits
extended-same true bits width = omega arith
extended-same false bits width = refl

abbrev pub byte_net : Net
byte_net = record { width = 8; signed = true }

-- eight bits from one net to another
pub assigned-byte : (nets : List ℕ → Net) (row : List ℕ → ℕ) (name : List ℕ) → nets name ≡ byte_net → row name < 256 → assigned nets row 8 (Name name) ≡ row name
assigned-byte nets row name net below =
    let bits : Bits = record { width = 8; signed = true; bits = row name } in
    simp (own_length-name, is_signed-name, value_in-name, net) (
    ap (λ (n : ℕ). n % 256) (extended-same (is_negative bits) (row name) 8) ∙ mod-eq_of_lt below)

abbrev pub declared_as : List ℕ → Kind → Net → Declared
declared_as name kind net = record { name = name; kind = kind; net = net }

abbrev pub bit_net : Net
bit_net = record { width = 1; signed = false }

pub declarations-are : (d : OneDelay) → declarations (delay_module d)
    ≡ declared_as (codes "clk") InputPort bit_net ∷ declared_as (codes "reset") InputPort bit_net ∷ declared_as d.input InputPort byte_net
    ∷ declared_as d.output OutputPort byte_net ∷ declared_as register Register byte_net ∷ []
declarations-are d = simp reads-Name
