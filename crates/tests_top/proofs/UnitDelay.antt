-- Rows of the module of one delay with initial value 3, by hand: driven by 5, -1, 127 its register holds 3, 5, -1.
use Rattle.std.specs.Prelude.{⊤}
use Rattle.std.proofs.Common.{◌≡◌, ◌<◌, ◌≤◌, ◌+◌, ◌*◌, ◌^◌, ◌||◌, if◌then◌else◌, ℕ, zero, suc, pos, negsuc, List, [], ◌∷◌, Bool, true, Option, None, Some, Contains, slice_get, bytes_eq, codes, refl}
use Rattle.std.proofs.Common.{ap, sym, ◌∙◌, subst, arith}
use Rattle.vl_ast.specs.declared.expressions.Sized.{Sized}
use Rattle.vl_ast.specs.declared.expressions.Expr.{Expr}
use Rattle.vl_ast.specs.declared.expressions.Expr.TheVariants.{Name}
use Rattle.vl_ast.specs.declared.modules.Port.{Port}
use Rattle.vl_ast.specs.declared.modules.Module.{Module}
use Rattle.vl_ast.specs.declared.modules.ModItem.{ModItem}
use Rattle.vl_ast.specs.declared.modules.ModItem.TheVariants.{Wire, Reg, Assign, Always}
use Rattle.vl_ast.specs.Attributes.{cycles_of, period_of}
use Rattle.vl_ast.specs.Driven.{Driven, stimulus_ports}
use Rattle.vl_ast.specs.Nets.{Declared, InputPort, OutputPort, Register, nets_of}
use Rattle.vl_ast.specs.Context.{Net}
use Rattle.vl_ast.specs.Runs.{Row, Rows, Runs, next_bits}
use Rattle.vl_ast.specs.Value.{bits_of, assigned, assigned_number}
use Rattle.vl_ast.specs.Windows.{PortNumbers, Window}
use Rattle.vl_ast.proofs.FullCounts.{AllCount, shows-clocks, unstallable-count}
use Rattle.vl_ast.specs.Header.{input_port}
use Rattle.tests_top.proofs.DelayModule.{OneDelay, assigned-byte, bit_net, byte_net, byte_port, declarations-are, declared_as, delay_module}
use Rattle.tests_top.proofs.Names.{register}

abbrev pub delay : OneDelay
delay = record { input = codes "u"; output = codes "y"; initial = pos 3 }

abbrev pub m : Module
m = delay_module delay

-- five rows: any inputs, `reset`, and then the three samples at clocks 0, 1 and 2
abbrev pub window : Window
window = record { rows = 5; last_reset = 1 }

abbrev pub stimulus : PortNumbers
stimulus place zero = pos 5
stimulus place (suc zero) = negsuc 0
stimulus place (suc (suc t)) = pos 127

abbrev pub reset_at : ℕ → ℕ
reset_at zero = 0
reset_at (suc zero) = 1
reset_at (suc (suc k)) = 0

abbrev pub input_at : ℕ → ℕ
input_at zero = 0
input_at (suc zero) = 0
input_at (suc (suc zero)) = 5
input_at (suc (suc (suc zero))) = 255
input_at (suc (suc (suc (suc k)))) = 127

-- what the register holds before the first edge shows at no clock
abbrev pub register_at : ℕ → ℕ → ℕ
register_at begun zero = begun
register_at begun (suc zero) = 0
register_at begun (suc (suc zero)) = 3
register_at begun (suc (suc (suc zero))) = 5
register_at begun (suc (suc (suc (suc k)))) = 255

abbrev pub start : ℕ → Row
start begun name = begun

abbrev pub inputs : Rows
inputs k name =
    if bytes_eq name (codes "reset") then reset_at k else (if bytes_eq name (codes "u") then input_at k else 0)

abbrev pub rows : ℕ → Rows
rows begun k name = if bytes_eq name (codes "y") || bytes_eq name register then register_at begun k else inputs k name

-- every row after the reset is a clock
pub all : AllCount m window inputs
all = unstallable-count m window inputs refl

-- ---- the premises are met

input-shown : (t : ℕ) → t < 3 → input_at (2 + t) ≡ bits_of 8 (stimulus 0 t)
input-shown zero below = refl
input-shown (suc zero) below = refl
input-shown (suc (suc zero)) below = refl
input-shown (suc (suc (suc t))) below = absurd (omega arith)

released : (k : ℕ) → 1 < k → reset_at k ≡ 0
released zero after = absurd (omega arith)
released (suc zero) after = absurd (omega arith)
released (suc (suc k)) after = refl

pub shown-by : (place : ℕ) (port : Port) → slice_get (stimulus_ports m) place ≡ Some port → (period : ℕ) → period_of port ≡ Some period
    → (cycles : ℕ) → cycles_of m ≡ Some cycles → (t : ℕ) → t < 3
    → (clock : ℕ) → t * cycles ≤ clock → clock < (t + period) * cycles → inputs (2 + clock) port.name ≡ bits_of port.width (stimulus place t)
shown-by zero port is period has cycles each t below clock from until =
    let port_is : input_port (byte_port (codes "u")) ≡ port = cc is in
    let period_is : period ≡ 1 = cc (has, port_is) in
    let cycles_is : cycles ≡ 1 = cc each in
    let begun : t * 1 ≤ clock = subst (λ (c : ℕ). t * c ≤ clock) cycles_is from in
    let within : clock < (t + 1) * 1 = subst (λ (p : ℕ). clock < (t + p) * 1) period_is (subst (λ (c : ℕ). clock < (t + period) * c) cycles_is until) in
    let here : clock ≡ t = omega (arith, begun, within) in
    subst (λ (p : Port). inputs (2 + clock) p.name ≡ bits_of p.width (stimulus 0 t)) port_is
    (ap input_at (ap (λ (c : ℕ). 2 + c) here) ∙ input-shown t below)
shown-by (suc place) port is period has cycles each t below clock from until = absurd (cc is)

pub driven : Driven m stimulus 3 window inputs
driven = record {
  reset = record { within = omega arith; reset = refl; released = λ k after below. released k after };
  shows = λ cycles each place port is period has t below hit.
      shows-clocks m window inputs all inputs port.name port.width (stimulus place t) (t * cycles) ((t + period) * cycles)
      (λ clock from until there. shown-by place port is period has cycles each t below clock from until);
}

reset-fits : (k : ℕ) → reset_at k < 2
reset-fits zero = omega arith
reset-fits (suc zero) = omega arith
reset-fits (suc (suc k)) = omega arith

input-fits : (k : ℕ) → input_at k < 256
input-fits zero = omega arith
input-fits (suc zero) = omega arith
input-fits (suc (suc zero)) = omega arith
input-fits (suc (suc (suc zero))) = omega arith
input-fits (suc (suc (suc (suc k)))) = omega arith

register-fits : (begun k : ℕ) → begun < 256 → register_at begun k < 256
register-fits begun zero small = small
register-fits begun (suc zero) small = omega arith
register-fits begun (suc (suc zero)) small = omega arith
register-fits begun (suc (suc (suc zero))) small = omega arith
register-fits begun (suc (suc (suc (suc k)))) small = omega arith

abbrev declared_all : List Declared
declared_all = declared_as (codes "clk") InputPort bit_net ∷ declared_as (codes "reset") InputPort bit_net ∷ declared_as (codes "u") InputPort byte_net
    ∷ declared_as (codes "y") OutputPort byte_net ∷ declared_as register Register byte_net ∷ []

fits : (begun k : ℕ) → begun < 256 → (declared : Declared) → Contains declared_all declared → rows begun k declared.name < 2 ^ declared.net.width
fits begun k small declared (zero, below, is) = subst (λ (x : Declared). rows begun k x.name < 2 ^ x.net.width) is (omega arith)
fits begun k small declared (suc zero, below, is) = subst (λ (x : Declared). rows begun k x.name < 2 ^ x.net.width) is (reset-fits k)
fits begun k small declared (suc (suc zero), below, is) = subst (λ (x : Declared). rows begun k x.name < 2 ^ x.net.width) is (input-fits k)
fits begun k small declared (suc (suc (suc zero)), below, is) = subst (λ (x : Declared). rows begun k x.name < 2 ^ x.net.width) is (register-fits begun k small)
fits begun k small declared (suc (suc (suc (suc zero))), below, is) = subst (λ (x : Declared). rows begun k x.name < 2 ^ x.net.width) is (register-fits begun k small)
fits begun k small declared (suc (suc (suc (suc (suc i)))), below, is) = absurd (omega arith)

starts : (begun : ℕ) (signed : Bool) (width : ℕ) (name : List ℕ) → Contains m.items (Reg signed width name) → rows begun 0 name ≡ begun
starts begun signed width name (zero, below, is) = let same : register ≡ name = cc is in subst (λ (n : List ℕ). rows begun 0 n ≡ begun) same refl
starts begun signed width name (suc zero, below, is) = absurd (cc is)
starts begun signed width name (suc (suc zero), below, is) = absurd (cc is)
starts begun signed width name (suc (suc (suc i)), below, is) = absurd (omega arith)

given : (begun k : ℕ) (port : Port) → Contains m.ports port → port.input ≡ true → rows begun k port.name ≡ inputs k port.name
given begun k port (zero, below, is) input = subst (λ (p : Port). rows begun k p.name ≡ inputs k p.name) is refl
given begun k port (suc zero, below, is) input = subst (λ (p : Port). rows begun k p.name ≡ inputs k p.name) is refl
given begun k port (suc (suc zero), below, is) input = subst (λ (p : Port). rows begun k p.name ≡ inputs k p.name) is refl
given begun k port (suc (suc (suc zero)), below, is) input = absurd (cc (is, input))
given begun k port (suc (suc (suc (suc i))), below, is) input = absurd (omega arith)

abbrev first : Sized
first = record { width = 8; signed = true; bits = 3 }

net-u : nets_of m (codes "u") ≡ byte_net
net-u = refl

net-y : nets_of m (codes "y") ≡ byte_net
net-y = refl

net-delay : nets_of m register ≡ byte_net
net-delay = refl

taken-u : (begun k : ℕ) → assigned (nets_of m) (rows begun k) 8 (Name (codes "u")) ≡ input_at k
taken-u begun k = assigned-byte (nets_of m) (rows begun k) (codes "u") net-u (input-fits k)

assigns : (begun k : ℕ) → begun < 256 → (name : List ℕ) (value : Expr) → Contains m.items (Assign name value) → rows begun k name ≡ assigned (nets_of m) (rows begun k) (nets_of m name).width value
assigns begun k small name value (zero, below, is) = absurd (cc is)
assigns begun k small name value (suc zero, below, is) = absurd (cc is)
assigns begun k small name value (suc (suc zero), below, is) =
    let name_is : codes "y" ≡ name = cc is in
    let value_is : Name register ≡ value = cc is in
    subst (λ (n : List ℕ). rows begun k n ≡ assigned (nets_of m) (rows begun k) (nets_of m n).width value) name_is
    (subst (λ (v : Expr). register_at begun k ≡ assigned (nets_of m) (rows begun k) (nets_of m (codes "y")).width v) value_is
    (sym (ap (λ (net : Net). assigned (nets_of m) (rows begun k) net.width (Name register)) net-y ∙ assigned-byte (nets_of m) (rows begun k) register net-delay (register-fits begun k small))))
assigns begun k small name value (suc (suc (suc i)), below, is) = absurd (omega arith)

-- what the register takes at the edge that ends row k
stepped : (begun k : ℕ) → k + 1 < 5 → register_at begun (k + 1) ≡ next_bits m (rows begun k) register first None (Name (codes "u"))
stepped begun zero below = sym (ap (λ (net : Net). assigned (nets_of m) (rows begun 0) net.width (Name (codes "u"))) net-delay ∙ taken-u begun 0)
stepped begun (suc zero) below = sym (ap (λ (net : Net). assigned_number net.width first) net-delay)
stepped begun (suc (suc zero)) below = sym (ap (λ (net : Net). assigned (nets_of m) (rows begun 2) net.width (Name (codes "u"))) net-delay ∙ taken-u begun 2)
stepped begun (suc (suc (suc zero))) below = sym (ap (λ (net : Net). assigned (nets_of m) (rows begun 3) net.width (Name (codes "u"))) net-delay ∙ taken-u begun 3)
stepped begun (suc (suc (suc (suc k)))) below = absurd (omega arith)

abbrev HasStepped : ℕ → ℕ → ModItem → Type 0
HasStepped begun k (Wire signed width name) = ⊤
HasStepped begun k (Reg signed width name) = ⊤
HasStepped begun k (Assign name value) = ⊤
HasStepped begun k (Always name of_reset condition value) = rows begun (k + 1) name ≡ next_bits m (rows begun k) name of_reset condition value

steps : (begun k : ℕ) → k + 1 < 5 → (name : List ℕ) (of_reset : Sized) (condition : Option Expr) (value : Expr) → Contains m.items (Always name of_reset condition value)
    → rows begun (k + 1) name ≡ next_bits m (rows begun k) name of_reset condition value
steps begun k more name of_reset condition value (zero, below, is) = absurd (cc is)
steps begun k more name of_reset condition value (suc zero, below, is) =
    subst (λ (item : ModItem). HasStepped begun k item) is (stepped begun k more)
steps begun k more name of_reset condition value (suc (suc zero), below, is) = absurd (cc is)
steps begun k more name of_reset condition value (suc (suc (suc i)), below, is) = absurd (omega arith)

pub runs : (begun : ℕ) → begun < 256 → Runs m 5 (start begun) inputs (rows begun)
runs begun small = record {
  fits = λ k below declared has. fits begun k small declared (subst (λ (all : List Declared). Contains all declared) (declarations-are delay) has);
  starts = λ some signed width name has. starts begun signed width name has;
  driven = λ k below port has input. given begun k port has input;
  assigns = λ k below name value has. assigns begun k small name value has;
  steps = steps begun;
}
