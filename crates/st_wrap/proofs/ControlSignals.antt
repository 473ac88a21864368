-- The signals of a row, and the counters' next numbers, of a module that has the wrapper's control.
use Rattle.std.proofs.Common.{◌≡◌, ℕ, ◌^◌, ◌<◌, ◌==◌, Bool, false, not, ◌&&◌, ◌||◌, List, Contains, codes, refl, ap, subst, ◌∙◌, arith}
use Rattle.vl_ast.specs.declared.expressions.Expr.{Expr}
use Rattle.vl_ast.specs.declared.expressions.Expr.TheVariants.{Name}
use Rattle.vl_ast.specs.declared.modules.ModItem.{ModItem}
use Rattle.vl_ast.specs.declared.modules.ModItem.TheVariants.{Wire, Reg, Assign}
use Rattle.vl_ast.specs.declared.modules.Port.{Port}
use Rattle.vl_ast.specs.declared.modules.Module.{Module}
use Rattle.vl_ast.specs.Conditions.{IsAcyclic}
use Rattle.vl_ast.specs.Context.{Net}
use Rattle.vl_ast.specs.Header.{input_port, output_port}
use Rattle.vl_ast.specs.Nets.{net_or_none, nets_of, port_declared}
use Rattle.vl_ast.specs.Runs.{Row, Rows, Runs}
use Rattle.vl_ast.specs.Value.{assigned, is_true, truth}
use Rattle.vl_ast.proofs.Facts.{in-port, is-declared, mention-listed, reg-declared, wire-declared}
use Rattle.st_wrap.specs.declared.pace.Counters.{Counters}
use Rattle.st_wrap.specs.Header.{flag}
use Rattle.st_wrap.specs.inner.Columns.{moving}
use Rattle.st_wrap.specs.inner.Control.{both, control_declared, control_driven, is_due_now, is_last, is_zero, unless}
use Rattle.st_wrap.specs.inner.Names.{begin_name, end_name, due_name, fed_name, open_name, enable_name, phase_name, wait_name}
use Rattle.st_wrap.proofs.Signals.{alone-Name, alone-tells, assigned-tells, bit-one, tells-both, tells-either, tells-equal, tells-zero, true-tells, Tells, truth-zero}
use Rattle.vl_ast.proofs.Gates.{truth-is}

-- a flag of the handshake
abbrev pub in_flag : Port
in_flag = input_port (flag (codes "in_valid"))

abbrev pub out_flag : Port
out_flag = input_port (flag (codes "out_ready"))

-- the module has the control, and its wire that lets the core move
pub record HasControl (m : Module) (counters : Counters) : Type 0 where
  pub declared : (i : ModItem) → Contains (control_declared counters) i → Contains m.items i
  pub driven : (i : ModItem) → Contains (control_driven counters) i → Contains m.items i
  pub enable : Contains m.items (Wire false 1 enable_name)
  pub in_valid : Contains m.ports in_flag
  pub out_ready : Contains m.ports out_flag
  pub in_ready : Contains m.ports (output_port (flag (codes "in_ready")))
  pub out_valid : Contains m.ports (output_port (flag (codes "out_valid")))

-- what the signals of a row are by its counters and its two inputs
module _ (counters : Counters) (row : Row) where
  abbrev pub begins : Bool
  begins = row phase_name == 0

  abbrev pub ends : Bool
  ends = row phase_name == counters.phase.most

  abbrev pub due : Bool
  due = ends && row wait_name == 0

  abbrev pub fed : Bool
  fed = not begins || row (codes "in_valid") == 1

  abbrev pub opens : Bool
  opens = not due || row (codes "out_ready") == 1

  abbrev pub moves : Bool
  moves = fed && opens

abbrev bit : Net
bit = record { width = 1; signed = false }

module _ (m : Module) (counters : Counters) (acyclic : IsAcyclic m) (has : HasControl m counters) where
  pub net-wire : (name : List ℕ) → Contains m.items (Wire false 1 name) → nets_of m name ≡ bit
  net-wire name h = ap net_or_none (is-declared m acyclic.driven acyclic.once _ (wire-declared m acyclic.driven acyclic.once false 1 name h))

  pub net-reg : (width : ℕ) (name : List ℕ) → Contains m.items (Reg false width name) → nets_of m name ≡ record { width = width; signed = false }
  net-reg width name h = ap net_or_none (is-declared m acyclic.driven acyclic.once _ (reg-declared m acyclic.driven acyclic.once false width name h))

  pub net-port : (port : Port) → Contains m.ports port → nets_of m port.name ≡ record { width = port.width; signed = port.signed }
  net-port port h = ap net_or_none (is-declared m acyclic.driven acyclic.once (port_declared port) (in-port m acyclic.driven acyclic.once port h))

  pub phase-net : nets_of m phase_name ≡ record { width = counters.phase.width; signed = false }
  phase-net = net-reg counters.phase.width phase_name (has.declared _ (5, omega arith, refl))

  pub wait-net : nets_of m wait_name ≡ record { width = counters.wait.width; signed = false }
  wait-net = net-reg counters.wait.width wait_name (has.declared _ (6, omega arith, refl))

  pub begin-net : nets_of m begin_name ≡ bit
  begin-net = net-wire begin_name (has.declared _ (0, omega arith, refl))

  pub end-net : nets_of m end_name ≡ bit
  end-net = net-wire end_name (has.declared _ (1, omega arith, refl))

  pub due-net : nets_of m due_name ≡ bit
  due-net = net-wire due_name (has.declared _ (2, omega arith, refl))

  pub fed-net : nets_of m fed_name ≡ bit
  fed-net = net-wire fed_name (has.declared _ (3, omega arith, refl))

  pub open-net : nets_of m open_name ≡ bit
  open-net = net-wire open_name (has.declared _ (4, omega arith, refl))

  pub enable-net : nets_of m enable_name ≡ bit
  enable-net = net-wire enable_name has.enable

  module _ (count : ℕ) (start : Row) (inputs rows : Rows) (runs : Runs m count start inputs rows) where
    module _ (k : ℕ) (below : k < count) where
      abbrev row : Row
      row = rows k

      abbrev nets : List ℕ → Net
      nets = nets_of m

      -- a name of one bit that is assigned an expression
      told : (name : List ℕ) (value : Expr) (b : Bool) → Contains (control_driven counters) (Assign name value) → nets name ≡ bit
          → Tells nets row value b → row name ≡ truth b
      told name value b h net t =
          runs.assigns k below name value (has.driven (Assign name value) h)
          ∙ ap (λ (n : Net). assigned nets row n.width value) net
          ∙ assigned-tells nets row value b t

      flag-fits : (port : Port) → Contains m.ports port → port.width ≡ 1 → row port.name < 2 ^ 1
      flag-fits port h one = subst (λ w. row port.name < 2 ^ w) one
          (runs.fits k below (port_declared port) (mention-listed m acyclic.driven acyclic.once (port_declared port) (in-port m acyclic.driven acyclic.once port h)))

      in-bit : not (row (codes "in_valid") == 0) ≡ (row (codes "in_valid") == 1)
      in-bit = bit-one (row (codes "in_valid")) (flag-fits in_flag has.in_valid refl)

      out-bit : not (row (codes "out_ready") == 0) ≡ (row (codes "out_ready") == 1)
      out-bit = bit-one (row (codes "out_ready")) (flag-fits out_flag has.out_ready refl)

      begin-is : row begin_name ≡ truth (begins counters row)
      begin-is = told begin_name (is_zero phase_name) (begins counters row) (0, omega arith, refl) begin-net (tells-zero nets row phase_name)

      pub end-is : row end_name ≡ truth (ends counters row)
      end-is = told end_name (is_last counters.phase) (ends counters row) (1, omega arith, refl) end-net
          (tells-equal nets row phase_name counters.phase.width counters.phase.most (ap (λ (n : Net). n.signed) phase-net))

      due-is : row due_name ≡ truth (due counters row)
      due-is =
          told due_name is_due_now (not (truth (ends counters row) == 0) && not (truth (row wait_name == 0) == 0)) (2, omega arith, refl) due-net
          (tells-both nets row (Name end_name) (is_zero wait_name) (truth (ends counters row)) (truth (row wait_name == 0))
          (alone-Name nets row end_name ∙ end-is) (alone-tells nets row (is_zero wait_name) (row wait_name == 0) (tells-zero nets row wait_name)))
          ∙ (λ i. truth (truth-is (ends counters row) i && truth-is (row wait_name == 0) i))

      zero-of : (name : List ℕ) (b : Bool) → row name ≡ truth b → not (truth (row name == 0) == 0) ≡ not b
      zero-of name b e = truth-is (row name == 0) ∙ ap (λ n. n == 0) e ∙ truth-zero b

      -- a name tells unless another does, or where a bit is there
      unless-told : (name other shown : List ℕ) (a b : Bool) → Contains (control_driven counters) (Assign name (unless other shown)) → nets name ≡ bit
          → row other ≡ truth a → not (row shown == 0) ≡ b → row name ≡ truth (not a || b)
      unless-told name other shown a b h net e f =
          told name (unless other shown) (not (truth (row other == 0) == 0) || not (row shown == 0)) h net
          (tells-either nets row (is_zero other) (Name shown) (truth (row other == 0)) (row shown)
          (alone-tells nets row (is_zero other) (row other == 0) (tells-zero nets row other)) (alone-Name nets row shown))
          ∙ (let z = zero-of other a e in (λ i. truth (z i || f i)))

      fed-is : row fed_name ≡ truth (fed counters row)
      fed-is = unless-told fed_name begin_name (codes "in_valid") (begins counters row) (row (codes "in_valid") == 1) (3, omega arith, refl) fed-net begin-is in-bit

      open-is : row open_name ≡ truth (opens counters row)
      open-is = unless-told open_name due_name (codes "out_ready") (due counters row) (row (codes "out_ready") == 1) (4, omega arith, refl) open-net due-is out-bit

      -- both of two names that tell
      both-told : (name left right : List ℕ) (a b : Bool) → Contains (control_driven counters) (Assign name (both left right)) → nets name ≡ bit
          → row left ≡ truth a → row right ≡ truth b → row name ≡ truth (a && b)
      both-told name left right a b h net e f =
          told name (both left right) (not (truth a == 0) && not (truth b == 0)) h net
          (tells-both nets row (Name left) (Name right) (truth a) (truth b) (alone-Name nets row left ∙ e) (alone-Name nets row right ∙ f))
          ∙ (λ i. truth (truth-is a i && truth-is b i))

      pub enable-is : row enable_name ≡ truth (moves counters row)
      enable-is = both-told enable_name fed_name open_name (fed counters row) (opens counters row) (5, omega arith, refl) enable-net fed-is open-is

      pub ready-is : row (codes "in_ready") ≡ truth (begins counters row && opens counters row)
      ready-is = both-told (codes "in_ready") begin_name open_name (begins counters row) (opens counters row) (6, omega arith, refl)
          (net-port (output_port (flag (codes "in_ready"))) has.in_ready) begin-is open-is

      pub valid-is : row (codes "out_valid") ≡ truth (due counters row && fed counters row)
      valid-is = both-told (codes "out_valid") due_name fed_name (due counters row) (fed counters row) (7, omega arith, refl)
          (net-port (output_port (flag (codes "out_valid"))) has.out_valid) due-is fed-is

      -- a register that moves where a name is 1 beside
      pub moving-is : (name : List ℕ) (b : Bool) → row name ≡ truth b → is_true nets row (moving name) ≡ (moves counters row && b)
      moving-is name b e =
          true-tells nets row (moving name) (not (truth (moves counters row) == 0) && not (truth b == 0))
          (tells-both nets row (Name enable_name) (Name name) (truth (moves counters row)) (truth b) (alone-Name nets row enable_name ∙ enable-is) (alone-Name nets row name ∙ e))
          ∙ (λ i. truth-is (moves counters row) i && truth-is b i)

      pub begin-moves : is_true nets row (moving begin_name) ≡ (moves counters row && begins counters row)
      begin-moves = moving-is begin_name (begins counters row) begin-is

      pub end-moves : is_true nets row (moving end_name) ≡ (moves counters row && ends counters row)
      end-moves = moving-is end_name (ends counters row) end-is

      pub enable-true : is_true nets row (Name enable_name) ≡ moves counters row
      enable-true = ap (λ n. not (n == 0)) (alone-Name nets row enable_name ∙ enable-is) ∙ truth-is (moves counters row)

      -- the begin of a sample by its name
      pub begin-told : row begin_name ≡ truth (begins counters row)
      begin-told = begin-is
