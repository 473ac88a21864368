-- The wrapper's counters, and what it makes of them (own).
use Rattle.std.specs.Prelude.{◌≡◌, ℕ, ◌-◌, ◌^◌, ◌<◌, ◌≤◌, false, List, [], ◌∷◌, ◌++◌, codes, Some}
use Rattle.vl_ast.specs.declared.expressions.UnOp.TheVariants.{IsZero}
use Rattle.vl_ast.specs.declared.expressions.BinOp.TheVariants.{Add, Subtract, Equal, Both, Either}
use Rattle.vl_ast.specs.declared.expressions.Expr.{Expr}
use Rattle.vl_ast.specs.declared.expressions.Expr.TheVariants.{Name, Literal, Unary, Binary, Choose}
use Rattle.vl_ast.specs.declared.modules.ModItem.{ModItem}
use Rattle.vl_ast.specs.declared.modules.ModItem.TheVariants.{Wire, Reg, Assign, Always}
use Rattle.vl_ast.specs.declared.modules.Module.{Module}
use Rattle.vl_ast.specs.Attributes.{clocks_of}
use Rattle.st_wrap.specs.declared.pace.Counter.{Counter}
use Rattle.st_wrap.specs.declared.pace.Counters.{Counters}
use Rattle.st_wrap.specs.Pace.{latest_in}
use Rattle.st_wrap.specs.inner.Columns.{moving, plain}
use Rattle.st_wrap.specs.inner.Names.{begin_name, end_name, due_name, fed_name, open_name, enable_name, phase_name, wait_name}

-- a counter has room for its greatest number, and no bit more than that takes
pub record HasRoom (counter : Counter) : Type 0 where
  pub some : 1 ≤ counter.width
  pub short : counter.width ≤ 64
  pub room : counter.most < 2 ^ counter.width
  pub least : 1 < counter.width → 2 ^ (counter.width - 1) ≤ counter.most

-- the counters count the clocks of a sample, and the samples that the latest output comes late
pub record CountFor (core : Module) (counters : Counters) : Type 0 where
  pub phase : counters.phase.most ≡ clocks_of core - 1
  pub wait : counters.wait.most ≡ latest_in core
  pub phase_room : HasRoom counters.phase
  pub wait_room : HasRoom counters.wait

abbrev pub is_zero : List ℕ → Expr
is_zero name = Unary IsZero (Name name)

abbrev pub both : List ℕ → List ℕ → Expr
both left right = Binary Both (Name left) (Name right)

-- it isn't so, or the signal is 1
abbrev pub unless : List ℕ → List ℕ → Expr
unless name signal = Binary Either (is_zero name) (Name signal)

abbrev pub number : ℕ → ℕ → Expr
number width bits = Literal (plain width bits)

abbrev pub control_declared : Counters → List ModItem
control_declared counters =
    Wire false 1 begin_name ∷ Wire false 1 end_name ∷ Wire false 1 due_name ∷ Wire false 1 fed_name
    ∷ Wire false 1 open_name ∷ Reg false counters.phase.width phase_name
    ∷ Reg false counters.wait.width wait_name ∷ []

-- the first clock of a sample, and the last
abbrev pub is_last : Counter → Expr
is_last phase = Binary Equal (Name phase_name) (number phase.width phase.most)

abbrev pub is_due_now : Expr
is_due_now = Binary Both (Name end_name) (is_zero wait_name)

-- the next clock of a sample, or the first of the next
abbrev pub next_phase : Counter → Expr
next_phase phase =
    Choose (Name end_name) (number phase.width 0)
    (Binary Add (Name phase_name) (number phase.width 1))

-- a sample less to wait for
abbrev pub next_wait : Counter → Expr
next_wait wait =
    Choose (Name wait_name) (Binary Subtract (Name wait_name) (number wait.width 1))
    (number wait.width 0)

-- the signals of a row
abbrev pub signals_driven : Counter → List ModItem
signals_driven phase =
    Assign begin_name (is_zero phase_name)
    ∷ Assign end_name (is_last phase)
    ∷ Assign due_name is_due_now
    ∷ Assign fed_name (unless begin_name (codes "in_valid"))
    ∷ Assign open_name (unless due_name (codes "out_ready"))
    ∷ []

-- the row moves, the inputs are taken in it, and the outputs stand
abbrev pub handshake_driven : List ModItem
handshake_driven =
    Assign enable_name (both fed_name open_name)
    ∷ Assign (codes "in_ready") (both begin_name open_name)
    ∷ Assign (codes "out_valid") (both due_name fed_name)
    ∷ []

abbrev pub phase_item : Counter → ModItem
phase_item phase =
    Always phase_name (plain phase.width 0) (Some (Name enable_name)) (next_phase phase)

abbrev pub wait_item : Counter → ModItem
wait_item wait =
    Always wait_name (plain wait.width wait.most) (Some (moving end_name)) (next_wait wait)

abbrev pub control_driven : Counters → List ModItem
control_driven counters =
    signals_driven counters.phase
    ++ (handshake_driven ++ phase_item counters.phase ∷ wait_item counters.wait ∷ [])
