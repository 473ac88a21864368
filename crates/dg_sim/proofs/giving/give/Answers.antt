use Rattle.std.proofs.Common.{◌≡◌, ℕ, ℤ, List, FitsSigned, to_z, of_z, sym, subst, refl, rules}
use Rattle.std.specs.Int.{w128}
use Rattle.std.proofs.lemmas.Int.{to_z-of_z}
use Rattle.dg_sim.specs.declared.program.Program.{Program}
use Rattle.dg_sim.specs.declared.program.Rule.{Rule}
use Rattle.dg_sim.specs.Program.{CanGive, Gives, value_at}
use Rattle.dg_sim.specs.Ready.{IsReadyFor}
use Rattle.dg_sim.specs.Sim.{kept_at}
use Rattle.dg_sim.proofs.giving.give.Goals as goal

pub work-requires : goal.work-requires
work-requires c =
    let can = subst (λ (rule : Rule). CanGive c.args.program.now (value_at c.args.row.now) rule) c.in-Works.is c.requires.can in
    record {
      inputs = c.requires.inputs;
      few = can.0;
      args = can.1;
      types = can.2;
      signs = can.3;
      ready = subst (λ (rule : Rule). IsReadyFor c.args.program.now c.args.prepared.now rule) c.in-Works.is c.requires.ready;
      can = can.4;
    }

-- what the rule that was found gives is what the own rule gives
gives_own : (program : Program) (look : ℕ → ℤ) (kept : ℕ → List ℤ) (row : List ℤ) (t : ℕ) (own found : Rule) (v : ℤ)
    → FitsSigned w128 v → own ≡ found → Gives program look kept row t found v
    → Gives program look kept row t own (to_z w128 (of_z w128 v))
gives_own program look kept row t own found v fits is gives = rw (to_z-of_z w128 v fits) (subst (λ (rule : Rule). Gives program look kept row t rule v) (sym is) gives)

pub returns-in-Works : goal.returns-in-Works
returns-in-Works c =
    gives_own c.args.program.now (value_at c.args.row.now) (kept_at c.args.pasts.now) c.args.numbers.now c.args.t _ _ c.work.result (record { sfits = c.work.type_inv }) c.in-Works.is c.work.ensures

pub returns-in-Input : goal.returns-in-Input
returns-in-Input c =
    gives_own c.args.program.now (value_at c.args.row.now)
    (kept_at c.args.pasts.now) c.args.numbers.now c.args.t _ _ c.value_in.result
    (record { sfits = c.value_in.type_inv }) c.in-Input.is c.value_in.ensures

pub returns-in-Same : goal.returns-in-Same
returns-in-Same c =
    gives_own c.args.program.now (value_at c.args.row.now) (kept_at c.args.pasts.now) c.args.numbers.now c.args.t _ _ c.read.result (record { sfits = c.read.type_inv }) c.in-Same.is c.read.ensures

pub returns-in-Fixed : goal.returns-in-Fixed
returns-in-Fixed c =
    gives_own c.args.program.now (value_at c.args.row.now) (kept_at c.args.pasts.now) c.args.numbers.now c.args.t _ _ c.in-Fixed.value (search rules) c.in-Fixed.is refl

pub returns-in-Past : goal.returns-in-Past
returns-in-Past c =
    let kept = rw (to_z-of_z w128 c.in-Past.initial (search rules)) at c.memory_value.ensures in
    gives_own c.args.program.now (value_at c.args.row.now)
    (kept_at c.args.pasts.now) c.args.numbers.now c.args.t _ _ c.memory_value.result
    (record { sfits = c.memory_value.type_inv }) c.in-Past.is kept

pub returns-in-Held : goal.returns-in-Held
returns-in-Held c =
    let kept = rw (to_z-of_z w128 c.in-Held.initial (search rules)) at c.memory_value-in-Held.ensures in
    let given = rw (to_z-of_z w128 c.memory_value-in-Held.result (record { sfits = c.memory_value-in-Held.type_inv }), kept) at c.read_where_on.ensures in
    gives_own c.args.program.now (value_at c.args.row.now)
    (kept_at c.args.pasts.now) c.args.numbers.now c.args.t _ _ c.read_where_on.result
    (record { sfits = c.read_where_on.type_inv }) c.in-Held.is given

pub returns-in-Reset : goal.returns-in-Reset
returns-in-Reset c =
    let given = rw (to_z-of_z w128 c.in-Reset.initial (search rules)) at c.read_where_on-in-Reset.ensures in
    gives_own c.args.program.now (value_at c.args.row.now)
    (kept_at c.args.pasts.now) c.args.numbers.now c.args.t _ _ c.read_where_on-in-Reset.result
    (record { sfits = c.read_where_on-in-Reset.type_inv }) c.in-Reset.is given
