-- The machine of a text, and which condition a fault of it is.
use Rattle.std.proofs.Common.{◌≡◌, ◌≤◌, ℕ, List, length, is_some, true, refl, sym, subst}
use Rattle.vl_ast.specs.declared.modules.Module.{Module}
use Rattle.vl_ast.specs.Conditions.{BreaksNone, Fault}
use Rattle.vl_ast.specs.Grammar.{Spells, most_items}
use Rattle.vl_ast.specs.Steps.{IsFirstRow}
use Rattle.vl_check.specs.Cause.{IsCause}
use Rattle.vl_check.specs.declared.fault.VlFault.{VlFault}
use Rattle.vl_check.specs.declared.fault.VlFault.TheVariants.{Undriven, Doubly, CombLoop, TooWide, NoReset, NoAttribute, OutOfMemory}
use Rattle.vl_eval.specs.Machine.{IsReady, row_of, source_of}
use Rattle.vl_eval.specs.declared.machine.Machine.{Machine}
use Rattle.cmd_replay.specs.Replayed.{IsBroken, IsSoundText, condition_of}
use Rattle.cmd_replay.specs.inner.Machines.{IsMachineOf}

-- the machine of a module is that of the text that spells it
pub machine-is : (bytes : List ℕ) (m : Module) (machine : Machine) → Spells bytes m → length m.items ≤ most_items → BreaksNone m → source_of machine ≡ m
    → IsFirstRow m (λ name. 0) (λ name. 0) (row_of machine) → IsReady machine → IsMachineOf bytes machine
machine-is bytes m machine spells few sound source row ready =
    let text : IsSoundText bytes m = record { spells = spells; few = few; sound = sound } in
    record {
      ready = ready;
      row = subst (λ (own : Module). IsFirstRow own (λ name. 0) (λ name. 0) (row_of machine)) (sym source) row;
      spelled = subst (λ (own : Module). IsSoundText bytes own) (sym source) text;
    }

-- a fault of the machine is that of the text
pub broken-by : (bytes : List ℕ) (m : Module) (fault : VlFault) → Spells bytes m → length m.items ≤ most_items → IsCause m fault → is_some (condition_of fault) ≡ true → IsBroken bytes fault
broken-by bytes m (Undriven name) spells few first other = record { condition = Fault.Undriven name; shown = refl; has = record { made = m; spells = spells; few = few; first = first } }
broken-by bytes m (Doubly name) spells few first other = record { condition = Fault.Doubly name; shown = refl; has = record { made = m; spells = spells; few = few; first = first } }
broken-by bytes m (CombLoop names) spells few first other = record { condition = Fault.CombLoop names; shown = refl; has = record { made = m; spells = spells; few = few; first = first } }
broken-by bytes m (TooWide name) spells few first other = record { condition = Fault.TooWide name; shown = refl; has = record { made = m; spells = spells; few = few; first = first } }
broken-by bytes m (NoReset name) spells few first other = record { condition = Fault.NoReset name; shown = refl; has = record { made = m; spells = spells; few = few; first = first } }
broken-by bytes m (NoAttribute name) spells few first other = record { condition = Fault.NoAttribute name; shown = refl; has = record { made = m; spells = spells; few = few; first = first } }
broken-by bytes m OutOfMemory spells few first other = absurd (cc other)
