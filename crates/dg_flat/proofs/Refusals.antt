-- Each way to break the rules of wiring and of enabled subsystems, and blocks that keep them, worked by hand.
use Rattle.std.proofs.Common.{◌≡◌, ℕ, zero, suc, ◌≤◌, List, [], ◌∷◌, codes, Option, None, Some, true, false, refl, sym, arith, lit≤, lit<}
use Rattle.std.specs.Prelude.{All}
use Rattle.std.proofs.lemmas.Bool.{false≢true}
use Rattle.std.proofs.lemmas.Option.{none-some, same_Some}
use Rattle.fx_type.specs.declared.decimal.Decimal.{Decimal}
use Rattle.fx_type.specs.declared.spec.TypeSpec.TheVariants.{Auto}
use Rattle.fx_type.specs.declared.rounding.Rounding.TheVariants.{Floor}
use Rattle.dg_model.specs.declared.diagram.Block.{Block}
use Rattle.dg_model.specs.declared.diagram.PeriodSpec.TheVariants.{Inherit}
use Rattle.dg_model.specs.declared.kind.Kind.{Kind}
use Rattle.dg_model.specs.declared.kind.Kind.TheVariants.{Inport, RateTransition, Pass, Terminator}
use Rattle.dg_model.specs.declared.nested.Nested.{Nested}
use Rattle.dg_model.specs.declared.nested.NestedBlock.{NestedBlock}
use Rattle.dg_model.specs.declared.nested.NestedLine.{NestedLine}
use Rattle.dg_model.specs.declared.nested.Part.{Part}
use Rattle.dg_model.specs.declared.nested.Part.TheVariants.{Plain, In, SubSystem, Enable}
use Rattle.dg_model.specs.declared.nested.Target.{Target}
use Rattle.dg_model.specs.declared.nested.Target.TheVariants.{Port, Enable as ToEnable}
use Rattle.dg_flat.specs.Parts.{outputs_of}
use Rattle.dg_flat.specs.Rules.{HasEnd, KeepsWiring, KeepsEnable, drivers, is_port}

abbrev block : Kind → ℕ → ℕ → Block
block kind inputs outputs = record { path = []; kind = kind; inputs = inputs; outputs = outputs; result = Auto; rounding = Floor; saturate = false; period = Inherit; enable = None }

abbrev within : Option ℕ → Part → NestedBlock
within system part = record { name = codes "b"; parent = system; part = part }

abbrev root_in : NestedBlock
root_in = within None (In (block (Inport 1 0) 0 1) 1)

abbrev inner_in : ℕ → ℕ → NestedBlock
inner_in system number = within (Some system) (In (block (Pass 0) 1 1) number)

abbrev last : Option ℕ → NestedBlock
last system = within system (Plain (block Terminator 1 0))

abbrev line : ℕ → ℕ → ℕ → Target → NestedLine
line from from_port to target = record { from = from; from_port = from_port; to = to; target = target }

-- u, an enabled subsystem with an input and an end, and another end
abbrev blocks : List NestedBlock
blocks = root_in ∷ within None SubSystem ∷ within (Some 1) (Enable false) ∷ inner_in 1 1 ∷ last (Some 1) ∷ last None ∷ []

abbrev with_lines : List NestedLine → Nested
with_lines lines = record { blocks = blocks; lines = lines }

-- ---- the rule of wiring, kept and broken

two_of : (P : NestedLine → Type 0) (a b : NestedLine) → P a → P b → All P (a ∷ b ∷ [])
two_of P a b first second zero d inside = first
two_of P a b first second (suc zero) d inside = second
two_of P a b first second (suc (suc k)) d inside = absurd (omega (arith, inside))

subsystem_kept : KeepsWiring (with_lines (line 0 1 1 (Port 1) ∷ line 0 1 1 ToEnable ∷ [])) 1 (within None SubSystem)
subsystem_kept = record {
  leaving = two_of (λ l. l.from ≡ 1 → (1 ≤ l.from_port) × (l.from_port ≤ outputs_of blocks 1 SubSystem))
      (line 0 1 1 (Port 1)) (line 0 1 1 ToEnable) (λ from. absurd (omega (arith, from)))
      (λ from. absurd (omega (arith, from)));
  ending = two_of (λ l. l.to ≡ 1 → HasEnd blocks 1 SubSystem l.target) (line 0 1 1 (Port 1)) (line 0 1 1 ToEnable) (λ to. (lit≤ tt, lit≤ tt)) (λ to. refl);
  driven = one_port;
  enabled = tt;
  in_number = λ number is. absurd (none-some number is);
  out_number = λ number is. absurd (none-some number is);
} where
  one_port : (port : ℕ) → 1 ≤ port → port ≤ 1 → drivers (line 0 1 1 (Port 1) ∷ line 0 1 1 ToEnable ∷ []) 1 (is_port port) ≡ 1
  one_port zero above within = absurd (omega (arith, above))
  one_port (suc zero) above within = refl
  one_port (suc (suc n)) above within = absurd (omega (arith, within))

no_driver : ¬ KeepsWiring (with_lines []) 1 (within None SubSystem)
no_driver keeps = absurd (omega (arith, keeps.driven 1 (lit≤ tt) (lit≤ tt)))

two_drivers : ¬ KeepsWiring (with_lines (line 0 1 5 (Port 1) ∷ line 0 1 5 (Port 1) ∷ [])) 5 (last None)
two_drivers keeps = absurd (omega (arith, keeps.driven 1 (lit≤ tt) (lit≤ tt)))

-- a line from a port that isn't there still drives its other end, and breaks the rule at its source
no_output : ¬ KeepsWiring (with_lines (line 0 2 5 (Port 1) ∷ [])) 0 root_in
no_output keeps = absurd (omega (arith, (keeps.leaving 0 (line 0 2 5 (Port 1)) (lit< tt) refl).1))

no_input : ¬ KeepsWiring (with_lines (line 0 1 5 (Port 2) ∷ [])) 5 (last None)
no_input keeps = absurd (omega (arith, (keeps.ending 0 (line 0 1 5 (Port 2)) (lit< tt) refl).1))

no_inner_input : ¬ KeepsWiring (with_lines (line 0 1 1 (Port 2) ∷ [])) 1 (within None SubSystem)
no_inner_input keeps = absurd (omega (arith, (keeps.ending 0 (line 0 1 1 (Port 2)) (lit< tt) refl).1))

no_control : ¬ KeepsWiring (with_lines (line 0 1 5 ToEnable ∷ [])) 5 (last None)
no_control keeps = absurd (false≢true (keeps.ending 0 (line 0 1 5 ToEnable) (lit< tt) refl))

undriven_control : ¬ KeepsWiring (with_lines []) 2 (within (Some 1) (Enable false))
undriven_control keeps = absurd (omega (arith, keeps.enabled))

twice_driven_control : ¬ KeepsWiring (with_lines (line 0 1 1 ToEnable ∷ line 0 1 1 ToEnable ∷ [])) 2 (within (Some 1) (Enable false))
twice_driven_control keeps = absurd (omega (arith, keeps.enabled))

root_control : ¬ KeepsWiring (record { blocks = within None (Enable false) ∷ []; lines = [] }) 0 (within None (Enable false))
root_control keeps = absurd (omega (arith, keeps.enabled))

-- ---- numbers: above the count, that of an earlier one, and none

abbrev numbered : ℕ → ℕ → Nested
numbered first second = record { blocks = within None SubSystem ∷ inner_in 0 first ∷ inner_in 0 second ∷ []; lines = [] }

above_count : ¬ KeepsWiring (numbered 3 1) 1 (inner_in 0 3)
above_count keeps = absurd (omega (arith, (keeps.in_number 3 refl).within))

had_before : ¬ KeepsWiring (numbered 1 1) 2 (inner_in 0 1)
had_before keeps = absurd ((keeps.in_number 1 refl).first 1 (inner_in 0 1) (lit< tt) refl refl refl)

no_number : ¬ KeepsWiring (numbered 0 1) 1 (inner_in 0 0)
no_number keeps = absurd (omega (arith, (keeps.in_number 0 refl).above))

-- ---- the rule of enabled subsystems

only_control : KeepsEnable (with_lines []) 2 (within (Some 1) (Enable false))
only_control = (refl, refl)

second_control : ¬ KeepsEnable (record { blocks = within None SubSystem ∷ within (Some 0) (Enable false) ∷ within (Some 0) (Enable true) ∷ []; lines = [] }) 2 (within (Some 0) (Enable true))
second_control keeps = absurd (omega (arith, same_Some 1 2 keeps.0))

-- an EnablePort two levels inside an enabled subsystem, whose own stands behind it in the file
inner_control : ¬ KeepsEnable (record {
  blocks =
      within None SubSystem ∷ within (Some 0) SubSystem ∷ within (Some 1) SubSystem ∷ within (Some 2) (Enable false)
      ∷ within (Some 0) (Enable false) ∷ [];
  lines = [];
}) 3 (within (Some 2) (Enable false))
inner_control keeps = absurd (none-some 4 (sym keeps.1))

abbrev slower : Option ℕ → Decimal → NestedBlock
slower system period = within system (Plain (block (RateTransition period []) 1 1))

rate_outside : (period : Decimal) → KeepsEnable (record { blocks = within None SubSystem ∷ slower (Some 0) period ∷ []; lines = [] }) 1 (slower (Some 0) period)
rate_outside period = refl

rate_inside : (period : Decimal) → ¬ KeepsEnable
    (record {
      blocks = within None SubSystem ∷ within (Some 0) SubSystem ∷ slower (Some 1) period
          ∷ within (Some 0) (Enable false) ∷ [];
      lines = [];
    }) 2 (slower (Some 1) period)
rate_inside period keeps = absurd (none-some 3 (sym keeps))
