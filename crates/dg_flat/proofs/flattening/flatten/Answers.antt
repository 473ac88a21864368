use Rattle.std.proofs.Common.{Result, Ok, Err}
use Rattle.std.specs.Prelude.{IfOk, OnOk}
use Rattle.std.proofs.lemmas.Result.{IfOk-weaker}
use Rattle.dg_model.specs.declared.diagram.Diagram.{Diagram}
use Rattle.dg_model.specs.declared.nested.Nested.{Nested}
use Rattle.dg_model.specs.Sound.{IsSound}
use Rattle.dg_model.specs.Wired.{IsWired}
use Rattle.dg_flat.specs.Flat.{IsFlatOf}
use Rattle.dg_flat.specs.inner.Verdict.{KeepsAll}
use Rattle.dg_flat.proofs.FromSound.{have_parents}
use Rattle.dg_flat.proofs.Law.{wired}
use Rattle.dg_flat.proofs.flattening.flatten.Goals as goal

wired_if : {E : Type 0} (nested : Nested) (made : Result Diagram E) → IsSound nested → OnOk made (KeepsAll nested) → IfOk made (IsFlatOf nested) → IfOk made IsWired
wired_if nested (Ok diagram) sound kept flat = wired nested diagram sound kept.wiring kept.enables flat
wired_if nested (Err fault) sound kept flat = tt

pub of-requires-clause-parents : goal.of-requires-clause-parents
of-requires-clause-parents c = rw c.as_slice-blocks.ensures (have_parents c.args.nested.now c.requires)

pub system_paths-requires : goal.system_paths-requires
system_paths-requires c = rw c.as_slice-blocks.ensures (have_parents c.args.nested.now c.requires)

pub returns-clause-wired : goal.returns-clause-wired
returns-clause-wired c = wired_if c.args.nested.now c.diagram_of.result c.requires c.diagram_of.ensures.kept c.diagram_of.ensures.flat

pub returns-clause-flat : goal.returns-clause-flat
returns-clause-flat c = c.diagram_of.ensures.flat

pub returns-clause-wiring : goal.returns-clause-wiring
returns-clause-wiring c = IfOk-weaker c.diagram_of.result (λ _. KeepsAll c.args.nested.now) _ (λ _ k. k.wiring) c.diagram_of.ensures.kept

pub returns-clause-enables : goal.returns-clause-enables
returns-clause-enables c = IfOk-weaker c.diagram_of.result (λ _. KeepsAll c.args.nested.now) _ (λ _ k. k.enables) c.diagram_of.ensures.kept

pub returns-clause-refused : goal.returns-clause-refused
returns-clause-refused c = c.diagram_of.ensures.refused

pub diagram_of-requires-clause-paths : goal.diagram_of-requires-clause-paths
diagram_of-requires-clause-paths c = rw (c.as_slice.ensures, ← c.as_slice-blocks.ensures) c.in_ok-paths.ensures

pub diagram_of-requires-clause-systems : goal.diagram_of-requires-clause-systems
diagram_of-requires-clause-systems c = rw (← c.as_slice-blocks.ensures) c.in_ok-systems.ensures
