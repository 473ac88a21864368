-- A diagram whose root ports have a number in every base sample: the periods of its root elements, and when
-- its outputs are ready.
use Rattle.std.proofs.Common.{◌≡◌, ℕ, ◌<◌, true, ◌||◌, List, Contains, Option, Some, ap, ◌∙◌, arith}
use Rattle.std.specs.Prelude.{is_some, slice_get}
use Rattle.std.proofs.lemmas.Option.{slice_get-get_or}
use Rattle.dg_model.specs.declared.diagram.Block.{Block}
use Rattle.dg_model.specs.declared.diagram.Diagram.{Diagram}
use Rattle.dg_model.specs.declared.resolved.Resolved.{Resolved}
use Rattle.dg_model.specs.Attributes.{attributes_of}
use Rattle.dg_model.specs.Faults.{AllKeep}
use Rattle.dg_model.specs.declared.row.Role.{Role}
use Rattle.dg_model.specs.Laws.{InputsAreListed, IsElementOfPort, OutputsAreListed}
use Rattle.dg_model.specs.Library.{row_of}
use Rattle.dg_model.specs.RootElements.{RootElement, number_in, root_inputs, root_outputs}
use Rattle.dg_model.specs.Signals.{Attributes}
use Rattle.dg_model.specs.Wired.{IsWired, root_input, root_output}
use Rattle.dg_model.specs.Wires.{width_into}
use Rattle.hw_sched.specs.Laws.{ReadyFits}
use Rattle.hw_sched.specs.Ready.{ready_of}
use Rattle.hw_sched.specs.Scheduled.{IsScheduled}
use Rattle.hw_sched.specs.Slots.{Timing}
use Rattle.cmd_generate.specs.Streamed.{KeepsStream, is_root_port}
use Rattle.std.proofs.lemmas.Bool.{or_right}

input-port : (b : Block) (number : ℕ) → number_in root_input b ≡ Some number → is_root_port b ≡ true
input-port b number e = let s = ap is_some e in (λ i. s i || is_some (root_output (row_of b.kind).place.role))

output-port : (b : Block) (number : ℕ) → number_in root_output b ≡ Some number → is_root_port b ≡ true
output-port b number e = or_right (is_some (root_input (row_of b.kind).place.role)) (is_some (root_output (row_of b.kind).place.role)) (ap is_some e)

pub placed : (elements : List RootElement) (e : RootElement) (c : Contains elements e) → slice_get elements c.0 ≡ Some e
placed elements e c = slice_get-get_or elements c.0 e c.1 ∙ ap (λ (x : RootElement). Some x) c.2

module _ (diagram : Diagram) (wired : IsWired diagram) (kept : AllKeep diagram (KeepsStream diagram)) (inputs : InputsAreListed) (outputs : OutputsAreListed) where
  abbrev A : Attributes
  A = attributes_of diagram

  by-element : (number_of : Role → Option ℕ) (width_of : ℕ → ℕ) (e : RootElement) → ((b : Block) (number : ℕ) → number_in number_of b ≡ Some number → is_root_port b ≡ true)
      → IsElementOfPort number_of width_of diagram A e → (A.period_at e.block ≡ Some 1) × (e.period ≡ Some 1)
  by-element number_of width_of e port of =
      let p : A.period_at e.block ≡ Some 1 = kept e.block of.0 of.1 (port of.0 e.number of.2) in
      (p, ap (λ (x : RootElement). x.period) of.4 ∙ p)

  pub in-steady : (e : RootElement) → Contains (root_inputs diagram A) e → e.period ≡ Some 1
  in-steady e c =
      let listed = inputs diagram A wired in
      (by-element root_input (λ block. A.width_at block 1) e input-port (listed.elements_of c.0 e (placed (root_inputs diagram A) e c))).1

  out-both : (e : RootElement) → Contains (root_outputs diagram A) e → (A.period_at e.block ≡ Some 1) × (e.period ≡ Some 1)
  out-both e c =
      let listed = outputs diagram A wired in
      by-element root_output (λ block. width_into diagram A block 1) e output-port (listed.elements_of c.0 e (placed (root_outputs diagram A) e c))

  pub out-steady : (e : RootElement) → Contains (root_outputs diagram A) e → e.period ≡ Some 1
  out-steady e c = (out-both e c).1

  pub out-ready : (plan : Resolved) (timing : Timing) → ReadyFits → IsScheduled diagram plan timing
      → (e : RootElement) → Contains (root_outputs diagram A) e
      → ready_of diagram A plan timing e.block < plan.cycles
  out-ready plan timing fits scheduled e c =
      let p = (out-both e c).0 in
      let h = fits diagram plan timing e.block 1 scheduled p in
      omega (arith, h)
