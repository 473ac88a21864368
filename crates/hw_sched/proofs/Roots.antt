-- Root inputs read nothing, and are ready at once.
use Rattle.std.proofs.Common.{◌≡◌, ℕ, zero, suc, ◌+◌, Bool, true, false, refl, sym, ap, subst, ◌∙◌, inl, inr, arith}
use Rattle.std.specs.Prelude.{slice_get, Some}
use Rattle.std.proofs.lemmas.Bool.{false≢true, cases_Bool, and_parts}
use Rattle.std.proofs.lemmas.Option.{same_Some, slice_get_within, slice_get-get_or}
use Rattle.dg_model.specs.declared.diagram.Diagram.{Diagram}
use Rattle.dg_model.specs.declared.diagram.Block.{Block}
use Rattle.dg_model.specs.declared.kind.Kind.{Kind}
use Rattle.dg_model.specs.declared.kind.Kind.TheVariants.{Inport}
use Rattle.dg_model.specs.declared.resolved.Resolved.{Resolved}
use Rattle.dg_model.specs.Attributes.{attributes_of}
use Rattle.dg_model.specs.declared.row.Inherited.{Inherited}
use Rattle.dg_model.specs.LatencyEdges.{LatencyEdge, latency_edges, asks_ever}
use Rattle.dg_model.specs.Library.{row_of}
use Rattle.dg_model.specs.Readable.{HasPorts}
use Rattle.dg_model.specs.Loop.{LeadsNow, IsInCone}
use Rattle.dg_model.specs.Wired.{IsWired}
use Rattle.hw_latency.specs.Cone.{IsFed, is_marked}
use Rattle.hw_latency.specs.Shared.{multiplies, multiplies_if, shares, is_shared}
use Rattle.hw_sched.specs.Laws.{NoneIntoRoots, RootsAreReady}
use Rattle.hw_sched.proofs.Edges.{control_edge, edge_cases, ends_at}
use Rattle.hw_sched.proofs.Periods.{readable_at}
use Rattle.hw_sched.proofs.Readiness.{unfed_ready}

abbrev is_base : Inherited → Bool
is_base Inherited.OfSources = false
is_base Inherited.Moving = false
is_base Inherited.Base = true
is_base Inherited.Unchanging = false

no_inputs : (kind : Kind) (inputs outputs : ℕ) → is_base (row_of kind).timing.inherits ≡ true → HasPorts kind inputs outputs → inputs ≡ 0
no_inputs (Inport number width) inputs outputs base ports = ports.0
no_inputs _ inputs outputs base ports = absurd (false≢true base)

asks_nothing : (kind : Kind) → is_base (row_of kind).timing.inherits ≡ true → asks_ever (row_of kind).timing.asks ≡ false
asks_nothing (Inport number width) base = refl
asks_nothing _ base = absurd (false≢true base)

multiplies_not : (kind : Kind) → is_base (row_of kind).timing.inherits ≡ true → (row_of kind).hardware.multiplies ≡ false
multiplies_not (Inport number width) base = refl
multiplies_not _ base = absurd (false≢true base)

pub none_into : NoneIntoRoots
none_into diagram place b number edge wired at inherits is_edge to = elim (edge_cases diagram number edge is_edge) [
  | inl line ↦
      let to_is : line.line.to ≡ place = ap (λ (e : LatencyEdge). e.to) (sym line.is) ∙ to in
      let ends = ends_at diagram wired line.place line.line b line.at (ap (slice_get diagram.blocks) to_is ∙ at) in
      let none = no_inputs b.kind b.inputs b.outputs (ap is_base inherits) (readable_at diagram wired place b at).ports in
      let low = ends.0 in
      let high = ends.1 in
      absurd (omega (arith, none, low, high))
  | inr control ↦
      let here : 0 + control.place ≡ control.place = omega arith in
      let to_is : control.place ≡ place = sym (ap (λ (e : LatencyEdge). e.to) (control.is ∙ ap (control_edge control.control) here)) ∙ to in
      let same : control.block ≡ b = same_Some control.block b (sym control.at ∙ ap (slice_get diagram.blocks) to_is ∙ at) in
      absurd (false≢true (sym (asks_nothing b.kind (ap is_base inherits)) ∙ ap (λ (x : Block). asks_ever (row_of x.kind).timing.asks) (sym same) ∙ control.asks))
]

module _ (diagram : Diagram) (place : ℕ) (b : Block) (wired : IsWired diagram) (at : slice_get diagram.blocks place ≡ Some b) (inherits : (row_of b.kind).timing.inherits ≡ Inherited.Base) where
  -- nothing leads to it
  none_leads : (source : ℕ) → LeadsNow diagram (attributes_of diagram) source place → ⊥
  none_leads source leads =
      none_into diagram place b leads.0 leads.1 wired at inherits (slice_get-get_or (latency_edges diagram) leads.0 leads.1 leads.2 ∙ ap (λ (e : LatencyEdge). Some e) leads.3) leads.4.1

  -- so its cone is itself
  alone_there : (source : ℕ) → IsInCone diagram (attributes_of diagram) source place → source ≡ place
  alone_there source cone = go cone.last cone.ends
    where
      go : (last : ℕ) → slice_get cone.path last ≡ Some place → source ≡ place
      go zero ends = same_Some source place (sym cone.begins ∙ ends)
      go (suc last) ends =
          let within = slice_get_within cone.path (suc last) place ends in
          absurd (none_leads _ (cone.leads last _ place (slice_get-get_or cone.path last 0 (omega (arith, within))) ends))

  never_fed : (plan : Resolved) → IsFed diagram (attributes_of diagram) plan place → ⊥
  never_fed plan fed =
      let same = alone_there fed.source fed.cone in
      let shared : is_shared diagram (attributes_of diagram) plan place ≡ true = subst (λ (n : ℕ). is_shared diagram (attributes_of diagram) plan n ≡ true) same fed.shared in
      let multiplied = (and_parts (multiplies diagram place) (shares plan ((attributes_of diagram).period_at place)) shared).0 in
      false≢true (sym (multiplies_not b.kind (ap is_base inherits)) ∙ ap multiplies_if (sym at) ∙ multiplied)

pub roots_are_ready : RootsAreReady
roots_are_ready diagram plan timing place b wired fed at inherits = elim (cases_Bool (is_marked timing.fed place)) [
  | inl marked ↦ absurd (never_fed diagram place b wired at inherits plan (fed.sound place marked))
  | inr unmarked ↦ unfed_ready diagram (attributes_of diagram) plan timing place unmarked
]
