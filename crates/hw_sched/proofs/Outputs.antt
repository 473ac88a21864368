-- When outputs are ready, block by block, and how wide blocks that multiply are.
use Rattle.std.proofs.Common.{◌≡◌, ℕ, ◌+◌, ◌<◌, true, false, Some, List, [], ◌∷◌, ◌++◌, length, sym, ap, subst, ◌∙◌, inl, inr, length-append, arith}
use Rattle.std.specs.Prelude.{slice_get}
use Rattle.std.proofs.lemmas.Bool.{cases_lt, cond-true, cond-false}
use Rattle.dg_model.specs.declared.diagram.Diagram.{Diagram}
use Rattle.dg_model.specs.declared.resolved.Resolved.{Resolved}
use Rattle.dg_model.specs.Attributes.{attributes_of}
use Rattle.hw_latency.specs.Cone.{is_marked}
use Rattle.hw_latency.specs.Weight.{samples}
use Rattle.hw_slots.specs.declared.bases.Bases.{Bases}
use Rattle.hw_slots.specs.Answer.{base_at}
use Rattle.hw_sched.specs.Level.{depth_at}
use Rattle.hw_sched.specs.Slots.{Timing, base_slot}
use Rattle.hw_sched.specs.Ready.{AreReady, ready_of}
use Rattle.hw_sched.specs.inner.Service.{AreBases}
use Rattle.math_list.proofs.Places.{get_front, last_at}

module _ (diagram : Diagram) (plan : Resolved) (timing : Timing) where
  abbrev ready : ℕ → ℕ
  ready place = ready_of diagram (attributes_of diagram) plan timing place

  -- the first blocks are ready then
  pub record AreReadyTo (count : ℕ) (list : List ℕ) : Type 0 where
    pub size : length list ≡ count
    pub are : (place : ℕ) → place < count → slice_get list place ≡ Some (ready place)

  pub fed_is : (bases : Bases) (place period depth number : ℕ) → AreBases diagram plan timing bases
      → is_marked timing.fed place ≡ true → period ≡ samples ((attributes_of diagram).period_at place)
      → depth ≡ depth_at timing.depths place → number ≡ base_at bases period depth → number ≡ ready place
  fed_is bases place period depth number are fed at deep is =
      is ∙ ap (λ (p : ℕ). base_at bases p depth) at ∙ ap (base_at bases (samples ((attributes_of diagram).period_at place))) deep ∙ are.are place (depth_at timing.depths place)
      ∙ sym (cond-true (is_marked timing.fed place) (base_slot diagram (attributes_of diagram) plan timing (samples ((attributes_of diagram).period_at place)) (depth_at timing.depths place)) 0 fed)

  pub unfed_is : (place : ℕ) → is_marked timing.fed place ≡ false → 0 ≡ ready place
  unfed_is place unfed = sym (cond-false (is_marked timing.fed place)
      (base_slot diagram (attributes_of diagram) plan timing (samples ((attributes_of diagram).period_at place))
      (depth_at timing.depths place)) 0 unfed)

  pub ready_none : (list : List ℕ) → list ≡ [] → AreReadyTo 0 list
  ready_none list none = record { size = ap (λ (xs : List ℕ). length xs) none; are = λ place below. absurd (omega (arith, below)) }

  pub ready_more : (place number : ℕ) (list : List ℕ) → number ≡ ready place → AreReadyTo place list → AreReadyTo (place + 1) (list ++ number ∷ [])
  ready_more place number list is before = record {
    size = let push = length-append list (number ∷ []) in let was = before.size in omega (arith, push, was);
    are = λ other below. elim (cases_lt other place) [
      | inl less ↦ get_front list (number ∷ []) other (let was = before.size in omega (arith, less, was)) ∙ before.are other less
      | inr past ↦
          let e : place ≡ other = omega (arith, past, below) in
          subst (λ (n : ℕ). slice_get (list ++ number ∷ []) n ≡ Some (ready n)) e
          (ap (slice_get (list ++ number ∷ [])) (sym before.size) ∙ last_at list number ∙ ap (λ (n : ℕ). Some n) is)
    ];
  }

  pub ready_end : (place : ℕ) (list : List ℕ) → place ≡ length diagram.blocks → AreReadyTo place list → AreReady diagram plan timing list
  ready_end place list all to = record { size = to.size ∙ all; are = λ other below. to.are other (omega (arith, below, all)) }
