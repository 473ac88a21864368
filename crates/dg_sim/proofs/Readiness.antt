-- The cells of a program that simulates a diagram can be prepared: a table of zeros is in range.
use Rattle.std.proofs.Common.{◌≡◌, ℕ, ◌+◌, ◌<◌, ◌++◌, ◌⊎◌, inl, inr, pos, List, [], ◌∷◌, length, Some, slice_get, ap, sym, ◌∙◌, refl, subst, subst₂, arith, length-append}
use Rattle.std.proofs.lemmas.Option.{same_Some, slice_get_within}
use Rattle.dg_blocks.specs.declared.prepared.Prepared.{Prepared}
use Rattle.fx_type.proofs.Ranges.{InRange-zero}
use Rattle.dg_model.specs.declared.diagram.Diagram.{Diagram}
use Rattle.dg_model.specs.Signals.{Attributes}
use Rattle.dg_sim.specs.declared.program.Cell.{Cell}
use Rattle.dg_sim.specs.declared.program.Program.{Program}
use Rattle.dg_sim.specs.Program.{CanGive}
use Rattle.dg_sim.specs.Ready.{IsReadyFor, AreReady}
use Rattle.dg_sim.specs.Sim.{IsProgram}
use Rattle.math_list.proofs.Places.{push_cases, get_some}

pub can_some : (diagram : Diagram) (attributes : Attributes) (program : Program) (k : ℕ) (cell : Cell)
    → IsProgram diagram attributes program → slice_get program.cells k ≡ Some cell
    → CanGive program (λ j. pos 0) cell.rule
can_some diagram attributes program k cell is here =
    let below : k < _ = subst (λ (n : ℕ). k < n) is.size (slice_get_within program.cells k cell here) in
    let place = get_some program.places k below in
    (is.cells k place.0 cell place.1 here).can (λ block port element t. pos 0) 0 (λ j. pos 0)
    (λ j place below at. refl)
    (λ block b port element t shown below. InRange-zero (attributes.type_at block port))

-- one more cell is prepared for
pub ready_more : (program : Program) (prepared later : List Prepared) (one : Prepared) (n : ℕ) (cell : Cell)
    → slice_get program.cells n ≡ Some cell → AreReady program prepared n → IsReadyFor program one cell.rule
    → later ≡ prepared ++ one ∷ [] → AreReady program later (n + 1)
ready_more program prepared later one n cell here are is e =
    subst (λ (xs : List Prepared). AreReady program xs (n + 1)) (sym e) (record {
      size = let size = length-append prepared (one ∷ []) in omega (arith, size, are.size);
      each = λ k c p at there. by_place k c p at (push_cases prepared one k p there);
    })
  where
    by_place : (k : ℕ) (c : Cell) (p : Prepared) → slice_get program.cells k ≡ Some c → (slice_get prepared k ≡ Some p) ⊎ ((k ≡ length prepared) × (one ≡ p)) → IsReadyFor program p c.rule
    by_place k c p at (inl a) = are.each k c p at a
    by_place k c p at (inr b) =
        let same : cell ≡ c = same_Some cell c (sym here ∙ ap (slice_get program.cells) (sym are.size ∙ sym b.0) ∙ at) in
        subst₂ (λ (q : Prepared) (d : Cell). IsReadyFor program q d.rule) b.1 same is
