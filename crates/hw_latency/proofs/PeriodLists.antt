-- The periods of a diagram's blocks, one after another.
use Rattle.std.proofs.Common.{◌≡◌, ℕ, ◌+◌, ◌<◌, ◌≤◌, ◌∷◌, [], ◌++◌, length, take, sym, ap, ◌∙◌, arith}
use Rattle.std.specs.Prelude.{List, None}
use Rattle.std.proofs.lemmas.List.{take_all, take_more}
use Rattle.dg_model.specs.declared.diagram.Diagram.{Diagram}
use Rattle.dg_model.specs.Periods.{Period, period_at, periods_of}
use Rattle.dg_model.proofs.Propagation.{length_periods}

pub period_more : (diagram : Diagram) (list : List Period) (i : ℕ) (period : Period) → i < length diagram.blocks
    → period ≡ period_at (periods_of diagram) i → list ≡ take i (periods_of diagram)
    → list ++ period ∷ [] ≡ take (i + 1) (periods_of diagram)
period_more diagram list i period inside is before =
    let size = length_periods diagram in
    ap (λ (ps : List Period). ps ++ period ∷ []) before ∙ ap (λ (p : Period). take i (periods_of diagram) ++ p ∷ []) is ∙ sym (take_more (periods_of diagram) i None (omega (arith, inside, size)))

pub periods_end : (diagram : Diagram) (list : List Period) (i : ℕ) → length diagram.blocks ≤ i → list ≡ take i (periods_of diagram) → list ≡ periods_of diagram
periods_end diagram list i past are =
    let size = length_periods diagram in
    are ∙ take_all i (periods_of diagram) (omega (arith, past, size))
