-- The lines of a filter join its blocks.
use Rattle.std.proofs.Common.{◌≡◌, ℕ, zero, suc, ◌+◌, ◌-◌, ◌*◌, ◌<◌, ◌≤◌, [], ◌∷◌, ◌++◌, map, refl, arith}
use Rattle.std.specs.Prelude.{All}
use Rattle.std.specs.List.{range_with_len}
use Rattle.std.proofs.lemmas.List.Elements.{All-append}
use Rattle.dg_model.specs.declared.diagram.Edge.{Edge}
use Rattle.dg_model.specs.KindRow.{IsBetween}
use Rattle.fir_block.specs.Expanded.{line, chain_of, taps_of, terms_of, lines_of}

-- both ends are among the blocks of a filter of so many coefficients, whose Inport has the number
-- `first`
pub record Joins (first count : ℕ) (edge : Edge) : Type 0 where
  pub source : ℕ
  pub from_is : edge.from ≡ first + source
  pub source_within : source < 2 * count + 2
  pub goal : ℕ
  pub to_is : edge.to ≡ first + goal
  pub goal_within : goal < 2 * count + 2
  pub from_port : IsBetween 1 32 edge.from_port
  pub to_port : IsBetween 1 32 edge.to_port

over_range : (P : Edge → Type 0) (f : ℕ → Edge) (from count : ℕ) → ((k : ℕ) → from ≤ k → k < from + count → P (f k)) → All P (map f (range_with_len from count))
over_range P f from zero each k d within = absurd (omega (arith, within))
over_range P f from (suc count) each zero d within = each from (omega arith) (omega arith)
over_range P f from (suc count) each (suc k) d within =
    over_range P f (from + 1) count (λ j least less. each j (omega (arith, least)) (omega (arith, less))) k d (omega (arith, within))

module _ (first count : ℕ) (some : 2 ≤ count) (few : count ≤ 32) where
  chain : All (Joins first count) (chain_of first count)
  chain = over_range (Joins first count) (λ k. line (first + (k - 1)) (first + k) 1) 1 (count - 1) (λ k least less. record {
    source = k - 1;
    from_is = refl;
    source_within = omega (arith, less);
    goal = k;
    to_is = refl;
    goal_within = omega (arith, less);
    from_port = (omega arith, omega arith);
    to_port = (omega arith, omega arith);
  })

  taps : All (Joins first count) (taps_of first count)
  taps = over_range (Joins first count) (λ k. line (first + k) (first + (count + k)) 1) 0 count (λ k least less. record {
    source = k;
    from_is = refl;
    source_within = omega (arith, less);
    goal = count + k;
    to_is = refl;
    goal_within = omega (arith, less);
    from_port = (omega arith, omega arith);
    to_port = (omega arith, omega arith);
  })

  terms : All (Joins first count) (terms_of first count)
  terms = over_range (Joins first count) (λ k. line (first + (count + k)) (first + 2 * count) (k + 1)) 0 count (λ k least less. record {
    source = count + k;
    from_is = refl;
    source_within = omega (arith, less);
    goal = 2 * count;
    to_is = refl;
    goal_within = omega arith;
    from_port = (omega arith, omega arith);
    to_port = (omega arith, omega (arith, less));
  })

  last : All (Joins first count) (line (first + 2 * count) (first + 2 * count + 1) 1 ∷ [])
  last zero d within = record {
    source = 2 * count;
    from_is = refl;
    source_within = omega arith;
    goal = 2 * count + 1;
    to_is = omega arith;
    goal_within = omega arith;
    from_port = (omega arith, omega arith);
    to_port = (omega arith, omega arith);
  }
  last (suc k) d within = absurd (omega (arith, within))

  pub edges_join : All (Joins first count) (lines_of first count)
  edges_join =
      All-append (Joins first count) (chain_of first count) (taps_of first count ++ (terms_of first count ++ line (first + 2 * count) (first + 2 * count + 1) 1 ∷ [])) chain
      (All-append (Joins first count) (taps_of first count) (terms_of first count ++ line (first + 2 * count) (first + 2 * count + 1) 1 ∷ []) taps
      (All-append (Joins first count) (terms_of first count) (line (first + 2 * count) (first + 2 * count + 1) 1 ∷ []) terms last))
