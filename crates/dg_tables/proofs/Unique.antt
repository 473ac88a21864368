-- At most one table solves: by samples, and at a sample by the order of the blocks.
use Rattle.std.proofs.Common.{◌≡◌, ℕ, zero, suc, ◌<◌, ◌≤◌, ◌⊎◌, inl, inr, Some, slice_get, ℤ, sym, ◌∙◌, subst, arith, eq-or-lt_of_le, le_of_suc-le-suc, le_trans}
use Rattle.std.proofs.lemmas.Option.{MatchOption-at_some}
use Rattle.dg_model.specs.declared.diagram.Diagram.{Diagram}
use Rattle.dg_model.specs.declared.diagram.Block.{Block}
use Rattle.dg_model.specs.Signals.{Attributes, Stimulus, Table}
use Rattle.dg_model.specs.Hits.{Hits, last_hit}
use Rattle.dg_model.specs.Equation.{KindEquation, Equation}
use Rattle.dg_model.specs.Solves.{Solves, AgreeAt, AgreeBelow}
use Rattle.dg_tables.proofs.Ground.{IsRanked, RankedTablesAreOne}
use Rattle.fx_round.specs.Laws.{StoringGivesOne}
use Rattle.dg_blocks.specs.Laws.{OperationGivesAtMostOne}
use Rattle.dg_tables.proofs.Lists.{hit_or_not, last_before}
use Rattle.dg_tables.proofs.Agreement.{carried}
use Rattle.dg_tables.proofs.Single.{kind_one}

module _ (storing : StoringGivesOne) (at_most : OperationGivesAtMostOne) (diagram : Diagram) (attributes : Attributes) (rank : ℕ → ℕ) (stimulus : Stimulus) (n : ℕ) (table other : Table)
    (checked : IsRanked diagram attributes rank) (solves : Solves diagram attributes stimulus n table) (solved : Solves diagram attributes stimulus n other)
  where
    abbrev Agree : ℕ → ℕ → Type 0
    Agree block t = AgreeAt diagram attributes table other block t

    of_kind : (any : Table) (block : ℕ) (b : Block) (port element t : ℕ) (v : ℤ) → slice_get diagram.blocks block ≡ Some b → Equation diagram attributes stimulus any block port element t v
        → KindEquation diagram attributes stimulus any b.kind b block port element t v
    of_kind any block b port element t v e h = MatchOption-at_some ⊥ (λ (b : Block). KindEquation diagram attributes stimulus any b.kind b block port element t v) b e h

    -- one block at one sample
    step : (t : ℕ) → t < n → ((block s : ℕ) → s < t → Agree block s) → (block : ℕ) → ((driver : ℕ) → rank driver < rank block → Agree driver t) → Agree block t
    step t below before block lower b port element shown = go (hit_or_not (attributes.period_at block) t)
      where
        go : Hits (attributes.period_at block) t ⊎ ¬ Hits (attributes.period_at block) t → table block port element t ≡ other block port element t
        go (inl hit) =
            let p = of_kind table block b port element t (table block port element t) shown.block_is (solves.at_hits block b port element t shown below hit) in
            let q = of_kind other block b port element t (other block port element t) shown.block_is (solved.at_hits block b port element t shown below hit) in
            kind_one storing at_most diagram attributes rank checked stimulus other block b shown.block_is
            (checked.types block b 1 shown.block_is (omega arith) (le_trans shown.port_from shown.port_to)) t
            (table block port element t) (other block port element t) b.kind port element
            (carried diagram attributes rank checked stimulus table other block b shown.block_is t before port element (table block port element t) shown lower p) q
        go (inr miss) =
            solves.between_hits block b port element t shown below miss
            ∙ before block (last_hit (attributes.period_at block) t) (last_before (attributes.period_at block) t miss) b port element shown
            ∙ sym (solved.between_hits block b port element t shown below miss)

    by_rank : (t : ℕ) → t < n → ((block s : ℕ) → s < t → Agree block s) → (r block : ℕ) → rank block < r → Agree block t
    by_rank t below before zero block lower = absurd (omega (arith, lower))
    by_rank t below before (suc r) block lower = step t below before block (λ driver l. by_rank t below before r driver (omega (arith, l, lower)))

    by_sample : (t : ℕ) → t ≤ n → (block s : ℕ) → s < t → Agree block s
    by_sample zero below block s l = absurd (omega (arith, l))
    by_sample (suc t) below block s l = go (by_sample t (omega (arith, below))) (eq-or-lt_of_le (le_of_suc-le-suc l))
      where
        go : ((block s : ℕ) → s < t → Agree block s) → (s ≡ t) ⊎ (s < t) → Agree block s
        go before (inl e) = subst (λ (k : ℕ). Agree block k) (sym e) (by_rank t below before (suc (rank block)) block (omega arith))
        go before (inr k) = before block s k

    pub agree : AgreeBelow diagram attributes table other n
    agree block t l = by_sample n (omega arith) block t l

pub tables_one : StoringGivesOne → OperationGivesAtMostOne → RankedTablesAreOne
tables_one storing at_most diagram attributes rank stimulus n table other checked solves solved = agree storing at_most diagram attributes rank stimulus n table other checked solves solved
