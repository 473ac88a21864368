-- The code's step of periods is that of the diagram.
use Rattle.std.proofs.Common.{◌≡◌, ℕ, zero, suc, Bool, false, List, [], ◌∷◌, length, Some, None, Option, get_or, refl, sym, ap, ◌∙◌}
use Rattle.std.specs.Prelude.{slice_get}
use Rattle.std.proofs.lemmas.Option.{none-some, same_Some}
use Rattle.dg_waves.specs.Rounds.{after_rounds}
use Rattle.dg_waves.proofs.WaveRounds.{rounds_agree}
use Rattle.dg_model.specs.declared.diagram.Diagram.{Diagram}
use Rattle.dg_model.specs.declared.diagram.Block.{Block}
use Rattle.dg_model.specs.declared.row.Inherited.{Inherited}
use Rattle.dg_model.specs.Library.{row_of}
use Rattle.dg_model.specs.Periods.{Periods, known_at, known_or, least_finite, next_periods, period_of_next, sources_of, taken_period}
use Rattle.dg_rates.specs.inner.Links.{AreSources}
use Rattle.fx_io.specs.Rows.{row_at}
use Rattle.dg_rates.specs.inner.Steps.{all_rests, is_of_sources, known_of, next_known, taken_by}
use Rattle.math_list.proofs.Places.{get_some}

taken_is : (inherits : Inherited) (sources : Periods) (least : Option ℕ) → least_finite sources ≡ least → taken_by (is_of_sources inherits) sources ≡ taken_period inherits sources
taken_is Inherited.OfSources sources None e = rw e refl
taken_is Inherited.OfSources sources (Some period) e = rw e refl
taken_is Inherited.Moving sources None e = rw e refl
taken_is Inherited.Moving sources (Some period) e = rw e refl
taken_is Inherited.Base sources None e = rw e refl
taken_is Inherited.Base sources (Some period) e = rw e refl
taken_is Inherited.Unchanging sources None e = rw e refl
taken_is Inherited.Unchanging sources (Some period) e = rw e refl

pub rests_at : (blocks : List Block) (k : ℕ) (block : Block) → slice_get blocks k ≡ Some block → get_or (all_rests blocks) k false ≡ is_of_sources (row_of block.kind).timing.inherits
rests_at [] k block at = absurd (none-some block at)
rests_at (b ∷ blocks) zero block at = ap (λ (o : Block). is_of_sources (row_of o.kind).timing.inherits) (same_Some b block at)
rests_at (b ∷ blocks) (suc k) block at = rests_at blocks k block at

step_at : (diagram : Diagram) (sources : List (List ℕ)) (values : Periods) (k : ℕ) (block : Block) → AreSources diagram sources → slice_get diagram.blocks k ≡ Some block
    → next_known (all_rests diagram.blocks) sources values k ≡ next_periods diagram values k
step_at diagram sources values k block are at =
    ap (known_or (known_at values k))
    (ap (λ rests. taken_by rests (known_of values (row_at sources k))) (rests_at diagram.blocks k block at)
    ∙ ap (λ row. taken_by (is_of_sources (row_of block.kind).timing.inherits) (known_of values row)) (are.row k block at)
    ∙ taken_is (row_of block.kind).timing.inherits (known_of values (sources_of diagram k block)) (least_finite (known_of values (sources_of diagram k block))) refl
    ∙ ap (λ found. period_of_next diagram found values k) (sym at))

pub rounds_are : (diagram : Diagram) (rests : List Bool) (sources : List (List ℕ)) (n : ℕ) (start : Periods)
    → rests ≡ all_rests diagram.blocks → AreSources diagram sources → length start ≡ length diagram.blocks
    → after_rounds (next_known rests sources) n start ≡ after_rounds (next_periods diagram) n start
rounds_are diagram rests sources n start same are size =
    ap (λ rs. after_rounds (next_known rs sources) n start) same
    ∙ rounds_agree (next_known (all_rests diagram.blocks) sources) (next_periods diagram) (length diagram.blocks) (λ values k values_size inside.
    let block = get_some diagram.blocks k inside in
    step_at diagram sources values k block.0 are block.1) n start size
