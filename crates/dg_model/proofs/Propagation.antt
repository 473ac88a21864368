-- What stands at a block in the lists that propagation gives. Crates above may cite the lengths.
use Rattle.std.proofs.Common.{◌≡◌, ℕ, ◌+◌, ◌<◌, length, map, get_or, None, Some, sym, ap, subst, ◌∙◌, arith}
use Rattle.std.proofs.lemmas.List.{get_or-map, length-map}
use Rattle.std.proofs.lemmas.Option.{get_or_from_slice_get}
use Rattle.math_list.specs.Numbers.{numbers_from}
use Rattle.dg_waves.proofs.WaveRounds.{length_after}
use Rattle.math_list.proofs.Numbers.{mapped_at, length_numbers}
use Rattle.fx_type.specs.declared.kind.FxType.{FxType}
use Rattle.dg_model.specs.declared.diagram.Diagram.{Diagram}
use Rattle.dg_model.specs.declared.diagram.Block.{Block}
use Rattle.dg_model.specs.Attributes.{or_logical, param_type_at}
use Rattle.dg_model.specs.Checked.{params_of}
use Rattle.dg_model.specs.Periods.{periods_of, next_periods, first_periods, first_period, periods_after, or_one, known_at}
use Rattle.dg_model.specs.TypeRounds.{types_of, next_types, explicit_type}

pub length_periods : (diagram : Diagram) → length (periods_of diagram) ≡ length diagram.blocks
length_periods diagram =
    length-map (periods_after diagram (length diagram.blocks)) or_one
    ∙ length_after (next_periods diagram) (length diagram.blocks) (first_periods diagram)
    ∙ length-map diagram.blocks (λ (block : Block). first_period diagram block.kind block.period)

pub length_types : (diagram : Diagram) → length (types_of diagram) ≡ length diagram.blocks
length_types diagram =
    length_after (next_types diagram) (length diagram.blocks) (map (λ (block : Block). explicit_type block.result) diagram.blocks)
    ∙ length-map diagram.blocks (λ (block : Block). explicit_type block.result)

pub length_params : (diagram : Diagram) → length (params_of diagram) ≡ length diagram.blocks
length_params diagram =
    length-map (numbers_from 0 (length diagram.blocks)) (λ place. or_logical (param_type_at diagram (types_of diagram) place))
    ∙ length_numbers 0 (length diagram.blocks)

-- the type of a block stands at its place
pub type_stands : (diagram : Diagram) (place : ℕ) (none : FxType) → place < length diagram.blocks
    → get_or (map or_logical (types_of diagram)) place none ≡ or_logical (known_at (types_of diagram) place)
type_stands diagram place none within = get_or-map or_logical (types_of diagram) place None none (subst (λ n. place < n) (sym (length_types diagram)) within)

-- and that of its coefficients
pub param_stands : (diagram : Diagram) (place : ℕ) (none : FxType) → place < length diagram.blocks
    → get_or (params_of diagram) place none ≡ or_logical (param_type_at diagram (types_of diagram) place)
param_stands diagram place none within =
    let here : 0 + place ≡ place = omega arith in
    get_or_from_slice_get (params_of diagram) place (or_logical (param_type_at diagram (types_of diagram) place)) none
    (mapped_at (λ k. or_logical (param_type_at diagram (types_of diagram) k)) 0 (length diagram.blocks) place within
    ∙ ap (λ k. Some (or_logical (param_type_at diagram (types_of diagram) k))) here)
