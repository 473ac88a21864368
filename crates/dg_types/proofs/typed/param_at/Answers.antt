use Rattle.std.proofs.Common.{◌≡◌, List, [], get_or, Some, ap, sym, ◌∙◌}
use Rattle.std.specs.Prelude.{slice_get}
use Rattle.std.proofs.lemmas.Bool.{and_parts}
use Rattle.std.proofs.lemmas.Option.{slice_get-get_or}
use Rattle.dg_model.specs.declared.diagram.Block.{Block}
use Rattle.dg_model.specs.Attributes.{or_logical, coefficient_type}
use Rattle.dg_model.specs.Library.{row_of}
use Rattle.dg_model.specs.Periods.{known_at}
use Rattle.dg_model.specs.TypeRounds.{Types, input_types, types_of}
use Rattle.dg_types.specs.declared.linked.Source.{Source}
use Rattle.dg_types.specs.inner.TypeInputs.{source_types}
use Rattle.dg_types.specs.inner.Build.{all_forms}
use Rattle.dg_types.proofs.TypeParts.{ready_at}
use Rattle.dg_types.proofs.SumTypes.{known_step}
use Rattle.dg_types.proofs.TypeRounds.{inputs_are_typed}
use Rattle.dg_types.proofs.typed.param_at.Goals as goal

pub coefficient_type-requires-clause-read : goal.coefficient_type-requires-clause-read
coefficient_type-requires-clause-read c = record { there = rw (c.requires.typed.types_size ∙ sym c.requires.typed.size) c.sources_of-sources.ensures.there; valid = c.requires.typed.valid }

pub coefficient_type-requires-clause-ready : goal.coefficient_type-requires-clause-ready
coefficient_type-requires-clause-ready c = rw c.sources_of-sources.ensures.value (and_parts _ _ (ready_at c.requires.typed c.args.typed.round.now.ready c.args.place _ c.requires.there)).1

pub returns : goal.returns
returns c =
    let diagram = c.args.typed.diagram.now in
    let place = c.args.place in
    let sources = c.args.typed.round.now.links.sources in
    let types = c.args.typed.types.now in
    let none = c.index-typed-place.result in
    let own = get_or diagram.blocks place none in
    let there : slice_get diagram.blocks place ≡ Some own = slice_get-get_or diagram.blocks place none c.requires.there in
    let inputs : source_types types c.sources_of-sources.result.now ≡ input_types diagram (types_of diagram) place =
    ap (λ (ss : List Source). source_types types ss) c.sources_of-sources.ensures.value ∙ ap (λ (ts : Types). source_types ts (get_or sources place [])) c.requires.typed.types_are
    ∙ inputs_are_typed diagram (all_forms c.args.typed.round.now.links.blocks.now) sources (types_of diagram) place c.requires.typed.mirrors c.requires.there in
    c.kind_or_logical.ensures
    ∙ ap or_logical (c.coefficient_type.ensures
    ∙ ap (λ (bs : List Block). coefficient_type (row_of (get_or bs place none).kind).types.full (known_at (source_types types c.sources_of-sources.result.now) 0)) c.requires.typed.blocks_are
    ∙ ap (λ (ts : Types). coefficient_type (row_of own.kind).types.full (known_at ts 0)) inputs
    ∙ sym (known_step (slice_get diagram.blocks place) own (λ block. coefficient_type (row_of block.kind).types.full (known_at (input_types diagram (types_of diagram) place) 0)) there))
