use Rattle.std.proofs.Common.{◌≡◌, ℕ, ◌<◌, List, Some, [], length, get_or, sym, ap, ◌∙◌}
use Rattle.std.specs.Prelude.{slice_get}
use Rattle.std.proofs.lemmas.Option.{get_or_from_slice_get}
use Rattle.dg_model.specs.declared.diagram.Block.{Block}
use Rattle.dg_model.specs.declared.diagram.Diagram.{Diagram}
use Rattle.dg_model.specs.Periods.{known_at}
use Rattle.dg_model.specs.TypeRounds.{Types, input_types, types_of}
use Rattle.dg_types.specs.declared.linked.Form.{Form}
use Rattle.dg_types.specs.declared.linked.Source.{Source}
use Rattle.dg_types.specs.inner.TypeInputs.{source_types}
use Rattle.dg_types.specs.inner.TypeScan.{IsTyped}
use Rattle.dg_types.specs.inner.Build.{all_forms}
use Rattle.dg_types.proofs.TypeParts.{ready_at, is_narrow_part, is_known_part, is_agree_part}
use Rattle.dg_types.proofs.TypeRounds.{inputs_are_typed}
use Rattle.dg_types.proofs.typed.keeps.Goals as goal

-- the block and the types of its inputs that are read are the diagram's
record IsRead (diagram : Diagram) (place : ℕ) (own block : Block) (inputs : Types) : Type 0 where
  here : own ≡ block
  inputs_are : inputs ≡ input_types diagram (types_of diagram) place

read : (diagram : Diagram) (blocks : List Block) (forms : List Form) (sources : List (List Source)) (types : Types)
    (place : ℕ) (none block : Block) (own : List Source) → IsTyped diagram blocks forms sources types →
    place < length diagram.blocks → slice_get diagram.blocks place ≡ Some block → own ≡ get_or sources place [] → IsRead diagram place (get_or blocks place none) block (source_types types own)
read diagram blocks forms sources types place none block own typed there at own_are = record {
  here = ap (λ (bs : List Block). get_or bs place none) typed.blocks_are ∙ get_or_from_slice_get diagram.blocks place block none at;
  inputs_are =
      ap (source_types types) own_are ∙ ap (λ (ts : Types). source_types ts (get_or sources place [])) typed.types_are
      ∙ inputs_are_typed diagram forms sources (types_of diagram) place typed.mirrors there;
}

pub is_narrow-requires-clause-read : goal.is_narrow-requires-clause-read
is_narrow-requires-clause-read c = record { there = rw (c.requires.typed.types_size ∙ sym c.requires.typed.size) c.sources_of-sources.ensures.there; valid = c.requires.typed.valid }

pub is_narrow-requires-clause-ready : goal.is_narrow-requires-clause-ready
is_narrow-requires-clause-ready c = rw c.sources_of-sources.ensures.value (ready_at c.requires.typed c.args.typed.round.now.ready c.args.place _ c.requires.there)

pub has_types-requires : goal.has_types-requires
has_types-requires c = record { there = rw (c.requires.typed.types_size ∙ sym c.requires.typed.size) c.sources_of-sources.ensures.there; valid = c.requires.typed.valid }

pub agrees-requires : goal.agrees-requires
agrees-requires c = record { there = rw (c.requires.typed.types_size ∙ sym c.requires.typed.size) c.sources_of-sources.ensures.there; valid = c.requires.typed.valid }

pub returns-in-Narrow : goal.returns-in-Narrow
returns-in-Narrow c block at =
    let links = c.args.typed.round.now.links in
    let is = read c.args.typed.diagram.now c.args.typed.round.now.blocks.now
    (all_forms links.blocks.now) links.sources c.args.typed.types.now c.args.place c.index-typed-place.result
    block c.sources_of-sources.result.now c.requires.typed c.requires.there at
    c.sources_of-sources.ensures.value in
    is_narrow_part c.args.typed.diagram.now c.args.place c.args.part _ block is.here _ is.inputs_are c.is_narrow.result c.in-Narrow.is c.is_narrow.ensures

pub returns-in-Known : goal.returns-in-Known
returns-in-Known c block at =
    let links = c.args.typed.round.now.links in
    let is = read c.args.typed.diagram.now c.args.typed.round.now.blocks.now
    (all_forms links.blocks.now) links.sources c.args.typed.types.now c.args.place c.index-typed-place.result
    block c.sources_of-sources.result.now c.requires.typed c.requires.there at
    c.sources_of-sources.ensures.value in
    is_known_part c.args.typed.diagram.now c.args.place c.args.part _ block is.here _ is.inputs_are
    c.has_types.result (known_at c.args.typed.types.now c.args.place)
    (ap (λ (ts : Types). known_at ts c.args.place) c.requires.typed.types_are) c.in-Known.is
    c.has_types.ensures

pub returns-in-Agree : goal.returns-in-Agree
returns-in-Agree c block at =
    let links = c.args.typed.round.now.links in
    let is = read c.args.typed.diagram.now c.args.typed.round.now.blocks.now
    (all_forms links.blocks.now) links.sources c.args.typed.types.now c.args.place c.index-typed-place.result
    block c.sources_of-sources.result.now c.requires.typed c.requires.there at
    c.sources_of-sources.ensures.value in
    is_agree_part c.args.typed.diagram.now c.args.place c.args.part _ block is.here _ is.inputs_are c.agrees.result c.in-Agree.is c.agrees.ensures
