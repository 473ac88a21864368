use Rattle.std.proofs.Common.{◌≡◌, ℕ, ◌<◌, Some, List, [], Option, ap, sym, subst, ◌∙◌}
use Rattle.std.specs.Prelude.{slice_get, slice_index_or}
use Rattle.std.proofs.lemmas.Option.{slice_get-get_or}
use Rattle.fx_type.specs.declared.kind.FxType.{FxType}
use Rattle.dg_model.specs.declared.diagram.Block.{Block}
use Rattle.dg_model.specs.Periods.{known_or}
use Rattle.dg_model.specs.TypeRounds.{taken_type, type_of_next}
use Rattle.dg_types.specs.declared.linked.Source.{Source}
use Rattle.dg_types.specs.inner.TypeInputs.{source_types}
use Rattle.dg_types.proofs.typed_round.TypeRoundRound.next.Goals as goal

pub taken_type-requires-clause-read : goal.taken_type-requires-clause-read
taken_type-requires-clause-read c = record { there = rw c.requires.all c.sources_of.ensures.there; valid = c.requires.fit }

pub taken_type-requires-clause-ready : goal.taken_type-requires-clause-ready
taken_type-requires-clause-ready c =
    let ready = c.args.self.now.ready in
    rw c.sources_of.ensures.value
    (ready.ready c.args.block _ (slice_get-get_or c.args.self.now.blocks.now c.args.block _ (subst (λ (n : ℕ). c.args.block < n) ready.size c.requires.there)))

pub sources_of-requires : goal.sources_of-requires
sources_of-requires c = record { inside = c.requires.there }

pub bounds-self-block : goal.bounds-self-block
bounds-self-block c = subst (λ (n : ℕ). c.args.block < n) c.args.self.now.ready.size c.requires.there

pub bounds-values-block : goal.bounds-values-block
bounds-values-block c = rw c.requires.all c.requires.there

pub returns-in-None : goal.returns-in-None
returns-in-None c =
    let round = c.args.self.now in
    let values = c.args.values.now in
    let block = slice_index_or round.blocks.now c.args.block c.index-self-block.result in
    let inside = subst (λ (n : ℕ). c.args.block < n) round.ready.size c.requires.there in
    let at : slice_get round.blocks.now c.args.block ≡ Some block = slice_get-get_or round.blocks.now c.args.block c.index-self-block.result inside in
    c.taken_type.ensures
    ∙ ap (λ (sources : List Source). taken_type block.kind block.result (source_types values sources)) c.sources_of.ensures.value
    ∙ ap (λ (o : Option Block). type_of_next o (source_types values (slice_index_or round.links.sources c.args.block []))) (sym at)
    ∙ ap (λ (o : Option FxType). known_or o (type_of_next (slice_get round.blocks.now c.args.block) (source_types values (slice_index_or round.links.sources c.args.block [])))) (sym c.in-None.is)
