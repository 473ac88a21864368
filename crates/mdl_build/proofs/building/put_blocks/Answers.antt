use Rattle.std.proofs.Common.{◌≡◌, ◌+◌, subst, length, get_or, Some, sym, ap, ◌∙◌, arith}
use Rattle.std.proofs.lemmas.Result.{err_from_is_err_and}
use Rattle.mdl_build.specs.Rules.{IsWrongFirst, type_at}
use Rattle.mdl_build.specs.inner.ItemFacts.{IsWrongAt}
use Rattle.mdl_build.specs.inner.Makers.{AreMade, extents_of, items_of}
use Rattle.mdl_build.proofs.BlockPlaces.{listed, block_here}
use Rattle.mdl_build.proofs.StructureLemmas.{structure_kept, name_kept, type_kept}
use Rattle.dg_model.proofs.Refusals.{refused_as}
use Rattle.mdl_build.proofs.MakerLemmas.{none_made, made_next, made_all, wrong_first}
use Rattle.mdl_build.proofs.building.put_blocks.Goals as goal

pub loop-place-init : goal.loop-place-init
loop-place-init c = subst (AreMade (items_of c.args.maker.now) 0) (sym c.requires.none) (none_made (items_of c.args.maker.now))

pub type_at-requires : goal.type_at-requires
type_at-requires c =
    (block_here (items_of c.args.maker.now) c.places-place-items.result.now c.loop-place.place-index 0
    (c.places-place-items.ensures ∙ c.requires.maker.known.blocks.places) c.loop-place-test.true).within

pub unreachable-requires : goal.unreachable-requires
unreachable-requires c =
    let items = items_of c.args.maker.now in
    let k = c.loop-place.place-index in
    let places = c.places-place-items.result.now in
    let at = listed items places k 0 (c.places-place-items.ensures ∙ c.requires.maker.known.blocks.places) c.loop-place-test.true in
    type_kept items c.requires.known k (get_or places k 0) at (sym c.type_at.ensures ∙ c.in_default.is)

pub block-requires-clause-block : goal.block-requires-clause-block
block-requires-clause-block c =
    let items = items_of c.args.maker.now in
    let k = c.loop-place.place-index in
    let places = c.places-place-items.result.now in
    let list = c.places-place-items.ensures ∙ c.requires.maker.known.blocks.places in
    let place = get_or places k 0 in
    let here = block_here items places k 0 list c.loop-place-test.true in
    record {
      within = here.within;
      counts = here.counts;
      named = name_kept items place (structure_kept items (extents_of c.args.maker.now) c.requires.structured k place (listed items places k 0 list c.loop-place-test.true));
      typed = sym c.type_at.ensures ∙ c.in-Some.is;
    }

pub returns-in_err-block-clause-err : goal.returns-in_err-block-clause-err
returns-in_err-block-clause-err c =
    let items = items_of c.args.maker.now in
    let k = c.loop-place.place-index in
    let places = c.places-place-items.result.now in
    let at = listed items places k 0 (c.places-place-items.ensures ∙ c.requires.maker.known.blocks.places) c.loop-place-test.true in
    let typed : type_at items (get_or places k 0) ≡ Some c.in-Some.block_type = sym c.type_at.ensures ∙ c.in-Some.is in
    let p = err_from_is_err_and c.from_residual.result c.from_residual.ensures.1 in
    rw (p.1, p.2) (refused_as (IsWrongAt items c.in-Some.block_type (get_or places k 0)) (IsWrongFirst items) c.in_err-block.field-0.0
    (λ fault wrong. wrong_first items k (get_or places k 0) c.in-Some.block_type c.loop-place.blocks fault at typed c.loop-place.invariant wrong) c.in_err-block.ensures.err)

pub loop-place-preserved : goal.loop-place-preserved
loop-place-preserved c =
    let items = items_of c.args.maker.now in
    let k = c.loop-place.place-index in
    let places = c.places-place-items.result.now in
    let at = listed items places k 0 (c.places-place-items.ensures ∙ c.requires.maker.known.blocks.places) c.loop-place-test.true in
    subst (AreMade items (k + 1)) (sym c.in_ok-push.ensures.appended) (made_next items k (get_or places k 0) c.loop-place.blocks c.in_ok-block.block at c.loop-place.invariant c.in_ok-block.ensures.ok)

pub returns-clause-ok : goal.returns-clause-ok
returns-clause-ok c =
    let items = items_of c.args.maker.now in
    made_all items c.loop-place.place-index c.loop-place.blocks
    (omega (arith, c.loop-place-test.false, c.loop-place.auto.place-index-end, ap length (c.places-place-items.ensures ∙ c.requires.maker.known.blocks.places))) c.loop-place.invariant
