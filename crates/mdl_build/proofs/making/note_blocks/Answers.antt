use Rattle.std.proofs.Common.{◌≡◌, ℕ, ◌+◌, ◌<◌, ◌≤◌, ◌++◌, ◌∷◌, [], List, length, take, get_or, Some, subst, sym, ap, ◌∙◌, arith}
use Rattle.std.specs.Prelude.{slice_get}
use Rattle.std.proofs.lemmas.List.{take_more, take_all}
use Rattle.std.proofs.lemmas.Option.{slice_get-get_or}
use Rattle.mdl_build.specs.Roles.{blocks_of}
use Rattle.mdl_build.specs.inner.ItemFacts.{AreEnabled}
use Rattle.mdl_build.proofs.BlockPlaces.{block_here}
use Rattle.mdl_build.proofs.MakerLemmas.{numbers_next, numbers_all}
use Rattle.mdl_build.proofs.making.note_blocks.Goals as goal

pub loop-number-init : goal.loop-number-init
loop-number-init c = record { enabled = c.requires.enabled; numbers = c.requires.numbers }

pub index_mut-requires : goal.index_mut-requires
index_mut-requires c =
    let h = block_here c.args.known.now.layout.items.now c.places-place-items.result.now c.loop-number.number 0
    (c.places-place-items.ensures ∙ c.requires.known.blocks.places) c.loop-number-test.true in
    omega (arith, h.within, c.loop-number.invariant.numbers.long, c.loop-number.numbers.ok.0)

pub add_enable-requires-clause-within : goal.add_enable-requires-clause-within
add_enable-requires-clause-within c =
    (block_here c.args.known.now.layout.items.now c.places-place-items.result.now c.loop-number.number 0 (c.places-place-items.ensures ∙ c.requires.known.blocks.places) c.loop-number-test.true).within

pub add_enable-requires-clause-long : goal.add_enable-requires-clause-long
add_enable-requires-clause-long c = c.loop-number.invariant.enabled.long

pub loop-number-preserved : goal.loop-number-preserved
loop-number-preserved c =
    let items = c.args.known.now.layout.items.now in
    let k = c.loop-number.number in
    let places = c.places-place-items.result.now in
    let places_are : places ≡ blocks_of items = c.places-place-items.ensures ∙ c.requires.known.blocks.places in
    let below : k < length (blocks_of items) = subst (λ (list : List ℕ). k < length list) places_are c.loop-number-test.true in
    let more : take k (blocks_of items) ++ get_or places k 0 ∷ [] ≡ take (k + 1) (blocks_of items) =
    ap (λ (list : List ℕ). take k (blocks_of items) ++ get_or list k 0 ∷ []) places_are ∙ sym (take_more (blocks_of items) k 0 below) in
    let at : slice_get (blocks_of items) k ≡ Some (get_or places k 0) = ap (λ (list : List ℕ). slice_get list k) (sym places_are) ∙ slice_get-get_or places k 0 c.loop-number-test.true in
    record {
      enabled = subst (λ (list : List ℕ). AreEnabled items list c.add_enable.new.enabled.items) more (c.add_enable.ensures (take k (blocks_of items)) c.loop-number.invariant.enabled);
      numbers = numbers_next items k (get_or places k 0) c.loop-number.numbers.items at c.loop-number.invariant.numbers;
    }

pub returns-clause-enabled : goal.returns-clause-enabled
returns-clause-enabled c =
    let items = c.args.known.now.layout.items.now in
    let k = c.loop-number.number in
    let past : length (blocks_of items) ≤ k = subst (λ (list : List ℕ). length list ≤ k) (c.places-place-items.ensures ∙ c.requires.known.blocks.places) c.loop-number-test.false in
    subst (λ (list : List ℕ). AreEnabled items list c.loop-number.enabled.items) (take_all k (blocks_of items) past) c.loop-number.invariant.enabled

pub returns-clause-numbers : goal.returns-clause-numbers
returns-clause-numbers c =
    let items = c.args.known.now.layout.items.now in
    numbers_all items c.loop-number.number c.loop-number.numbers.items
    (omega (arith, c.loop-number-test.false, ap length (c.places-place-items.ensures ∙ c.requires.known.blocks.places))) c.loop-number.invariant.numbers
