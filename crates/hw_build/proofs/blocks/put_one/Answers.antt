use Rattle.std.proofs.Common.{sym, subst, ◌∙◌, arith}
use Rattle.hw_build.specs.inner.Offers.{Offer}
use Rattle.hw_build.proofs.BlockElement.{args_are, one_entered}
use Rattle.hw_build.proofs.ProductElement.{product_word, shared_entered, multiplying}
use Rattle.std.proofs.lemmas.Option.{slice_get_within}
use Rattle.std.proofs.lemmas.Result.{IfOk-weaker}
use Rattle.hw_build.proofs.blocks.put_one.Goals as goal

pub put_shared-requires : goal.put_shared-requires
put_shared-requires c = record {
  block = c.requires.hand.shown.block_is;
  full = c.full_type-full.ensures;
  word = product_word c.args.element.setting c.setting_is_known.ensures c.args.net.now c.requires.going
      c.args.element.place.block c.args.element.one.now c.args.element.place.port c.args.element.place.element
      c.requires.hand.shown c.in-Some.product
      (sym c.at.ensures ∙ c.in-Some.is) c.full_product_is_one.ensures c.full_type-full.result
      c.full_type-full.ensures;
}

pub returns-in-Some : goal.returns-in-Some
returns-in-Some c =
    IfOk-weaker c.put_shared.result _ _ (λ entry put. shared_entered c.args.element.setting
    c.setting_is_known.ensures c.args.net.now c.requires.going c.args.element.place.block c.args.element.one.now
    c.args.element.place.port c.args.element.place.element c.requires.hand.shown c.in-Some.product
    (sym c.at.ensures ∙ c.in-Some.is) c.put_shared.new.net entry put) c.put_shared.ensures

pub returns : goal.returns
returns c =
    IfOk-weaker c.put_entry-entry.result _ _
    (λ entry put. one_entered c.args.element.setting c.setting_is_known.ensures c.args.net.now c.requires.going
    c.args.element.place.block c.args.element.one.now c.args.element.place.port c.args.element.place.element
    c.requires.hand.shown c.as_slice.result.now c.requires.hand.other
    (subst (Offer c.args.element.setting c.args.element.place.block c.args.element.one.now
    c.args.element.place.port c.args.element.place.element)
    (sym c.as_slice.ensures) c.in_default-put_operands.ensures) c.put_entry-entry.new.net
    entry put (sym c.at.ensures ∙ c.in_default.is)) c.put_entry-entry.ensures

pub at-requires : goal.at-requires
at-requires c =
    let inside = slice_get_within c.args.element.setting.design.checked.now.diagram.blocks c.args.element.place.block c.args.element.one.now c.requires.hand.shown.block_is in
    omega (arith, inside, c.requires.set.products_are.size)

pub full_type-full-requires-clause-block : goal.full_type-full-requires-clause-block
full_type-full-requires-clause-block c = c.requires.hand.shown.block_is

pub full_type-full-requires-clause-multiplies : goal.full_type-full-requires-clause-multiplies
full_type-full-requires-clause-multiplies c =
    multiplying c.args.element.setting c.setting_is_known.ensures c.args.net.now c.requires.going
    c.args.element.place.block c.args.element.one.now c.args.element.place.port c.args.element.place.element
    c.requires.hand.shown c.in-Some.product (sym c.at.ensures ∙ c.in-Some.is)

pub put_entry-entry-requires-clause-can : goal.put_entry-entry-requires-clause-can
put_entry-entry-requires-clause-can c = record { designed = c.requires.set.designed; cycles = c.requires.going.going.cycles; shown = c.requires.hand.shown }

pub put_entry-entry-requires-clause-ready : goal.put_entry-entry-requires-clause-ready
put_entry-entry-requires-clause-ready c = record {
  shown = c.requires.hand.shown;
  types_are = c.as_slice-2.ensures.value ∙ c.requires.hand.reading.types_are;
  operands_are = args_are c.args.element.setting c.setting_is_known.ensures c.args.net.now c.requires.going
      c.args.element.place.block c.args.element.one.now c.args.element.place.port c.args.element.place.element
      c.requires.hand.shown c.as_slice.result.now c.requires.hand.other
      (subst (Offer c.args.element.setting c.args.element.place.block c.args.element.one.now
      c.args.element.place.port c.args.element.place.element)
      (sym c.as_slice.ensures) c.in_default-put_operands.ensures);
}

pub put_operands-requires-clause-hand : goal.put_operands-requires-clause-hand
put_operands-requires-clause-hand c = c.requires.hand

pub put_operands-requires-clause-none : goal.put_operands-requires-clause-none
put_operands-requires-clause-none c = c.new-operands.ensures
