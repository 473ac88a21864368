use Rattle.std.proofs.Common.{ℕ, List, Bor, length, subst, sym, ap, ◌∙◌, arith}
use Rattle.std.proofs.lemmas.List.{length-map}
use Rattle.mdl_build.specs.Library.{row_of, parameters_of}
use Rattle.mdl_build.specs.Lookup.{fallback}
use Rattle.mdl_build.specs.inner.Readings.{AreReadTo}
use Rattle.mdl_build.proofs.ParameterLemmas.{none_read, one_read, all_read, first_wrong, row_here, read_some, read_none}
use Rattle.mdl_build.proofs.blocks.read_block.Goals as goal

pub loop-number-init : goal.loop-number-init
loop-number-init c = subst (AreReadTo c.args.layout.now.items.now c.args.block_type c.args.place 0) (sym c.requires.unset) (none_read c.args.layout.now.items.now c.args.block_type c.args.place)

pub returns-in-None : goal.returns-in-None
returns-in-None c =
    let items = c.args.layout.now.items.now in
    let row = row_here items c.args.block_type c.args.place c.parameters-parameter-items.result.now
    c.args.defaults.now c.loop-number.number _ _ c.parameters-parameter-items.ensures c.requires.texts
    c.loop-number-test.true in
    first_wrong items c.args.block_type c.args.place c.loop-number.number _ c.loop-number.settings c.name.result.now c.loop-number.invariant row.at_number
    (read_none items c.args.block_type c.args.place _ c.first_text-first.result.now _ c.in_ok-read_parameter.field-0 c.first_text-first.ensures row.text_is c.in_ok-read_parameter.ensures c.in-None.is)
    c.name.ensures

pub loop-number-preserved : goal.loop-number-preserved
loop-number-preserved c =
    let items = c.args.layout.now.items.now in
    let row = row_here items c.args.block_type c.args.place c.parameters-parameter-items.result.now
    c.args.defaults.now c.loop-number.number _ _ c.parameters-parameter-items.ensures c.requires.texts
    c.loop-number-test.true in
    subst (AreReadTo items c.args.block_type c.args.place _) (sym c.put.ensures)
    (one_read items c.args.block_type c.args.place c.loop-number.number _ c.loop-number.settings c.in-Some.setting c.loop-number.invariant row.at_number
    (read_some items c.args.block_type c.args.place _ c.first_text-first.result.now _ c.in_ok-read_parameter.field-0
    c.in-Some.setting c.first_text-first.ensures row.text_is c.in_ok-read_parameter.ensures c.in-Some.is))

pub returns : goal.returns
returns c =
    all_read c.args.layout.now.items.now c.args.block_type c.args.place c.loop-number.number c.loop-number.settings c.loop-number.invariant
    (omega (arith, c.loop-number-test.false, ap length c.parameters-parameter-items.ensures, length-map c.parameters-parameter-items.result.now row_of))

pub read_parameter-requires : goal.read_parameter-requires
read_parameter-requires c = c.requires.within

pub bounds-defaults-number : goal.bounds-defaults-number
bounds-defaults-number c =
    let items = c.args.layout.now.items.now in
    let long = sym (length-map c.args.defaults.now (λ (text : Bor (List ℕ)). text.now)) ∙ ap length c.requires.texts
    ∙ length-map (parameters_of c.args.block_type) (fallback items c.args.block_type) in
    let rows = sym (ap length c.parameters-parameter-items.ensures) ∙ length-map c.parameters-parameter-items.result.now row_of in
    omega (arith, c.loop-number-test.true, long, rows)
