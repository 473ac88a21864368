use Rattle.std.proofs.Common.{refl, sym, ◌∙◌, arith}
use Rattle.dg_flat.proofs.WireRules.{put_together, its_meets, its_part}
use Rattle.dg_flat.proofs.PortReads.{some_inside}
use Rattle.dg_flat.proofs.Verdicts.{meets, meets_not, all_driven, not_driven}
use Rattle.dg_flat.proofs.wiring.keeps_wiring.Goals as goal

pub returns-then-index-clause-broken : goal.returns-then-index-clause-broken
returns-then-index-clause-broken c = λ not keeps.
    let inside = some_inside c.args.known.nested.now.blocks c.args.place c.args.block.now c.requires.there in
    let lacks = c.index.ensures ∙ c.requires.tally.lacks.at c.args.place c.index.result.now inside in
    meets_not c.args.known.nested.now c.args.place c.args.block.now c.requires.there (sym lacks ∙ c.if-index.true) (its_meets c.args.known.nested.now c.args.place c.args.block.now keeps)

pub returns-then-not-is_driven-clause-broken : goal.returns-then-not-is_driven-clause-broken
returns-then-not-is_driven-clause-broken c = λ not keeps.
    let inside = some_inside c.args.known.nested.now.blocks c.args.place c.args.block.now c.requires.there in
    let port = c.if-not-is_driven.ensures.some refl in
    not_driven c.args.known.nested.now c.args.place port.0 c.args.block.now
    c.args.known.tally.now.rows.lengths.items c.args.known.tally.now.drivers.items c.requires.tally.lengths
    c.requires.tally.drivers inside c.requires.there port.1 port.2 keeps

pub returns-clause-kept : goal.returns-clause-kept
returns-clause-kept c = λ is.
    let inside = some_inside c.args.known.nested.now.blocks c.args.place c.args.block.now c.requires.there in
    let lacks = c.index.ensures ∙ c.requires.tally.lacks.at c.args.place c.index.result.now inside in
    put_together c.args.known.nested.now c.args.place c.args.block.now (meets c.args.known.nested.now c.args.place c.args.block.now c.requires.there (sym lacks ∙ c.if-index.false))
    (all_driven c.args.known.nested.now c.args.place c.args.block.now c.args.known.tally.now.rows.lengths.items
    c.args.known.tally.now.drivers.items c.requires.tally.lengths c.requires.tally.drivers inside
    c.requires.there (c.if-not-is_driven.ensures.all refl))
    (c.keeps_part.ensures.kept is)

pub returns-clause-broken : goal.returns-clause-broken
returns-clause-broken c = λ not keeps. c.keeps_part.ensures.broken not (its_part c.args.known.nested.now c.args.place c.args.block.now keeps)

pub index-requires : goal.index-requires
index-requires c = omega (arith, some_inside c.args.known.nested.now.blocks c.args.place c.args.block.now c.requires.there, c.requires.tally.lacks.size, c.args.known.tally.now.lacks.ok.0)

pub is_driven-requires-clause-rows : goal.is_driven-requires-clause-rows
is_driven-requires-clause-rows c = c.requires.tally.rows

pub is_driven-requires-clause-there : goal.is_driven-requires-clause-there
is_driven-requires-clause-there c = omega (arith, some_inside c.args.known.nested.now.blocks c.args.place c.args.block.now c.requires.there, c.requires.tally.lengths.size)

pub is_driven-requires-clause-drivers : goal.is_driven-requires-clause-drivers
is_driven-requires-clause-drivers c = c.requires.tally.drivers.size ∙ sym c.requires.tally.rows.cells
