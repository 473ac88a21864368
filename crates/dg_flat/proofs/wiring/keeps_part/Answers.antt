use Rattle.std.proofs.Common.{◌≡◌, ℕ, ◌≤◌, ◌<◌, suc, List, length, Some, sym, ◌∙◌, arith}
use Rattle.std.specs.Prelude.{slice_get}
use Rattle.std.proofs.lemmas.Bool.{eqb-true, eqb-false}
use Rattle.dg_model.specs.declared.nested.NestedBlock.{NestedBlock}
use Rattle.dg_flat.specs.declared.numbering.Side.TheVariants.{In, Out}
use Rattle.dg_flat.specs.inner.Slots.{HaveParents}
use Rattle.dg_flat.proofs.WireRules.{in_kept, in_broken, out_kept, out_broken, control_kept, control_broken}
use Rattle.dg_flat.proofs.PortReads.{some_inside}
use Rattle.dg_flat.proofs.wiring.keeps_part.Goals as goal

-- the subsystem around a block is one of the blocks
around_inside : (blocks : List NestedBlock) (place system : ℕ) (block : NestedBlock) → HaveParents blocks → slice_get blocks place ≡ Some block → block.parent ≡ Some system → system < length blocks
around_inside blocks place system block have there within =
    let own : suc system ≤ place = rw within at (have.before place block there) in
    omega (arith, some_inside blocks place block there, own)

pub index-requires : goal.index-requires
index-requires c =
    omega (arith, around_inside c.args.known.nested.now.blocks c.args.place c.in-Some.system c.args.block.now c.requires.parents c.requires.there c.in-Some.is, c.requires.tally.enables.size)

pub returns-in-In-clause-kept : goal.returns-in-In-clause-kept
returns-in-In-clause-kept c = λ yes.
    in_kept c.args.known.nested.now c.args.place c.in-In.number c.args.block.now c.in-In.field-0 c.in-In.is (c.is_numbered.ensures.yes yes c.args.known.nested.now.blocks In c.requires.systems.ins)

pub returns-in-In-clause-broken : goal.returns-in-In-clause-broken
returns-in-In-clause-broken c = λ not.
    in_broken c.args.known.nested.now c.args.place c.in-In.number c.args.block.now c.in-In.field-0 c.requires.there
    c.in-In.is (c.is_numbered.ensures.no not c.args.known.nested.now.blocks In c.requires.systems.ins)

pub returns-in-Out-clause-kept : goal.returns-in-Out-clause-kept
returns-in-Out-clause-kept c = λ yes.
    out_kept c.args.known.nested.now c.args.place c.in-Out.number c.args.block.now c.in-Out.field-0 c.in-Out.is
    (c.is_numbered-in-Out.ensures.yes yes c.args.known.nested.now.blocks Out c.requires.systems.outs)

pub returns-in-Out-clause-broken : goal.returns-in-Out-clause-broken
returns-in-Out-clause-broken c = λ not.
    out_broken c.args.known.nested.now c.args.place c.in-Out.number c.args.block.now c.in-Out.field-0
    c.requires.there c.in-Out.is
    (c.is_numbered-in-Out.ensures.no not c.args.known.nested.now.blocks Out c.requires.systems.outs)

pub returns-in-Some-clause-kept : goal.returns-in-Some-clause-kept
returns-in-Some-clause-kept c = λ yes.
    let early = around_inside c.args.known.nested.now.blocks c.args.place c.in-Some.system c.args.block.now c.requires.parents c.requires.there c.in-Some.is in
    control_kept c.args.known.nested.now c.args.place c.in-Some.system c.args.block.now c.in-Enable.reset c.in-Enable.is c.in-Some.is
    (sym (c.index.ensures ∙ c.requires.tally.enables.at c.in-Some.system c.index.result.now early) ∙ eqb-true c.index.result.now 1 yes)

pub returns-in-Some-clause-broken : goal.returns-in-Some-clause-broken
returns-in-Some-clause-broken c = λ not.
    let early = around_inside c.args.known.nested.now.blocks c.args.place c.in-Some.system c.args.block.now c.requires.parents c.requires.there c.in-Some.is in
    control_broken c.args.known.nested.now c.args.place c.in-Some.system c.args.block.now c.in-Enable.reset c.in-Enable.is c.in-Some.is
    (λ once. eqb-false c.index.result.now 1 not (c.index.ensures ∙ c.requires.tally.enables.at c.in-Some.system c.index.result.now early ∙ once))

pub is_numbered-requires-clause-rows : goal.is_numbered-requires-clause-rows
is_numbered-requires-clause-rows c = c.requires.systems.ins.rows

pub is_numbered-requires-clause-cells : goal.is_numbered-requires-clause-cells
is_numbered-requires-clause-cells c = c.requires.systems.ins.ports.size ∙ sym c.requires.systems.ins.rows.cells

pub is_numbered-requires-clause-there : goal.is_numbered-requires-clause-there
is_numbered-requires-clause-there c =
    let inside = some_inside c.args.known.nested.now.blocks c.args.place c.args.block.now c.requires.there in
    omega (arith, inside, c.requires.parents.before c.args.place c.args.block.now c.requires.there, c.requires.systems.ins.counts.size)

pub is_numbered-requires-in-Out-clause-rows : goal.is_numbered-requires-in-Out-clause-rows
is_numbered-requires-in-Out-clause-rows c = c.requires.systems.outs.rows

pub is_numbered-requires-in-Out-clause-cells : goal.is_numbered-requires-in-Out-clause-cells
is_numbered-requires-in-Out-clause-cells c = c.requires.systems.outs.ports.size ∙ sym c.requires.systems.outs.rows.cells

pub is_numbered-requires-in-Out-clause-there : goal.is_numbered-requires-in-Out-clause-there
is_numbered-requires-in-Out-clause-there c =
    let inside = some_inside c.args.known.nested.now.blocks c.args.place c.args.block.now c.requires.there in
    omega (arith, inside, c.requires.parents.before c.args.place c.args.block.now c.requires.there, c.requires.systems.outs.counts.size)
