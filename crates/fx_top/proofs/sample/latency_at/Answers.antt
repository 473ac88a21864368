use Rattle.std.proofs.Common.{◌<◌, ℕ, length, refl, sym, subst}
use Rattle.std.proofs.lemmas.Option.{slice_get_read}
use Rattle.std.proofs.lemmas.Result.{IfOk-weaker}
use Rattle.hw_rules.specs.Times.{timing_in}
use Rattle.fx_top.proofs.SampleOutputs.{latency_past, latency_there}
use Rattle.fx_top.proofs.sample.latency_at.Goals as goal

pub clocks_of-requires-clause-times : goal.clocks_of-requires-clause-times
clocks_of-requires-clause-times c = c.requires.times

pub clocks_of-requires-clause-there : goal.clocks_of-requires-clause-there
clocks_of-requires-clause-there c =
    let diagram = c.args.checked.now.diagram in
    let h = c.in-Some.ensures.lookup in
    subst (λ (block : ℕ). block < length diagram.blocks) (sym h.1) (c.requires.there c.args.place c.in-Some.block.now h.3.0)

pub returns-in-None : goal.returns-in-None
returns-in-None c = latency_past c.args.checked.now.diagram c.args.planned.now.resolved
    (timing_in c.args.planned.now.times) c.args.outputs.now c.requires.listed c.args.place
    c.in-None.ensures.lookup.3

pub returns-in-Some : goal.returns-in-Some
returns-in-Some c =
    let block : ℕ = c.in-Some.block.now in
    let h = c.in-Some.ensures.lookup in
    let at = slice_get_read c.args.outputs.now _ c.args.place block refl h.3.0 h.1 in
    IfOk-weaker c.clocks_of.result _ _
    (λ clocks is. latency_there c.args.checked.now.diagram c.args.planned.now.resolved (timing_in c.args.planned.now.times) c.args.outputs.now c.requires.listed c.args.place block clocks at is)
    c.clocks_of.ensures
