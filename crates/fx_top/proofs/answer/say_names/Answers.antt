use Rattle.std.proofs.Common.{◌∷◌, ℕ, List, [], take, take_all, ap, subst, ◌∙◌}
use Rattle.std.specs.List.{flat_map}
use Rattle.fx_io.specs.Sink.{TookProperPrefix, also_took}
use Rattle.fx_top.specs.Messages.{names_end}
use Rattle.fx_io.proofs.SinkBytes.{took-split}
use Rattle.fx_top.proofs.Sayings.{names-split, said-cut, said-more}
use Rattle.fx_top.proofs.answer.say_names.Goals as goal

pub returns-in-Err-clause-said : goal.returns-in-Err-clause-said
returns-in-Err-clause-said g c =
    let told = g.E.Sink.taken c.args.err.now in
    let mid = g.E.Sink.taken c.loop-name.err in
    let now = g.E.Sink.taken c.put_two.new.err in
    let cut = subst (λ (n : List ℕ). TookProperPrefix mid now (32 ∷ n)) c.bytes.ensures c.in-Err.ensures.cut in
    said-cut told now (g.E.Sink.faults c.args.err.now) (g.E.Sink.faults c.loop-name.err)
    (g.E.Sink.faults c.put_two.new.err)
    (names_end c.args.names.now) c.loop-name.invariant.later c.in-Err.ensures.cause
    (took-split told mid now (flat_map (λ (name : List ℕ). 32 ∷ name)
    (take c.loop-name.name-index c.args.names.now)) (32 ∷ c.name-item.result)
    (names-split c.args.names.now c.loop-name.name-index c.name-item.result c.loop-name-test.true
    c.name-item.is) c.loop-name.invariant.taken cut)

pub returns-clause-said : goal.returns-clause-said
returns-clause-said g c =
    let told = g.E.Sink.taken c.args.err.now in
    let all = take_all c.loop-name.name-index c.args.names.now c.loop-name-test.false in
    let took = c.loop-name.invariant.taken ∙ ap (λ (names : List (List ℕ)). also_took told (flat_map (λ (name : List ℕ). 32 ∷ name) names)) all in
    said-more told (g.E.Sink.taken c.loop-name.err) (g.E.Sink.taken c.say.new.err) (g.E.Sink.faults c.args.err.now) (g.E.Sink.faults c.loop-name.err) (g.E.Sink.faults c.say.new.err)
    (flat_map (λ (name : List ℕ). 32 ∷ name) c.args.names.now) (10 ∷ []) took c.loop-name.invariant.later c.say.ensures.said
