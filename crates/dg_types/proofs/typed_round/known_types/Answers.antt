use Rattle.std.proofs.Common.{List, length, ap, sym, ◌∙◌, arith}
use Rattle.std.proofs.lemmas.List.{length-map}
use Rattle.dg_model.specs.declared.diagram.Block.{Block}
use Rattle.dg_model.specs.TypeRounds.{Types, explicit_type}
use Rattle.dg_waves.specs.Rounds.{after_rounds}
use Rattle.dg_types.specs.inner.TypeInputs.{next_typed}
use Rattle.dg_types.specs.inner.Build.{all_forms}
use Rattle.dg_types.proofs.TypeRounds.{types_agree, first_valid, is_typed}
use Rattle.dg_types.proofs.typed_round.known_types.Goals as goal

pub after_rounds-requires-clause-fit : goal.after_rounds-requires-clause-fit
after_rounds-requires-clause-fit c = rw (c.in_ok-first.ensures, c.requires.blocks) (first_valid c.args.diagram.now.blocks c.requires.wired.blocks)

pub returns : goal.returns
returns c =
    let diagram = c.args.diagram.now in
    let round = c.args.round.now in
    let blocks = round.blocks.now in
    let forms = all_forms round.links.blocks.now in
    let sources = round.links.sources in
    let are =
    c.in_ok-types.ensures.values
    ∙ ap (λ (start : Types). after_rounds (next_typed blocks sources) (length blocks) start) c.in_ok-first.ensures
    ∙ types_agree diagram blocks forms sources c.requires.blocks c.requires.mirrors in
    is_typed diagram blocks forms sources _ c.requires.blocks round.ready.size c.requires.mirrors are c.in_ok-types.ensures.fit

pub after_rounds-requires-clause-size : goal.after_rounds-requires-clause-size
after_rounds-requires-clause-size c =
    let round = c.args.round.now in
    ap (λ (types : Types). length types) c.in_ok-first.ensures ∙ length-map round.blocks.now (λ (block : Block). explicit_type block.result) ∙ sym round.ready.size

pub after_rounds-requires-clause-few : goal.after_rounds-requires-clause-few
after_rounds-requires-clause-few c =
    let long = ap (λ (bs : List Block). length bs) c.requires.blocks in
    omega (arith, c.args.round.now.ready.size, long, c.requires.wired.size)
