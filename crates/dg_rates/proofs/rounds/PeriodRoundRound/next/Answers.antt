use Rattle.std.proofs.Common.{◌≡◌, ◌<◌, ℕ, Bool, false, List, Some, Option, get_or, ap, sym, subst, ◌∙◌}
use Rattle.std.specs.Prelude.{slice_get}
use Rattle.std.proofs.lemmas.Option.{slice_get-get_or}
use Rattle.dg_model.specs.Periods.{Period, known_or}
use Rattle.fx_io.specs.Rows.{row_at}
use Rattle.dg_rates.specs.inner.Steps.{all_rests, known_of, taken_by}
use Rattle.dg_rates.proofs.Steps.{rests_at}
use Rattle.dg_rates.proofs.rounds.PeriodRoundRound.next.Goals as goal

pub bounds-self-block : goal.bounds-self-block
bounds-self-block c = subst (λ (n : ℕ). c.args.block < n) (sym c.args.self.now.long) c.requires.there

pub taken-requires : goal.taken-requires
taken-requires c = rw c.requires.all c.sources_of.ensures.there

pub returns-in-None : goal.returns-in-None
returns-in-None c =
    let round = c.args.self.now in
    let values = c.args.values.now in
    let place = c.args.block in
    let block = get_or round.blocks.now place c.index-self-block.result in
    let rests = get_or (all_rests round.blocks.now) place false in
    let inside = subst (λ (n : ℕ). place < n) (sym round.long) c.requires.there in
    let at : slice_get round.blocks.now place ≡ Some block = slice_get-get_or round.blocks.now place c.index-self-block.result inside in
    c.taken.ensures
    ∙ ap (λ (b : Bool). taken_by b (known_of values c.sources_of.result.now)) (c.may_rest.ensures ∙ sym (rests_at round.blocks.now place block at))
    ∙ ap (λ (sources : List ℕ). taken_by rests (known_of values sources)) c.sources_of.ensures.value
    ∙ ap (λ (o : Option Period). known_or o (taken_by rests (known_of values (row_at round.links.sources place)))) (sym c.in-None.is)
