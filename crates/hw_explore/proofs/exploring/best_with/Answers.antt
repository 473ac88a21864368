use Rattle.std.proofs.Common.{length, refl, sym, subst, ◌∙◌, Option}
use Rattle.std.proofs.lemmas.Bool.{false≢true}
use Rattle.std.proofs.lemmas.Option.{slice_get_read}
use Rattle.hw_explore.specs.declared.exploring.Best.{Best}
use Rattle.hw_explore.specs.inner.Best.{IsBest}
use Rattle.hw_explore.proofs.Ranks.{best_kept, best_first, best_new, best_old}
use Rattle.hw_explore.proofs.exploring.best_with.Goals as goal

pub returns-in_default : goal.returns-in_default
returns-in_default c =
    let there = slice_get_read c.args.rows.now (length c.args.rows.now) c.args.place c.index-rows-place.result refl c.requires.there c.index-rows-place.is in
    best_kept c.args.rows.now c.args.place c.index-rows-place.result there c.args.best (c.rank_of.ensures.bad c.in_default.is) c.requires.best

pub returns-in-None : goal.returns-in-None
returns-in-None c =
    let there = slice_get_read c.args.rows.now (length c.args.rows.now) c.args.place c.index-rows-place.result refl c.requires.there c.index-rows-place.is in
    best_first c.args.rows.now c.args.place c.index-rows-place.result there c.in-Some.rank c.args.place refl c.in-Some.ensures.ranked
    (subst (λ (best : Option Best). IsBest c.args.rows.now c.args.place best) c.in-None.is c.requires.best)

pub returns-then-is_better : goal.returns-then-is_better
returns-then-is_better c =
    let there = slice_get_read c.args.rows.now (length c.args.rows.now) c.args.place c.index-rows-place.result refl c.requires.there c.index-rows-place.is in
    best_new c.args.rows.now c.args.place c.index-rows-place.result there c.in-Some.rank c.args.place c.in-Some-best.other refl c.in-Some.ensures.ranked
    (c.is_better.ensures.0 c.if-is_better.true)
    (subst (λ (best : Option Best). IsBest c.args.rows.now c.args.place best) c.in-Some-best.is c.requires.best)

pub returns-else-is_better : goal.returns-else-is_better
returns-else-is_better c =
    let there = slice_get_read c.args.rows.now (length c.args.rows.now) c.args.place c.index-rows-place.result refl c.requires.there c.index-rows-place.is in
    best_old c.args.rows.now c.args.place c.index-rows-place.result there c.in-Some.rank c.in-Some-best.other c.in-Some.ensures.ranked
    (λ better. absurd (false≢true (sym c.if-is_better.false ∙ c.is_better.ensures.1 better)))
    (subst (λ (best : Option Best). IsBest c.args.rows.now c.args.place best) c.in-Some-best.is c.requires.best)
