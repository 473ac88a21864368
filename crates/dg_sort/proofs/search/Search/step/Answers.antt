use Rattle.std.proofs.Common.{◌≡◌, length, sym, ap, ◌∙◌, arith}
use Rattle.std.proofs.lemmas.Result.{on_ok_weaker}
use Rattle.dg_sort.specs.inner.Search.{seen, met, placed}
use Rattle.dg_sort.specs.declared.search.Mark.TheVariants.{Unmet, Held, Placed}
use Rattle.dg_sort.proofs.SearchSteps.{IsNext, held_there, source_there, next_mark, can_join, without, step_is, step_placed, step_met, step_passed, step_kept}
use Rattle.dg_sort.proofs.search.Search.step.Goals as goal
use Rattle.dg_sort.proofs.search.Search.step.Goals.{In-Some}

next : (c : In-Some) → IsNext c.args.rows.now (seen c.args.self.now) c.args.last c.pop.new.self.items c.in-Some.source
next c = record { state = c.requires.state; last = c.requires.last; more = λ e. c.if-as_slice-last.false (ap length c.as_slice.ensures.value ∙ e); shape = c.in-Some.ensures.items }

pub place-requires-clause-there : goal.place-requires-clause-there
place-requires-clause-there c = held_there c.args.rows.now (seen c.args.self.now) c.requires.state

pub returns-then-as_slice-last : goal.returns-then-as_slice-last
returns-then-as_slice-last c =
    let spent : length c.args.self.now.edges.items ≡ c.args.last.edges = sym (ap length c.as_slice.ensures.value) ∙ c.if-as_slice-last.true in
    on_ok_weaker c.place.result (step_is c.args.rows.now (seen c.args.self.now) (seen c.place.new.self) (placed (seen c.args.self.now) c.args.last)
    (step_placed c.args.rows.now (seen c.args.self.now) c.args.last c.requires.state c.requires.last spent)) c.place.ensures

pub index-requires : goal.index-requires
index-requires c =
    let inside = source_there c.args.rows.now (seen c.args.self.now) c.args.last c.pop.new.self.items c.in-Some.source (next (goal.at.index-requires c).In-Some) c.requires.known in
    let size = c.requires.state.places.marked in
    let long = c.args.self.now.marks.ok.0 in
    omega (arith, inside, size, long)

pub meet-requires-clause-there : goal.meet-requires-clause-there
meet-requires-clause-there c = source_there c.args.rows.now
    (seen c.args.self.now) c.args.last c.pop.new.self.items c.in-Some.source
    (next (goal.at.meet-requires-clause-there c).In-Some) c.requires.known

pub join-requires : goal.join-requires
join-requires c = can_join c.args.rows.now (seen c.args.self.now) c.in-Some.source c.in-Held.place c.args.last c.requires.state c.requires.last

pub returns-in-Unmet : goal.returns-in-Unmet
returns-in-Unmet c =
    let own = next (goal.at.returns-in-Unmet c).In-Some in
    let is = next_mark c.args.rows.now (seen c.args.self.now) c.args.last c.pop.new.self.items c.in-Some.source c.index.result.now Unmet own c.requires.known c.index.ensures c.in-Unmet.is in
    on_ok_weaker c.meet.result (step_is c.args.rows.now (seen c.args.self.now) (seen c.meet.new.self) (met c.args.rows.now (without (seen c.args.self.now) c.pop.new.self.items) c.in-Some.source)
    (step_met c.args.rows.now (seen c.args.self.now) c.args.last c.pop.new.self.items c.in-Some.source own c.requires.known is)) c.meet.ensures

pub returns-in-Held : goal.returns-in-Held
returns-in-Held c =
    let own = next (goal.at.returns-in-Held c).In-Some in
    let is = next_mark c.args.rows.now (seen c.args.self.now) c.args.last c.pop.new.self.items c.in-Some.source
    c.index.result.now (Held c.in-Held.place) own c.requires.known c.index.ensures c.in-Held.is in
    step_kept c.args.rows.now (seen c.args.self.now) (seen c.join.new.self) c.args.last c.pop.new.self.items c.in-Some.source c.in-Held.place own is c.join.ensures.groups c.join.ensures.kept

pub returns-in-Placed : goal.returns-in-Placed
returns-in-Placed c =
    let own = next (goal.at.returns-in-Placed c).In-Some in
    let is = next_mark c.args.rows.now (seen c.args.self.now) c.args.last c.pop.new.self.items c.in-Some.source
    c.index.result.now (Placed c.in-Placed.rank) own c.requires.known c.index.ensures c.in-Placed.is in
    step_passed c.args.rows.now (seen c.args.self.now) c.args.last c.pop.new.self.items c.in-Some.source c.in-Placed.rank own is
