use Rattle.std.proofs.Common.{ℕ, ◌∙◌, List, ap, length, subst, sym, arith}
use Rattle.hw_arcs.specs.Found.{AreKnown, IsWhole}
use Rattle.hw_arcs.specs.inner.State.{AreRows, AreWithin, State, seen}
use Rattle.hw_arcs.proofs.Outcome.{found_is}
use Rattle.hw_arcs.proofs.Steps.{begun_by, begun_within}
use Rattle.hw_arcs.proofs.solving.latencies.Goals as goal

pub parts_of-requires-clause-known : goal.parts_of-requires-clause-known
parts_of-requires-clause-known c = subst (AreKnown c.args.arcs.now) (sym (ap length c.as_slice-rows.ensures.value ∙ c.in_ok-table.ensures.size)) c.requires.known

pub parts_of-requires-clause-rows : goal.parts_of-requires-clause-rows
parts_of-requires-clause-rows c =
    let rows = subst (λ (rows : List (List ℕ)). AreRows c.args.arcs.now c.args.count rows) (sym c.as_slice-rows.ensures.value) c.in_ok-table.ensures in
    subst (λ (count : ℕ). AreRows c.args.arcs.now count c.as_slice-rows.result.now) (sym (ap length c.as_slice-rows.ensures.value ∙ c.in_ok-table.ensures.size)) rows

pub parts_of-requires-clause-whole : goal.parts_of-requires-clause-whole
parts_of-requires-clause-whole c = subst (IsWhole c.args.order.now) (sym (ap length c.as_slice-rows.ensures.value ∙ c.in_ok-table.ensures.size)) c.requires.whole

pub relax_all-requires-clause-state : goal.relax_all-requires-clause-state
relax_all-requires-clause-state c = (begun_by c.args.arcs.now c.args.count c.as_slice-rows.result.now _
    (seen c.in_ok-state.state) c.requires.known
    (ap length c.as_slice-rows.ensures.value ∙ c.in_ok-table.ensures.size) c.in_ok-placed.ensures
    c.in_ok-state.ensures).state

pub relax_all-requires-clause-settled : goal.relax_all-requires-clause-settled
relax_all-requires-clause-settled c = (begun_by c.args.arcs.now c.args.count c.as_slice-rows.result.now _
    (seen c.in_ok-state.state) c.requires.known
    (ap length c.as_slice-rows.ensures.value ∙ c.in_ok-table.ensures.size) c.in_ok-placed.ensures
    c.in_ok-state.ensures).settled

pub relax_all-requires-clause-known : goal.relax_all-requires-clause-known
relax_all-requires-clause-known c = subst (AreKnown c.args.arcs.now)
    (sym (begun_by c.args.arcs.now c.args.count c.as_slice-rows.result.now _
    (seen c.in_ok-state.state) c.requires.known
    (ap length c.as_slice-rows.ensures.value ∙ c.in_ok-table.ensures.size) c.in_ok-placed.ensures
    c.in_ok-state.ensures).size) c.requires.known

pub relax_all-requires-clause-few : goal.relax_all-requires-clause-few
relax_all-requires-clause-few c =
    let size = (begun_by c.args.arcs.now c.args.count c.as_slice-rows.result.now _
    (seen c.in_ok-state.state) c.requires.known
    (ap length c.as_slice-rows.ensures.value ∙ c.in_ok-table.ensures.size) c.in_ok-placed.ensures
    c.in_ok-state.ensures).size in
    omega (arith, size, c.requires.small)

pub relax_all-requires-clause-within : goal.relax_all-requires-clause-within
relax_all-requires-clause-within c = subst (λ (state : State). AreWithin 0 state) (sym c.in_ok-state.ensures) (begun_within _ c.args.count)

pub relax_all-requires-clause-rows : goal.relax_all-requires-clause-rows
relax_all-requires-clause-rows c =
    let rows = subst (λ (rows : List (List ℕ)). AreRows c.args.arcs.now c.args.count rows) (sym c.as_slice-rows.ensures.value) c.in_ok-table.ensures in
    subst (λ (count : ℕ). AreRows c.args.arcs.now count c.as_slice-rows.result.now)
    (sym (begun_by c.args.arcs.now c.args.count c.as_slice-rows.result.now _
    (seen c.in_ok-state.state) c.requires.known
    (ap length c.as_slice-rows.ensures.value ∙ c.in_ok-table.ensures.size) c.in_ok-placed.ensures
    c.in_ok-state.ensures).size) rows

pub returns : goal.returns
returns c =
    found_is c.args.arcs.now c.args.count _ (seen c.relax_all.new.state) c.in_ok-gaining.gaining c.found_of.result
    (begun_by c.args.arcs.now c.args.count c.as_slice-rows.result.now _ (seen c.in_ok-state.state) c.requires.known
    (ap length c.as_slice-rows.ensures.value ∙ c.in_ok-table.ensures.size) c.in_ok-placed.ensures
    c.in_ok-state.ensures).size c.in_ok-gaining.ensures.state c.in_ok-gaining.ensures.found
    c.found_of.ensures
