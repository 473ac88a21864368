use Rattle.std.proofs.Common.{◌≡◌, ℕ, List, Bool, sym, ap, subst, ◌∙◌}
use Rattle.std.proofs.lemmas.List.{get_or_default}
use Rattle.vl_ast.specs.Nets.{mentions}
use Rattle.vl_check.specs.inner.CycleMarks.{AreMarked, first_some, marked_at}
use Rattle.vl_check.proofs.Beginnings.{begins, never-none, found-marked}
use Rattle.vl_check.proofs.ordering.beginning.Goals as goal

known : (cycle : List ℕ) (count count' : ℕ) (marks marks' : List Bool) → count ≡ count' → marks' ≡ marks → AreMarked cycle count marks → AreMarked cycle count' marks'
known cycle count count' marks marks' e f m = subst (λ n. AreMarked cycle n marks') e (subst (λ ms. AreMarked cycle count ms) (sym f) m)

pub returns-in-None : goal.returns-in-None
returns-in-None g c =
    let scope = c.args.scope.now in
    let marked = known c.args.cycle.now _ _ _ _ c.count.ensures c.as_slice.ensures.value c.in_ok-marks.ensures in
    let none = ap (first_some (marked_at scope c.as_slice.result.now)) (sym c.requires.0) ∙ sym c.first_marked.ensures ∙ c.in-None.is in
    absurd (never-none g.source scope c.requires.1.0 c.args.cycle.now c.as_slice.result.now c.requires.1.1.1 marked c.requires.1.1.0 none)

pub place_of-requires : goal.place_of-requires
place_of-requires g c =
    let scope = c.args.scope.now in
    let marked = known c.args.cycle.now _ _ _ _ c.count.ensures c.as_slice.ensures.value c.in_ok-marks.ensures in
    let some = ap (first_some (marked_at scope c.as_slice.result.now)) (sym c.requires.0) ∙ sym c.first_marked.ensures ∙ c.in-Some.is in
    let in-cycle = marked.only c.in-Some.number (found-marked scope c.requires.1.0.apart c.as_slice.result.now (mentions g.source) c.in-Some.number some) in
    (in-cycle.0, in-cycle.1, get_or_default c.args.cycle.now in-cycle.0 0 c.in-Some.number in-cycle.1 ∙ in-cycle.2)

pub returns : goal.returns
returns g c =
    let scope = c.args.scope.now in
    let marked = known c.args.cycle.now _ _ _ _ c.count.ensures c.as_slice.ensures.value c.in_ok-marks.ensures in
    let some = ap (first_some (marked_at scope c.as_slice.result.now)) (sym c.requires.0) ∙ sym c.first_marked.ensures ∙ c.in-Some.is in
    begins g.source scope c.requires.1.0 c.args.cycle.now c.as_slice.result.now c.requires.1.1.1 marked c.in-Some.number c.place_of.result some c.place_of.ensures.low c.place_of.ensures.found
