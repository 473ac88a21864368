use Rattle.std.proofs.Common.{◌≡◌, List, ℕ, sym, subst}
use Rattle.std.proofs.lemmas.Result.{IfOk-weaker}
use Rattle.hw_renumber.specs.Renumbered.{CanMove, place_in, renumbered}
use Rattle.hw_fold.proofs.Result.{made-emits, made-refines, made-runs, moves}
use Rattle.hw_fold.proofs.folding.read_roots.Goals as goal

pub renumbered-requires : goal.renumbered-requires
renumbered-requires c = subst (λ (kept : List ℕ). CanMove c.args.netlist.now kept c.args.roots.now)
    (sym c.requires.kept)
    (moves c.args.netlist.now c.requires.runs c.requires.emittable c.args.roots.now c.requires.folded)

pub returns-clause-runs : goal.returns-clause-runs
returns-clause-runs c = IfOk-weaker c.renumbered.result _ _
    (λ made is. made-runs c.args.netlist.now c.requires.runs c.requires.emittable c.args.roots.now c.requires.folded c.renumbered_runs.ensures made
    (subst (λ (kept : List ℕ). made ≡ renumbered c.args.netlist.now (place_in c.args.roots.now) kept) c.requires.kept is))
    c.renumbered.ensures

pub returns-clause-emittable : goal.returns-clause-emittable
returns-clause-emittable c = IfOk-weaker c.renumbered.result _ _
    (λ made is. made-emits c.args.netlist.now c.requires.runs c.requires.emittable c.args.roots.now c.requires.folded c.renumbered_emits.ensures made
    (subst (λ (kept : List ℕ). made ≡ renumbered c.args.netlist.now (place_in c.args.roots.now) kept) c.requires.kept is))
    c.renumbered.ensures

pub returns-clause-refines : goal.returns-clause-refines
returns-clause-refines c = IfOk-weaker c.renumbered.result _ _
    (λ made is. made-refines c.args.netlist.now c.requires.runs c.requires.emittable c.args.roots.now c.requires.folded c.represents_refine.ensures made
    (subst (λ (kept : List ℕ). made ≡ renumbered c.args.netlist.now (place_in c.args.roots.now) kept) c.requires.kept is))
    c.renumbered.ensures
