use Rattle.std.proofs.Common.{◌≡◌, ℕ, ◌+◌, List, Some, length, get_or, ⊎_elim, ap, sym, subst, ◌∙◌, arith}
use Rattle.std.specs.Prelude.{slice_get}
use Rattle.std.proofs.lemmas.List.{length_push}
use Rattle.std.proofs.lemmas.Option.{same_Some, slice_get-get_or}
use Rattle.math_list.proofs.Places.{push_cases}
use Rattle.dg_tables.specs.declared.roots.Root.{Root}
use Rattle.dg_sim.specs.inner.ProgramSteps.{AreShown}
use Rattle.dg_sim.proofs.building.shown_of.Goals as goal

pub look_up-requires-clause-entry : goal.look_up-requires-clause-entry
look_up-requires-clause-entry c = c.requires.entries c.loop-root.root-index _ (slice_get-get_or c.args.roots.now c.loop-root.root-index _ c.loop-root-test.true)

pub loop-root-preserved : goal.loop-root-preserved
loop-root-preserved c =
    let roots = c.args.roots.now in
    let i = c.loop-root.root-index in
    let before = c.loop-root.invariant in
    let shown = c.loop-root.shown in
    let item = get_or roots i (record { number = 0; block = 0; element = 0 }) in
    let at : slice_get roots i ≡ Some item = slice_get-get_or roots i _ c.loop-root-test.true in
    record {
      size = ap length c.in_ok-push.ensures.appended ∙ length_push shown c.look_up.result ∙ ap (λ n. n + 1) before.size;
      each = λ j k root here there. ⊎_elim
          (λ (old : slice_get shown j ≡ Some k). before.each j k root old there)
          (λ new.
          let same : item ≡ root = same_Some item root (sym at ∙ ap (slice_get roots) (sym (new.0 ∙ before.size)) ∙ there) in
          subst (λ (r : Root). slice_get c.args.places.now k ≡ Some (record { block = r.block; port = 1; element = r.element })) same
          (subst (λ (n : ℕ). slice_get c.args.places.now n ≡ Some (record { block = item.block; port = 1; element = item.element })) new.1 c.look_up.ensures))
          (push_cases shown c.look_up.result j k (ap (λ (all : List ℕ). slice_get all j) (sym c.in_ok-push.ensures.appended) ∙ here));
    }

pub returns : goal.returns
returns c =
    let all : c.loop-root.root-index ≡ length c.args.roots.now = omega (arith, c.loop-root-test.false, c.loop-root.auto.root-index-end) in
    subst (λ (n : ℕ). AreShown c.args.places.now c.args.roots.now c.loop-root.shown n) all c.loop-root.invariant
