use Rattle.std.proofs.Common.{◌≡◌, ⊎_elim, ℕ, List, slice_get, Some, sym, ap, subst, ◌∙◌, arith}
use Rattle.std.specs.Prelude.{slice_index_or}
use Rattle.std.proofs.lemmas.Bool.{cases_lt}
use Rattle.std.proofs.lemmas.Option.{slice_get-get_or}
use Rattle.vl_replay.specs.declared.drivers.Driver.{Driver}
use Rattle.vl_replay.specs.declared.drivers.Driver.TheVariants.{Reset}
use Rattle.vl_replay.specs.inner.Rest.{IsPast}
use Rattle.math_list.proofs.Places.{there_within}
use Rattle.vl_replay.proofs.Rest.{past-later}
use Rattle.vl_replay.proofs.resting.driven_until.Goals as goal

one : (drivers : List Driver) (k place : ℕ) (own driver : Driver) → slice_get drivers k ≡ Some own → slice_get drivers place ≡ Some driver → place ≡ k → own ≡ driver
one drivers k place own driver there e same = cc (sym there ∙ ap (slice_get drivers) (sym same) ∙ e)

pub loop-k-preserved : goal.loop-k-preserved
loop-k-preserved c =
    let drivers = c.args.drivers.now in
    let samples = c.args.samples in
    let k = c.loop-k.k in
    let own = slice_index_or drivers k Reset in
    let there = slice_get-get_or drivers k Reset c.loop-k-test.true in
    let now = c.past.ensures in
    let before = c.loop-k.invariant in
    let most = c.max-from.ensures in
    record {
      past = λ place driver e below.
          ⊎_elim (λ less. past-later samples c.loop-k.from c.max-from.result driver (omega (arith, most)) (before.past place driver e less))
          (λ from. subst (λ (d : Driver). IsPast samples c.max-from.result d)
          (one drivers k place own driver there e (omega (arith, below, from)))
          (past-later samples c.past.result c.max-from.result own (omega (arith, most)) now.past))
          (cases_lt place k);
      near = (let a = now.near in let b = before.near in omega (arith, most, a, b));
    }

pub returns-clause-past : goal.returns-clause-past
returns-clause-past c = λ k driver e.
    let low = there_within c.args.drivers.now k driver e in
    let ended = c.loop-k-test.false in
    c.loop-k.invariant.past k driver e (omega (arith, low, ended))
