use Rattle.std.proofs.Common.{◌≡◌, ℕ, true, false, Option, refl, sym, subst, below_more, ◌∙◌, arith}
use Rattle.std.proofs.lemmas.Bool.{false≢true}
use Rattle.fx_type.specs.declared.kind.FxType.{FxType}
use Rattle.dg_model.specs.Periods.{known_at}
use Rattle.dg_types.specs.inner.TypeInputs.{source_types}
use Rattle.dg_types.proofs.InputTests.{source_at, all_inputs, at_input}
use Rattle.dg_types.proofs.typed_rule.are_all.Goals as goal

pub returns : goal.returns
returns c = ((λ _. all_inputs (λ (o : Option FxType). o ≡ c.args.kind) c.args.values.now c.args.sources.now c.loop-source.source-index c.loop-source-test.false c.loop-source.invariant), (λ _. refl))

pub loop-source-preserved : goal.loop-source-preserved
loop-source-preserved c =
    let types = source_types c.args.values.now c.args.sources.now in
    let yes : c.is_same.result ≡ true = grind arith in
    below_more (λ (k : ℕ). (λ (o : Option FxType). o ≡ c.args.kind) (known_at types k)) c.loop-source.source-index c.loop-source.invariant
    (subst (λ (o : Option FxType). o ≡ c.args.kind) (sym (source_at c.args.values.now c.args.sources.now c.loop-source.source-index _ c.loop-source-test.true)) (c.is_same.ensures.0 yes))

pub returns-then-not-is_same : goal.returns-then-not-is_same
returns-then-not-is_same c =
    let no : c.is_same.result ≡ false = grind arith in (
      (λ impossible. absurd (false≢true impossible)),
      (λ all. absurd (false≢true (sym no ∙ c.is_same.ensures.1
          (at_input (λ (o : Option FxType). o ≡ c.args.kind) c.args.values.now c.args.sources.now
          c.loop-source.source-index _ c.loop-source-test.true all)))),
    )
