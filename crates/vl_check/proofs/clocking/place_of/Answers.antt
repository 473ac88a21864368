use Rattle.std.proofs.Common.{◌≡◌, ◌∙◌, ◌+◌, ⊎_elim, slice_index_or, sym, ap, arith}
use Rattle.std.proofs.lemmas.Bool.{cases_lt}
use Rattle.std.proofs.lemmas.List.{get_or_default}
use Rattle.vl_ast.specs.Nets.{is_mention_of}
use Rattle.vl_check.specs.declared.mentions.Mention.TheVariants.{Clocks}
use Rattle.vl_check.specs.inner.Mentions.{mention_of}
use Rattle.vl_check.proofs.SearchFacts.{place-is}
use Rattle.vl_check.proofs.clocking.place_of.Goals as goal

pub returns-then-is_mention_of : goal.returns-then-is_mention_of
returns-then-is_mention_of c =
    let i = c.loop-mention.mention-index in
    let below = c.loop-mention-test.true in
    c.loop-mention.invariant.place
    ∙ place-is (λ x. is_mention_of c.args.name.now (mention_of x)) c.args.text.now i Clocks (omega (arith, below)) (c.loop-mention.invariant.none Clocks)
    (λ _. ap (λ x. is_mention_of c.args.name.now (mention_of x)) (get_or_default c.args.text.now i Clocks _ below) ∙ sym c.if-is_mention_of.ensures)

pub loop-mention-preserved : goal.loop-mention-preserved
loop-mention-preserved c =
    let i = c.loop-mention.mention-index in
    record {
      place = ap (λ n. n + 1) c.loop-mention.invariant.place;
      none = λ d k less. ⊎_elim
          (λ old. c.loop-mention.invariant.none d k old)
          (λ new. let e : k ≡ i = omega arith in
          ap (λ j. is_mention_of c.args.name.now (mention_of (slice_index_or c.args.text.now j d))) e
          ∙ ap (λ x. is_mention_of c.args.name.now (mention_of x)) (get_or_default c.args.text.now i d _ c.loop-mention-test.true) ∙ sym c.if-is_mention_of.ensures)
          (cases_lt k i);
    }

pub returns : goal.returns
returns c =
    let i = c.loop-mention.mention-index in
    c.loop-mention.invariant.place
    ∙ place-is (λ x. is_mention_of c.args.name.now (mention_of x)) c.args.text.now i Clocks c.loop-mention.auto.mention-index-end (c.loop-mention.invariant.none Clocks)
    (λ below. absurd (omega (arith, below, c.loop-mention-test.false)))
