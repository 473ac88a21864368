use Rattle.std.proofs.Common.{◌++◌, ◌∷◌, [], List, ap, map, sym, ◌∙◌}
use Rattle.std.proofs.lemmas.List.{take_all}
use Rattle.vl_ast.specs.Conditions.{mentioned}
use Rattle.vl_ast.specs.Nets.{Mention, names_read}
use Rattle.vl_check.specs.declared.mentions.Mention.{Mention as MentionHere}
use Rattle.vl_check.specs.Scope.{number_at}
use Rattle.vl_check.specs.inner.Mentions.{shown}
use Rattle.vl_check.proofs.ItemNotes.{numbers-more}
use Rattle.vl_check.proofs.ExpressionNames.{has-more, names-of-reads, none-had}
use Rattle.vl_check.proofs.assigned.numbers_read.Goals as goal

pub loop-mention-preserved : goal.loop-mention-preserved
loop-mention-preserved c =
    let number = c.number_or_count.ensures ∙ ap (number_at c.args.scope.now) c.mentioned_name.ensures in
    c.in_ok-push.ensures.appended ∙ (λ i. c.loop-mention.invariant i ++ number i ∷ [])
    ∙ sym (numbers-more c.args.scope.now c.as_slice-mention-items.result.now c.loop-mention.mention-index _ c.loop-mention-test.true)

pub returns : goal.returns
returns c =
    let scope = c.args.scope.now in
    let put = has-more (none-had c.new.result c.new.ensures.items) c.push_names.ensures in
    let reads = c.in_ok-reads.ensures in
    c.loop-mention.invariant
    ∙ ap (λ (xs : List MentionHere). map (number_at scope) (map mentioned (shown xs)))
    (take_all c.loop-mention.mention-index c.as_slice-mention-items.result.now c.loop-mention-test.false
    ∙ c.as_slice-mention-items.ensures.value ∙ reads.1)
    ∙ ap (λ (xs : List Mention). map (number_at scope) (map mentioned xs)) (put.whole reads.0)
    ∙ ap (map (number_at scope)) (names-of-reads (names_read c.args.e.now))
