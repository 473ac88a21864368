use Rattle.std.proofs.Common.{◌≡◌, ◌++◌, ◌∷◌, [], ℕ, List, length, ap, subst, sym, ◌∙◌}
use Rattle.vl_eval.specs.declared.ops.Op.{Op}
use Rattle.vl_eval.specs.declared.steps.Step.TheVariants.{Whole}
use Rattle.vl_eval.specs.inner.Steps.{AreWithin, ops_of}
use Rattle.vl_eval.proofs.LongerLists.{ops-more, ops-wider, within-more, within-wider}
use Rattle.vl_eval.proofs.code.append.Goals as goal

pub returns-in-Some-clause-within : goal.returns-in-Some-clause-within
returns-in-Some-clause-within c =
    let count = length c.args.wide.now.items in
    subst (AreWithin count) (sym c.in_ok-push.ensures.items) (within-more count c.args.steps.now.items c.in-Some.step c.requires (c.in-Some.ensures.within count))

pub returns-in-Some-clause-grown : goal.returns-in-Some-clause-grown
returns-in-Some-clause-grown c =
    let wide = c.args.wide.now.items in
    ap (ops_of wide) c.in_ok-push.ensures.items ∙ ops-more wide c.args.steps.now.items c.in-Some.step c.args.op (c.in-Some.ensures.held wide)

pub returns-clause-within : goal.returns-clause-within
returns-clause-within c =
    let wide = c.args.wide.now.items in
    let steps = c.args.steps.now.items in
    let number : c.len-number.result ≡ length wide = c.len-number.ensures ∙ c.args.wide.now.ok.0 in
    subst (λ (ops : List Op). AreWithin (length ops) c.push-3.new.self.items) (sym c.in_ok-push-2.ensures.items)
    (subst (AreWithin (length (wide ++ c.args.op ∷ []))) (sym c.in_ok-push-3.ensures.items)
    (subst (λ (n : ℕ). AreWithin (length (wide ++ c.args.op ∷ [])) (steps ++ Whole n ∷ [])) (sym number) (within-wider wide steps c.args.op c.requires)))

pub returns-clause-grown : goal.returns-clause-grown
returns-clause-grown c =
    let wide = c.args.wide.now.items in
    let steps = c.args.steps.now.items in
    let number : c.len-number.result ≡ length wide = c.len-number.ensures ∙ c.args.wide.now.ok.0 in
    (λ i. ops_of (c.in_ok-push-2.ensures.items i) (c.in_ok-push-3.ensures.items i))
    ∙ (λ i. ops_of (wide ++ c.args.op ∷ []) (steps ++ Whole (number i) ∷ []))
    ∙ ops-wider wide steps c.args.op c.requires
