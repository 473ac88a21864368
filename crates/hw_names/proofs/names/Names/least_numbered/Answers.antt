use Rattle.std.proofs.Common.{◌≡◌, ℕ, List, Contains, ap, sym, subst, ◌∙◌}
use Rattle.std.proofs.lemmas.Bool.{false≢true}
use Rattle.hw_names.specs.Names.{numbered}
use Rattle.hw_names.proofs.NameSets.{tried_more}
use Rattle.hw_names.proofs.names.Names.least_numbered.Goals as goal

pub returns-then-not-is_taken-clause-free : goal.returns-then-not-is_taken-clause-free
returns-then-not-is_taken-clause-free c list are = λ has.
    let other : c.in_ok-other.other.items ≡ numbered c.args.name.now.items c.loop-number.number =
    c.in_ok-other.ensures
    ∙ ap (λ (name : List ℕ). numbered name c.loop-number.number) c.as_slice.ensures.value in
    false≢true (sym c.if-not-is_taken.true ∙ (c.is_taken.ensures list are).1 (subst (Contains list) (sym other) has))

pub loop-number-preserved : goal.loop-number-preserved
loop-number-preserved c list are =
    let other : c.in_ok-other.other.items ≡ numbered c.args.name.now.items c.loop-number.number =
    c.in_ok-other.ensures
    ∙ ap (λ (name : List ℕ). numbered name c.loop-number.number) c.as_slice.ensures.value in
    tried_more list c.args.name.now.items c.loop-number.number (c.loop-number.invariant list are) (subst (Contains list) other ((c.is_taken.ensures list are).0 c.if-not-is_taken.false))

pub returns-then-not-is_taken-clause-name : goal.returns-then-not-is_taken-clause-name
returns-then-not-is_taken-clause-name c = c.in_ok-other.ensures ∙ ap (λ (name : List ℕ). numbered name c.loop-number.number) c.as_slice.ensures.value
