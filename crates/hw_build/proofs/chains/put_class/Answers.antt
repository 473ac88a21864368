use Rattle.std.proofs.Common.{◌≡◌, ℕ, ℤ, pos, All, List, Option, None, Some, Result, Ok, Err, IfOk, OnOk, refl, sym, subst, ◌∙◌}
use Rattle.std.specs.Prelude.{unwrap_or}
use Rattle.std.specs.Int.{w128}
use Rattle.std.proofs.lemmas.Int.{to_z-of_z}
use Rattle.hw_net.specs.Circuit.{Circuit}
use Rattle.hw_lines.specs.Chain.{IsUse, AreAnswers, IsChained}
use Rattle.hw_lines.specs.declared.source.Use.{Use}
use Rattle.hw_build.specs.declared.wants.Class.{Class}
use Rattle.hw_build.specs.inner.Wants.{first_of, source_by, IsClassAnswered}
use Rattle.hw_build.proofs.chains.put_class.Goals as goal

first_is : (first : Option ℤ) → unwrap_or first (pos 0) ≡ first_of first
first_is None = refl
first_is (Some first) = refl

class_answered : {E : Type 0} (result : Result (List ℕ) E) (before after : Circuit) (one : Class)
    → IfOk result (AreAnswers before after (source_by one.feed) one.uses.items)
    → OnOk result (IsChained before after (source_by one.feed) one.uses.items)
    → IfOk result (IsClassAnswered before after one)
class_answered (Ok numbers) before after one answers chained = record { answers = answers; chained = chained }
class_answered (Err e) before after one answers chained = tt

pub chain-requires-clause-low : goal.chain-requires-clause-low
chain-requires-clause-low c = c.requires.low

pub chain-requires-clause-high : goal.chain-requires-clause-high
chain-requires-clause-high c = c.requires.high

pub chain-requires-clause-source : goal.chain-requires-clause-source
chain-requires-clause-source c = rw (
  to_z-of_z w128 c.unwrap_or.result (record { sfits = c.unwrap_or.type_inv }),
  c.unwrap_or.ensures ∙ first_is c.args.class.now.feed.first,
  c.is_some.ensures,
) c.requires.class.source

pub chain-requires-clause-uses : goal.chain-requires-clause-uses
chain-requires-clause-uses c =
    rw (to_z-of_z w128 c.unwrap_or.result (record { sfits = c.unwrap_or.type_inv }), c.unwrap_or.ensures ∙ first_is c.args.class.now.feed.first, c.is_some.ensures)
    (subst (λ (uses : List Use). All (IsUse (source_by c.args.class.now.feed)) uses) (sym c.as_slice.ensures.value) c.requires.class.asked)

pub returns : goal.returns
returns c =
    let own = to_z-of_z w128 c.unwrap_or.result (record { sfits = c.unwrap_or.type_inv }) in
    let first = c.unwrap_or.ensures ∙ first_is c.args.class.now.feed.first in
    class_answered c.chain.result c.args.net.now c.chain.new.net c.args.class.now
    (rw (own, first, c.is_some.ensures, c.as_slice.ensures.value) at c.chain.ensures.answers) (rw (own, first, c.is_some.ensures, c.as_slice.ensures.value) at c.chain.ensures.chained)
