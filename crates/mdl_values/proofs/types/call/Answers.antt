use Rattle.std.proofs.Common.{◌≡◌, rules, arith}
use Rattle.std.specs.Prelude.{codes}
use Rattle.std.proofs.lemmas.Grind.{common_steps}
use Rattle.mdl_values.proofs.TypeLemmas.{is_call, empty_of}
use Rattle.mdl_values.proofs.types.call.Goals as goal

pub returns-then-is_empty : goal.returns-then-is_empty
returns-then-is_empty c =
    let named : c.in-Some.name.now ≡ codes "fixdt" = first_of (search rules, cc, grind (arith, common_steps)) in
    is_call c.args.text.now c.in-Some.name.now c.in-Some.behind.now c.in-Some-two_of.inside.now c.in-Some-two_of.after.now
    c.in-Some.ensures named c.in-Some-two_of.ensures (empty_of c.in-Some-two_of.after.now c.is_empty.result c.is_empty.ensures c.if-is_empty.true)
