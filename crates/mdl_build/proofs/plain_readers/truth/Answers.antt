use Rattle.std.proofs.Common.{drop, inr, refl}
use Rattle.std.specs.Prelude.{codes}
use Rattle.std.proofs.lemmas.Slice.Eq.{starts_is}
use Rattle.std.proofs.lemmas.Bool.Decides.{Decides-eqb}
use Rattle.mdl_build.proofs.plain_readers.truth.Goals as goal

pub returns-then-starts_with : goal.returns-then-starts_with
returns-then-starts_with c =
    (inr (drop 16 c.args.text.now, (starts_is Decides-eqb c.args.text.now (codes "Inherit: Logical") c.starts_with.result c.starts_with.ensures.value).0 c.if-starts_with.true), refl)
