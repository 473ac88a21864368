use Rattle.std.proofs.Common.{List, map, ap, ◌∙◌}
use Rattle.std.proofs.lemmas.List.{take_all}
use Rattle.mdl_build.specs.declared.library.Parameter.{Parameter}
use Rattle.mdl_build.specs.Library.{row_of}
use Rattle.mdl_build.specs.inner.Texts.{fallbacks_in}
use Rattle.mdl_build.proofs.lookup.fallbacks.Goals as goal

pub returns : goal.returns
returns c =
    c.loop-parameter.invariant
    ∙ ap (λ (parameters : List Parameter). fallbacks_in c.args.layout.now.items.now c.args.section
    (map row_of parameters))
    (take_all c.loop-parameter.parameter-index c.args.parameters.now c.loop-parameter-test.false)
