use Rattle.std.proofs.Common.{◌≡◌, ℕ, List, Option, map, ap, subst₂, ◌∙◌}
use Rattle.std.proofs.lemmas.List.{take_all}
use Rattle.mdl_build.specs.Library.{ParameterRow}
use Rattle.mdl_build.specs.inner.Texts.{contents_of, fallbacks_in, fallbacks_of}
use Rattle.mdl_build.proofs.Places.{mapped_more}
use Rattle.mdl_build.proofs.lookup.texts_of_all.Goals as goal

pub loop-block_type-preserved : goal.loop-block_type-preserved
loop-block_type-preserved c =
    let texts_are =
    subst₂ (λ (section : Option ℕ) (rows : List ParameterRow). contents_of c.in_ok-texts.texts.items ≡ fallbacks_in c.args.layout.now.items.now section rows)
    c.section_of-section.ensures.value c.parameters.ensures c.in_ok-texts.ensures in
    mapped_more (λ texts. contents_of texts.items) (fallbacks_of c.args.layout.now.items.now) _ _ c.args.block_types.now c.loop-block_type.block_type-index c.in_ok-texts.texts _
    c.loop-block_type-test.true c.loop-block_type.invariant c.in_ok-push.ensures.items texts_are

pub returns : goal.returns
returns c = c.loop-block_type.invariant ∙ ap (map (fallbacks_of c.args.layout.now.items.now)) (take_all c.loop-block_type.block_type-index c.args.block_types.now c.loop-block_type-test.false)
