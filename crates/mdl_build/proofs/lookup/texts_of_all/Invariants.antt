use Rattle.std.proofs.Common.{◌≡◌, map, take}
use Rattle.mdl_build.specs.inner.Texts.{contents_of, fallbacks_of}
use Rattle.mdl_build.proofs.lookup.texts_of_all.Given as goal

abbrev pub invariant-loop-block_type : goal.invariant-loop-block_type
invariant-loop-block_type l = map (λ texts. contents_of texts.items) l.defaults.items ≡ map (fallbacks_of l.layout.items.now) (take l.block_type-index l.block_types)
