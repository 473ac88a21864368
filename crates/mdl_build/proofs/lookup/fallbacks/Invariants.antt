use Rattle.std.proofs.Common.{◌≡◌, map, take}
use Rattle.mdl_build.specs.Library.{row_of}
use Rattle.mdl_build.specs.inner.Texts.{contents_of, fallbacks_in}
use Rattle.mdl_build.proofs.lookup.fallbacks.Given as goal

abbrev pub invariant-loop-parameter : goal.invariant-loop-parameter
invariant-loop-parameter l = contents_of l.texts.items ≡ fallbacks_in l.layout.items.now l.section (map row_of (take l.parameter-index l.parameters))
