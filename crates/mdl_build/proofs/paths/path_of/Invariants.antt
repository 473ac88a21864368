use Rattle.std.proofs.Common.{◌≡◌, ◌<◌, ◌++◌, length, true}
use Rattle.mdl_build.specs.Blocks.{path_of}
use Rattle.mdl_build.specs.Roles.{role_of, is_block}
use Rattle.mdl_build.specs.inner.Paths.{path_above}
use Rattle.mdl_build.proofs.paths.path_of.Given as goal

abbrev pub invariant-loop-outer : goal.invariant-loop-outer
invariant-loop-outer l = record {
  within : l.inner < length l.layout.items.now;
  counts : is_block (role_of l.layout.items.now l.inner) ≡ true;
  path : path_of l.layout.items.now l.fn.place ≡ path_above l.layout.items.now l.inner ++ l.path.items;
}

abbrev pub decreases-loop-outer : goal.decreases-loop-outer
decreases-loop-outer l = l.inner
