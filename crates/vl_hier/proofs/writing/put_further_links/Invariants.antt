use Rattle.std.proofs.Common.{◌≡◌, ◌++◌, flat_map, take}
use Rattle.vl_hier.specs.inner.Written.{next_link}
use Rattle.vl_hier.proofs.writing.put_further_links.Given as goal

abbrev pub invariant-loop-link : goal.invariant-loop-link
invariant-loop-link l = l.out.items ≡ l.initial.out.items ++ flat_map next_link (take l.link-index l.links)
