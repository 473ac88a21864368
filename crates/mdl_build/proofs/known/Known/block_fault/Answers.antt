use Rattle.std.proofs.Common.{sym, ◌∙◌}
use Rattle.mdl_build.proofs.StructureLemmas.{found_block}
use Rattle.mdl_build.proofs.known.Known.block_fault.Goals as goal

pub path_of-requires-clause-within : goal.path_of-requires-clause-within
path_of-requires-clause-within c = (found_block c.args.self.now.layout.items.now _ c.in-Some.place (sym c.in_ok-first_misshapen.ensures ∙ c.in-Some.is)).within

pub path_of-requires-clause-counts : goal.path_of-requires-clause-counts
path_of-requires-clause-counts c = (found_block c.args.self.now.layout.items.now _ c.in-Some.place (sym c.in_ok-first_misshapen.ensures ∙ c.in-Some.is)).counts
