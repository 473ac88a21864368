use Rattle.std.proofs.Common.{sym, ◌∙◌}
use Rattle.std.proofs.lemmas.Result.{IfOk-weaker}
use Rattle.mdl_build.proofs.StructureLemmas.{sizes_break, blocks_found}
use Rattle.mdl_build.proofs.known.Known.find_blocks.Goals as goal

pub add_all-requires-clause-roles : goal.add_all-requires-clause-roles
add_all-requires-clause-roles c = c.deref.ensures.value ∙ c.requires.roles

pub returns-then-not-keeps_sizes : goal.returns-then-not-keeps_sizes
returns-then-not-keeps_sizes c = sizes_break c.args.self.now c.requires.extents (sym c.keeps_sizes.ensures ∙ c.if-not-keeps_sizes.true)

pub returns : goal.returns
returns c =
    IfOk-weaker c.add_all.result _ _
    (λ few are. blocks_found c.args.self.now c.add_all.new.self few c.requires.roles c.requires.extents (sym c.keeps_sizes.ensures ∙ c.if-not-keeps_sizes.false) are)
    c.add_all.ensures
