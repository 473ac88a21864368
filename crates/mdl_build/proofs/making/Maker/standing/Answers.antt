use Rattle.std.proofs.Common.{true, false, not, sym, ap, ◌∙◌, arith}
use Rattle.mdl_build.specs.inner.Makers.{items_of}
use Rattle.mdl_build.proofs.MakerLemmas.{standing_read}
use Rattle.mdl_build.proofs.RoleLemmas.{holder_before}
use Rattle.mdl_build.proofs.making.Maker.standing.Goals as goal

pub index-requires : goal.index-requires
index-requires c =
    let h = holder_before (items_of c.args.self.now) c.args.place c.in-Some.system (sym c.holder.ensures ∙ c.in-Some.is) in
    omega (arith, h, c.requires.within, c.requires.maker.enabled.long, c.args.self.now.enabled.ok.0)

pub returns-then-index : goal.returns-then-index
returns-then-index c =
    sym (standing_read (items_of c.args.self.now) c.args.place c.args.parent c.in-Some.system
    c.args.self.now.enabled.items c.index.result.now true (c.is_none.ensures ∙ ap not c.if-is_none.false)
    (sym c.holder.ensures ∙ c.in-Some.is) c.requires.within c.requires.maker.enabled c.index.ensures
    c.if-index.true)

pub returns-else-index : goal.returns-else-index
returns-else-index c =
    sym (standing_read (items_of c.args.self.now) c.args.place c.args.parent c.in-Some.system
    c.args.self.now.enabled.items c.index.result.now false (c.is_none.ensures ∙ ap not c.if-is_none.false)
    (sym c.holder.ensures ∙ c.in-Some.is) c.requires.within c.requires.maker.enabled c.index.ensures
    c.if-index.false)
