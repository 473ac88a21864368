use Rattle.std.proofs.Common.{length, arith, ◌∙◌}
use Rattle.mdl_build.proofs.Above.{holder_known, holders_length}
use Rattle.mdl_build.proofs.layout.Layout.holder.Goals as goal

pub index-requires : goal.index-requires
index-requires c = let long = holders_length c.args.self.now.items.now c.args.self.now.holders.items
    (length c.args.self.now.items.now) c.args.self.now.held in let r = c.requires in omega (arith, long, r)

pub returns : goal.returns
returns c = c.index.ensures ∙ holder_known c.args.self.now.items.now c.args.self.now.holders.items (length c.args.self.now.items.now) c.args.place c.args.self.now.held c.requires _
