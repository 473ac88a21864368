use Rattle.std.proofs.Common.{◌≡◌, [], ◌∷◌, ◌++◌, ◌∙◌, ap}
use Rattle.vl_read.specs.inner.Plain.{innermost}
use Rattle.vl_read.proofs.Expressions.{innermost_at}
use Rattle.vl_read.proofs.pieces.innermost.Goals as goal

pub returns-in-Some : goal.returns-in-Some
returns-in-Some c =
    let left : c.args.frames.now.items ≡ c.pop.new.self.items ++ c.in-Some.frame ∷ [] = c.in-Some.ensures.items in
    ap innermost left ∙ innermost_at c.pop.new.self.items c.in-Some.frame
