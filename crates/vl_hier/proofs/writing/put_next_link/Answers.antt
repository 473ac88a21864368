use Rattle.std.proofs.Common.{codes}
use Rattle.vl_hier.specs.Written.{link_text}
use Rattle.vl_hier.proofs.WrittenParts.{two_appended}
use Rattle.vl_hier.proofs.writing.put_next_link.Goals as goal

pub returns : goal.returns
returns c = two_appended c.args.out.now.items (codes ", ") (link_text c.args.link.now) _ _ c.in_ok-push.ensures c.in_ok-put_link.ensures
