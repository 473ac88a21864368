use Rattle.std.proofs.lemmas.Bool.{true≢false}
use Rattle.vl_ast.proofs.Listings.{both}
use Rattle.vl_hier.proofs.links.put_links.Goals as goal

pub returns-in-Ok : goal.returns-in-Ok
returns-in-Ok c = both c.put_way.ensures c.put_way-in-Ok.ensures

pub returns-in-Err : goal.returns-in-Err
returns-in-Err c = record { whole = λ enough. absurd (true≢false enough) }
