use Rattle.std.proofs.Common.{◌++◌, ◌∙◌, ℕ, List, codes, map}
use Rattle.vl_ast.specs.declared.designs.Link.{Link}
use Rattle.vl_ast.specs.Spelling.{joined}
use Rattle.vl_hier.specs.Written.{link_text}
use Rattle.vl_hier.proofs.WrittenParts.{six_appended}
use Rattle.vl_hier.proofs.writing.put_instance.Goals as goal

pub returns : goal.returns
returns c =
    let old = c.args.out.now.items in
    let links : List Link → List ℕ = λ ls. joined (codes ", ") (map link_text ls) in
    six_appended old c.bytes.result.now (codes " ") c.bytes-2.result.now (codes " (") (links c.as_slice.result.now) (codes ");\n") _ _ _ _ _ _
    c.in_ok-push.ensures c.in_ok-push-2.ensures c.in_ok-push-3.ensures c.in_ok-push-4.ensures c.in_ok-put_links.ensures c.in_ok-push-5.ensures
    ∙ (λ k. old ++ (c.bytes.ensures k ++ codes " " ++ c.bytes-2.ensures k ++ codes " (" ++ links (c.as_slice.ensures k) ++ codes ");\n"))
