use Rattle.std.proofs.Common.{◌++◌, ◌∙◌, ℕ, List, append-nil, ap, codes, flat_map, map, sym}
use Rattle.vl_ast.specs.declared.designs.Link.{Link}
use Rattle.vl_ast.specs.Spelling.{joined}
use Rattle.vl_hier.specs.Written.{link_text}
use Rattle.vl_hier.specs.inner.Written.{next_link}
use Rattle.vl_hier.proofs.WrittenParts.{made-each, no-length, two_appended}
use Rattle.vl_hier.proofs.writing.put_links.Goals as goal

pub returns : goal.returns
returns c =
    let old = c.args.out.now.items in
    let first = c.in-Some.first.now in
    let further = c.in-Some.further.now in
    two_appended old (link_text first) (flat_map next_link further) _ _ c.in_ok-put_link.ensures c.in_ok-put_further_links.ensures
    ∙ ap (λ (t : List ℕ). old ++ (link_text first ++ t)) (sym (made-each (λ more. codes ", " ++ more) link_text further))
    ∙ ap (λ (ls : List Link). old ++ joined (codes ", ") (map link_text ls)) (sym c.in-Some.ensures.cases.0)

pub returns-in_default : goal.returns-in_default
returns-in_default c =
    let old = c.args.out.now.items in
    sym (append-nil old) ∙ ap (λ (ls : List Link). old ++ joined (codes ", ") (map link_text ls)) (sym (no-length c.args.links.now c.in_default.ensures.cases))
