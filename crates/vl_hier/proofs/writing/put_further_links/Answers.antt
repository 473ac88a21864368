use Rattle.std.proofs.Common.{◌≡◌, ◌++◌, ◌∙◌, ℕ, List, append-nil, ap, flat_map, sym}
use Rattle.std.proofs.lemmas.List.{take_all}
use Rattle.vl_hier.specs.inner.Written.{next_link}
use Rattle.vl_hier.proofs.NetKeys.{grown}
use Rattle.vl_hier.proofs.writing.put_further_links.Goals as goal

pub loop-link-init : goal.loop-link-init
loop-link-init c = sym (append-nil c.args.out.now.items)

pub loop-link-preserved : goal.loop-link-preserved
loop-link-preserved c =
    let x = c.link-item.result in
    grown (λ (bytes : List ℕ). c.put_next_link.new.out.items ≡ bytes) next_link c.args.links.now c.loop-link.link-index x c.loop-link-test.true c.link-item.is c.args.out.now.items
    (c.in_ok-put_next_link.ensures ∙ ap (λ (bytes : List ℕ). bytes ++ next_link x) c.loop-link.invariant)

pub returns : goal.returns
returns c =
    c.loop-link.invariant
    ∙ ap (λ (xs : List _). c.args.out.now.items ++ flat_map next_link xs) (take_all c.loop-link.link-index c.args.links.now c.loop-link-test.false)
