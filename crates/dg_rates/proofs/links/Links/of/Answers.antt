use Rattle.std.proofs.Common.{List, ℕ, length, replicate, [], sym, ap, subst, ◌∙◌}
use Rattle.dg_model.specs.declared.diagram.Block.{Block}
use Rattle.dg_rates.specs.inner.Links.{AreTied}
use Rattle.dg_rates.proofs.links.Links.of.Goals as goal

pub put_links-requires-clause-sources : goal.put_links-requires-clause-sources
put_links-requires-clause-sources c = c.in_ok-sources.ensures ∙ ap (λ (bs : List Block). replicate (length bs) []) c.as_slice-count.ensures

pub put_links-requires-clause-readers : goal.put_links-requires-clause-readers
put_links-requires-clause-readers c = c.in_ok-readers.ensures ∙ ap (λ (bs : List Block). replicate (length bs) []) c.as_slice-count.ensures

pub invariant_of-result : goal.invariant_of-result
invariant_of-result c =
    let tied = c.in_ok-put_links.ensures.tied in
    let sources = c.put_links.new.sources.items in
    let readers = c.put_links.new.readers.items in
    record { tied = rw (c.from_vec.ensures, c.from_vec-2.ensures) (subst (λ (count : ℕ). AreTied count count sources readers) (sym tied.sources_size) tied) }

pub returns-clause-size : goal.returns-clause-size
returns-clause-size c = ap length c.from_vec.ensures ∙ c.in_ok-put_links.ensures.tied.sources_size

pub returns-clause-sources : goal.returns-clause-sources
returns-clause-sources c = rw c.from_vec.ensures c.in_ok-put_links.ensures.sources
