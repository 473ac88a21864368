use Rattle.std.proofs.Common.{◌<◌, ℕ, List, get_or, sym, ap, subst, ◌∙◌}
use Rattle.std.proofs.lemmas.Option.{slice_get-get_or}
use Rattle.dg_types.specs.declared.linked.Form.{Form}
use Rattle.dg_types.specs.declared.linked.Form.TheVariants.{Single}
use Rattle.dg_types.specs.declared.linked.Source.{Source}
use Rattle.dg_types.specs.inner.Build.{all_forms}
use Rattle.dg_types.specs.inner.Widths.{source_widths, taken_by}
use Rattle.dg_types.proofs.LinkRows.{form_at, length_forms}
use Rattle.dg_types.proofs.linked.WidthRoundRound.next.Goals as goal

pub bounds-self-block : goal.bounds-self-block
bounds-self-block c =
    let round = c.args.self.now in
    subst (λ (n : ℕ). c.args.block < n) (sym round.linked.forms_size ∙ length_forms round.blocks.now) c.requires.there

pub form_of-requires : goal.form_of-requires
form_of-requires c =
    let round = c.args.self.now in
    round.short c.args.block _ (subst (λ (n : ℕ). c.args.block < n) (sym round.linked.forms_size ∙ length_forms round.blocks.now) c.requires.there)

pub taken_by-requires : goal.taken_by-requires
taken_by-requires c = record { small = c.requires.fit; there = rw c.requires.all c.sources_of.ensures.there; some = c.sources_of.ensures.shared_out }

pub returns : goal.returns
returns c =
    let round = c.args.self.now in
    let values = c.args.values.now in
    let own = get_or values c.args.block 0 in
    let block = get_or round.blocks.now c.args.block c.index-self-block.result in
    let inside = subst (λ (n : ℕ). c.args.block < n) (sym round.linked.forms_size ∙ length_forms round.blocks.now) c.requires.there in
    let form = form_at round.blocks.now c.args.block block (slice_get-get_or round.blocks.now c.args.block c.index-self-block.result inside) in
    c.taken_by.ensures
    ∙ ap (λ (f : Form). taken_by f own (source_widths values c.sources_of.result.now)) (c.form_of.ensures ∙ sym form)
    ∙ ap (λ (sources : List Source). taken_by (get_or (all_forms round.blocks.now) c.args.block Single) own (source_widths values sources)) c.sources_of.ensures.value
