use Rattle.std.proofs.Common.{ℕ, List, Option, sym, ap, ◌∙◌, arith}
use Rattle.std.specs.Prelude.{codes, option_map}
use Rattle.mdl_build.specs.declared.parts.Standing.{Standing}
use Rattle.mdl_build.specs.Blocks.{number_at, parent_of, standing_in}
use Rattle.mdl_build.specs.Parts.{part_of, filter_of}
use Rattle.mdl_build.specs.Sections.{holder_of, value_of}
use Rattle.mdl_build.specs.inner.Makers.{items_of}
use Rattle.mdl_build.specs.inner.Texts.{contents_of, fallbacks_of}
use Rattle.mdl_build.proofs.MakerLemmas.{some_text}
use Rattle.mdl_build.proofs.RoleLemmas.{parent_before}
use Rattle.mdl_build.proofs.TypeNumbers.{number_below, at_number}
use Rattle.mdl_build.proofs.making.Maker.block_by.Goals as goal

pub index-defaults-requires : goal.index-defaults-requires
index-defaults-requires c =
    let maker = c.args.self.now in
    let there = number_below (λ texts. contents_of texts.items)
    (fallbacks_of (items_of maker)) maker.defaults.items c.requires.maker.defaults c.args.block_type
    c.number_of.result c.number_of.ensures in
    omega (arith, there, maker.defaults.ok.0)

pub read_block-requires-clause-texts : goal.read_block-requires-clause-texts
read_block-requires-clause-texts c =
    let maker = c.args.self.now in
    ap contents_of c.deref.ensures.value
    ∙ ap (λ texts. contents_of texts.items) c.index-defaults.ensures
    ∙ at_number (λ texts. contents_of texts.items)
    (fallbacks_of (items_of maker)) maker.defaults.items c.requires.maker.defaults c.args.block_type
    c.number_of.result c.number_of.ensures c.index-defaults.result.now

pub number-requires-clause-within : goal.number-requires-clause-within
number-requires-clause-within c = λ x e. let h = parent_before (items_of c.args.self.now) c.args.place x (sym c.parent-parent.ensures ∙ e) in omega (arith, h.0, c.requires.block.within)

pub number-requires-clause-counts : goal.number-requires-clause-counts
number-requires-clause-counts c = λ x e. (parent_before (items_of c.args.self.now) c.args.place x (sym c.parent-parent.ensures ∙ e)).1

pub returns-clause-ok : goal.returns-clause-ok
returns-clause-ok c =
    let items = items_of c.args.self.now in
    record {
      block = record {
        name = some_text (value_of items c.args.place (codes "Name")) c.in_ok-name.name c.requires.block.named (c.in_ok-name.ensures ∙ c.text_or_empty-name.ensures);
        parent = c.number.ensures ∙ ap (option_map (number_at items)) c.parent-parent.ensures;
        block_type = c.args.block_type;
        type_is = c.requires.block.typed;
        settings = c.read_block.new.settings;
        has = rw c.in_default.is at c.in_ok-wrong.ensures;
        part =
            c.in_ok-part.ensures
            ∙ ap (λ (s : Standing). part_of s c.args.block_type c.filter_of.new.settings)
            (c.standing.ensures ∙ ap (λ (p : Option ℕ). standing_in items p (holder_of items c.args.place))
            c.parent-parent.ensures)
            ∙ c.in_ok-filter.ensures.part (standing_in items (parent_of items c.args.place) (holder_of items c.args.place));
      };
      filter = c.in_ok-filter.ensures.filter ∙ ap (λ (name : List ℕ). filter_of name c.args.block_type c.read_block.new.settings) (sym c.in_ok-name.ensures);
    }
