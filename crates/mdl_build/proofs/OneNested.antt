-- A tree has its blocks and lines in one way.
use Rattle.std.proofs.Common.{◌≡◌, ℕ, List, sym, ◌∙◌, ap, subst}
use Rattle.dg_model.specs.declared.nested.Nested.{Nested}
use Rattle.dg_model.specs.declared.nested.NestedBlock.{NestedBlock}
use Rattle.mdl_text.specs.declared.tree.Item.{Item}
use Rattle.mdl_text.specs.declared.tree.Tree.{Tree}
use Rattle.mdl_values.specs.Laws.{ValuesAreOne}
use Rattle.mdl_build.specs.declared.expanding.DrawnBlock.{DrawnBlock}
use Rattle.mdl_build.specs.declared.library.BlockType.{BlockType}
use Rattle.mdl_build.specs.declared.settings.Settings.{Settings}
use Rattle.mdl_build.specs.Blocks.{HasSettings, standing_of}
use Rattle.mdl_build.specs.Expanded.{expanded_blocks, expanded_lines}
use Rattle.mdl_build.specs.Extents.{starts}
use Rattle.mdl_build.specs.Lines.{lines_of}
use Rattle.mdl_build.specs.Nested.{IsBlockAt, IsDrawnAt, IsNestedOf}
use Rattle.mdl_build.specs.Parts.{part_of, filter_of}
use Rattle.mdl_build.specs.Roles.{blocks_of}
use Rattle.mdl_build.specs.Settings.{zero_decimal}
use Rattle.mdl_build.proofs.ExtentLemmas.{one_extents}
use Rattle.std.proofs.lemmas.Option.{same_Some}
use Rattle.mdl_build.proofs.OneSetting.{one_settings}
use Rattle.mdl_values.proofs.OneNumber.{zip_one}

block_is : (a b : NestedBlock) → a.name ≡ b.name → a.parent ≡ b.parent → a.part ≡ b.part → a ≡ b
block_is a b e f g = λ i. record { name = e i; parent = f i; part = g i }

nested_is : (a b : Nested) → a.blocks ≡ b.blocks → a.lines ≡ b.lines → a ≡ b
nested_is a b e f = λ i. record { blocks = e i; lines = f i }

one_block : ValuesAreOne → (items : List Item) (place : ℕ) (one other : NestedBlock) → IsBlockAt items place one → IsBlockAt items place other → one ≡ other
one_block values items place one other is too =
    let type : is.block_type ≡ too.block_type = same_Some is.block_type too.block_type (sym is.type_is ∙ too.type_is) in
    let settings : is.settings ≡ too.settings =
    one_settings values items too.block_type place is.settings too.settings
    (subst (λ (t : BlockType). HasSettings items t place is.settings) type is.has) too.has in
    block_is one other (same_Some one.name other.name (sym is.name ∙ too.name)) (is.parent ∙ sym too.parent)
    (is.part ∙ ap (λ (t : BlockType). part_of (standing_of items place) t is.settings) type ∙ ap (λ (s : Settings). part_of (standing_of items place) too.block_type s) settings ∙ sym too.part)

drawn_is : (a b : DrawnBlock) → a.block ≡ b.block → a.filter ≡ b.filter → a ≡ b
drawn_is a b e f = λ i. record { block = e i; filter = f i }

one_drawn : ValuesAreOne → (items : List Item) (place : ℕ) (one other : DrawnBlock) → IsDrawnAt items place one → IsDrawnAt items place other → one ≡ other
one_drawn values items place one other is too =
    let block : one.block ≡ other.block = one_block values items place one.block other.block is.block too.block in
    let type : is.block.block_type ≡ too.block.block_type = same_Some is.block.block_type too.block.block_type (sym is.block.type_is ∙ too.block.type_is) in
    let settings : is.block.settings ≡ too.block.settings =
    one_settings values items too.block.block_type place is.block.settings too.block.settings
    (subst (λ (t : BlockType). HasSettings items t place is.block.settings) type is.block.has) too.block.has in
    drawn_is one other block
    (is.filter ∙ ap (λ (b : NestedBlock). filter_of b.name is.block.block_type is.block.settings) block
    ∙ ap (λ (t : BlockType). filter_of other.block.name t is.block.settings) type
    ∙ ap (λ (s : Settings). filter_of other.block.name too.block.block_type s) settings ∙ sym too.filter)

pub one_nested : ValuesAreOne → (tree : Tree) (one other : Nested) → IsNestedOf tree one → IsNestedOf tree other → one ≡ other
one_nested values tree one other is too =
    let extents : is.extents ≡ too.extents = one_extents values tree.items is.extents too.extents is.are_extents too.are_extents in
    let drawn : is.drawn ≡ too.drawn = zip_one (IsDrawnAt tree.items) (one_drawn values tree.items) (blocks_of tree.items) is.drawn too.drawn is.are_drawn too.are_drawn in
    nested_is one other
    (is.blocks zero_decimal ∙ ap (λ (e : List ℕ). expanded_blocks zero_decimal (starts 0 e) is.drawn) extents
    ∙ ap (λ (d : List DrawnBlock). expanded_blocks zero_decimal (starts 0 too.extents) d) drawn
    ∙ sym (too.blocks zero_decimal))
    (is.lines ∙ ap (λ (e : List ℕ). expanded_lines (starts 0 e) is.drawn (lines_of tree.items)) extents
    ∙ ap (λ (d : List DrawnBlock). expanded_lines (starts 0 too.extents) d (lines_of tree.items)) drawn
    ∙ sym too.lines)
