-- A tree has blocks and lines, or breaks a rule.
use Rattle.std.proofs.Common.{◌≡◌, ℕ, zero, suc, ◌+◌, ◌<◌, inl, inr, List, [], ◌∷◌, Option, None, Some, refl, sym, ◌∙◌, ap, subst, arith}
use Rattle.std.specs.Prelude.{slice_get, option_map, codes}
use Rattle.std.specs.List.{AllZip}
use Rattle.std.proofs.lemmas.Bool.{cases_lt}
use Rattle.dg_model.specs.declared.fault.RuleFault.{RuleFault}
use Rattle.dg_model.specs.declared.fault.Shown.TheVariants.{Word}
use Rattle.dg_model.specs.declared.nested.Nested.{Nested}
use Rattle.dg_model.specs.declared.rule.Rule.{Rule}
use Rattle.dg_model.specs.Faults.{fault_of}
use Rattle.mdl_text.specs.declared.tree.Item.{Item}
use Rattle.fir_block.specs.Laws.{AreSoundBlocks, BlocksAreCounted, NamesDiffer}
use Rattle.mdl_values.specs.Laws.{ValuesAreOne}
use Rattle.mdl_build.specs.declared.expanding.DrawnBlock.{DrawnBlock}
use Rattle.mdl_build.specs.declared.library.BlockType.{BlockType}
use Rattle.mdl_build.specs.declared.settings.Settings.{Settings}
use Rattle.mdl_build.specs.Blocks.{path_of, parent_of, number_at, standing_of, AreRead, IsReadable}
use Rattle.mdl_build.specs.Expanded.{expanded_blocks, expanded_lines}
use Rattle.mdl_build.specs.Extents.{AreExtents, starts}
use Rattle.mdl_build.specs.Laws.{NestedIsThere}
use Rattle.mdl_build.specs.Library.{ParameterRow, parameters_of}
use Rattle.mdl_build.specs.Lines.{lines_of}
use Rattle.mdl_build.specs.Nested.{IsDrawnAt, IsNestedOf}
use Rattle.mdl_build.specs.Parts.{part_of, filter_of}
use Rattle.mdl_build.specs.Roles.{blocks_of}
use Rattle.mdl_build.specs.Rules.{structure_fault, library_fault, type_at, AllRead, IsFirstWrong, IsWrongFirst}
use Rattle.mdl_build.specs.Sections.{value_of}
use Rattle.mdl_build.specs.Settings.{unset, with_setting, zero_decimal}
use Rattle.mdl_build.proofs.ExtentLemmas.{some_extents}
use Rattle.mdl_build.proofs.Fillings.{same_expanded, are_filters}
use Rattle.mdl_build.proofs.Sound.{drawn_model, sound}
use Rattle.mdl_build.proofs.StructureLemmas.{structure_kept, name_kept, type_kept}
use Rattle.mdl_build.proofs.OneFault.{readable}
use Rattle.std.proofs.lemmas.Option.{same_Some}
use Rattle.math_list.proofs.Tests.{some_of}

type_of : (found : Option BlockType) → (found ≡ None → ⊥) → (x : BlockType) × (found ≡ Some x)
type_of None not = absurd (not refl)
type_of (Some x) not = (x, refl)

-- ---- the rows of a block

-- all rows are read, or there is a first that isn't; the rows before these are read
module _ (items : List Item) (block_type : BlockType) (place : ℕ) where
  rest_wrong : (row : ParameterRow) (rows : List ParameterRow) → IsReadable items block_type place row
      → ((name : List ℕ) → IsFirstWrong items block_type place (row ∷ rows) name → ⊥) → (name : List ℕ)
      → IsFirstWrong items block_type place rows name → ⊥
  rest_wrong row rows read none name is = none name (record {
    number = suc is.number;
    parameter = is.parameter;
    there = is.there;
    wrong = is.wrong;
    before = before;
    name_is = is.name_is;
  }) where
    before : (k : ℕ) (other : ParameterRow) → k < suc is.number → slice_get (row ∷ rows) k ≡ Some other → IsReadable items block_type place other
    before zero other less there = subst (λ (r : ParameterRow). IsReadable items block_type place r) (same_Some row other there) read
    before (suc k) other less there = is.before k other (omega (arith, less)) there

  rows_read : (rows : List ParameterRow) (before : Settings)
      → ((name : List ℕ) → IsFirstWrong items block_type place rows name → ⊥)
      → ((after : Settings) → AreRead items block_type place rows before after → ⊥) → ⊥
  rows_read [] before none never = never before refl
  rows_read (row ∷ rows) before none never =
      none row.name (record {
        number = 0;
        parameter = row;
        there = refl;
        wrong = λ read. rows_read rows (with_setting before read.0) (rest_wrong row rows read none) (λ after more. never after (read.0, read.1, more));
        before = λ k other less there. absurd (omega (arith, less));
        name_is = refl;
      })

-- ---- the blocks

abbrev ReadBefore : List Item → ℕ → Type 0
ReadBefore items number = (k other : ℕ) (block_type : BlockType) → k < number → slice_get (blocks_of items) k ≡ Some other → type_at items other ≡ Some block_type → AllRead items block_type other

module _ (items : List Item) (extents : List ℕ) (structured : structure_fault extents items ≡ None)
    (known : library_fault items ≡ None) (none : (fault : RuleFault) → IsWrongFirst items fault → ⊥) where
  abbrev drawn_with : ℕ → BlockType → List ℕ → Settings → DrawnBlock
  drawn_with place block_type name settings = record {
    block = record { name = name; parent = option_map (number_at items) (parent_of items place); part = part_of (standing_of items place) block_type settings };
    filter = filter_of name block_type settings;
  }

  -- the blocks from a number on
  from_number : (number : ℕ) (places : List ℕ)
      → ((k : ℕ) → slice_get places k ≡ slice_get (blocks_of items) (number + k)) → ReadBefore items number
      → ((blocks : List DrawnBlock) → AllZip (IsDrawnAt items) places blocks → ⊥) → ⊥
  from_number number [] at before never = never [] tt
  from_number number (place ∷ places) at before never =
      let there : slice_get (blocks_of items) number ≡ Some place = sym (at 0 ∙ ap (slice_get (blocks_of items)) (omega arith)) in
      let type = type_of (type_at items place) (λ untyped. type_kept items known number place there untyped) in
      let name = some_of (value_of items place (codes "Name")) (name_kept items place (structure_kept items extents structured number place there)) in
      rows_read items type.0 place (parameters_of type.0) unset
      (λ wrong is. none (fault_of Rule.Parameter (path_of items place) (Word wrong)) (record {
        number = number;
        place = place;
        there = there;
        before = before;
        block_type = type.0;
        type_is = type.1;
        name = wrong;
        wrong = is;
        fault_is = refl;
      }))
      (λ settings has. from_number (suc number) places (λ k. at (suc k) ∙ ap (slice_get (blocks_of items)) (omega arith))
      (λ k other block_type less at_k type_k. elim (cases_lt k number) [
        | inl earlier ↦ before k other block_type earlier at_k type_k
        | inr last ↦
            let same : number ≡ k = omega (arith, less, last) in
            let its : place ≡ other = same_Some place other (sym there ∙ ap (slice_get (blocks_of items)) same ∙ at_k) in
            let own : type.0 ≡ block_type = same_Some type.0 block_type (sym type.1 ∙ ap (type_at items) its ∙ type_k) in
            subst (λ (p : ℕ). AllRead items block_type p) its (subst (λ (t : BlockType). AllRead items t place) own (readable items type.0 place (parameters_of type.0) unset settings has))
      ])
      (λ blocks zip. never (drawn_with place type.0 name.0 settings ∷ blocks)
      (record { block = record { name = name.1; parent = refl; block_type = type.0; type_is = type.1; settings = settings; has = has; part = refl }; filter = refl }, zip)))

module _ (values : ValuesAreOne) (shaped : AreSoundBlocks) (differ : NamesDiffer) (counted : BlocksAreCounted) where
  pub some_nested : NestedIsThere
  some_nested tree not none = some_extents tree.items (λ extents are. by extents are (structure_fault extents tree.items) refl (library_fault tree.items) refl)
    where
      by : (extents : List ℕ) → AreExtents tree.items extents → (one : Option RuleFault) → structure_fault extents tree.items ≡ one → (two : Option RuleFault) → library_fault tree.items ≡ two → ⊥
      by extents are (Some fault) structured two known = none fault (inl (record { extents = extents; are_extents = are; finds = structured }))
      by extents are None structured (Some fault) known = none fault (inr (inl (record { structured = record { extents = extents; are_extents = are; finds = structured }; broken = known })))
      by extents are None structured None known =
          from_number tree.items extents structured known
          (λ fault broken. none fault (inr (inr
          (record {
            structured = record { extents = extents; are_extents = are; finds = structured };
            known =
                known;
            broken = broken;
          })))) 0 (blocks_of tree.items)
          (λ k. ap (slice_get (blocks_of tree.items)) (omega arith)) (λ k other block_type less at_k type_k. absurd (omega (arith, less)))
          (λ drawn zip.
          let lines = lines_of tree.items in
          let model = drawn_model values tree.items extents drawn lines are (record { structured = structured; known = known; blocks = zip; lines = refl }) in
          let nested : Nested = record { blocks = expanded_blocks zero_decimal (starts 0 extents) drawn; lines = expanded_lines (starts 0 extents) drawn lines } in
          let is : IsNestedOf tree nested = record {
            extents = extents;
            are_extents = are;
            structured = structured;
            known = known;
            drawn = drawn;
            are_drawn = zip;
            blocks = λ other. same_expanded zero_decimal other (starts 0 extents) drawn (are_filters extents drawn lines model);
            lines = refl;
          } in
          not nested is (sound values shaped differ counted tree nested is))
