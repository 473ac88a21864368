-- The first broken rule of structure, library and parameter is one.
use Rattle.std.proofs.Common.{◌≡◌, ℕ, zero, suc, inl, inr, List, [], ◌∷◌, Option, None, Some, sym, ◌∙◌, ap, ap₂, subst}
use Rattle.std.specs.Prelude.{slice_get}
use Rattle.std.specs.List.{AllZip}
use Rattle.std.proofs.lemmas.Bool.{cases_order}
use Rattle.std.proofs.lemmas.Option.{none-some, same_Some}
use Rattle.dg_model.specs.declared.fault.RuleFault.{RuleFault}
use Rattle.dg_model.specs.declared.fault.Shown.TheVariants.{Word}
use Rattle.dg_model.specs.declared.nested.Nested.{Nested}
use Rattle.dg_model.specs.declared.rule.Rule.{Rule}
use Rattle.dg_model.specs.Faults.{fault_of}
use Rattle.mdl_text.specs.declared.tree.Item.{Item}
use Rattle.mdl_text.specs.declared.tree.Tree.{Tree}
use Rattle.mdl_values.specs.Laws.{ValuesAreOne}
use Rattle.mdl_build.specs.declared.library.BlockType.{BlockType}
use Rattle.mdl_build.specs.declared.settings.Settings.{Settings}
use Rattle.mdl_build.specs.Blocks.{path_of, AreRead, HasSettings, IsReadable}
use Rattle.mdl_build.specs.Library.{ParameterRow, parameters_of}
use Rattle.mdl_build.specs.Nested.{IsDrawnAt, IsNestedOf}
use Rattle.mdl_build.specs.Roles.{blocks_of}
use Rattle.mdl_build.specs.Rules.{structure_fault, type_at, FindsStructure, IsFirstWrong, IsWrongFirst, Breaks}
use Rattle.mdl_build.specs.Settings.{unset, with_setting}
use Rattle.mdl_build.proofs.ExtentLemmas.{one_extents}

one_wrong : (items : List Item) (block_type : BlockType) (place : ℕ) (rows : List ParameterRow) (one other : List ℕ)
    → IsFirstWrong items block_type place rows one → IsFirstWrong items block_type place rows other → one ≡ other
one_wrong items block_type place rows one other is too = elim (cases_order is.number too.number) [
  | inl same ↦
      let row : is.parameter ≡ too.parameter = same_Some is.parameter too.parameter (sym is.there ∙ ap (slice_get rows) same ∙ too.there) in
      is.name_is ∙ ap (λ (r : ParameterRow). r.name) row ∙ sym too.name_is
  | inr differ ↦ elim differ [
    | inl less ↦ absurd (is.wrong (too.before is.number is.parameter less is.there))
    | inr more ↦ absurd (too.wrong (is.before too.number too.parameter more too.there))
  ]
]

one_first : (items : List Item) (one other : RuleFault) → IsWrongFirst items one → IsWrongFirst items other → one ≡ other
one_first items one other is too = elim (cases_order is.number too.number) [
  | inl same ↦
      let place : is.place ≡ too.place = same_Some is.place too.place (sym is.there ∙ ap (slice_get (blocks_of items)) same ∙ too.there) in
      let type : is.block_type ≡ too.block_type = same_Some is.block_type too.block_type (sym is.type_is ∙ ap (type_at items) place ∙ too.type_is) in
      let here : IsFirstWrong items is.block_type too.place (parameters_of is.block_type) is.name =
      subst (λ (p : ℕ). IsFirstWrong items is.block_type p (parameters_of is.block_type) is.name) place
      is.wrong in
      let wrong : IsFirstWrong items too.block_type too.place (parameters_of too.block_type) is.name = subst (λ (t : BlockType). IsFirstWrong items t too.place (parameters_of t) is.name) type here in
      is.fault_is
      ∙ ap₂ (λ (p : ℕ) (name : List ℕ). fault_of Rule.Parameter (path_of items p) (Word name)) place
      (one_wrong items too.block_type too.place (parameters_of too.block_type) is.name too.name wrong too.wrong)
      ∙ sym too.fault_is
  | inr differ ↦ elim differ [
    | inl less ↦ absurd (is.wrong.wrong (too.before is.number is.place is.block_type less is.there is.type_is is.wrong.number is.wrong.parameter is.wrong.there))
    | inr more ↦ absurd (too.wrong.wrong (is.before too.number too.place too.block_type more too.there too.type_is too.wrong.number too.wrong.parameter too.wrong.there))
  ]
]

told : (fault : RuleFault) (found : Option RuleFault) → found ≡ None → found ≡ Some fault → ⊥
told fault found none some = none-some fault (sym none ∙ some)

-- the rule of structure finds one thing
pub one_found : ValuesAreOne → (tree : Tree) (one other : Option RuleFault) → FindsStructure tree one → FindsStructure tree other → one ≡ other
one_found values tree one other is too =
    sym is.finds ∙ ap (λ (extents : List ℕ). structure_fault extents tree.items) (one_extents values tree.items is.extents too.extents is.are_extents too.are_extents) ∙ too.finds

not_both : ValuesAreOne → (tree : Tree) (fault : RuleFault) → FindsStructure tree None → FindsStructure tree (Some fault) → ⊥
not_both values tree fault is too = none-some fault (one_found values tree None (Some fault) is too)

pub one_fault : ValuesAreOne → (tree : Tree) (one other : RuleFault) → Breaks tree one → Breaks tree other → one ≡ other
one_fault values tree one other (inl is) (inl too) = same_Some one other (one_found values tree (Some one) (Some other) is too)
one_fault values tree one other (inl is) (inr (inl too)) = absurd (not_both values tree one too.structured is)
one_fault values tree one other (inl is) (inr (inr too)) = absurd (not_both values tree one too.structured is)
one_fault values tree one other (inr (inl is)) (inl too) = absurd (not_both values tree other is.structured too)
one_fault values tree one other (inr (inl is)) (inr (inl too)) = same_Some one other (sym is.broken ∙ too.broken)
one_fault values tree one other (inr (inl is)) (inr (inr too)) = absurd (told one _ too.known is.broken)
one_fault values tree one other (inr (inr is)) (inl too) = absurd (not_both values tree other is.structured too)
one_fault values tree one other (inr (inr is)) (inr (inl too)) = absurd (told other _ is.known too.broken)
one_fault values tree one other (inr (inr is)) (inr (inr too)) = one_first tree.items one other is.broken too.broken

-- ---- blocks that are there have no wrong parameter

zip_there : {A B : Type 0} (R : A → B → Type 0) (xs : List A) (ys : List B) (k : ℕ) (x : A) → AllZip R xs ys → slice_get xs k ≡ Some x → (y : B) × R x y
zip_there R [] ys k x zip there = absurd (none-some x there)
zip_there R (z ∷ xs) [] k x zip there = absurd zip
zip_there {A} {B} R (z ∷ xs) (y ∷ ys) zero x zip there = (y, subst (λ (a : A). R a y) (same_Some z x there) zip.0)
zip_there R (z ∷ xs) (y ∷ ys) (suc k) x zip there = zip_there R xs ys k x zip.1 there

pub readable : (items : List Item) (block_type : BlockType) (place : ℕ) (rows : List ParameterRow)
    (before after : Settings) → AreRead items block_type place rows before after → (k : ℕ) (row : ParameterRow)
    → slice_get rows k ≡ Some row → IsReadable items block_type place row
readable items block_type place [] before after read k row there = absurd (none-some row there)
readable items block_type place (first ∷ rows) before after read zero row there = subst (λ (r : ParameterRow). IsReadable items block_type place r) (same_Some first row there) (read.0, read.1)
readable items block_type place (first ∷ rows) before after read (suc k) row there = readable items block_type place rows (with_setting before read.0) after read.2 k row there

pub not_broken : ValuesAreOne → (tree : Tree) (nested : Nested) (fault : RuleFault) → IsNestedOf tree nested → Breaks tree fault → ⊥
not_broken values tree nested fault is (inl broken) = not_both values tree fault (record { extents = is.extents; are_extents = is.are_extents; finds = is.structured }) broken
not_broken values tree nested fault is (inr (inl broken)) = told fault _ is.known broken.broken
not_broken values tree nested fault is (inr (inr broken)) =
    let first = broken.broken in
    let found = zip_there (IsDrawnAt tree.items) (blocks_of tree.items) is.drawn first.number first.place is.are_drawn first.there in
    let block = found.1.block in
    let type : block.block_type ≡ first.block_type = same_Some block.block_type first.block_type (sym block.type_is ∙ first.type_is) in
    let has : HasSettings tree.items first.block_type first.place block.settings = subst (λ (t : BlockType). HasSettings tree.items t first.place block.settings) type block.has in
    first.wrong.wrong (readable tree.items first.block_type first.place (parameters_of first.block_type) unset block.settings has first.wrong.number first.wrong.parameter first.wrong.there)
