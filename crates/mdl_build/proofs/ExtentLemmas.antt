-- How many blocks each block of a tree stands for.
use Rattle.std.proofs.Common.{◌≡◌, ℕ, suc, ◌+◌, ◌≤◌, List, [], ◌∷◌, length, inl, inr, refl, sym, ◌∙◌, ap, arith}
use Rattle.std.specs.Prelude.{All}
use Rattle.std.specs.List.{AllZip}
use Rattle.std.proofs.lemmas.List.Elements.{All-nil, All-cons, All-weaker}
use Rattle.fx_type.specs.declared.decimal.Decimal.{Decimal}
use Rattle.fir_block.specs.Expanded.{extent}
use Rattle.mdl_text.specs.declared.tree.Item.{Item}
use Rattle.mdl_values.specs.Laws.{ValuesAreOne}
use Rattle.mdl_values.proofs.OneNumber.{zip_one}
use Rattle.mdl_build.specs.declared.roles.Role.{Role}
use Rattle.mdl_build.specs.declared.roles.Role.TheVariants.{Other, Model, System, Block, SubSystem, Filter, Branch, Defaults, TypeDefaults}
use Rattle.mdl_build.specs.Extents.{IsFilterExtent, IsExtentOf, IsExtentAt, AreExtents, starts, total}
use Rattle.mdl_build.specs.Roles.{role_of, blocks_of}

-- ---- one block

filter_small : (text : List ℕ) (blocks : ℕ) → IsFilterExtent text blocks → (1 ≤ blocks) × (blocks ≤ 67)
filter_small text blocks (inl read) = let few = read.1.count.1 in (omega (arith, read.2), omega (arith, read.2, few))
filter_small text blocks (inr other) = (omega (arith, other.1), omega (arith, other.1))

small : (items : List Item) (place : ℕ) (role : Role) (blocks : ℕ) → IsExtentOf items place role blocks → (1 ≤ blocks) × (blocks ≤ 67)
small items place (Filter level) blocks is = filter_small _ blocks is
small items place Other blocks is = (omega (arith, is), omega (arith, is))
small items place Model blocks is = (omega (arith, is), omega (arith, is))
small items place (System level) blocks is = (omega (arith, is), omega (arith, is))
small items place (Block level) blocks is = (omega (arith, is), omega (arith, is))
small items place (SubSystem level) blocks is = (omega (arith, is), omega (arith, is))
small items place (Branch line) blocks is = (omega (arith, is), omega (arith, is))
small items place Defaults blocks is = (omega (arith, is), omega (arith, is))
small items place (TypeDefaults section) blocks is = (omega (arith, is), omega (arith, is))

one_filter : ValuesAreOne → (text : List ℕ) (one other : ℕ) → IsFilterExtent text one → IsFilterExtent text other → one ≡ other
one_filter values text one other (inl is) (inl too) = is.2 ∙ ap (λ (list : List Decimal). extent (length list)) (values.lists text is.0 too.0 is.1.list too.1.list) ∙ sym too.2
one_filter values text one other (inl is) (inr too) = absurd (too.0 is.0 is.1)
one_filter values text one other (inr is) (inl too) = absurd (is.0 too.0 too.1)
one_filter values text one other (inr is) (inr too) = is.1 ∙ sym too.1

one_extent : ValuesAreOne → (items : List Item) (place : ℕ) (role : Role) (one other : ℕ) → IsExtentOf items place role one → IsExtentOf items place role other → one ≡ other
one_extent values items place (Filter level) one other is too = one_filter values _ one other is too
one_extent values items place Other one other is too = is ∙ sym too
one_extent values items place Model one other is too = is ∙ sym too
one_extent values items place (System level) one other is too = is ∙ sym too
one_extent values items place (Block level) one other is too = is ∙ sym too
one_extent values items place (SubSystem level) one other is too = is ∙ sym too
one_extent values items place (Branch line) one other is too = is ∙ sym too
one_extent values items place Defaults one other is too = is ∙ sym too
one_extent values items place (TypeDefaults section) one other is too = is ∙ sym too

-- it isn't that there is none
some_filter : (text : List ℕ) → ((blocks : ℕ) → IsFilterExtent text blocks → ⊥) → ⊥
some_filter text never = never 1 (inr ((λ list are. never (extent (length list)) (inl (list, are, refl))), refl))

some_extent : (items : List Item) (place : ℕ) (role : Role) → ((blocks : ℕ) → IsExtentOf items place role blocks → ⊥) → ⊥
some_extent items place (Filter level) never = some_filter _ never
some_extent items place Other never = never 1 refl
some_extent items place Model never = never 1 refl
some_extent items place (System level) never = never 1 refl
some_extent items place (Block level) never = never 1 refl
some_extent items place (SubSystem level) never = never 1 refl
some_extent items place (Branch line) never = never 1 refl
some_extent items place Defaults never = never 1 refl
some_extent items place (TypeDefaults section) never = never 1 refl

-- ---- all blocks

module _ (items : List Item) where
  -- each is small
  all_small : (places extents : List ℕ) → AllZip (IsExtentAt items) places extents → All (λ extent. extent ≤ 67) extents
  all_small [] [] are = All-nil (λ (extent : ℕ). extent ≤ 67)
  all_small [] (extent ∷ extents) are = absurd are
  all_small (place ∷ places) [] are = absurd are
  all_small (place ∷ places) (extent ∷ extents) are = All-cons (λ (extent : ℕ). extent ≤ 67) extent extents ((small items place (role_of items place) extent are.0).1) (all_small places extents are.1)

  pub extents_small : (extents : List ℕ) → AreExtents items extents → All (λ extent. extent ≤ 67) extents
  extents_small extents are = all_small (blocks_of items) extents are

  -- each block stands for one at least
  at_least : (places extents : List ℕ) → AllZip (IsExtentAt items) places extents → length places ≤ total extents
  at_least [] [] are = omega arith
  at_least [] (extent ∷ extents) are = absurd are
  at_least (place ∷ places) [] are = absurd are
  at_least (place ∷ places) (extent ∷ extents) are = let first = (small items place (role_of items place) extent are.0).0 in let more = at_least places extents are.1 in omega (arith, first, more)

  pub blocks_within : (extents : List ℕ) → AreExtents items extents → length (blocks_of items) ≤ total extents
  blocks_within extents are = at_least (blocks_of items) extents are

  some_more : (places : List ℕ) → ((extents : List ℕ) → AllZip (IsExtentAt items) places extents → ⊥) → ⊥
  some_more [] never = never [] tt
  some_more (place ∷ places) never = some_extent items place (role_of items place) (λ blocks is. some_more places (λ extents are. never (blocks ∷ extents) (is, are)))

  pub some_extents : ((extents : List ℕ) → AreExtents items extents → ⊥) → ⊥
  some_extents never = some_more (blocks_of items) never

pub one_extents : ValuesAreOne → (items : List Item) (one other : List ℕ) → AreExtents items one → AreExtents items other → one ≡ other
one_extents values items one other is too =
    zip_one (IsExtentAt items) (λ place a b here there. one_extent values items place (role_of items place) a b here there) (blocks_of items) one other is too

-- ---- their numbers

pub starts_long : (number : ℕ) (extents : List ℕ) → length (starts number extents) ≡ length extents
starts_long number [] = refl
starts_long number (extent ∷ extents) = ap suc (starts_long (number + extent) extents)

pub starts_within : (number : ℕ) (extents : List ℕ) → All (λ start. start ≤ number + total extents) (starts number extents)
starts_within number [] = All-nil (λ (start : ℕ). start ≤ number + 0)
starts_within number (extent ∷ extents) =
    All-cons (λ (start : ℕ). start ≤ number + (extent + total extents)) number (starts (number + extent) extents) (omega arith)
    (All-weaker (λ (start : ℕ). start ≤ (number + extent) + total extents)
    (λ (start : ℕ). start ≤ number + (extent + total extents)) (λ start h. omega (arith, h))
    (starts (number + extent) extents) (starts_within (number + extent) extents))
