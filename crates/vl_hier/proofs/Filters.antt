-- Of a list the elements that pass a test, one after another.
use Rattle.std.proofs.Common.{◌≡◌, Bool, true, false, if◌then◌else◌, List, [], ◌∷◌, ◌++◌, filter, flat_map, map, refl, sym, ap, ◌∙◌}
use Rattle.std.proofs.lemmas.List.{map-id}
use Rattle.vl_ast.specs.declared.modules.ModItem.{ModItem}
use Rattle.vl_inner.specs.Laws.{RenamedIsSame}
use Rattle.vl_inner.specs.Names.{name_by}
use Rattle.vl_inner.specs.Renamed.{Renaming, renamed_item}
use Rattle.vl_inner.specs.declared.names.Naming.TheVariants.{Kept}
use Rattle.vl_hier.specs.declared.items.Part.{Part}
use Rattle.vl_hier.specs.inner.Puts.{is_of, part_items}

pub filtered : {A B : Type 0} (test : A → Bool) (f : A → B) (xs : List A) → map f (filter test xs) ≡ flat_map (λ x. if test x then f x ∷ [] else []) xs
filtered test f [] = refl
filtered test f (x ∷ xs) = by (filtered test f xs) (test x) where
  by : map f (filter test xs) ≡ flat_map (λ x. if test x then f x ∷ [] else []) xs → (b : Bool)
      → map f (if b then x ∷ filter test xs else filter test xs) ≡ (if b then f x ∷ [] else []) ++ flat_map (λ x. if test x then f x ∷ [] else []) xs
  by rest true = ap (λ ys. f x ∷ ys) rest
  by rest false = rest

-- a part of a module's items, over other names and over their own
pub part-renamed : (part : Part) (rename : Renaming) (items : List ModItem) → flat_map (part_items part rename) items ≡ map (renamed_item rename) (filter (is_of part) items)
part-renamed part rename items = sym (filtered (is_of part) (renamed_item rename) items)

pub part-kept : RenamedIsSame → (part : Part) (items : List ModItem) → flat_map (part_items part (name_by Kept)) items ≡ filter (is_of part) items
part-kept same part items =
    part-renamed part (name_by Kept) items
    ∙ (λ k. map (λ (i : ModItem). same i k) (filter (is_of part) items))
    ∙ map-id (filter (is_of part) items)
