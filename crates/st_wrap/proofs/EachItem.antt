-- A fact of each item of the wrapper, part by part.
use Rattle.std.proofs.Common.{⊎_elim, List, [], ◌∷◌, ◌++◌, map, flat_map, Contains, subst}
use Rattle.vl_ast.specs.declared.modules.ModItem.{ModItem}
use Rattle.vl_ast.specs.declared.modules.Module.{Module}
use Rattle.math_list.proofs.Elements.{cons-cases, head-in, none-in, tail-in}
use Rattle.st_wrap.specs.declared.columns.Column.{Column}
use Rattle.st_wrap.specs.declared.pace.Counters.{Counters}
use Rattle.st_wrap.specs.inner.Columns.{held_declared, held_driven, late_declared, late_driven}
use Rattle.st_wrap.specs.inner.Control.{control_declared, control_driven}
use Rattle.st_wrap.specs.inner.CoreNames.{core_items, wires_of}
use Rattle.st_wrap.specs.inner.Wrapper.{declared_items, driven_items, items_of}

abbrev pub EachHas : (ModItem → Type 0) → List ModItem → Type 0
EachHas P [] = Unit {0}
EachHas P (i ∷ items) = P i × EachHas P items

pub have-append : (P : ModItem → Type 0) (xs ys : List ModItem) → EachHas P xs → EachHas P ys → EachHas P (xs ++ ys)
have-append P [] ys a b = b
have-append P (x ∷ xs) ys a b = (a.0, have-append P xs ys a.1 b)

pub have-flat : {A : Type 0} (P : ModItem → Type 0) (f : A → List ModItem) (xs : List A) → ((x : A) → Contains xs x → EachHas P (f x)) → EachHas P (flat_map f xs)
have-flat P f [] each = tt
have-flat P f (x ∷ xs) each = have-append P (f x) (flat_map f xs) (each x (head-in x xs)) (have-flat P f xs (λ y c. each y (tail-in x y xs c)))

pub have-map : {A : Type 0} (P : ModItem → Type 0) (f : A → ModItem) (xs : List A) → ((x : A) → Contains xs x → P (f x)) → EachHas P (map f xs)
have-map P f [] each = tt
have-map P f (x ∷ xs) each = (each x (head-in x xs), have-map P f xs (λ y c. each y (tail-in x y xs c)))

pub have-at : (P : ModItem → Type 0) (items : List ModItem) → EachHas P items → (i : ModItem) → Contains items i → P i
have-at P [] a i h = absurd (none-in i h)
have-at P (j ∷ items) a i h = ⊎_elim (λ e. subst P e a.0) (λ t. have-at P items a.1 i t) (cons-cases j i items h)

module _ (P : ModItem → Type 0) (core : Module) (counters : Counters) (inputs outputs : List Column) where
  pub declared-have : EachHas P (wires_of core) → EachHas P (control_declared counters) → ((column : Column) → Contains inputs column → EachHas P (held_declared column))
      → ((column : Column) → Contains outputs column → EachHas P (late_declared column)) → EachHas P (declared_items core counters inputs outputs)
  declared-have wires control held late =
      have-append P (wires_of core) (control_declared counters ++ (flat_map held_declared inputs ++ flat_map late_declared outputs)) wires
      (have-append P (control_declared counters) (flat_map held_declared inputs ++ flat_map late_declared outputs) control
      (have-append P (flat_map held_declared inputs) (flat_map late_declared outputs) (have-flat P held_declared inputs held) (have-flat P late_declared outputs late)))

  pub items-have : EachHas P (declared_items core counters inputs outputs) → EachHas P (core_items core) → EachHas P (control_driven counters)
      → ((column : Column) → Contains inputs column → EachHas P (held_driven column)) → ((column : Column) → Contains outputs column → EachHas P (late_driven column))
      → EachHas P (items_of core counters inputs outputs)
  items-have declared own control held late =
      have-append P (declared_items core counters inputs outputs) (core_items core ++ driven_items counters inputs outputs) declared
      (have-append P (core_items core) (driven_items counters inputs outputs) own
      (have-append P (control_driven counters) (flat_map held_driven inputs ++ flat_map late_driven outputs) control
      (have-append P (flat_map held_driven inputs) (flat_map late_driven outputs) (have-flat P held_driven inputs held) (have-flat P late_driven outputs late))))
