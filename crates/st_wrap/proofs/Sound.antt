-- An expression over the wrapper's names of the core's is as sound as in the core.
use Rattle.std.proofs.Common.{◌≡◌, ℕ, ◌&&◌, List, ◌++◌, Contains, Option, Some, None, refl}
use Rattle.std.proofs.lemmas.List.Elements.{Contains-append_left, Contains-append_right}
use Rattle.vl_ast.specs.declared.expressions.Expr.{Expr}
use Rattle.vl_ast.specs.declared.modules.ModItem.{ModItem}
use Rattle.vl_ast.specs.declared.modules.ModItem.TheVariants.{Wire, Reg, Assign, Always}
use Rattle.vl_ast.specs.Conditions.{is_number, is_sound, is_sound_condition, is_sound_item}
use Rattle.vl_ast.specs.Context.{Net}
use Rattle.vl_ast.specs.Nets.{condition_names, names_read}
use Rattle.vl_ast.proofs.Layers.{value_by_layer}
use Rattle.vl_ast.proofs.SoundAgree.{sound-renamed as sound-by}
use Rattle.st_wrap.specs.inner.Names.{inner_name}
use Rattle.st_wrap.specs.inner.CoreNames.{renamed, renamed_condition, renamed_item}
use Rattle.st_wrap.proofs.Meanings.{renamed-rolls}

module _ (nets other : List ℕ → Net) where
  sound-renamed : (e : Expr) → ((name : List ℕ) → Contains (names_read e) name → nets (inner_name name) ≡ other name) → is_sound nets (renamed e) ≡ is_sound other e
  sound-renamed = sound-by value_by_layer inner_name renamed renamed-rolls nets other

  condition-renamed : (condition : Option Expr) → ((name : List ℕ) → Contains (condition_names condition) name → nets (inner_name name) ≡ other name)
      → is_sound_condition nets (renamed_condition condition) ≡ is_sound_condition other condition
  condition-renamed None same = refl
  condition-renamed (Some condition) same = sound-renamed condition same

  -- what an item reads is declared alike
  abbrev pub ReadsAlike : ModItem → Type 0
  ReadsAlike (Wire signed width name) = Unit {0}
  ReadsAlike (Reg signed width name) = Unit {0}
  ReadsAlike (Assign name value) = (x : List ℕ) → Contains (names_read value) x → nets (inner_name x) ≡ other x
  ReadsAlike (Always name first condition value) = (x : List ℕ) → Contains (condition_names condition ++ names_read value) x → nets (inner_name x) ≡ other x

  pub item-sound : (i : ModItem) → ReadsAlike i → is_sound_item nets (renamed_item i) ≡ is_sound_item other i
  item-sound (Wire signed width name) same = refl
  item-sound (Reg signed width name) same = refl
  item-sound (Assign name value) same = sound-renamed value same
  item-sound (Always name first condition value) same =
      let a = condition-renamed condition (λ x c. same x (Contains-append_left (condition_names condition) (names_read value) x c)) in
      let b = sound-renamed value (λ x c. same x (Contains-append_right (condition_names condition) (names_read value) x c)) in
      (λ i. is_number first && a i && b i)
