-- What the fourth condition says of each item and each name of a module.
use Rattle.std.proofs.Common.{◌≡◌, ◌≤◌, ℕ, Bool, true, false, not, ◌&&◌, if◌then◌else◌, nat_le, ◌⊎◌, inl, inr, bytes_eq, List, [], ◌∷◌, map, find, Contains, Option, None, Some, refl, sym, subst, ◌∙◌}
use Rattle.std.proofs.Common.{arith}
use Rattle.std.proofs.lemmas.Bool.{and_parts, leb-true, not-false}
use Rattle.std.proofs.lemmas.List.Elements.{Contains-append_left, Contains-append_right}
use Rattle.vl_ast.specs.declared.expressions.Sized.{Sized}
use Rattle.vl_ast.specs.declared.expressions.Expr.{Expr}
use Rattle.vl_ast.specs.declared.modules.Port.{Port}
use Rattle.vl_ast.specs.declared.modules.ModItem.{ModItem}
use Rattle.vl_ast.specs.declared.modules.ModItem.TheVariants.{Wire, Reg, Assign, Always}
use Rattle.vl_ast.specs.declared.modules.Module.{Module}
use Rattle.vl_ast.specs.Context.{Net}
use Rattle.vl_ast.specs.Conditions.{is_number, is_sound, is_sound_condition, is_width, is_sound_item, item_name, soundness, too_wide, undriven, doubly}
use Rattle.vl_ast.specs.Nets.{Declared, Declares, mentions, declarations, declaration_of, nets_of, net_or_none}
use Rattle.vl_check.specs.declared.scope.Scope.{Scope}
use Rattle.vl_check.specs.Scope.{IsScopeOf, nets_in}
use Rattle.math_list.proofs.Elements.{cons-cases, head-in, none-in, map-in, tail-in}
use Rattle.vl_ast.proofs.Facts.{Declaration, OfPort, OfWire, OfReg, declaration-by, is-declared, listed-mention, reg-declared, wire-declared}
use Rattle.vl_ast.proofs.ModuleTokens.{unnamed}

abbrev fails : List ℕ × Bool → Bool
fails part = not part.1

none-found : (xs : List (List ℕ × Bool)) → find fails xs ≡ None → (x : List ℕ × Bool) → Contains xs x → x.1 ≡ true
none-found [] e x c = absurd (none-in x c)
none-found (y ∷ ys) e x c = by (none-found ys) (fails y) refl e (cons-cases y x ys c) where
  by : (find fails ys ≡ None → (x : List ℕ × Bool) → Contains ys x → x.1 ≡ true) → (t : Bool) → fails y ≡ t → (if t then Some y else find fails ys) ≡ None → (y ≡ x) ⊎ Contains ys x → x.1 ≡ true
  by rest true s f c = absurd (cc f)
  by rest false s f (inl same) = subst (λ (z : List ℕ × Bool). z.1 ≡ true) same (not-false y.1 s)
  by rest false s f (inr later) = rest f x later

module _ (m : Module) (narrow : too_wide m ≡ None) where
  all-sound : (x : List ℕ × Bool) → Contains (soundness m) x → x.1 ≡ true
  all-sound x c = none-found (soundness m) (unnamed (find fails (soundness m)) narrow) x c

  abbrev ports' : List (List ℕ × Bool)
  ports' = map (λ (port : Port). (port.name, is_width port.width)) m.ports

  abbrev items' : List (List ℕ × Bool)
  items' = map (λ item. (item_name item, is_sound_item (nets_of m) item)) m.items

  pub item-sound : (item : ModItem) → Contains m.items item → is_sound_item (nets_of m) item ≡ true
  item-sound item c = all-sound (item_name item, is_sound_item (nets_of m) item) (Contains-append_right ports' items' _ (map-in (λ x. (item_name x, is_sound_item (nets_of m) x)) m.items item c))

  pub assign-sound : (name : List ℕ) (value : Expr) → Contains m.items (Assign name value) → is_sound (nets_of m) value ≡ true
  assign-sound name value c = item-sound (Assign name value) c

  pub always-sound : (name : List ℕ) (first : Sized) (condition : Option Expr) (value : Expr) → Contains m.items (Always name first condition value)
      → (is_number first ≡ true) × (is_sound_condition (nets_of m) condition ≡ true) × (is_sound (nets_of m) value ≡ true)
  always-sound name first condition value c =
      let all = and_parts (is_number first && is_sound_condition (nets_of m) condition) (is_sound (nets_of m) value) (item-sound (Always name first condition value) c) in
      let two = and_parts (is_number first) (is_sound_condition (nets_of m) condition) all.0 in
      (two.0, two.1, all.1)

  pub port-narrow : (port : Port) → Contains m.ports port → is_width port.width ≡ true
  port-narrow port c = all-sound (port.name, is_width port.width) (Contains-append_left ports' items' _ (map-in (λ (x : Port). (x.name, is_width x.width)) m.ports port c))

  few : (w : ℕ) → is_width w ≡ true → w ≤ 128
  few w h = leb-true w 128 (and_parts (nat_le 1 w) (nat_le w 128) h).1

  module _ (driven : undriven m ≡ None) (once : doubly m ≡ None) where
    found-declared : (xs : List Declared) (name : List ℕ) (d : Declared) → find (λ (x : Declared). bytes_eq x.name name) xs ≡ Some d → Contains xs d
    found-declared [] name d e = absurd (cc e)
    found-declared (y ∷ ys) name d e = by (found-declared ys name d) (bytes_eq y.name name) e where
      by : (find (λ (x : Declared). bytes_eq x.name name) ys ≡ Some d → Contains ys d) → (t : Bool)
          → (if t then Some y else find (λ (x : Declared). bytes_eq x.name name) ys) ≡ Some d → Contains (y ∷ ys) d
      by rest true f = let same : y ≡ d = cc f in subst (λ z. Contains (y ∷ ys) z) same (head-in y ys)
      by rest false f = tail-in y d ys (rest f)

    declared-width : (d : Declared) → Contains (declarations m) d → d.net.width ≤ 128
    declared-width d c = by (declaration-by m driven once d here) where
      here : Contains (mentions m) (Declares d)
      here = listed-mention m driven once d c

      same-width : (e : Declared) → declaration_of m d.name ≡ Some e → e.net.width ≤ 128 → d.net.width ≤ 128
      same-width e known le = subst (λ (z : Declared). z.net.width ≤ 128) (one-of (sym known ∙ is-declared m driven once d here)) le where
        one-of : {a b : Declared} → Some a ≡ Some b → a ≡ b
        one-of p = cc p

      by : Declaration m driven once d → d.net.width ≤ 128
      by (OfPort port h e) = subst (λ (z : Declared). z.net.width ≤ 128) e (few port.width (port-narrow port h))
      by (OfWire signed width h kind) = same-width _ (is-declared m driven once _ (wire-declared m driven once signed width d.name h)) (few width (item-sound (Wire signed width d.name) h))
      by (OfReg signed width h kind) = same-width _ (is-declared m driven once _ (reg-declared m driven once signed width d.name h)) (few width (item-sound (Reg signed width d.name) h))

    -- a name has at most 128 bits
    pub width-few : (name : List ℕ) → (nets_of m name).width ≤ 128
    width-few name = by (declaration_of m name) refl where
      by : (o : Option Declared) → declaration_of m name ≡ o → (net_or_none o).width ≤ 128
      by None e = omega arith
      by (Some d) e = declared-width d (found-declared (declarations m) name d e)

-- the same of the nets of a scope
module _ (m : Module) (narrow : too_wide m ≡ None) where
  nets-of : (scope : Scope) → IsScopeOf m scope → nets_in scope ≡ nets_of m
  nets-of scope s = λ i name. net_or_none (s.declares name i)

  pub scope-sound : (scope : Scope) → IsScopeOf m scope → (name : List ℕ) (value : Expr) → Contains m.items (Assign name value) → is_sound (nets_in scope) value ≡ true
  scope-sound scope s name value c = subst (λ (f : List ℕ → Net). is_sound f value ≡ true) (sym (nets-of scope s)) (assign-sound m narrow name value c)

  pub scope-always : (scope : Scope) → IsScopeOf m scope → (name : List ℕ) (first : Sized) (condition : Option Expr) (value : Expr) → Contains m.items (Always name first condition value)
      → (is_number first ≡ true) × (is_sound_condition (nets_in scope) condition ≡ true) × (is_sound (nets_in scope) value ≡ true)
  scope-always scope s name first condition value c =
      subst (λ (f : List ℕ → Net). (is_number first ≡ true) × (is_sound_condition f condition ≡ true)
      × (is_sound f value ≡ true)) (sym (nets-of scope s)) (always-sound m narrow name first condition value c)

  pub scope-few : (driven : undriven m ≡ None) (once : doubly m ≡ None) (scope : Scope) → IsScopeOf m scope → (name : List ℕ) → (nets_in scope name).width ≤ 128
  scope-few driven once scope s name = subst (λ (f : List ℕ → Net). (f name).width ≤ 128) (sym (nets-of scope s)) (width-few m narrow driven once name)
