-- The one item that drives a declared name, by its place.
use Rattle.std.proofs.Common.{◌≡◌, ◌<◌, ⊎_elim, ℕ, zero, suc, Bool, true, false, List, [], ◌∷◌, ◌++◌, map, Contains, Some, None, refl, sym, ap, subst, arith}
use Rattle.std.specs.List.{slice_get}
use Rattle.std.proofs.lemmas.Bool.{cases_order, false≢true}
use Rattle.std.proofs.lemmas.Option.{none-some, same_Some}
use Rattle.vl_ast.specs.declared.modules.ModItem.{ModItem}
use Rattle.vl_ast.specs.declared.modules.ModItem.TheVariants.{Wire, Reg, Assign, Always}
use Rattle.vl_ast.specs.declared.modules.Module.{Module}
use Rattle.vl_ast.specs.Conditions.{doubly, undriven, item_name, needs_driver}
use Rattle.vl_ast.specs.Drivers.{DrivesAt, IsDrivenOnce, declares}
use Rattle.vl_ast.specs.Nets.{Declared, Declares, Drives, Reads, Clocks, condition_names, item_mentions, mentions, names_read}
use Rattle.vl_ast.proofs.Facts.{ByAlways, ByAssign, Driver, driver-of, has-driver, later-item}
use Rattle.math_list.proofs.Elements.{Cut, cons-cases, head-in, in-cut, none-in, tail-in}

-- ---- places of elements

pub placed : {A : Type 0} (xs : List A) (x : A) → Contains xs x → (k : ℕ) × (slice_get xs k ≡ Some x)
placed [] x c = absurd (none-in x c)
placed (y ∷ xs) x c = ⊎_elim (λ e. (0, ap Some e)) (λ t. let r = placed xs x t in (suc r.0, r.1)) (cons-cases y x xs c)

cut-place : {A : Type 0} (xs : List A) (k : ℕ) (x : A) → slice_get xs k ≡ Some x → Cut xs x
cut-place [] k x at = absurd (none-some x at)
cut-place (y ∷ xs) zero x at = record { before = []; after = xs; whole = ap (λ z. z ∷ xs) (same_Some y x at) }
cut-place (y ∷ xs) (suc k) x at = let r = cut-place xs k x at in record { before = y ∷ r.before; after = r.after; whole = ap (λ zs. y ∷ zs) r.whole }

pub at-place : {A : Type 0} (xs : List A) (k : ℕ) (x : A) → slice_get xs k ≡ Some x → Contains xs x
at-place xs k x at = let cut = cut-place xs k x at in subst (λ zs. Contains zs x) (sym cut.whole) (in-cut cut.before cut.after x)

-- an element at an earlier place stands before
earlier : {A : Type 0} (xs : List A) (j k : ℕ) (y x : A) → j < k → slice_get xs j ≡ Some y → slice_get xs k ≡ Some x → (cut : Cut xs x) × Contains cut.before y
earlier [] j k y x below aj ak = absurd (none-some x ak)
earlier (z ∷ xs) j zero y x below aj ak = absurd (omega arith)
earlier (z ∷ xs) zero (suc k) y x below aj ak =
    let r = cut-place xs k x ak in
    (record { before = z ∷ r.before; after = r.after; whole = ap (λ zs. z ∷ zs) r.whole }, subst (λ v. Contains (z ∷ r.before) v) (same_Some z y aj) (head-in z r.before))
earlier (z ∷ xs) (suc j) (suc k) y x below aj ak =
    let r = earlier xs j k y x (omega arith) aj ak in
    (record { before = z ∷ r.0.before; after = r.0.after; whole = ap (λ zs. z ∷ zs) r.0.whole }, tail-in z y r.0.before r.1)

-- ---- drivers

-- an item that doesn't declare has a place that drives its name
pub drives-own : (i : ModItem) → declares i ≡ false → (c : Bool) × Contains (item_mentions i) (Drives c (item_name i))
drives-own (Wire signed width name) e = absurd (false≢true (sym e))
drives-own (Reg signed width name) e = absurd (false≢true (sym e))
drives-own (Assign name value) e = (false, head-in (Drives false name) (map Reads (names_read value)))
drives-own (Always name first condition value) e =
    let rest = map Reads (condition_names condition ++ names_read value) in
    (true, tail-in Clocks (Drives true name) (Drives true name ∷ rest) (head-in (Drives true name) rest))

module _ (m : Module) (driven : undriven m ≡ None) (once : doubly m ≡ None) where
  drives : (name : List ℕ) (k : ℕ) (i : ModItem) → DrivesAt m name k i → (c : Bool) × Contains (item_mentions i) (Drives c name)
  drives name k i d = subst (λ n. (c : Bool) × Contains (item_mentions i) (Drives c n)) d.named (drives-own i d.drives)

  no-earlier : (name : List ℕ) (j k : ℕ) (other i : ModItem) → j < k → DrivesAt m name j other → DrivesAt m name k i → ⊥
  no-earlier name j k other i below a b =
      let cut = earlier m.items j k other i below a.there b.there in
      let da = drives name j other a in
      let db = drives name k i b in
      later-item m driven once db.0 da.0 name i other cut.0 cut.1 db.1 da.1

  -- two places that drive a name are one
  pub one-place : (name : List ℕ) (j k : ℕ) (other i : ModItem) → DrivesAt m name j other → DrivesAt m name k i → j ≡ k
  one-place name j k other i a b = ⊎_elim
      (λ same. same)
      (λ apart. ⊎_elim (λ low. absurd (no-earlier name j k other i low a b)) (λ high. absurd (no-earlier name k j i other high b a)) apart)
      (cases_order j k)

  by-driver : (name : List ℕ) (c : Bool) → Driver m driven once name c → IsDrivenOnce m name
  by-driver name false (ByAssign value h) =
      let p = placed m.items (Assign name value) h in
      let here : DrivesAt m name p.0 (Assign name value) = record { there = p.1; drives = refl; named = refl } in
      record { place = p.0; item = Assign name value; here = here; only = λ k other d. one-place name k p.0 other (Assign name value) d here }
  by-driver name true (ByAlways first condition value h) =
      let i = Always name first condition value in
      let p = placed m.items i h in
      let here : DrivesAt m name p.0 i = record { there = p.1; drives = refl; named = refl } in
      record { place = p.0; item = i; here = here; only = λ k other d. one-place name k p.0 other i d here }

  pub driven-once : (d : Declared) → Contains (mentions m) (Declares d) → needs_driver d.kind ≡ true → IsDrivenOnce m d.name
  driven-once d h needs = let r = has-driver m driven once d h needs in by-driver d.name r.0 (driver-of m driven once r.0 d.name r.1)
