-- Which nested block each block of the flat list comes from; no two come from one.
use Rattle.std.proofs.Common.{◌≡◌, ℕ, zero, suc, ◌<◌, ◌+◌, Bool, true, false, cond, List, [], ◌∷◌, take, Option, Some, None, add-zero, zero-add, refl, sym, ap, ◌∙◌, inl, inr, arith}
use Rattle.std.specs.Prelude.{count_by, slice_get, not}
use Rattle.std.specs.List.{enumerate_from, filter_map, cons_option}
use Rattle.std.specs.Option.{is_some}
use Rattle.std.proofs.lemmas.Bool.{cases_order, not-true}
use Rattle.std.proofs.lemmas.Option.{none-some, same_Some}
use Rattle.dg_model.specs.declared.diagram.Block.{Block}
use Rattle.dg_model.specs.declared.nested.NestedBlock.{NestedBlock}
use Rattle.dg_flat.specs.Flat.{flat_block, flat_blocks, flat_place}
use Rattle.dg_flat.specs.Origins.{ComesFrom, OriginsAre, OriginsDiffer}
use Rattle.dg_flat.specs.Parts.{is_subsystem, control_of}
use Rattle.math_list.proofs.Places.{count_cons}
use Rattle.dg_flat.proofs.FlatParts.{agrees}

-- an item of a list that is kept at a place, and what it becomes
record IsOrigin {X Y : Type 0} (h : ℕ × X → Option Y) (keeps : X → Bool) (from : ℕ) (xs : List X) (j : ℕ) (y : Y) : Type 0 where
  place : ℕ
  item : X
  there : slice_get xs place ≡ Some item
  kept : keeps item ≡ true
  count : count_by keeps (take place xs) ≡ j
  gives : h (from + place, item) ≡ Some y

one_on : {X Y : Type 0} (h : ℕ × X → Option Y) (keeps : X → Bool) (from : ℕ) (x : X) (xs : List X) (i j : ℕ) (y : Y) (b : Bool) → keeps x ≡ b → cond b 1 0 + i ≡ j →
    IsOrigin h keeps (from + 1) xs i y → IsOrigin h keeps from (x ∷ xs) j y
one_on {X} {Y} h keeps from x xs i j y b e same o = record {
  place = suc o.place;
  item = o.item;
  there = o.there;
  kept = o.kept;
  count = count_cons keeps x (take o.place xs) ∙ ap (λ (v : Bool). cond v 1 0 + count_by keeps (take o.place xs)) e ∙ ap (λ (n : ℕ). cond b 1 0 + n) o.count ∙ same;
  gives = ap (λ (n : ℕ). h (n, o.item)) next ∙ o.gives;
} where
  next : from + suc o.place ≡ (from + 1) + o.place
  next = omega arith

origin_from : {X Y : Type 0} (h : ℕ × X → Option Y) (keeps : X → Bool) → ((n : ℕ) (x : X) → is_some (h (n, x)) ≡ keeps x) →
    (from : ℕ) (xs : List X) (j : ℕ) (y : Y) → slice_get (filter_map h (enumerate_from from xs)) j ≡ Some y → IsOrigin h keeps from xs j y
origin_from h keeps agrees from [] j y at = absurd (none-some y at)
origin_from {X} {Y} h keeps agrees from (x ∷ xs) j y at =
    go (h (from, x)) refl j at (λ i found. origin_from h keeps agrees (from + 1) xs i y found) where
      go : (o : Option Y) → h (from, x) ≡ o → (j : ℕ) → slice_get (cons_option o (filter_map h (enumerate_from (from + 1) xs))) j ≡ Some y →
          ((i : ℕ) → slice_get (filter_map h (enumerate_from (from + 1) xs)) i ≡ Some y → IsOrigin h keeps (from + 1) xs i y) → IsOrigin h keeps from (x ∷ xs) j y
      go None e j at rest = one_on h keeps from x xs j j y false (sym (agrees from x) ∙ ap is_some e) (zero-add j) (rest j at)
      go (Some value) e zero at rest = record {
        place = 0;
        item = x;
        there = refl;
        kept = sym (agrees from x) ∙ ap is_some e;
        count = refl;
        gives = ap (λ (n : ℕ). h (n, x)) (add-zero from) ∙ e ∙ at;
      }
      go (Some value) e (suc j) at rest = one_on h keeps from x xs j (suc j) y true (sym (agrees from x) ∙ ap is_some e) (omega arith) (rest j at)

-- ---- no two from one

pub count_before : {X : Type 0} (p : X → Bool) (xs : List X) (i j : ℕ) (x : X) → slice_get xs i ≡ Some x → p x ≡ true → i < j → count_by p (take i xs) < count_by p (take j xs)
count_before p [] i j x at passes before = absurd (none-some x at)
count_before p (y ∷ ys) i zero x at passes before = absurd (omega (arith, before))
count_before {X} p (y ∷ ys) zero (suc j) x at passes before =
    let here : ◌≡◌ {A = ℕ} (cond (p y) 1 0) 1 = ap (λ (b : Bool). cond b 1 0) (ap p (same_Some y x at) ∙ passes) in
    omega (arith, here, count_cons p y (take j ys))
count_before {X} p (y ∷ ys) (suc i) (suc j) x at passes before =
    omega (arith, count_cons p y (take i ys), count_cons p y (take j ys), count_before p ys i j x at passes (omega (arith, before)))

pub one_place : {X : Type 0} (p : X → Bool) (xs : List X) (i j : ℕ) (x y : X) → slice_get xs i ≡ Some x → slice_get xs j ≡ Some y → p x ≡ true → p y ≡ true →
    count_by p (take i xs) ≡ count_by p (take j xs) → i ≡ j
one_place p xs i j x y at there passes other same =
    elim (cases_order i j) [
      | inl e ↦ e
      | inr apart ↦ elim apart [
        | inl before ↦ absurd (omega (arith, same, count_before p xs i j x at passes before))
        | inr after ↦ absurd (omega (arith, same, count_before p xs j i y there other after))
      ]
    ]

-- ---- flat blocks

pub comes_from : (blocks : List NestedBlock) (j : ℕ) (flat : Block) → slice_get (flat_blocks blocks) j ≡ Some flat → ComesFrom blocks j flat
comes_from blocks j flat at =
    let o = origin_from (λ (place, block). flat_block blocks place (control_of blocks block.parent) block.part)
    (λ b. not (is_subsystem b.part))
    (λ n b. agrees blocks n (control_of blocks b.parent) b.part) 0 blocks j flat at in
    record {
      place = o.place;
      block = o.item;
      there = o.there;
      kept = not-true (is_subsystem o.item.part) o.kept;
      flat_at = o.count;
      gives = sym (ap (λ (n : ℕ). flat_block blocks n (control_of blocks o.item.parent) o.item.part) (zero-add o.place)) ∙ o.gives;
    }

pub one_origin : (blocks : List NestedBlock) (i j : ℕ) (x y : NestedBlock) → slice_get blocks i ≡ Some x → slice_get blocks j ≡ Some y → is_subsystem x.part ≡ false → is_subsystem y.part ≡ false →
    flat_place blocks i ≡ flat_place blocks j → i ≡ j
one_origin blocks i j x y at there kept other same = one_place (λ b. not (is_subsystem b.part)) blocks i j x y at there (ap not kept) (ap not other) same

-- ---- of a flat diagram

pub origins_are : OriginsAre
origins_are nested diagram flat_is j flat at = comes_from nested.blocks j flat (ap (λ (blocks : List Block). slice_get blocks j) (sym flat_is.blocks) ∙ at)

pub origins_differ : OriginsDiffer
origins_differ nested = one_origin nested.blocks
