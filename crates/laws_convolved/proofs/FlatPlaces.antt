-- Places of blocks in a flat list, and of what lists are mapped to.
use Rattle.std.proofs.Common.{◌≡◌, ℕ, zero, suc, ◌+◌, Bool, true, false, not, cond}
use Rattle.std.proofs.Common.{List, [], ◌∷◌, take, count_by, filter_map, Option, Some, None}
use Rattle.std.proofs.Common.{slice_get, refl, sym, ◌∙◌, ap, arith}
use Rattle.std.specs.Prelude.{Contains}
use Rattle.std.specs.List.{enumerate_from, cons_option}
use Rattle.std.proofs.lemmas.Option.{none-some, same_Some, slice_get_within, slice_get-get_or, get_or_from_slice_get}
use Rattle.math_list.proofs.Places.{count_cons}
use Rattle.dg_model.specs.declared.diagram.Block.{Block}
use Rattle.dg_model.specs.declared.nested.NestedBlock.{NestedBlock}
use Rattle.dg_flat.specs.Flat.{flat_place}
use Rattle.dg_flat.specs.Parts.{is_subsystem}

-- ---- lists

option_kept : {Y : Type 0} (o : Option Y) (rest : List Y) (k : ℕ) (y : Y) → slice_get rest k ≡ Some y
    → (j : ℕ) × (slice_get (cons_option o rest) j ≡ Some y)
option_kept None rest k y at = (k, at)
option_kept (Some x) rest k y at = (suc k, at)

-- what an item is mapped to is in the list
pub mapped_among : {X Y : Type 0} (f : X → Option Y) (xs : List X) (k : ℕ) (x : X) (y : Y) → slice_get xs k ≡ Some x
    → f x ≡ Some y → (j : ℕ) × (slice_get (filter_map f xs) j ≡ Some y)
mapped_among f [] k x y at is = absurd (none-some x at)
mapped_among f (first ∷ xs) zero x y at is =
    let own : f first ≡ Some y = ap f (same_Some first x at) ∙ is in
    (0, ap (λ o. slice_get (cons_option o (filter_map f xs)) 0) own)
mapped_among f (first ∷ xs) (suc k) x y at is =
    let h = mapped_among f xs k x y at is in option_kept (f first) (filter_map f xs) h.0 y h.1

pub among_contains : {X : Type 0} (xs : List X) (k : ℕ) (x : X) → slice_get xs k ≡ Some x → Contains xs x
among_contains xs k x at = (k, slice_get_within xs k x at, get_or_from_slice_get xs k x x at)

pub contains_among : {X : Type 0} (xs : List X) (x : X) → Contains xs x → (k : ℕ) × (slice_get xs k ≡ Some x)
contains_among xs x is = (is.0, slice_get-get_or xs is.0 x is.1 ∙ ap Some is.2)

-- ---- flat places

abbrev pub kept : NestedBlock → Bool
kept block = not (is_subsystem block.part)

-- behind a first block
by_first : (f : ℕ × NestedBlock → Option Block)
    → ((p : ℕ) (x : NestedBlock) → is_subsystem x.part ≡ true → f (p, x) ≡ None)
    → ((p : ℕ) (x : NestedBlock) → is_subsystem x.part ≡ false → (b : Block) × (f (p, x) ≡ Some b))
    → (from : ℕ) (first : NestedBlock) (xs : List NestedBlock) (counted : ℕ) (b : Block)
    → slice_get (filter_map f (enumerate_from (from + 1) xs)) counted ≡ Some b → (is : Bool)
    → is_subsystem first.part ≡ is
    → (all : ℕ) → all ≡ cond (kept first) 1 0 + counted
    → slice_get (filter_map f (enumerate_from from (first ∷ xs))) all ≡ Some b
by_first f none some from first xs counted b more true is all count =
    let out : ◌≡◌ {A = ℕ} (cond (kept first) 1 0) 0 = ap (λ (t : Bool). cond (not t) 1 0) is in
    let same : all ≡ counted = omega (arith, count, out) in
    ap (λ (o : Option Block). slice_get (cons_option o (filter_map f (enumerate_from (from + 1) xs))) all)
    (none from first is) ∙ ap (slice_get (filter_map f (enumerate_from (from + 1) xs))) same ∙ more
by_first f none some from first xs counted b more false is all count =
    let out : ◌≡◌ {A = ℕ} (cond (kept first) 1 0) 1 = ap (λ (t : Bool). cond (not t) 1 0) is in
    let same : all ≡ suc counted = omega (arith, count, out) in
    let own = some from first is in
    ap (λ (o : Option Block). slice_get (cons_option o (filter_map f (enumerate_from (from + 1) xs))) all) own.1
    ∙ ap (slice_get (own.0 ∷ filter_map f (enumerate_from (from + 1) xs))) same ∙ more

-- the block at a place has that of those before that are no subsystems
pub kept_at : (f : ℕ × NestedBlock → Option Block)
    → ((p : ℕ) (x : NestedBlock) → is_subsystem x.part ≡ true → f (p, x) ≡ None)
    → ((p : ℕ) (x : NestedBlock) → is_subsystem x.part ≡ false → (b : Block) × (f (p, x) ≡ Some b))
    → (from : ℕ) (xs : List NestedBlock) (k : ℕ) (x : NestedBlock) (b : Block) → slice_get xs k ≡ Some x
    → f (from + k, x) ≡ Some b → slice_get (filter_map f (enumerate_from from xs)) (count_by kept (take k xs))
    ≡ Some b
kept_at f none some from [] k x b at is = absurd (none-some x at)
kept_at f none some from (first ∷ xs) zero x b at is =
    let same : from + 0 ≡ from = omega arith in
    let own : f (from, first) ≡ Some b = ap (λ (y : NestedBlock). f (from, y)) (same_Some first x at)
    ∙ sym (ap (λ (p : ℕ). f (p, x)) same) ∙ is in
    ap (λ (o : Option Block). slice_get (cons_option o (filter_map f (enumerate_from (from + 1) xs))) 0) own
kept_at f none some from (first ∷ xs) (suc k) x b at is =
    let same : from + suc k ≡ from + 1 + k = omega arith in
    let more = kept_at f none some (from + 1) xs k x b at (sym (ap (λ (p : ℕ). f (p, x)) same) ∙ is) in
    by_first f none some from first xs (count_by kept (take k xs)) b more (is_subsystem first.part) refl
    (count_by kept (first ∷ take k xs)) (count_cons kept first (take k xs))

-- a block that is no subsystem takes a place
pub next_place : (xs : List NestedBlock) (k : ℕ) (x : NestedBlock) → slice_get xs k ≡ Some x → is_subsystem x.part ≡ false
    → flat_place xs (suc k) ≡ suc (flat_place xs k)
next_place [] k x at is = absurd (none-some x at)
next_place (first ∷ xs) zero x at is =
    let own : is_subsystem first.part ≡ false =
    ap (λ (y : NestedBlock). is_subsystem y.part) (same_Some first x at) ∙ is in
    let one : ◌≡◌ {A = ℕ} (cond (kept first) 1 0) 1 = ap (λ (t : Bool). cond (not t) 1 0) own in
    let count = count_cons kept first [] in
    let none : count_by kept [] ≡ 0 = refl in
    let base : flat_place (first ∷ xs) 0 ≡ 0 = refl in
    let whole : flat_place (first ∷ xs) 1 ≡ count_by kept (first ∷ []) = refl in
    omega (arith, one, count, none, base, whole)
next_place (first ∷ xs) (suc k) x at is =
    let more = next_place xs k x at is in
    let here = count_cons kept first (take k xs) in
    let there = count_cons kept first (take (suc k) xs) in
    omega (arith, more, here, there)
