-- The first such block of a System, and how many there are, as one more block comes.
use Rattle.std.proofs.Common.{◌≡◌, ℕ, zero, suc, ◌<◌, ◌≤◌, ◌+◌, Bool, true, false, cond, ◌&&◌, List, [], ◌∷◌, ◌++◌, length, take, set, get_or, Option, Some, None, add-zero, zero-add, refl, sym, ap}
use Rattle.std.proofs.Common.{◌∙◌, inl, inr, arith}
use Rattle.std.specs.Prelude.{count_by}
use Rattle.std.specs.List.{position, position_from}
use Rattle.std.proofs.lemmas.Bool.{cases_Bool, eq-eqb, eqb-true, false≢true}
use Rattle.std.proofs.lemmas.Iterator.Adapters.{position_from-zero}
use Rattle.std.proofs.lemmas.List.{take_more, length-take}
use Rattle.std.proofs.lemmas.List.Sums.{sum_by-append, count_by-le-length}
use Rattle.std.proofs.lemmas.Option.{slice_get-get_or}
use Rattle.dg_model.specs.declared.nested.NestedBlock.{NestedBlock}
use Rattle.dg_model.specs.declared.nested.Part.{Part}
use Rattle.dg_model.specs.declared.nested.Part.TheVariants.{Enable}
use Rattle.dg_flat.specs.Parts.{same_system, first_in, count_in, is_enable_port}
use Rattle.dg_flat.specs.inner.Slots.{slot_of, system_of, first_of, HaveParents}
use Rattle.dg_flat.specs.inner.Tables.{IsTable}
use Rattle.dg_flat.proofs.Tables.{table_same, table_set}
use Rattle.math_list.proofs.Tests.{and_false}

-- ---- positions and counts

from_push : {X : Type 0} (p : X → Bool) (i : ℕ) (xs : List X) (y : X) → position_from p i (xs ++ y ∷ []) ≡ first_of (position_from p i xs) (cond (p y) (Some (i + length xs)) None)
from_push p i [] y = go (p y) where
  go : (b : Bool) → cond b (Some i) None ≡ cond b (Some (i + 0)) None
  go true = rw add-zero refl
  go false = refl
from_push {X} p i (x ∷ xs) y = go (p x) (from_push p (i + 1) xs y ∙ ap (λ (n : ℕ). first_of (position_from p (i + 1) xs) (cond (p y) (Some n) None)) next) where
  next : (i + 1) + length xs ≡ i + suc (length xs)
  next = omega arith

  go : (b : Bool) → position_from p (i + 1) (xs ++ y ∷ []) ≡ first_of (position_from p (i + 1) xs) (cond (p y) (Some (i + suc (length xs))) None) →
      cond b (Some i) (position_from p (i + 1) (xs ++ y ∷ [])) ≡ first_of (cond b (Some i) (position_from p (i + 1) xs)) (cond (p y) (Some (i + suc (length xs))) None)
  go true rest = refl
  go false rest = rest

pub position_push : {X : Type 0} (p : X → Bool) (xs : List X) (y : X) → position p (xs ++ y ∷ []) ≡ first_of (position p xs) (cond (p y) (Some (length xs)) None)
position_push p xs y =
    position_from-zero p (xs ++ y ∷ []) ∙ from_push p 0 xs y
    ∙ ap (λ (n : ℕ). first_of (position_from p 0 xs) (cond (p y) (Some n) None)) (zero-add (length xs))
    ∙ ap (λ (o : Option ℕ). first_of o (cond (p y) (Some (length xs)) None)) (sym (position_from-zero p xs))

pub count_push : {X : Type 0} (p : X → Bool) (xs : List X) (y : X) → count_by p (xs ++ y ∷ []) ≡ count_by p xs + cond (p y) 1 0
count_push p xs y = sum_by-append (λ x. cond (p x) 1 0) xs (y ∷ []) ∙ ap (λ (n : ℕ). count_by p xs + n) (zero-add (cond (p y) 1 0))

-- ---- Systems

pub same_self : (system : Option ℕ) → same_system system system ≡ true
same_self None = refl
same_self (Some system) = eq-eqb system system refl

pub slot_back : (system : Option ℕ) → system_of (slot_of system) ≡ system
slot_back None = refl
slot_back (Some system) = refl

pub same_system_eq : (system other : Option ℕ) → same_system system other ≡ true → system ≡ other
same_system_eq None None is = refl
same_system_eq (Some system) (Some other) is = ap (λ (n : ℕ). Some n) (eqb-true system other is)
same_system_eq None (Some other) is = absurd (false≢true is)
same_system_eq (Some system) None is = absurd (false≢true is)

pub same_at : (system : Option ℕ) → same_system system (system_of (slot_of system)) ≡ true
same_at system = rw slot_back (same_self system)

slot_at : (k : ℕ) → slot_of (system_of k) ≡ k
slot_at zero = refl
slot_at (suc k) = refl

pub other_at : (system : Option ℕ) (k : ℕ) → (k ≡ slot_of system → ⊥) → same_system system (system_of k) ≡ false
other_at system k apart =
    elim (cases_Bool (same_system system (system_of k))) [
      | inl e ↦ absurd (apart (sym (ap slot_of (same_system_eq system (system_of k) e) ∙ slot_at k)))
      | inr e ↦ e
    ]

pub first_none : (o : Option ℕ) → first_of o None ≡ o
first_none None = refl
first_none (Some n) = refl

-- ---- one more block

pub take_block : (blocks : List NestedBlock) (place : ℕ) (block : NestedBlock) → place < length blocks → get_or blocks place block ≡ block → take (place + 1) blocks ≡ take place blocks ++ block ∷ []
take_block blocks place block inside at = take_more blocks place block inside ∙ ap (λ (b : NestedBlock). take place blocks ++ b ∷ []) at

pub slot_inside : (blocks : List NestedBlock) (place : ℕ) (block : NestedBlock) → HaveParents blocks
    → place < length blocks → get_or blocks place block ≡ block → slot_of block.parent < suc (length blocks)
slot_inside blocks place block have inside at = omega (arith, inside, have.before place block (slice_get-get_or blocks place block inside ∙ ap (λ (b : NestedBlock). Some b) at))

pub length_done : (blocks : List NestedBlock) (place : ℕ) → place < length blocks → length (take place blocks) ≡ place
length_done blocks place inside = rw length-take (omega arith)

pub count_few : (blocks : List NestedBlock) (system : Option ℕ) (is_such : Part → Bool) (place : ℕ) → place < length blocks → count_in (take place blocks) system is_such ≤ place
count_few blocks system is_such place inside = omega (arith, count_by-le-length (λ block. same_system block.parent system && is_such block.part) (take place blocks), length_done blocks place inside)

pub not_enable_port : (part : Part) → ((reset : Bool) → part ≡ Enable reset → ⊥) → is_enable_port part ≡ false
not_enable_port (Enable reset) not = absurd (not reset refl)
not_enable_port other not = refl

pub slot_within : (blocks : List NestedBlock) (place : ℕ) (block : NestedBlock) → HaveParents blocks → place < length blocks → get_or blocks place block ≡ block → slot_of block.parent ≤ place
slot_within blocks place block have inside at = have.before place block (slice_get-get_or blocks place block inside ∙ ap (λ (b : NestedBlock). Some b) at)

-- ---- tables of what is gathered of the blocks of each System

abbrev in_slot : (Part → Bool) → ℕ → NestedBlock → Bool
in_slot is_such slot block = same_system block.parent (system_of slot) && is_such block.part

-- a block that doesn't pass the test changes nothing
abbrev Skips : {X : Type 0} → ((NestedBlock → Bool) → List NestedBlock → X) → Type 0
Skips gather = (test : NestedBlock → Bool) (done : List NestedBlock) (block : NestedBlock) → test block ≡ false → gather test done ≡ gather test (done ++ block ∷ [])

gathered_same : {X : Type 0} (gather : (NestedBlock → Bool) → List NestedBlock → X) → Skips gather
    → (blocks : List NestedBlock) (i : ℕ) (block : NestedBlock) (is_such : Part → Bool) (table : List X) →
    i < length blocks → block ≡ get_or blocks i block → is_such block.part ≡ false →
    IsTable (suc (length blocks)) (λ slot. gather (in_slot is_such slot) (take i blocks)) table → IsTable (suc (length blocks)) (λ slot. gather (in_slot is_such slot) (take (i + 1) blocks)) table
gathered_same gather skips blocks i block is_such table inside at not_such is =
    rw (take_block blocks i block inside (sym at))
    (table_same (suc (length blocks)) (λ slot. gather (in_slot is_such slot) (take i blocks)) (λ slot. gather (in_slot is_such slot) (take i blocks ++ block ∷ [])) table
    (λ k below. skips (in_slot is_such k) (take i blocks) block (ap (λ (such : Bool). same_system block.parent (system_of k) && such) not_such ∙ and_false (same_system block.parent (system_of k))))
    is)

gathered_more : {X : Type 0} (gather : (NestedBlock → Bool) → List NestedBlock → X) → Skips gather
    → (blocks : List NestedBlock) (i : ℕ) (block : NestedBlock) (is_such : Part → Bool) (slot : ℕ) (table : List X)
    (new : X) →
    HaveParents blocks → i < length blocks → block ≡ get_or blocks i block → slot ≡ slot_of block.parent → is_such block.part ≡ true →
    ((test : NestedBlock → Bool) → test block ≡ true → ((d : X) → get_or table slot d ≡ gather test (take i blocks)) → new ≡ gather test (take i blocks ++ block ∷ [])) →
    IsTable (suc (length blocks)) (λ slot. gather (in_slot is_such slot) (take i blocks)) table
    → IsTable (suc (length blocks)) (λ slot. gather (in_slot is_such slot) (take (i + 1) blocks))
    (set table slot new)
gathered_more gather skips blocks i block is_such slot table new have inside at slot_is such here is =
    let own : slot < suc (length blocks) = omega (arith, slot_inside blocks i block have inside (sym at), slot_is) in
    let test = in_slot is_such slot in
    let known : test block ≡ true = ap (λ (k : ℕ). same_system block.parent (system_of k) && is_such block.part)
    slot_is ∙ ap (λ (same : Bool). same && is_such block.part) (same_at block.parent) ∙ such in
    rw (take_block blocks i block inside (sym at))
    (table_set (suc (length blocks)) (λ slot. gather (in_slot is_such slot) (take i blocks)) (λ slot. gather (in_slot is_such slot) (take i blocks ++ block ∷ [])) table slot new own
    (here test known (λ d. is.at slot d own))
    (λ k below apart. skips (in_slot is_such k) (take i blocks) block (ap (λ (same : Bool). same && is_such block.part) (other_at block.parent k (λ same. apart (same ∙ sym slot_is)))))
    is)

position_skips : Skips position
position_skips test done block fails = sym (position_push test done block ∙ ap (λ (b : Bool). first_of (position test done) (cond b (Some (length done)) None)) fails ∙ first_none (position test done))

count_skips : Skips count_by
count_skips test done block fails = sym (count_push test done block ∙ ap (λ (b : Bool). count_by test done + cond b 1 0) fails ∙ add-zero (count_by test done))

pub noted_same : (blocks : List NestedBlock) (i : ℕ) (block : NestedBlock) (is_such : Part → Bool)
    (table : List (Option ℕ)) → i < length blocks → block ≡ get_or blocks i block → is_such block.part ≡ false →
    IsTable (suc (length blocks)) (λ slot. first_in (take i blocks) (system_of slot) is_such) table
    → IsTable (suc (length blocks)) (λ slot. first_in (take (i + 1) blocks) (system_of slot) is_such) table
noted_same = gathered_same position position_skips

pub noted_more : (blocks : List NestedBlock) (i : ℕ) (block : NestedBlock) (is_such : Part → Bool) (slot : ℕ) (table : List (Option ℕ)) →
    HaveParents blocks → i < length blocks → block ≡ get_or blocks i block → slot ≡ slot_of block.parent → is_such block.part ≡ true →
    IsTable (suc (length blocks)) (λ slot. first_in (take i blocks) (system_of slot) is_such) table →
    IsTable (suc (length blocks)) (λ slot. first_in (take (i + 1) blocks) (system_of slot) is_such) (set table slot (first_of (get_or table slot None) (Some i)))
noted_more blocks i block is_such slot table have inside at slot_is such is =
    gathered_more position position_skips blocks i block is_such slot table (first_of (get_or table slot None) (Some i)) have inside at slot_is such
    (λ test passes known.
    let done = take i blocks in
    ap (λ (o : Option ℕ). first_of o (Some i)) (known None)
    ∙ sym (position_push test done block ∙ ap
    (λ (b : Bool). first_of (position test done) (cond b (Some (length done)) None)) passes
    ∙ ap (λ (n : ℕ). first_of (position test done) (Some n)) (length_done blocks i inside)))
    is

pub counted_same : (blocks : List NestedBlock) (i : ℕ) (block : NestedBlock) (is_such : Part → Bool) (table : List ℕ) → i < length blocks → block ≡ get_or blocks i block → is_such block.part ≡ false →
    IsTable (suc (length blocks)) (λ slot. count_in (take i blocks) (system_of slot) is_such) table
    → IsTable (suc (length blocks)) (λ slot. count_in (take (i + 1) blocks) (system_of slot) is_such) table
counted_same = gathered_same count_by count_skips

pub counted_more : (blocks : List NestedBlock) (i : ℕ) (block : NestedBlock) (is_such : Part → Bool) (slot old : ℕ) (table : List ℕ) →
    HaveParents blocks → i < length blocks → block ≡ get_or blocks i block → slot ≡ slot_of block.parent → old ≡ get_or table slot old → is_such block.part ≡ true →
    IsTable (suc (length blocks)) (λ slot. count_in (take i blocks) (system_of slot) is_such) table
    → IsTable (suc (length blocks)) (λ slot. count_in (take (i + 1) blocks) (system_of slot) is_such)
    (set table slot (old + 1))
counted_more blocks i block is_such slot old table have inside at slot_is old_is such is =
    gathered_more count_by count_skips blocks i block is_such slot table (old + 1) have inside at slot_is such
    (λ test passes known. ap (λ (n : ℕ). n + 1) (old_is ∙ known old) ∙ sym (count_push test (take i blocks) block ∙ ap (λ (b : Bool). count_by test (take i blocks) + cond b 1 0) passes))
    is
