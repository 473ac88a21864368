-- Where what an item holds ends, found by leaps, and what is passed over on the way.
use Rattle.std.proofs.Common.{◌≡◌, ℕ, suc, ◌+◌, ◌<◌, ◌≤◌, Bool, true, false, cond, List, [], ◌∷◌, length, get_or, drop, Option, None, sym, ◌∙◌, ap, refl, arith, one-add, length-drop, drop-cons}
use Rattle.std.specs.Prelude.{nat_lt, ◌==◌}
use Rattle.std.specs.List.{prefix_len}
use Rattle.std.proofs.lemmas.Bool.{ltb-true, lt-ltb}
use Rattle.std.proofs.lemmas.Bool.Decides.{nat_tests}
use Rattle.std.proofs.lemmas.List.{drop-drop, get_or_default}
use Rattle.std.proofs.lemmas.List.FromFn.{get_or-map-range_with_len, length-map-range_with_len}
use Rattle.std.proofs.lemmas.List.Sums.{prefix_len-le-length}
use Rattle.mdl_text.specs.declared.tree.Item.{Item}
use Rattle.mdl_build.specs.Sections.{item_at, depth_at, first_of, said_at, value_within}
use Rattle.mdl_build.specs.inner.Layout.{end_behind, end_of, ends_of}
use Rattle.std.proofs.lemmas.Grind.{same_number_lists}

-- what passes a test that asks less goes on at least as far
pub prefix_over : {X : Type 0} (P Q : X → Bool) (xs : List X) → ((x : X) → Q x ≡ true → P x ≡ true) → prefix_len P xs ≡ prefix_len Q xs + prefix_len P (drop (prefix_len Q xs) xs)
prefix_over P Q [] both = refl
prefix_over P Q (x ∷ xs) both = by_test (prefix_over P Q xs both) (Q x) refl
  where
    by_test : prefix_len P xs ≡ prefix_len Q xs + prefix_len P (drop (prefix_len Q xs) xs) → (b : Bool) → Q x ≡ b
        → prefix_len P (x ∷ xs) ≡ prefix_len Q (x ∷ xs) + prefix_len P (drop (prefix_len Q (x ∷ xs)) (x ∷ xs))
    by_test more true e =
        let p : P x ≡ true = both x e in
        let inner : drop (1 + prefix_len Q xs) (x ∷ xs) ≡ drop (prefix_len Q xs) xs = rw one-add refl in
        rw (e, p, inner) (omega (arith, more))
    by_test more false e = rw e (omega arith)

deeper : (items : List Item) (depth place : ℕ) → Item → Bool
deeper items depth place item = nat_lt depth item.depth

-- an item that is deeper, and all that it holds, can be passed over
pub end_over : (items : List Item) (depth place : ℕ) → place < length items → depth < depth_at items place → end_behind items depth place ≡ end_behind items depth (end_of items place)
end_over items depth place within below =
    let here : drop place items ≡ item_at items place ∷ drop (suc place) items = drop-cons items place _ within in
    let yes : nat_lt depth (depth_at items place) ≡ true = lt-ltb _ _ below in
    let first : prefix_len (λ item. nat_lt depth item.depth) (item_at items place ∷ drop (suc place) items) ≡ 1 + prefix_len (λ item. nat_lt depth item.depth) (drop (suc place) items)
    = ap (λ (b : Bool). cond b (1 + prefix_len (λ item. nat_lt depth item.depth) (drop (suc place) items)) 0) yes in
    let over = prefix_over (λ (item : Item). nat_lt depth item.depth) (λ (item : Item). nat_lt (depth_at items place) item.depth) (drop (suc place) items)
    (λ item e. lt-ltb _ _ (omega (arith, below, ltb-true (depth_at items place) item.depth e))) in
    let behind = ap (prefix_len (λ (item : Item). nat_lt depth item.depth))
    (drop-drop (prefix_len (λ (item : Item). nat_lt (depth_at items place) item.depth) (drop (suc place) items))
    (suc place) items) in
    let counted = ap (prefix_len (λ (item : Item). nat_lt depth item.depth)) here ∙ first in
    omega (arith, counted, over, behind)

-- the end stands behind the item, and not past all of them
pub end_within : (items : List Item) (place : ℕ) → place < length items → end_of items place ≤ length items
end_within items place within =
    let short = prefix_len-le-length (λ (item : Item). nat_lt (depth_at items place) item.depth) (drop (suc place) items) in
    omega (arith, short, length-drop (suc place) items)

pub end_behind_item : (items : List Item) (place : ℕ) → place < end_of items place
end_behind_item items place = omega arith

-- what is written of the ends
pub end_known : (items : List Item) (ends : List ℕ) (place other : ℕ) → ends ≡ ends_of items → place < length items → get_or ends place other ≡ end_of items place
end_known items ends place other is within = rw is (get_or-map-range_with_len (end_of items) 0 (length items) place place other within (omega arith))

pub ends_length : (items : List Item) (ends : List ℕ) → ends ≡ ends_of items → length ends ≡ length items
ends_length items ends is = rw is (length-map-range_with_len (end_of items) 0 (length items))

-- the ends, where each is known
pub ends_are : (items : List Item) (ends : List ℕ) → length ends ≡ length items → ((k : ℕ) → k < length items → get_or ends k 0 ≡ end_of items k) → ends ≡ ends_of items
ends_are items ends long each =
    same_number_lists ends (ends_of items) (long ∙ sym (length-map-range_with_len (end_of items) 0 (length items)))
    (λ k below.
    let within : k < length items = omega (arith, long, below) in
    each k within ∙ sym (get_or-map-range_with_len (end_of items) 0 (length items) k k 0 within (omega arith)))

-- ---- the value of a parameter

-- what is deeper than a depth below a section doesn't stand directly in it
pub value_over : (above depth : ℕ) (name : List ℕ) (items : List Item) → above < depth
    → value_within above name items
    ≡ value_within above name (drop (prefix_len (λ item. nat_lt depth item.depth) items) items)
value_over above depth name [] h = refl
value_over above depth name (item ∷ items) h = by_test (value_over above depth name items h) (nat_lt depth item.depth) refl
  where
    by_test : value_within above name items
        ≡ value_within above name (drop (prefix_len (λ item. nat_lt depth item.depth) items) items) → (b : Bool)
        → nat_lt depth item.depth ≡ b → value_within above name (item ∷ items)
        ≡ value_within above name
        (drop (prefix_len (λ item. nat_lt depth item.depth) (item ∷ items)) (item ∷ items))
    by_test more true e =
        let below : depth < item.depth = ltb-true depth item.depth e in
        let yes : nat_lt above item.depth ≡ true = lt-ltb _ _ (omega arith) in
        let other : (item.depth == suc above) ≡ false = grind (arith, nat_tests) in
        let inner : drop (1 + prefix_len (λ (item : Item). nat_lt depth item.depth) items) (item ∷ items)
        ≡ drop (prefix_len (λ (item : Item). nat_lt depth item.depth) items) items = rw one-add refl in
        rw (e, yes, other, inner) more
    by_test more false e = rw e refl

-- an item below a section that says something, and one that doesn't
value_first : (items : List Item) (above place : ℕ) (name : List ℕ) → place < length items
    → above < depth_at items place → value_within above name (drop place items)
    ≡ first_of (said_at (suc above) name (item_at items place))
    (value_within above name (drop (suc place) items))
value_first items above place name within below =
    let here : drop place items ≡ item_at items place ∷ drop (suc place) items = drop-cons items place _ within in
    let yes : nat_lt above (depth_at items place) ≡ true = lt-ltb _ _ below in
    ap (value_within above name) here ∙ ap (λ (b : Bool). cond b (first_of (said_at (suc above) name (item_at items place)) (value_within above name (drop (suc place) items))) None) yes

pub value_behind : (items : List Item) (above place : ℕ) (name : List ℕ) (said : Option (List ℕ))
    → place < length items → above < depth_at items place → said ≡ said_at (suc above) name (item_at items place)
    → said ≡ None → value_within above name (drop place items)
    ≡ value_within above name (drop (end_of items place) items)
value_behind items above place name said within below is none =
    value_first items above place name within below
    ∙ ap (λ (s : Option (List ℕ)). first_of s (value_within above name (drop (suc place) items))) (sym is ∙ none)
    ∙ value_over above (depth_at items place) name (drop (suc place) items) below
    ∙ ap (value_within above name) (drop-drop (prefix_len (λ (item : Item). nat_lt (depth_at items place) item.depth) (drop (suc place) items)) (suc place) items)

-- ---- what the code reads

-- the depth that is read at a place, whatever stands past the end
pub depth_is : (items : List Item) (place : ℕ) (other : Item) → place < length items → depth_at items place ≡ (get_or items place other).depth
depth_is items place other within = ap (λ (i : Item). i.depth) (get_or_default items place _ other within)

-- a leap to the end of an item that is deeper
pub end_leap : (items : List Item) (depth from end to place : ℕ) (other : Item) → from < end → end < length items
    → depth < (get_or items end other).depth → to ≡ end_of items end
    → end_behind items depth end ≡ end_behind items depth place
    → (from < to) × (to ≤ length items) × (end_behind items depth to ≡ end_behind items depth place)
end_leap items depth from end to place other after within below there same =
    let deep : depth < depth_at items end = omega (arith, depth_is items end other within) in
    let over = end_over items depth end within deep in
    let inside = end_within items end within in
    let behind = end_behind_item items end in
    (omega arith, omega arith, ap (end_behind items depth) there ∙ sym over ∙ same)

-- a leap over an item that says nothing
pub value_leap : (items : List Item) (above from to : ℕ) (name : List ℕ) (one other : Item)
    (value : Option (List ℕ)) → from < length items → above < (get_or items from one).depth
    → None ≡ said_at (suc above) name (get_or items from other) → to ≡ end_of items from
    → value ≡ value_within above name (drop from items)
    → (from < to) × (to ≤ length items) × (value ≡ value_within above name (drop to items))
value_leap items above from to name one other value within below none there same =
    let deep : above < depth_at items from = omega (arith, depth_is items from one within) in
    let here : said_at (suc above) name (get_or items from other) ≡ said_at (suc above) name (item_at items from) = ap (said_at (suc above) name) (get_or_default items from other _ within) in
    let inside = end_within items from within in
    let behind = end_behind_item items from in
    (omega arith, omega arith, same ∙ value_behind items above from name None within deep (none ∙ here) refl ∙ ap (λ (k : ℕ). value_within above name (drop k items)) (sym there))
