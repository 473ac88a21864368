-- The list of root elements has each element of each root port of a wired diagram at one place, and no other.
use Rattle.std.proofs.Common.{◌≡◌, ℕ, zero, suc, ◌+◌, ◌<◌, ◌≤◌, Bool, true, false, true≢false, List, [], ◌∷◌, ◌++◌, length, map, cond, Some, None, Option, eqb, ltb, get_or, refl, sym, ap, subst, ◌∙◌}
use Rattle.std.proofs.Common.{◌⊎◌, inl, inr, arith}
use Rattle.std.specs.Prelude.{⊤, find, slice_get, AllPairs, filter_map, ◌==◌, ◌&&◌, ◌≢◌}
use Rattle.std.specs.List.{flat_map, position, position_or_len, cons_option}
use Rattle.std.proofs.lemmas.Bool.{cases_eq, cases_Bool, eqb-true, eq-eqb, cond-true, lt-ltb}
use Rattle.std.proofs.lemmas.Option.{none-some, same_Some, slice_get_within, get_or_from_slice_get, slice_get-get_or}
use Rattle.std.proofs.lemmas.List.Sums.{position_or_len_is}
use Rattle.std.proofs.lemmas.List.Folds.{find_at}
use Rattle.std.proofs.lemmas.List.Quantifiers.{position-Some}
use Rattle.dg_model.specs.declared.diagram.Diagram.{Diagram}
use Rattle.dg_model.specs.declared.diagram.Block.{Block}
use Rattle.dg_model.specs.declared.row.Role.{Role}
use Rattle.dg_model.specs.Signals.{Attributes}
use Rattle.math_list.specs.Numbers.{numbers_from}
use Rattle.dg_model.specs.Wired.{AreNumbered}
use Rattle.dg_model.specs.Laws.{IsElementOfPort, AreRootElements}
use Rattle.dg_model.specs.RootElements.{RootElement, root_element, number_in, is_number, has_number, elements_of_port, root_elements}

-- ---- what stands in a list

abbrev pub IsIn : {A : Type 0} → A → List A → Type 0
IsIn x xs = (k : ℕ) × (slice_get xs k ≡ Some x)

pub in_later : {A : Type 0} (x y : A) (xs : List A) → IsIn x xs → IsIn x (y ∷ xs)
in_later x y xs is = (suc is.0, is.1)

in_right : {A : Type 0} (x : A) (xs ys : List A) → IsIn x ys → IsIn x (xs ++ ys)
in_right x [] ys is = is
in_right x (y ∷ xs) ys is = in_later x y (xs ++ ys) (in_right x xs ys is)

in_left : {A : Type 0} (x : A) (xs ys : List A) (k : ℕ) → slice_get xs k ≡ Some x → IsIn x (xs ++ ys)
in_left x [] ys k is = absurd (none-some x is)
in_left x (y ∷ xs) ys zero is = (0, is)
in_left x (y ∷ xs) ys (suc k) is = in_later x y (xs ++ ys) (in_left x xs ys k is)

in_map : {A B : Type 0} (f : A → B) (x : A) (xs : List A) (k : ℕ) → slice_get xs k ≡ Some x → IsIn (f x) (map f xs)
in_map f x [] k is = absurd (none-some x is)
in_map f x (y ∷ xs) zero is = (0, ap (λ o. Some o) (ap f (same_Some y x is)))
in_map f x (y ∷ xs) (suc k) is = in_later (f x) (f y) (map f xs) (in_map f x xs k is)

in_flat_map : {A B : Type 0} (f : A → List B) (x : A) (y : B) (xs : List A) (k : ℕ) → slice_get xs k ≡ Some x → IsIn y (f x) → IsIn y (flat_map f xs)
in_flat_map f x y [] k is in_part = absurd (none-some x is)
in_flat_map f x y (z ∷ xs) zero is in_part =
    let here : IsIn y (f z) = subst (λ part. IsIn y (f part)) (sym (same_Some z x is)) in_part in in_left y (f z) (flat_map f xs) (here.0) (here.1)
in_flat_map f x y (z ∷ xs) (suc k) is in_part = in_right y (f z) (flat_map f xs) (in_flat_map f x y xs k is in_part)

in_numbers : (from n k : ℕ) → from ≤ k → k < from + n → IsIn k (numbers_from from n)
in_numbers from zero k low high = absurd (omega (arith, low, high))
in_numbers from (suc n) k low high = elim (cases_eq k from) [
  | inl same ↦ (0, ap (λ o. Some o) (sym same))
  | inr other ↦ in_later k from (numbers_from (suc from) n) (in_numbers (suc from) n k (omega (arith, low, other)) (omega (arith, high)))
]

pub in_filter_map : {A B : Type 0} (h : A → Option B) (x : A) (y : B) (xs : List A) (k : ℕ) → slice_get xs k ≡ Some x → h x ≡ Some y → IsIn y (filter_map h xs)
in_filter_map h x y [] k is gives = absurd (none-some x is)
in_filter_map h x y (z ∷ xs) zero is gives =
    subst (λ o. IsIn y (cons_option o (filter_map h xs))) (sym (ap h (same_Some z x is) ∙ gives)) (0, refl)
in_filter_map {A} {B} h x y (z ∷ xs) (suc k) is gives = go (h z) (in_filter_map h x y xs k is gives) where
  go : (o : Option B) → IsIn y (filter_map h xs) → IsIn y (cons_option o (filter_map h xs))
  go None later = later
  go (Some other) later = in_later y other (filter_map h xs) later

-- ---- one block has a number

-- two with one number can't stand at two places
pub apart : {A : Type 0} (h : A → Option ℕ) (xs : List A)
    → AllPairs (λ (number other : ℕ). number ≢ other) (filter_map h xs) → (i j : ℕ) (x y : A) (n : ℕ) → i < j
    → slice_get xs i ≡ Some x → slice_get xs j ≡ Some y →
    h x ≡ Some n → h y ≡ Some n → ⊥
apart h [] pairs i j x y n before at_i at_j gives_x gives_y = none-some x at_i
apart h (z ∷ xs) pairs i zero x y n before at_i at_j gives_x gives_y = absurd (omega (arith, before))
apart h (z ∷ xs) pairs zero (suc j) x y n before at_i at_j gives_x gives_y =
    let here : h z ≡ Some n = ap h (same_Some z x at_i) ∙ gives_x in
    let pairs_here : AllPairs (λ (number other : ℕ). number ≢ other) (n ∷ filter_map h xs) =
    subst (λ o. AllPairs (λ (number other : ℕ). number ≢ other) (cons_option o (filter_map h xs))) here pairs in
    let later = in_filter_map h y n xs j at_j gives_y in
    pairs_here 0 (suc later.0) n (omega arith) (omega (arith, slice_get_within (filter_map h xs) (later.0) n (later.1))) (sym (get_or_from_slice_get (filter_map h xs) (later.0) n n (later.1)))
apart {A} h (z ∷ xs) pairs (suc i) (suc j) x y n before at_i at_j gives_x gives_y = apart h xs (go (h z) pairs) i j x y n (omega (arith, before)) at_i at_j gives_x gives_y where
  go : (o : Option ℕ) → AllPairs (λ (number other : ℕ). number ≢ other) (cons_option o (filter_map h xs)) → AllPairs (λ (number other : ℕ). number ≢ other) (filter_map h xs)
  go None all = all
  go (Some other) all = λ k l d less inside. all (suc k) (suc l) d (omega (arith, less)) (omega (arith, inside))

pub is_number_true : (number : ℕ) (o : Option ℕ) → is_number number o ≡ true → o ≡ Some number
is_number_true number None is = absurd (cc)
is_number_true number (Some own) is = ap (λ n. Some n) (eqb-true own number is)

pub number_is : (number : ℕ) (o : Option ℕ) → o ≡ Some number → is_number number o ≡ true
number_is number o is = subst (λ o. is_number number o ≡ true) (sym is) (eq-eqb number number refl)

-- the first block of a number is the only one
pub first_is : (number_of : Role → Option ℕ) (blocks : List Block) → AllPairs (λ (number other : ℕ). number ≢ other) (filter_map (number_in number_of) blocks) → (block : ℕ) (b : Block) (number : ℕ) →
    slice_get blocks block ≡ Some b → number_in number_of b ≡ Some number → position (has_number number_of number) blocks ≡ Some block
first_is number_of blocks pairs block b number at is =
    let inside : block < length blocks = slice_get_within blocks block b at in
    let place : position_or_len (has_number number_of number) blocks ≡ block =
    position_or_len_is (has_number number_of number) blocks block b (omega (arith, inside))
    (λ k before. elim (cases_Bool (has_number number_of number (get_or blocks k b))) [
      | inl is_same ↦ absurd (apart (number_in number_of) blocks pairs k block (get_or blocks k b) b number before
          (slice_get-get_or blocks k b (omega (arith, before, inside))) at
          (is_number_true number (number_in number_of (get_or blocks k b)) is_same) is)
      | inr other ↦ other
    ])
    (λ within. subst (λ (o : Block). has_number number_of number o ≡ true) (sym (get_or_from_slice_get blocks block b b at)) (number_is number (number_in number_of b) is)) in
    rw place (cond-true (ltb block (length blocks)) (Some block) None (lt-ltb block (length blocks) inside))

-- ---- the list has each element of each port

number_within : (numbers : List ℕ) (number : ℕ) → AreNumbered numbers → IsIn number numbers → (1 ≤ number) × (number ≤ length numbers)
number_within numbers number are is =
    subst (λ (n : ℕ). (1 ≤ n) × (n ≤ length numbers)) (get_or_from_slice_get numbers (is.0) number number (is.1)) (are.within (is.0) number (slice_get_within numbers (is.0) number (is.1)))

pub element_is_there : (number_of : Role → Option ℕ) (width_of : ℕ → ℕ) (diagram : Diagram) (attributes : Attributes) → AreNumbered (filter_map (number_in number_of) diagram.blocks) →
    (block : ℕ) (b : Block) (number element : ℕ) → slice_get diagram.blocks block ≡ Some b → number_in number_of b ≡ Some number → element < width_of block →
    IsIn (root_element attributes number block element) (root_elements number_of width_of diagram attributes)
element_is_there number_of width_of diagram attributes are block b number element at is inside =
    let numbers = filter_map (number_in number_of) diagram.blocks in
    let within = number_within numbers number are (in_filter_map (number_in number_of) b number diagram.blocks block at is) in
    let counted = in_numbers 1 (length numbers) number (within.0) (omega (arith, within.1)) in
    let listed = in_numbers 0 (width_of block) element (omega arith) (omega (arith, inside)) in
    in_flat_map (λ number. elements_of_port attributes width_of number
    (position (has_number number_of number) diagram.blocks)) number
    (root_element attributes number block element) (numbers_from 1 (length numbers)) (counted.0) (counted.1)
    (rw (first_is number_of diagram.blocks are.distinct block b number at is) (in_map (root_element attributes number block) element (numbers_from 0 (width_of block)) (listed.0) (listed.1)))

-- ---- and no other

from_append : {A : Type 0} (x : A) (xs ys : List A) (k : ℕ) → slice_get (xs ++ ys) k ≡ Some x → IsIn x xs ⊎ IsIn x ys
from_append x [] ys k is = inr (k, is)
from_append x (y ∷ xs) ys zero is = inl (0, is)
from_append x (y ∷ xs) ys (suc k) is = elim (from_append x xs ys k is) [ inl left ↦ inl (in_later x y xs left) | inr right ↦ inr right ]

from_flat_map : {A B : Type 0} (f : A → List B) (y : B) (xs : List A) (k : ℕ) → slice_get (flat_map f xs) k ≡ Some y → (x : A) × IsIn x xs × IsIn y (f x)
from_flat_map f y [] k is = absurd (none-some y is)
from_flat_map f y (x ∷ xs) k is = elim (from_append y (f x) (flat_map f xs) k is) [
  | inl here ↦ (x, (0, refl), here)
  | inr later ↦ let rest = from_flat_map f y xs (later.0) (later.1) in (rest.0, in_later (rest.0) x xs (rest.1), rest.2)
]

from_map : {A B : Type 0} (f : A → B) (y : B) (xs : List A) (k : ℕ) → slice_get (map f xs) k ≡ Some y → (x : A) × IsIn x xs × (y ≡ f x)
from_map f y [] k is = absurd (none-some y is)
from_map f y (x ∷ xs) zero is = (x, (0, refl), sym (same_Some (f x) y is))
from_map f y (x ∷ xs) (suc k) is = let rest = from_map f y xs k is in (rest.0, in_later (rest.0) x xs (rest.1), rest.2)

from_numbers : (from n k j : ℕ) → slice_get (numbers_from from n) j ≡ Some k → (from ≤ k) × (k < from + n)
from_numbers from zero k j is = absurd (none-some k is)
from_numbers from (suc n) k zero is = let same : from ≡ k = same_Some from k is in (omega (arith, same), omega (arith, same))
from_numbers from (suc n) k (suc j) is = let rest = from_numbers (suc from) n k j is in (omega (arith, rest.0), omega (arith, rest.1))

position_is : (p : Block → Bool) (blocks : List Block) (block : ℕ) → position p blocks ≡ Some block → (b : Block) × (slice_get blocks block ≡ Some b) × (p b ≡ true)
position_is p [] block is = absurd (none-some block is)
position_is p (x ∷ blocks) block is =
    let found = position-Some p (x ∷ blocks) block x is in (get_or (x ∷ blocks) block x, slice_get-get_or (x ∷ blocks) block x (found.0), found.1)

of_port : (number_of : Role → Option ℕ) (width_of : ℕ → ℕ) (diagram : Diagram) (attributes : Attributes)
    (e : RootElement) (number : ℕ) (o : Option ℕ) → position (has_number number_of number) diagram.blocks ≡ o →
    IsIn e (elements_of_port attributes width_of number o) → IsElementOfPort number_of width_of diagram attributes e
of_port number_of width_of diagram attributes e number None at is = absurd (none-some e (is.1))
of_port number_of width_of diagram attributes e number (Some block) at is =
    let found = position_is (has_number number_of number) diagram.blocks block at in
    let of = from_map (root_element attributes number block) e (numbers_from 0 (width_of block)) (is.0) (is.1) in
    let within = from_numbers 0 (width_of block) (of.0) (of.1.0) (of.1.1) in
    subst (IsElementOfPort number_of width_of diagram attributes) (sym (of.2)) (found.0, found.1, is_number_true number (number_in number_of (found.0)) (found.2), omega (arith, within.1), refl)

pub is_element : (number_of : Role → Option ℕ) (width_of : ℕ → ℕ) (diagram : Diagram) (attributes : Attributes)
    (place : ℕ) (e : RootElement) → slice_get (root_elements number_of width_of diagram attributes) place ≡ Some e →
    IsElementOfPort number_of width_of diagram attributes e
is_element number_of width_of diagram attributes place e at =
    let part : ℕ → List RootElement = λ number. elements_of_port attributes width_of number (position (has_number number_of number) diagram.blocks) in
    let from = from_flat_map part e (numbers_from 1 (length (filter_map (number_in number_of) diagram.blocks))) place at in
    of_port number_of width_of diagram attributes e (from.0) (position (has_number number_of (from.0)) diagram.blocks) refl (from.2)

-- ---- columns of numbers, one an element, make a stimulus

is_numbered : (number element : ℕ) (e : RootElement) → (eqb e.number number && eqb e.element element) ≡ true → (e.number ≡ number) × (e.element ≡ element)
is_numbered number element e is = go (eqb e.number number) refl is where
  go : (b : Bool) → eqb e.number number ≡ b → (b && eqb e.element element) ≡ true → (e.number ≡ number) × (e.element ≡ element)
  go true same rest = (eqb-true e.number number same, eqb-true e.element element rest)
  go false other rest = absurd (true≢false (sym rest))

numbered_is : (number element : ℕ) → (eqb number number && eqb element element) ≡ true
numbered_is number element = rw (eq-eqb number number refl) (eq-eqb element element refl)

-- what passes is found, or one before it that passes too
find_passes : {A : Type 0} (p : A → Bool) (xs : List A) (k : ℕ) (x : A) → slice_get xs k ≡ Some x → p x ≡ true → (y : A) × (find p xs ≡ Some y) × (p y ≡ true) × IsIn y xs
find_passes p [] k x is passes = absurd (none-some x is)
find_passes {A} p (z ∷ xs) zero x is passes =
    let here : p z ≡ true = ap p (same_Some z x is) ∙ passes in (z, cond-true (p z) (Some z) (find p xs) here, here, (0, refl))
find_passes {A} p (z ∷ xs) (suc k) x is passes = go (p z) refl (find_passes p xs k x is passes) where
  go : (b : Bool) → p z ≡ b → (y : A) × (find p xs ≡ Some y) × (p y ≡ true) × IsIn y xs → (y : A) × (cond b (Some z) (find p xs) ≡ Some y) × (p y ≡ true) × IsIn y (z ∷ xs)
  go true same later = (z, refl, same, (0, refl))
  go false other later = (later.0, later.1, later.2, in_later (later.0) z xs (later.3))

same_element : (attributes : Attributes) (e : RootElement) (number block element : ℕ)
    → e ≡ root_element attributes e.number e.block e.element → e.number ≡ number → e.block ≡ block
    → e.element ≡ element → e ≡ root_element attributes number block element
same_element attributes e number block element is same_number same_block same_place = is ∙ cc

-- the element of a number and a place is found where the columns look for it
pub found_at : (number_of : Role → Option ℕ) (width_of : ℕ → ℕ) (diagram : Diagram) (attributes : Attributes) → AreNumbered (filter_map (number_in number_of) diagram.blocks) →
    (block : ℕ) (b : Block) (number element : ℕ) → slice_get diagram.blocks block ≡ Some b → number_in number_of b ≡ Some number → element < width_of block →
    slice_get (root_elements number_of width_of diagram attributes)
    (position_or_len (λ (e : RootElement). (e.number == number) && (e.element == element))
    (root_elements number_of width_of diagram attributes))
    ≡ Some (root_element attributes number block element)
found_at number_of width_of diagram attributes are block b number element at is inside =
    let elements = root_elements number_of width_of diagram attributes in
    let test : RootElement → Bool = λ e. (e.number == number) && (e.element == element) in
    let there = element_is_there number_of width_of diagram attributes are block b number element at is inside in
    let hit = find_passes test elements (there.0) (root_element attributes number block element) (there.1) (numbered_is number element) in
    let same = is_numbered number element (hit.0) (hit.2) in
    let of = is_element number_of width_of diagram attributes (hit.3.0) (hit.0) (hit.3.1) in
    let other : position (has_number number_of number) diagram.blocks ≡ Some (hit.0.block) =
    first_is number_of diagram.blocks are.distinct (hit.0.block) (of.0) number (of.1)
    (of.2 ∙ ap (λ n. Some n) (same.0)) in
    let block_is : hit.0.block ≡ block = same_Some (hit.0.block) block (sym other ∙ first_is number_of diagram.blocks are.distinct block b number at is) in
    sym (find_at test elements) ∙ (hit.1) ∙ ap (λ e. Some e) (same_element attributes (hit.0) number block element (of.4) (same.0) block_is (same.1))

-- ---- no two elements of the list have one number and one place

abbrev AreApart : List RootElement → Type 0
AreApart [] = ⊤
AreApart (x ∷ xs) = ((k : ℕ) (y : RootElement) → slice_get xs k ≡ Some y → x.number ≡ y.number → x.element ≡ y.element → ⊥) × AreApart xs

append_apart : (xs ys : List RootElement) → AreApart xs → AreApart ys
    → ((i j : ℕ) (x y : RootElement) → slice_get xs i ≡ Some x → slice_get ys j ≡ Some y → x.number ≡ y.number → ⊥)
    → AreApart (xs ++ ys)
append_apart [] ys left right across = right
append_apart (x ∷ xs) ys left right across = (
  λ k y at same_number same_place. elim (from_append y xs ys k at) [
    | inl here ↦ left.0 (here.0) y (here.1) same_number same_place
    | inr later ↦ across 0 (later.0) x y refl (later.1) same_number
  ],
  append_apart xs ys (left.1) right (λ i j z y at_z at_y. across (suc i) j z y at_z at_y),
)

part_apart : (attributes : Attributes) (number block from n : ℕ) → AreApart (map (root_element attributes number block) (numbers_from from n))
part_apart attributes number block from zero = tt
part_apart attributes number block from (suc n) = (
  λ k y at same_number same_place.
      let of = from_map (root_element attributes number block) y (numbers_from (suc from) n) k at in
      let within = from_numbers (suc from) n (of.0) (of.1.0) (of.1.1) in
      let place : y.element ≡ of.0 = ap (λ (e : RootElement). e.element) (of.2) in
      absurd (omega (arith, within.0, place, same_place)),
  part_apart attributes number block (suc from) n,
)

port_apart : (attributes : Attributes) (width_of : ℕ → ℕ) (number : ℕ) (o : Option ℕ) → AreApart (elements_of_port attributes width_of number o)
port_apart attributes width_of number None = tt
port_apart attributes width_of number (Some block) = part_apart attributes number block 0 (width_of block)

port_number : (attributes : Attributes) (width_of : ℕ → ℕ) (number : ℕ) (o : Option ℕ) (k : ℕ) (e : RootElement)
    → slice_get (elements_of_port attributes width_of number o) k ≡ Some e → e.number ≡ number
port_number attributes width_of number None k e at = absurd (none-some e at)
port_number attributes width_of number (Some block) k e at =
    let of = from_map (root_element attributes number block) e (numbers_from 0 (width_of block)) k at in ap (λ (o : RootElement). o.number) (of.2)

ports_apart : (attributes : Attributes) (width_of : ℕ → ℕ) (place_of : ℕ → Option ℕ) (from n : ℕ)
    → AreApart
    (flat_map (λ number. elements_of_port attributes width_of number (place_of number)) (numbers_from from n))
ports_apart attributes width_of place_of from zero = tt
ports_apart attributes width_of place_of from (suc n) =
    append_apart (elements_of_port attributes width_of from (place_of from)) (flat_map (λ number. elements_of_port attributes width_of number (place_of number)) (numbers_from (suc from) n))
    (port_apart attributes width_of from (place_of from)) (ports_apart attributes width_of place_of (suc from) n)
    (λ i j x y at_x at_y same.
    let of = from_flat_map (λ number. elements_of_port attributes width_of number (place_of number)) y (numbers_from (suc from) n) j at_y in
    let within = from_numbers (suc from) n (of.0) (of.1.0) (of.1.1) in
    absurd (omega (arith, within.0, same, port_number attributes width_of from (place_of from) i x at_x, port_number attributes width_of (of.0) (place_of (of.0)) (of.2.0) y (of.2.1))))

one_place : (xs : List RootElement) → AreApart xs → (i j : ℕ) (x y : RootElement) → slice_get xs i ≡ Some x → slice_get xs j ≡ Some y → x.number ≡ y.number → x.element ≡ y.element → i ≡ j
one_place [] are_apart i j x y at_x at_y same_number same_place = absurd (none-some x at_x)
one_place (z ∷ xs) are_apart zero zero x y at_x at_y same_number same_place = refl
one_place (z ∷ xs) are_apart zero (suc j) x y at_x at_y same_number same_place =
    let is : z ≡ x = same_Some z x at_x in absurd (are_apart.0 j y at_y (ap (λ (e : RootElement). e.number) is ∙ same_number) (ap (λ (e : RootElement). e.element) is ∙ same_place))
one_place (z ∷ xs) are_apart (suc i) zero x y at_x at_y same_number same_place =
    let is : z ≡ y = same_Some z y at_y in absurd (are_apart.0 i x at_x (ap (λ (e : RootElement). e.number) is ∙ sym same_number) (ap (λ (e : RootElement). e.element) is ∙ sym same_place))
one_place (z ∷ xs) are_apart (suc i) (suc j) x y at_x at_y same_number same_place = ap suc (one_place xs (are_apart.1) i j x y at_x at_y same_number same_place)

-- an element of the list is found at its own place
pub found_there : (number_of : Role → Option ℕ) (width_of : ℕ → ℕ) (diagram : Diagram) (attributes : Attributes) → AreNumbered (filter_map (number_in number_of) diagram.blocks) →
    (place : ℕ) (e : RootElement) → slice_get (root_elements number_of width_of diagram attributes) place ≡ Some e →
    position_or_len (λ (o : RootElement). (o.number == e.number) && (o.element == e.element)) (root_elements number_of width_of diagram attributes) ≡ place
found_there number_of width_of diagram attributes are place e at =
    let elements = root_elements number_of width_of diagram attributes in
    let of = is_element number_of width_of diagram attributes place e at in
    let found = found_at number_of width_of diagram attributes are e.block (of.0) e.number e.element (of.1) (of.2) (of.3) in
    one_place elements (ports_apart attributes width_of (λ number. position (has_number number_of number) diagram.blocks) 1 (length (filter_map (number_in number_of) diagram.blocks)))
    (position_or_len (λ (o : RootElement). (o.number == e.number) && (o.element == e.element)) elements) place (root_element attributes e.number e.block e.element) e found at refl refl

pub are_root_elements : (number_of : Role → Option ℕ) (width_of : ℕ → ℕ) (diagram : Diagram) (attributes : Attributes) → AreNumbered (filter_map (number_in number_of) diagram.blocks) →
    AreRootElements number_of width_of diagram attributes (root_elements number_of width_of diagram attributes)
are_root_elements number_of width_of diagram attributes are = record {
  elements_of = is_element number_of width_of diagram attributes;
  has_each = element_is_there number_of width_of diagram attributes are;
  different = one_place (root_elements number_of width_of diagram attributes)
      (ports_apart attributes width_of (λ number. position (has_number number_of number) diagram.blocks) 1
      (length (filter_map (number_in number_of) diagram.blocks)));
}
