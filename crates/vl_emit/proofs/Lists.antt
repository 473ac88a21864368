-- Elements of lists by their places, and lists of which no two elements agree.
use Rattle.std.proofs.Common.{◌≡◌, ◌≢◌, inl, inr, ℕ, zero, suc, ◌+◌, ◌<◌, Bool, false, ◌||◌, List, [], ◌∷◌, ◌++◌, map, flat_map, length, get_or, Contains, refl, ap, sym, ◌∙◌, subst, arith}
use Rattle.std.specs.List.{AllPairs, list_any}
use Rattle.std.proofs.lemmas.Grind.{flat_map-append}
use Rattle.std.proofs.lemmas.Option.{slice_get-get_or, get_or_from_slice_get}
use Rattle.std.proofs.lemmas.List.Elements.{Contains-append_right, Contains-append_cases}
use Rattle.hw_net.specs.Products.{places}
use Rattle.vl_emit.proofs.ModuleNets.{no-element, first-or-later, here, later, of-one, of-mapped, below-place, one-more}
use Rattle.hw_net.specs.declared.netlist.Net.{Net}
use Rattle.hw_net.specs.Products.{net_at}
use Rattle.std.proofs.lemmas.List.{get_or_default}
use Rattle.vl_ast.specs.declared.making.Listing.{Listing}
use Rattle.vl_ast.specs.Listing.{Lists}
use Rattle.vl_ast.proofs.Listings.{both, lists-as}

-- the element at a place
pub at-contains : {X : Type 0} (xs : List X) (k : ℕ) (d : X) → k < length xs → Contains xs (get_or xs k d)
at-contains xs k d h = (k, h, get_or_from_slice_get xs k (get_or xs k d) (get_or xs k d) (slice_get-get_or xs k d h))

module _ {X : Type 0} (R : X → X → Type 0) where
  pub head-pairs : (x : X) (xs : List X) → AllPairs R (x ∷ xs) → (y : X) → Contains xs y → R x y
  head-pairs x xs p y c = subst (R x) c.2 (p 0 (suc c.0) y (omega arith) (omega (arith, c.1)))

  pub tail-pairs : (x : X) (xs : List X) → AllPairs R (x ∷ xs) → AllPairs R xs
  tail-pairs x xs p i j d h k = p (suc i) (suc j) d (omega (arith, h)) (omega (arith, k))

  -- an element of the first part and one of the second
  pub apart-pairs : (xs ys : List X) → AllPairs R (xs ++ ys) → (a b : X) → Contains xs a → Contains ys b → R a b
  apart-pairs [] ys p a b c e = absurd (no-element a c)
  apart-pairs (x ∷ xs) ys p a b c e = elim (first-or-later x a xs c) [
    | inl same ↦ subst (λ (v : X). R v b) same (head-pairs x (xs ++ ys) p b (Contains-append_right xs ys b e))
    | inr after ↦ apart-pairs xs ys (tail-pairs x (xs ++ ys) p) a b after e
  ]

pub back-pairs : {X : Type 0} (R : X → X → Type 0) (xs ys : List X) → AllPairs R (xs ++ ys) → AllPairs R ys
back-pairs R [] ys p = p
back-pairs R (x ∷ xs) ys p = back-pairs R xs ys (tail-pairs R x (xs ++ ys) p)

-- of elements that differ by a function, two that agree are one
pub same-element : {X Y : Type 0} (f : X → Y) (xs : List X) → AllPairs (λ a b. f a ≢ f b) xs → (a b : X) → Contains xs a → Contains xs b → f a ≡ f b → a ≡ b
same-element f [] p a b c d e = absurd (no-element a c)
same-element f (x ∷ xs) p a b c d e = elim (first-or-later x a xs c) [
  | inl i ↦ elim (first-or-later x b xs d) [
    | inl j ↦ sym i ∙ j
    | inr after ↦ absurd (head-pairs (λ a b. f a ≢ f b) x xs p b after (ap f i ∙ e))
  ]
  | inr i ↦ elim (first-or-later x b xs d) [
    | inl j ↦ absurd (head-pairs (λ a b. f a ≢ f b) x xs p a i (ap f j ∙ sym e))
    | inr j ↦ same-element f xs (tail-pairs (λ a b. f a ≢ f b) x xs p) a b i j e
  ]
]

module _ {X : Type 0} (R : X → X → Type 0) where
  pub pairs-cons : (x : X) (xs : List X) → ((y : X) → Contains xs y → R x y) → AllPairs R xs → AllPairs R (x ∷ xs)
  pairs-cons x xs f p zero zero d h k = absurd (omega (arith, h))
  pairs-cons x xs f p zero (suc j) d h k = f (get_or xs j d) (at-contains xs j d (omega (arith, k)))
  pairs-cons x xs f p (suc i) zero d h k = absurd (omega (arith, h))
  pairs-cons x xs f p (suc i) (suc j) d h k = p i j d (omega (arith, h)) (omega (arith, k))

  pub pairs-append : (xs ys : List X) → AllPairs R xs → AllPairs R ys → ((x y : X) → Contains xs x → Contains ys y → R x y) → AllPairs R (xs ++ ys)
  pairs-append [] ys p q f = q
  pairs-append (x ∷ xs) ys p q f =
      pairs-cons x (xs ++ ys)
      (λ y c. elim (Contains-append_cases xs ys y c) [
        | inl l ↦ head-pairs R x xs p y l
        | inr l ↦ f x y (here x xs) l
      ])
      (pairs-append xs ys (tail-pairs R x xs p) q (λ a b c d. f a b (later x a xs c) d))

  -- a list that is made place by place
  pub pairs-places : (f : ℕ → List X) (n : ℕ) → ((k : ℕ) → k < n → AllPairs R (f k)) → ((j k : ℕ) → j < n → k < n → j ≢ k → (a b : X) → Contains (f j) a → Contains (f k) b → R a b)
      → AllPairs R (flat_map f (places n))
  pairs-places f zero own apart = λ i j d h k. absurd (omega (arith, k))
  pairs-places f (suc n) own apart =
      subst (AllPairs R) (sym (one-more f n (suc n) (omega arith)))
      (pairs-append (flat_map f (places n)) (f n)
      (pairs-places f n (λ k h. own k (omega (arith, h))) (λ j k p q. apart j k (omega (arith, p)) (omega (arith, q))))
      (own n (omega arith))
      (λ x y c d. (let r = of-one f (places n) x c in
      let h = below-place n r.0 r.1 in
      apart r.0 n (omega (arith, h)) (omega arith) (λ e. omega (arith, e, h)) x y r.2 d)))

pub map-pairs : {X Y : Type 0} (R : X → X → Type 0) (S : Y → Y → Type 0) (g : X → Y) → ((a b : X) → R a b → S (g a) (g b)) → (xs : List X) → AllPairs R xs → AllPairs S (map g xs)
map-pairs R S g keeps [] p = λ i j d h k. absurd (omega (arith, k))
map-pairs R S g keeps (x ∷ xs) p =
    pairs-cons S (g x) (map g xs) (λ y c. (let r = of-mapped g xs y c in subst (S (g x)) r.2 (keeps x r.0 (head-pairs R x xs p r.0 r.1))))
    (map-pairs R S g keeps xs (tail-pairs R x xs p))

pub none-of : {X : Type 0} (p : X → Bool) (xs : List X) → ((x : X) → Contains xs x → p x ≡ false) → list_any p xs ≡ false
none-of p [] h = refl
none-of p (x ∷ xs) h = (let rest = none-of p xs (λ y c. h y (later x y xs c)) in let own = h x (here x xs) in (λ i. own i || rest i))

pub empty-list : {X : Type 0} (xs : List X) → ((x : X) → Contains xs x → ⊥) → xs ≡ []
empty-list [] h = refl
empty-list (x ∷ xs) h = absurd (h x (here x xs))

pub flat_map-twice : {X Y Z : Type 0} (g : Y → List Z) (f : X → List Y) (xs : List X) → flat_map g (flat_map f xs) ≡ flat_map (λ x. flat_map g (f x)) xs
flat_map-twice g f [] = refl
flat_map-twice g f (x ∷ xs) = flat_map-append g (f x) (flat_map f xs) ∙ ap (λ (l : List _). flat_map g (f x) ++ l) (flat_map-twice g f xs)

pub flat_map-same : {X Y : Type 0} (f g : X → List Y) → ((x : X) → f x ≡ g x) → (xs : List X) → flat_map f xs ≡ flat_map g xs
flat_map-same f g same [] = refl
flat_map-same f g same (x ∷ xs) = (let rest = flat_map-same f g same xs in (λ i. same x i ++ rest i))

-- a list that a loop makes place by place
pub loop-step : {X : Type 0} (f : ℕ → List X) (n : ℕ) {start before after : Listing X}
    → Lists start before (flat_map f (places n)) → Lists before after (f n)
    → Lists start after (flat_map f (places (n + 1)))
loop-step f n old put = lists-as (sym (one-more f n (n + 1) refl)) (both old put)

-- a net that is read
pub net-read : (nets read : List Net) (own : ℕ) (net : Net) → read ≡ nets → net ≡ get_or read own net → own < length nets → net ≡ net_at nets own
net-read nets read own net same is inside = is ∙ ap (λ (ns : List Net). get_or ns own net) same ∙ get_or_default nets own net _ inside
