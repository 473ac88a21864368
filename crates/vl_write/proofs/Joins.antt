-- A loop that writes each part after what stands before it: nothing before the first, then the separator.
use Rattle.std.proofs.Common.{◌≡◌, ◌∙◌, ℕ, zero, suc, ◌+◌, ◌<◌, ◌≤◌, List, [], ◌∷◌, ◌++◌, map, length, take, get_or, refl, ap, sym, arith, append-nil}
use Rattle.std.proofs.lemmas.List.{take_all, take_more, flat_map_more, map-append, length-map, length-take-le}
use Rattle.vl_ast.specs.Spelling.{joined}
use Rattle.vl_write.specs.declared.parts.Writer.{Writer}
use Rattle.vl_write.specs.inner.Puts.{Puts}
use Rattle.vl_write.proofs.Puts.{both, none-put, puts-as}

-- what stands before the part at a place
abbrev pub before_part : List ℕ → ℕ → List ℕ
before_part separator zero = []
before_part separator (suc place) = separator

-- so many parts are written, and this stands before the next
abbrev pub AreJoined : {A : Type 0} → List ℕ → (A → List ℕ) → List A → Writer → Writer → List ℕ → ℕ → Type 0
AreJoined separator f xs old done before i = Puts old done (joined separator (map f (take i xs))) × (before ≡ before_part separator i)

before_next : (separator : List ℕ) (place : ℕ) → separator ≡ before_part separator (place + 1)
before_next separator place = by (place + 1) (omega arith) where
  by : (next : ℕ) → 0 < next → separator ≡ before_part separator next
  by zero some = absurd (omega (arith, some))
  by (suc place) some = refl

-- a part more at the end
added : (separator : List ℕ) (parts : List (List ℕ)) (place : ℕ) (part : List ℕ) → length parts ≡ place →
    joined separator (parts ++ part ∷ []) ≡ joined separator parts ++ (before_part separator place ++ part)
added separator [] zero part is = append-nil part
added separator [] (suc place) part is = absurd (omega (arith, is))
added separator (first ∷ parts) zero part is = absurd (omega (arith, is))
added separator (first ∷ parts) (suc place) part is = sym (flat_map_more (λ more. separator ++ more) first parts part)

-- before the first part
pub none-joined : {A : Type 0} (separator : List ℕ) (f : A → List ℕ) (xs : List A) (out : Writer) → AreJoined separator f xs out out [] 0
none-joined separator f xs out = (none-put out, refl)

-- the loop's next part, behind what stands before it
pub one_more : {A : Type 0} (separator : List ℕ) (f : A → List ℕ) (xs : List A) (i : ℕ) (x : A) {old done new : Writer} {before text : List ℕ} →
    i < length xs → x ≡ get_or xs i x → AreJoined separator f xs old done before i → text ≡ before ++ f x → Puts done new text → AreJoined separator f xs old new separator (i + 1)
one_more separator f xs i x {old} {done} {new} {before} {text} below is so_far own put =
    let taken : take (i + 1) xs ≡ take i xs ++ x ∷ [] = take_more xs i x below ∙ ap (λ y. take i xs ++ y ∷ []) (sym is) in
    let mapped : map f (take (i + 1) xs) ≡ map f (take i xs) ++ f x ∷ [] = ap (map f) taken ∙ map-append f (take i xs) (x ∷ []) in
    let count : length (map f (take i xs)) ≡ i = length-map (take i xs) f ∙ length-take-le i xs (omega (arith, below)) in
    let parts = joined separator (map f (take i xs)) in
    let behind : parts ++ text ≡ joined separator (map f (take (i + 1) xs)) =
    ap (λ ys. parts ++ ys) (own ∙ ap (λ ys. ys ++ f x) so_far.1) ∙ sym (ap (joined separator) mapped ∙ added separator (map f (take i xs)) i (f x) count) in
    (puts-as behind (both so_far.0 put), before_next separator i)

-- all parts are written
pub all_joined : {A : Type 0} (separator : List ℕ) (f : A → List ℕ) (xs : List A) (i : ℕ) {old done : Writer}
    {before : List ℕ} → AreJoined separator f xs old done before i → length xs ≤ i
    → Puts old done (joined separator (map f xs))
all_joined separator f xs i so_far past = puts-as (ap (λ ys. joined separator (map f ys)) (take_all i xs past)) so_far.0
