-- Lists of values that were read.
use Rattle.std.proofs.Common.{◌≡◌, ℕ, zero, suc, ◌<◌, ◌≤◌, List, [], ◌∷◌, ◌++◌, length, get_or, drop, subst, sym, ◌∙◌, arith, append-nil, Option, None, Some, Result, Ok, Err}
use Rattle.std.specs.Prelude.{IfOk}
use Rattle.std.specs.List.{AllZip}
use Rattle.mdl_values.specs.Reads.{Finds}
use Rattle.mdl_values.specs.Lists.{IsListOf}
use Rattle.mdl_values.specs.inner.Sizes.{AreSized}
use Rattle.mdl_values.proofs.ZipLemmas.{zip_at, zip_length}

pub some_same : (xs ys : List (List ℕ)) → Some xs ≡ Some ys → xs ≡ ys
some_same xs ys e = cc

-- elements of which there are too few or too many make no list
pub no_size : {A : Type 0} (R : List ℕ → A → Type 0) (elements : Option (List (List ℕ))) (list : List A) → ((texts : List (List ℕ)) → ¬ AreSized elements 1 1024 texts) → ¬ IsListOf elements R list
no_size R elements list none is =
    let long = zip_length R is.texts list is.read in
    none is.texts (record { are = is.are_elements; size = (omega (arith, long, is.size.0), omega (arith, long, is.size.1)) })

-- else the values of the elements are the list
pub list_found : {A E : Type 0} (R : List ℕ → A → Type 0) (elements : Option (List (List ℕ))) (texts : List (List ℕ)) (r : Result (Option (List A)) E) → AreSized elements 1 1024 texts
    → IfOk r (λ found. Finds (λ list. AllZip R texts list) found) → IfOk r (λ found. Finds (λ list. IsListOf elements R list) found)
list_found {A} R elements texts (Ok None) sized none =
    λ list is. none list (subst (λ (ts : List (List ℕ)). AllZip R ts list) (some_same is.texts texts (sym is.are_elements ∙ sized.are)) is.read)
list_found R elements texts (Ok (Some list)) sized read =
    let long = zip_length R texts list read in
    record { texts = texts; are_elements = sized.are; read = read; size = (omega (arith, long, sized.size.0), omega (arith, long, sized.size.1)) }
list_found R elements texts (Err e) sized h = h

-- all were read
pub all_read : {A : Type 0} (R : List ℕ → A → Type 0) (texts elements : List (List ℕ)) (list : List A) (i : ℕ) → texts ≡ elements → length texts ≤ i
    → ((more : List A) → AllZip R (drop i texts) more → AllZip R texts (list ++ more)) → AllZip R elements list
all_read {A} R texts elements list i same whole here =
    subst (λ (ts : List (List ℕ)). AllZip R ts list) same
    (subst (λ (l : List A). AllZip R texts l) (append-nil list) (here [] (none_left R texts i whole)))
  where
    none_left : (R : List ℕ → A → Type 0) (ts : List (List ℕ)) (i : ℕ) → length ts ≤ i → AllZip R (drop i ts) []
    none_left R [] zero h = tt
    none_left R [] (suc i) h = tt
    none_left R (t ∷ ts) zero h = absurd (omega arith)
    none_left R (t ∷ ts) (suc i) h = none_left R ts i (omega arith)

-- an element that has no value leaves none
pub one_unread : {A : Type 0} (R : List ℕ → A → Type 0) (texts elements : List (List ℕ)) (i : ℕ) (text : List ℕ)
    → texts ≡ elements → i < length texts → get_or texts i [] ≡ text → ((value : A) → ¬ R text value)
    → (list : List A) → ¬ AllZip R elements list
one_unread {A} R texts elements i text same inside is none list all =
    let found = zip_at R texts list i [] inside (subst (λ (ts : List (List ℕ)). AllZip R ts list) (sym same) all) in
    none found.0 (subst (λ (t : List ℕ). R t found.0) is found.1)
