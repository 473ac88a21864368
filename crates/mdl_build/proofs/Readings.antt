-- Readings that say the same, and texts that are or aren't a word.
use Rattle.std.proofs.Common.{◌≡◌, ◌≢◌, ℕ, Bool, true, false, not, List, Option, Some, None, Result, Ok, Err, refl, sym, ◌∙◌, ap, subst}
use Rattle.std.specs.Prelude.{bytes_eq, MatchOption, IsSomeAnd, IfOk}
use Rattle.std.proofs.lemmas.Option.{none-some}
use Rattle.std.proofs.lemmas.Slice.Eq.{bytes_eq-Decides}
use Rattle.mdl_values.specs.Reads.{Finds}
use Rattle.mdl_build.specs.declared.library.Reader.{Reader}
use Rattle.mdl_build.specs.declared.settings.Setting.{Setting}
use Rattle.mdl_build.specs.Settings.{ReadsAs}

-- what one reading finds another finds, where each value of one is a value of the other
pub found_same : {A : Type 0} (P Q : A → Type 0) (found : Option A) → ((value : A) → P value → Q value) → ((value : A) → Q value → P value) → Finds P found → Finds Q found
found_same P Q None there back none = λ value given. none value (back value given)
found_same P Q (Some value) there back given = there value given

pub ok_found_same : {A E : Type 0} (P Q : A → Type 0) (result : Result (Option A) E)
    → ((value : A) → P value → Q value) → ((value : A) → Q value → P value) → IfOk result (λ found. Finds P found)
    → IfOk result (λ found. Finds Q found)
ok_found_same P Q (Ok found) there back given = found_same P Q found there back given
ok_found_same P Q (Err fault) there back given = tt

-- what is made of a value that is found
abbrev pub IsMadeBy : {A B : Type 0} → (A → Type 0) → (A → B) → B → Type 0
IsMadeBy {A} P f made = (value : A) × P value × (made ≡ f value)

pub found_in : {A B : Type 0} (P : A → Type 0) (f : A → B) (found : Option A) (made : Option B)
    → MatchOption found (made ≡ None) (λ value. IsSomeAnd made (λ other. other ≡ f value)) → Finds P found
    → Finds (IsMadeBy P f) made
found_in {A} {B} P f None made e none = subst (λ (o : Option B). Finds (IsMadeBy P f) o) (sym e) (λ other given. none given.0 given.1)
found_in P f (Some value) None e is = absurd e
found_in P f (Some value) (Some other) e is = (value, is, e)

-- the same of a word in a table
pub word_in : {A B : Type 0} (listed found : Option A) (f : A → B) (made : Option B)
    → MatchOption found (made ≡ None) (λ value. IsSomeAnd made (λ other. other ≡ f value)) → found ≡ listed
    → Finds (IsMadeBy (λ value. listed ≡ Some value) f) made
word_in {A} {B} listed found f made is e = found_in (λ value. listed ≡ Some value) f found made is (by found e)
  where
    by : (o : Option A) → o ≡ listed → Finds (λ value. listed ≡ Some value) o
    by None e = λ value given. none-some value (e ∙ given)
    by (Some value) e = sym e

-- a reader and a default under other names
pub reads_as : (gate : List ℕ) (reader reader' : Reader) (default default' text : List ℕ) (found : Option Setting)
    → reader ≡ reader' → default ≡ default' → Finds (ReadsAs gate reader default text) found
    → Finds (ReadsAs gate reader' default' text) found
reads_as gate reader reader' default default' text found same_reader same_default given =
    subst (λ (r : Reader). Finds (ReadsAs gate r default' text) found) same_reader
    (subst (λ (d : List ℕ). Finds (ReadsAs gate reader d text) found) same_default given)

-- what the comparison of two texts says
pub differ : (a b : List ℕ) → false ≡ bytes_eq a b → a ≢ b
differ a b e same = let equal : bytes_eq a b ≡ true = (bytes_eq-Decides a b).1 same in cc

pub differ_by_not : (a b : List ℕ) → true ≡ not (bytes_eq a b) → a ≢ b
differ_by_not a b e same = let equal : bytes_eq a b ≡ true = (bytes_eq-Decides a b).1 same in let bad : true ≡ false = e ∙ ap not equal in cc

pub same_by_not : (a b : List ℕ) → false ≡ not (bytes_eq a b) → a ≡ b
same_by_not a b e = by_test (bytes_eq a b) refl e
  where
    by_test : (t : Bool) → bytes_eq a b ≡ t → false ≡ not t → a ≡ b
    by_test true equal h = (bytes_eq-Decides a b).0 equal
    by_test false equal h = let bad : false ≡ true = h in cc
