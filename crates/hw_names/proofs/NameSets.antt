-- Names that are given one after another, as a set of them has them.
use Rattle.std.proofs.Common.{◌≡◌, ℕ, zero, suc, ◌+◌, ◌<◌, ◌↔◌, inl, inr, Ordering, Bool, true, false, cond, List, [], ◌∷◌, ◌++◌, length, Contains, ap, sym, ◌∙◌, subst, refl, arith}
use Rattle.std.specs.Prelude.{◌||◌, Vec, IsTrue, Some, slice_get, slice_index_or}
use Rattle.dg_model.specs.declared.diagram.Diagram.{Diagram}
use Rattle.dg_model.specs.declared.diagram.Block.{Block}
use Rattle.dg_model.specs.Faults.{path_of}
use Rattle.std.specs.Global.{Global}
use Rattle.std.specs.List.{list_any}
use Rattle.std.specs.Str.{bytes_eq}
use Rattle.std.specs.BTreeMap.{get, Updates as MapUpdates}
use Rattle.std.specs.BTreeSet.{contains, Updates}
use Rattle.std.specs.Cmp.Lexicographic.{slice_cmp}
use Rattle.std.specs.Ordering.{nat_cmp}
use Rattle.std.proofs.lemmas.Bool.{false≢true, cases_lt}
use Rattle.std.proofs.lemmas.Option.{same_Some}
use Rattle.std.proofs.lemmas.Slice.Eq.{bytes_eq-Decides}
use Rattle.std.proofs.lemmas.Map.Text.{is_eq-slice_cmp}
use Rattle.hw_names.specs.declared.names.Names.{Names}
use Rattle.hw_names.specs.Names.{numbered, IsGiven, Given}
use Rattle.hw_names.specs.Taken.{AreTaken, AreTried, taken_by}

-- the order of names
abbrev pub name_cmp : Vec ℕ Global → Vec ℕ Global → Ordering
name_cmp x y = slice_cmp nat_cmp x.items y.items

any_at : (list : List (List ℕ)) (name : List ℕ) (k : ℕ) → k < length list → slice_index_or list k name ≡ name → list_any (λ other. bytes_eq other name) list ≡ true
any_at [] name k below is = absurd (omega (arith, below))
any_at (x ∷ xs) name zero below is = ap (λ b. b || list_any (λ other. bytes_eq other name) xs) ((bytes_eq-Decides x name).1 is)
any_at (x ∷ xs) name (suc k) below is = or_true (bytes_eq x name) (any_at xs name k (omega (arith, below)) is)
  where
    or_true : (a : Bool) {b : Bool} → b ≡ true → (a || b) ≡ true
    or_true true e = refl
    or_true false e = e

any_found : (x name : List ℕ) (xs : List (List ℕ)) (b : Bool) → bytes_eq x name ≡ b
    → (b || list_any (λ other. bytes_eq other name) xs) ≡ true
    → (list_any (λ other. bytes_eq other name) xs ≡ true → Contains xs name) → Contains (x ∷ xs) name
any_found x name xs true same h next = (0, omega arith, (bytes_eq-Decides x name).0 same)
any_found x name xs false same h next = let r = next h in (suc r.0, omega (arith, r.1), r.2)

any_contains : (list : List (List ℕ)) (name : List ℕ) → list_any (λ other. bytes_eq other name) list ≡ true → Contains list name
any_contains [] name h = absurd (false≢true h)
any_contains (x ∷ xs) name h = any_found x name xs (bytes_eq x name) refl h (λ e. any_contains xs name e)

-- whether a name is taken
pub taken_is : (names : Names) (list : List (List ℕ)) (name : Vec ℕ Global) (found : Bool) → AreTaken names list → found ≡ contains name_cmp names.taken name → IsTrue found ↔ Contains list name.items
taken_is names list name found are is = (
  λ h. any_contains list name.items (sym (are.each name) ∙ sym is ∙ h),
  λ h. is ∙ are.each name ∙ any_at list name.items h.0 h.1 h.2,
)

either : (a b : Bool) → cond a true b ≡ (a || b)
either true b = refl
either false b = refl

-- a number more
pub tried_more : (list : List (List ℕ)) (name : List ℕ) (number : ℕ) → AreTried list name number → Contains list (numbered name number) → AreTried list name (number + 1)
tried_more list name number tried has = record {
  above = let above = tried.above in omega (arith, above);
  taken = λ other low below. elim (cases_lt other number) [
    | inl less ↦ tried.taken other low less
    | inr past ↦ let same : other ≡ number = omega (arith, below, past) in subst (λ (n : ℕ). Contains list (numbered name n)) (sym same) has
  ];
}

-- a name more
pub still_tried : (list : List (List ℕ)) (key name : List ℕ) (number : ℕ) → AreTried list name number → AreTried (key ∷ list) name number
still_tried list key name number tried = record {
  above = tried.above;
  taken = λ other low below. let h = tried.taken other low below in (suc h.0, omega (arith, h.1), h.2);
}

pub more_taken : (old new : Names) (list : List (List ℕ)) (key : Vec ℕ Global)
    → Updates name_cmp old.taken new.taken key true → new.numbers ≡ old.numbers → AreTaken old list
    → AreTaken new (key.items ∷ list)
more_taken old new list key updates same are = record {
  each = λ name.
      updates.0 name
      ∙ ap (λ found. cond found true (contains name_cmp old.taken name)) (is_eq-slice_cmp key.items name.items)
      ∙ ap (λ had. cond (bytes_eq key.items name.items) true had) (are.each name)
      ∙ either (bytes_eq key.items name.items) (list_any (λ other. bytes_eq other name.items) list);
  tried = λ name number at. still_tried list key.items name.items number (are.tried name number (sym (ap (λ numbers. get name_cmp numbers name) same) ∙ at));
}

-- and one of which numbers were tried
pub more_tried : (old new : Names) (list : List (List ℕ)) (key : Vec ℕ Global) (number : ℕ)
    → MapUpdates name_cmp old.numbers new.numbers key (Some number) → new.taken ≡ old.taken → AreTaken old list
    → AreTried list key.items number → AreTaken new list
more_tried old new list key number updates same are tried = record {
  each = λ name. ap (λ taken. contains name_cmp taken name) same ∙ are.each name;
  tried = λ name found at. go name found (bytes_eq key.items name.items) refl
      (sym (updates.0 name ∙ ap (λ b. cond b (Some number) (get name_cmp old.numbers name))
      (is_eq-slice_cmp key.items name.items)) ∙ at);
}
  where
    go : (name : Vec ℕ Global) (found : ℕ) (b : Bool) → bytes_eq key.items name.items ≡ b → cond b (Some number) (get name_cmp old.numbers name) ≡ Some found → AreTried list name.items found
    go name found true is at = subst (λ (x : List ℕ). AreTried list x found) ((bytes_eq-Decides key.items name.items).0 is) (subst (AreTried list key.items) (same_Some number found at) tried)
    go name found false is at = are.tried name found at

-- ---- in order

pub given_more : (list wanted names : List (List ℕ)) (want name : List ℕ) → Given list wanted names → IsGiven (taken_by list names) want name → Given list (wanted ++ want ∷ []) (names ++ name ∷ [])
given_more list [] [] want name given is = (is, tt)
given_more list [] (first ∷ names) want name given is = absurd given
given_more list (one ∷ wanted) [] want name given is = absurd given
given_more list (one ∷ wanted) (first ∷ names) want name given is = (given.0, given_more (first ∷ list) wanted names want name given.1 is)

pub taken_more : (list names : List (List ℕ)) (name : List ℕ) → taken_by list (names ++ name ∷ []) ≡ name ∷ taken_by list names
taken_more list [] name = refl
taken_more list (first ∷ names) name = taken_more (first ∷ list) names name

-- the path of a block that is there
pub path_is : (diagram : Diagram) (block : ℕ) (b : Block) → slice_get diagram.blocks block ≡ Some b → b.path ≡ path_of diagram block
path_is diagram block b at = rw at refl

-- one for each that is wanted
pub given_size : (list wanted names : List (List ℕ)) → Given list wanted names → length names ≡ length wanted
given_size list [] [] given = refl
given_size list [] (name ∷ names) given = absurd given
given_size list (want ∷ wanted) [] given = absurd given
given_size list (want ∷ wanted) (name ∷ names) given = ap suc (given_size (name ∷ list) wanted names given.1)
