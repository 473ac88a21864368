-- The root ports of a wired diagram have the numbers from 1 to their count, so that a list by number has each.
use Rattle.std.proofs.Common.{◌≡◌, ℕ, zero, suc, ◌+◌, ◌-◌, ◌<◌, ◌≤◌, ◌||◌, ◌⊎◌, inl, inr, Bool, true, false, eqb, List, [], ◌∷◌, length, Option, Some, None, slice_get, All, length-set, refl, sym, ap}
use Rattle.std.proofs.Common.{subst, ◌∙◌, arith}
use Rattle.std.specs.Prelude.{AllPairs, filter_map, slice_index_or, slice_set, ◌≢◌}
use Rattle.std.specs.List.{cons_option, list_any, position}
use Rattle.std.proofs.lemmas.Bool.{cases_eq, cases_lt, eqb-true}
use Rattle.std.proofs.lemmas.Bool.Decides.{Decides-eqb}
use Rattle.std.proofs.lemmas.List.Elements.{All-nil, All-cons, All-head, All-tail, All-weaker}
use Rattle.std.proofs.lemmas.List.Kept.{AllPairs-cons}
use Rattle.std.proofs.lemmas.Map.Made.{IsDistinct-from_AllPairs}
use Rattle.std.proofs.lemmas.Map.Steps.{length-le_from_distinct_below}
use Rattle.std.proofs.lemmas.Option.{none-some, same_Some, get_or_from_slice_get, slice_get_within}
use Rattle.math_list.proofs.Places.{set_same, set_other, held}
use Rattle.dg_model.specs.declared.diagram.Block.{Block}
use Rattle.dg_model.specs.declared.diagram.Diagram.{Diagram}
use Rattle.dg_model.specs.declared.row.Role.{Role}
use Rattle.dg_model.specs.Wired.{AreNumbered, IsWired}
use Rattle.dg_model.specs.RootElements.{has_number, number_in}
use Rattle.dg_tables.specs.declared.roots.Side.{Side}
use Rattle.dg_tables.specs.declared.roots.Side.TheVariants.{Inputs, Outputs}
use Rattle.dg_tables.specs.inner.Ports.{ArePortsTo, IsNumberOf, IsPortNumber, port_put, root_on}
use Rattle.dg_model.proofs.Roots.{IsIn, apart, first_is, in_filter_map, in_later}

-- ---- the root ports of a side have the numbers from 1 to their count
pub numbered_on : (diagram : Diagram) → IsWired diagram → (side : Side) → AreNumbered (filter_map (number_in (root_on side)) diagram.blocks)
numbered_on diagram wired Inputs = wired.inports
numbered_on diagram wired (Outputs starts) = wired.outports

-- ---- each number is there

found_or_absent : (n : ℕ) (xs : List ℕ) → IsIn n xs ⊎ All (λ x. n ≢ x) xs
found_or_absent n [] = inr (All-nil (λ x. n ≢ x))
found_or_absent n (x ∷ xs) = elim (cases_eq n x) [
  | inl same ↦ inl (0, ap (λ (m : ℕ). Some m) (sym same))
  | inr other ↦ elim (found_or_absent n xs) [
    | inl at ↦ inl (in_later n x xs at)
    | inr absent ↦ inr (All-cons (λ x. n ≢ x) x xs other absent)
  ]
]

any_below : (q m : ℕ) (xs : List ℕ) → All (λ x. x < m) xs → list_any (eqb q) xs ≡ true → q < m
any_below q m [] below is = absurd (cc)
any_below q m (x ∷ xs) below is = go (eqb q x) refl (any_below q m xs (All-tail (λ x. x < m) x xs below)) is
  where
    go : (b : Bool) → eqb q x ≡ b → (list_any (eqb q) xs ≡ true → q < m) → (b || list_any (eqb q) xs) ≡ true → q < m
    go true same rest is = subst (λ (n : ℕ). n < m) (sym (eqb-true q x same)) (All-head (λ x. x < m) x xs below)
    go false same rest is = rest is

each_number : (numbers : List ℕ) → AreNumbered numbers → (n : ℕ) → 1 ≤ n → n ≤ length numbers → IsIn n numbers
each_number numbers are n from to = elim (found_or_absent n numbers) [
  | inl there ↦ there
  | inr absent ↦
      let low : All (λ x. zero ≢ x) numbers = All-weaker (λ (x : ℕ). (1 ≤ x) × (x ≤ length numbers)) (λ x. zero ≢ x) (λ x within same. absurd (omega (arith, within.0, same))) numbers are.within in
      let different : AllPairs (λ (x y : ℕ). x ≢ y) (zero ∷ n ∷ numbers) =
      AllPairs-cons (λ (x y : ℕ). x ≢ y) zero (n ∷ numbers) (All-cons (λ x. zero ≢ x) n numbers (λ same. absurd (omega (arith, from, same))) low)
      (AllPairs-cons (λ (x y : ℕ). x ≢ y) n numbers absent are.distinct) in
      let below : All (λ x. x < suc (length numbers)) (zero ∷ n ∷ numbers) =
      All-cons (λ x. x < suc (length numbers)) zero (n ∷ numbers) (omega arith)
      (All-cons (λ x. x < suc (length numbers)) n numbers (omega (arith, to))
      (All-weaker (λ (x : ℕ). (1 ≤ x) × (x ≤ length numbers)) (λ x. x < suc (length numbers))
      (λ x within. omega (arith, within.1)) numbers are.within)) in
      let short : suc (suc (length numbers)) ≤ suc (length numbers) =
      length-le_from_distinct_below (zero ∷ n ∷ numbers) (suc (length numbers))
      (IsDistinct-from_AllPairs Decides-eqb (zero ∷ n ∷ numbers) different)
      (λ q is. any_below q (suc (length numbers)) (zero ∷ n ∷ numbers) below is) in
      absurd (omega (arith, short))
]

-- ---- the blocks of the numbers

out_filter_map : {A B : Type 0} (h : A → Option B) (y : B) (xs : List A) (k : ℕ) → slice_get (filter_map h xs) k ≡ Some y → (i : ℕ) × (x : A) × (slice_get xs i ≡ Some x) × (h x ≡ Some y)
out_filter_map h y [] k is = absurd (none-some y is)
out_filter_map {A} {B} h y (z ∷ xs) k is = go (h z) refl (λ j at. out_filter_map h y xs j at) k is
  where
    Found : List A → Type 0
    Found list = (i : ℕ) × (x : A) × (slice_get list i ≡ Some x) × (h x ≡ Some y)

    later : (i : ℕ) × (x : A) × (slice_get xs i ≡ Some x) × (h x ≡ Some y) → (i : ℕ) × (x : A) × (slice_get (z ∷ xs) i ≡ Some x) × (h x ≡ Some y)
    later found = (suc found.0, found.1, found.2, found.3)

    go : (o : Option B) → h z ≡ o → ((j : ℕ) → slice_get (filter_map h xs) j ≡ Some y → (i : ℕ) × (x : A) × (slice_get xs i ≡ Some x) × (h x ≡ Some y))
        → (j : ℕ) → slice_get (cons_option o (filter_map h xs)) j ≡ Some y → (i : ℕ) × (x : A) × (slice_get (z ∷ xs) i ≡ Some x) × (h x ≡ Some y)
    go None own rest j at = later (rest j at)
    go (Some w) own rest zero at = (0, z, refl, own ∙ at)
    go (Some w) own rest (suc j) at = later (rest j at)

module _ (number_of : Role → Option ℕ) (blocks : List Block) (are : AreNumbered (filter_map (number_in number_of) blocks)) where
  number_within : (block : ℕ) (b : Block) (number : ℕ) → slice_get blocks block ≡ Some b → number_in number_of b ≡ Some number → IsPortNumber number_of blocks number
  number_within block b number at is =
      let there = in_filter_map (number_in number_of) b number blocks block at is in
      held (λ (n : ℕ). (1 ≤ n) × (n ≤ length (filter_map (number_in number_of) blocks))) (filter_map (number_in number_of) blocks) there.0 number are.within there.1

  -- the port of a number stands in the list
  port_there : (ports : List ℕ) → ArePortsTo number_of blocks (length blocks) ports → (number : ℕ) → IsPortNumber number_of blocks number
      → (block : ℕ) × (b : Block) × (slice_get ports (number - 1) ≡ Some block) × (slice_get blocks block ≡ Some b) × (number_in number_of b ≡ Some number)
  port_there ports is number within =
      let there = each_number (filter_map (number_in number_of) blocks) are number within.0 within.1 in
      let found = out_filter_map (number_in number_of) number blocks there.0 there.1 in
      (found.0, found.1, is.each found.0 found.1 number (slice_get_within blocks found.0 found.1 found.2) found.2 found.3, found.2, found.3)

  pub port_read : (ports : List ℕ) → ArePortsTo number_of blocks (length blocks) ports → (number : ℕ) → IsPortNumber number_of blocks number
      → (b : Block) × (slice_get blocks (slice_index_or ports (number - 1) 0) ≡ Some b)
      × (number_in number_of b ≡ Some number)
      × (position (has_number number_of number) blocks ≡ Some (slice_index_or ports (number - 1) 0))
  port_read ports is number within =
      let found = port_there ports is number within in
      let same : slice_index_or ports (number - 1) 0 ≡ found.0 = get_or_from_slice_get ports (number - 1) found.0 0 found.2 in (
        found.1,
        ap (slice_get blocks) same ∙ found.3,
        found.4,
        first_is number_of blocks are.distinct found.0 found.1 number found.3 found.4 ∙ ap (λ (n : ℕ). Some n) (sym same),
      )

  -- ---- one block more

  module _ (ports : List ℕ) (count : ℕ) (b : Block) (at : slice_get blocks count ≡ Some b) (is : ArePortsTo number_of blocks count ports) where
    number_below : (number : ℕ) → number_in number_of b ≡ Some number → number - 1 < length ports
    number_below number own = let within = number_within count b number at own in omega (arith, within.0, within.1, is.size)

    ports_more : (number : ℕ) → number_in number_of b ≡ Some number → ArePortsTo number_of blocks (count + 1) (slice_set ports (number - 1) count)
    ports_more number own = record {
      size = sized;
      each = λ block c other before here is_other. go block c other here is_other (cases_lt block count) before;
    }
      where
        sized : length (slice_set ports (number - 1) count) ≡ length (filter_map (number_in number_of) blocks)
        sized = length-set ports (number - 1) count ∙ is.size

        go : (block : ℕ) (c : Block) (other : ℕ) → slice_get blocks block ≡ Some c
            → number_in number_of c ≡ Some other → (block < count) ⊎ (count ≤ block) → block < count + 1
            → slice_get (slice_set ports (number - 1) count) (other - 1) ≡ Some block
        go block c other here is_other (inl before) below =
            let own_within = number_within count b number at own in
            let other_within = number_within block c other here is_other in
            set_other ports (number - 1) (other - 1) count
            (λ same.
            let one : other ≡ number = omega (arith, same, own_within.0, other_within.0) in
            apart (number_in number_of) blocks are.distinct block count c b number before here at (is_other ∙ ap (λ (n : ℕ). Some n) one) own)
            ∙ is.each block c other before here is_other
        go block c other here is_other (inr after) below =
            let last : block ≡ count = omega (arith, after, below) in
            let same : b ≡ c = same_Some b c (sym at ∙ ap (slice_get blocks) (sym last) ∙ here) in
            let one : number ≡ other = same_Some number other (sym own ∙ ap (number_in number_of) same ∙ is_other) in
            ap (λ (n : ℕ). slice_get (slice_set ports (number - 1) count) (n - 1)) (sym one) ∙ set_same ports (number - 1) count (number_below number own) ∙ ap (λ (n : ℕ). Some n) (sym last)

    -- a block that is no such port changes nothing
    ports_same : number_in number_of b ≡ None → ArePortsTo number_of blocks (count + 1) ports
    ports_same none = record { size = is.size; each = λ block c other before here is_other. go block c other here is_other (cases_lt block count) before }
      where
        go : (block : ℕ) (c : Block) (other : ℕ) → slice_get blocks block ≡ Some c
            → number_in number_of c ≡ Some other → (block < count) ⊎ (count ≤ block) → block < count + 1
            → slice_get ports (other - 1) ≡ Some block
        go block c other here is_other (inl before) below = is.each block c other before here is_other
        go block c other here is_other (inr after) below =
            let last : block ≡ count = omega (arith, after, below) in
            let same : b ≡ c = same_Some b c (sym at ∙ ap (slice_get blocks) (sym last) ∙ here) in
            absurd (none-some other (sym none ∙ ap (number_in number_of) same ∙ is_other))

    pub port_number : (number : Option ℕ) → number_in number_of b ≡ number → IsNumberOf (length ports) number
    port_number None own = tt
    port_number (Some number) own = let within = number_within count b number at own in (within.0, omega (arith, within.1, is.size))

    pub ports_put : (number : Option ℕ) → number_in number_of b ≡ number → ArePortsTo number_of blocks (count + 1) (port_put ports number count)
    ports_put None own = ports_same own
    ports_put (Some number) own = ports_more number own
