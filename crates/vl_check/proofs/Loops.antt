-- A cycle of numbers is a loop of assignments, begun with the name that stands first in the text; and an order leaves no loop.
use Rattle.std.proofs.Common.{◌≡◌, ◌≢◌, ◌<◌, ◌≤◌, ◌+◌, ◌-◌, ◌%◌, inl, inr, ◌⊎◌, ⊎_elim, ℕ, zero, suc, Bool, true, false, List, [], ◌∷◌, length, map, slice_get, slice_index, slice_index_or, Contains}
use Rattle.std.proofs.Common.{Option, None, Some, bytes_eq, refl, sym, ap, subst, ◌∙◌, arith}
use Rattle.std.proofs.lemmas.Bool.{cases_lt}
use Rattle.std.proofs.lemmas.Nat.{mod_below}
use Rattle.std.proofs.lemmas.Map.Keys.{IsDistinct-from_apart}
use Rattle.std.proofs.lemmas.Slice.Eq.{bytes_eq-Decides}
use Rattle.std.proofs.lemmas.Option.{slice_get_within, slice_get-get_or, get_or_from_slice_get}
use Rattle.std.proofs.lemmas.List.{get_or_default}
use Rattle.std.proofs.Math.Nat.{mod_self, mod-eq_of_lt, mod-add-mod, add-mod_right}
use Rattle.vl_ast.specs.declared.expressions.Expr.{Expr}
use Rattle.vl_ast.specs.declared.modules.ModItem.{ModItem}
use Rattle.vl_ast.specs.declared.modules.ModItem.TheVariants.{Assign}
use Rattle.vl_ast.specs.declared.modules.Module.{Module}
use Rattle.vl_ast.specs.Conditions.{AssignmentReads, IsLoop, IsLoopList, mentioned, undriven, doubly}
use Rattle.vl_ast.specs.Nets.{Mention, Drives, Reads, item_mentions, mentions, names_read, place_of}
use Rattle.math_list.proofs.Elements.{map-in, from-map, head-in, tail-in}
use Rattle.vl_ast.proofs.Facts.{in-item, one-driver}
use Rattle.vl_check.specs.declared.scope.Scope.{Scope}
use Rattle.vl_check.specs.Scope.{IsScopeOf, names_in, number_at, number_in}
use Rattle.vl_check.specs.inner.Order.{AreKnown, IsCycle, IsOrder}
use Rattle.fx_io.specs.Rows.{row_at}
use Rattle.vl_check.specs.inner.Assignments.{IsNoted}
use Rattle.vl_check.specs.inner.CycleMarks.{name_of, AreNamed, IsBeginning, IsTurned}
use Rattle.vl_check.specs.Ordering.{IsOrdering}
use Rattle.vl_check.proofs.NameNumbers.{one-place}
use Rattle.vl_check.proofs.ItemNotes.{number-below, number-is}
use Rattle.vl_check.proofs.ScopeNames.{at-number}

index-in : (xs : List ℕ) (k : ℕ) → k < length xs → Contains xs (slice_index xs k)
index-in xs k below = (k, below, get_or_default xs k (slice_index xs k) 0 below)

module _ (m : Module) (scope : Scope) (places : List (Option ℕ)) (reads : List (List ℕ)) (s : IsScopeOf m scope)
    (driven : undriven m ≡ None) (once : doubly m ≡ None) (n : IsNoted scope m.items places reads) where
  one-number : {a b : ℕ} → Some a ≡ Some b → a ≡ b
  one-number p = cc p

  name-of-number : (name : List ℕ) (v : ℕ) → number_in scope name ≡ Some v → name_of scope v ≡ name
  name-of-number name v e = get_or_from_slice_get (names_in scope) v name [] (at-number scope.names.items v name e)

  -- what an assignment reads and drives stands in the text
  item-of : (name : List ℕ) (value : Expr) (j : ℕ) → slice_get m.items j ≡ Some (Assign name value) → Contains m.items (Assign name value)
  item-of name value j e = (j, slice_get_within m.items j (Assign name value) e, get_or_from_slice_get m.items j (Assign name value) (Assign name value) e)

  read-in : (name read : List ℕ) (value : Expr) → Contains m.items (Assign name value) → Contains (names_read value) read → Contains (mentions m) (Reads read)
  read-in name read value i r = in-item m driven once (Assign name value) (Reads read) i
      (tail-in (Drives false name) (Reads read) (map Reads (names_read value))
      (map-in Reads (names_read value) read r))

  driven-in : (name : List ℕ) (value : Expr) → Contains m.items (Assign name value) → Contains (mentions m) (Drives false name)
  driven-in name value i = in-item m driven once (Assign name value) (Drives false name) i (head-in (Drives false name) (map Reads (names_read value)))

  known : (x : Mention) → Contains (mentions m) x → (k : ℕ) × (number_in scope (mentioned x) ≡ Some k)
  known x h = s.knows (mentioned x) (map-in mentioned (mentions m) x h)

  -- the numbers in a row are those of the names that the assignment reads
  row-reads : (v x : ℕ) → Contains (row_at reads v) x
      → (name read : List ℕ) × (value : Expr) × (j : ℕ) × (slice_get m.items j ≡ Some (Assign name value))
      × (number_in scope name ≡ Some v) × Contains (names_read value) read × (number_in scope read ≡ Some x)
  row-reads v x c = by (slice_index_or places v None) refl where
    by : (o : Option ℕ) → slice_index_or places v None ≡ o
        → (name read : List ℕ) × (value : Expr) × (j : ℕ) × (slice_get m.items j ≡ Some (Assign name value))
        × (number_in scope name ≡ Some v) × Contains (names_read value) read × (number_in scope read ≡ Some x)
    by None e = let empty = subst (λ xs. Contains xs x) (n.none v e) c in absurd (nothing x empty) where
      nothing : (x : ℕ) → Contains [] x → ⊥
      nothing x (k, below, e) = omega arith
    by (Some j) e =
        let at = n.noted v j e in
        let r = from-map (number_at scope) (names_read at.value) x (subst (λ xs. Contains xs x) at.row c) in
        let item = item-of at.name at.value j at.item in
        let k = known (Reads r.0) (read-in at.name r.0 at.value item r.1) in
        let same : k.0 ≡ x = sym (number-is scope r.0 k.0 k.1) ∙ r.2 in
        (at.name, r.0, at.value, j, at.item, at.number, r.1, k.1 ∙ ap Some same)

  pub reads-known : AreKnown reads
  reads-known = record {
    at = λ v k below inside.
        let r = row-reads v (slice_index (row_at reads v) k) (index-in (row_at reads v) k inside) in
        let b = number-below scope r.1 (slice_index (row_at reads v) k) r.7 in
        let l = n.reads_long in
        omega (arith, b, l);
  }

  pub reads-it : (v x : ℕ) → Contains (row_at reads v) x → AssignmentReads m (name_of scope v) (name_of scope x)
  reads-it v x c =
      let r = row-reads v x c in
      subst (λ a. AssignmentReads m a (name_of scope x)) (sym (name-of-number r.0 v r.5))
      (subst (λ b. AssignmentReads m r.0 b) (sym (name-of-number r.1 x r.7))
      (record { value = r.2; assigned = item-of r.0 r.2 r.3 r.4; reads = r.6 }))

  -- the numbers of a cycle are those of names in the text
  pub cycle-named : (cycle : List ℕ) → IsCycle reads cycle → AreNamed m scope cycle
  cycle-named cycle c = record {
    within = λ i below. let w = c.within i below in let l = n.reads_long in omega (arith, w, l);
    stands = λ i below.
        let r = row-reads (slice_index cycle i) (slice_index cycle ((i + 1) % length cycle)) (c.reads_next i below) in
        (Drives false r.0, driven-in r.0 r.2 (item-of r.0 r.2 r.3 r.4), sym (name-of-number r.0 (slice_index cycle i) r.5));
  }

  -- a place behind another in a cycle of so many
  module _ (cycle : List ℕ) (c : IsCycle reads cycle) (at : ℕ) (begins : IsBeginning m scope cycle at) (turned : List (List ℕ)) (t : IsTurned (names_in scope) cycle at turned) where
    abbrev size' : ℕ
    size' = length cycle

    abbrev place : ℕ → ℕ
    place i = (at + i) % size'

    place-below : (i : ℕ) → place i < size'
    place-below i = mod_below (at + i) size' c.some

    name-there : (i : ℕ) (d : List ℕ) → i < size' → slice_index_or turned i d ≡ name_of scope (slice_index cycle (place i))
    name-there i d below = t.each i d below

    next-place : (i : ℕ) → (place i + 1) % size' ≡ place ((i + 1) % size')
    next-place i =
        mod-add-mod (at + i) size' 1
        ∙ ap (λ k. k % size') (regroup at i)
        ∙ sym (mod-add-mod (i + 1) size' at)
        ∙ ap (λ k. k % size') (turn ((i + 1) % size') at)
      where
        regroup : (a i : ℕ) → a + i + 1 ≡ (i + 1) + a
        regroup a i = omega arith

        turn : (a b : ℕ) → a + b ≡ b + a
        turn a b = omega arith

    reads-next : (i : ℕ) → i < size' → AssignmentReads m (name_of scope (slice_index cycle (place i))) (name_of scope (slice_index cycle (place ((i + 1) % size'))))
    reads-next i below =
        subst (λ k. AssignmentReads m (name_of scope (slice_index cycle (place i))) (name_of scope (slice_index cycle k))) (next-place i)
        (reads-it (slice_index cycle (place i)) (slice_index cycle ((place i + 1) % size')) (c.reads_next (place i) (place-below i)))

    -- two places that are one
    one-turn : (i j : ℕ) → i < j → j < size' → place i ≢ place j
    one-turn i j less below e = by (cases_lt (at + i) size') (cases_lt (at + j) size') where
      under : at < size'
      under = begins.within

      wrapped : (k : ℕ) → size' ≤ at + k → k < size' → place k ≡ at + k - size'
      wrapped k over low =
          let cut : at + k ≡ (at + k - size') + size' = omega arith in
          ap (λ n. n % size') cut ∙ add-mod_right (at + k - size') size' ∙ mod-eq_of_lt (let u = under in omega (arith, u))

      by : (at + i < size') ⊎ (size' ≤ at + i) → (at + j < size') ⊎ (size' ≤ at + j) → ⊥
      by (inl a) (inl b) = let p : at + i ≡ at + j = sym (mod-eq_of_lt a) ∙ e ∙ mod-eq_of_lt b in omega (arith, p)
      by (inl a) (inr b) = let p : at + i ≡ at + j - size' = sym (mod-eq_of_lt a) ∙ e ∙ wrapped j b below in omega (arith, p, less, below)
      by (inr a) (inl b) = omega (arith, a, b, less)
      by (inr a) (inr b) = let p : at + i - size' ≡ at + j - size' = sym (wrapped i a (omega arith)) ∙ e ∙ wrapped j b below in omega (arith, p, a, b, less)

    names-apart : (i j : ℕ) → i < j → j < size' → name_of scope (slice_index cycle (place i)) ≢ name_of scope (slice_index cycle (place j))
    names-apart i j less below e =
        let ni = cycle-named cycle c in
        let bi = ni.within (place i) (place-below i) in
        let bj = ni.within (place j) (place-below j) in
        let same : slice_index cycle (place i) ≡ slice_index cycle (place j) =
        one-place (names_in scope) s.apart (slice_index cycle (place i)) (slice_index cycle (place j)) (name_of scope (slice_index cycle (place j)))
        (slice_get-get_or (names_in scope) (slice_index cycle (place i)) [] bi ∙ ap Some e) (slice_get-get_or (names_in scope) (slice_index cycle (place j)) [] bj) in
        ⊎_elim (λ lower. c.apart (place i) (place j) lower (place-below j) same)
        (λ rest. ⊎_elim (λ higher. c.apart (place j) (place i) higher (place-below i) (sym same)) (λ equal. one-turn i j less below (omega arith)) (cases_lt (place j) (place i)))
        (cases_lt (place i) (place j))

    pub turned-loop : IsLoopList m turned
    turned-loop = by turned refl where
      by : (xs : List (List ℕ)) → turned ≡ xs → IsLoopList m xs
      by [] e = let l = t.long in let k = ap length e in let some = c.some in absurd (omega (arith, l, k, some))
      by (first ∷ others) e = record {
        reads = λ k below.
            let long : length (first ∷ others) ≡ size' = sym (ap length e) ∙ t.long in
            let low : k < size' = omega (arith, below, long) in
            let next : (k + 1) % size' < size' = mod_below (k + 1) size' c.some in
            let here = ap (λ xs. slice_index_or xs k []) (sym e) ∙ name-there k [] low in
            let there = ap (λ n. slice_index_or (first ∷ others) ((k + 1) % n) []) long ∙ ap (λ xs. slice_index_or xs ((k + 1) % size') []) (sym e) ∙ name-there ((k + 1) % size') [] next in
            subst (λ a. AssignmentReads m a (slice_index_or (first ∷ others) ((k + 1) % length (first ∷ others)) [])) (sym here)
            (subst (λ b. AssignmentReads m (name_of scope (slice_index cycle (place k))) b) (sym there) (reads-next k low));
        different = IsDistinct-from_apart bytes_eq (first ∷ others) (λ i j d less below.
            let long : length (first ∷ others) ≡ size' = sym (ap length e) ∙ t.long in
            let bj : j < size' = omega (arith, below, long) in
            let bi : i < size' = omega arith in
            let hi = ap (λ xs. slice_index_or xs i d) (sym e) ∙ name-there i d bi in
            let hj = ap (λ xs. slice_index_or xs j d) (sym e) ∙ name-there j d bj in
            (λ k. bytes_eq (hi k) (hj k)) ∙ unequal (name_of scope (slice_index cycle (place i))) (name_of scope (slice_index cycle (place j))) (names-apart i j less bj));
        begun = λ k d below.
            let long : length (first ∷ others) ≡ size' = sym (ap length e) ∙ t.long in
            let bk : suc k < size' = omega (arith, below, long) in
            let zero' : 0 < size' = c.some in
            let h0 : first ≡ name_of scope (slice_index cycle (place 0)) = ap (λ xs. slice_index_or xs 0 []) (sym e) ∙ name-there 0 [] zero' in
            let begin : place 0 ≡ at = ap (λ n. n % size') (plus-none at) ∙ mod-eq_of_lt begins.within in
            let hk : slice_index_or others k d ≡ name_of scope (slice_index cycle (place (suc k))) = ap (λ xs. slice_index_or xs (suc k) d) (sym e) ∙ name-there (suc k) d bk in
            let low = begins.first (place (suc k)) (place-below (suc k)) in
            subst (λ a. place_of m a ≤ place_of m (slice_index_or others k d)) (sym (h0 ∙ ap (λ p. name_of scope (slice_index cycle p)) begin))
            (subst (λ b. place_of m (name_of scope (slice_index cycle at)) ≤ place_of m b) (sym hk) low);
      }
        where
          unequal : (a b : List ℕ) → a ≢ b → bytes_eq a b ≡ false
          unequal a b ne = on (bytes_eq a b) refl where
            on : (t : Bool) → bytes_eq a b ≡ t → bytes_eq a b ≡ false
            on true q = absurd (ne ((bytes_eq-Decides a b).0 q))
            on false q = q

          plus-none : (n : ℕ) → n + 0 ≡ n
          plus-none n = omega arith

  -- an order
  module _ (order : List ℕ) (o : IsOrder reads order) where
    abbrev count : ℕ
    count = length order

    -- the item that assigns a name is the one that is noted
    assigned-at : (j : ℕ) (name : List ℕ) (value : Expr) → slice_get m.items j ≡ Some (Assign name value) → (v : ℕ) → number_in scope name ≡ Some v
        → (k : ℕ) × (slice_index_or places v None ≡ Some k) × (slice_get m.items k ≡ Some (Assign name value)) × (row_at reads v ≡ map (number_at scope) (names_read value))
    assigned-at j name value e v number =
        let k = n.some j v name value e number in
        let at = n.noted v k.0 k.1 in
        let same-name' : at.name ≡ name = sym (name-of-number at.name v at.number) ∙ name-of-number name v number in
        let one : Assign at.name at.value ≡ Assign name value =
        one-driver m driven once false false name (Assign at.name at.value) (Assign name value)
        (item-of at.name at.value k.0 at.item) (item-of name value j e)
        (subst (λ x. Contains (item_mentions (Assign at.name at.value)) (Drives false x)) same-name' (head-in (Drives false at.name) (map Reads (names_read at.value))))
        (head-in (Drives false name) (map Reads (names_read value))) in
        let same-value : at.value ≡ value = cc one in
        (k.0, k.1, at.item ∙ ap Some one, at.row ∙ ap (λ x. map (number_at scope) (names_read x)) same-value)

    ordered-in : (v : ℕ) → v < length (names_in scope) → Contains order v
    ordered-in v below = let l = n.reads_long in o.each v (omega (arith, l, below))

    -- what a number's row has stands before it
    before : (p v : ℕ) → p < count → Contains (row_at reads (slice_index order p)) v → (q : ℕ) × (q < p) × (slice_index order q ≡ v)
    before p v below (k, inside, e) =
        let r = o.earlier p k below inside in
        (r.0, r.1, r.2 ∙ get_or_default (row_at reads (slice_index order p)) k 0 v inside ∙ e)

    abbrev Stands : List ℕ → ℕ → Type 0
    Stands name p = (p < count) × (number_in scope name ≡ Some (slice_index order p))

    -- a name that is read stands before the name whose assignment reads it
    falls : (name read : List ℕ) (p q : ℕ) → AssignmentReads m name read → Stands name p → Stands read q → q < p
    falls name read p q a (pb, pn) (qb, qn) =
        let item = a.assigned in
        let at = slice_get-get_or m.items item.0 (Assign name a.value) item.1 ∙ ap Some item.2 in
        let row = assigned-at item.0 name a.value at (slice_index order p) pn in
        let there : Contains (row_at reads (slice_index order p)) (slice_index order q) =
        subst (λ xs. Contains xs (slice_index order q)) (sym row.3)
        (subst (λ x. Contains (map (number_at scope) (names_read a.value)) x) (number-is scope read (slice_index order q) qn) (map-in (number_at scope) (names_read a.value) read a.reads)) in
        let r = before p (slice_index order q) pb there in
        ⊎_elim (λ less. absurd (o.once r.0 q less qb r.2))
        (λ rest. ⊎_elim (λ more. absurd (o.once q r.0 more (omega (arith, r.1, pb)) (sym r.2))) (λ same. let e : q ≡ r.0 = omega arith in omega (arith, r.1, e)) (cases_lt q r.0))
        (cases_lt r.0 q)

    standing : (name read : List ℕ) → AssignmentReads m name read → (p : ℕ) × Stands name p
    standing name read a =
        let k = known (Drives false name) (driven-in name a.value a.assigned) in
        let c = ordered-in k.0 (number-below scope name k.0 k.1) in
        (c.0, (c.1, k.1 ∙ ap Some (sym (get_or_default order c.0 0 k.0 c.1 ∙ c.2))))

    pub no-loop : (first : List ℕ) (others : List (List ℕ)) → ¬ IsLoop m first others
    no-loop first others l =
        let names = first ∷ others in
        let total = length names in
        let at = λ (k : ℕ) (below : k < total). standing (slice_index_or names k []) (slice_index_or names ((k + 1) % total) []) (l.reads k below) in
        let start = at 0 (omega arith) in
        let end = at (length others) (omega arith) in
        let down = sinks (λ k. slice_index_or names k []) total l.reads (length others) (omega arith) start.0 end.0 start.1 end.1 in
        let wrap : (length others + 1) % total ≡ 0 = (let e : length others + 1 ≡ total = omega arith in ap (λ k. k % total) e ∙ mod_self total) in
        let less = falls (slice_index_or names (length others) []) first end.0 start.0
        (subst (λ j. AssignmentReads m (slice_index_or names (length others) []) (slice_index_or names j []))
        wrap (l.reads (length others) (omega arith))) end.1 start.1 in
        omega (arith, down, less)
      where
        sinks : (f : ℕ → List ℕ) (total : ℕ) → ((k : ℕ) → k < total → AssignmentReads m (f k) (f ((k + 1) % total))) → (k : ℕ) → k < total → (p q : ℕ) → Stands (f 0) p → Stands (f k) q → q + k ≤ p
        sinks f total step zero below p q sp sq =
            let e : slice_index order p ≡ slice_index order q = one-number (sym sp.1 ∙ sq.1) in
            ⊎_elim (λ less. absurd (o.once p q less sq.0 e)) (λ more. omega arith) (cases_lt p q)
        sinks f total step (suc k) below p q sp sq =
            let low : k < total = omega arith in
            let here = standing (f k) (f ((k + 1) % total)) (step k low) in
            let rest = sinks f total step k low p here.0 sp here.1 in
            let next : (k + 1) % total ≡ suc k = mod-eq_of_lt (omega arith) ∙ plus-one k in
            let less = falls (f k) (f (suc k)) here.0 q (subst (λ j. AssignmentReads m (f k) (f j)) next (step k low)) here.1 sq in
            omega (arith, rest, less)
          where
            plus-one : (k : ℕ) → k + 1 ≡ suc k
            plus-one k = omega arith

    pub ordering : IsOrdering m scope order places
    ordering = record {
      within = λ p below. let w = o.within p below in let l = n.reads_long in omega (arith, w, l);
      once = o.once;
      each = λ j name value e.
          let k = known (Drives false name) (driven-in name value (item-of name value j e)) in
          let at = assigned-at j name value e k.0 k.1 in
          (k.0, at.0, k.1, at.1, at.2, ordered-in k.0 (number-below scope name k.0 k.1));
      only = λ v j e. let at = n.noted v j e in (at.name, at.value, at.item, at.number);
      earlier = λ p j v name read value below e item r number.
          let at = n.noted (slice_index order p) j e in
          let same : Assign at.name at.value ≡ Assign name value = one-item (sym at.item ∙ item) in
          let value' : at.value ≡ value = cc same in
          before p v below (subst (λ xs. Contains xs v) (sym (at.row ∙ ap (λ x. map (number_at scope) (names_read x)) value'))
          (subst (λ x. Contains (map (number_at scope) (names_read value)) x) (number-is scope read v number) (map-in (number_at scope) (names_read value) read r)));
    }
      where
        one-item : {a b : ModItem} → Some a ≡ Some b → a ≡ b
        one-item p = cc p
