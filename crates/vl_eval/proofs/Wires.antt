-- One more number in the order: its assignment's operations, and the places of those before it stay.
use Rattle.std.proofs.Common.{◌≡◌, ◌≢◌, ◌<◌, ◌≤◌, ◌+◌, ◌%◌, ◌^◌, inl, inr, ◌⊎◌, ⊎_elim, ℕ, max, List, [], length, set, slice_get, slice_index, slice_index_or, Contains, Option, None, Some, refl, sym}
use Rattle.std.proofs.Common.{ap, subst, ◌∙◌, arith}
use Rattle.std.specs.Option.{option_and_then}
use Rattle.std.proofs.lemmas.Bool.{cases_lt, cases_eq}
use Rattle.std.proofs.lemmas.Nat.{mod_below, pow_pos}
use Rattle.std.proofs.lemmas.Option.{slice_get_within, slice_get-get_or, get_or_from_slice_get}
use Rattle.std.proofs.lemmas.List.{get_or-set_same, get_or-set_other, get_or_default, length-set}
use Rattle.vl_ast.specs.declared.expressions.Expr.{Expr}
use Rattle.vl_ast.specs.declared.modules.ModItem.{ModItem}
use Rattle.vl_ast.specs.declared.modules.ModItem.TheVariants.{Assign}
use Rattle.vl_ast.specs.declared.modules.Module.{Module}
use Rattle.vl_ast.specs.Conditions.{mentioned, undriven, doubly}
use Rattle.vl_ast.specs.Context.{own_length, is_signed}
use Rattle.vl_ast.specs.Nets.{Reads, Declared, Declares, declarations, mentions, names_read}
use Rattle.vl_ast.specs.Value.{assigned}
use Rattle.vl_ast.proofs.Agree.{ByLayer, values-agree}
use Rattle.math_list.proofs.Elements.{map-in}
use Rattle.vl_ast.proofs.Facts.{listed-mention, mention-listed, read-declared, reads-of-assign}
use Rattle.vl_check.proofs.ScopeNames.{at-number}
use Rattle.vl_check.specs.declared.scope.Scope.{Scope}
use Rattle.vl_check.specs.Ordering.{IsOrdering}
use Rattle.vl_check.specs.Scope.{IsScopeOf, names_in, nets_in, number_in}
use Rattle.vl_eval.specs.declared.ops.Op.{Op}
use Rattle.vl_eval.specs.inner.Assigns.{Assigns}
use Rattle.vl_eval.specs.inner.Ops.{IsSettled}
use Rattle.vl_eval.specs.inner.PlanOperations.{AreNumbers, AreWired, FixedFit, IsAssigned, IsFixed, IsGiven, IsWired, as_assignment, assignment_at, row_in}
use Rattle.vl_eval.specs.inner.PlaceBits.{Grows, NamesFit}
use Rattle.vl_eval.specs.inner.Site.{ArePlaced, slot_at, slot_in}
use Rattle.vl_eval.proofs.Builds.{grows-length, grows-more, grows-none, settled-later}

module _ (by_layer : ByLayer) (m : Module) (scope : Scope) (order : List ℕ) (places : List (Option ℕ))
    (s : IsScopeOf m scope) (driven : undriven m ≡ None) (once : doubly m ≡ None)
    (o : IsOrdering m scope order places) where
  abbrev count : ℕ
  count = length (names_in scope)

  one-number : {a b : ℕ} → Some a ≡ Some b → a ≡ b
  one-number p = cc p

  -- a name with a number has its place
  slot-of : (slots : List ℕ) (name : List ℕ) (k : ℕ) → number_in scope name ≡ Some k → slot_in scope slots name ≡ slice_index slots k
  slot-of slots name k e = ap (slot_at slots) e

  pub in-items : (name : List ℕ) (value : Expr) (j : ℕ) → slice_get m.items j ≡ Some (Assign name value) → Contains m.items (Assign name value)
  in-items name value j e = (j, slice_get_within m.items j (Assign name value) e, get_or_from_slice_get m.items j (Assign name value) (Assign name value) e)

  -- what an assignment reads has a number
  read-known : (name read : List ℕ) (value : Expr) (j : ℕ) → slice_get m.items j ≡ Some (Assign name value) → Contains (names_read value) read → (k : ℕ) × (number_in scope read ≡ Some k)
  read-known name read value j e c = s.knows read (map-in mentioned (mentions m) (Reads read) (reads-of-assign m driven once name read value (in-items name value j e) c))

  -- the number at a place is that of the name that its item assigns
  at-order : (p j : ℕ) (name : List ℕ) (value : Expr) → slice_index_or places (slice_index order p) None ≡ Some j
      → slice_get m.items j ≡ Some (Assign name value) → number_in scope name ≡ Some (slice_index order p)
  at-order p j name value e item =
      let r = o.only (slice_index order p) j e in
      let same : Assign r.0 r.1 ≡ Assign name value = one-item (sym r.2 ∙ item) in
      let n : r.0 ≡ name = cc same in
      ap (number_in scope) (sym n) ∙ r.3
    where
      one-item : {a b : ModItem} → Some a ≡ Some b → a ≡ b
      one-item x = cc x

  name-of : (n : List ℕ) (k : ℕ) → number_in scope n ≡ Some k → slice_index_or (names_in scope) k [] ≡ n
  name-of n k e = get_or_from_slice_get (names_in scope) k n [] (at-number scope.names.items k n e)

  declared-number : (d : Declared) → Contains (declarations m) d → (k : ℕ) × (number_in scope d.name ≡ Some k)
  declared-number d listed = s.knows d.name (map-in mentioned (mentions m) (Declares d) (listed-mention m driven once d listed))

  -- a name has a place in the items exactly where one assigns it
  none-fixed : (name : List ℕ) (k : ℕ) → number_in scope name ≡ Some k → slice_index_or places k None ≡ None → IsFixed m name
  none-fixed name k e none value (i, low, at) =
      let r = o.each i name value (slice_get-get_or m.items i (Assign name value) low ∙ ap Some at) in
      let same : r.0 ≡ k = one-number (sym r.2 ∙ e) in
      absurd (cc (sym (ap (λ n. slice_index_or places n None) same) ∙ r.3, none))

  assigned-at : (name : List ℕ) (k i : ℕ) → number_in scope name ≡ Some k → slice_index_or places k None ≡ Some i → (value : Expr) × (slice_get m.items i ≡ Some (Assign name value))
  assigned-at name k i e place =
      let r = o.only k i place in
      let same : r.0 ≡ name = sym (name-of r.0 k r.3) ∙ name-of name k e in
      (r.1, r.2 ∙ ap (λ n. Some (Assign n r.1)) same)

  place-none : (name : List ℕ) (k : ℕ) → number_in scope name ≡ Some k → IsFixed m name → slice_index_or places k None ≡ None
  place-none name k e fixed = by (slice_index_or places k None) refl where
    by : (x : Option ℕ) → slice_index_or places k None ≡ x → slice_index_or places k None ≡ None
    by None none = none
    by (Some i) place = let r = assigned-at name k i e place in absurd (fixed r.0 (in-items name r.0 i r.1))

  either-way : (name : List ℕ) (k : ℕ) → number_in scope name ≡ Some k → IsAssigned m name ⊎ IsFixed m name
  either-way name k e = by (slice_index_or places k None) refl where
    by : (x : Option ℕ) → slice_index_or places k None ≡ x → IsAssigned m name ⊎ IsFixed m name
    by None none = inr (none-fixed name k e none)
    by (Some i) place = let r = assigned-at name k i e place in inl (r.0, in-items name r.0 i r.1)

  -- what the order's number at a place assigns
  pub record Assigned (k : ℕ) (name : List ℕ) (value : Expr) : Type 0 where
    pub j : ℕ
    pub place : slice_index_or places k None ≡ Some j
    pub item : slice_get m.items j ≡ Some (Assign name value)

  assigned-item : (j k : ℕ) (x : Option ModItem) (name : List ℕ) (value : Expr) → slice_get m.items j ≡ x
      → slice_index_or places k None ≡ Some j → as_assignment x ≡ Some (name, value) → Assigned k name value
  assigned-item j k (Some (Assign n v)) name value e place f =
      let both : (n, v) ≡ (name, value) = one-pair f in
      let same : Assign n v ≡ Assign name value = ap (λ (p : List ℕ × Expr). Assign p.0 p.1) both in
      record { j = j; place = place; item = e ∙ ap Some same }
    where
      one-pair : {a b : List ℕ × Expr} → Some a ≡ Some b → a ≡ b
      one-pair p = cc p
  assigned-item j k _ name value e place f = absurd (cc f)

  pub some-assignment : (k : ℕ) (name : List ℕ) (value : Expr) → assignment_at m.items places k ≡ Some (name, value) → Assigned k name value
  some-assignment k name value e = by (slice_index_or places k None) refl e where
    by : (x : Option ℕ) → slice_index_or places k None ≡ x → option_and_then (λ place. as_assignment (slice_get m.items place)) x ≡ Some (name, value) → Assigned k name value
    by None place f = absurd (cc f)
    by (Some j) place f = assigned-item j k (slice_get m.items j) name value refl place f

  pub no-assignment : (k : ℕ) → assignment_at m.items places k ≡ None → slice_index_or places k None ≡ None
  no-assignment k e = by (slice_index_or places k None) refl e where
    by : (x : Option ℕ) → slice_index_or places k None ≡ x → option_and_then (λ place. as_assignment (slice_get m.items place)) x ≡ None → slice_index_or places k None ≡ None
    by None place f = place
    by (Some j) place f = let r = o.only k j place in absurd (cc (sym (ap as_assignment r.2), f))

  -- all of them
  pub wired-all : (slots : List ℕ) (ops : List Op) → IsWired m scope order places (length order) slots ops → AreWired m scope slots ops
  wired-all slots ops w = record {
    grows = w.grows;
    long = w.long;
    below = w.below;
    fixed = λ name k e fixed. w.fixed k (slice_get_within (names_in scope) k name (at-number scope.names.items k name e)) (place-none name k e fixed);
    given = λ name value (i, low, at).
        let r = o.each i name value (slice_get-get_or m.items i (Assign name value) low ∙ ap Some at) in
        let q = r.5 in
        let here : slice_index order q.0 ≡ r.0 = get_or_default order q.0 0 r.0 q.1 ∙ q.2 in
        w.given q.0 r.1 name value q.1 (ap (λ n. slice_index_or places n None) here ∙ r.3) r.4;
    either = either-way;
  }

  pub wired-none : (slots : List ℕ) (ops : List Op) → AreNumbers count slots → ops ≡ [] → IsWired m scope order places 0 slots ops
  wired-none slots ops n e = record {
    grows = subst (λ zs. Grows count [] zs) (sym e) (grows-none count []);
    long = n.long;
    below = λ k low. let a = n.at k low in omega (arith, a, low);
    fixed = λ k low none. n.at k low;
    given = λ q j name value less place item. absurd (omega (arith, less));
  }

  -- a number that no item assigns
  pub wired-same : (p : ℕ) (slots : List ℕ) (ops : List Op) → p < length order
      → slice_index_or places (slice_index order p) None ≡ None → IsWired m scope order places p slots ops
      → IsWired m scope order places (p + 1) slots ops
  wired-same p slots ops below none w = record {
    grows = w.grows;
    long = w.long;
    below = w.below;
    fixed = w.fixed;
    given = λ q j name value less place item. ⊎_elim (λ old. w.given q j name value old place item)
        (λ new. let e : q ≡ p = omega (arith, less, new) in absurd (cc (sym (ap (λ k. slice_index_or places (slice_index order k) None) e) ∙ place, none)))
        (cases_lt q p);
  }

  -- what the item at a place reads stands before it in the order
  reads-before : (p j : ℕ) (name read : List ℕ) (value : Expr) → p < length order
      → slice_index_or places (slice_index order p) None ≡ Some j → slice_get m.items j ≡ Some (Assign name value)
      → Contains (names_read value) read
      → (k q : ℕ) × (number_in scope read ≡ Some k) × (q < p) × (slice_index order q ≡ k)
  reads-before p j name read value below place item c =
      let k = read-known name read value j item c in
      let q = o.earlier p j k.0 name read value below place item c k.1 in
      (k.0, q.0, k.1, q.1, q.2)

  module _ (p j : ℕ) (name : List ℕ) (value : Expr) (below : p < length order)
      (place : slice_index_or places (slice_index order p) None ≡ Some j)
      (item : slice_get m.items j ≡ Some (Assign name value))
      (slots : List ℕ) (slot : ℕ) where
    abbrev v : ℕ
    v = slice_index order p

    abbrev slots' : List ℕ
    slots' = set slots v slot

    -- names of other numbers keep their places
    keeps : (n : List ℕ) (k : ℕ) → number_in scope n ≡ Some k → k ≢ v → slot_in scope slots' n ≡ slot_in scope slots n
    keeps n k e other = slot-of slots' n k e ∙ get_or-set_other slots v k slot 0 other ∙ sym (slot-of slots n k e)

    before-p : (q : ℕ) → q < p → slice_index order q ≢ v
    before-p q less = o.once q p less below

    unassigned : (k : ℕ) → slice_index_or places k None ≡ None → k ≢ v
    unassigned k none e = absurd (cc (sym (ap (λ n. slice_index_or places n None) e ∙ place), none))

    -- so do those that an earlier item reads
    reads-keep : (q i : ℕ) (n read : List ℕ) (e : Expr) → q ≤ p
        → slice_index_or places (slice_index order q) None ≡ Some i → slice_get m.items i ≡ Some (Assign n e)
        → Contains (names_read e) read → slot_in scope slots' read ≡ slot_in scope slots read
    reads-keep q i n read e le at it c =
        let r = reads-before q i n read e (omega (arith, le, below)) at it c in
        keeps read r.0 r.2 (λ same. before-p r.1 (omega (arith, r.3, le)) (r.4 ∙ same))

    -- those that the assignment reads have places
    pub wired-placed : (ops : List Op) → ((n : List ℕ) → (nets_in scope n).width ≤ 128) → IsWired m scope order places p slots ops → ArePlaced count scope slots ops (names_read value)
    wired-placed ops few w = record {
      below = λ read c.
          let k = read-known name read value j item c in
          let b = w.below k.0 (slice_get_within (names_in scope) k.0 read (at-number scope.names.items k.0 read k.1)) in
          let e = slot-of slots read k.0 k.1 in
          omega (arith, b, e);
      few = λ read c. few read;
    }

    old-fit : (values : ℕ → ℕ) → FixedFit m scope (row_in scope slots' values) → FixedFit m scope (row_in scope slots values)
    old-fit values f = record {
      at = λ d listed fixed.
          let k = declared-number d listed in
          subst (λ x. values x < 2 ^ (nets_in scope d.name).width) (keeps d.name k.0 k.1 (unassigned k.0 (place-none d.name k.0 k.1 fixed))) (f.at d listed fixed);
    }

    same-value : (q i : ℕ) (n : List ℕ) (e : Expr) (width : ℕ) → q ≤ p → slice_index_or places (slice_index order q) None ≡ Some i → slice_get m.items i ≡ Some (Assign n e) → (values : ℕ → ℕ)
        → assigned (nets_in scope) (row_in scope slots values) width e ≡ assigned (nets_in scope) (row_in scope slots' values) width e
    same-value q i n e width le at it values =
        ap (λ x. x % 2 ^ width) (values-agree by_layer (nets_in scope) (row_in scope slots values)
        (row_in scope slots' values) e (max width (own_length (nets_in scope) e)) (is_signed (nets_in scope) e)
        (λ read c. ap values (sym (reads-keep q i n read e le at it c))))

    -- the names that the assignment reads have bits that fit
    reads-fit : (ops : List Op) → IsWired m scope order places p slots ops → (values : ℕ → ℕ)
        → IsSettled count ops values → FixedFit m scope (row_in scope slots values)
        → NamesFit (nets_in scope) (row_in scope slots values) (names_read value)
    reads-fit ops w values st f = record { at = λ read c. on read c (reads-before p j name read value below place item c) } where
      on : (read : List ℕ) → Contains (names_read value) read
          → (k q : ℕ) × (number_in scope read ≡ Some k) × (q < p) × (slice_index order q ≡ k)
          → row_in scope slots values read < 2 ^ (nets_in scope read).width
      on read c (k, q, known, less, at) = by (slice_index_or places k None) refl where
        by : (x : Option ℕ) → slice_index_or places k None ≡ x → row_in scope slots values read < 2 ^ (nets_in scope read).width
        by None e =
            let d = read-declared m driven once read (reads-of-assign m driven once name read value (in-items name value j item) c) in
            subst (λ n. row_in scope slots values n < 2 ^ (nets_in scope n).width) d.2
            (f.at d.0 (mention-listed m driven once d.0 d.1) (none-fixed d.0.name k (ap (number_in scope) d.2 ∙ known) e))
        by (Some i) e =
            let r = o.only k i e in
            let same : r.0 ≡ read = sym (name-of r.0 k r.3) ∙ name-of read k known in
            let g = w.given q i r.0 r.1 less (ap (λ n. slice_index_or places n None) at ∙ e) r.2 in
            subst (λ n. row_in scope slots values n < 2 ^ (nets_in scope n).width) same
            (subst (λ x. x < 2 ^ (nets_in scope r.0).width) (sym (g.is values st f)) (mod_below _ (2 ^ (nets_in scope r.0).width) (pow_pos (nets_in scope r.0).width)))

    pub wired-more : (ops ops' : List Op) (width : ℕ) → width ≡ (nets_in scope name).width
        → Assigns count scope slots ops ops' slot width value → IsWired m scope order places p slots ops
        → IsWired m scope order places (p + 1) slots' ops'
    wired-more ops ops' width net a w = record {
      grows = grows-more count [] ops ops' w.grows a.grows;
      long = length-set slots v slot ∙ w.long;
      below = λ k low. ⊎_elim
          (λ same. let l = w.long in let b = a.below in
          let here : slice_index slots' k ≡ slot = ap (slice_index slots') same ∙ get_or-set_same slots v slot 0 (omega (arith, l, same, low)) in omega (arith, here, b))
          (λ other. let b = w.below k low in let g = grows-length count ops ops' a.grows in let here = get_or-set_other slots v k slot 0 other in omega (arith, here, b, g))
          (cases_eq k v);
      fixed = λ k low none. get_or-set_other slots v k slot 0 (unassigned k none) ∙ w.fixed k low none;
      given = λ q i n e less at it. ⊎_elim (λ old. earlier q i n e old at it) (λ new. let same : q ≡ p = omega (arith, less, new) in now q i n e same at it) (cases_lt q p);
    }
      where
        settled : (values : ℕ → ℕ) → IsSettled count ops' values → IsSettled count ops values
        settled values st = settled-later by_layer count scope slots ops ops' a.grows values st

        earlier : (q i : ℕ) (n : List ℕ) (e : Expr) → q < p → slice_index_or places (slice_index order q) None ≡ Some i → slice_get m.items i ≡ Some (Assign n e) → IsGiven m scope slots' ops' n e
        earlier q i n e less at it = record {
          is = λ values st f.
              let g = (w.given q i n e less at it).is values (settled values st) (old-fit values f) in
              ap values (keeps n (slice_index order q) (at-order q i n e at it) (before-p q less)) ∙ g
              ∙ same-value q i n e (nets_in scope n).width (omega (arith, less)) at it values;
        }

        now : (q i : ℕ) (n : List ℕ) (e : Expr) → q ≡ p → slice_index_or places (slice_index order q) None ≡ Some i → slice_get m.items i ≡ Some (Assign n e) → IsGiven m scope slots' ops' n e
        now q i n e same at it =
            let place' : slice_index_or places v None ≡ Some i = ap (λ k. slice_index_or places (slice_index order k) None) (sym same) ∙ at in
            let ij : i ≡ j = one-number (sym place' ∙ place) in
            let one : Assign n e ≡ Assign name value = one-item (sym it ∙ ap (slice_get m.items) ij ∙ item) in
            let names : name ≡ n = cc one in
            let exprs : value ≡ e = cc one in
            subst (λ x. IsGiven m scope slots' ops' x e) names (subst (λ x. IsGiven m scope slots' ops' name x) exprs here)
          where
            one-item : {x y : ModItem} → Some x ≡ Some y → x ≡ y
            one-item h = cc h

            number-below : (n : List ℕ) (k : ℕ) → number_in scope n ≡ Some k → k < count
            number-below n k e' = slice_get_within (names_in scope) k n (at-number scope.names.items k n e')

            here : IsGiven m scope slots' ops' name value
            here = record {
              is = λ values st f.
                  let l = w.long in
                  let number = at-order p j name value place item in
                  let low = number-below name v number in
                  let slot-is : slot_in scope slots' name ≡ slot = slot-of slots' name v number ∙ get_or-set_same slots v slot 0 (omega (arith, l, low)) in
                  ap values slot-is ∙ a.is values st (reads-fit ops w values (settled values st) (old-fit values f))
                  ∙ ap (λ k. assigned (nets_in scope) (row_in scope slots values) k value) net
                  ∙ same-value p j name value (nets_in scope name).width (omega arith) place item values;
            }
