-- An order that grows by one net.
use Rattle.std.proofs.Common.{map, eqb, ◌≡◌, ◌≢◌, ℕ, zero, suc, ◌+◌, ◌<◌, ◌≤◌, ◌⊎◌, inl, inr, List, [], ◌∷◌, ◌++◌, length, Option, None, Some, IsSome, is_some, true, false, slice_get, slice_index}
use Rattle.std.proofs.Common.{slice_index_or, get_or, set, All, ap, sym, ◌∙◌, subst, arith, refl, length-append, length-set}
use Rattle.std.specs.List.{list_any}
use Rattle.std.proofs.lemmas.Bool.{cases_lt, cases_eq, eq-eqb}
use Rattle.std.proofs.lemmas.List.Elements.{All-cons, All-tail}
use Rattle.std.proofs.lemmas.List.{get_or-set_same, get_or-set_other, get_or_append_left, get_or_default, get_or-map, length-map}
use Rattle.std.proofs.lemmas.List.Folds.{list_any_at}
use Rattle.std.proofs.lemmas.Map.Steps.{le-length_from_below}
use Rattle.std.proofs.Math.Seq.{get_or-append_seam}
use Rattle.std.proofs.lemmas.Option.{same_Some, slice_get_read, slice_get_within, get_or_from_slice_get}
use Rattle.hw_net.specs.declared.netlist.Net.{Net}
use Rattle.hw_net.specs.declared.netlist.NetKind.{NetKind}
use Rattle.hw_net.specs.declared.netlist.NetKind.TheVariants.{Comb, Reg, EnReg, Acc, Bridge, Unit, Counter}
use Rattle.hw_net.specs.Netlist.{reads, reads_now, IsRanked}
use Rattle.hw_order.specs.Order.{IsOrder}
use Rattle.math_list.proofs.Places.{held, slice_get_inside}
use Rattle.hw_order.specs.inner.NetOrder.{place_of, IsPlaced, IsGrowing, IsClosed, Keeps, Serves, Grows, IsReader, IsLinked, IsLonger, Visits}

abbrev rank_or : Option ℕ → ℕ
rank_or None = 0
rank_or (Some rank) = rank

some-apart : {A : Type 0} (found : Option A) (x : A) → found ≡ None → found ≡ Some x → ⊥
some-apart found x p q = let e : None ≡ Some x = sym p ∙ q in cc

none-of : (ranks : List (Option ℕ)) (k : ℕ) (found : Option ℕ) → place_of ranks k ≡ found → ¬ IsPlaced ranks k → place_of ranks k ≡ None
none-of ranks k None e h = e
none-of ranks k (Some rank) e h = absurd (h (record { rank = rank; is = e }))

module _ (nets : List Net) (order : List ℕ) (ranks : List (Option ℕ)) (k : ℕ) (inside : k < length nets) (growing : IsGrowing nets order ranks) (absent : ¬ IsPlaced ranks k) where
  abbrev later : List (Option ℕ)
  later = set ranks k (Some (length order))

  none : place_of ranks k ≡ None
  none = none-of ranks k (place_of ranks k) refl absent

  own : place_of later k ≡ Some (length order)
  own = get_or-set_same ranks k (Some (length order)) None (omega (arith, growing.size))

  other : (j : ℕ) → j ≢ k → place_of later j ≡ place_of ranks j
  other j apart = get_or-set_other ranks k j (Some (length order)) None apart

  -- what has a place is another net
  another : (j rank : ℕ) → place_of ranks j ≡ Some rank → j ≢ k
  another j rank is e = some-apart (place_of ranks k) rank none (ap (place_of ranks) (sym e) ∙ is)

  pub kept : Keeps ranks later
  kept = record { each = λ j rank is. other j (another j rank is) ∙ is }

  pub serves : Serves nets ranks later k
  serves = record { placed = λ net there reads. record { rank = length order; is = own } }

  longer : length (order ++ k ∷ []) ≡ length order + 1
  longer = omega (arith, length-append order (k ∷ []))

  front : (i : ℕ) → i < length order → slice_index (order ++ k ∷ []) i ≡ slice_index order i
  front i h = get_or_append_left order (k ∷ []) 0 i h

  last : (i : ℕ) → i ≡ length order → slice_index (order ++ k ∷ []) i ≡ k
  last i e = ap (slice_index (order ++ k ∷ [])) e ∙ get_or-append_seam order k [] 0

  module _ (ready : (net : Net) → slice_get nets k ≡ Some net → All (IsPlaced ranks) (reads_now net.kind)) where
    earlier : (read : ℕ) → IsPlaced ranks read → (rank : ℕ) × (place_of later read ≡ Some rank) × (rank < length order)
    earlier read is = (is.rank, other read (another read is.rank is.is) ∙ is.is, (growing.each read is.rank is.is).0)

    pub grown : IsGrowing nets (order ++ k ∷ []) later
    grown = record {
      size = omega (arith, length-set ranks k (Some (length order)), growing.size);
      there = λ i h. elim (cases_lt i (length order)) [
        | inl less ↦ rw (front i less) (growing.there i less)
        | inr more ↦ rw (last i (omega (arith, longer))) inside
      ];
      at = λ i h. elim (cases_lt i (length order)) [
        | inl less ↦ rw (front i less) (other (slice_index order i) (another (slice_index order i) i (growing.at i less)) ∙ growing.at i less)
        | inr more ↦ (let e : i ≡ length order = omega (arith, longer) in rw (last i e) (own ∙ ap Some (sym e)))
      ];
      each = λ j rank is. elim (cases_eq j k) [
        | inl same ↦ (let e : length order ≡ rank = same_Some (length order) rank (sym own ∙ ap (place_of later) (sym same) ∙ is) in (omega (arith, longer), last rank (sym e) ∙ sym same))
        | inr apart ↦ (let old = growing.each j rank (sym (other j apart) ∙ is) in (omega (arith, longer, old.0), front rank old.0 ∙ old.1))
      ];
      after = λ j rank net there is. elim (cases_eq j k) [
        | inl same ↦ (let e : length order ≡ rank = same_Some (length order) rank (sym own ∙ ap (place_of later) (sym same) ∙ is) in
            λ n d within. subst (λ (r : ℕ). (before : ℕ) × (place_of later (slice_index_or (reads_now net.kind) n d) ≡ Some before) × (before < r)) e
            (earlier (slice_index_or (reads_now net.kind) n d) (ready net (ap (slice_get nets) (sym same) ∙ there) n d within)))
        | inr apart ↦ λ n d within.
            let old = growing.after j rank net there (sym (other j apart) ∙ is) n d within in
            (old.0, other (slice_index_or (reads_now net.kind) n d) (another (slice_index_or (reads_now net.kind) n d) old.0 old.1) ∙ old.1, old.2)
      ];
    }

-- no net stands twice in an order
pub order-within : (nets : List Net) (order : List ℕ) (ranks : List (Option ℕ)) → IsGrowing nets order ranks → length order ≤ length nets
order-within nets order ranks growing = omega (arith, le-length_from_below (map rank_or ranks) (length order) found, length-map ranks rank_or, growing.size)
  where
    found : (rank : ℕ) → rank < length order → list_any (eqb rank) (map rank_or ranks) ≡ true
    found rank h =
        let net : ℕ = slice_index order rank in
        let inside : net < length ranks = omega (arith, growing.there rank h, growing.size) in
        let read : get_or (map rank_or ranks) net 0 ≡ rank = get_or-map rank_or ranks net None 0 inside ∙ ap rank_or (growing.at rank h) in
        let within : net < length (map rank_or ranks) = omega (arith, inside, length-map ranks rank_or) in
        list_any_at (eqb rank) (map rank_or ranks) net 0 within (eq-eqb rank (get_or (map rank_or ranks) net 0) (sym read))

-- the net at a place is one
pub one-net : (nets : List Net) (k : ℕ) (one net : Net) (P : Net → Type 0) → k < length nets → one ≡ get_or nets k one → slice_get nets k ≡ Some net → P net → P one
one-net nets k one net P inside is there h =
    let both : Some net ≡ Some one = sym there ∙ slice_get_read nets (length nets) k one refl inside is in
    let same : net ≡ one = cc in
    subst P same h

pub net-one : (nets : List Net) (k : ℕ) (one net : Net) (P : Net → Type 0) → k < length nets → one ≡ get_or nets k one → slice_get nets k ≡ Some net → P one → P net
net-one nets k one net P inside is there h =
    let both : Some one ≡ Some net = sym (slice_get_read nets (length nets) k one refl inside is) ∙ there in
    let same : one ≡ net = cc in
    subst P same h

pub grows-trans : (a b c : List (List ℕ)) → Grows a b → Grows b c → Grows a c
grows-trans a b c p q = record { size = q.size ∙ p.size; each = λ read reader is. q.each read reader (p.each read reader is) }

pub linked-more : (nets : List Net) (before after : List (List ℕ)) (k : ℕ) (one : Net) → k < length nets → one ≡ get_or nets k one → IsLinked nets before k → Grows before after
    → All (λ read. IsReader after read k) (reads_now one.kind) → IsLinked nets after (k + 1)
linked-more nets before after k one inside is linked grows knows = record { each = λ j net below there. more j net there below (cases_lt j k) }
  where
    more : (j : ℕ) (net : Net) → slice_get nets j ≡ Some net → j < k + 1 → (j < k) ⊎ (k ≤ j) → All (λ read. IsReader after read j) (reads_now net.kind)
    more j net there below (inl less) = λ n d within. grows.each (slice_index_or (reads_now net.kind) n d) j (linked.each j net less there n d within)
    more j net there below (inr late) =
        let e : k ≡ j = omega arith in
        subst (λ (x : ℕ). All (λ (read : ℕ). IsReader after read x) (reads_now net.kind)) e
        (net-one nets k one net (λ (x : Net). All (λ (read : ℕ). IsReader after read k) (reads_now x.kind)) inside is (ap (slice_get nets) e ∙ there) knows)

pub longer-self : (order : List ℕ) → IsLonger order order
longer-self order = record { size = omega arith; each = λ i h. refl }

pub longer-more : (order : List ℕ) (k : ℕ) → IsLonger order (order ++ k ∷ [])
longer-more order k = record { size = omega (arith, length-append order (k ∷ [])); each = λ i h. get_or_append_left order (k ∷ []) 0 i h }

pub longer-trans : (a b c : List ℕ) → IsLonger a b → IsLonger b c → IsLonger a c
longer-trans a b c p q = record { size = omega (arith, p.size, q.size); each = λ i h. q.each i (omega (arith, p.size)) ∙ p.each i h }

pub keeps-self : (ranks : List (Option ℕ)) → Keeps ranks ranks
keeps-self ranks = record { each = λ k rank is. is }

pub keeps-trans : (a b c : List (Option ℕ)) → Keeps a b → Keeps b c → Keeps a c
keeps-trans a b c p q = record { each = λ k rank is. q.each k rank (p.each k rank is) }

pub visits-none : (nets : List Net) (order : List ℕ) (ranks : List (Option ℕ)) → IsGrowing nets order ranks → Visits nets order order ranks ranks
visits-none nets order ranks growing = record { growing = growing; longer = record { size = omega arith; each = λ i inside. refl }; kept = record { each = λ k rank is. is } }

pub visits-trans : (nets : List Net) (a b c : List ℕ) (x y z : List (Option ℕ)) → Visits nets a b x y → Visits nets b c y z → Visits nets a c x z
visits-trans nets a b c x y z p q = record { growing = q.growing; longer = longer-trans a b c p.longer q.longer; kept = keeps-trans x y z p.kept q.kept }

still-placed : (a b : List (Option ℕ)) (k : ℕ) → Keeps a b → IsPlaced a k → IsPlaced b k
still-placed a b k keeps is = record { rank = is.rank; is = keeps.each k is.rank is.is }

-- all stand before the last, or one is the last
any-last : (ranks : List (Option ℕ)) (done : ℕ) (reads : List ℕ) → All (λ read. (rank : ℕ) × (place_of ranks read ≡ Some rank) × (rank < done + 1)) reads
    → All (λ read. (rank : ℕ) × (place_of ranks read ≡ Some rank) × (rank < done)) reads ⊎ ((n : ℕ) × (n < length reads) × (place_of ranks (slice_index_or reads n 0) ≡ Some done))
any-last ranks done [] all = inl (λ k d h. absurd (omega arith))
any-last ranks done (x ∷ reads) all =
    let one : (rank : ℕ) × (place_of ranks x ≡ Some rank) × (rank < done + 1) = all 0 0 (omega arith) in
    let rest = any-last ranks done reads (All-tail (λ (read : ℕ). (rank : ℕ) × (place_of ranks read ≡ Some rank) × (rank < done + 1)) x reads all) in
    elim (cases_lt one.0 done) [
      | inl less ↦ elim rest [
        | inl below ↦ inl (All-cons (λ (read : ℕ). (rank : ℕ) × (place_of ranks read ≡ Some rank) × (rank < done)) x reads (one.0, one.1, less) below)
        | inr last ↦ inr (suc last.0, omega (arith, last.1), last.2)
      ]
      | inr more ↦ (let e : one.0 ≡ done = omega (arith, one.2) in inr (0, omega arith, one.1 ∙ ap Some e))
    ]

-- two stages of one order
module _ (nets : List Net) (order next : List ℕ) (ranks later : List (Option ℕ))
    (growing : IsGrowing nets order ranks) (grown : IsGrowing nets next later) (longer : IsLonger order next)
    (keeps : Keeps ranks later) where
  -- what stands among the first of the order stood there before
  stood : (read rank : ℕ) → rank < length order → place_of later read ≡ Some rank → place_of ranks read ≡ Some rank
  stood read rank h is =
      let e : slice_index order rank ≡ read = sym (longer.each rank h) ∙ (grown.each read rank is).1 in
      ap (place_of ranks) (sym e) ∙ growing.at rank h

  all-stood : (done : ℕ) (reads : List ℕ) → done ≤ length order
      → All (λ read. (rank : ℕ) × (place_of later read ≡ Some rank) × (rank < done)) reads
      → All (λ read. (rank : ℕ) × (place_of ranks read ≡ Some rank) × (rank < done)) reads
  all-stood done reads h all n d within =
      let one = all n d within in
      (one.0, stood (slice_index_or reads n d) one.0 (omega (arith, one.2)) one.1, one.2)

  pub closed-kept : (done count : ℕ) → done ≤ length order → IsClosed nets ranks done count → IsClosed nets later done count
  closed-kept done count h closed = record {
    each = λ k net below there reads. still-placed ranks later k keeps (closed.each k net below there (all-stood done (reads_now net.kind) h reads));
  }

  placed-of : (done : ℕ) (reads : List ℕ) → All (λ read. (rank : ℕ) × (place_of ranks read ≡ Some rank) × (rank < done)) reads → All (IsPlaced ranks) reads
  placed-of done reads all n d within = let one = all n d within in record { rank = one.0; is = one.1 }

  pub closed-more : (done k : ℕ) → done ≤ length order → IsClosed nets ranks done k → Serves nets ranks later k → IsClosed nets later done (k + 1)
  closed-more done k h closed serves = record {
    each = λ j net below there reads. elim (cases_lt j k) [
      | inl less ↦ (closed-kept done k h closed).each j net less there reads
      | inr more ↦ (let e : j ≡ k = omega arith in
          subst (IsPlaced later) (sym e) (serves.placed net (ap (slice_get nets) (sym e) ∙ there) (placed-of done (reads_now net.kind) (all-stood done (reads_now net.kind) h reads))))
    ];
  }

  -- one net of the order is done when its readers have been visited
  pub closed-next : (readers : List (List ℕ)) (done : ℕ) → done < length order → IsLinked nets readers (length nets) → IsClosed nets ranks done (length nets)
      → ((k : ℕ) → IsReader readers (slice_index order done) k → Serves nets ranks later k) → IsClosed nets later (done + 1) (length nets)
  closed-next readers done h linked closed served = record {
    each = λ k net below there reads.
        let before : All (λ read. (rank : ℕ) × (place_of ranks read ≡ Some rank) × (rank < done + 1)) (reads_now net.kind) = all-stood (done + 1) (reads_now net.kind) (omega arith) reads in
        elim (any-last ranks done (reads_now net.kind) before) [
          | inl all ↦ still-placed ranks later k keeps (closed.each k net below there all)
          | inr last ↦
              let e : slice_index order done ≡ slice_index_or (reads_now net.kind) last.0 0 = (growing.each (slice_index_or (reads_now net.kind) last.0 0) done last.2).1 in
              let reader : IsReader readers (slice_index order done) k = subst (λ (read : ℕ). IsReader readers read k) (sym e) (linked.each k net below there last.0 0 last.1) in
              (served k reader).placed net there (placed-of (done + 1) (reads_now net.kind) before)
        ];
  }

-- a net that reads only nets with places has one, and so all have
module _ (nets : List Net) (order : List ℕ) (ranks : List (Option ℕ)) (growing : IsGrowing nets order ranks) (closed : IsClosed nets ranks (length order) (length nets))
    (there : All (λ net. All (λ read. read < length nets) (reads_now net.kind)) nets) (rank : ℕ → ℕ) (ranked : IsRanked nets rank) where
  all-below : (fuel k : ℕ) → rank k < fuel → k < length nets → IsPlaced ranks k
  all-below zero k h inside = absurd (omega arith)
  all-below (suc fuel) k h inside = net-of (λ read below known. all-below fuel read below known) (slice_get nets k) refl
    where
      net-of : ((read : ℕ) → rank read < fuel → read < length nets → IsPlaced ranks read) → (found : Option Net) → slice_get nets k ≡ found → IsPlaced ranks k
      net-of more None e = absurd (slice_get_inside nets k inside e)
      net-of more (Some net) e = closed.each k net inside e (λ n d within.
          let read : ℕ = slice_index_or (reads_now net.kind) n d in
          let below : rank read < rank k = ranked.falls k net e n d within in
          let known : read < length nets = held (λ (one : Net). All (λ (r : ℕ). r < length nets) (reads_now one.kind)) nets k net there e n d within in
          let is = more read (omega arith) known in
          (is.rank, is.is, (growing.each read is.rank is.is).0))

  pub all-placed : (k : ℕ) → k < length nets → IsPlaced ranks k
  all-placed k inside = all-below (suc (rank k)) k (omega arith) inside

  pub order-of : IsOrder nets order
  order-of = record {
    rank = λ k. rank_or (place_of ranks k);
    there = growing.there;
    at = λ i h. ap rank_or (growing.at i h);
    all = λ k inside. (let is = all-placed k inside in rw (ap rank_or is.is) (growing.each k is.rank is.is).0);
    each = λ k inside. (let is = all-placed k inside in rw (ap rank_or is.is) (growing.each k is.rank is.is).1);
    ranked = record {
      falls = λ k net is n d within.
          let own = all-placed k (slice_get_within nets k net is) in
          let one = growing.after k own.rank net is own.is n d within in
          rw (ap rank_or one.1, ap rank_or own.is) one.2;
    };
  }

  pub all-some : All IsSome ranks
  all-some k d within =
      let is = all-placed k (omega (arith, growing.size)) in
      let e : slice_index_or ranks k d ≡ Some is.rank = get_or_default ranks k d None within ∙ is.is in
      ap is_some e

-- where all nets have places, none reaches itself in a clock
pub all-ranked : (nets : List Net) (order : List ℕ) (ranks : List (Option ℕ)) → IsGrowing nets order ranks → All IsSome ranks → (rank : ℕ → ℕ) × IsRanked nets rank
all-ranked nets order ranks growing all = (
  λ k. rank_or (place_of ranks k),
  record {
    falls = λ k net is n d within.
        let inside : k < length ranks = omega (arith, growing.size, slice_get_within nets k net is) in
        let own : IsPlaced ranks k = some-place (place_of ranks k) refl (all k None inside) in
        let one = growing.after k own.rank net is own.is n d within in
        rw (ap rank_or one.1, ap rank_or own.is) one.2;
  },
)
  where
    some-place : {k : ℕ} (found : Option ℕ) → place_of ranks k ≡ found → IsSome found → IsPlaced ranks k
    some-place None e some = absurd (let f : false ≡ true = some in cc)
    some-place (Some rank) e some = record { rank = rank; is = e }

pub serves-on : (nets : List Net) (before now after : List (Option ℕ)) (k : ℕ) → Keeps before now → Serves nets now after k → Serves nets before after k
serves-on nets before now after k keeps serves =
    record {
      placed = λ net there reads. serves.placed net there
          (λ n d within. still-placed before now (slice_index_or (reads_now net.kind) n d) keeps (reads n d within));
    }

pub serves-still : (nets : List Net) (before now after : List (Option ℕ)) (k : ℕ) → Keeps now after → Serves nets before now k → Serves nets before after k
serves-still nets before now after k keeps serves = record { placed = λ net there reads. still-placed now after k keeps (serves.placed net there reads) }

-- an element that was read by its place, whatever stands past the end
pub read-at : {A : Type 0} (xs : List A) (i : ℕ) (x d : A) → i < length xs → x ≡ get_or xs i x → x ≡ get_or xs i d
read-at xs i x d h is = sym (get_or_from_slice_get xs i x d (slice_get_read xs (length xs) i x refl h is))

-- what a net reads in the same clock is among what it reads
pub now-there : (bound : ℕ) (kind : NetKind) → All (λ read. read < bound) (reads kind) → All (λ read. read < bound) (reads_now kind)
now-there bound (Comb op args) all = all
now-there bound (Reg frame slot first from) all = λ k d h. absurd (omega arith)
now-there bound (EnReg frame enable reset first from) all = λ k d h. absurd (omega arith)
now-there bound (Acc frame enable from) all = λ k d h. absurd (omega arith)
now-there bound (Bridge frame live from) all = all
now-there bound (Unit left right) all = all
now-there bound (Counter frame) all = λ k d h. absurd (omega arith)

pub all-now-there : (nets : List Net) → All (λ net. All (λ read. read < length nets) (reads net.kind)) nets → All (λ net. All (λ read. read < length nets) (reads_now net.kind)) nets
all-now-there nets there k d within = now-there (length nets) (slice_index_or nets k d).kind (there k d within)
