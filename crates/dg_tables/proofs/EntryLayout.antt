-- How entries are laid out, one block behind another.
use Rattle.std.proofs.Common.{◌≡◌, ℕ, zero, suc, ◌+◌, ◌-◌, ◌^◌, ◌<◌, ◌≤◌, ◌⊎◌, ◌++◌, inl, inr, List, [], ◌∷◌, length, map, Some, slice_get, length-append, length-set, get_or-set_other}
use Rattle.std.proofs.Common.{get_or-set_same, ap, ap₂, sym, ◌∙◌, subst, subst₂, refl, arith, le_refl}
use Rattle.std.specs.Prelude.{slice_set, slice_index_or}
use Rattle.std.proofs.lemmas.Bool.{cases_lt}
use Rattle.std.proofs.lemmas.Option.{none-some, same_Some, slice_get_within, slice_get-get_or, get_or_from_slice_get}
use Rattle.math_list.specs.Numbers.{numbers_from}
use Rattle.math_list.proofs.Numbers.{mapped_at, length_mapped}
use Rattle.dg_model.specs.declared.diagram.Diagram.{Diagram}
use Rattle.dg_model.specs.declared.diagram.Block.{Block}
use Rattle.dg_model.specs.Attributes.{attributes_of}
use Rattle.dg_model.specs.Checked.{CheckedDiagram}
use Rattle.dg_model.specs.Signals.{Attributes}
use Rattle.dg_model.specs.Loop.{IsOrder}
use Rattle.dg_model.specs.Solves.{shown_ports, shown_width}
use Rattle.dg_tables.specs.declared.entries.Place.{Place}
use Rattle.dg_tables.specs.declared.reading.Starts.{Starts}
use Rattle.dg_tables.specs.Entries.{IsEntry, AreEntries, place_at}
use Rattle.dg_tables.specs.Finding.{AreLines, IsNumbered, Finds}
use Rattle.dg_tables.specs.inner.Layout.{ArePut, AreLaid}
use Rattle.math_list.proofs.Places.{get_left, get_some}

-- ---- one list behind another
behind : {A : Type 0} (xs ys : List A) (i : ℕ) (y : A) → slice_get ys i ≡ Some y → slice_get (xs ++ ys) (length xs + i) ≡ Some y
behind {A} [] ys i y at = let e : length {A = A} [] + i ≡ i = omega arith in ap (slice_get ys) e ∙ at
behind (x ∷ xs) ys i y at = let e : length (x ∷ xs) + i ≡ suc (length xs + i) = omega arith in ap (slice_get (x ∷ (xs ++ ys))) e ∙ behind xs ys i y at

split : {A : Type 0} (xs ys : List A) (j : ℕ) (y : A) → slice_get (xs ++ ys) j ≡ Some y → (slice_get xs j ≡ Some y) ⊎ ((i : ℕ) × (j ≡ length xs + i) × (slice_get ys i ≡ Some y))
split [] ys j y at = inr (j, omega arith, at)
split (x ∷ xs) ys zero y at = inl at
split (x ∷ xs) ys (suc j) y at = elim (split xs ys j y at) [
  | inl h ↦ inl h
  | inr h ↦ let e = h.1 in inr (h.0, omega (arith, e), h.2)
]

mapped : {A : Type 0} (f : ℕ → A) (n i : ℕ) (y : A) → slice_get (map f (numbers_from 0 n)) i ≡ Some y → (i < n) × (f i ≡ y)
mapped f n i y at =
    let within : i < n = subst (λ (m : ℕ). i < m) (length_mapped f 0 n) (slice_get_within (map f (numbers_from 0 n)) i y at) in
    let e : 0 + i ≡ i = omega arith in
    (within, same_Some (f i) y (sym (mapped_at f 0 n i within ∙ ap (λ (m : ℕ). Some (f m)) e) ∙ at))

-- ---- a place written
pub set_there : {A : Type 0} (xs : List A) (i : ℕ) (x : A) → i < length xs → slice_get (slice_set xs i x) i ≡ Some x
set_there xs i x within = slice_get-get_or (slice_set xs i x) i x (subst (λ (n : ℕ). i < n) (sym (length-set xs i x)) within) ∙ ap (λ y. Some y) (get_or-set_same xs i x x within)

set_other : {A : Type 0} (xs : List A) (i j : ℕ) (x y : A) → (j ≡ i → ⊥) → slice_get xs j ≡ Some y → slice_get (slice_set xs i x) j ≡ Some y
set_other xs i j x y other at =
    slice_get-get_or (slice_set xs i x) j y
    (subst (λ (n : ℕ). j < n) (sym (length-set xs i x)) (slice_get_within xs j y at))
    ∙ ap (λ y. Some y) (get_or-set_other xs i j x y other ∙ get_or_from_slice_get xs j y y at)

-- ---- the ports of a block
module _ (diagram : Diagram) (attributes : Attributes) (block : ℕ) (b : Block) (block_is : slice_get diagram.blocks block ≡ Some b) where
  pub put_none : (before : List ℕ) (others : List Place) → ArePut diagram attributes block b 0 before others before others
  put_none before others = record {
    size = omega arith;
    longer = le_refl (length others);
    starts_stay = λ i from at. at;
    places_stay = λ j place at. at;
    stands = λ port element from to below. absurd (omega (arith, from, to));
    own = λ j place at past. absurd (omega (arith, past, slice_get_within others j place at));
  }

  pub put_more : (n : ℕ) (before : List ℕ) (others : List Place) (entries new_entries : List ℕ) (places new_places : List Place) → n + 1 ≤ shown_ports b.kind b.outputs
      → new_entries ≡ entries ++ length places ∷ [] → new_places ≡ places ++ map (place_at block (n + 1)) (numbers_from 0 (shown_width diagram attributes b.kind block (n + 1)))
      → ArePut diagram attributes block b n before others entries places → ArePut diagram attributes block b (n + 1) before others new_entries new_places
  put_more n before others entries new_entries places new_places end entries_are places_are put =
      let width = shown_width diagram attributes b.kind block (n + 1) in
      let row = map (place_at block (n + 1)) (numbers_from 0 width) in
      subst₂ (λ (es : List ℕ) (ps : List Place). ArePut diagram attributes block b (n + 1) before others es ps) (sym entries_are) (sym places_are) (record {
        size = length-append entries (length places ∷ []) ∙ omega (arith, put.size);
        longer = omega (arith, put.longer, length-append places row);
        starts_stay = λ i from at. get_left entries (length places ∷ []) i from (put.starts_stay i from at);
        places_stay = λ j place at. get_left places row j place (put.places_stay j place at);
        stands = λ port element from to below. elim (cases_lt port (n + 1)) [
          | inl less ↦
              let s = put.stands port element from (omega (arith, less)) below in
              (s.0, get_left entries (length places ∷ []) (length before + (port - 1)) s.0 s.1, get_left places row (s.0 + element) (place_at block port element) s.2)
          | inr past ↦
              let same : port ≡ n + 1 = omega (arith, past, to) in
              let start : length before + (port - 1) ≡ length entries + 0 = omega (arith, same, put.size) in
              let within : element < width = subst (λ (p : ℕ). element < shown_width diagram attributes b.kind block p) same below in
              let zero_more : 0 + element ≡ element = omega arith in
              let here : slice_get row element ≡ Some (place_at block port element) =
              mapped_at (place_at block (n + 1)) 0 width element within
              ∙ ap₂ (λ (p e : ℕ). Some (place_at block p e)) (sym same) zero_more in (
                length places,
                ap (slice_get (entries ++ length places ∷ [])) start
                    ∙ behind entries (length places ∷ []) 0 (length places) refl,
                behind places row element (place_at block port element) here,
              )
        ];
        own = λ j place at past. elim (split places row j place at) [
          | inl h ↦ put.own j place h past
          | inr h ↦
              let m = mapped (place_at block (n + 1)) width h.0 place h.2 in
              subst (λ (p : Place). IsEntry diagram attributes p × (p.block ≡ block)) m.1 ((b, record { block_is = block_is; port_from = omega arith; port_to = end; element_below = m.0 }), refl)
        ];
      })

-- ---- the blocks of an order
module _ (checked : CheckedDiagram) (is_order : IsOrder checked.diagram (attributes_of checked.diagram) checked.order) where
  one_place : (k l x : ℕ) → slice_get checked.order k ≡ Some x → slice_get checked.order l ≡ Some x → k ≡ l
  one_place k l x at_k at_l = elim (cases_lt k l) [
    | inl less ↦ absurd (is_order.different k l x less (slice_get_within checked.order l x at_l)
        (get_or_from_slice_get checked.order k x x at_k ∙ sym (get_or_from_slice_get checked.order l x x at_l)))
    | inr past ↦ elim (cases_lt l k) [
      | inl less ↦ absurd (is_order.different l k x less (slice_get_within checked.order k x at_k)
          (get_or_from_slice_get checked.order l x x at_l ∙ sym (get_or_from_slice_get checked.order k x x at_k)))
      | inr other ↦ omega (arith, past, other)
    ]
  ]

  pub laid_none : (starts : Starts) (places : List Place) → places ≡ []
      → AreLines checked.diagram starts.lines.items → length starts.ports.items ≡ length checked.diagram.blocks
      → AreLaid checked 0 starts places
  laid_none starts places none lines size = subst (λ (ps : List Place). AreLaid checked 0 starts ps) (sym none) (record {
    lines = lines;
    size = size;
    entries = λ k place below at entry. absurd (omega (arith, below));
    known = λ j place at. absurd (none-some place at);
    ranked = λ j k a c source target at_j at_k at_a at_c less. absurd (none-some source at_j);
  })

  module _ (count block : ℕ) (b : Block) (old new : Starts) (places new_places : List Place)
      (turn : slice_get checked.order count ≡ Some block)
      (block_is : slice_get checked.diagram.blocks block ≡ Some b)
      (put : ArePut checked.diagram (attributes_of checked.diagram) block b
      (shown_ports b.kind b.outputs) old.entries.items places new.entries.items new_places)
      (laid : AreLaid checked count old places)
    where
      from : (j : ℕ) (place : Place) → slice_get new_places j ≡ Some place
          → ((j < length places) × (slice_get places j ≡ Some place))
          ⊎ ((length places ≤ j) × IsEntry checked.diagram (attributes_of checked.diagram) place
          × (place.block ≡ block))
      from j place at = elim (cases_lt j (length places)) [
        | inl less ↦
            let q = get_some places j less in
            let same : q.0 ≡ place = same_Some q.0 place (sym (put.places_stay j q.0 q.1) ∙ at) in
            inl (less, q.1 ∙ ap (λ (p : Place). Some p) same)
        | inr past ↦ let o = put.own j place at past in inr (past, o.0, o.1)
      ]

      known : (j : ℕ) (place : Place) → slice_get new_places j ≡ Some place
          → IsEntry checked.diagram (attributes_of checked.diagram) place × (k : ℕ) × (k < count + 1) × (slice_get checked.order k ≡ Some place.block)
      known j place at = elim (from j place at) [
        | inl h ↦ let r = laid.known j place h.1 in let low = r.2 in (r.0, r.1, omega (arith, low), r.3)
        | inr h ↦ (h.1, count, omega arith, turn ∙ ap (λ (n : ℕ). Some n) (sym h.2))
      ]

      ranked : (j k a c : ℕ) (source target : Place) → slice_get new_places j ≡ Some source
          → slice_get new_places k ≡ Some target → slice_get checked.order a ≡ Some source.block
          → slice_get checked.order c ≡ Some target.block → a < c → j < k
      ranked j k a c source target at_j at_k at_a at_c less = elim (from j source at_j) [
        | inl old_j ↦ elim (from k target at_k) [
          | inl old_k ↦ laid.ranked j k a c source target old_j.1 old_k.1 at_a at_c less
          | inr new_k ↦ let low = old_j.0 in let high = new_k.0 in omega (arith, low, high)
        ]
        | inr new_j ↦
            let source_at : a ≡ count = one_place a count block (at_a ∙ ap (λ (n : ℕ). Some n) new_j.2) turn in
            elim (from k target at_k) [
              | inl old_k ↦
                  let r = laid.known k target old_k.1 in
                  let low = r.2 in
                  let same : c ≡ r.1 = one_place c r.1 target.block at_c r.3 in
                  absurd (omega (arith, source_at, same, low, less))
              | inr new_k ↦
                  let target_at : c ≡ count = one_place c count block (at_c ∙ ap (λ (n : ℕ). Some n) new_k.2) turn in
                  absurd (omega (arith, source_at, target_at, less))
            ]
      ]

      module _ (ports : new.ports.items ≡ slice_set old.ports.items block (length old.entries.items)) where
        entries : (k : ℕ) (place : Place) → k < count + 1 → slice_get checked.order k ≡ Some place.block
            → IsEntry checked.diagram (attributes_of checked.diagram) place
            → IsNumbered new.ports.items new.entries.items new_places place
        entries k place below at entry = elim (cases_lt k count) [
          | inl less ↦
              let o = laid.entries k place less at entry in
              let apart : place.block ≡ block → ⊥ = λ e. let same : k ≡ count = one_place k count block (at ∙ ap (λ (n : ℕ). Some n) e) turn in omega (arith, same, less) in
              record {
                first = o.first;
                from = o.from;
                first_is = ap (λ (xs : List ℕ). slice_get xs place.block) ports ∙ set_other old.ports.items block place.block (length old.entries.items) o.first apart o.first_is;
                from_is = put.starts_stay (o.first + (place.port - 1)) o.from o.from_is;
                stands = put.places_stay (o.from + place.element) place o.stands;
              }
          | inr past ↦
              let same : count ≡ k = omega (arith, past, below) in
              let here : block ≡ place.block = same_Some block place.block (sym turn ∙ ap (slice_get checked.order) same ∙ at) in
              let one : entry.0 ≡ b = same_Some entry.0 b (sym entry.1.block_is ∙ ap (slice_get checked.diagram.blocks) (sym here) ∙ block_is) in
              let to : place.port ≤ shown_ports b.kind b.outputs = subst (λ (x : Block). place.port ≤ shown_ports x.kind x.outputs) one entry.1.port_to in
              let below : place.element < shown_width checked.diagram (attributes_of checked.diagram) b.kind block place.port =
              subst₂ (λ (x : Block) (n : ℕ). place.element < shown_width checked.diagram (attributes_of checked.diagram) x.kind n place.port) one (sym here) entry.1.element_below in
              let s = put.stands place.port place.element entry.1.port_from to below in
              let within : block < length old.ports.items = subst (λ (n : ℕ). block < n) (sym laid.size) (slice_get_within checked.diagram.blocks block b block_is) in
              record {
                first = length old.entries.items;
                from = s.0;
                first_is = ap₂ (λ (xs : List ℕ) (n : ℕ). slice_get xs n) ports (sym here) ∙ set_there old.ports.items block (length old.entries.items) within;
                from_is = s.1;
                stands = s.2 ∙ ap (λ (n : ℕ). Some (place_at n place.port place.element)) here;
              }
        ]

        pub laid_more : new.lines.items ≡ old.lines.items → AreLaid checked (count + 1) new new_places
        laid_more lines = record {
          lines = subst (λ (xs : List ℕ). AreLines checked.diagram xs) (sym lines) laid.lines;
          size = ap (λ (xs : List ℕ). length xs) ports ∙ length-set old.ports.items block (length old.entries.items) ∙ laid.size;
          entries = entries;
          known = known;
          ranked = ranked;
        }

  pub laid_entries : (count : ℕ) (starts : Starts) (places : List Place) → AreLaid checked count starts places → AreEntries checked.diagram (attributes_of checked.diagram) places
  laid_entries count starts places laid j place at = (laid.known j place at).0

  pub laid_finds : (count : ℕ) (starts : Starts) (places : List Place) → length checked.order ≤ count → length places < 2 ^ 32 → AreLaid checked count starts places → Finds checked starts places
  laid_finds count starts places all few laid = record {
    lines = laid.lines;
    few = few;
    entries = λ place entry.
        let a = is_order.all place.block (slice_get_within checked.diagram.blocks place.block entry.0 entry.1.block_is) in
        let at : slice_get checked.order a.0 ≡ Some place.block = slice_get-get_or checked.order a.0 a.1 a.2 ∙ ap (λ (n : ℕ). Some n) (a.3 ∙ a.4) in
        laid.entries a.0 place (omega (arith, all, slice_get_within checked.order a.0 place.block at)) at entry;
    ranked = λ j k source target at_j at_k lead.
        let t = laid.known k target at_k in
        let r = is_order.after t.1 target.block source.block t.3 lead in
        laid.ranked j k r.0 t.1 source target at_j at_k r.2 t.3 r.1;
  }

-- ---- what is read where the lists say

-- a number that is written down is read
pub read_there : (list slice : List ℕ) (at value read : ℕ) → slice ≡ list → read ≡ slice_index_or slice at 0 → slice_get list at ≡ Some value → read ≡ value
read_there list slice at value read same is there = is ∙ ap (λ (xs : List ℕ). slice_index_or xs at 0) same ∙ get_or_from_slice_get list at value 0 there

-- an entry stands where the code reads that those of its port begin, as far as its element
pub entry_read : {ports entries own others : List ℕ} {places : List Place} {place : Place} {first from : ℕ} → IsNumbered ports entries places place
    → own ≡ ports → first ≡ slice_index_or own place.block 0 → others ≡ entries → from ≡ slice_index_or others (first + (place.port - 1)) 0 → slice_get places (from + place.element) ≡ Some place
entry_read {ports} {entries} {own} {others} {places} {place} {first} {from} is ports_are first_is entries_are from_is =
    let begun = read_there ports own place.block is.first first ports_are first_is is.first_is in
    let there = ap (λ (n : ℕ). slice_get entries (n + (place.port - 1))) begun ∙ is.from_is in
    let read = read_there entries others (first + (place.port - 1)) is.from from entries_are from_is there in
    ap (λ (n : ℕ). slice_get places (n + place.element)) read ∙ is.stands
