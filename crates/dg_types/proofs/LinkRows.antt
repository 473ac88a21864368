-- Rows that are filled edge by edge hold the readers of a diagram, and with the sources they are its links.
use Rattle.std.proofs.Common.{◌≡◌, ℕ, zero, suc, ◌+◌, ◌<◌, ◌≤◌, Bool, true, false, List, [], ◌∷◌, ◌++◌, length, replicate, map, filter, cond, set, All, Some, Option, get_or, eqb, refl, sym, ap, subst}
use Rattle.std.proofs.Common.{◌∙◌, inl, inr, arith, append-nil}
use Rattle.std.specs.Prelude.{slice_get, unwrap_or, ◌==◌}
use Rattle.std.proofs.lemmas.Bool.{cases_eq, cases_lt, cases_Bool, eqb-true, eqb-false}
use Rattle.std.proofs.lemmas.Bool.Decides.{Decides-by_and, Decides-eqb, nat_tests}
use Rattle.std.proofs.lemmas.List.{get_or-replicate, get_or_past, length-replicate, length-set, get_or-set_same, get_or-set_other, map-append}
use Rattle.std.proofs.lemmas.List.Elements.{filter-append}
use Rattle.std.proofs.lemmas.Option.{unwrap_or-slice_get, slice_get_past, slice_get-get_or, none-some, same_Some}
use Rattle.dg_model.specs.declared.diagram.Block.{Block}
use Rattle.dg_model.specs.declared.diagram.Edge.{Edge}
use Rattle.dg_waves.specs.inner.Waves.{is_in}
use Rattle.dg_waves.proofs.WaveRounds.{is_in_push, is_in_last}
use Rattle.math_list.proofs.Places.{pushed_at}
use Rattle.dg_types.specs.declared.linked.Source.{Source}
use Rattle.dg_types.specs.inner.Widths.{AreLinked, is_shared_out}
use Rattle.dg_model.specs.Widths.{are_open, list_length}
use Rattle.dg_types.specs.inner.WidthShapes.{source_of, form_of, shape_of, Mirrors}
use Rattle.dg_types.specs.declared.linked.Form.TheVariants.{Single}
use Rattle.dg_model.specs.declared.diagram.Diagram.{Diagram}
use Rattle.dg_types.specs.inner.Build.{AreAlike, CanLink, Gathered, Known, all_forms}

all_push : (P : ℕ → Type 0) (xs : List ℕ) (x : ℕ) → All P xs → P x → All P (xs ++ x ∷ [])
all_push P [] x all here zero d inside = here
all_push P [] x all here (suc k) d inside = absurd (omega arith)
all_push P (y ∷ xs) x all here zero d inside = all 0 d (omega arith)
all_push P (y ∷ xs) x all here (suc k) d inside = all_push P xs x (λ j e i. all (suc j) e (omega arith)) here k d (omega arith)

-- the rows once a reader is put at the end of one
abbrev noted : List (List ℕ) → ℕ → ℕ → List (List ℕ)
noted rows at reader = set rows at (get_or rows at [] ++ reader ∷ [])

noted_here : (rows : List (List ℕ)) (at reader : ℕ) → at < length rows → get_or (noted rows at reader) at [] ≡ get_or rows at [] ++ reader ∷ []
noted_here rows at reader inside = get_or-set_same rows at (get_or rows at [] ++ reader ∷ []) [] inside

noted_other : (rows : List (List ℕ)) (at reader k : ℕ) → (k ≡ at → ⊥) → get_or (noted rows at reader) k [] ≡ get_or rows k []
noted_other rows at reader k other = get_or-set_other rows at k (get_or rows at [] ++ reader ∷ []) [] other

still_in : (rows : List (List ℕ)) (at reader k old : ℕ) → at < length rows → is_in old (get_or rows k []) ≡ true → is_in old (get_or (noted rows at reader) k []) ≡ true
still_in rows at reader k old inside is =
    elim (cases_eq k at) [
      | inl same ↦ subst (λ (j : ℕ). is_in old (get_or (noted rows at reader) j []) ≡ true) (sym same)
          (rw (noted_here rows at reader inside)
          (is_in_push (get_or rows at []) reader old
          (subst (λ (j : ℕ). is_in old (get_or rows j []) ≡ true) same is)))
      | inr other ↦ rw (noted_other rows at reader k other) is
    ]

now_in : (rows : List (List ℕ)) (at reader : ℕ) → at < length rows → is_in reader (get_or (noted rows at reader) at []) ≡ true
now_in rows at reader inside = rw (noted_here rows at reader inside) (is_in_last (get_or rows at []) reader reader refl)

still_there : (count : ℕ) (rows : List (List ℕ)) (at reader : ℕ) → at < length rows → reader < count
    → ((k : ℕ) → All (λ r. r < count) (get_or rows k [])) → (k : ℕ)
    → All (λ r. r < count) (get_or (noted rows at reader) k [])
still_there count rows at reader inside few before k =
    elim (cases_eq k at) [
      | inl same ↦ subst (λ (j : ℕ). All (λ (r : ℕ). r < count) (get_or (noted rows at reader) j [])) (sym same)
          (rw (noted_here rows at reader inside)
          (all_push (λ r. r < count) (get_or rows at []) reader (before at) few))
      | inr other ↦ rw (noted_other rows at reader k other) (before k)
    ]

abbrev no_readers : ℕ → List (List ℕ)
no_readers count = replicate count []

none_at : (count k : ℕ) → get_or (no_readers count) k [] ≡ []
none_at count k =
    elim (cases_lt k count) [
      | inl below ↦ get_or-replicate count k [] [] below
      | inr past ↦ get_or_past (no_readers count) k [] (omega (arith, past, length-replicate {A = List ℕ} count []))
    ]

-- before the first edge
pub known_none : (count : ℕ) (rows : List (List ℕ)) → rows ≡ replicate count [] → Known count 0 [] rows
known_none count rows empty = record {
  size = ap length empty ∙ length-replicate count [];
  own = λ k below. absurd (omega (arith, below));
  known = λ j edge at. absurd (none-some edge at);
  there = λ k. subst (λ (all : List (List ℕ)). All (λ (reader : ℕ). reader < count) (get_or all k [])) (sym empty) (rw (none_at count k) (λ i d inside. absurd (omega (arith, inside))));
}

pub known_more : (count selves : ℕ) (done : List Edge) (rows : List (List ℕ)) (edge : Edge) → edge.from < count → edge.to < count → Known count selves done rows
    → Known count selves (done ++ edge ∷ []) (set rows edge.from (get_or rows edge.from [] ++ edge.to ∷ []))
known_more count selves done rows edge from_inside to_inside before =
    let inside : edge.from < length rows = omega (arith, before.size, from_inside) in
    record {
      size = length-set rows edge.from (get_or rows edge.from [] ++ edge.to ∷ []) ∙ before.size;
      own = λ k there. still_in rows edge.from edge.to k k inside (before.own k there);
      known = pushed_at (λ (e : Edge). is_in e.to (get_or (noted rows edge.from edge.to) e.from []) ≡ true) done edge
          (λ j e at. still_in rows edge.from edge.to e.from e.to inside (before.known j e at)) (now_in rows edge.from edge.to inside);
      there = still_there count rows edge.from edge.to inside to_inside before.there;
    }

-- one more block is its own reader
pub own_more : (count own : ℕ) (done : List Edge) (rows : List (List ℕ)) → own < count → Known count own done rows
    → Known count (own + 1) done (set rows own (get_or rows own [] ++ own ∷ []))
own_more count own done rows below before =
    let inside : own < length rows = omega (arith, before.size, below) in
    record {
      size = length-set rows own (get_or rows own [] ++ own ∷ []) ∙ before.size;
      own = λ k there.
          elim (cases_eq k own) [
            | inl same ↦ subst (λ (j : ℕ). is_in j (get_or (noted rows own own) j []) ≡ true) (sym same) (now_in rows own own inside)
            | inr other ↦ still_in rows own own k k inside (before.own k (omega (arith, there, other)))
          ];
      known = λ j edge at. still_in rows own own edge.from edge.to inside (before.known j edge at);
      there = still_there count rows own own inside below before.there;
    }

pub gathered_none : {A : Type 0} (count : ℕ) (f : Edge → A) (rows : List (List A)) → rows ≡ replicate count [] → Gathered count f [] rows
gathered_none {A} count f rows empty = record {
  size = ap length empty ∙ length-replicate count [];
  row = λ k there. ap (λ (all : List (List A)). get_or all k []) empty ∙ get_or-replicate count k [] [] there;
}

-- what a row holds of one edge more
one_edge : {A : Type 0} (f : Edge → A) (done : List Edge) (edge : Edge) (k : ℕ) (b : Bool) → eqb edge.to k ≡ b →
    map f (filter (λ e. e.to == k) (done ++ edge ∷ [])) ≡ map f (filter (λ e. e.to == k) done) ++ map f (cond b (edge ∷ []) [])
one_edge f done edge k b is =
    ap (map f) (filter-append (λ (e : Edge). e.to == k) done (edge ∷ []) ∙ ap (λ (c : Bool). filter (λ e. e.to == k) done ++ cond c (edge ∷ []) []) is)
    ∙ map-append f (filter (λ e. e.to == k) done) (cond b (edge ∷ []) [])

pub gathered_more : {A : Type 0} (count : ℕ) (f : Edge → A) (done : List Edge) (rows : List (List A)) (edge : Edge) → edge.to < count → Gathered count f done rows →
    Gathered count f (done ++ edge ∷ []) (set rows edge.to (get_or rows edge.to [] ++ f edge ∷ []))
gathered_more {A} count f done rows edge inside before =
    let added = get_or rows edge.to [] ++ f edge ∷ [] in
    let here : get_or (set rows edge.to added) edge.to [] ≡ added = get_or-set_same rows edge.to added [] (omega (arith, before.size, inside)) in
    record {
      size = length-set rows edge.to added ∙ before.size;
      row = λ k there.
          elim (cases_Bool (eqb edge.to k)) [
            | inl e ↦
                let same = eqb-true edge.to k e in
                ap (λ (j : ℕ). get_or (set rows edge.to added) j []) (sym same) ∙ here
                ∙ ap (λ (row : List A). row ++ f edge ∷ []) (ap (λ (j : ℕ). get_or rows j []) same ∙ before.row k there) ∙ sym (one_edge f done edge k true e)
            | inr e ↦
                get_or-set_other rows edge.to k added [] (λ s. eqb-false edge.to k e (sym s)) ∙ before.row k there
                ∙ sym (append-nil (map f (filter (λ e. e.to == k) done))) ∙ sym (one_edge f done edge k false e)
          ];
    }

-- ---- together

-- what holds of the source of every edge into a block holds of each entry of its row
row_from : (P : Source → Type 0) (f : Edge → Source) (to : ℕ) (edges : List Edge) → ((j : ℕ) (edge : Edge) → slice_get edges j ≡ Some edge → edge.to ≡ to → P (f edge)) →
    (k : ℕ) (y : Source) → slice_get (map f (filter (λ edge. edge.to == to) edges)) k ≡ Some y → P y
row_from P f to [] all k y at = absurd (none-some y at)
row_from P f to (x ∷ xs) all k y at = go (eqb x.to to) refl (row_from P f to xs (λ j edge e same. all (suc j) edge e same)) k at where
  go : (b : Bool) → eqb x.to to ≡ b → ((i : ℕ) (z : Source)
      → slice_get (map f (filter (λ edge. edge.to == to) xs)) i ≡ Some z → P z) → (i : ℕ)
      → slice_get (map f (cond b (x ∷ filter (λ edge. edge.to == to) xs) (filter (λ edge. edge.to == to) xs))) i
      ≡ Some y → P y
  go true e later zero here = subst P (same_Some (f x) y here) (all 0 x refl (eqb-true x.to to e))
  go true e later (suc i) here = later i y here
  go false e later i here = later i y here

all_places : (P : Source → Type 0) (xs : List Source) → ((k : ℕ) (y : Source) → slice_get xs k ≡ Some y → P y) → All P xs
all_places P xs all k d inside = all k (get_or xs k d) (slice_get-get_or xs k d inside)

no_row : (rows : List (List Source)) (k : ℕ) → length rows ≤ k → get_or rows k [] ≡ []
no_row rows k past = sym (unwrap_or-slice_get rows k []) ∙ ap (λ (o : Option (List Source)). unwrap_or o []) (slice_get_past rows k past)

-- the entries of the row of any block
entries : (P : Source → Type 0) (blocks : List Block) (edges : List Edge) (rows : List (List Source)) (block : ℕ)
    → Gathered (length blocks) (source_of blocks) edges rows
    → ((j : ℕ) (edge : Edge) → slice_get edges j ≡ Some edge → edge.to ≡ block → P (source_of blocks edge)) →
    (k : ℕ) (y : Source) → slice_get (get_or rows block []) k ≡ Some y → P y
entries P blocks edges rows block gathered all k y at =
    elim (cases_lt block (length blocks)) [
      | inl inside ↦ row_from P (source_of blocks) block edges all k y (ap (λ (r : List Source). slice_get r k) (sym (gathered.row block inside)) ∙ at)
      | inr past ↦ absurd (none-some y (ap (λ (r : List Source). slice_get r k) (sym (no_row rows block (omega (arith, gathered.size)))) ∙ at))
    ]

pub length_forms : (blocks : List Block) → length (all_forms blocks) ≡ length blocks
length_forms [] = refl
length_forms (block ∷ blocks) = ap suc (length_forms blocks)

pub are_linked : (blocks : List Block) (edges : List Edge) (sources : List (List Source)) (readers : List (List ℕ))
    → CanLink blocks edges → Gathered (length blocks) (source_of blocks) edges sources
    → Known (length blocks) (length blocks) edges readers → AreLinked (all_forms blocks) sources readers
are_linked blocks edges sources readers can gathered known = record {
  forms_size = length_forms blocks ∙ sym gathered.size;
  readers_size = known.size ∙ sym gathered.size;
  there = λ block. all_places (λ source. source.block < length sources) (get_or sources block [])
      (entries (λ source. source.block < length sources) blocks edges sources block gathered
      (λ j edge at same. omega (arith, can.ends j edge at, gathered.size)));
  shared_out = λ block. all_places (λ source. is_shared_out source.share ≡ true) (get_or sources block [])
      (entries (λ source. is_shared_out source.share ≡ true) blocks edges sources block gathered
      (λ j edge at same. can.shared_out j edge at));
  readers_there = λ block. rw gathered.size (known.there block);
  own = λ block inside. known.own block (omega (arith, gathered.size));
  known = λ block. entries (λ source. is_in block (get_or readers source.block []) ≡ true) blocks edges sources
      block gathered (λ j edge at same. subst (λ (b : ℕ). is_in b (get_or readers edge.from []) ≡ true) same
      (known.known j edge at));
}

pub form_at : (blocks : List Block) (k : ℕ) (block : Block) → slice_get blocks k ≡ Some block → get_or (all_forms blocks) k Single ≡ form_of (shape_of block.kind) (list_length block.kind)
form_at [] k block at = absurd (none-some block at)
form_at (b ∷ blocks) zero block at = ap (λ (o : Block). form_of (shape_of o.kind) (list_length o.kind)) (same_Some b block at)
form_at (b ∷ blocks) (suc k) block at = form_at blocks k block at

pub mirrors_built : (diagram : Diagram) (sources : List (List Source))
    → Gathered (length diagram.blocks) (source_of diagram.blocks) diagram.edges sources
    → Mirrors diagram (all_forms diagram.blocks) sources
mirrors_built diagram sources gathered = record { form = form_at diagram.blocks; source = gathered.row }

-- where each size is fixed or none, the first tells which
pub open_by_first : (sizes : List ℕ) (d : ℕ) → 0 < length sizes → AreAlike sizes → are_open sizes ≡ eqb (get_or sizes 0 d) 0
open_by_first [] d some alike = absurd (omega arith)
open_by_first (x ∷ xs) d some (inl fixed) =
    let above : 1 ≤ x = (fixed 0 d (omega arith)).0 in
    let no : eqb x 0 ≡ false = grind (arith, nat_tests) in
    rw no refl
open_by_first (x ∷ xs) d some (inr zeros) =
    let none : x ≡ 0 = zeros 0 d (omega arith) in
    let yes : eqb x 0 ≡ true = grind (arith, nat_tests) in
    let rest : are_open xs ≡ true = (Decides-by_and (λ size. eqb size 0) (λ size. size ≡ 0) are_open
    (λ size. Decides-eqb size 0) refl (λ _ _. refl) xs).1 (λ k e inside. zeros (suc k) e (omega arith)) in
    rw (yes, rest) refl
