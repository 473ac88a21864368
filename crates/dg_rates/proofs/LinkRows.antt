-- Rows of sources as the controls come to them.
use Rattle.std.proofs.Common.{◌≡◌, ℕ, ◌+◌, ◌<◌, ◌≤◌, ⊎_elim, Bool, true, false, List, [], ◌∷◌, ◌++◌, length, map, filter, replicate, take, get_or, cond, eqb, All, Some, None, refl, sym, ap, subst}
use Rattle.std.proofs.Common.{◌∙◌, arith}
use Rattle.std.specs.Prelude.{◌==◌, nat_lt, slice_get, MatchOption}
use Rattle.std.specs.Option.{option_to_list}
use Rattle.std.proofs.lemmas.Bool.{cases_eq, cases_lt, cond-true, cond-false, eq-eqb, ne_eqb, lt-ltb, le-ltb}
use Rattle.std.proofs.lemmas.List.{append-nil, get_or-replicate, get_or_past, length-replicate, map-append, take_more}
use Rattle.std.proofs.lemmas.List.Elements.{filter-append}
use Rattle.std.proofs.lemmas.Option.{get_or_from_slice_get, same_Some, slice_get_past, slice_get_within}
use Rattle.dg_model.specs.declared.diagram.Diagram.{Diagram}
use Rattle.dg_model.specs.declared.diagram.Block.{Block}
use Rattle.dg_model.specs.declared.diagram.Edge.{Edge}
use Rattle.dg_model.specs.declared.row.Role.{Role}
use Rattle.dg_model.specs.Library.{row_of}
use Rattle.dg_model.specs.Periods.{control_of, drivers_of}
use Rattle.dg_model.specs.Wired.{IsWired, NamesControl}
use Rattle.dg_rates.specs.inner.Links.{AreControlled, AreDrivers, AreSources, AreTied}
use Rattle.fx_io.specs.Rows.{row_at, noted}
use Rattle.dg_rates.proofs.RowTies.{noted_here, noted_other}

-- a place that isn't the next one is as it was
same_before : (place done : ℕ) (c : List ℕ) → (place ≡ done → ⊥) → cond (nat_lt place done) c [] ≡ cond (nat_lt place (done + 1)) c []
same_before place done c other =
    ⊎_elim
    (λ below. cond-true (nat_lt place done) c [] (lt-ltb place done below) ∙ sym (cond-true (nat_lt place (done + 1)) c [] (lt-ltb place (done + 1) (omega (arith, below)))))
    (λ past. cond-false (nat_lt place done) c [] (le-ltb place done past) ∙ sym (cond-false (nat_lt place (done + 1)) c [] (le-ltb place (done + 1) (later past))))
    (cases_lt place done)
  where
    later : done ≤ place → done + 1 ≤ place
    later past = ⊎_elim (λ same. absurd (other same)) (λ differ. omega (arith, past, differ)) (cases_eq place done)

pub controlled_first : (diagram : Diagram) (rows : List (List ℕ)) → AreDrivers (length diagram.blocks) diagram.edges rows → AreControlled diagram 0 rows
controlled_first diagram rows drivers = record {
  row = λ place block at.
      drivers.row place (slice_get_within diagram.blocks place block at)
      ∙ sym (append-nil (drivers_of diagram place))
      ∙ ap (λ (c : List ℕ). drivers_of diagram place ++ c) (sym (cond-false (nat_lt place 0) (control_of block) [] (le-ltb place 0 (omega arith))));
}

pub controlled_more : (diagram : Diagram) (done : ℕ) (rows : List (List ℕ)) (block : Block) (control : ℕ) → slice_get diagram.blocks done ≡ Some block → block.enable ≡ Some control
    → done < length rows → AreControlled diagram done rows → AreControlled diagram (done + 1) (noted rows done control)
controlled_more diagram done rows block control here enable inside a = record {
  row = λ place b at.
      ⊎_elim
      (λ same. noted_here rows done control place inside same
      ∙ ap (λ (row : List ℕ). row ++ control ∷ []) (before place b same at)
      ∙ ap (λ (c : List ℕ). drivers_of diagram place ++ c) (sym (now place b same at)))
      (λ other. noted_other rows done control place other ∙ a.row place b at ∙ ap (λ (c : List ℕ). drivers_of diagram place ++ c) (same_before place done (control_of b) other))
      (cases_eq place done);
}
  where
    before : (place : ℕ) (b : Block) → place ≡ done → slice_get diagram.blocks place ≡ Some b → row_at rows place ≡ drivers_of diagram place
    before place b same at =
        a.row place b at
        ∙ ap (λ (c : List ℕ). drivers_of diagram place ++ c) (cond-false (nat_lt place done) (control_of b) [] (le-ltb place done (omega (arith, same))))
        ∙ append-nil (drivers_of diagram place)

    now : (place : ℕ) (b : Block) → place ≡ done → slice_get diagram.blocks place ≡ Some b → cond (nat_lt place (done + 1)) (control_of b) [] ≡ control ∷ []
    now place b same at =
        let is_block : b ≡ block = same_Some b block (sym at ∙ ap (slice_get diagram.blocks) same ∙ here) in
        cond-true (nat_lt place (done + 1)) (control_of b) [] (lt-ltb place (done + 1) (omega (arith, same)))
        ∙ ap control_of is_block ∙ ap option_to_list enable

pub controlled_same : (diagram : Diagram) (done : ℕ) (rows : List (List ℕ)) (block : Block) → slice_get diagram.blocks done ≡ Some block → block.enable ≡ None
    → AreControlled diagram done rows → AreControlled diagram (done + 1) rows
controlled_same diagram done rows block here enable a = record {
  row = λ place b at.
      a.row place b at ∙ ap (λ (c : List ℕ). drivers_of diagram place ++ c)
      (⊎_elim
      (λ same. ap (λ (c : List ℕ). cond (nat_lt place done) c []) (none place b same at)
      ∙ both (nat_lt place done) (nat_lt place (done + 1))
      ∙ ap (λ (c : List ℕ). cond (nat_lt place (done + 1)) c []) (sym (none place b same at)))
      (λ other. same_before place done (control_of b) other)
      (cases_eq place done));
}
  where
    none : (place : ℕ) (b : Block) → place ≡ done → slice_get diagram.blocks place ≡ Some b → control_of b ≡ []
    none place b same at =
        let is_block : b ≡ block = same_Some b block (sym at ∙ ap (slice_get diagram.blocks) same ∙ here) in
        ap control_of is_block ∙ ap option_to_list enable

    both : (p q : Bool) → cond p [] [] ≡ cond {A = List ℕ} q [] []
    both true true = refl
    both true false = refl
    both false true = refl
    both false false = refl

pub sources_all : (diagram : Diagram) (done : ℕ) (rows : List (List ℕ)) → length diagram.blocks ≤ done → AreControlled diagram done rows → AreSources diagram rows
sources_all diagram done rows all a = record {
  row = λ place block at.
      a.row place block at ∙ ap (λ (c : List ℕ). drivers_of diagram place ++ c)
      (cond-true (nat_lt place done) (control_of block) [] (lt-ltb place done (omega (arith, all, slice_get_within diagram.blocks place block at))));
}

-- ---- before the controls

-- rows without a source, or a reader
pub tied_first : (count : ℕ) (sources readers : List (List ℕ)) → sources ≡ replicate count [] → readers ≡ replicate count [] → AreTied count 0 sources readers
tied_first count sources readers no_sources no_readers = record {
  sources_size = ap length no_sources ∙ length-replicate count [];
  readers_size = ap length no_readers ∙ length-replicate count [];
  there = λ block. rw (none_at count block sources no_sources) (λ k d below. absurd (omega (arith, below)));
  readers_there = λ block. rw (none_at count block readers no_readers) (λ k d below. absurd (omega (arith, below)));
  own = λ block below. absurd (omega (arith, below));
  known = λ block k source at.
      let inside = slice_get_within (row_at sources block) k source at in
      absurd (omega (arith, inside, ap length (none_at count block sources no_sources)));
}
  where
    none_at : (count block : ℕ) (rows : List (List ℕ)) → rows ≡ replicate count [] → row_at rows block ≡ []
    none_at count block rows empty =
        ap (λ (all : List (List ℕ)). row_at all block) empty
        ∙ ⊎_elim
        (λ below. get_or-replicate count block [] [] below)
        (λ past. get_or_past (replicate count []) block [] (omega (arith, past, length-replicate {A = List ℕ} count [])))
        (cases_lt block count)

pub drivers_first : (count : ℕ) (rows : List (List ℕ)) → rows ≡ replicate count [] → AreDrivers count [] rows
drivers_first count rows empty = record { row = λ block below. ap (λ (all : List (List ℕ)). row_at all block) empty ∙ get_or-replicate count block [] [] below }

one_driver : (count : ℕ) (done : List Edge) (edge : Edge) (rows : List (List ℕ)) → edge.to < length rows
    → AreDrivers count done rows → AreDrivers count (done ++ edge ∷ []) (noted rows edge.to edge.from)
one_driver count done edge rows inside before = record {
  row = λ block below.
      ⊎_elim
      (λ same. noted_here rows edge.to edge.from block inside same ∙ ap (λ (row : List ℕ). row ++ edge.from ∷ []) (before.row block below) ∙ sym (added block true (eq-eqb edge.to block (sym same))))
      (λ other.
      noted_other rows edge.to edge.from block other ∙ before.row block below
      ∙ sym (append-nil (map (λ (e : Edge). e.from) (filter (λ e. e.to == block) done))) ∙ sym (added block false (ne_eqb edge.to block (λ same. other (sym same)))))
      (cases_eq block edge.to);
}
  where
    added : (block : ℕ) (b : Bool) → eqb edge.to block ≡ b
        → map (λ (e : Edge). e.from) (filter (λ e. e.to == block) (done ++ edge ∷ []))
        ≡ map (λ (e : Edge). e.from) (filter (λ e. e.to == block) done)
        ++ map (λ (e : Edge). e.from) (cond b (edge ∷ []) [])
    added block b is =
        ap (map (λ (e : Edge). e.from)) (filter-append (λ (e : Edge). e.to == block) done (edge ∷ []) ∙ ap (λ (c : Bool). filter (λ e. e.to == block) done ++ cond c (edge ∷ []) []) is)
        ∙ map-append (λ (e : Edge). e.from) (filter (λ e. e.to == block) done) (cond b (edge ∷ []) [])

pub drivers_more : (count : ℕ) (edges : List Edge) (place : ℕ) (d : Edge) (rows : List (List ℕ))
    → place < length edges → (get_or edges place d).to < length rows → AreDrivers count (take place edges) rows
    → AreDrivers count (take (place + 1) edges) (noted rows (get_or edges place d).to (get_or edges place d).from)
drivers_more count edges place d rows below inside before = rw (take_more edges place d below) (one_driver count (take place edges) (get_or edges place d) rows inside before)

-- ---- what is named is there

-- a place of which something is said is one of the list
inside_of : {A : Type 0} (xs : List A) (P : A → Type 0) (k : ℕ) → MatchOption (slice_get xs k) ⊥ P → k < length xs
inside_of xs P k said =
    ⊎_elim
    (λ below. below)
    (λ past. absurd (subst (λ o. MatchOption o ⊥ P) (slice_get_past xs k past) said))
    (cases_lt k (length xs))

pub from_inside : (diagram : Diagram) → IsWired diagram → All (λ edge. edge.from < length diagram.blocks) diagram.edges
from_inside diagram wired k d below = inside_of diagram.blocks _ _ (wired.edges k d below).source

pub to_inside : (diagram : Diagram) → IsWired diagram → All (λ edge. edge.to < length diagram.blocks) diagram.edges
to_inside diagram wired k d below = inside_of diagram.blocks _ _ (wired.edges k d below).target

pub control_inside : (diagram : Diagram) (place : ℕ) (block : Block) (control : ℕ) → IsWired diagram
    → slice_get diagram.blocks place ≡ Some block → block.enable ≡ Some control → control < length diagram.blocks
control_inside diagram place block control wired at enable =
    let last = get_or_from_slice_get diagram.blocks place block block at in
    let names : NamesControl diagram.blocks block.enable =
    subst (λ (b : Block). NamesControl diagram.blocks b.enable) last
    (wired.controls place block (slice_get_within diagram.blocks place block at)) in
    inside_of diagram.blocks (λ b. (row_of b.kind).place.role ≡ Role.Control) control (subst (λ o. NamesControl diagram.blocks o) enable names)
