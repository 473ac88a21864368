-- What the code of depths reads: items of slices, lines and controls.
use Rattle.std.proofs.Common.{◌≡◌, ℕ, zero, suc, ◌+◌, ◌-◌, ◌^◌, ◌<◌, ◌≤◌, max, Bool, true, false, List, [], ◌∷◌, length, take, drop, get_or, refl, sym, ap, subst, ◌∙◌, inl, inr, arith}
use Rattle.std.specs.Prelude.{slice_get, Option, Some}
use Rattle.std.proofs.lemmas.Bool.{false≢true}
use Rattle.std.proofs.lemmas.Option.{same_Some, slice_get-get_or}
use Rattle.dg_model.specs.declared.diagram.Diagram.{Diagram}
use Rattle.dg_model.specs.declared.diagram.Block.{Block}
use Rattle.dg_model.specs.declared.diagram.Edge.{Edge}
use Rattle.dg_model.specs.declared.resolved.Resolved.{Resolved}
use Rattle.dg_model.specs.Attributes.{attributes_of}
use Rattle.dg_sort.specs.Control.{control_now}
use Rattle.hw_latency.specs.Shared.{is_shared}
use Rattle.hw_sched.specs.Level.{depth_at, is_same_period}
use Rattle.hw_sched.specs.inner.Greatest.{IsGreatest, IsFirstInto, IsLineFrom, IsReadLine, IsReadControl, own_depth, IsNextDepth}
use Rattle.hw_sched.proofs.DepthLaw.{period_is}
use Rattle.hw_sched.proofs.SlotNumbers.{taken_from}
use Rattle.hw_sched.proofs.Paths.{take_length}
use Rattle.hw_sched.proofs.Service.{same_period}
use Rattle.hw_sched.proofs.BlockDepths.{greatest_none, greatest_either, line_counts, line_skips}
use Rattle.math_list.proofs.Places.{get_drop}

-- ---- what the code reads

drop_length : {A : Type 0} (n : ℕ) (xs : List A) → length (drop n xs) ≡ length xs - n
drop_length zero xs = omega arith
drop_length (suc n) [] = omega arith
drop_length (suc n) (x ∷ xs) = let more = drop_length n xs in omega (arith, more)

-- the rest of a list from a place on
rest_length : {A : Type 0} (first : ℕ) (xs : List A) → length (take (length xs - first) (drop first xs)) ≡ length xs - first
rest_length first xs = let size = drop_length first xs in take_length (length xs - first) (drop first xs) (omega (arith, size))

-- past the last of those from one on nothing is left
pub rest_past : {A : Type 0} (all xs : List A) (first index : ℕ) → xs ≡ all → first ≤ length xs → length (take (length xs - first) (drop first xs)) ≤ index → length all ≤ first + index
rest_past {A} all xs first index same within past =
    let size = rest_length first xs in
    let many = ap (λ (ys : List A). length ys) same in
    omega (arith, past, size, within, many)

pub rest_read : {A : Type 0} (all xs : List A) (first index : ℕ) (d : A) → xs ≡ all
    → index < length (take (length xs - first) (drop first xs))
    → slice_get all (first + index) ≡ Some (get_or (take (length xs - first) (drop first xs)) index d)
rest_read {A} all xs first index d same within =
    ap (λ (ys : List A). slice_get ys (first + index)) (sym same) ∙ sym (get_drop first xs index)
    ∙ taken_from (length xs - first) (drop first xs) index (get_or (take (length xs - first) (drop first xs)) index d)
    (slice_get-get_or (take (length xs - first) (drop first xs)) index d within)

pub item_read : {A : Type 0} (all xs : List A) (index : ℕ) (d : A) → xs ≡ all → index < length xs → slice_get all index ≡ Some (get_or xs index d)
item_read {A} all xs index d same within = ap (λ (ys : List A). slice_get ys index) (sym same) ∙ slice_get-get_or xs index d within

pub tested : (p q own other : Option ℕ) (b v : Bool) → p ≡ own → q ≡ other → b ≡ is_same_period p q → b ≡ v → is_same_period own other ≡ v
tested p q own other b v e f is at = ap (λ (x : Option ℕ). is_same_period x other) (sym e) ∙ ap (is_same_period p) (sym f) ∙ sym is ∙ at

pub next_counts : (diagram : Diagram) (place : ℕ) (depths : List ℕ) (first index best : ℕ) (edge : Edge) → slice_get diagram.edges (first + index) ≡ Some edge → edge.to ≡ place
    → is_same_period ((attributes_of diagram).period_at edge.from) ((attributes_of diagram).period_at place) ≡ true
    → IsGreatest (IsLineFrom diagram (first + index) place) depths best
    → IsGreatest (IsLineFrom diagram (first + (index + 1)) place) depths
    (max best (depth_at depths edge.from))
next_counts diagram place depths first index best edge at to same is =
    let e : first + index + 1 ≡ first + (index + 1) = omega arith in
    subst (λ (n : ℕ). IsGreatest (IsLineFrom diagram n place) depths (max best (depth_at depths edge.from))) e (line_counts diagram place depths (first + index) best edge at to same is)

pub next_skips : (diagram : Diagram) (place : ℕ) (depths : List ℕ) (first index best : ℕ) (edge : Edge) → slice_get diagram.edges (first + index) ≡ Some edge
    → is_same_period ((attributes_of diagram).period_at edge.from) ((attributes_of diagram).period_at place) ≡ false
    → IsGreatest (IsLineFrom diagram (first + index) place) depths best
    → IsGreatest (IsLineFrom diagram (first + (index + 1)) place) depths best
next_skips diagram place depths first index best edge at differs is =
    let e : first + index + 1 ≡ first + (index + 1) = omega arith in
    subst (λ (n : ℕ). IsGreatest (IsLineFrom diagram n place) depths best) e (line_skips diagram place depths (first + index) best edge at differs is)

pub first_as : (all edges : List Edge) (block first : ℕ) → edges ≡ all → IsFirstInto edges block first → IsFirstInto all block first
first_as all edges block first same is = subst (λ (xs : List Edge). IsFirstInto xs block first) same is

-- ---- the control of a block

module _ (diagram : Diagram) (place control : ℕ) (b : Block) (depths : List ℕ) (there : slice_get diagram.blocks place ≡ Some b) (is : control_now b ≡ Some control) where
  control_is : (source : ℕ) → IsReadControl diagram place source → control ≡ source
  control_is source read = same_Some control source (sym is ∙ ap control_now (same_Some b read.block (sym there ∙ read.there)) ∙ read.control)

  pub control_one : is_same_period ((attributes_of diagram).period_at control)
      ((attributes_of diagram).period_at place) ≡ true
      → IsGreatest (IsReadControl diagram place) depths (depth_at depths control)
  control_one same = record {
    reached = inr (control, record { block = b; there = there; control = is; period = period_is ((attributes_of diagram).period_at control) ((attributes_of diagram).period_at place) same }, refl);
    most = λ source read. let e = ap (depth_at depths) (control_is source read) in omega (arith, e);
  }

  pub control_apart : is_same_period ((attributes_of diagram).period_at control) ((attributes_of diagram).period_at place) ≡ false → IsGreatest (IsReadControl diagram place) depths 0
  control_apart differs = greatest_none (IsReadControl diagram place) depths (λ source read.
      let period = ap (attributes_of diagram).period_at (control_is source read) ∙ read.period in
      let is_same = ap (λ (p : Option ℕ). is_same_period p ((attributes_of diagram).period_at place)) period ∙ same_period ((attributes_of diagram).period_at place) in
      false≢true (sym differs ∙ is_same))

-- ---- the next depth

pub next_is : (diagram : Diagram) (plan : Resolved) (depths : List ℕ) (place lines control best depth : ℕ)
    (shared told : Bool) → IsGreatest (IsReadLine diagram place) depths lines
    → IsGreatest (IsReadControl diagram place) depths control → best ≡ max lines control
    → shared ≡ is_shared diagram (attributes_of diagram) plan place → shared ≡ told → depth ≡ own_depth told best → IsNextDepth diagram plan depths place depth
next_is diagram plan depths place lines control best depth shared told first second best_is shared_is told_is depth_is = record {
  best = max lines control;
  greatest = greatest_either (IsReadLine diagram place) (IsReadControl diagram place) depths lines control first second;
  is = depth_is ∙ ap (own_depth told) best_is ∙ ap (λ (s : Bool). own_depth s (max lines control)) (sym told_is ∙ shared_is);
}

pub greatest_small : (IsRead : ℕ → Type 0) (depths : List ℕ) (best : ℕ) → ((other : ℕ) → depth_at depths other < 2 ^ 63) → IsGreatest IsRead depths best → best < 2 ^ 63
greatest_small IsRead depths best small greatest = elim greatest.reached [
  | inl none ↦ omega (arith, none)
  | inr some ↦ let below = small some.0 in let is = some.2 in omega (arith, below, is)
]
