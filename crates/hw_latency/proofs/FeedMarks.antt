-- Marks of the blocks that are fed by shared operations, along an order.
use Rattle.std.proofs.Common.{◌≡◌, ℕ, zero, suc, ◌+◌, ◌<◌, ◌≤◌, Bool, true, false, List, length, get_or, replicate, ⊎_elim, refl, sym, ap, subst, ◌∙◌, arith}
use Rattle.std.specs.Prelude.{slice_get, slice_set, Some}
use Rattle.std.proofs.lemmas.Bool.{cases_eq, cases_lt, cases_Bool, false≢true}
use Rattle.std.proofs.lemmas.List.{length-set, length-replicate, get_or-set_same, get_or-set_other}
use Rattle.std.proofs.lemmas.Option.{same_Some, slice_get_within, slice_get-get_or, get_or_from_slice_get}
use Rattle.dg_model.specs.declared.diagram.Diagram.{Diagram}
use Rattle.dg_model.specs.declared.resolved.Resolved.{Resolved}
use Rattle.dg_model.specs.Attributes.{attributes_of}
use Rattle.dg_model.specs.Loop.{IsOrder}
use Rattle.hw_latency.specs.Shared.{is_shared}
use Rattle.hw_latency.specs.Cone.{IsFed, AreFed, is_marked}
use Rattle.dg_sort.specs.Rows.{AreRows}
use Rattle.fx_io.specs.Rows.{row_at}
use Rattle.hw_latency.specs.inner.Marks.{AreBelow, AreFedTo, AreFedUpTo, IsMark, IsNext}
use Rattle.hw_latency.proofs.Cones.{cone_self, cone_more, cone_cases}

unmarked_at : (n place : ℕ) → is_marked (replicate n false) place ≡ false
unmarked_at zero place = refl
unmarked_at (suc n) zero = refl
unmarked_at (suc n) (suc place) = unmarked_at n place

pub feeding_begins : (diagram : Diagram) (plan : Resolved) (order : List ℕ) (fed : List Bool)
    → fed ≡ replicate (length diagram.blocks) false → AreFedTo diagram (attributes_of diagram) plan order 0 fed
feeding_begins diagram plan order fed are = rw are record {
  size = length-replicate (length diagram.blocks) false;
  sound = λ place is. absurd (false≢true (sym (unmarked_at (length diagram.blocks) place) ∙ is));
  whole = λ k place below at is. absurd (omega (arith, below));
}

pub feeding_more : (diagram : Diagram) (plan : Resolved) (order : List ℕ) (rows : List (List ℕ)) (fed : List Bool)
    (i place : ℕ) (mark : Bool) → AreRows diagram rows → IsOrder diagram (attributes_of diagram) order
    → slice_get order i ≡ Some place → place < length diagram.blocks
    → IsMark diagram plan fed (row_at rows place) place mark
    → AreFedTo diagram (attributes_of diagram) plan order i fed
    → AreFedTo diagram (attributes_of diagram) plan order (i + 1) (slice_set fed place mark)
feeding_more diagram plan order rows fed i place mark are ordered at there is fed_to =
    let size = fed_to.size in
    let inside : place < length fed = omega (arith, size, there) in
    record {
      size = length-set fed place mark ∙ fed_to.size;
      sound = λ other marked. ⊎_elim
          (λ (e : place ≡ other). subst (λ b. IsFed diagram (attributes_of diagram) plan b) e
          (new_sound (sym (get_or-set_same fed place mark false inside)
          ∙ ap (λ b. get_or (slice_set fed place mark) b false) e ∙ marked)))
          (λ (differs : place ≡ other → ⊥). fed_to.sound other (sym (get_or-set_other fed place other mark false (λ e. differs (sym e))) ∙ marked))
          (cases_eq place other);
      whole = λ k other below there_k fed_other. ⊎_elim
          (λ (e : place ≡ other). ap (λ b. get_or (slice_set fed place mark) b false) (sym e)
          ∙ get_or-set_same fed place mark false inside
          ∙ new_whole (subst (λ b. IsFed diagram (attributes_of diagram) plan b) (sym e) fed_other))
          (λ (differs : place ≡ other → ⊥).
          get_or-set_other fed place other mark false (λ e. differs (sym e)) ∙ fed_to.whole k other (earlier k other below there_k differs) there_k fed_other)
          (cases_eq place other);
    }
  where
    earlier : (k other : ℕ) → k < i + 1 → slice_get order k ≡ Some other → (place ≡ other → ⊥) → k < i
    earlier k other below there_k differs = ⊎_elim
        (λ (less : k < i). less)
        (λ (late : i ≤ k). let e : i ≡ k = omega (arith, below, late) in absurd (differs (same_Some place other (sym at ∙ ap (slice_get order) e ∙ there_k))))
        (cases_lt k i)

    new_sound : mark ≡ true → IsFed diagram (attributes_of diagram) plan place
    new_sound on = ⊎_elim
        (λ (own : is_shared diagram (attributes_of diagram) plan place ≡ true). record { source = place; cone = cone_self diagram (attributes_of diagram) place; shared = own })
        (λ any.
        let before = fed_to.sound any.source any.marked in
        record {
          source = before.source;
          cone = cone_more diagram (attributes_of diagram) before.source any.source place before.cone (are.sound place any.source (record { place = any.place; at = any.at }));
          shared = before.shared;
        })
        (is.yes on)

    refused : mark ≡ false → IsFed diagram (attributes_of diagram) plan place → ⊥
    refused off fed_place = ⊎_elim
        (λ (same : fed_place.source ≡ place). false≢true (sym (is.own off) ∙ ap (is_shared diagram (attributes_of diagram) plan) (sym same) ∙ fed_place.shared))
        (λ before.
        let reads = are.whole place before.middle before.leads in
        let earlier_one = ordered.after i place before.middle at before.leads in
        let marked = fed_to.whole earlier_one.0 before.middle earlier_one.1 earlier_one.2 (record { source = fed_place.source; cone = before.cone; shared = fed_place.shared }) in
        false≢true (sym ((is.none off).unmarked reads.place before.middle (slice_get_within (row_at rows place) reads.place before.middle reads.at) reads.at) ∙ marked))
        (cone_cases diagram (attributes_of diagram) fed_place.source place fed_place.cone)

    new_whole : IsFed diagram (attributes_of diagram) plan place → mark ≡ true
    new_whole fed_place = ⊎_elim (λ (on : mark ≡ true). on) (λ (off : mark ≡ false). absurd (refused off fed_place)) (cases_Bool mark)

pub feeding_ends : (diagram : Diagram) (plan : Resolved) (order : List ℕ) (fed : List Bool) (i : ℕ)
    → IsOrder diagram (attributes_of diagram) order → length order ≤ i
    → AreFedTo diagram (attributes_of diagram) plan order i fed
    → AreFed diagram (attributes_of diagram) plan fed
feeding_ends diagram plan order fed i ordered end fed_to = record {
  size = fed_to.size;
  sound = fed_to.sound;
  whole = λ place there is.
      let any = ordered.all place there in
      let at : slice_get order any.0 ≡ Some place = slice_get-get_or order any.0 any.1 any.2 ∙ ap Some (any.3 ∙ any.4) in
      let inside = any.2 in
      fed_to.whole any.0 place (omega (arith, inside, end)) at is;
}

-- ---- as the code reads it

pub row_below : (diagram : Diagram) (rows : List (List ℕ)) (row : List ℕ) (marks : List Bool) (place : ℕ)
    → AreRows diagram rows → row ≡ row_at rows place → length marks ≡ length diagram.blocks
    → AreBelow row (length marks)
row_below diagram rows row marks place are is size = record {
  below = λ k source at.
      let low = are.known.there place source (record { place = k; at = ap (λ (r : List ℕ). slice_get r k) (sym is) ∙ at }) in
      let many = are.size in
      omega (arith, low, many, size);
}

pub marked_on : (diagram : Diagram) (plan : Resolved) (rows : List (List ℕ)) (row : List ℕ) (fed slice : List Bool)
    (place : ℕ) (mark : Bool) → AreRows diagram rows → row ≡ row_at rows place → slice ≡ fed
    → place < length diagram.blocks → IsMark diagram plan slice row place mark
    → (order : List ℕ) (i : ℕ) → IsNext diagram order i place → AreFedUpTo diagram plan order i fed → AreFedUpTo diagram plan order (i + 1) (slice_set fed place mark)
marked_on diagram plan rows row fed slice place mark are is same there mark_is order i next fed_to =
    feeding_more diagram plan order rows fed i place mark are next.ordered next.at there
    (subst (λ (marks : List Bool). IsMark diagram plan marks (row_at rows place) place mark) same (subst (λ (r : List ℕ). IsMark diagram plan slice r place mark) is mark_is)) fed_to

pub next_of : (diagram : Diagram) (order slice : List ℕ) (i : ℕ) → slice ≡ order → i < length slice → IsOrder diagram (attributes_of diagram) order → IsNext diagram order i (get_or slice i 0)
next_of diagram order slice i same inside ordered = record {
  ordered = ordered;
  at = ap (λ (o : List ℕ). slice_get o i) (sym same) ∙ slice_get-get_or slice i 0 inside;
}

pub next_there : (diagram : Diagram) (order : List ℕ) (i place : ℕ) → IsNext diagram order i place → place < length diagram.blocks
next_there diagram order i place next =
    subst (λ b. b < length diagram.blocks) (get_or_from_slice_get order i place place next.at) (next.ordered.there i place (slice_get_within order i place next.at))
