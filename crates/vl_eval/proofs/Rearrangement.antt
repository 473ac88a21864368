-- Operations in another order give names and registers the same bits.
use Rattle.std.proofs.Common.{◌≡◌, ◌<◌, ◌≤◌, ◌+◌, ⊎_elim, ℕ, List, length, map, slice_index, Option, None, Some, refl, sym, ap, subst, ◌∙◌, arith}
use Rattle.std.proofs.lemmas.Bool.{cases_lt}
use Rattle.std.proofs.lemmas.List.{get_or-map, length-map}
use Rattle.std.proofs.lemmas.Option.{slice_get_within}
use Rattle.vl_ast.specs.declared.expressions.Sized.{Sized}
use Rattle.vl_ast.specs.declared.expressions.Expr.{Expr}
use Rattle.vl_ast.specs.declared.modules.Module.{Module}
use Rattle.vl_ast.specs.Value.{assigned}
use Rattle.vl_ast.proofs.Agree.{ByLayer}
use Rattle.math_list.proofs.Elements.{from-map, map-in}
use Rattle.vl_check.proofs.ScopeNames.{at-number}
use Rattle.vl_check.specs.declared.scope.Scope.{Scope}
use Rattle.vl_check.specs.Scope.{names_in, nets_in, number_in}
use Rattle.vl_eval.specs.declared.arranging.Arranged.{Arranged}
use Rattle.vl_eval.specs.declared.ops.Op.{Op}
use Rattle.vl_eval.specs.declared.plan.Capture.{Capture}
use Rattle.vl_eval.specs.inner.Order.{IsArranged, moved_capture}
use Rattle.vl_eval.specs.inner.Assigns.{next_in}
use Rattle.vl_eval.specs.inner.Ops.{IsSettled}
use Rattle.vl_eval.specs.inner.PlanOperations.{AreCaptured, AreWired, FixedFit, IsCaptured, row_in}
use Rattle.vl_eval.specs.inner.Site.{slot_at, slot_in}
use Rattle.vl_eval.proofs.Builds.{grows-length, grows-none, settled-later}

module _ (by_layer : ByLayer) (m : Module) (scope : Scope) (some : 0 < length (names_in scope)) (wires : List Op) (built arranged : Arranged)
    (w : AreWired m scope built.slots.items wires)
    (c : AreCaptured m scope built.slots.items m.items wires built.ops built.captures.items)
    (a : IsArranged (length (names_in scope)) built arranged) where
  abbrev ops : List Op
  ops = built.ops

  abbrev slots : List ℕ
  slots = built.slots.items

  abbrev captures : List Capture
  captures = built.captures.items

  abbrev count : ℕ
  count = length (names_in scope)

  abbrev back : (ℕ → ℕ) → ℕ → ℕ
  back values place = values (a.move place)

  at-slot : (k : ℕ) → k < count → slice_index (map a.move slots) k ≡ a.move (slice_index slots k)
  at-slot k low = get_or-map a.move slots k 0 0 (let l = w.long in omega (arith, l, low))

  slot-moved : (name : List ℕ) → slot_in scope (map a.move slots) name ≡ a.move (slot_in scope slots name)
  slot-moved name = by (number_in scope name) refl where
    by : (n : Option ℕ) → number_in scope name ≡ n → slot_at (map a.move slots) n ≡ a.move (slot_at slots n)
    by None e = sym (a.fixed 0 some)
    by (Some k) e = at-slot k (slice_get_within (names_in scope) k name (at-number scope.names.items k name e))

  row-moved : (values : ℕ → ℕ) → row_in scope slots (back values) ≡ row_in scope (map a.move slots) values
  row-moved values = λ i name. values (sym (slot-moved name) i)

  old-fit : (values : ℕ → ℕ) → FixedFit m scope (row_in scope (map a.move slots) values) → FixedFit m scope (row_in scope slots (back values))
  old-fit values f = subst (λ (r : List ℕ → ℕ). FixedFit m scope r) (sym (row-moved values)) f

  old-wires : (values : ℕ → ℕ) → IsSettled count arranged.ops values → IsSettled count wires (back values)
  old-wires values st = settled-later by_layer count scope slots wires ops c.grows (back values) (a.settled values st)

  move-below : (k : ℕ) → k < count + length ops → a.move k < count + length arranged.ops
  move-below k low = ⊎_elim
      (λ (less : k < count). let e = a.fixed k less in omega (arith, e, less))
      (λ (high : count ≤ k). (a.within k high low).1)
      (cases_lt k count)

  new-wired : AreWired m scope (map a.move slots) arranged.ops
  new-wired = record {
    grows = record { more = arranged.ops; grown = refl; ordered = λ none. a.ordered };
    long = length-map slots a.move ∙ w.long;
    below = λ k low.
        let e = at-slot k low in
        let b = w.below k low in
        let g = grows-length count wires ops c.grows in
        let m' = move-below (slice_index slots k) (omega (arith, b, g)) in
        omega (arith, e, m');
    fixed = λ name k e fixed.
        let low = slice_get_within (names_in scope) k name (at-number scope.names.items k name e) in
        at-slot k low ∙ ap a.move (w.fixed name k e fixed) ∙ a.fixed k low;
    given = λ name value i. record {
      is = λ values st f.
          subst (λ (r : List ℕ → ℕ). r name ≡ assigned (nets_in scope) r (nets_in scope name).width value) (row-moved values)
          ((w.given name value i).is (back values) (old-wires values st) (old-fit values f));
    };
    either = w.either;
  }

  moved-captured : (capture : Capture) (name : List ℕ) (first : Sized) (condition : Option Expr) (value : Expr) → IsCaptured m scope slots ops capture name first condition value
      → IsCaptured m scope (map a.move slots) arranged.ops (moved_capture a.move capture) name first condition value
  moved-captured capture name first condition value k =
      let within = a.within capture.from k.above k.below in
      record {
        to = ap a.move k.to ∙ sym (slot-moved name);
        above = within.0;
        below = within.1;
        is = λ values st f.
            subst (λ (r : List ℕ → ℕ). back values capture.from ≡ next_in (nets_in scope) r name first condition value) (row-moved values)
            (k.is (back values) (a.settled values st) (old-fit values f));
      }

  new-captured : AreCaptured m scope (map a.move slots) m.items arranged.ops arranged.ops (map (moved_capture a.move) captures)
  new-captured = record {
    grows = grows-none count arranged.ops;
    each = λ name first condition value h.
        let r = c.each name first condition value h in
        (moved_capture a.move r.0, map-in (moved_capture a.move) captures r.0 r.1, moved-captured r.0 name first condition value r.2);
    only = λ capture h.
        let from = from-map (moved_capture a.move) captures capture h in
        let r = c.only from.0 from.1 in
        (r.0, r.1, r.2, r.3, r.4, subst (λ x. IsCaptured m scope (map a.move slots) arranged.ops x r.0 r.1 r.2 r.3) from.2 (moved-captured from.0 r.0 r.1 r.2 r.3 r.5));
  }

  pub arranged-wired : AreWired m scope arranged.slots.items arranged.ops
  arranged-wired = subst (λ xs. AreWired m scope xs arranged.ops) (sym a.slots_are) new-wired

  pub arranged-captured : AreCaptured m scope arranged.slots.items m.items arranged.ops arranged.ops arranged.captures.items
  arranged-captured =
      subst (λ xs. AreCaptured m scope xs m.items arranged.ops arranged.ops arranged.captures.items) (sym a.slots_are)
      (subst (λ xs. AreCaptured m scope (map a.move slots) m.items arranged.ops arranged.ops xs) (sym a.captures_are) new-captured)
