use Rattle.std.proofs.Common.{◌≡◌, ◌<◌, ◌≤◌, ◌∙◌, [], List, Option, Vec, Global, ℕ, length, option_map, slice_index, ⊎_elim, ap, subst, sym, rules, arith}
use Rattle.std.proofs.lemmas.Bool.{cases_lt}
use Rattle.std.proofs.lemmas.List.{get_or_default, with_items_is}
use Rattle.vl_check.specs.inner.Walks.{IsSearched, State}
use Rattle.vl_check.proofs.Limits.{all-white, at-end}
use Rattle.vl_check.proofs.sorting.sort.Goals.{then-index-eq0+in_ok-cycle+in_default, else-index-eq0}
use Rattle.vl_check.proofs.sorting.sort.Goals as goal

pub returns : goal.returns
returns c = at-end c.args.reads.now c.loop-root.stage.items c.loop-root.order.items c.loop-root.invariant.state (λ v below. c.loop-root.invariant.met v (omega arith))

pub returns-in-Some : goal.returns-in-Some
returns-in-Some c = subst (λ (cycle : Option (Vec ℕ Global)). IsSearched c.args.reads.now c.as_mut_slice.result.now
    c.search.new.stage c.search.new.order.items c.loop-root.root
    (option_map (λ (found : Vec ℕ Global). found.items) cycle)) c.in-Some.is c.in_ok-cycle.ensures

pub loop-root-init : goal.loop-root-init
loop-root-init c =
    let reads = c.args.reads.now in
    let stage = c.in_ok-stage.stage.items in
    let white = all-white reads stage (c.in_ok-stage.ensures.items_if_clones_equal (search rules)) in
    record {
      state = subst (λ (order : List ℕ). State reads stage [] order) (sym c.new-order.ensures.items) white;
      met = λ v below. absurd (omega (arith, below));
    }

pub search-requires : goal.search-requires
search-requires c =
    let reads = c.args.reads.now in
    let root = c.loop-root.root in
    let stage = c.loop-root.stage.items in
    let value = sym c.as_mut_slice.ensures.value in
    let within : root < length reads = c.loop-root-test.true in
    let long : length stage ≡ length reads = c.loop-root.invariant.state.walk.long in
    let here : slice_index stage root ≡ 0 = sym (get_or_default stage root c.index.result.now 0 (omega (arith, within, long))) ∙ sym c.index.ensures ∙ c.if-index-eq0.true in
    record {
      known = c.requires;
      state = subst (λ (s : List ℕ). State reads s [] c.loop-root.order.items) value c.loop-root.invariant.state;
      root = within;
      white = subst (λ (s : List ℕ). slice_index s root ≡ 0) value here;
    }

pub loop-root-preserved : goal.loop-root-preserved
loop-root-preserved c =
    let reads = c.args.reads.now in
    let root = c.loop-root.root in
    let old = c.loop-root.stage.items in
    let stage = c.if-index-eq0.stage in
    let order = c.if-index-eq0.order in
    elim c.if-index-eq0.branch [
      | then-index-eq0+in_ok-cycle+in_default w ↦
          let after = w.search.new.stage in
          let found = subst (λ (cycle : Option (Vec ℕ Global)). IsSearched reads w.as_mut_slice.result.now after
          w.search.new.order.items root (option_map (λ (x : Vec ℕ Global). x.items) cycle)) w.in_default.is
          w.in_ok-cycle.ensures in
          let value = w.as_mut_slice.ensures.value in
          let items : stage.items ≡ after = ap (λ (x : Vec ℕ Global). x.items) w.stage-is ∙ with_items_is c.loop-root.stage after (w.search.auto.stage ∙ w.as_mut_slice.ensures.len) in
          let placed : order.items ≡ w.search.new.order.items = ap (λ (x : Vec ℕ Global). x.items) w.order-is in
          record {
            state = subst (λ (s : List ℕ). State reads s [] order.items) (sym items) (subst (λ (o : List ℕ). State reads after [] o) (sym placed) found.0);
            met = λ v below. subst (λ (s : List ℕ). 1 ≤ slice_index s v) (sym items) (⊎_elim
                (λ (less : v < root).
                let met = c.loop-root.invariant.met v less in
                let higher = subst (λ (s : List ℕ). slice_index s v ≤ slice_index after v) value (found.2 v) in
                omega (arith, met, higher))
                (λ (most : root ≤ v).
                let same : root ≡ v = omega (arith, most, below) in
                subst (λ (n : ℕ). 1 ≤ slice_index after n) same found.1)
                (cases_lt v root));
          }
      | else-index-eq0 w ↦
          let items : stage.items ≡ old = ap (λ (x : Vec ℕ Global). x.items) w.stage-is in
          let placed : order.items ≡ c.loop-root.order.items = ap (λ (x : Vec ℕ Global). x.items) w.order-is in
          let within : root < length reads = c.loop-root-test.true in
          let long : length old ≡ length reads = c.loop-root.invariant.state.walk.long in
          let is : c.index.result.now ≡ slice_index old root = c.index.ensures ∙ get_or_default old root c.index.result.now 0 (omega (arith, within, long)) in
          let other = w.if-index-eq0.false in
          record {
            state = subst (λ (s : List ℕ). State reads s [] order.items) (sym items) (subst (λ (o : List ℕ). State reads old [] o) (sym placed) c.loop-root.invariant.state);
            met = λ v below. subst (λ (s : List ℕ). 1 ≤ slice_index s v) (sym items) (⊎_elim
                (λ (less : v < root). c.loop-root.invariant.met v less)
                (λ (most : root ≤ v).
                let same : root ≡ v = omega (arith, most, below) in
                subst (λ (n : ℕ). 1 ≤ slice_index old n) same (omega (arith, is, other)))
                (cases_lt v root));
          }
    ]
