-- Output ports of enabled subsystems: what is chosen by the control.
use Rattle.std.proofs.Common.{◌≡◌, ◌≢◌, ℕ, suc, ◌<◌, ◌%◌, ℤ, pos, Bool, true, false, cond, MatchBool, List, ◌∷◌, filter, Some, slice_get, ap, sym, ◌∙◌, subst, arith}
use Rattle.std.specs.Ordering.{int_eq}
use Rattle.std.proofs.lemmas.Int.{ints}
use Rattle.fx_type.specs.declared.decimal.Decimal.{Decimal}
use Rattle.dg_model.specs.declared.diagram.Diagram.{Diagram}
use Rattle.dg_model.specs.Signals.{Attributes, Stimulus, Table}
use Rattle.dg_model.specs.Hits.{hits_before, is_enabled_at, counted_hits}
use Rattle.dg_model.specs.Wires.{value_into}
use Rattle.dg_model.specs.Equation.{StoresEntry, IsInputAt}
use Rattle.hw_net.specs.Registers.{Wave}
use Rattle.hw_shows.specs.Series.{IsChosen}
use Rattle.hw_shows.proofs.Hits.{hits_after}
use Rattle.hw_shows.proofs.States.{IsTruth}

module _ (diagram : Diagram) (attributes : Attributes) (stimulus : Stimulus) (table : Table)
    (block control q t element : ℕ) (initial : List Decimal) (some : 0 < q) (hit : t % q ≡ 0)
    (truth : IsTruth (table control 1 0 t))
    (clocks c : ℕ) (early : c < clocks) (enable offered other entry : Wave)
    (enables : enable c ≡ table control 1 0 t)
    (now : offered c ≡ value_into diagram attributes table block 1 element t)
    (chosen : IsChosen clocks enable offered other entry)
  where
    one_is_on : pos 1 ≢ pos 0
    one_is_on e = absurd (omega (arith, ints, e))

    abbrev test : ℕ → Bool
    test = is_enabled_at table control

    abbrev before : List ℕ
    before = filter test (hits_before (Some q) t)

    counted : (b : Bool) → test t ≡ b → filter test (hits_before (Some q) (suc t)) ≡ cond b (t ∷ before) before
    counted b e = ap (λ (hits : List ℕ). filter test hits) (hits_after q t t hit (omega arith) (omega arith)) ∙ ap (λ (b : Bool). cond b (t ∷ before) before) e

    is_on : table control 1 0 t ≡ pos 1 → test t ≡ true
    is_on e = ap (λ (v : ℤ). int_eq v (pos 1)) e

    is_off : table control 1 0 t ≡ pos 0 → test t ≡ false
    is_off e = ap (λ (v : ℤ). int_eq v (pos 1)) e

    passes : table control 1 0 t ≡ pos 1 → entry c ≡ value_into diagram attributes table block 1 element t
    passes e = chosen.on c early (λ z. one_is_on (sym e ∙ sym enables ∙ z)) ∙ now

    rests : table control 1 0 t ≡ pos 0 → entry c ≡ other c
    rests e = chosen.off c early (enables ∙ e)

    abbrev Held : List ℕ → ℤ → Type 0
    Held hits v = IsInputAt diagram attributes stimulus table block initial element (slice_get hits 0) v

    -- held: the register has the input of the enabled hit before
    pub held_out : Held (counted_hits table (Some control) false (Some q) t) (other c) → Held (filter test (hits_before (Some q) (suc t))) (entry c)
    held_out held = go truth
      where
        go : IsTruth (table control 1 0 t) → Held (filter test (hits_before (Some q) (suc t))) (entry c)
        go (IsTruth.IsOn e) = subst (λ (hits : List ℕ). Held hits (entry c)) (sym (counted true (is_on e))) (passes e)
        go (IsTruth.IsOff e) = subst (λ (hits : List ℕ). Held hits (entry c)) (sym (counted false (is_off e))) (subst (λ (v : ℤ). Held before v) (sym (rests e)) held)

    -- reset: a parameter's entry stands in its place
    pub reset_out : StoresEntry initial element (attributes.type_at block 1) (other c)
        → MatchBool (test t) (entry c ≡ value_into diagram attributes table block 1 element t) (StoresEntry initial element (attributes.type_at block 1) (entry c))
    reset_out stored = go truth
      where
        go : IsTruth (table control 1 0 t) → MatchBool (test t) (entry c ≡ value_into diagram attributes table block 1 element t) (StoresEntry initial element (attributes.type_at block 1) (entry c))
        go (IsTruth.IsOn e) = subst (λ (b : Bool). MatchBool b
            (entry c ≡ value_into diagram attributes table block 1 element t)
            (StoresEntry initial element (attributes.type_at block 1) (entry c))) (sym (is_on e)) (passes e)
        go (IsTruth.IsOff e) = subst (λ (b : Bool). MatchBool b
            (entry c ≡ value_into diagram attributes table block 1 element t)
            (StoresEntry initial element (attributes.type_at block 1) (entry c))) (sym (is_off e))
            (subst (λ (v : ℤ). StoresEntry initial element (attributes.type_at block 1) v) (sym (rests e)) stored)
