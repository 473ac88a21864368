-- The period that a block takes hangs on its sources alone.
use Rattle.std.proofs.Common.{◌≡◌, ℕ, suc, ◌<◌, Bool, true, false, List, [], ◌∷◌, length, Some, None, get_or, refl, sym, ap, ◌∙◌}
use Rattle.std.specs.Prelude.{slice_get, unwrap_or, Option}
use Rattle.std.proofs.lemmas.Option.{unwrap_or-slice_get}
use Rattle.dg_waves.specs.inner.Waves.{is_in}
use Rattle.dg_model.specs.Periods.{Period, Periods, known_at, known_or}
use Rattle.dg_rates.specs.inner.Links.{AreTied}
use Rattle.fx_io.specs.Rows.{row_at}
use Rattle.dg_rates.specs.inner.Steps.{known_of, taken_by, next_known}

same_known : (old new : Periods) (block : ℕ) → slice_get old block ≡ slice_get new block → known_at old block ≡ known_at new block
same_known old new block same = sym (unwrap_or-slice_get old block None) ∙ ap (λ (o : Option (Option Period)). unwrap_or o None) same ∙ unwrap_or-slice_get new block None

same_sources : (old new : Periods) (sources : List ℕ) → ((k source : ℕ) → slice_get sources k ≡ Some source → slice_get old source ≡ slice_get new source) → known_of old sources ≡ known_of new sources
same_sources old new [] same = refl
same_sources old new (x ∷ xs) same =
    let head : known_at old x ≡ known_at new x = same_known old new x (same 0 x refl) in
    let tail : known_of old xs ≡ known_of new xs = same_sources old new xs (λ k source at. same (suc k) source at) in
    cc

pub step_is_local : (rests : List Bool) (sources readers : List (List ℕ)) (old new : Periods)
    (block : ℕ) → AreTied (length sources) (length sources) sources readers
    → block < length sources
    → ((source : ℕ) → is_in block (row_at readers source) ≡ true → slice_get old source ≡ slice_get new source) → next_known rests sources old block ≡ next_known rests sources new block
step_is_local rests sources readers old new block tied inside same =
    let own = same_known old new block (same block (tied.own block inside)) in
    let inputs = same_sources old new (row_at sources block) (λ k source at. same source (tied.known block k source at)) in
    ap (λ (p : Option Period). known_or p (taken_by (get_or rests block false) (known_of old (row_at sources block)))) own
    ∙ ap (λ (ps : Periods). known_or (known_at new block) (taken_by (get_or rests block false) ps)) inputs
