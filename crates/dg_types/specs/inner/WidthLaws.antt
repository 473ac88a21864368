-- What a block takes hangs on its sources alone, and stays in the bound.
use Rattle.std.proofs.Common.{◌≡◌, ℕ, suc, ◌<◌, ◌≤◌, true, List, [], ◌∷◌, length, Some, get_or, refl, sym, ap, ◌∙◌, arith}
use Rattle.std.specs.Prelude.{slice_get, unwrap_or, Option}
use Rattle.std.proofs.lemmas.Option.{unwrap_or-slice_get}
use Rattle.dg_types.specs.declared.linked.Source.{Source}
use Rattle.dg_types.specs.declared.linked.Form.{Form}
use Rattle.dg_types.specs.declared.linked.Form.TheVariants.{Elementwise, Single}
use Rattle.dg_types.specs.inner.Widths.{width_through, source_widths, taken_by, next_held, AreLinked}
use Rattle.dg_waves.specs.inner.Waves.{is_in}

same_held : (old new : List ℕ) (block : ℕ) → slice_get old block ≡ slice_get new block
    → get_or old block 0 ≡ get_or new block 0
same_held old new block same =
    sym (unwrap_or-slice_get old block 0) ∙ ap
    (λ (o : Option ℕ). unwrap_or o 0) same ∙ unwrap_or-slice_get new block 0

same_sources : (old new : List ℕ) (sources : List Source)
    → ((k : ℕ) (source : Source) → slice_get sources k ≡ Some source
    → slice_get old source.block ≡ slice_get new source.block)
    → source_widths old sources ≡ source_widths new sources
same_sources old new [] same = refl
same_sources old new (x ∷ xs) same =
    let head : width_through x.share (get_or old x.block 0)
    ≡ width_through x.share (get_or new x.block 0) = ap (width_through x.share)
    (same_held old new x.block (same 0 x refl)) in
    let tail : source_widths old xs
    ≡ source_widths new xs = same_sources old new xs (λ k source at. same (suc k) source at) in
    cc

pub is_local : (forms : List Form) (sources : List (List Source)) (readers : List (List ℕ))
    (old new : List ℕ) (block : ℕ) → AreLinked forms sources readers → block < length sources →
    ((source : ℕ) → is_in block (get_or readers source []) ≡ true
    → slice_get old source ≡ slice_get new source)
    → next_held forms sources old block ≡ next_held forms sources new block
is_local forms sources readers old new block linked inside same =
    let own = same_held old new block (same block (linked.own block inside)) in
    let inputs =
    same_sources old new (get_or sources block [])
    (λ k source at. same source.block (linked.known block k source at)) in
    ap (λ (w : ℕ). taken_by (get_or forms block Single) w
    (source_widths old (get_or sources block []))) own
    ∙ ap (λ (ws : List ℕ). taken_by (get_or forms block Single) (get_or new block 0) ws) inputs

taken_stays : (form : Form) (own : ℕ) (inputs : List ℕ) → taken_by form own inputs ≤ 1026
taken_stays (Elementwise least) own inputs = omega arith
taken_stays _ own inputs = omega arith

pub stays : (forms : List Form) (sources : List (List Source)) (values : List ℕ) (block : ℕ)
    → next_held forms sources values block ≤ 1026
stays forms sources values block =
    taken_stays (get_or forms block Single) (get_or values block 0)
    (source_widths values (get_or sources block []))
