-- Pieces of items, one after another.
use Rattle.std.proofs.Common.{◌≡◌, ℕ, suc, zero, ◌+◌, ◌-◌, ◌*◌, ◌≤◌, ◌∙◌, List, [], ◌∷◌, ◌++◌, length, take, drop, map, min, Ok, Err, sym, ap, refl, arith, Vec, Global, subst, append-nil}
use Rattle.std.proofs.Common.{append_assoc}
use Rattle.std.specs.Prelude.{Contains, IfOk, MatchResult, Result}
use Rattle.std.specs.List.{AllZip, range_with_len, flat_map}
use Rattle.std.proofs.Math.Seq.{take-add}
use Rattle.std.proofs.lemmas.List.{length-drop, drop-drop, take_all, take_min}
use Rattle.std.proofs.lemmas.List.Concat.{flat_map-append}
use Rattle.rayon.specs.Lists.{Folds}
use Rattle.rayon.specs.Numbers.{nat_range}
use Rattle.fx_io.specs.declared.fault.OutOfMemory.{OutOfMemory}
use Rattle.vl_ast.specs.Spelling.{item_text}
use Rattle.vl_ast.specs.declared.modules.ModItem.{ModItem}
use Rattle.vl_write.specs.inner.Pieces.{piece_of, piece_text, Adds}

-- as many items as are left of a piece's are the piece
pub piece_is : (items : List ModItem) (piece : ℕ) → take (min 32 (length items - piece * 32)) (drop (piece * 32) items) ≡ piece_of items piece
piece_is items piece =
    ap (λ (n : ℕ). take (min 32 n) (drop (piece * 32) items)) (sym (length-drop (piece * 32) items)) ∙ take_min 32 (drop (piece * 32) items)

-- the pieces from one on have the lines of the items from its first on
pieces_from : (items : List ModItem) (from count : ℕ) →
    flat_map (piece_text items) (range_with_len from count) ≡ flat_map item_text (take (count * 32) (drop (from * 32) items))
pieces_from items from zero = refl
pieces_from items from (suc count) =
    let rest = pieces_from items (from + 1) count in
    let more : suc count * 32 ≡ 32 + count * 32 = omega arith in
    let next : from * 32 + 32 ≡ (from + 1) * 32 = omega arith in
    let cut : take (suc count * 32) (drop (from * 32) items) ≡ take 32 (drop (from * 32) items) ++ take (count * 32) (drop ((from + 1) * 32) items) =
    ap (λ (n : ℕ). take n (drop (from * 32) items)) more
    ∙ take-add 32 (count * 32) (drop (from * 32) items)
    ∙ ap (λ left. take 32 (drop (from * 32) items) ++ take (count * 32) left) (drop-drop 32 (from * 32) items ∙ ap (λ (n : ℕ). drop n items) next) in
    ap (λ left. piece_text items from ++ left) rest
    ∙ sym (flat_map-append item_text (take 32 (drop (from * 32) items)) (take (count * 32) (drop ((from + 1) * 32) items)))
    ∙ ap (flat_map item_text) (sym cut)

-- what a worker makes of its pieces, which it adds one after another to no lines
abbrev IsStretch : List ModItem → List ℕ → Result (Vec ℕ Global) OutOfMemory → Type 0
IsStretch items pieces stretch = (first : Result (Vec ℕ Global) OutOfMemory)
    × IfOk first (λ lines. lines.items ≡ [])
    × Folds (λ before piece after. Adds (piece_text items piece) before after) first pieces stretch

-- a worker that wasn't without memory adds the lines of its pieces in order
stretch_has : (items : List ModItem) (pieces : List ℕ) (begun : List ℕ) (first stretch : Result (Vec ℕ Global) OutOfMemory) → IfOk first (λ lines. lines.items ≡ begun) →
    Folds (λ before piece after. Adds (piece_text items piece) before after) first pieces stretch →
    IfOk stretch (λ lines. lines.items ≡ begun ++ flat_map (piece_text items) pieces)
stretch_has items [] begun first stretch is folds =
    subst (λ (text : List ℕ). IfOk stretch (λ lines. lines.items ≡ text)) (sym (append-nil begun))
    (subst (λ (r : Result (Vec ℕ Global) OutOfMemory). IfOk r (λ lines. lines.items ≡ begun)) (sym folds) is)
stretch_has items (piece ∷ pieces) begun first stretch is folds =
    subst (λ (text : List ℕ). IfOk stretch (λ lines. lines.items ≡ text)) (append_assoc begun (piece_text items piece) (flat_map (piece_text items) pieces))
    (stretch_has items pieces (begun ++ piece_text items piece) folds.0 stretch (folds.1 begun is) folds.2)

-- stretches have the lines of all their pieces in order
stretches_have : (items : List ModItem) (pieces : List (List ℕ)) (stretches : List (Vec ℕ Global)) → AllZip (IsStretch items) pieces (map Ok stretches) →
    flat_map (λ lines. lines.items) stretches ≡ flat_map (piece_text items) (flat_map (λ (own : List ℕ). own) pieces)
stretches_have items [] [] all = refl
stretches_have items [] (stretch ∷ stretches) all = absurd all
stretches_have items (own ∷ pieces) [] all = absurd all
stretches_have items (own ∷ pieces) (stretch ∷ stretches) all =
    let has : stretch.items ≡ flat_map (piece_text items) own = stretch_has items own [] all.0.0 (Ok stretch) all.0.1 all.0.2 in
    let rest = stretches_have items pieces stretches all.1 in
    (λ i. has i ++ rest i) ∙ sym (flat_map-append (piece_text items) own (flat_map (λ (own : List ℕ). own) pieces))

-- where no worker was without memory, the stretches of all pieces have the lines of all items
pub lines_found : (items : List ModItem) (count : ℕ) (pieces : List (List ℕ)) (found : List (Result (Vec ℕ Global) OutOfMemory)) (all : Result (Vec (Vec ℕ Global) Global) OutOfMemory) →
    length items ≤ count * 32 → flat_map (λ (own : List ℕ). own) pieces ≡ nat_range 0 count → AllZip (IsStretch items) pieces found →
    MatchResult all (λ v. (ys : List (Vec ℕ Global)) × (found ≡ map Ok ys) × (v.items ≡ ys)) (λ e. Contains found (Err e)) →
    IfOk all (λ stretches. flat_map (λ lines. lines.items) stretches.items ≡ flat_map item_text items)
lines_found items count pieces found (Err refused) enough numbered each all = tt
lines_found items count pieces found (Ok stretches) enough numbered each all =
    let more : length items ≤ (count - 0) * 32 = omega (arith, enough) in
    ap (flat_map (λ lines. lines.items)) all.2
    ∙ stretches_have items pieces all.0 (subst (λ (rs : List (Result (Vec ℕ Global) OutOfMemory)). AllZip (IsStretch items) pieces rs) all.1 each)
    ∙ ap (flat_map (piece_text items)) numbered
    ∙ pieces_from items 0 (count - 0)
    ∙ ap (flat_map item_text) (take_all ((count - 0) * 32) items more)
