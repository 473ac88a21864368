-- A list of lists, kept as one list: what a further part adds, and where an item of a part stands.
use Rattle.std.proofs.Common.{◌≡◌, ℕ, zero, suc, ◌+◌, ◌-◌, ◌<◌, ◌≤◌, List, [], ◌∷◌, ◌++◌, length, take, drop, get_or, refl, ap, ◌∙◌, arith}
use Rattle.std.proofs.Math.Seq.{drop-append_seam, take-length}
use Rattle.std.proofs.lemmas.List.{drop-append-le, take-append-le, length-append, length-drop, length-take, get_or-take, get_or-drop}
use Rattle.dg_model.specs.inner.Flat.{next_start, parts_of, AreStarts}

-- with the present end as one more start, the next start of each part is as it was
next_kept : (more total : ℕ) (starts : List ℕ) → next_start more (starts ++ total ∷ []) ≡ next_start total starts
next_kept more total [] = refl
next_kept more total (x ∷ xs) = refl

-- no start lies past the end
next_within : (total : ℕ) (starts : List ℕ) → AreStarts starts total → next_start total starts ≤ total
next_within total [] h = omega arith
next_within total (x ∷ xs) h = omega (arith, h.0, next_within total xs h.1)

-- a part between two places of a list is the same in a longer list
part_kept : (start end : ℕ) (items more : List ℕ) → start ≤ end → end ≤ length items
    → take (end - start) (drop start (items ++ more)) ≡ take (end - start) (drop start items)
part_kept start end items more ordered within =
    ap (λ rest. take (end - start) rest) (drop-append-le start items more (omega arith))
    ∙ take-append-le (end - start) (drop start items) more (omega (arith, length-drop start items))

last_part : (items part : List ℕ) → take (length (items ++ part) - length items) (drop (length items) (items ++ part)) ≡ part
last_part items part =
    ap (λ rest. take (length (items ++ part) - length items) rest) (drop-append_seam items part)
    ∙ ap (λ n. take n part) (omega (arith, length-append items part))
    ∙ take-length part

pub parts_grown : (starts items part : List ℕ) → AreStarts starts (length items)
    → parts_of (starts ++ length items ∷ []) (items ++ part) ≡ parts_of starts items ++ part ∷ []
parts_grown [] items part h = ap (λ first. first ∷ []) (last_part items part)
parts_grown (start ∷ starts) items part h =
    let next = next_kept (length (items ++ part)) (length items) starts in
    rw (next, part_kept start (next_start (length items) starts) items part h.0 (next_within (length items) starts h.1), parts_grown starts items part h.1) refl

pub starts_grown : (starts items part : List ℕ) → AreStarts starts (length items) → AreStarts (starts ++ length items ∷ []) (length (items ++ part))
starts_grown [] items part h = (omega (arith, length-append items part), tt)
starts_grown (start ∷ starts) items part h =
    (rw (next_kept (length (items ++ part)) (length items) starts) h.0, starts_grown starts items part h.1)

-- ---- items of parts

first_item : (start end : ℕ) (items : List ℕ) (place : ℕ) → end ≤ length items → place < length (take (end - start) (drop start items))
    → (start + place < length items) × (get_or (take (end - start) (drop start items)) place 0 ≡ get_or items (start + place) 0)
first_item start end items place within below =
    let short = length-take (end - start) (drop start items) in (
      omega (arith, short, length-drop start items),
      get_or-take (end - start) (drop start items) place 0 (omega (arith, short)) ∙ get_or-drop start items place 0,
    )

pub item_at : (starts items : List ℕ) (block place : ℕ) → AreStarts starts (length items) → place < length (get_or (parts_of starts items) block [])
    → (get_or starts block 0 + place < length items) × (get_or (get_or (parts_of starts items) block []) place 0 ≡ get_or items (get_or starts block 0 + place) 0)
item_at [] items block place h below = absurd (omega arith)
item_at (start ∷ starts) items zero place h below = first_item start (next_start (length items) starts) items place (next_within (length items) starts h.1) below
item_at (start ∷ starts) items (suc block) place h below = item_at starts items block place h.1 below

pub block_within : (starts items : List ℕ) (block place : ℕ) → place < length (get_or (parts_of starts items) block []) → block < length starts
block_within [] items block place below = absurd (omega arith)
block_within (start ∷ starts) items zero place below = omega arith
block_within (start ∷ starts) items (suc block) place below = omega (arith, block_within starts items block place below)
