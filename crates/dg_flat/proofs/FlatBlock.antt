-- The flat block of a part, and the flat list as one more block comes.
use Rattle.std.proofs.Common.{◌≡◌, ℕ, suc, ◌<◌, ◌+◌, List, [], ◌∷◌, ◌++◌, length, take, get_or, Option, Some, None, zero-add, sym, ap, ◌∙◌, arith}
use Rattle.std.specs.Prelude.{option_map}
use Rattle.std.specs.List.{enumerate_from, filter_map, cons_option}
use Rattle.std.proofs.lemmas.List.{take_more, length-take, append-nil}
use Rattle.std.proofs.lemmas.List.Elements.{filter_map-append}
use Rattle.dg_model.specs.declared.diagram.Block.{Block}
use Rattle.dg_model.specs.declared.nested.NestedBlock.{NestedBlock}
use Rattle.dg_model.specs.declared.nested.Part.{Part}
use Rattle.dg_flat.specs.Flat.{flat_block, flat_place, placed, resets_under}
use Rattle.dg_flat.specs.Parts.{nested_path}
use Rattle.dg_flat.specs.Flat.{placed_as}

placed_is : (blocks : List NestedBlock) (place : ℕ) (control : Option ℕ) (block : Block) (path : List ℕ) (found : Option ℕ) (flat : Block) →
    flat ≡ placed_as path (resets_under blocks found) (option_map (flat_place blocks) found) block → path ≡ nested_path blocks place → found ≡ control → flat ≡ placed blocks place control block
placed_is blocks place control block path found flat is same held =
    is ∙ ap (λ (p : List ℕ). placed_as p (resets_under blocks found) (option_map (flat_place blocks) found) block) same ∙ ap (λ (o : Option ℕ). placed blocks place o block) held

pub flat_is : (blocks : List NestedBlock) (place : ℕ) (control : Option ℕ) (part : Part) (block : Block) (path : List ℕ) (found : Option ℕ) (flat : Block) →
    flat ≡ placed_as path (resets_under blocks found) (option_map (flat_place blocks) found) block
    → path ≡ nested_path blocks place → found ≡ control
    → flat_block blocks place control part ≡ Some (placed blocks place control block) →
    Some flat ≡ flat_block blocks place control part
flat_is blocks place control part block path found flat is same held e = ap (λ (b : Block). Some b) (placed_is blocks place control block path found flat is same held) ∙ sym e

-- ---- one block more

numbered_push : {X : Type 0} (from : ℕ) (xs : List X) (x : X) → enumerate_from from (xs ++ x ∷ []) ≡ enumerate_from from xs ++ (from + length xs, x) ∷ []
numbered_push from [] x = ap (λ (n : ℕ). (n, x) ∷ []) (omega arith)
numbered_push {X} from (y ∷ ys) x =
    let next : (from + 1) + length ys ≡ from + suc (length ys) = omega arith in
    ap (λ (rest : List (ℕ × X)). (from, y) ∷ rest) (numbered_push (from + 1) ys x ∙ ap (λ (n : ℕ). enumerate_from (from + 1) ys ++ (n, x) ∷ []) next)

push_is : {X Y : Type 0} (h : ℕ × X → Option Y) (xs : List X) (x : X) → filter_map h (enumerate_from 0 (xs ++ x ∷ [])) ≡ filter_map h (enumerate_from 0 xs) ++ cons_option (h (length xs, x)) []
push_is h xs x =
    ap (filter_map h) (numbered_push 0 xs x) ∙ filter_map-append h (enumerate_from 0 xs) ((0 + length xs, x) ∷ [])
    ∙ ap (λ (n : ℕ). filter_map h (enumerate_from 0 xs) ++ cons_option (h (n, x)) []) (zero-add (length xs))

flat_next : {X Y : Type 0} (h : ℕ × X → Option Y) (xs : List X) (i : ℕ) (x : X) → i < length xs → x ≡ get_or xs i x →
    filter_map h (enumerate_from 0 (take (i + 1) xs)) ≡ filter_map h (enumerate_from 0 (take i xs)) ++ cons_option (h (i, x)) []
flat_next {X} h xs i x inside at =
    ap (λ (l : List X). filter_map h (enumerate_from 0 l)) (take_more xs i x inside ∙ ap (λ (z : X). take i xs ++ z ∷ []) (sym at))
    ∙ push_is h (take i xs) x ∙ ap (λ (n : ℕ). filter_map h (enumerate_from 0 (take i xs)) ++ cons_option (h (n, x)) []) long where
      long : length (take i xs) ≡ i
      long = rw length-take (omega arith)

pub flat_more : {X Y : Type 0} (h : ℕ × X → Option Y) (xs : List X) (i : ℕ) (x : X) (y : Y) → i < length xs → x ≡ get_or xs i x → h (i, x) ≡ Some y →
    filter_map h (enumerate_from 0 (take (i + 1) xs)) ≡ filter_map h (enumerate_from 0 (take i xs)) ++ y ∷ []
flat_more {X} {Y} h xs i x y inside at is = flat_next h xs i x inside at ∙ ap (λ (o : Option Y). filter_map h (enumerate_from 0 (take i xs)) ++ cons_option o []) is

pub flat_same : {X Y : Type 0} (h : ℕ × X → Option Y) (xs : List X) (i : ℕ) (x : X) → i < length xs → x ≡ get_or xs i x → h (i, x) ≡ None →
    filter_map h (enumerate_from 0 (take (i + 1) xs)) ≡ filter_map h (enumerate_from 0 (take i xs))
flat_same {X} {Y} h xs i x inside at is =
    flat_next h xs i x inside at ∙ ap (λ (o : Option Y). filter_map h (enumerate_from 0 (take i xs)) ++ cons_option o []) is ∙ append-nil (filter_map h (enumerate_from 0 (take i xs)))
