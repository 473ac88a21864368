use Rattle.std.proofs.Common.{◌≡◌, ℕ, ◌-◌, ◌<◌, ◌≤◌, Bool, true, false, List, [], ◌∷◌, ◌||◌, map, get_or, bytes_eq, nat_eq, Bor, refl, sym, ap, ◌∙◌, arith}
use Rattle.std.specs.List.{list_any, filter, range_with_len}
use Rattle.std.proofs.Math.ListN.{get_or-map}
use Rattle.std.proofs.lemmas.List.FromFn.{get_or-map-range_with_len}
use Rattle.std.proofs.lemmas.Map.Views.{any-filter_same}
use Rattle.vl_names.specs.Reserved.{reserved}
use Rattle.vl_names.proofs.identifiers.reserved_words.Goals as goal

-- whether the word begins with the byte
abbrev begins_with : ℕ → List ℕ → Bool
begins_with first [] = false
begins_with first (letter ∷ others) = nat_eq first letter

begins_with-own : (first : ℕ) (others word : List ℕ) → bytes_eq (first ∷ others) word ≡ true → begins_with first word ≡ true
begins_with-own first others [] same = same
begins_with-own first others (letter ∷ rest) same = grind (arith, same)

-- a word is among the reserved words if it is among those that begin with its first byte
any-begun : (first : ℕ) (others : List ℕ) → list_any (bytes_eq (first ∷ others)) (filter (begins_with first) reserved) ≡ list_any (bytes_eq (first ∷ others)) reserved
any-begun first others = any-filter_same (bytes_eq (first ∷ others)) (begins_with first) true (begins_with-own first others) reserved

-- the bytes of the words behind a reference
abbrev texts : Bor (List (Bor (List ℕ))) → List (List ℕ)
texts words = map (λ word. word.now) words.now

any-texts : (test : List ℕ → Bool) (words : List (Bor (List ℕ))) → list_any (λ word. test word.now) words ≡ list_any test (map (λ word. word.now) words)
any-texts test [] = refl
any-texts test (word ∷ words) = ap (λ (found : Bool). test word.now || found) (any-texts test words)

-- the reserved words of each letter from a to z
abbrev by_letter : List (List (List ℕ))
by_letter = map (λ letter. filter (begins_with letter) reserved) (range_with_len 97 26)

at_letter : (table : List (Bor (List (Bor (List ℕ))))) (past : Bor (List (Bor (List ℕ)))) (first : ℕ) → 97 ≤ first
    → first < 123 → map texts table ≡ by_letter
    → texts (get_or table (first - 97) past) ≡ filter (begins_with first) reserved
at_letter table past first low high is =
    sym (get_or-map texts table (first - 97) past)
    ∙ ap (λ (all : List (List (List ℕ))). get_or all (first - 97) (texts past)) is
    ∙ get_or-map-range_with_len (λ letter. filter (begins_with letter) reserved) 97 26 (first - 97) first (texts past) (omega arith) (omega arith)

-- a table by letter serves for all of the reserved words, at a word that begins with a letter
chosen : (table : List (Bor (List (Bor (List ℕ))))) (past : Bor (List (Bor (List ℕ)))) (first place : ℕ) → 97 ≤ first → first < 123 → place ≡ first - 97 → map texts table ≡ by_letter
    → (others : List ℕ) → list_any (λ word. bytes_eq (first ∷ others) word.now) (get_or table place past).now ≡ list_any (bytes_eq (first ∷ others)) reserved
chosen table past first place low high at is others =
    let words : texts (get_or table place past) ≡ filter (begins_with first) reserved = rw at (at_letter table past first low high is) in
    any-texts (bytes_eq (first ∷ others)) (get_or table place past).now
    ∙ ap (list_any (bytes_eq (first ∷ others))) words
    ∙ any-begun first others

pub returns-in-97-to-122 : goal.returns-in-97-to-122
returns-in-97-to-122 c = search (arith, c.from.ensures, chosen)
