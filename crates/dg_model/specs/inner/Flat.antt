-- A list of lists, kept as one list and the places at which its parts begin (own).
use Rattle.std.specs.Prelude.{ℕ, ◌-◌, ◌≤◌, List, [], ◌∷◌, length, take, drop, ⊤}

-- where the next part begins, or the end
abbrev pub next_start : ℕ → List ℕ → ℕ
next_start total [] = total
next_start total (start ∷ starts) = start

-- the parts that begin at these places
abbrev pub parts_of : List ℕ → List ℕ → List (List ℕ)
parts_of [] items = []
parts_of (start ∷ starts) items =
    take (next_start (length items) starts - start) (drop start items) ∷ parts_of starts items

-- none begins behind the next one
abbrev pub AreStarts : List ℕ → ℕ → Type 0
AreStarts [] total = ⊤
AreStarts (start ∷ starts) total = (start ≤ next_start total starts) × AreStarts starts total
