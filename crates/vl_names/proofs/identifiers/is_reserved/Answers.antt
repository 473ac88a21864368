use Rattle.std.proofs.Common.{◌≡◌, ℕ, ◌≤◌, List, [], ◌∷◌, length, get_or, bytes_eq, Bor, ◌∙◌, arith}
use Rattle.std.specs.List.{list_any}
use Rattle.vl_names.specs.Reserved.{reserved}
use Rattle.vl_names.proofs.identifiers.is_reserved.Goals as goal

by_first : (word : List ℕ) (words : List (Bor (List ℕ))) → 1 ≤ length word
    → ((others : List ℕ) → list_any (λ other. bytes_eq (get_or word 0 0 ∷ others) other.now) words ≡ list_any (bytes_eq (get_or word 0 0 ∷ others)) reserved)
    → list_any (λ other. bytes_eq word other.now) words ≡ list_any (bytes_eq word) reserved
by_first [] words some same = absurd (omega arith)
by_first (first ∷ others) words some same = same others

pub returns-in-len1-up : goal.returns-in-len1-up
returns-in-len1-up c = c.is_among.ensures ∙ by_first c.args.word.now c.reserved_words.result.now c.in-len1-up.len_at_least c.reserved_words.ensures
