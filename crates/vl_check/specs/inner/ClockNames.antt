-- Of `clk` and `reset` the one that is at fault, or of both the one that stands first in a text.
use Rattle.std.specs.Prelude.{ℕ, Bool, ◌&&◌, not, if◌then◌else◌, List, length, take_while, codes, Option, Some, None}
use Rattle.vl_ast.specs.Nets.{is_mention_of}
use Rattle.vl_check.specs.declared.mentions.Mention.{Mention}
use Rattle.vl_check.specs.inner.Mentions.{mention_of}

abbrev pub place_in : List Mention → List ℕ → ℕ
place_in text name = length (take_while (λ x. not (is_mention_of name (mention_of x))) text)

abbrev pub first_of_both : Bool → List ℕ
first_of_both before = if before then codes "clk" else codes "reset"

abbrev pub name_at_fault : Bool → Bool → List ℕ → Option (List ℕ)
name_at_fault clk reset first =
    if clk && reset then Some first
    else (if clk then Some (codes "clk") else (if reset then Some (codes "reset") else None))
