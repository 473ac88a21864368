use Rattle.std.proofs.Common.{◌≡◌, ◌∙◌, ◌||◌, not, length, nat_le, codes, ap, ℕ, List}
use Rattle.std.specs.Prelude.{take_while}
use Rattle.std.specs.List.{list_any}
use Rattle.vl_ast.specs.Conditions.{is_read_of, is_clk_at_fault}
use Rattle.vl_ast.specs.Control.{is_bit_input}
use Rattle.vl_ast.specs.Nets.{is_mention_of}
use Rattle.vl_check.specs.inner.Mentions.{mention_of}
use Rattle.vl_check.specs.inner.ClockNames.{first_of_both, name_at_fault}
use Rattle.vl_check.proofs.SearchFacts.{any-map, while-map}
use Rattle.vl_check.proofs.clocking.no_reset.Goals as goal

pub returns : goal.returns
returns c =
    let m = c.args.source.now in
    let whole = c.requires in
    let ports = c.as_slice-ports.ensures in
    let text = c.args.text.now in
    let clk : c.is_clk_at_fault.result ≡ is_clk_at_fault m = c.is_clk_at_fault.ensures
    ∙ (λ i. not (list_any (is_bit_input (codes "clk")) (ports i)) || (any-map mention_of (is_read_of (codes "clk")) text ∙ ap (list_any (is_read_of (codes "clk"))) whole) i) in
    let at = λ (name : List ℕ). while-map mention_of (λ x. not (is_mention_of name x)) text ∙ ap (λ all. length (take_while (λ x. not (is_mention_of name x)) all)) whole in
    c.name_at_fault.ensures
    ∙ (λ i. name_at_fault (clk i) (not ((c.has_bit_input.ensures ∙ ap (list_any (is_bit_input (codes "reset"))) ports) i))
    ((c.first_of_both.ensures ∙ (λ j. first_of_both (nat_le (at (codes "clk") j) (at (codes "reset") j)))) i))
