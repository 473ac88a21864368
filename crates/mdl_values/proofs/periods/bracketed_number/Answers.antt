use Rattle.std.proofs.Common.{◌≡◌, ℕ, List, [], length, get_or, sym, ◌∙◌, ap, arith}
use Rattle.std.proofs.lemmas.List.{get_or_default}
use Rattle.mdl_values.proofs.PeriodLemmas.{count_of, bracketed_found}
use Rattle.mdl_values.proofs.periods.bracketed_number.Goals as goal

pub returns : goal.returns
returns c =
    let texts = c.as_slice-elements.result.now in
    let sized = rw c.in_ok-bracket_elements.ensures at c.in-Some.ensures in
    let long : length texts ≡ 1 = ap length c.as_slice-elements.ensures ∙ count_of sized in
    let first : get_or c.in-Some.texts 0 [] ≡ c.bytes.result.now =
    ap (λ (xs : List (List ℕ)). get_or xs 0 []) (sym c.as_slice-elements.ensures)
    ∙ get_or_default texts 0 [] c.index-elements-0.result (omega (arith, long)) ∙ sym c.index-elements-0.is ∙ sym c.bytes.ensures in
    bracketed_found c.args.text.now c.in-Some.texts c.bytes.result.now c.read_number-number.result sized first c.read_number-number.ensures
