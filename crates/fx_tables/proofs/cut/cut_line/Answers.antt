use Rattle.std.proofs.Common.{◌≡◌, ℕ, false, get_or, add-one, ◌+◌, ◌-◌, ◌<◌, ◌∷◌, ◌∙◌, List, arith, length, take, drop, ap, sym}
use Rattle.std.proofs.lemmas.List.{take_rest, drop_all}
use Rattle.std.specs.Str.Lines.{lines, strip_carriage_return}
use Rattle.fx_tables.proofs.LinesLemmas.{is_newline, lines-last, lines-first}
use Rattle.fx_tables.proofs.cut.cut_line.Goals as goal

pub returns-then-end-text-clause-line : goal.returns-then-end-text-clause-line
returns-then-end-text-clause-line c =
    let text = c.args.text.now in
    let end = c.newline_place-end in
    lines-last text c.requires (λ k h. end.ensures.before k (omega (arith, c.if-end-text.true)))
    ∙ ap (λ tail. text ∷ lines tail) (sym (take_rest text end.result ∙ drop_all end.result text (omega (arith, c.if-end-text.true))))

first_at : (text head : List ℕ) (n : ℕ) → n < length text → ((k : ℕ) → k < n → is_newline (get_or text k 0) ≡ false)
    → get_or text n 0 ≡ 10 → head ≡ strip_carriage_return (take n text)
    → lines text ≡ head ∷ lines (take (length text - (n + 1)) (drop (n + 1) text))
first_at text head n inside before found is =
    rw (take_rest text (n + 1), is, add-one) (lines-first n text inside before (ap is_newline found))

pub returns-clause-line : goal.returns-clause-line
returns-clause-line c =
    let end = c.newline_place-end in
    let inside : end.result < length c.args.text.now = omega (arith, c.if-end-text.false, end.ensures.within) in
    first_at c.args.text.now _ end.result inside end.ensures.before (end.ensures.found inside) c.without_return.ensures
