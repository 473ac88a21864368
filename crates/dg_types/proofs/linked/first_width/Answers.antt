use Rattle.std.proofs.Common.{◌≡◌, ℕ, ◌<◌, List, [], ◌∷◌, length, get_or, Option, Some, ap, sym, ◌∙◌}
use Rattle.std.specs.Prelude.{slice_get}
use Rattle.std.specs.Option.{option_copied}
use Rattle.std.proofs.lemmas.Option.{none-some, same_Some}
use Rattle.math_list.proofs.Places.{held}
use Rattle.dg_types.specs.declared.linked.Source.{Source}
use Rattle.dg_types.specs.inner.Widths.{source_widths, width_through}
use Rattle.dg_types.proofs.linked.first_width.Goals as goal

first_shown : (values : List ℕ) (sources : List Source) (source : Source) → slice_get sources 0 ≡ Some source
    → width_through source.share (get_or values source.block 0) ≡ get_or (source_widths values sources) 0 0
first_shown values [] source at = absurd (none-some source at)
first_shown values (first ∷ rest) source at = ap (λ (s : Source). width_through s.share (get_or values s.block 0)) (sym (same_Some first source at))

pub bounds-values-source : goal.bounds-values-source
bounds-values-source c =
    held (λ (s : Source). s.block < length c.args.values.now) c.args.sources.now 0 c.in-Some.source.now c.requires.there (sym c.first.ensures.value ∙ ap option_copied c.in-Some.is)

pub width_through-requires-clause-small : goal.width_through-requires-clause-small
width_through-requires-clause-small c =
    c.requires.small _ 0 (held (λ (s : Source). s.block < length c.args.values.now) c.args.sources.now 0
    c.in-Some.source.now c.requires.there (sym c.first.ensures.value ∙ ap option_copied c.in-Some.is))

pub returns-in-Some : goal.returns-in-Some
returns-in-Some c = c.width_through.ensures ∙ first_shown c.args.values.now c.args.sources.now c.in-Some.source.now (sym c.first.ensures.value ∙ ap option_copied c.in-Some.is)
