use Rattle.std.proofs.Common.{ℕ, List, Option, Bor, option_map, ap, sym, ◌∙◌}
use Rattle.vl_check.proofs.checking.first_of_rest.Goals as goal

abbrev text_of : Option (Bor (List ℕ)) → Option (List ℕ)
text_of found = option_map (λ (name : Bor (List ℕ)). name.now) found

pub returns-in-Some : goal.returns-in-Some
returns-in-Some c acyclic = (acyclic, sym c.too_wide.ensures ∙ ap text_of c.in-Some.is)

pub returns-in-Some-no_reset : goal.returns-in-Some-no_reset
returns-in-Some-no_reset c acyclic = (acyclic, sym c.too_wide.ensures ∙ ap text_of c.in_default.is, sym c.no_reset.ensures ∙ ap text_of c.in-Some-no_reset.is)

pub returns-in-Some-no_attribute : goal.returns-in-Some-no_attribute
returns-in-Some-no_attribute c acyclic =
    (acyclic, sym c.too_wide.ensures ∙ ap text_of c.in_default.is, sym c.no_reset.ensures ∙ ap text_of c.in_default-no_reset.is, sym c.no_attribute.ensures ∙ ap text_of c.in-Some-no_attribute.is)

pub returns-in-None : goal.returns-in-None
returns-in-None c = record {
  narrow = sym c.too_wide.ensures ∙ ap text_of c.in_default.is;
  clocked = sym c.no_reset.ensures ∙ ap text_of c.in_default-no_reset.is;
  attributed = sym c.no_attribute.ensures ∙ ap text_of c.in-None.is;
}
