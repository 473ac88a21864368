use Rattle.std.proofs.Common.{◌≡◌, ℕ, List, length, inr, refl, sym, ◌∙◌, ap, subst}
use Rattle.std.specs.Option.{unwrap_or}
use Rattle.mdl_build.specs.declared.library.BlockType.TheVariants.{DiscreteFir}
use Rattle.mdl_build.specs.declared.roles.Role.{Role}
use Rattle.mdl_build.specs.Extents.{IsExtentOf}
use Rattle.mdl_build.specs.Library.{taps}
use Rattle.mdl_build.specs.Lookup.{value_under, text_of}
use Rattle.mdl_build.specs.Settings.{AreTaps}
use Rattle.mdl_build.proofs.extents.extent_at.Goals as goal

pub returns-in-None : goal.returns-in-None
returns-in-None c =
    let items = c.args.layout.now.items.now in
    let text : c.text_of-text.result.now ≡ text_of items DiscreteFir c.args.place taps =
    c.text_of-text.ensures ∙ ap (λ (name : List ℕ). unwrap_or (value_under items c.args.place name) c.args.other.now) c.name.ensures
    ∙ ap (λ (other : List ℕ). unwrap_or (value_under items c.args.place taps.name) other) c.requires.other in
    let none = rw c.in-None.is at c.in_ok-tap_count.ensures in
    subst (λ (role : Role). IsExtentOf items c.args.place role 1) (sym (c.requires.role ∙ c.in-Filter.is))
    (inr ((λ list are. none (length list) (list, subst (λ (t : List ℕ). AreTaps t list) (sym text) are, refl)), refl))
