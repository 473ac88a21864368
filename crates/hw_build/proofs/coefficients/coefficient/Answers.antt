use Rattle.std.proofs.Common.{◌≡◌, ℕ, ◌<◌, Option, Some, length, slice_get, MatchOption, refl, ap, sym, ◌∙◌, subst}
use Rattle.std.specs.Int.{w128}
use Rattle.std.proofs.lemmas.Int.{to_z-of_z}
use Rattle.std.proofs.lemmas.Option.{slice_get_read}
use Rattle.fx_type.specs.declared.decimal.Decimal.{Decimal}
use Rattle.fx_type.specs.Conversion.{Stores}
use Rattle.dg_model.specs.Wires.{entry_of}
use Rattle.hw_build.proofs.coefficients.coefficient.Goals as goal

pub returns : goal.returns
returns c =
    let below = subst (λ (k : ℕ). k < length c.args.list.now) (sym c.place_in.ensures) c.requires.there in
    let there = slice_get_read c.args.list.now (length c.args.list.now) c.place_in.result c.index-list-place_in.result refl below c.index-list-place_in.is in
    let entry : entry_of c.args.list.now c.args.element ≡ Some c.index-list-place_in.result = ap (slice_get c.args.list.now) (sym c.place_in.ensures) ∙ there in
    rw (to_z-of_z w128 c.to_stored.result (record { sfits = c.to_stored.type_inv }))
    (subst (λ (o : Option Decimal). MatchOption o ⊥ (λ decimal. Stores decimal c.args.kind c.to_stored.result)) (sym entry) c.to_stored.ensures)
