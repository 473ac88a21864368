use Rattle.std.proofs.Common.{◌<◌, ℕ, Option, Some, length, slice_get, MatchOption, ap, sym, ◌∙◌, subst}
use Rattle.std.specs.Int.{w128}
use Rattle.std.proofs.lemmas.Int.{to_z-of_z}
use Rattle.std.proofs.lemmas.Option.{slice_get-get_or}
use Rattle.fx_type.specs.declared.decimal.Decimal.{Decimal}
use Rattle.fx_type.specs.Conversion.{Stores}
use Rattle.dg_sim.proofs.values.stored_entry.Goals as goal

pub returns : goal.returns
returns c =
    let list = c.args.list.now in
    let within : c.place_in-at.result < length list = subst (λ (n : ℕ). n < length list) (sym c.place_in-at.ensures) c.requires.entry in
    let entry = ap (slice_get list) (sym c.place_in-at.ensures) ∙ slice_get-get_or list c.place_in-at.result _ within ∙ ap (λ (d : Decimal). Some d) (sym c.index-list-at.is) in
    rw (to_z-of_z w128 c.to_stored.result (record { sfits = c.to_stored.type_inv }))
    (subst (λ (o : Option Decimal). MatchOption o ⊥ (λ decimal. Stores decimal c.args.kind c.to_stored.result)) (sym entry) c.to_stored.ensures)
