use Rattle.std.proofs.Common.{◌≡◌, Bool, List, [], ◌∷◌, refl, sym, ap, ◌∙◌}
use Rattle.std.proofs.lemmas.Result.{IfOk-weaker}
use Rattle.fx_type.specs.declared.decimal.Decimal.{Decimal}
use Rattle.dg_model.specs.declared.kind.Kind.{Kind}
use Rattle.dg_model.specs.declared.kind.Kind.TheVariants.{Delay}
use Rattle.dg_model.specs.Library.{row_of}
use Rattle.dg_flat.specs.Flat.{resetting}
use Rattle.dg_flat.proofs.kinds.copy_kind.Goals as goal

-- only a Delay begins anew, and that has a list
unlisted : (resets : Bool) (kind : Kind) → (row_of kind).signal.lists ≡ [] → resetting resets kind ≡ kind
unlisted resets (Delay length initial own) none = let differs : initial ∷ [] ≡ [] = none in cc
unlisted resets other none = refl

pub with_list-requires : goal.with_list-requires
with_list-requires c =
    let has : (row_of c.args.kind.now).signal.lists ≡ c.in-Some.list.now ∷ [] = rw c.in-Some.is at c.list.ensures in
    has ∙ ap (λ (list : List Decimal). list ∷ []) (sym c.in_ok-copy_list-in-Some.ensures)

pub returns-in-None : goal.returns-in-None
returns-in-None c =
    let none : (row_of c.args.kind.now).signal.lists ≡ [] = rw c.in-None.is at c.list.ensures in
    IfOk-weaker c.copy_unlisted.result _ _ (λ copy same. sym same ∙ sym (unlisted c.args.resets c.args.kind.now none)) c.copy_unlisted.ensures
