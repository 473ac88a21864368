use Rattle.std.proofs.Common.{◌≡◌, List, [], ◌∷◌, get_or, sym, ap, ◌∙◌}
use Rattle.fx_type.specs.declared.decimal.Decimal.{Decimal}
use Rattle.dg_model.specs.declared.kind.Kind.{Kind}
use Rattle.dg_model.specs.declared.kind.Kind.TheVariants.{Constant, Gain, Switch, Delay, RateTransition, EnOut}
use Rattle.dg_model.specs.Library.{row_of}
use Rattle.dg_flat.specs.Flat.{resetting}
use Rattle.dg_flat.proofs.kinds.with_list.Goals as goal

-- the list is the kind's own
own : (kind shown : Kind) (list : List Decimal) → (row_of kind).signal.lists ≡ list ∷ [] → kind ≡ shown → list ≡ get_or (row_of shown).signal.lists 0 []
own kind shown list has is = ap (λ (lists : List (List Decimal)). get_or lists 0 []) (sym has ∙ ap (λ (kind : Kind). (row_of kind).signal.lists) is)

pub returns-in-Constant : goal.returns-in-Constant
returns-in-Constant c = ap Constant (own c.args.kind.now _ c.args.list c.requires c.in-Constant.is) ∙ sym (ap (resetting c.args.resets) c.in-Constant.is)

pub returns-in-Gain : goal.returns-in-Gain
returns-in-Gain c = ap (λ list. Gain list c.in-Gain.param) (own c.args.kind.now _ c.args.list c.requires c.in-Gain.is) ∙ sym (ap (resetting c.args.resets) c.in-Gain.is)

pub returns-in-Switch : goal.returns-in-Switch
returns-in-Switch c = ap (λ list. Switch c.in-Switch.criterion list) (own c.args.kind.now _ c.args.list c.requires c.in-Switch.is) ∙ sym (ap (resetting c.args.resets) c.in-Switch.is)

pub returns-in-Delay : goal.returns-in-Delay
returns-in-Delay c = ap (λ list. Delay c.in-Delay.length list c.args.resets) (own c.args.kind.now _ c.args.list c.requires c.in-Delay.is) ∙ sym (ap (resetting c.args.resets) c.in-Delay.is)

pub returns-in-RateTransition : goal.returns-in-RateTransition
returns-in-RateTransition c = ap (λ list. RateTransition c.in-RateTransition.period list)
    (own c.args.kind.now _ c.args.list c.requires c.in-RateTransition.is)
    ∙ sym (ap (resetting c.args.resets) c.in-RateTransition.is)

pub returns-in-EnOut : goal.returns-in-EnOut
returns-in-EnOut c = ap (λ list. EnOut c.in-EnOut.reset list) (own c.args.kind.now _ c.args.list c.requires c.in-EnOut.is) ∙ sym (ap (resetting c.args.resets) c.in-EnOut.is)
