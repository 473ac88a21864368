-- Elements that an operation of their block gives.
use Rattle.std.proofs.Common.{◌≡◌, ℕ, suc, ◌+◌, ◌-◌, ◌≤◌, ◌⊎◌, true, false, List, [], ◌∷◌, ◌++◌, length, Contains, Option, None, Some, ap, sym, ◌∙◌, subst, refl, arith}
use Rattle.std.specs.Prelude.{slice_get}
use Rattle.std.proofs.lemmas.Bool.{false≢true}
use Rattle.std.proofs.lemmas.Option.{none-some, same_Some, slice_get_within}
use Rattle.fx_type.specs.declared.kind.FxType.{FxType}
use Rattle.fx_type.specs.FxType.{is_signed, width_of}
use Rattle.dg_model.specs.declared.diagram.Diagram.{Diagram}
use Rattle.dg_model.specs.declared.diagram.Block.{Block}
use Rattle.dg_model.specs.declared.kind.Kind.{Kind}
use Rattle.dg_model.specs.declared.kind.Kind.TheVariants.{Inport, Outport, Constant, Ground, Sum, Gain, Product, Switch, Relational, Logic, Convert, Delay, Mux, Demux, RateTransition, Pass}
use Rattle.dg_model.specs.declared.kind.Kind.TheVariants.{EnableTest, EnOut, Terminator}
use Rattle.dg_model.specs.declared.op.Op.{Op}
use Rattle.dg_model.specs.Attributes.{attributes_of}
use Rattle.dg_model.specs.Equation.{IsOpOf}
use Rattle.dg_model.specs.Library.{row_of}
use Rattle.dg_model.specs.Operation.{Operation}
use Rattle.dg_model.specs.Wires.{period_into, type_into, types_into}
use Rattle.hw_net.specs.declared.netlist.Net.{Net}
use Rattle.hw_net.specs.declared.netlist.NetOp.{NetOp}
use Rattle.hw_net.specs.declared.netlist.NetOp.TheVariants.{Multiply}
use Rattle.hw_net.specs.Circuit.{Circuit}
use Rattle.hw_net.specs.Frames.{is_register, register_count}
use Rattle.hw_net.specs.Netlist.{HasWord}
use Rattle.hw_net.proofs.Growth.{count-append}
use Rattle.hw_lower.specs.Lowered.{AreArgs, IsComb, IsLowered, Lowers, multiply_of}
use Rattle.hw_shows.specs.Timing.{Timing}
use Rattle.hw_shows.specs.Waves.{IsCarriedOut}
use Rattle.hw_build.specs.Places.{Places, waves_of}
use Rattle.hw_build.specs.declared.entry.Entry.{Entry}
use Rattle.hw_build.specs.inner.Entries.{AreOffered, IsEntryPart, IsOwnMultiply, PutsEntry, keeps_entry, multiply_at, number_behind, operand_types}
use Rattle.hw_share.specs.inner.Parts.{Grows}
use Rattle.hw_build.specs.inner.Growth.{InLater}
use Rattle.hw_build.specs.inner.OperationNets.{IsLoweredIn, offered_args, operation_at}
use Rattle.hw_build.proofs.Elements.{carried_out, lowered_by_call}
use Rattle.hw_build.proofs.ElementKinds.{IsMadeLater, gain_alone, product_alone}
use Rattle.hw_build.proofs.StepsTogether.{no_registers}

-- ---- what `lower` puts in

pub behind : (xs ys : List Net) (k : ℕ) → slice_get (xs ++ ys) (length xs + k) ≡ slice_get ys k
behind [] ys k = ap (slice_get ys) e
  where
    e : 0 + k ≡ k
    e = omega arith
behind (x ∷ xs) ys k = ap (slice_get (x ∷ (xs ++ ys))) e ∙ behind xs ys k
  where
    e : suc (length xs) + k ≡ suc (length xs + k)
    e = omega arith

module _ (before after : Circuit) (operation : Operation) (operands : List ℕ) (lowers : Lowers before after operation operands) where
  comb_there : (k : ℕ) (net : Net) → length before.nets ≤ k → slice_get after.nets k ≡ Some net → (op : NetOp) × IsComb after k op
  comb_there k net past at = lowers.combs k past (slice_get_within after.nets k net at)

  pub lowered_grows : (diagram : Diagram) (timing : Timing) (block : ℕ) → Grows before after operands (IsEntryPart diagram timing block) 0
  lowered_grows diagram timing block = record {
    appends = lowers.appends;
    parts = λ k net past at.
        let comb = (comb_there k net past at).1 in
        let kind : comb.net.kind ≡ net.kind = ap (λ (n : Net). n.kind) (same_Some comb.net net (sym comb.is ∙ at)) in
        subst (IsEntryPart diagram timing block) (sym comb.kind ∙ kind) tt;
    registers =
        let extends = lowers.appends.extends in
        let none = no_registers extends.added (λ k net at.
        let there : slice_get after.nets (length before.nets + k) ≡ Some net =
        ap (λ (nets : List Net). slice_get nets (length before.nets + k)) extends.nets
        ∙ behind before.nets extends.added k ∙ at in
        let comb = (comb_there (length before.nets + k) net (omega arith) there).1 in
        let kind : comb.net.kind ≡ net.kind = ap (λ (n : Net). n.kind) (same_Some comb.net net (sym comb.is ∙ there)) in
        ap is_register (sym kind ∙ comb.kind)) in
        ap register_count extends.nets ∙ count-append before.nets extends.added ∙ ap (λ (n : ℕ). register_count before.nets + n) none;
  }

  pub lowered_multiply : (found : Option ℕ) → found ≡ number_behind (length before.nets) (multiply_of operation.op) → IsOwnMultiply before after found
  lowered_multiply found is = record {
    one = λ k e. by (multiply_of operation.op) refl k (sym is ∙ e);
    no_other = λ k past comb.
        let e : k ≡ length before.nets + (k - length before.nets) = omega (arith, past) in
        let place = lowers.no_other (k - length before.nets) (subst (λ (n : ℕ). IsComb after n Multiply) e comb) in
        is ∙ ap (number_behind (length before.nets)) place ∙ ap Some (sym e);
  }
    where
      by : (place : Option ℕ) → multiply_of operation.op ≡ place → (k : ℕ) → number_behind (length before.nets) (multiply_of operation.op) ≡ Some k → IsComb after k Multiply
      by None e k at = absurd (none-some k (sym (ap (number_behind (length before.nets)) e) ∙ at))
      by (Some place) e k at =
          let same : length before.nets + place ≡ k = same_Some (length before.nets + place) k (sym (ap (number_behind (length before.nets)) e) ∙ at) in
          subst (λ (n : ℕ). IsComb after n Multiply) same (lowers.multiplies place e)

-- ---- the kinds that carry out an operation

module _ (element : ℕ) (param control : FxType) (op : Op) where
  multiply_is : (first : ℕ) (kind : Kind) → IsOpOf kind element param control op → number_behind first (multiply_of op) ≡ multiply_at first kind
  multiply_is first (Outport number) is = ap (λ (o : Op). number_behind first (multiply_of o)) is
  multiply_is first (Sum negative accum) is = ap (λ (o : Op). number_behind first (multiply_of o)) is
  multiply_is first (Gain value spec) is = ap (λ (o : Op). number_behind first (multiply_of o)) is.2
  multiply_is first Product is = ap (λ (o : Op). number_behind first (multiply_of o)) is
  multiply_is first (Switch criterion threshold) is = ap (λ (o : Op). number_behind first (multiply_of o)) is.2
  multiply_is first (Relational operator) is = ap (λ (o : Op). number_behind first (multiply_of o)) is
  multiply_is first (Logic operator) is = ap (λ (o : Op). number_behind first (multiply_of o)) is
  multiply_is first (Convert stored) is = ap (λ (o : Op). number_behind first (multiply_of o)) is
  multiply_is first (Pass width) is = ap (λ (o : Op). number_behind first (multiply_of o)) is
  multiply_is first _ is = absurd is

  keeps_none : (enable driver : Option ℕ) (kind : Kind) → IsOpOf kind element param control op → keeps_entry enable driver kind ≡ false
  keeps_none enable driver (Delay delay initial reset) is = absurd is
  keeps_none enable driver _ is = refl

  pub types_carried : (diagram : Diagram) (block : ℕ) (b : Block) (port : ℕ) (kind : Kind)
      → IsOpOf kind element param control op
      → operand_types diagram (attributes_of diagram) block b port kind
      ≡ types_into diagram (attributes_of diagram) block b.inputs
  types_carried diagram block b port (Outport number) is = refl
  types_carried diagram block b port (Sum negative accum) is = refl
  types_carried diagram block b port (Gain value spec) is = refl
  types_carried diagram block b port Product is = refl
  types_carried diagram block b port (Switch criterion threshold) is = refl
  types_carried diagram block b port (Relational operator) is = refl
  types_carried diagram block b port (Logic operator) is = refl
  types_carried diagram block b port (Convert stored) is = refl
  types_carried diagram block b port (Pass width) is = refl
  types_carried diagram block b port _ is = absurd is

  module _ (diagram : Diagram) (places : Places) (block : ℕ) (b : Block) (port : ℕ) (operands : List ℕ) where
    offered_is : (kind : Kind) → IsOpOf kind element param control op → AreOffered diagram places block b port element kind operands → operands ≡ offered_args places block b element
    offered_is (Inport number width) is offered = absurd is
    offered_is (Outport number) is offered = offered
    offered_is (Constant value) is offered = absurd is
    offered_is Ground is offered = absurd is
    offered_is (Sum negative accum) is offered = offered
    offered_is (Gain value spec) is offered = offered
    offered_is Product is offered = offered
    offered_is (Switch criterion threshold) is offered = offered
    offered_is (Relational operator) is offered = offered
    offered_is (Logic operator) is offered = offered
    offered_is (Convert stored) is offered = offered
    offered_is (Delay delay initial reset) is offered = absurd is
    offered_is (Mux sizes) is offered = absurd is
    offered_is (Demux sizes) is offered = absurd is
    offered_is (RateTransition period initial) is offered = absurd is
    offered_is (Pass width) is offered = offered
    offered_is EnableTest is offered = absurd is
    offered_is (EnOut reset initial) is offered = absurd is
    offered_is Terminator is offered = absurd is

  module _ (diagram : Diagram) (timing : Timing) (places : Places) (closed hubs : ℕ) (now : Circuit) (block : ℕ) (b : Block) (port : ℕ) where
    made_carried : (kind : Kind) → IsOpOf kind element param control op → ((row_of kind).hardware.multiplies ≡ true → timing.slot block element ≡ None)
        → InLater closed hubs now (λ n rows. IsCarriedOut diagram (attributes_of diagram) timing n
        (waves_of places rows) block b port element)
        → IsMadeLater diagram timing places closed hubs now block b port element kind
    made_carried (Inport number width) is slot made = absurd is
    made_carried (Outport number) is slot made = made
    made_carried (Constant value) is slot made = absurd is
    made_carried Ground is slot made = absurd is
    made_carried (Sum negative accum) is slot made = made
    made_carried (Gain value spec) is slot made = gain_alone diagram timing places closed hubs now block b port element value spec (slot refl) made
    made_carried Product is slot made = product_alone diagram timing places closed hubs now block b port element (slot refl) made
    made_carried (Switch criterion threshold) is slot made = made
    made_carried (Relational operator) is slot made = made
    made_carried (Logic operator) is slot made = made
    made_carried (Convert stored) is slot made = made
    made_carried (Delay delay initial reset) is slot made = absurd is
    made_carried (Mux sizes) is slot made = absurd is
    made_carried (Demux sizes) is slot made = absurd is
    made_carried (RateTransition period initial) is slot made = absurd is
    made_carried (Pass width) is slot made = made
    made_carried EnableTest is slot made = absurd is
    made_carried (EnOut reset initial) is slot made = absurd is
    made_carried Terminator is slot made = absurd is

-- an element that the operation of its block gives
pub carried_entry : (diagram : Diagram) (timing : Timing) (before after : Circuit) (block : ℕ) (b : Block)
    (port element : ℕ) (operands : List ℕ) (entry : Entry) (op : Op) (number : ℕ) (type : FxType)
    → IsOpOf b.kind element ((attributes_of diagram).param_at block)
    (type_into diagram (attributes_of diagram) block 2) op
    → Lowers before after (operation_at diagram (attributes_of diagram) block b op) operands → IsLowered before after (operation_at diagram (attributes_of diagram) block b op) operands number
    → AreArgs before (types_into diagram (attributes_of diagram) block b.inputs) operands
    → ((port : ℕ) → type ≡ (attributes_of diagram).type_at block port) → entry.net ≡ number
    → entry.multiply ≡ number_behind (length before.nets) (multiply_of op)
    → PutsEntry diagram timing before after block b port element operands entry
carried_entry diagram timing before after block b port element operands entry op number type is_op lowers lowered args types net multiply = record {
  count = 0;
  grows = lowered_grows before after operation operands lowers diagram timing block;
  few = omega arith;
  multiply = multiply ∙ multiply_is element param control op (length before.nets) b.kind is_op;
  multiplies = lowered_multiply before after operation operands lowers entry.multiply multiply;
  word =
      subst (λ (n : ℕ). HasWord after.nets n (width_of ((attributes_of diagram).type_at block port)) (is_signed ((attributes_of diagram).type_at block port))) (sym net)
      (subst (λ (t : FxType). HasWord after.nets number (width_of t) (is_signed t)) (sym (types 1) ∙ types port) lowered.word);
  stands = subst (λ (n : ℕ). Contains operands n ⊎ (length before.nets ≤ n)) (sym net) lowered.stands;
  held = λ keeps. absurd (false≢true (sym (keeps_none element param control op b.enable (period_into diagram (attributes_of diagram) block 1) b.kind is_op) ∙ keeps));
  made = λ closed hubs places small cycles offered at first slot.
      let given : IsLoweredIn closed hubs after operation operands number = lowered_by_call closed hubs before after operation operands number small args lowers lowered in
      let same : operands ≡ offered_args places block b element = offered_is element param control op diagram places block b port operands b.kind is_op offered in
      let named : IsLoweredIn closed hubs after operation (offered_args places block b element) (places.entry block port element) =
      subst (λ (list : List ℕ). IsLoweredIn closed hubs after operation list (places.entry block port element)) same
      (subst (λ (n : ℕ). IsLoweredIn closed hubs after operation operands n) (sym (at.net ∙ net)) given) in
      made_carried element param control op diagram timing places closed hubs after block b port b.kind is_op slot
      (carried_out diagram
      (attributes_of diagram) timing places closed hubs after block b port element op is_op named);
}
  where
    operation : Operation
    operation = operation_at diagram (attributes_of diagram) block b op

    param : FxType
    param = (attributes_of diagram).param_at block

    control : FxType
    control = type_into diagram (attributes_of diagram) block 2
