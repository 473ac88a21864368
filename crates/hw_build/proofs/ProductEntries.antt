-- Elements that convert the product of a shared multiplier.
use Rattle.std.proofs.Common.{◌≡◌, ℕ, zero, suc, [], ◌∷◌, None, Some, ap, sym, ◌∙◌, subst, refl, arith}
use Rattle.std.specs.Prelude.{slice_get}
use Rattle.std.proofs.lemmas.Option.{none-some, same_Some}
use Rattle.fx_type.specs.declared.kind.FxType.{FxType}
use Rattle.fx_type.specs.FullType.{IsFullProduct}
use Rattle.fx_type.specs.FxType.{is_signed, width_of}
use Rattle.dg_model.specs.declared.diagram.Diagram.{Diagram}
use Rattle.dg_model.specs.declared.diagram.Block.{Block}
use Rattle.dg_model.specs.declared.kind.Kind.{Kind}
use Rattle.dg_model.specs.declared.kind.Kind.TheVariants.{Inport, Outport, Constant, Ground, Sum, Gain, Product, Switch, Relational, Logic, Convert, Delay, Mux, Demux, RateTransition, Pass}
use Rattle.dg_model.specs.declared.kind.Kind.TheVariants.{EnableTest, EnOut, Terminator}
use Rattle.dg_model.specs.Attributes.{attributes_of}
use Rattle.dg_model.specs.Checked.{IsChecked}
use Rattle.dg_model.specs.Library.{row_of}
use Rattle.dg_model.specs.Readable.{HasPorts}
use Rattle.dg_model.specs.Operation.{type_of}
use Rattle.dg_model.specs.Wires.{type_into, types_into}
use Rattle.hw_net.specs.Circuit.{Circuit}
use Rattle.hw_net.specs.Netlist.{HasWord}
use Rattle.hw_lower.specs.Lowered.{AreArgs, IsLowered, Lowers}
use Rattle.hw_sched.specs.Slots.{right_of, right_type}
use Rattle.hw_shows.specs.Timing.{Timing}
use Rattle.hw_shows.specs.Series.{steady, span_at, IsProductAt}
use Rattle.hw_build.specs.Places.{Places}
use Rattle.hw_build.specs.declared.entry.Entry.{Entry}
use Rattle.hw_build.specs.inner.Entries.{HasProductAs, PutsShared}
use Rattle.hw_build.specs.inner.Growth.{GoesOn}
use Rattle.hw_build.specs.inner.OperationNets.{IsLoweredIn, conversion_of}
use Rattle.hw_build.proofs.Elements.{lowered_by_call, served}
use Rattle.hw_build.proofs.OperationEntries.{lowered_grows, lowered_multiply}
use Rattle.hw_build.proofs.Growth.{goes_appended, later_on}
use Rattle.hw_build.proofs.ElementKinds.{IsMadeLater, gain_shared, made_kind, product_shared}
use Rattle.hw_build.proofs.Parameters.{readable}

pub one_arg : (net : Circuit) (type : FxType) (product : ℕ) → HasWord net.nets product (width_of type) (is_signed type) → AreArgs net (type ∷ []) (product ∷ [])
one_arg net type product has = record { count = refl; words = words }
  where
    words : (input number : ℕ) (own : FxType) → slice_get (product ∷ []) input ≡ Some number → slice_get (type ∷ []) input ≡ Some own → HasWord net.nets number (width_of own) (is_signed own)
    words zero number own at is =
        subst (λ (n : ℕ). HasWord net.nets n (width_of own) (is_signed own)) (same_Some product number at)
        (subst (λ (t : FxType). HasWord net.nets product (width_of t) (is_signed t))
        (same_Some type own is) has)
    words (suc input) number own at is = absurd (none-some number at)

module _ (diagram : Diagram) (timing : Timing) (places : Places) (closed hubs : ℕ) (before after : Circuit)
    (block : ℕ) (b : Block) (port element slot : ℕ) (full : FxType) (told : timing.slot block element ≡ Some slot)
    (ports : HasPorts b.kind b.inputs b.outputs)
    (is_full : IsFullProduct (type_into diagram (attributes_of diagram) block 1) (right_of diagram (attributes_of diagram) block (Some b)) full) (goes : GoesOn closed hubs before after)
    (lowered : IsLoweredIn closed hubs after (conversion_of (attributes_of diagram) block b full) (places.product block element ∷ []) (places.entry block port element))
  where
    made_shared : (kind : Kind) → b.kind ≡ kind
        → HasProductAs diagram timing places closed hubs before block element slot kind
        → IsMadeLater diagram timing places closed hubs after block b port element kind
    made_shared (Inport number width) is has = absurd has
    made_shared (Outport number) is has = absurd has
    made_shared (Constant value) is has = absurd has
    made_shared Ground is has = absurd has
    made_shared (Sum negative accum) is has = absurd has
    made_shared (Gain value param) is has =
        let one : b.inputs ≡ 1 = (subst (λ (k : Kind). HasPorts k b.inputs b.outputs) is ports).0 in
        let left : type_into diagram (attributes_of diagram) block 1
        ≡ type_of (types_into diagram (attributes_of diagram) block b.inputs) 0 =
        sym (ap (λ (n : ℕ). type_of (types_into diagram (attributes_of diagram) block n) 0) one) in
        let right : right_of diagram (attributes_of diagram) block (Some b)
        ≡ (attributes_of diagram).param_at block =
        ap (λ (k : Kind). right_type diagram (attributes_of diagram) block (row_of k).types.full) is in
        gain_shared diagram timing places closed hubs after block b port element value param slot has.0 told has.1
        (served diagram (attributes_of diagram) timing places closed hubs after block b port element slot
        (λ rows. rows (places.offered block 1 element)) (λ rows. steady has.0)
        (type_of (types_into diagram (attributes_of diagram) block b.inputs) 0)
        ((attributes_of diagram).param_at block) full
        (subst (λ (t : FxType). IsFullProduct t ((attributes_of diagram).param_at block) full) left
        (subst (λ (t : FxType). IsFullProduct (type_into diagram (attributes_of diagram) block 1) t full) right
        is_full))
        (λ period is_period. later_on closed closed hubs before after
        (λ n rows. IsProductAt n (span_at timing period block) slot (rows (places.offered block 1 element))
        (steady has.0) (rows (places.product block element))) (omega arith) goes (has.2 period is_period))
        lowered)
    made_shared Product is has =
        let two : b.inputs ≡ 2 = (subst (λ (k : Kind). HasPorts k b.inputs b.outputs) is ports).0 in
        let left : type_into diagram (attributes_of diagram) block 1
        ≡ type_of (types_into diagram (attributes_of diagram) block b.inputs) 0 =
        sym (ap (λ (n : ℕ). type_of (types_into diagram (attributes_of diagram) block n) 0) two) in
        let other : type_into diagram (attributes_of diagram) block 2
        ≡ type_of (types_into diagram (attributes_of diagram) block b.inputs) 1 =
        sym (ap (λ (n : ℕ). type_of (types_into diagram (attributes_of diagram) block n) 1) two) in
        let right : right_of diagram (attributes_of diagram) block (Some b)
        ≡ type_of (types_into diagram (attributes_of diagram) block b.inputs) 1 =
        ap (λ (k : Kind). right_type diagram (attributes_of diagram) block (row_of k).types.full) is
        ∙ other in
        product_shared diagram timing places closed hubs after block b port element slot told
        (served diagram (attributes_of diagram) timing places closed hubs after block b port element slot
        (λ rows. rows (places.offered block 1 element)) (λ rows. rows (places.offered block 2 element))
        (type_of (types_into diagram (attributes_of diagram) block b.inputs) 0)
        (type_of (types_into diagram (attributes_of diagram) block b.inputs) 1) full
        (subst (λ (t : FxType). IsFullProduct t
        (type_of (types_into diagram (attributes_of diagram) block b.inputs) 1) full) left
        (subst (λ (t : FxType). IsFullProduct (type_into diagram (attributes_of diagram) block 1) t full)
        right is_full))
        (λ period is_period. later_on closed closed hubs before after
        (λ n rows. IsProductAt n (span_at timing period block) slot (rows (places.offered block 1 element))
        (rows (places.offered block 2 element)) (rows (places.product block element))) (omega arith) goes
        (has period is_period)) lowered)
    made_shared (Switch criterion threshold) is has = absurd has
    made_shared (Relational operator) is has = absurd has
    made_shared (Logic operator) is has = absurd has
    made_shared (Convert stored) is has = absurd has
    made_shared (Delay delay initial reset) is has = absurd has
    made_shared (Mux sizes) is has = absurd has
    made_shared (Demux sizes) is has = absurd has
    made_shared (RateTransition period initial) is has = absurd has
    made_shared (Pass width) is has = absurd has
    made_shared EnableTest is has = absurd has
    made_shared (EnOut reset initial) is has = absurd has
    made_shared Terminator is has = absurd has

pub shared_entry : (diagram : Diagram) (timing : Timing) (before after : Circuit) (block : ℕ) (b : Block)
    (port element product : ℕ) (entry : Entry) (full type : FxType) → IsChecked diagram
    → slice_get diagram.blocks block ≡ Some b
    → IsFullProduct (type_into diagram (attributes_of diagram) block 1)
    (right_of diagram (attributes_of diagram) block (Some b)) full
    → HasWord before.nets product (width_of full) (is_signed full)
    → ((port : ℕ) → type ≡ (attributes_of diagram).type_at block port)
    → Lowers before after (conversion_of (attributes_of diagram) block b full) (product ∷ [])
    → IsLowered before after (conversion_of (attributes_of diagram) block b full) (product ∷ []) entry.net
    → entry.multiply ≡ None → PutsShared diagram timing before after block b port element product entry
shared_entry diagram timing before after block b port element product entry full type checked at is_full has types lowers lowered none = record {
  grows = lowered_grows before after (conversion_of (attributes_of diagram) block b full) (product ∷ []) lowers diagram timing block;
  multiply = none;
  multiplies = lowered_multiply before after (conversion_of (attributes_of diagram) block b full) (product ∷ []) lowers None refl;
  word = subst (λ (t : FxType). HasWord after.nets entry.net (width_of t) (is_signed t)) (sym (types 1) ∙ types port) lowered.word;
  stands = lowered.stands;
  made = λ closed hubs places slot small told net same product_is.
      let given = lowered_by_call closed hubs before after (conversion_of (attributes_of diagram) block b full) (product ∷ []) entry.net small (one_arg before full product has) lowers lowered in
      let named : IsLoweredIn closed hubs after (conversion_of (attributes_of diagram) block b full) (places.product block element ∷ []) (places.entry block port element) =
      subst (λ (p : ℕ). IsLoweredIn closed hubs after (conversion_of (attributes_of diagram) block b full) (p ∷ []) (places.entry block port element)) (sym same)
      (subst (λ (n : ℕ). IsLoweredIn closed hubs after (conversion_of (attributes_of diagram) block b full) (product ∷ []) n) (sym net) given) in
      made_kind diagram timing places closed hubs after block b port element b.kind refl
      (made_shared diagram timing places closed hubs before after block b port element slot full told
      (readable diagram block b checked at).ports is_full
      (goes_appended closed hubs before after lowers.appends.extends) named b.kind refl product_is);
}
