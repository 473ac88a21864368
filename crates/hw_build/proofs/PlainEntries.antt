-- Elements of blocks of each kind that has neither operation nor state.
use Rattle.std.proofs.Common.{◌≡◌, ℕ, inr, ℤ, pos, List, [], length, None, ◌∙◌, subst, refl, arith}
use Rattle.std.proofs.lemmas.Bool.{false≢true}
use Rattle.fx_type.specs.declared.kind.FxType.{FxType}
use Rattle.fx_type.specs.declared.decimal.Decimal.{Decimal}
use Rattle.fx_type.specs.FxType.{IsType, InRange, is_signed, width_of}
use Rattle.dg_model.specs.declared.diagram.Diagram.{Diagram}
use Rattle.dg_model.specs.declared.diagram.Block.{Block}
use Rattle.dg_model.specs.declared.kind.Kind.TheVariants.{Constant, Ground}
use Rattle.dg_model.specs.Attributes.{attributes_of}
use Rattle.dg_model.specs.Equation.{StoresEntry}
use Rattle.hw_net.specs.declared.netlist.NetKind.TheVariants.{Comb}
use Rattle.hw_net.specs.declared.netlist.NetOp.TheVariants.{Const}
use Rattle.hw_net.specs.Circuit.{Circuit}
use Rattle.hw_net.specs.Growing.{with_net}
use Rattle.hw_net.specs.Netlist.{HasWord}
use Rattle.hw_shows.specs.Timing.{Timing}
use Rattle.hw_build.specs.declared.entry.Entry.{Entry}
use Rattle.hw_build.specs.inner.Entries.{PutsEntry}
use Rattle.hw_build.proofs.ElementEntries.{quiet_entry, const_grows, const_word, const_shows}
use Rattle.hw_build.proofs.ElementKinds.{made_kind}

module _ (diagram : Diagram) (timing : Timing) (before after : Circuit) (block : ℕ) (b : Block) (port element : ℕ) (operands : List ℕ) (entry : Entry) where
  -- a Constant
  pub constant_entry : (list : List Decimal) (value : ℤ) (type : FxType) → b.kind ≡ Constant list
      → ((port : ℕ) → type ≡ (attributes_of diagram).type_at block port) → IsType type → InRange type value
      → StoresEntry list element type value
      → after ≡ with_net before (record {
        signed = is_signed type;
        width = width_of type;
        kind =
            Comb (Const value) [];
      }) → entry.net ≡ length before.nets → entry.multiply ≡ None
      → PutsEntry diagram timing before after block b port element operands entry
  constant_entry list value type is types is_type range stored grown at none =
      quiet_entry diagram timing before after block b port element operands entry (Constant list) 0 is
      (const_grows before after type value is_type range grown diagram timing block operands)
      (omega arith) none refl
      (subst (λ (t : FxType). HasWord after.nets entry.net (width_of t) (is_signed t)) (types port)
      (const_word before after type value is_type range grown entry.net at)) (inr (omega (arith, at)))
      (λ e. absurd (false≢true e))
      (λ closed hubs places small cycles offered names first slot.
      let shows = const_shows before after type value is_type range grown closed hubs (places.entry block port element) (names.net ∙ at) small in
      made_kind diagram timing places closed hubs after block b port element (Constant list) is (record {
        holds = λ later goes n inputs rows are. record {
          value = value;
          stored = subst (λ (t : FxType). StoresEntry list element t value) (types 1) stored;
          steady_at = shows.holds later goes n inputs rows are;
        };
      }))

  -- a Ground
  pub ground_entry : (type : FxType) → b.kind ≡ Ground → ((port : ℕ) → type ≡ (attributes_of diagram).type_at block port) → IsType type → InRange type (pos 0)
      → after ≡ with_net before (record {
        signed = is_signed type;
        width = width_of type;
        kind =
            Comb (Const (pos 0)) [];
      }) → entry.net ≡ length before.nets → entry.multiply ≡ None
      → PutsEntry diagram timing before after block b port element operands entry
  ground_entry type is types is_type range grown at none =
      quiet_entry diagram timing before after block b port element operands entry Ground 0 is
      (const_grows before after type (pos 0) is_type range grown diagram timing block operands)
      (omega arith) none refl
      (subst (λ (t : FxType). HasWord after.nets entry.net (width_of t) (is_signed t)) (types port)
      (const_word before after type (pos 0) is_type range grown entry.net at)) (inr (omega (arith, at)))
      (λ e. absurd (false≢true e))
      (λ closed hubs places small cycles offered names first slot.
      made_kind diagram timing places closed hubs after block b port element Ground is
      (const_shows before after type (pos 0) is_type range grown closed hubs (places.entry block port element)
      (names.net ∙ at) small))
