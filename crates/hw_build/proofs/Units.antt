-- What a multiplier has in the slots of an operation are the operation's operands.
use Rattle.std.proofs.Common.{◌≡◌, ℕ, ◌+◌, ◌<◌, ℤ, sym, ◌∙◌, subst}
use Rattle.dg_model.specs.declared.diagram.Diagram.{Diagram}
use Rattle.dg_model.specs.declared.diagram.Block.{Block}
use Rattle.dg_model.specs.Attributes.{attributes_of}
use Rattle.dg_model.specs.Equation.{StoresEntry}
use Rattle.dg_model.specs.KindRow.{FullRule}
use Rattle.dg_model.specs.Library.{row_of}
use Rattle.fx_type.specs.declared.decimal.Decimal.{Decimal}
use Rattle.fx_type.specs.declared.spec.TypeSpec.{TypeSpec}
use Rattle.std.specs.Prelude.{List}
use Rattle.hw_net.specs.Circuit.{Circuit}
use Rattle.hw_net.specs.Closed.{frame_start}
use Rattle.hw_net.specs.NetRows.{Rows}
use Rattle.hw_net.specs.Registers.{Span, Wave}
use Rattle.hw_sched.specs.Slots.{Operation}
use Rattle.hw_shows.specs.Series.{AreSame, steady}
use Rattle.hw_build.specs.Places.{Places}
use Rattle.hw_build.specs.inner.Growth.{InLater}
use Rattle.hw_build.specs.inner.Units.{IsSecondOf, HasFactors}

-- in its slot of each frame an input of a multiplier has what the operand has
pub record HasInSlots (n : ℕ) (span : Span) (slot : ℕ) (operand input : Wave) : Type 0 where
  pub at : (k : ℕ) → frame_start span k + slot < n → input (frame_start span k + slot) ≡ operand (frame_start span k + slot)

module _ (diagram : Diagram) (places : Places) (closed hubs : ℕ) (now : Circuit) (o : Operation) (b : Block) (span : Span) (slot left right : ℕ)
    (has_left : InLater closed hubs now (λ n rows. HasInSlots n span slot (rows (places.offered o.block 1 o.element)) (rows left)))
  where
    abbrev pub HasAll : ℕ → Rows → Type 0
    HasAll n rows = (k : ℕ) → frame_start span k + slot < n → HasFactors diagram places rows o b (frame_start span k + slot) left right

    -- of a Product
    pub product_has : (row_of b.kind).types.full ≡ FullRule.FullProduct
        → InLater closed hubs now (λ n rows. HasInSlots n span slot (rows (places.offered o.block 2 o.element))
        (rows right)) → InLater closed hubs now HasAll
    product_has rule has_right = record {
      holds = λ later goes n inputs rows is k early. record {
        first = (has_left.holds later goes n inputs rows is).at k early;
        second = subst (λ (r : FullRule). IsSecondOf diagram places rows o.block o.element
            (frame_start span k + slot) r (rows right (frame_start span k + slot))) (sym rule)
            ((has_right.holds later goes n inputs rows is).at k early);
      };
    }

    -- of a Gain
    pub gain_has : (value : List Decimal) (spec : TypeSpec) (coefficient : ℤ) (constant : ℕ)
        → (row_of b.kind).types.full ≡ FullRule.FullScaled value spec
        → StoresEntry value o.element ((attributes_of diagram).param_at o.block) coefficient
        → InLater closed hubs now (λ n rows. AreSame n (rows constant) (steady coefficient))
        → InLater closed hubs now (λ n rows. HasInSlots n span slot (rows constant) (rows right))
        → InLater closed hubs now HasAll
    gain_has value spec coefficient constant rule stored same has_right = record {
      holds = λ later goes n inputs rows is k early. record {
        first = (has_left.holds later goes n inputs rows is).at k early;
        second =
            let e : rows right (frame_start span k + slot) ≡ coefficient =
            (has_right.holds later goes n inputs rows is).at k early
            ∙ (same.holds later goes n inputs rows is).at (frame_start span k + slot) early in
            subst (λ (r : FullRule). IsSecondOf diagram places rows o.block o.element (frame_start span k + slot) r (rows right (frame_start span k + slot))) (sym rule)
            (subst (λ (v : ℤ). StoresEntry value o.element ((attributes_of diagram).param_at o.block) v) (sym e) stored);
      };
    }
