-- The products of shared operations as elements are made of them, and what is kept of them and of multipliers as a netlist goes on.
use Rattle.std.proofs.Common.{◌≡◌, ℕ, ◌≤◌, false, ◌+◌, ℤ, ◌*ℤ◌, List, Option, Some, None, ap, sym, ◌∙◌, subst, refl, arith}
use Rattle.std.proofs.lemmas.Bool.{false≢true}
use Rattle.fx_type.specs.declared.decimal.Decimal.{Decimal}
use Rattle.fx_type.specs.declared.kind.FxType.{FxType}
use Rattle.fx_type.specs.declared.spec.TypeSpec.{TypeSpec}
use Rattle.fx_type.specs.FxType.{is_signed, width_of}
use Rattle.dg_model.specs.declared.diagram.Diagram.{Diagram}
use Rattle.dg_model.specs.declared.diagram.Block.{Block}
use Rattle.dg_model.specs.declared.resolved.Resolved.{Resolved}
use Rattle.dg_model.specs.Attributes.{attributes_of}
use Rattle.dg_model.specs.Equation.{StoresEntry}
use Rattle.dg_model.specs.KindRow.{FullRule}
use Rattle.dg_model.specs.Library.{row_of}
use Rattle.hw_latency.specs.Shared.{is_shared}
use Rattle.hw_net.specs.Circuit.{Circuit}
use Rattle.hw_net.specs.Closed.{frame_start}
use Rattle.hw_sched.specs.Slots.{Timing as Times, operation, slot_of}
use Rattle.hw_shows.specs.Series.{AreSame, steady, span_at, IsProductAt}
use Rattle.hw_build.specs.Places.{Places}
use Rattle.hw_build.specs.Times.{number_at, slot_by, timing_by}
use Rattle.hw_build.specs.inner.Growth.{GoesOn, InLater}
use Rattle.hw_build.specs.inner.ResultNets.{IsStored, IsSecondNet, HasProduct, HaveProducts}
use Rattle.hw_build.proofs.Growth.{later_on, word_later}
use Rattle.hw_build.proofs.Operations.{of_shared}
use Rattle.hw_build.proofs.ScheduleTimes.{slot_found}

-- ---- products go on

stored_later : (closed more hubs : ℕ) (now later : Circuit) (list : List Decimal) (element : ℕ) (type : FxType)
    (number : ℕ) → closed ≤ more → GoesOn closed hubs now later → IsStored closed hubs now list element type number
    → IsStored more hubs later list element type number
stored_later closed more hubs now later list element type number less goes is = record {
  value = is.value;
  stored = is.stored;
  same = later_on closed more hubs now later (λ n rows. AreSame n (rows number) (steady is.value)) less goes is.same;
}

module _ (diagram : Diagram) (plan : Resolved) (times : Times) (places : Places) where
  second_later : (closed more hubs : ℕ) (now later : Circuit) (block element number : ℕ) (rule : FullRule)
      → closed ≤ more → GoesOn closed hubs now later
      → IsSecondNet diagram plan times places closed hubs now block element rule number
      → IsSecondNet diagram plan times places more hubs later block element rule number
  second_later closed more hubs now later block element number FullRule.NoFull less goes is = is
  second_later closed more hubs now later block element number (FullRule.FullSum negative accum) less goes is = is
  second_later closed more hubs now later block element number (FullRule.FullScaled value spec) less goes is =
      stored_later closed more hubs now later value element
      ((attributes_of diagram).param_at block) number less goes is
  second_later closed more hubs now later block element number FullRule.FullProduct less goes is = is
  second_later closed more hubs now later block element number FullRule.UnionOfTwo less goes is = is
  second_later closed more hubs now later block element number FullRule.UnionOfEnds less goes is = is

  pub product_later : (closed more hubs : ℕ) (now later : Circuit) (block : ℕ) (b : Block) (element : ℕ)
      → closed ≤ more → GoesOn closed hubs now later
      → HasProduct diagram plan times places closed hubs now block b element
      → HasProduct diagram plan times places more hubs later block b element
  product_later closed more hubs now later block b element less goes has = record {
    slot = has.slot;
    told = has.told;
    right = has.right;
    second = second_later closed more hubs now later block element has.right (row_of b.kind).types.full less goes has.second;
    product = λ period moves.
        later_on closed more hubs now later (λ n rows. IsProductAt n
        (span_at (timing_by diagram plan times) period block) has.slot (rows (places.offered block 1 element))
        (rows has.right) (rows (places.product block element))) less goes (has.product period moves);
    full = has.full;
    is_full = has.is_full;
    word = word_later closed hubs now later (places.product block element) (width_of has.full) (is_signed has.full) goes has.word;
  }

  pub products_later : (closed more hubs : ℕ) (now later : Circuit) → closed ≤ more → GoesOn closed hubs now later
      → HaveProducts diagram plan times places closed hubs now
      → HaveProducts diagram plan times places more hubs later
  products_later closed more hubs now later less goes have =
      record {
        each = λ block b element at shared below. product_later closed more hubs now later block b element
            less goes (have.each block b element at shared below);
      }

  -- ---- what a block is made of

  module _ (closed hubs : ℕ) (now : Circuit) (block : ℕ) (b : Block) (element : ℕ) (has : HasProduct diagram plan times places closed hubs now block b element) where
    -- of a Gain
    abbrev pub ScalesBy : ℤ → Type 0
    ScalesBy coefficient = (period : ℕ) → (attributes_of diagram).period_at block ≡ Some period
        → InLater closed hubs now (λ n rows. IsProductAt n
        (span_at (timing_by diagram plan times) period block) has.slot (rows (places.offered block 1 element))
        (steady coefficient) (rows (places.product block element)))

    scaled_by : (period : ℕ) (coefficient : ℤ) → InLater closed hubs now (λ n rows. AreSame n (rows has.right) (steady coefficient))
        → InLater closed hubs now (λ n rows. IsProductAt n
        (span_at (timing_by diagram plan times) period block) has.slot (rows (places.offered block 1 element))
        (rows has.right) (rows (places.product block element)))
        → InLater closed hubs now (λ n rows. IsProductAt n
        (span_at (timing_by diagram plan times) period block) has.slot (rows (places.offered block 1 element))
        (steady coefficient) (rows (places.product block element)))
    scaled_by period coefficient same product = record {
      holds = λ later goes n inputs rows are. record {
        holds = λ k c early past until.
            let at : ℕ = frame_start (span_at (timing_by diagram plan times) period block) k + has.slot in
            (product.holds later goes n inputs rows are).holds k c early past until
            ∙ ap (λ (v : ℤ). rows (places.offered block 1 element) at *ℤ v) ((same.holds later goes n inputs rows are).at at (omega (arith, early, past)));
      };
    }

    pub gain_product : (value : List Decimal) (spec : TypeSpec)
        → (row_of b.kind).types.full ≡ FullRule.FullScaled value spec
        → (coefficient : ℤ) × StoresEntry value element ((attributes_of diagram).param_at block) coefficient
        × ScalesBy coefficient
    gain_product value spec rule =
        let second : IsStored closed hubs now value element ((attributes_of diagram).param_at block) has.right =
        subst (λ (r : FullRule). IsSecondNet diagram plan times places closed hubs now block element r
        has.right) rule has.second in
        (second.value, second.stored, λ period moves. scaled_by period second.value second.same (has.product period moves))

    -- of a Product
    pub times_product : (row_of b.kind).types.full ≡ FullRule.FullProduct → (period : ℕ) → (attributes_of diagram).period_at block ≡ Some period
        → InLater closed hubs now (λ n rows. IsProductAt n
        (span_at (timing_by diagram plan times) period block) has.slot (rows (places.offered block 1 element))
        (rows (places.offered block 2 element)) (rows (places.product block element)))
    times_product rule period moves =
        let second : has.right ≡ places.offered block 2 element = subst (λ (r : FullRule). IsSecondNet diagram plan times places closed hubs now block element r has.right) rule has.second in
        subst (λ (right : ℕ). InLater closed hubs now
        (λ n rows. IsProductAt n (span_at (timing_by diagram plan times) period block) has.slot
        (rows (places.offered block 1 element)) (rows right) (rows (places.product block element)))) second
        (has.product period moves)

-- an element of a block that isn't shared has no slot
pub untold : (diagram : Diagram) (plan : Resolved) (times : Times) (block element : ℕ)
    → is_shared diagram (attributes_of diagram) plan block ≡ false
    → (timing_by diagram plan times).slot block element ≡ None
untold diagram plan times block element other = go (number_at diagram plan block element) refl
  where
    go : (found : Option ℕ) → number_at diagram plan block element ≡ found → slot_by diagram plan times block element found ≡ None
    go None e = refl
    go (Some number) e =
        let found = slot_found diagram plan times block element (slot_of diagram (attributes_of diagram) plan times number (operation block element)) (Some number) e refl in
        let of = of_shared diagram (attributes_of diagram) plan found.number (operation block element) found.is in
        absurd (false≢true (sym other ∙ of.shared))

-- ---- multipliers go on
