-- Which nets have the products of shared multipliers, and what these show (own).
use Rattle.std.specs.Prelude.{◌≡◌, ℕ, ◌+◌, ◌<◌, ℤ, true, false, if◌then◌else◌, List, length, Option, None, Some, slice_get, slice_index_or}
use Rattle.fx_type.specs.declared.decimal.Decimal.{Decimal}
use Rattle.fx_type.specs.declared.kind.FxType.{FxType}
use Rattle.fx_type.specs.FxType.{is_signed, width_of}
use Rattle.fx_type.specs.FullType.{IsFullProduct}
use Rattle.dg_model.specs.declared.diagram.Diagram.{Diagram}
use Rattle.dg_model.specs.declared.diagram.Block.{Block}
use Rattle.dg_model.specs.declared.resolved.Resolved.{Resolved}
use Rattle.dg_model.specs.Attributes.{attributes_of}
use Rattle.dg_model.specs.Equation.{StoresEntry}
use Rattle.dg_model.specs.KindRow.{FullRule}
use Rattle.dg_model.specs.Library.{row_of}
use Rattle.dg_model.specs.Wires.{type_into}
use Rattle.hw_latency.specs.Shared.{is_shared}
use Rattle.hw_net.specs.Circuit.{Circuit}
use Rattle.hw_net.specs.Netlist.{HasWord}
use Rattle.hw_sched.specs.Slots.{Timing as Times, right_of}
use Rattle.hw_shows.specs.Series.{AreSame, steady, span_at, IsProductAt}
use Rattle.hw_build.specs.declared.products.Products.{Products}
use Rattle.hw_build.specs.Places.{Places}
use Rattle.hw_build.specs.Times.{timing_by}
use Rattle.hw_build.specs.inner.Growth.{InLater}
use Rattle.hw_build.specs.inner.HubPlaces.{before}

-- how many shared operations a block has
abbrev pub shared_width : Diagram → Resolved → ℕ → ℕ
shared_width diagram plan block =
    if is_shared diagram (attributes_of diagram) plan block
    then (attributes_of diagram).width_at block 1 else 0

-- the number of the first of them
abbrev pub first_operation : Diagram → Resolved → ℕ → ℕ
first_operation diagram plan block = before (shared_width diagram plan) block

-- the net that has the product of an element, by the number of the first operation of its block
abbrev pub product_by : List ℕ → ℕ → Option ℕ → Option ℕ
product_by results element None = None
product_by results element (Some first) = slice_get results (first + element)

abbrev pub product_at : Products → ℕ → ℕ → Option ℕ
product_at products block element =
    product_by products.results element (slice_index_or products.firsts.items block None)

abbrev pub number_or_zero : Option ℕ → ℕ
number_or_zero None = 0
number_or_zero (Some number) = number

abbrev pub product_net : Products → ℕ → ℕ → ℕ
product_net products block element = number_or_zero (product_at products block element)

-- the elements of shared blocks have one each, and no others
pub record AreProducts (diagram : Diagram) (plan : Resolved) (products : Products) : Type 0 where
  pub size : length products.firsts.items ≡ length diagram.blocks
  pub shared : (block element : ℕ) → block < length diagram.blocks
      → is_shared diagram (attributes_of diagram) plan block ≡ true
      → element < (attributes_of diagram).width_at block 1
      → product_at products block element ≡ Some (product_net products block element)
  pub other : (block element : ℕ) → block < length diagram.blocks
      → is_shared diagram (attributes_of diagram) plan block ≡ false
      → product_at products block element ≡ None

-- a net shows an entry of a list at each clock, stored in a type
pub record IsStored (closed hubs : ℕ) (now : Circuit) (list : List Decimal) (element : ℕ)
    (type : FxType) (number : ℕ) : Type 0 where
  pub value : ℤ
  pub stored : StoresEntry list element type value
  pub same : InLater closed hubs now (λ n rows. AreSame n (rows number) (steady value))

module _ (diagram : Diagram) (plan : Resolved) (times : Times) (places : Places) (closed hubs : ℕ)
    (now : Circuit) where
  -- the net of the second operand of an element: that of a coefficient, or what the second port is
  -- offered
  abbrev pub IsSecondNet : ℕ → ℕ → FullRule → ℕ → Type 0
  IsSecondNet block element FullRule.NoFull number = ⊥
  IsSecondNet block element (FullRule.FullSum negative accum) number = ⊥
  IsSecondNet block element (FullRule.FullScaled value spec) number =
      IsStored closed hubs now value element ((attributes_of diagram).param_at block) number
  IsSecondNet block element FullRule.FullProduct number = number ≡ places.offered block 2 element
  IsSecondNet block element FullRule.UnionOfTwo number = ⊥
  IsSecondNet block element FullRule.UnionOfEnds number = ⊥

  -- the product of an element, from the clock behind its slot to the end of each frame, in the word
  -- of its full type
  pub record HasProduct (block : ℕ) (b : Block) (element : ℕ) : Type 0 where
    pub slot : ℕ
    pub told : (timing_by diagram plan times).slot block element ≡ Some slot
    pub right : ℕ
    pub second : IsSecondNet block element (row_of b.kind).types.full right
    pub product : (period : ℕ) → (attributes_of diagram).period_at block ≡ Some period
        → InLater closed hubs now
        (λ n rows. IsProductAt n (span_at (timing_by diagram plan times) period block) slot
        (rows (places.offered block 1 element)) (rows right)
        (rows (places.product block element)))
    pub full : FxType
    pub is_full : IsFullProduct (type_into diagram (attributes_of diagram) block 1)
        (right_of diagram (attributes_of diagram) block (Some b)) full
    pub word : HasWord now.nets (places.product block element) (width_of full) (is_signed full)

  -- those of all shared operations
  pub record HaveProducts : Type 0 where
    pub each : (block : ℕ) (b : Block) (element : ℕ) → slice_get diagram.blocks block ≡ Some b
        → is_shared diagram (attributes_of diagram) plan block ≡ true
        → element < (attributes_of diagram).width_at block 1 → HasProduct block b element
