-- What `lower` says of an operation on what a block is offered, and on the product of a shared multiplier.
use Rattle.std.proofs.Common.{◌≡◌, ℕ, ◌<◌, ◌≤◌, ℤ, List, [], ◌∷◌, length, Some, subst}
use mathlib.Core.List.{map-map}
use Rattle.fx_type.specs.declared.kind.FxType.{FxType}
use Rattle.fx_type.specs.FullType.{IsFullProduct}
use Rattle.math_list.specs.Numbers.{numbers_from}
use Rattle.dg_model.specs.declared.diagram.Diagram.{Diagram}
use Rattle.dg_model.specs.declared.diagram.Block.{Block}
use Rattle.dg_model.specs.declared.op.Op.{Op}
use Rattle.dg_model.specs.Equation.{IsOpOf}
use Rattle.dg_model.specs.Operation.{Operation, AreInRange, OpGives}
use Rattle.dg_model.specs.Signals.{Attributes}
use Rattle.dg_model.specs.Wires.{type_into}
use Rattle.hw_net.specs.Circuit.{Circuit}
use Rattle.hw_net.specs.NetRows.{Rows}
use Rattle.hw_net.specs.Registers.{Wave}
use Rattle.hw_lower.specs.Lowered.{AreArgs, IsLowered, Lowers, values_at}
use Rattle.hw_shows.specs.Timing.{Timing}
use Rattle.hw_shows.specs.Series.{span_at, IsProductAt}
use Rattle.hw_shows.specs.Waves.{IsCarriedOut, IsServed}
use Rattle.hw_build.specs.Places.{Places, waves_of}
use Rattle.hw_build.specs.inner.Growth.{GoesOn, InLater}
use Rattle.hw_build.specs.inner.OperationNets.{IsLoweredIn, offered_args, operation_at, conversion_of}
use Rattle.hw_build.proofs.Growth.{goes_appended, in_call, word_later}
use Rattle.hw_build.proofs.Words.{in_ranges}

-- arguments keep their words
pub args_later : (closed hubs : ℕ) (now later : Circuit) (types : List FxType) (args : List ℕ) → GoesOn closed hubs now later → AreArgs now types args → AreArgs later types args
args_later closed hubs now later types args goes are = record {
  count = are.count;
  words = λ input number type at is. word_later closed hubs now later number _ _ goes (are.words input number type at is);
}

-- of a call of `lower`
pub lowered_by_call : (closed hubs : ℕ) (before after : Circuit) (operation : Operation) (args : List ℕ)
    (number : ℕ) → hubs ≤ length before.nets → AreArgs before operation.types args
    → Lowers before after operation args → IsLowered before after operation args number
    → IsLoweredIn closed hubs after operation args number
lowered_by_call closed hubs before after operation args number small are lowers lowered = record {
  gives = in_call closed hubs before after
      (λ n rows. (clock : ℕ) → clock < n → AreInRange operation.types (values_at rows args clock)
      → OpGives operation (values_at rows args clock) (rows number clock)) small lowers.appends.extends
      lowered.gives;
  words = args_later closed hubs before after operation.types args (goes_appended closed hubs before after lowers.appends.extends) are;
}

-- at each clock the result is what the operation gives
pub lowered_gives : (closed hubs : ℕ) (now : Circuit) (operation : Operation) (args : List ℕ) (number : ℕ) → IsLoweredIn closed hubs now operation args number
    → InLater closed hubs now (λ n rows. (clock : ℕ) → clock < n → OpGives operation (values_at rows args clock) (rows number clock))
lowered_gives closed hubs now operation args number is = record {
  holds = λ later goes n inputs rows are clock below.
      is.gives.holds later goes n inputs rows are clock below
      (in_ranges later n inputs rows operation.types args are
      (args_later closed hubs now later operation.types args goes is.words) clock below);
}

module _ (diagram : Diagram) (attributes : Attributes) (timing : Timing) (places : Places) (closed hubs : ℕ) (now : Circuit) (block : ℕ) (b : Block) (port element : ℕ) where
  -- a block's own operation
  pub carried_out : (op : Op) → IsOpOf b.kind element (attributes.param_at block) (type_into diagram attributes block 2) op
      → IsLoweredIn closed hubs now (operation_at diagram attributes block b op) (offered_args places block b element) (places.entry block port element)
      → InLater closed hubs now (λ n rows. IsCarriedOut diagram attributes timing n (waves_of places rows) block b port element)
  carried_out op is_op is = record {
    holds = λ later goes n inputs rows are. record {
      op = op;
      is = is_op;
      gives = λ t c below seen.
          let given = (lowered_gives closed hubs now (operation_at diagram attributes block b op)
          (offered_args places block b element) (places.entry block port element) is).holds later goes n inputs
          rows are c below in
          subst (λ (values : List ℤ). OpGives (operation_at diagram attributes block b op) values (rows (places.entry block port element) c))
          (map-map (λ (net : ℕ). rows net c) (λ (input : ℕ). places.offered block input element) (numbers_from 1 b.inputs)) given;
    };
  }

  -- the product of a shared multiplier, converted
  pub served : (slot : ℕ) (left right : Rows → Wave) (type other full : FxType) → IsFullProduct type other full
      → ((period : ℕ) → attributes.period_at block ≡ Some period
      → InLater closed hubs now (λ n rows. IsProductAt n (span_at timing period block) slot (left rows)
      (right rows) (rows (places.product block element))))
      → IsLoweredIn closed hubs now (conversion_of attributes block b full) (places.product block element ∷ []) (places.entry block port element)
      → InLater closed hubs now (λ n rows. IsServed diagram attributes timing n (waves_of places rows) block b port element slot (left rows) (right rows) type other)
  served slot left right type other full is_full product is = record {
    holds = λ later goes n inputs rows are. record {
      full = full;
      is_full = is_full;
      product = λ period e. (product period e).holds later goes n inputs rows are;
      converts = λ c below. (lowered_gives closed hubs now (conversion_of attributes block b full)
          (places.product block element ∷ []) (places.entry block port element) is).holds later goes n inputs rows
          are c below;
    };
  }
