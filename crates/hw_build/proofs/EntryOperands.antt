-- What the ends of a block offer to an element: nets of the words of their sources, which stand above these at the most as their lines do.
use Rattle.std.proofs.Common.{◌≡◌, ℕ, zero, suc, ◌+◌, ◌-◌, ◌<◌, ◌≤◌, ◌⊎◌, inl, inr, true, false, List, [], ◌∷◌, length, map, sum, Contains, Option, None, Some, ap, sym, ◌∙◌, subst, refl, arith}
use Rattle.std.specs.Prelude.{slice_get, slice_index, slice_index_or, min}
use Rattle.std.specs.List.{fold}
use Rattle.std.proofs.lemmas.Bool.{false≢true, cases_lt}
use Rattle.std.proofs.lemmas.Option.{none-some, same_Some, slice_get_within, slice_get-get_or}
use Rattle.fx_type.specs.declared.kind.FxType.{FxType}
use Rattle.fx_type.specs.declared.kind.FxType.TheVariants.{Logical}
use Rattle.fx_type.specs.FxType.{is_signed, width_of}
use Rattle.math_list.specs.Numbers.{numbers_from}
use Rattle.dg_model.specs.declared.diagram.Diagram.{Diagram}
use Rattle.dg_model.specs.declared.diagram.Block.{Block}
use Rattle.dg_model.specs.declared.diagram.Edge.{Edge}
use Rattle.dg_model.specs.declared.kind.Kind.{Kind}
use Rattle.dg_model.specs.declared.kind.Kind.TheVariants.{Inport, Outport, Constant, Ground, Sum, Gain, Product, Switch, Relational, Logic, Convert, Delay, Mux, Demux, RateTransition, Pass}
use Rattle.dg_model.specs.declared.kind.Kind.TheVariants.{EnableTest, EnOut, Terminator}
use Rattle.dg_model.specs.declared.nested.Target.TheVariants.{Port, Enable}
use Rattle.dg_model.specs.Attributes.{attributes_of}
use Rattle.dg_model.specs.Checked.{IsChecked}
use Rattle.dg_model.specs.LatencyEdges.{asks_ever}
use Rattle.dg_model.specs.Library.{row_of}
use Rattle.dg_model.specs.Readable.{HasPorts}
use Rattle.dg_model.specs.Solves.{shown_ports, shown_width}
use Rattle.dg_model.specs.Wires.{at_source, type_into, types_into, width_into, widths_into}
use Rattle.dg_tables.specs.Fit.{AreRepeated, HasWidths, KeepsType}
use Rattle.hw_net.specs.Circuit.{Circuit}
use Rattle.hw_net.specs.Netlist.{HasWord}
use Rattle.hw_lower.specs.Lowered.{AreArgs}
use Rattle.hw_shows.specs.Timed.{lag_into, Feeds}
use Rattle.hw_build.specs.Places.{Places}
use Rattle.hw_build.specs.inner.Entries.{AreOffered, enable_types, enables_of, operand_types}
use Rattle.hw_build.specs.inner.Facts.{AreSpread, LateAreWide, count_by, count_by_lag, line_count}
use Rattle.hw_build.specs.inner.HubPlaces.{is_input_role}
use Rattle.hw_build.specs.inner.OperationNets.{offered_args}
use Rattle.hw_build.specs.inner.UnderWay.{HaveOperands, line_level, own_level}
use Rattle.hw_build.proofs.LineSearch.{driver_some}
use Rattle.math_list.proofs.Numbers.{get_number}

-- ---- lists

-- a list of nets, each of which is such for its type
pub record AreEach (P : FxType → ℕ → Type 0) (types : List FxType) (operands : List ℕ) : Type 0 where
  pub count : length operands ≡ length types
  pub each : (k number : ℕ) (type : FxType) → slice_get operands k ≡ Some number → slice_get types k ≡ Some type → P type number

each_none : (P : FxType → ℕ → Type 0) → AreEach P [] []
each_none P = record { count = refl; each = λ k number type at is. absurd (none-some number at) }

each_more : (P : FxType → ℕ → Type 0) (type : FxType) (number : ℕ) (types : List FxType) (operands : List ℕ) → P type number → AreEach P types operands → AreEach P (type ∷ types) (number ∷ operands)
each_more P type number types operands first rest = record { count = ap suc rest.count; each = go }
  where
    go : (k n : ℕ) (t : FxType) → slice_get (number ∷ operands) k ≡ Some n → slice_get (type ∷ types) k ≡ Some t → P t n
    go zero n t at is = subst (λ (x : ℕ). P t x) (same_Some number n at) (subst (λ (x : FxType). P x number) (same_Some type t is) first)
    go (suc k) n t at is = rest.each k n t at is

each_mapped : (P : FxType → ℕ → Type 0) (f : ℕ → FxType) (g : ℕ → ℕ) (from n : ℕ)
    → ((i : ℕ) → from ≤ i → i < from + n → P (f i) (g i))
    → AreEach P (map f (numbers_from from n)) (map g (numbers_from from n))
each_mapped P f g from zero all = each_none P
each_mapped P f g from (suc n) all = each_more P (f from) (g from) (map f (numbers_from (suc from) n))
    (map g (numbers_from (suc from) n)) (all from (omega arith) (omega arith))
    (each_mapped P f g (suc from) n (λ i low high. all i (omega (arith, low)) (omega (arith, high))))

-- a sum is no less than its parts
added_to : (xs : List ℕ) (a : ℕ) → fold ◌+◌ a xs ≡ a + fold ◌+◌ 0 xs
added_to [] a = omega arith
added_to (x ∷ xs) a =
    let one : fold ◌+◌ (a + x) xs ≡ (a + x) + fold ◌+◌ 0 xs = added_to xs (a + x) in
    let two : fold ◌+◌ (0 + x) xs ≡ (0 + x) + fold ◌+◌ 0 xs = added_to xs (0 + x) in
    omega (arith, one, two)

part_of_sum : (f : ℕ → ℕ) (from n i : ℕ) → from ≤ i → i < from + n → f i ≤ sum (map f (numbers_from from n))
part_of_sum f from zero i low high = absurd (omega (arith, low, high))
part_of_sum f from (suc n) i low high =
    let whole : sum (map f (numbers_from from (suc n))) ≡ (0 + f from) + sum (map f (numbers_from (suc from) n)) = added_to (map f (numbers_from (suc from) n)) (0 + f from) in
    elim (cases_lt from i) [
      | inl less ↦ let more = part_of_sum f (suc from) n i (omega (arith, less)) (omega (arith, high)) in omega (arith, whole, more)
      | inr same ↦ let e : from ≡ i = omega (arith, low, same) in let own : f from ≡ f i = ap f e in omega (arith, whole, own)
    ]

counted_map : (f : ℕ → ℕ) (n : ℕ) → length (map f (numbers_from 1 n)) ≡ n
counted_map f n = go 1 n
  where
    go : (from m : ℕ) → length (map f (numbers_from from m)) ≡ m
    go from zero = refl
    go from (suc m) = ap suc (go (suc from) m)

next : (k : ℕ) → 1 + k ≡ suc k
next k = omega arith

-- ---- one net

some_by_lag : (source own : ℕ) (lag : Option ℕ) → 0 < source → ((l : ℕ) → lag ≡ Some l → 0 < own) → 0 < count_by_lag source own lag
some_by_lag source own None some wide = some
some_by_lag source own (Some l) some wide = wide l refl

some_by : (source own : ℕ) (lags : ℕ → Option ℕ) (period : Option ℕ) → 0 < source → ((p l : ℕ) → lags p ≡ Some l → 0 < own) → 0 < count_by source own lags period
some_by source own lags None some wide = some
some_by source own lags (Some p) some wide = some_by_lag source own (lags p) some (λ l e. wide p l e)

module _ (diagram : Diagram) (places : Places) (place_of : ℕ → ℕ) (hubs : ℕ) (now : Circuit) (level : ℕ → ℕ)
    (checked : IsChecked diagram) (wide : LateAreWide diagram) (spread : AreSpread diagram places)
    (have : HaveOperands diagram places place_of hubs now level)
    (block : ℕ) (b : Block) (at : slice_get diagram.blocks block ≡ Some b) (showing : 1 ≤ shown_ports b.kind b.outputs)
  where
    -- a net of this type's word, which stands no higher than the lines of its block
    pub record IsOperand (type : FxType) (number : ℕ) : Type 0 where
      pub word : HasWord now.nets number (width_of type) (is_signed type)
      pub from : ℕ
      pub low : level number ≤ line_level (place_of from)
      pub feeds : (Feeds diagram block b Enable from) ⊎ ((port : ℕ) × Feeds diagram block b (Port port) from)

    pub offered_one : (port element : ℕ) → 1 ≤ port → port ≤ b.inputs
        → 0 < width_into diagram (attributes_of diagram) block port
        → IsOperand (type_into diagram (attributes_of diagram) block port) (places.offered block port element)
    offered_one port element from to some =
        let driver = driver_some diagram block port b checked.wired at from to in
        let edge : Edge = driver.0 in
        let width : width_into diagram (attributes_of diagram) block port
        ≡ (attributes_of diagram).width_at edge.from edge.from_port =
        ap (λ (o : Option Edge). at_source o 0 (attributes_of diagram).width_at) driver.1 in
        let type : type_into diagram (attributes_of diagram) block port
        ≡ (attributes_of diagram).type_at edge.from edge.from_port =
        ap (λ (o : Option Edge). at_source o Logical (attributes_of diagram).type_at) driver.1 in
        let count : 0 < line_count diagram block b port edge =
        some_by ((attributes_of diagram).width_at edge.from edge.from_port)
        ((attributes_of diagram).width_at block 1)
        (lag_into diagram (attributes_of diagram) block b (Port port))
        ((attributes_of diagram).period_at edge.from) (omega (arith, width, some))
        (λ p l e. (wide.each block b port p l edge at from to driver.1 e).0) in
        let place : ℕ = min element (line_count diagram block b port edge - 1) in
        let below : place < line_count diagram block b port edge = omega (arith, count) in
        let same : places.offered block port element ≡ places.offered block port place = spread.offered block b port element edge at driver.1 in
        record {
          word = subst (λ (t : FxType). HasWord now.nets (places.offered block port element) (width_of t) (is_signed t)) (sym type)
              (subst (λ (n : ℕ). HasWord now.nets n
              (width_of ((attributes_of diagram).type_at edge.from edge.from_port))
              (is_signed ((attributes_of diagram).type_at edge.from edge.from_port))) (sym same)
              (have.there block b port place edge at showing from to driver.1 below));
          from = edge.from;
          low = subst (λ (n : ℕ). level n ≤ line_level (place_of edge.from)) (sym same) (have.levels block b port place edge at showing from to driver.1 below);
          feeds = inr (port, (edge, from, to, driver.1, refl));
        }

    enabled_by : (control : ℕ) → Feeds diagram block b Enable control → IsOperand ((attributes_of diagram).type_at control 1) (places.enable block)
    enabled_by control feeds = record { word = have.enables block b control at feeds; from = control; low = have.enable_levels block b control at feeds; feeds = inl feeds }

    enabled_all : (enable : Option ℕ) → b.enable ≡ enable → asks_ever (row_of b.kind).timing.asks ≡ true
        → AreEach IsOperand (enable_types (attributes_of diagram) enable) (enables_of places block enable)
    enabled_all None is asks = each_none IsOperand
    enabled_all (Some control) is asks = each_more IsOperand ((attributes_of diagram).type_at control 1) (places.enable block) [] [] (enabled_by control (is, asks)) (each_none IsOperand)

    -- each stands no higher than the block, where sources of what it reads stand before it
    pub operands_low : (types : List FxType) (operands : List ℕ) → AreEach IsOperand types operands
        → ((from : ℕ) → (Feeds diagram block b Enable from) ⊎ ((port : ℕ) × Feeds diagram block b (Port port) from)
        → place_of from < place_of block) → (read : ℕ) → Contains operands read
        → (read < length now.nets) × (level read ≤ own_level (place_of block))
    operands_low types operands are early read among =
        let k : ℕ = among.0 in
        let within = among.1 in
        let count = are.count in
        let given : slice_get operands k ≡ Some read = slice_get-get_or operands k read within ∙ ap Some among.2 in
        let one : IsOperand (slice_index_or types k Logical) read = are.each k read (slice_index_or types k Logical) given (slice_get-get_or types k Logical (omega (arith, within, count))) in
        let less = early one.from one.feeds in
        let low = one.low in
        (slice_get_within now.nets read one.word.net one.word.is, omega (arith, less, low))

    -- and each is there
    pub operands_there : (types : List FxType) (operands : List ℕ) → AreEach IsOperand types operands → (read : ℕ) → Contains operands read → read < length now.nets
    operands_there types operands are read among =
        let k : ℕ = among.0 in
        let within = among.1 in
        let count = are.count in
        let given : slice_get operands k ≡ Some read = slice_get-get_or operands k read within ∙ ap Some among.2 in
        let one : IsOperand (slice_index_or types k Logical) read = are.each k read (slice_index_or types k Logical) given (slice_get-get_or types k Logical (omega (arith, within, count))) in
        slice_get_within now.nets read one.word.net one.word.is

    -- ---- all of an element

    module _ (port element : ℕ) (from : 1 ≤ port) (to : port ≤ shown_ports b.kind b.outputs)
        (below : element < shown_width diagram (attributes_of diagram) b.kind block port)
        (ports : HasPorts b.kind b.inputs b.outputs) where
      repeated_some : (input : ℕ) → 1 ≤ input → input ≤ b.inputs
          → AreRepeated diagram (attributes_of diagram) block b.kind b.inputs b.outputs
          → 0 < width_into diagram (attributes_of diagram) block input
      repeated_some input low high fits = elim (fits input port low high from to) [
        | inl one ↦ omega (arith, one)
        | inr same ↦ omega (arith, same, below)
      ]

      worked_all : (operands : List ℕ) → AreRepeated diagram (attributes_of diagram) block b.kind b.inputs b.outputs
          → operands ≡ offered_args places block b element
          → AreEach IsOperand (types_into diagram (attributes_of diagram) block b.inputs) operands
      worked_all operands fits is =
          subst (AreEach IsOperand (types_into diagram (attributes_of diagram) block b.inputs)) (sym is)
          (each_mapped IsOperand (type_into diagram (attributes_of diagram) block)
          (λ input. places.offered block input element) 1 b.inputs
          (λ i low high. offered_one i element low (omega (arith, high))
          (repeated_some i low (omega (arith, high)) fits)))

      first_all : (operands rest : List ℕ) (types : List FxType) (place : ℕ) → b.inputs ≡ 1
          → 0 < width_into diagram (attributes_of diagram) block 1
          → type_into diagram (attributes_of diagram) block 1 ≡ (attributes_of diagram).type_at block port
          → AreEach IsOperand types rest → operands ≡ places.offered block 1 place ∷ rest
          → AreEach IsOperand ((attributes_of diagram).type_at block port ∷ types) operands
      first_all operands rest types place one some type more is =
          subst (AreEach IsOperand ((attributes_of diagram).type_at block port ∷ types)) (sym is)
          (each_more IsOperand ((attributes_of diagram).type_at block port)
          (places.offered block 1 place) types rest
          (subst (λ (t : FxType). IsOperand t (places.offered block 1 place)) type
          (offered_one 1 place (omega arith) (omega (arith, one)) some)) more)

      pub operands_are : (kind : Kind) (operands : List ℕ) → b.kind ≡ kind
          → is_input_role (row_of kind).place.role ≡ false
          → HasWidths diagram (attributes_of diagram) block kind b.inputs b.outputs
          → KeepsType diagram (attributes_of diagram) block kind b.inputs b.outputs
          → AreOffered diagram places block b port element kind operands → AreEach IsOperand (operand_types diagram (attributes_of diagram) block b port kind) operands
      operands_are (Inport number width) operands is other fits keeps offered = absurd (false≢true (sym other))
      operands_are (Outport number) operands is other fits keeps offered =
          worked_all operands (subst (λ (k : Kind). AreRepeated diagram
          (attributes_of diagram) block k b.inputs b.outputs) (sym is) fits) offered
      operands_are (Constant value) operands is other fits keeps offered = subst (AreEach IsOperand []) (sym offered) (each_none IsOperand)
      operands_are Ground operands is other fits keeps offered = subst (AreEach IsOperand []) (sym offered) (each_none IsOperand)
      operands_are (Sum negative accum) operands is other fits keeps offered =
          worked_all operands (subst (λ (k : Kind). AreRepeated diagram
          (attributes_of diagram) block k b.inputs b.outputs) (sym is) fits) offered
      operands_are (Gain value param) operands is other fits keeps offered =
          worked_all operands (subst (λ (k : Kind). AreRepeated diagram
          (attributes_of diagram) block k b.inputs b.outputs) (sym is) fits) offered
      operands_are Product operands is other fits keeps offered =
          worked_all operands (subst (λ (k : Kind). AreRepeated diagram
          (attributes_of diagram) block k b.inputs b.outputs) (sym is) fits) offered
      operands_are (Switch criterion threshold) operands is other fits keeps offered =
          worked_all operands (subst (λ (k : Kind). AreRepeated diagram
          (attributes_of diagram) block k b.inputs b.outputs) (sym is) fits) offered
      operands_are (Relational operator) operands is other fits keeps offered =
          worked_all operands (subst (λ (k : Kind). AreRepeated diagram
          (attributes_of diagram) block k b.inputs b.outputs) (sym is) fits) offered
      operands_are (Logic operator) operands is other fits keeps offered =
          worked_all operands (subst (λ (k : Kind). AreRepeated diagram
          (attributes_of diagram) block k b.inputs b.outputs) (sym is) fits) offered
      operands_are (Convert stored) operands is other fits keeps offered =
          worked_all operands (subst (λ (k : Kind). AreRepeated diagram
          (attributes_of diagram) block k b.inputs b.outputs) (sym is) fits) offered
      operands_are (Delay delay initial reset) operands is other fits keeps offered =
          let one : b.inputs ≡ 1 = (subst (λ (k : Kind). HasPorts k b.inputs b.outputs) is ports).0 in
          first_all operands (enables_of places block b.enable)
          (enable_types (attributes_of diagram) b.enable) element one
          (repeated_some 1 (omega arith) (omega (arith, one))
          (subst (λ (k : Kind). AreRepeated diagram (attributes_of diagram) block k b.inputs b.outputs)
          (sym is) fits)) keeps (enabled_all b.enable refl
          (ap (λ (k : Kind). asks_ever (row_of k).timing.asks) is)) offered
      operands_are (Mux sizes) operands is other fits keeps offered =
          let signal : ℕ = offered.signal in
          let inside : signal < b.inputs = subst (λ (n : ℕ). signal < n) (counted_map (width_into diagram (attributes_of diagram) block) b.inputs) offered.part.signal_is in
          let width : slice_index (widths_into diagram (attributes_of diagram) block b.inputs) signal
          ≡ width_into diagram (attributes_of diagram) block (suc signal) =
          get_number (width_into diagram (attributes_of diagram) block) 1 b.inputs signal inside
          ∙ ap (width_into diagram (attributes_of diagram) block) (next signal) in
          let within = offered.part.within in
          subst (AreEach IsOperand ((attributes_of diagram).type_at block port ∷ [])) (sym offered.is)
          (each_more IsOperand ((attributes_of diagram).type_at block port) (places.offered block (suc signal) offered.place) [] []
          (subst (λ (t : FxType). IsOperand t (places.offered block (suc signal) offered.place))
          (keeps (suc signal) (omega arith) (omega (arith, inside)))
          (offered_one (suc signal) offered.place (omega arith) (omega (arith, inside))
          (omega (arith, width, within)))) (each_none IsOperand))
      operands_are (Demux sizes) operands is other fits keeps offered =
          let one : b.inputs ≡ 1 = (subst (λ (k : Kind). HasPorts k b.inputs b.outputs) is ports).0 in
          let shown : element < (attributes_of diagram).width_at block port = subst (λ (k : Kind). element < shown_width diagram (attributes_of diagram) k block port) is below in
          let last : port ≤ b.outputs = subst (λ (k : Kind). port ≤ shown_ports k b.outputs) is to in
          let whole = part_of_sum ((attributes_of diagram).width_at block) 1 b.outputs port from (omega (arith, last)) in
          first_all operands [] [] (sum (map ((attributes_of diagram).width_at block) (numbers_from 1 (port - 1)))
          + element) one (omega (arith, fits, whole, shown)) (keeps port from last)
          (each_none IsOperand) offered
      operands_are (RateTransition period initial) operands is other fits keeps offered =
          let one : b.inputs ≡ 1 = (subst (λ (k : Kind). HasPorts k b.inputs b.outputs) is ports).0 in
          first_all operands [] [] element one
          (repeated_some 1 (omega arith) (omega (arith, one))
          (subst (λ (k : Kind). AreRepeated diagram (attributes_of diagram) block k b.inputs b.outputs)
          (sym is) fits)) keeps (each_none IsOperand) offered
      operands_are (Pass width) operands is other fits keeps offered =
          worked_all operands (subst (λ (k : Kind). AreRepeated diagram
          (attributes_of diagram) block k b.inputs b.outputs) (sym is) fits) offered
      operands_are EnableTest operands is other fits keeps offered =
          let one : b.inputs ≡ 1 = (subst (λ (k : Kind). HasPorts k b.inputs b.outputs) is ports).0 in
          subst (AreEach IsOperand (operand_types diagram (attributes_of diagram) block b port EnableTest)) (sym offered)
          (each_mapped IsOperand (λ place. type_into diagram (attributes_of diagram) block 1)
          (places.offered block 1) 0 (width_into diagram (attributes_of diagram) block 1)
          (λ i low high. offered_one 1 i (omega arith) (omega (arith, one)) (omega (arith, high))))
      operands_are (EnOut reset initial) operands is other fits keeps offered =
          let one : b.inputs ≡ 1 = (subst (λ (k : Kind). HasPorts k b.inputs b.outputs) is ports).0 in
          first_all operands (enables_of places block b.enable)
          (enable_types (attributes_of diagram) b.enable) element one
          (repeated_some 1 (omega arith) (omega (arith, one))
          (subst (λ (k : Kind). AreRepeated diagram (attributes_of diagram) block k b.inputs b.outputs)
          (sym is) fits)) keeps (enabled_all b.enable refl
          (ap (λ (k : Kind). asks_ever (row_of k).timing.asks) is)) offered
      operands_are Terminator operands is other fits keeps offered =
          let none : b.outputs ≡ 0 = (subst (λ (k : Kind). HasPorts k b.inputs b.outputs) is ports).1 in
          let last : port ≤ b.outputs = subst (λ (k : Kind). port ≤ shown_ports k b.outputs) is to in
          absurd (omega (arith, none, last, from))

-- in the words that an element asks for
pub words_are : (now : Circuit) (P : FxType → ℕ → Type 0) (types : List FxType) (operands : List ℕ)
    → ((type : FxType) (number : ℕ) → P type number → HasWord now.nets number (width_of type) (is_signed type))
    → AreEach P types operands → AreArgs now types operands
words_are now P types operands gives are = record { count = are.count; words = λ input number type at is. gives type number (are.each input number type at is) }
