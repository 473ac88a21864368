-- The rules that a diagram keeps which is worked out by hand, tried by computation over widths, types and periods that are written out.
use Rattle.std.proofs.Common.{◌≡◌, ℕ, zero, suc, ◌*◌, ◌≤◌, ◌⊎◌, inl, inr, Bool, true, false, true≢false, ◌&&◌, ◌||◌, ◌==◌, eqb, nat_le, List, [], ◌∷◌, length, get_or, All, Option, Some, None, is_some}
use Rattle.std.proofs.Common.{is_none, slice_get, slice_index_or, MatchOption, count_by, filter_map, sym, subst, refl, arith}
use Rattle.std.specs.Cmp.Lexicographic.{pointwise}
use Rattle.std.specs.Prelude.{⊤}
use Rattle.std.specs.List.{list_all}
use Rattle.std.proofs.lemmas.Bool.{and_parts, or_cases, eqb-true, leb-true}
use Rattle.std.proofs.lemmas.Bool.Decides.{Decides-eqb}
use Rattle.std.proofs.lemmas.List.Sums.{AllPass-from_list_all}
use Rattle.std.proofs.lemmas.Option.{none-some, same_Some, slice_get-get_or}
use Rattle.std.proofs.lemmas.Slice.Eq.{slice_eq-Decides}
use Rattle.fx_type.specs.declared.decimal.Decimal.{Decimal}
use Rattle.fx_type.specs.declared.spec.TypeSpec.{TypeSpec}
use Rattle.fx_type.specs.declared.spec.TypeSpec.TheVariants.{Fixed, Internal, SameFirst, Auto}
use Rattle.dg_model.specs.declared.diagram.Diagram.{Diagram}
use Rattle.dg_model.specs.declared.diagram.Block.{Block}
use Rattle.dg_model.specs.declared.diagram.Edge.{Edge}
use Rattle.dg_model.specs.declared.row.Role.{Role}
use Rattle.dg_model.specs.declared.row.Standing.{Standing}
use Rattle.dg_model.specs.Attributes.{attributes_of}
use Rattle.dg_model.specs.Checked.{IsChecked}
use Rattle.dg_model.specs.Dimension.{IsRepeated, Agrees, KeepsDimension, IsBounded, output_elements, input_elements, delay_elements}
use Rattle.dg_model.specs.KindRow.{Shape}
use Rattle.dg_model.specs.LatencyEdges.{latency_edges}
use Rattle.dg_model.specs.Library.{row_of}
use Rattle.dg_model.specs.Readable.{IsReadable}
use Rattle.dg_model.specs.Loop.{KeepsLoop}
use Rattle.dg_model.specs.Periods.{base_units, declared_period, known_at, multiple_of, periods_of, units_of}
use Rattle.dg_model.specs.Rate.{KeepsDeclared, KeepsPeriods, disagreeing}
use Rattle.dg_model.specs.Signals.{Attributes}
use Rattle.dg_model.specs.TypeRounds.{Types, full_type, input_types, types_of}
use Rattle.dg_model.specs.TypeRule.{IsNotWide, HasTypes, HasAgreeing, IsDrivers, AgreesWith, AgreeInside}
use Rattle.dg_model.specs.Types.{names_full_type}
use Rattle.dg_model.specs.Widths.{Widths, input_widths, next_widths, width_at, widths_of}
use Rattle.dg_model.specs.Wired.{AreNumbered, MayStand, NamesControl, root_input, root_output}
use Rattle.dg_model.specs.Wires.{enters}
use Rattle.dg_tables.specs.Laws.{IsOrdered}
use Rattle.dg_tables.proofs.Sources.{is_control}
use Rattle.math_list.specs.Numbers.{numbers_from}
use Rattle.hw_shows.proofs.RuleFacts.{joins, all_join, are_ordered, in_order, dimensions_kept, types_kept, rates_kept}
use Rattle.hw_shows.proofs.Small.{AreDrivenOnce, attributes_by, attributes_are, file_order, leads_up, no_loop}
use Rattle.hw_shows.proofs.WaveTests.{each_below, each_holds, if_so, so}

-- ---- each place and element passes a test
abbrev pub each_passes : {A : Type 0} → (ℕ → A → Bool) → List A → Bool
each_passes test [] = true
each_passes test (x ∷ xs) = test 0 x && each_passes (λ k. test (suc k)) xs

pub passes_at : {A : Type 0} (test : ℕ → A → Bool) (xs : List A) → each_passes test xs ≡ true → (k : ℕ) (x : A) → slice_get xs k ≡ Some x → test k x ≡ true
passes_at {A} test [] is k x at = absurd (none-some x at)
passes_at {A} test (y ∷ xs) is zero x at = subst (λ (z : A). test 0 z ≡ true) (same_Some y x at) (and_parts (test 0 y) (each_passes (λ k. test (suc k)) xs) is).0
passes_at {A} test (y ∷ xs) is (suc k) x at = passes_at (λ j. test (suc j)) xs (and_parts (test 0 y) (each_passes (λ j. test (suc j)) xs) is).1 k x at

asked : (a b : Bool) → if_so a b ≡ true → a ≡ true → b ≡ true
asked a b is held = so a b held is

-- what two tests tell
both : {a b : Bool} {P Q : Type 0} → (a ≡ true → P) → (b ≡ true → Q) → (a && b) ≡ true → P × Q
both {a} {b} one other is = let parts = and_parts a b is in (one parts.0, other parts.1)

-- ---- where it stands
abbrev is_driven : List Edge → ℕ → ℕ → Bool
is_driven edges block inputs = each_below inputs (λ port. count_by (enters block (suc port)) edges == 1)

driven_by : (edges : List Edge) (block inputs : ℕ) → is_driven edges block inputs ≡ true → AreDrivenOnce edges block inputs
driven_by edges block inputs is zero from to = absurd (omega (arith, from))
driven_by edges block inputs is (suc port) from to =
    eqb-true (count_by (enters block (suc port)) edges) 1 (each_holds inputs (λ p. count_by (enters block (suc p)) edges == 1) is port (omega (arith, to)))

control_by : (role : Role) → is_control role ≡ true → role ≡ Role.Control
control_by Role.Control is = refl
control_by _ is = absurd (true≢false (sym is))

abbrev holds_some : {A : Type 0} → (A → Bool) → Option A → Bool
holds_some test None = false
holds_some test (Some x) = test x

abbrev names_control : List Block → Option ℕ → Bool
names_control blocks None = true
names_control blocks (Some control) = holds_some (λ block. is_control (row_of block.kind).place.role) (slice_get blocks control)

named_by : (block : Option Block) → holds_some (λ b. is_control (row_of b.kind).place.role) block ≡ true → MatchOption block ⊥ (λ b. (row_of b.kind).place.role ≡ Role.Control)
named_by None is = absurd (true≢false (sym is))
named_by (Some block) is = control_by (row_of block.kind).place.role is

controlled_by : (blocks : List Block) (enable : Option ℕ) → names_control blocks enable ≡ true → NamesControl blocks enable
controlled_by blocks None is = tt
controlled_by blocks (Some control) is = named_by (slice_get blocks control) is

none_by : {A : Type 0} (o : Option A) → is_none o ≡ true → o ≡ None
none_by None is = refl
none_by (Some x) is = absurd (true≢false (sym is))

abbrev may_stand : Standing → Option ℕ → Bool
may_stand Standing.Anywhere enable = true
may_stand Standing.Outside enable = is_none enable
may_stand Standing.Inside enable = is_some enable

stands_by : (standing : Standing) (enable : Option ℕ) → may_stand standing enable ≡ true → MayStand standing enable
stands_by Standing.Anywhere enable is = tt
stands_by Standing.Outside enable is = none_by enable is
stands_by Standing.Inside enable is = is

-- ---- its widths, where nothing is joined or parted
abbrev is_repeated : ℕ → ℕ → Bool
is_repeated own width = (width == 1) || (width == own)

repeated_by : (own width : ℕ) → is_repeated own width ≡ true → IsRepeated own width
repeated_by own width is = by (or_cases (width == 1) (width == own) is)
  where
    by : ((width == 1) ≡ true) ⊎ ((width == own) ≡ true) → IsRepeated own width
    by (inl one) = inl (eqb-true width 1 one)
    by (inr same) = inr (eqb-true width own same)

abbrev agree : Shape → List ℕ → List ℕ → Bool
agree Shape.Elementwise outputs inputs = list_all (is_repeated (slice_index_or outputs 0 0)) inputs
agree (Shape.Joined sizes) outputs inputs = false
agree (Shape.Parted sizes) outputs inputs = false
agree Shape.Single outputs inputs = true

agree_by : (shape : Shape) (outputs inputs : List ℕ) (types : Types) → agree shape outputs inputs ≡ true → Agrees shape outputs inputs × AgreeInside shape types
agree_by Shape.Elementwise outputs inputs types is =
    ((λ k d below. repeated_by (slice_index_or outputs 0 0) (get_or inputs k d) (AllPass-from_list_all (is_repeated (slice_index_or outputs 0 0)) inputs is k d below)), tt)
agree_by (Shape.Joined sizes) outputs inputs types is = absurd (true≢false (sym is))
agree_by (Shape.Parted sizes) outputs inputs types is = absurd (true≢false (sym is))
agree_by Shape.Single outputs inputs types is = (tt, tt)

-- ---- its types, where none is written out behind a driver
abbrev writes_none : TypeSpec → Bool
writes_none (Fixed type) = false
writes_none Internal = true
writes_none SameFirst = true
writes_none Auto = true

drivers_by : (spec : TypeSpec) (inputs : Types) → writes_none spec ≡ true → IsDrivers spec inputs
drivers_by (Fixed type) inputs is = absurd (true≢false (sym is))
drivers_by Internal inputs is = tt
drivers_by SameFirst inputs is = tt
drivers_by Auto inputs is = tt

abbrev agrees_with : Role → TypeSpec → Bool
agrees_with (Role.RootInput number) spec = true
agrees_with (Role.RootOutput number) spec = writes_none spec
agrees_with (Role.InnerPort width) spec = writes_none spec
agrees_with Role.EnabledOutput spec = writes_none spec
agrees_with Role.Control spec = true
agrees_with Role.Plain spec = true

written_by : (role : Role) (spec : TypeSpec) (inputs : Types) → agrees_with role spec ≡ true → AgreesWith role spec inputs
written_by (Role.RootInput number) spec inputs is = tt
written_by (Role.RootOutput number) spec inputs is = drivers_by spec inputs is
written_by (Role.InnerPort width) spec inputs is = drivers_by spec inputs is
written_by Role.EnabledOutput spec inputs is = drivers_by spec inputs is
written_by Role.Control spec inputs is = tt
written_by Role.Plain spec inputs is = tt

-- ---- its period
abbrev declares : Diagram → Option Decimal → Bool
declares diagram None = true
declares diagram (Some decimal) = nat_le (multiple_of diagram decimal) 4096 && (units_of decimal == multiple_of diagram decimal * base_units diagram)

declared_by : (diagram : Diagram) (declared : Option Decimal) → declares diagram declared ≡ true
    → MatchOption declared ⊤
    (λ decimal. (times : ℕ) × (times ≤ 4096) × (units_of decimal ≡ times * base_units diagram))
declared_by diagram None is = tt
declared_by diagram (Some decimal) is =
    let parts = and_parts (nat_le (multiple_of diagram decimal) 4096) (units_of decimal == multiple_of diagram decimal * base_units diagram) is in
    (multiple_of diagram decimal, leb-true (multiple_of diagram decimal) 4096 parts.0, eqb-true (units_of decimal) (multiple_of diagram decimal * base_units diagram) parts.1)

-- ---- the diagram

-- the widths, types and periods of its blocks
pub record Columns : Type 0 where
  pub widths : Widths
  pub types : Types
  pub periods : List (Option ℕ)

abbrev pub attributes_in : Diagram → Columns → Attributes
attributes_in diagram columns = attributes_by diagram columns.widths columns.types columns.periods

module _ (diagram : Diagram) (columns : Columns) where
  abbrev is_placed : ℕ → Block → Bool
  is_placed k b = is_driven diagram.edges k b.inputs && (names_control diagram.blocks b.enable && may_stand (row_of b.kind).place.stands b.enable)

  abbrev has_widths : ℕ → Block → Bool
  has_widths k b =
      pointwise eqb (next_widths diagram columns.widths k) (slice_index_or columns.widths k [])
      && (list_all (λ width. nat_le width 1024) (slice_index_or columns.widths k [])
      && (list_all (λ list. is_repeated (width_at columns.widths k 1) (length list)) (row_of b.kind).signal.lists
      && (((row_of b.kind).signal.width == 0) || (width_at columns.widths k 1 == (row_of b.kind).signal.width))))

  abbrev has_types : ℕ → Block → Bool
  has_types k b =
      if_so (names_full_type b.kind b.result) (is_some (full_type (row_of b.kind).types.full (input_types diagram columns.types k)))
      && (is_some (known_at columns.types k) && list_all is_some (input_types diagram columns.types k))

  abbrev agrees : ℕ → Block → Bool
  agrees k b = agree (row_of b.kind).signal.shape (slice_index_or columns.widths k []) (input_widths diagram columns.widths k) && agrees_with (row_of b.kind).place.role b.result

  abbrev has_period : ℕ → Block → Bool
  has_period k b = declares diagram (declared_period b.period) && is_none (disagreeing diagram columns.periods k b)

  abbrev pub passes : ℕ → Block → Bool
  passes k b = is_placed k b && (has_widths k b && (has_types k b && (agrees k b && has_period k b)))

  -- there are few enough blocks and elements
  abbrev pub are_few : Bool
  are_few =
      nat_le (length diagram.blocks) 20000
      && (nat_le (output_elements diagram columns.widths) 200000 && (nat_le (input_elements diagram columns.widths) 400000 && nat_le (delay_elements diagram columns.widths) 4000000))

  -- the rounds come to the columns, and all tests are passed
  pub record IsTried : Type 0 where
    pub widths : widths_of diagram ≡ columns.widths
    pub types : types_of diagram ≡ columns.types
    pub periods : periods_of diagram ≡ columns.periods
    pub few : are_few ≡ true
    pub edges : list_all (joins diagram.blocks) diagram.edges ≡ true
    pub ordered : are_ordered diagram.edges ≡ true
    pub blocks : each_passes passes diagram.blocks ≡ true

  -- what a block keeps
  record Keeps (k : ℕ) (b : Block) : Type 0 where
    driven : AreDrivenOnce diagram.edges k b.inputs
    control : NamesControl diagram.blocks b.enable
    stands : MayStand (row_of b.kind).place.stands b.enable
    width : KeepsDimension diagram columns.widths k b
    narrow : IsNotWide diagram columns.types k b
    known : HasTypes diagram columns.types k b
    agree : HasAgreeing diagram columns.types k b
    declared : KeepsDeclared diagram k b
    period : KeepsPeriods diagram columns.periods k b

  declared_width : (own declared : ℕ) → ((declared == 0) || (own == declared)) ≡ true → (declared ≡ 0) ⊎ (own ≡ declared)
  declared_width own declared is = by (or_cases (declared == 0) (own == declared) is)
    where
      by : ((declared == 0) ≡ true) ⊎ ((own == declared) ≡ true) → (declared ≡ 0) ⊎ (own ≡ declared)
      by (inl none) = inl (eqb-true declared 0 none)
      by (inr same) = inr (eqb-true own declared same)

  keeps_by : (k : ℕ) (b : Block) → passes k b ≡ true → Keeps k b
  keeps_by k b is =
      let own : List ℕ = slice_index_or columns.widths k [] in
      let next : List ℕ = next_widths diagram columns.widths k in
      let types : Types = input_types diagram columns.types k in
      let width : ℕ = width_at columns.widths k 1 in
      let all = and_parts (is_placed k b) (has_widths k b && (has_types k b && (agrees k b && has_period k b))) is in
      let more = and_parts (has_widths k b) (has_types k b && (agrees k b && has_period k b)) all.1 in
      let rest = and_parts (has_types k b) (agrees k b && has_period k b) more.1 in
      let last = and_parts (agrees k b) (has_period k b) rest.1 in
      let placed = both (driven_by diagram.edges k b.inputs) (both (controlled_by diagram.blocks b.enable) (stands_by (row_of b.kind).place.stands b.enable)) all.0 in
      let widths =
      both (slice_eq-Decides Decides-eqb next own (pointwise eqb next own) refl).0
      (both (AllPass-from_list_all (λ w. nat_le w 1024) own)
      (both (AllPass-from_list_all (λ list. is_repeated width (length list)) (row_of b.kind).signal.lists)
      (declared_width width (row_of b.kind).signal.width))) more.0 in
      let typed = both (asked (names_full_type b.kind b.result)
      (is_some (full_type (row_of b.kind).types.full types)))
      (both (λ (some : is_some (known_at columns.types k) ≡ true). some)
      (AllPass-from_list_all is_some types)) rest.0 in
      let agreed =
      both (agree_by (row_of b.kind).signal.shape own (input_widths diagram columns.widths k) types) (written_by (row_of b.kind).place.role b.result types) last.0 in
      let timed = both (declared_by diagram (declared_period b.period)) (none_by (disagreeing diagram columns.periods k b)) last.1 in
      record {
        driven = placed.0;
        control = placed.1.0;
        stands = placed.1.1;
        width = record {
          settled = widths.0;
          within = λ some j d below. leb-true (get_or own j d) 1024 (widths.1.0 j d below);
          agrees = agreed.0.0;
          lists = λ j d below. repeated_by width (length (get_or (row_of b.kind).signal.lists j d)) (widths.1.1.0 j d below);
          declared = widths.1.1.1;
        };
        narrow = λ named all_known. typed.0 named;
        known = record { outputs = λ some. typed.1.0; inputs = typed.1.1 };
        agree = record { written = agreed.1; inside = agreed.0.1 };
        declared = timed.0;
        period = timed.1;
      }

  module _ (tried : IsTried) where
    pub attributes_tried : attributes_of diagram ≡ attributes_in diagram columns
    attributes_tried = attributes_are diagram columns.widths columns.types columns.periods tried.widths tried.types tried.periods

    keeps : (k : ℕ) (b : Block) → slice_get diagram.blocks k ≡ Some b → Keeps k b
    keeps k b at = keeps_by k b (passes_at passes diagram.blocks tried.blocks k b at)

    few : (length diagram.blocks ≤ 20000) × IsBounded diagram columns.widths
    few =
        let outputs : ℕ = output_elements diagram columns.widths in
        let inputs : ℕ = input_elements diagram columns.widths in
        let delays : ℕ = delay_elements diagram columns.widths in
        let parts = both (leb-true (length diagram.blocks) 20000) (both (leb-true outputs 200000) (both (leb-true inputs 400000) (leb-true delays 4000000))) tried.few in
        (parts.0, record { outputs = parts.1.0; inputs = parts.1.1.0; delays = parts.1.1.1 })

    -- the rules are kept where the blocks can be read, the ports have their numbers and nothing leads back
    pub checked_by : All IsReadable diagram.blocks
        → AreNumbered (filter_map (λ block. root_input (row_of block.kind).place.role) diagram.blocks)
        → AreNumbered (filter_map (λ block. root_output (row_of block.kind).place.role) diagram.blocks)
        → KeepsLoop diagram (attributes_of diagram) → IsChecked diagram
    checked_by readable inports outports loops =
        let blocks : List Block = diagram.blocks in
        record {
          wired = record {
            size = few.0;
            edges = all_join blocks diagram.edges tried.edges;
            driven = λ block port b at. (keeps block b at).driven port;
            ordered = in_order diagram.edges tried.ordered;
            blocks = readable;
            controls = λ k d below. (keeps k (get_or blocks k d) (slice_get-get_or blocks k d below)).control;
            enables = λ k d below. (keeps k (get_or blocks k d) (slice_get-get_or blocks k d below)).stands;
            inports = inports;
            outports = outports;
          };
          dimensions = dimensions_kept diagram columns.widths tried.widths (λ k b at. (keeps k b at).width) few.1;
          types = types_kept diagram columns.types tried.types (λ k b at. (keeps k b at).narrow) (λ k b at. (keeps k b at).known) (λ k b at. (keeps k b at).agree);
          rates = rates_kept diagram columns.periods tried.periods (λ k b at. (keeps k b at).declared) (λ k b at. (keeps k b at).period);
          loops = loops;
        }

    -- and the order of the file is one, where all lines lead to later blocks
    pub ordered_by : All IsReadable diagram.blocks
        → AreNumbered (filter_map (λ block. root_input (row_of block.kind).place.role) diagram.blocks)
        → AreNumbered (filter_map (λ block. root_output (row_of block.kind).place.role) diagram.blocks)
        → list_all leads_up (latency_edges diagram) ≡ true → IsOrdered diagram (numbers_from 0 (length diagram.blocks))
    ordered_by readable inports outports up =
        record { checked = checked_by readable inports outports (no_loop diagram (attributes_of diagram) up); ordered = file_order diagram (attributes_of diagram) up }
