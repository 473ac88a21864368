-- The rule of types gives each block types that fit, and an operation that can be prepared.
use Rattle.std.proofs.Common.{◌≡◌, ℕ, zero, suc, ◌+◌, ◌-◌, ◌<◌, Bool, true, false, true≢false, List, [], ◌∷◌, length, map, zip, All, slice_get, Option, Some, None, IsSome, MatchOption, ℤ, pos, ap}
use Rattle.std.proofs.Common.{sym, ◌∙◌, subst, subst₂, refl, arith}
use Rattle.std.proofs.lemmas.Option.{none-some, same_Some, get_or_from_slice_get}
use Rattle.std.proofs.lemmas.List.Elements.{All-nil, All-cons}
use Rattle.fx_type.specs.declared.kind.FxType.{FxType}
use Rattle.fx_type.specs.declared.kind.FxType.TheVariants.{Num, Logical}
use Rattle.fx_type.specs.declared.spec.TypeSpec.{TypeSpec}
use Rattle.fx_type.specs.declared.spec.TypeSpec.TheVariants.{Fixed, Internal, SameFirst, Auto}
use Rattle.fx_type.specs.declared.decimal.Decimal.{Decimal}
use Rattle.fx_type.specs.FxType.{IsType, InRange}
use Rattle.fx_type.specs.Conversion.{Stores}
use Rattle.fx_type.specs.FullType.{Terms, IsFullSum, IsUnion}
use Rattle.fx_type.specs.FullTypeOf.{full_sum_of, full_product_of, union_of}
use Rattle.fx_type.specs.Laws.{FullSumIsOne, FullProductIsOne, UnionIsOne}
use Rattle.fx_round.specs.Laws.{StoringGivesOne}
use Rattle.dg_model.specs.declared.diagram.Diagram.{Diagram}
use Rattle.dg_model.specs.declared.diagram.Block.{Block}
use Rattle.dg_model.specs.declared.diagram.Edge.{Edge}
use Rattle.dg_model.specs.declared.kind.Kind.{Kind}
use Rattle.dg_model.specs.declared.kind.Kind.TheVariants.{Outport, Sum, Gain, Product, Switch, Relational, Logic, Convert, Delay, Mux, Demux, RateTransition, Pass, EnableTest, EnOut}
use Rattle.dg_model.specs.declared.kind.Gate.{Gate}
use Rattle.dg_model.specs.declared.kind.Gate.TheVariants.{Not}
use Rattle.dg_model.specs.declared.op.Op.{Op}
use Rattle.dg_model.specs.declared.op.Op.TheVariants.{Sum as OpSum, Gain as OpGain, Product as OpProduct, Switch as OpSwitch, Relational as OpRelational, Logic as OpLogic, Convert as OpConvert}
use Rattle.dg_model.specs.declared.op.Op.TheVariants.{Pass as OpPass}
use Rattle.dg_model.specs.KindRow.{FullRule, IsSpec, MayBeFixed, HasOperands}
use Rattle.dg_model.specs.Library.{row_of}
use Rattle.dg_model.specs.Readable.{HasPorts, IsReadable}
use Rattle.dg_model.specs.GainParam.{ParamTypeIsOne, param_type_of}
use Rattle.dg_model.specs.Periods.{known_at}
use Rattle.dg_model.specs.Types.{names_full_type}
use Rattle.dg_model.specs.TypeRounds.{with_known, all_known, specified_type, stepped, stepped_first, sum_named, Types, input_types, full_type, taken_type, types_of}
use Rattle.dg_model.specs.TypeRule.{AgreesWith, AgreeInside, IsDrivers, AreOne, KeepsTypes}
use Rattle.dg_model.specs.Attributes.{attributes_of, or_logical, coefficient_type, param_type_at}
use Rattle.dg_model.specs.Operation.{HasArity, HasSigns, HasParameters, HasResultType, HasFullType, IsAccumulator, CanPrepare, type_of}
use Rattle.dg_model.specs.Equation.{StoresEntry, IsOpOf, accumulator, signs_of}
use Rattle.dg_model.specs.Wires.{type_into, types_into, edges_into, entry_of}
use Rattle.dg_model.specs.Wired.{IsWired}
use Rattle.dg_model.proofs.Ports.{inputs_are_sources, map_twice}
use Rattle.dg_tables.proofs.Ground.{KeepsType, operation_at}
use Rattle.math_list.proofs.Places.{held, there_map}
use Rattle.math_list.proofs.Numbers.{length_mapped, get_mapped}
use Rattle.dg_tables.proofs.Edges.{edges_length, edge_at, source_at}
use Rattle.dg_model.proofs.SumTerms.{terms-valid}
use Rattle.dg_tables.proofs.TypeRules.{with_some, all_valid, param_valid}
use Rattle.dg_tables.proofs.BlockTypes.{inputs_valid, types_valid, types_taken, type_valid, type_known}
use Rattle.std.proofs.lemmas.List.{length-map}

-- ---- what is known
known_some : {A : Type 0} (o : Option A) → IsSome o → (x : A) × (o ≡ Some x)
known_some None is = absurd (true≢false (sym is))
known_some (Some x) is = (x, refl)

all_logical : (inputs : Types) → All IsSome inputs → all_known inputs ≡ Some (map or_logical inputs)
all_logical [] all = refl
all_logical (None ∷ xs) all = absurd (true≢false (sym (all 0 None (omega arith))))
all_logical (Some x ∷ xs) all =
    ap (λ (o : Option (List FxType)). with_known o (λ tail. Some (x ∷ tail))) (all_logical xs (λ k d below. all (suc k) d (omega (arith, below))))

one_at : (inputs : Types) → AreOne inputs → (i : ℕ) → i < length inputs → known_at inputs i ≡ known_at inputs 0
one_at [] one i below = absurd (omega (arith, below))
one_at (t ∷ ts) one zero below = refl
one_at (t ∷ ts) one (suc i) below = one i None (omega (arith, below))

module _ (storing : StoringGivesOne) (sums : FullSumIsOne) (products : FullProductIsOne) (unions : UnionIsOne) (params : ParamTypeIsOne)
    (diagram : Diagram) (wired : IsWired diagram) (kept : KeepsTypes diagram) (block : ℕ) (b : Block) (block_is : slice_get diagram.blocks block ≡ Some b)
  where
    abbrev types : Types
    types = types_of diagram

    abbrev inputs : Types
    inputs = input_types diagram (types_of diagram) block

    abbrev into : ℕ → FxType
    into port = type_into diagram (attributes_of diagram) block port

    abbrev list : List FxType
    list = types_into diagram (attributes_of diagram) block b.inputs

    abbrev result : FxType
    result = or_logical (known_at (types_of diagram) block)

    readable : IsReadable b
    readable = held IsReadable diagram.blocks block b wired.blocks block_is

    known : All IsSome inputs
    known = (kept.known block b block_is).inputs

    inputs_length : length inputs ≡ b.inputs
    inputs_length = length-map (edges_into diagram block) (λ (edge : Edge). known_at (types_of diagram) edge.from) ∙ edges_length diagram wired block b block_is

    list_length : length list ≡ b.inputs
    list_length = length_mapped (type_into diagram (attributes_of diagram) block) 1 b.inputs

    list_known : all_known inputs ≡ Some list
    list_known =
        all_logical inputs known
        ∙ ap (λ (ts : List FxType). Some ts) (map_twice (λ (edge : Edge). known_at (types_of diagram) edge.from) or_logical (edges_into diagram block)
        ∙ sym (inputs_are_sources Logical (attributes_of diagram).type_at diagram block b wired block_is))

    -- the type into a port is known
    input_at : (i : ℕ) → i < b.inputs → known_at inputs i ≡ Some (into (suc i))
    input_at i below =
        let edge = edge_at diagram wired block b block_is i below in
        let there : known_at inputs i ≡ known_at (types_of diagram) edge.0.from =
        get_or_from_slice_get inputs i (known_at (types_of diagram) edge.0.from) None (there_map (λ (edge : Edge). known_at (types_of diagram) edge.from) (edges_into diagram block) i edge.0 edge.1) in
        let t = known_some (known_at inputs i) (known i None (subst (λ (n : ℕ). i < n) (sym inputs_length) below)) in
        let same : into (suc i) ≡ or_logical (known_at inputs i) = source_at diagram wired block b block_is Logical (attributes_of diagram).type_at i edge.0 edge.2 ∙ ap or_logical (sym there) in
        t.1 ∙ ap (λ (x : FxType). Some x) (sym (same ∙ ap or_logical t.1))

    list_at : (i : ℕ) → i < b.inputs → type_of list i ≡ into (suc i)
    list_at i below =
        let port : 1 + i ≡ suc i = omega arith in
        get_mapped (type_into diagram (attributes_of diagram) block) (Num false 0 (pos 0)) 1 b.inputs i below ∙ ap (type_into diagram (attributes_of diagram) block) port

    list_valid : All IsType list
    list_valid = all_valid inputs list (inputs_valid sums products unions params diagram wired (types_of diagram) block (types_valid sums products unions params diagram wired)) list_known

    into_valid : (i : ℕ) → i < b.inputs → IsType (into (suc i))
    into_valid i below = inputs_valid sums products unions params diagram wired (types_of diagram) block (types_valid sums products unions params diagram wired) i (into (suc i)) (input_at i below)

    -- the type that it takes is its own
    result_is : (kind : Kind) (spec : TypeSpec) → kind ≡ b.kind → spec ≡ b.result → (t : FxType) → taken_type kind spec inputs ≡ Some t → result ≡ t
    result_is kind spec same_kind same_spec t e =
        let taken : taken_type b.kind b.result inputs ≡ Some t = subst₂ (λ (kind : Kind) (spec : TypeSpec). taken_type kind spec inputs ≡ Some t) same_kind same_spec e in
        let u = type_known sums products unions params diagram wired block b t block_is taken in
        let own : taken_type b.kind b.result inputs ≡ Some u.0 = types_taken sums products unions params diagram wired block b u.0 block_is u.1 in
        ap or_logical u.1 ∙ same_Some u.0 t (sym own ∙ taken)

    -- a block of no type of its own, with none specified
    of_input : (kind : Kind) (spec : TypeSpec) → kind ≡ b.kind → spec ≡ b.result → spec ≡ Auto → taken_type kind Auto inputs ≡ known_at inputs 0 → 0 < b.inputs → into 1 ≡ result
    of_input kind spec same_kind same_spec auto first some =
        sym (result_is kind spec same_kind same_spec (into 1) (ap (λ (spec : TypeSpec). taken_type kind spec inputs) auto ∙ first ∙ input_at 0 some))

    -- a port, whose written type is that of its driver
    of_port : (kind : Kind) (spec : TypeSpec) → kind ≡ b.kind → spec ≡ b.result → MayBeFixed spec
        → IsDrivers spec inputs → taken_type kind Auto inputs ≡ known_at inputs 0 → 0 < b.inputs → into 1 ≡ result
    of_port kind (Fixed t) same_kind same_spec may drivers first some =
        let e : known_at inputs 0 ≡ Some t = drivers 0 None (subst (λ (n : ℕ). 0 < n) (sym inputs_length) some) in
        same_Some (into 1) t (sym (input_at 0 some) ∙ e) ∙ sym (result_is kind (Fixed t) same_kind same_spec t refl)
    of_port kind Internal same_kind same_spec may drivers first some = absurd may
    of_port kind SameFirst same_kind same_spec may drivers first some = absurd may
    of_port kind Auto same_kind same_spec may drivers first some = of_input kind Auto same_kind same_spec refl first some

    -- ---- blocks that keep the type of their inputs
    keeps : (kind : Kind) → kind ≡ b.kind → HasPorts kind b.inputs b.outputs → (row_of kind).types.may_be b.result
        → AgreesWith (row_of kind).place.role b.result inputs → AgreeInside (row_of kind).signal.shape inputs
        → KeepsType diagram (attributes_of diagram) block kind b.inputs b.outputs
    keeps (Delay delay initial reset) same ports may agrees inside = of_input (Delay delay initial reset) b.result same refl may refl (omega (arith, ports.0))
    keeps (RateTransition period initial) same ports may agrees inside = of_input (RateTransition period initial) b.result same refl may refl (omega (arith, ports.0))
    keeps (EnOut reset initial) same ports may agrees inside = of_port (EnOut reset initial) b.result same refl may agrees refl (omega (arith, ports.0))
    keeps (Demux sizes) same ports may agrees inside = λ port from to. of_input (Demux sizes) b.result same refl may refl (omega (arith, ports.0))
    keeps (Mux sizes) same ports may agrees inside = λ port from to.
        let below : port - 1 < b.inputs = omega (arith, from, to) in
        let here : suc (port - 1) ≡ port = omega (arith, from) in
        let first : 0 < b.inputs = omega (arith, from, to) in
        let one : known_at inputs (port - 1) ≡ known_at inputs 0 = one_at inputs inside (port - 1) (subst (λ (n : ℕ). port - 1 < n) (sym inputs_length) below) in
        ap into (sym here) ∙ same_Some (into (suc (port - 1))) (into 1) (sym (input_at (port - 1) below) ∙ one ∙ input_at 0 first)
        ∙ of_input (Mux sizes) b.result same refl may refl first
    keeps EnableTest same ports may agrees inside = result_is EnableTest b.result same refl Logical (ap (λ (spec : TypeSpec). taken_type EnableTest spec inputs) may)
    keeps _ same ports may agrees inside = tt

    pub type_kept : KeepsType diagram (attributes_of diagram) block b.kind b.inputs b.outputs
    type_kept =
        let agree = kept.agree block b block_is in
        keeps b.kind refl readable.ports readable.result agree.written agree.inside

    -- ---- operations
    abbrev Prepares : Kind → Op → Type 0
    Prepares kind op = CanPrepare (record { op = op; signs = signs_of kind; types = list; result = result; rounding = b.rounding; saturate = b.saturate })

    prepared : (kind : Kind) (op : Op) → HasArity op b.inputs → HasSigns op (signs_of kind) b.inputs
        → HasParameters op list → HasResultType op list result → HasFullType op (signs_of kind) list
        → Prepares kind op
    prepared kind op arity signs parameters result_type full = record {
      arity = subst (λ (n : ℕ). HasArity op n) (sym list_length) arity;
      signs = subst (λ (n : ℕ). HasSigns op (signs_of kind) n) (sym list_length) signs;
      types = list_valid;
      parameters = parameters;
      result = type_valid sums products unions params diagram wired block;
      result_type = result_type;
      full_type = full;
    }

    entry_range : (entries : List Decimal) (element : ℕ) (type : FxType) (v : ℤ) → IsType type → StoresEntry entries element type v → InRange type v
    entry_range entries element type v valid = go (entry_of entries element)
      where
        go : (o : Option Decimal) → MatchOption o ⊥ (λ decimal. Stores decimal type v) → InRange type v
        go None h = absurd h
        go (Some decimal) h = let one = storing decimal type valid in subst (InRange type) (sym (one.only v h)) one.in_range

    abbrev Named : FullRule → Type 0
    Named rule = IsSome (full_type rule inputs)

    -- each step of an accumulator has a full sum
    abbrev HaveSteps : FxType → Terms → Type 0
    HaveSteps accum terms = All (λ (term : Bool × FxType). (full : FxType) × IsFullSum ((false, accum) ∷ term ∷ []) full) terms

    steps_full : (accum : FxType) (terms : Terms) (named : FxType) → IsType accum → All (λ (term : Bool × FxType). IsType term.1) terms → stepped accum terms ≡ Some named → HaveSteps accum terms
    steps_full accum [] named a valid e = All-nil (λ (term : Bool × FxType). (full : FxType) × IsFullSum ((false, accum) ∷ term ∷ []) full)
    steps_full accum (term ∷ terms) named a valid e =
        let h = with_some (full_sum_of ((false, accum) ∷ term ∷ [])) (λ full. stepped accum terms) named e in
        let two : All (λ (term : Bool × FxType). IsType term.1) ((false, accum) ∷ term ∷ []) =
        All-cons (λ (term : Bool × FxType). IsType term.1) (false, accum) (term ∷ []) a
        (All-cons (λ (term : Bool × FxType). IsType term.1) term [] (valid 0 term (omega arith)) (All-nil (λ (term : Bool × FxType). IsType term.1))) in
        All-cons (λ (term : Bool × FxType). (full : FxType) × IsFullSum ((false, accum) ∷ term ∷ []) full) term terms (h.0, (sums ((false, accum) ∷ term ∷ []) h.0 two).1 h.1)
        (steps_full accum terms named a (λ k d below. valid (suc k) d (omega (arith, below))) h.2)

    first_full : (negative : List Bool) (types : List FxType) (named : FxType) → All IsType types → stepped_first (zip negative types) ≡ Some named → HaveSteps (type_of types 0) (zip negative types)
    first_full [] types named valid e = absurd (none-some named e)
    first_full (n ∷ signs) [] named valid e = absurd (none-some named e)
    first_full (n ∷ signs) (type ∷ types) named valid e =
        steps_full type (zip (n ∷ signs) (type ∷ types)) named (valid 0 type (omega arith)) (terms-valid (n ∷ signs) (type ∷ types) valid) e

    -- the type of the block's coefficients or accumulator
    abbrev param : FxType
    param = or_logical (param_type_at diagram (types_of diagram) block)

    spec_param : (negative : List Bool) (accum : TypeSpec) → Sum negative accum ≡ b.kind → param_type_at diagram (types_of diagram) block ≡ specified_type accum None (known_at inputs 0) None
    spec_param negative accum same =
        ap (λ (o : Option Block). with_known o (λ x. coefficient_type (row_of x.kind).types.full (known_at inputs 0))) block_is
        ∙ ap (λ (kind : Kind). coefficient_type (row_of kind).types.full (known_at inputs 0)) (sym same)

    full_sum : (negative : List Bool) (accum : TypeSpec) → Sum negative accum ≡ b.kind → IsSpec accum → 0 < b.inputs
        → Named (FullRule.FullSum negative accum) → HasFullType (OpSum (accumulator accum param)) negative list
    full_sum negative accum same spec some named =
        let full = known_some (full_type (FullRule.FullSum negative accum) inputs) named in
        let at : sum_named accum (zip negative list) ≡ Some full.0 = ap (λ (o : Option (List FxType)). with_known o (λ known. sum_named accum (zip negative known))) (sym list_known) ∙ full.1 in
        go accum spec full.0 at (ap or_logical (spec_param negative accum same))
      where
        go : (accum : TypeSpec) → IsSpec accum → (full : FxType) → sum_named accum (zip negative list) ≡ Some full
            → param ≡ or_logical (specified_type accum None (known_at inputs 0) None)
            → HasFullType (OpSum (accumulator accum param)) negative list
        go (Fixed type) spec full at is =
            subst (λ (accum : FxType). HaveSteps accum (zip negative list)) (sym is) (steps_full type (zip negative list) full spec (terms-valid negative list list_valid) at)
        go Internal spec full at is = (full, (sums (zip negative list) full (terms-valid negative list list_valid)).1 at)
        go SameFirst spec full at is =
            subst (λ (accum : FxType). HaveSteps accum (zip negative list)) (list_at 0 some ∙ sym (is ∙ ap or_logical (input_at 0 some))) (first_full negative list full list_valid at)
        go Auto spec full at is = absurd (none-some full at)

    two : (f : FxType → FxType → Option FxType) (j : ℕ) (t : FxType) → 0 < b.inputs → j < b.inputs → with_known (known_at inputs 0) (λ left. with_known (known_at inputs j) (f left)) ≡ Some t
        → f (type_of list 0) (type_of list j) ≡ Some t
    two f j t first below e =
        subst₂ (λ (x y : FxType). f x y ≡ Some t) (sym (list_at 0 first)) (sym (list_at j below))
        (subst₂ (λ (x y : Option FxType). with_known x (λ left. with_known y (f left)) ≡ Some t) (input_at 0 first) (input_at j below) e)

    full_product : Named FullRule.FullProduct → b.inputs ≡ 2 → HasFullType OpProduct [] list
    full_product named size =
        let full = known_some (full_type FullRule.FullProduct inputs) named in
        (full.0, (products (type_of list 0) (type_of list 1) full.0).1 (two full_product_of 1 full.0 (omega (arith, size)) (omega (arith, size)) full.1))

    of_list : (i : ℕ) → i < b.inputs → IsType (type_of list i)
    of_list i below = subst IsType (sym (list_at i below)) (into_valid i below)

    union : b.inputs ≡ 2 → Named FullRule.UnionOfTwo → (full : FxType) × IsUnion (type_of list 0) (type_of list 1) full
    union size named =
        let full = known_some (full_type FullRule.UnionOfTwo inputs) named in (
          full.0,
          (unions (type_of list 0) (type_of list 1) full.0 (of_list 0 (omega (arith, size)))
              (of_list 1 (omega (arith, size)))).1
              (two union_of 1 full.0 (omega (arith, size)) (omega (arith, size)) full.1),
        )

    -- the type of a Gain's coefficients
    pub param_is : (kind : Kind) → kind ≡ b.kind → param_type_at diagram (types_of diagram) block ≡ coefficient_type (row_of kind).types.full (known_at inputs 0)
    param_is kind same =
        ap (λ (o : Option Block). with_known o (λ x. coefficient_type (row_of x.kind).types.full (known_at inputs 0))) block_is
        ∙ ap (λ (kind : Kind). coefficient_type (row_of kind).types.full (known_at inputs 0)) (sym same)

    full_gain : (value : List Decimal) (spec : TypeSpec) (coefficient : ℤ) → Gain value spec ≡ b.kind → b.inputs ≡ 1 → Named (FullRule.FullScaled value spec)
        → HasFullType (OpGain coefficient (or_logical (param_type_at diagram (types_of diagram) block))) [] list
    full_gain value spec coefficient same size named =
        let some : 0 < b.inputs = omega (arith, size) in
        let full = known_some (full_type (FullRule.FullScaled value spec) inputs) named in
        let at : with_known (param_type_of value spec (into 1)) (full_product_of (into 1)) ≡ Some full.0 =
        ap (λ (o : Option FxType). with_known o (λ input. with_known (param_type_of value spec input) (full_product_of input))) (sym (input_at 0 some)) ∙ full.1 in
        let p = with_some (param_type_of value spec (into 1)) (full_product_of (into 1)) full.0 at in
        let param : or_logical (param_type_at diagram (types_of diagram) block) ≡ p.0 =
        ap or_logical (param_is (Gain value spec) same ∙ ap (λ (o : Option FxType). with_known o (param_type_of value spec)) (input_at 0 some) ∙ p.1) in (
          full.0,
          (products (type_of list 0) (or_logical (param_type_at diagram (types_of diagram) block)) full.0).1
              (subst₂ (λ (x y : FxType). full_product_of x y ≡ Some full.0) (sym (list_at 0 some)) (sym param) p.2),
        )

    logic_arity : (gate : Gate) (n : ℕ) → HasOperands gate n → HasArity (OpLogic gate) n
    logic_arity Not n h = h
    logic_arity _ n h = h

    -- the rule of types names what the equation names
    not_wide : (kind : Kind) → kind ≡ b.kind → names_full_type kind b.result ≡ true → Named (row_of kind).types.full
    not_wide kind same named =
        subst (λ (kind : Kind). Named (row_of kind).types.full) (sym same)
        (kept.narrow block b block_is (subst (λ (kind : Kind). names_full_type kind b.result ≡ true) same named) known)

    pub param_type_valid : IsType (or_logical (param_type_at diagram (types_of diagram) block))
    param_type_valid = go b.kind refl readable.ports readable.parameters
      where
        logical : (kind : Kind) → kind ≡ b.kind → coefficient_type (row_of kind).types.full (known_at inputs 0) ≡ None → IsType (or_logical (param_type_at diagram (types_of diagram) block))
        logical kind same e = subst (λ (o : Option FxType). IsType (or_logical o)) (sym (param_is kind same ∙ e)) tt

        given : (o : Option FxType) → param_type_at diagram (types_of diagram) block ≡ o → ((p : FxType) → o ≡ Some p → IsType p) → IsType (or_logical (param_type_at diagram (types_of diagram) block))
        given None e h = subst (λ (o : Option FxType). IsType (or_logical o)) (sym e) tt
        given (Some p) e h = subst (λ (o : Option FxType). IsType (or_logical o)) (sym e) (h p refl)

        go : (kind : Kind) → kind ≡ b.kind → HasPorts kind b.inputs b.outputs → (row_of kind).parameters → IsType (or_logical (param_type_at diagram (types_of diagram) block))
        go (Gain value spec) same ports parameters =
            let some : 0 < b.inputs = omega (arith, ports.0) in
            let is : param_type_at diagram (types_of diagram) block ≡ param_type_of value spec (into 1) =
            param_is (Gain value spec) same ∙ ap (λ (o : Option FxType). with_known o (param_type_of value spec)) (input_at 0 some) in
            given (param_type_of value spec (into 1)) is (λ p e. param_valid sums products unions params value spec (into 1) p parameters.2 (into_valid 0 some) e)
        go (Sum negative accum) same ports parameters = given (specified_type accum None (known_at inputs 0) None) (spec_param negative accum same) (spec_valid accum parameters.2)
          where
            spec_valid : (accum : TypeSpec) → IsSpec accum → (p : FxType) → specified_type accum None (known_at inputs 0) None ≡ Some p → IsType p
            spec_valid (Fixed type) is p e = subst IsType (same_Some type p e) is
            spec_valid Internal is p e = absurd (none-some p e)
            spec_valid SameFirst is p e = inputs_valid sums products unions params diagram wired (types_of diagram) block (types_valid sums products unions params diagram wired) 0 p e
            spec_valid Auto is p e = absurd (none-some p e)
        go Product same ports parameters = logical Product same refl
        go (Switch criterion threshold) same ports parameters = logical (Switch criterion threshold) same refl
        go (Relational operator) same ports parameters = logical (Relational operator) same refl
        go kind same ports parameters = logical kind same refl

    prepares : (kind : Kind) → kind ≡ b.kind → HasPorts kind b.inputs b.outputs → (row_of kind).parameters → (row_of kind).types.may_be b.result → AgreesWith (row_of kind).place.role b.result inputs
        → (element : ℕ) (op : Op) → IsOpOf kind element (or_logical (param_type_at diagram (types_of diagram) block)) (into 2) op → Prepares kind op
    prepares (Outport number) same ports parameters may agrees element op is =
        subst (Prepares (Outport number)) (sym is) (prepared (Outport number) OpPass ports.0 tt tt
        (sym (of_port (Outport number) b.result same refl may agrees refl (omega (arith, ports.0))) ∙ sym (list_at 0 (omega (arith, ports.0)))) tt)
    prepares (Pass width) same ports parameters may agrees element op is =
        subst (Prepares (Pass width)) (sym is) (prepared (Pass width) OpPass ports.0 tt tt
        (sym (of_port (Pass width) b.result same refl may agrees refl (omega (arith, ports.0))) ∙ sym (list_at 0 (omega (arith, ports.0)))) tt)
    prepares (Sum negative accum) same ports parameters may agrees element op is =
        subst (Prepares (Sum negative accum)) (sym is)
        (prepared (Sum negative accum) (OpSum (accumulator accum param))
        (omega (arith, ports.0, parameters.0.0), omega (arith, ports.0, parameters.0.1)) (sym ports.0)
        (accum_valid accum) tt
        (full_sum negative accum same parameters.2 (omega (arith, ports.0, parameters.0.0)) (not_wide (Sum negative accum) same refl)))
      where
        accum_valid : (spec : TypeSpec) → IsAccumulator (accumulator spec param)
        accum_valid (Fixed type) = param_type_valid
        accum_valid Internal = tt
        accum_valid SameFirst = param_type_valid
        accum_valid Auto = tt
    prepares (Gain value spec) same ports parameters may agrees element op is =
        subst (Prepares (Gain value spec)) (sym is.2) (prepared (Gain value spec) (OpGain is.0 (or_logical (param_type_at diagram (types_of diagram) block))) ports.0 tt
        (param_type_valid, entry_range value element (or_logical (param_type_at diagram (types_of diagram) block)) is.0 param_type_valid is.1) tt
        (full_gain value spec is.0 same ports.0 (not_wide (Gain value spec) same refl)))
    prepares Product same ports parameters may agrees element op is =
        subst (Prepares Product) (sym is) (prepared Product OpProduct ports.0 tt tt tt (full_product (not_wide Product same refl) ports.0))
    prepares (Switch criterion threshold) same ports parameters may agrees element op is =
        subst (Prepares (Switch criterion threshold)) (sym is.2) (prepared (Switch criterion threshold) (OpSwitch criterion is.0) ports.0 tt
        (subst (λ (type : FxType). InRange type is.0) (sym (list_at 1 (omega (arith, ports.0)))) (entry_range threshold element (into 2) is.0 (into_valid 1 (omega (arith, ports.0))) is.1)) tt tt)
    prepares (Relational operator) same ports parameters may agrees element op is =
        subst (Prepares (Relational operator)) (sym is) (prepared (Relational operator) (OpRelational operator) ports.0 tt tt
        (result_is (Relational operator) b.result same refl Logical (ap (λ (spec : TypeSpec). taken_type (Relational operator) spec inputs) may))
        (union ports.0 (not_wide (Relational operator) same refl)))
    prepares (Logic operator) same ports parameters may agrees element op is =
        subst (Prepares (Logic operator)) (sym is) (prepared (Logic operator) (OpLogic operator) (logic_arity operator b.inputs ports.0) tt tt
        (result_is (Logic operator) b.result same refl Logical (ap (λ (spec : TypeSpec). taken_type (Logic operator) spec inputs) may)) tt)
    prepares (Convert stored) same ports parameters may agrees element op is =
        subst (Prepares (Convert stored)) (sym is) (prepared (Convert stored) (OpConvert stored) ports.0 tt tt tt tt)
    prepares _ same ports parameters may agrees element op is = absurd is

    pub operation_prepares : (element : ℕ) (op : Op)
        → IsOpOf b.kind element ((attributes_of diagram).param_at block)
        (type_into diagram (attributes_of diagram) block 2) op
        → CanPrepare (operation_at diagram (attributes_of diagram) block b op)
    operation_prepares element op is = prepares b.kind refl readable.ports readable.parameters readable.result (kept.agree block b block_is).written element op is
