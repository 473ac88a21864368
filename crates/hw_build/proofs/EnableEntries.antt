-- Elements of output ports of enabled subsystems, and of their controls.
use Rattle.std.proofs.Common.{◌≡◌, ℕ, suc, ◌+◌, ◌<◌, ◌≤◌, inl, inr, Bool, true, false, if◌then◌else◌, ℤ, pos, Option, None, Some, List, [], ◌∷◌, length, map, Contains, ap, sym, ◌∙◌, subst, refl}
use Rattle.std.proofs.Common.{arith}
use Rattle.std.specs.Prelude.{slice_index_or, int_lt, ◌||◌}
use Rattle.std.specs.List.{list_any}
use Rattle.std.proofs.lemmas.Bool.{false≢true}
use Rattle.std.proofs.lemmas.List.Elements.{Contains-get_or, Contains-push_cases}
use Rattle.std.proofs.lemmas.Option.{slice_get_within}
use Rattle.fx_type.specs.declared.decimal.Decimal.{Decimal}
use Rattle.fx_type.specs.declared.kind.FxType.{FxType}
use Rattle.fx_type.specs.declared.kind.FxType.TheVariants.{Logical}
use Rattle.fx_type.specs.FxType.{IsType, InRange, is_signed, width_of}
use Rattle.math_list.specs.Numbers.{numbers_from}
use Rattle.dg_model.specs.declared.diagram.Diagram.{Diagram}
use Rattle.dg_model.specs.declared.diagram.Block.{Block}
use Rattle.dg_model.specs.declared.kind.Kind.{Kind}
use Rattle.dg_model.specs.declared.kind.Kind.TheVariants.{EnableTest, EnOut}
use Rattle.dg_model.specs.Attributes.{attributes_of}
use Rattle.dg_model.specs.Equation.{StoresEntry}
use Rattle.dg_model.specs.LatencyEdges.{asks_ever}
use Rattle.dg_model.specs.Library.{row_of}
use Rattle.dg_model.specs.Operation.{stored_truth}
use Rattle.dg_model.specs.Wires.{period_into, width_into}
use Rattle.hw_net.specs.declared.netlist.Frame.{Frame}
use Rattle.hw_net.specs.declared.netlist.Net.{Net}
use Rattle.hw_net.specs.declared.netlist.NetKind.{NetKind}
use Rattle.hw_net.specs.declared.netlist.NetKind.TheVariants.{Comb, Reg, EnReg, Acc, Bridge, Unit, Counter}
use Rattle.hw_net.specs.declared.netlist.NetOp.TheVariants.{Const, Choose}
use Rattle.hw_net.specs.Circuit.{Circuit}
use Rattle.hw_net.specs.Growing.{with_net}
use Rattle.hw_net.specs.Netlist.{HasWord}
use Rattle.hw_net.proofs.Growth.{longer, word-stays, one-longer}
use Rattle.hw_lower.specs.Lowered.{AreArgs}
use Rattle.hw_sched.specs.Storage.{keeps_own, kept_by_role}
use Rattle.hw_shows.specs.Timing.{Timing}
use Rattle.hw_shows.specs.Series.{AreSame, steady, span_at, IsEnabledSeries, IsChosen}
use Rattle.hw_build.specs.Places.{Places}
use Rattle.hw_build.specs.declared.entry.Entry.{Entry}
use Rattle.hw_build.specs.declared.parts.Word.{Word}
use Rattle.hw_build.specs.inner.Controls.{IsGate, PutsControl, any_above}
use Rattle.hw_build.specs.inner.Entries.{AreOffered, HasFirst, IsFrameOf, PutsEntry, enable_types, enables_of, kept_each}
use Rattle.hw_share.specs.inner.Parts.{Grows, IsNamed}
use Rattle.hw_build.specs.inner.Growth.{InLater}
use Rattle.hw_build.specs.inner.Series.{taken_by, IsOfFrame, AreSeries}
use Rattle.hw_build.proofs.MoreParts.{comb_grows, grows_then, put_word}
use Rattle.hw_build.proofs.ElementEntries.{IsQuiet, grows_naming, quiet_entry, const_grows, const_shows, const_word}
use Rattle.hw_build.proofs.StateEntries.{quiet_frame, state_is, enabled_shows, first_operand, second_operand, two_named}
use Rattle.hw_build.proofs.Growth.{goes_appended, later_on}
use Rattle.hw_build.proofs.ElementKinds.{IsMadeLater, made_kind, out_held, out_reset}
use Rattle.hw_build.proofs.Nets.{chosen}
use Rattle.fx_type.proofs.Ranges.{type-word}
use Rattle.hw_share.proofs.Growth.{grows-wider}
use Rattle.hw_share.proofs.OneNet.{put-extends, put-there}

-- ---- a control

any_map : (f : ℕ → Bool) (g : ℕ → ℕ) (xs : List ℕ) → list_any f (map g xs) ≡ list_any (λ x. f (g x)) xs
any_map f g [] = refl
any_map f g (x ∷ xs) = ap (λ (b : Bool). f (g x) || b) (any_map f g xs)

quiet_gate : (diagram : Diagram) (timing : Timing) (block : ℕ) (kind : NetKind) → IsGate kind → IsQuiet diagram timing block kind
quiet_gate diagram timing block (Comb op args) is = (tt, is)
quiet_gate diagram timing block (Reg frame slot first from) is = absurd is
quiet_gate diagram timing block (EnReg frame enable reset first from) is = absurd is
quiet_gate diagram timing block (Acc frame enable from) is = absurd is
quiet_gate diagram timing block (Bridge frame live from) is = absurd is
quiet_gate diagram timing block (Unit left right) is = absurd is
quiet_gate diagram timing block (Counter frame) is = absurd is

pub tested_entry : (diagram : Diagram) (timing : Timing) (before after : Circuit) (block : ℕ) (b : Block)
    (port element : ℕ) (operands : List ℕ) (entry : Entry) (type : FxType) → b.kind ≡ EnableTest
    → ((port : ℕ) → type ≡ (attributes_of diagram).type_at block port)
    → (attributes_of diagram).type_at block 1 ≡ Logical
    → PutsControl before after operands entry.net → entry.multiply ≡ None → PutsEntry diagram timing before after block b port element operands entry
tested_entry diagram timing before after block b port element operands entry type is types logical puts none =
    quiet_entry diagram timing before after block b port element operands entry EnableTest 0 is
    (grows-wider before after operands IsGate (IsQuiet diagram timing block) 0
    (quiet_gate diagram timing block) puts.grows) (omega arith) none refl
    (subst (λ (t : FxType). HasWord after.nets entry.net (width_of t) (is_signed t)) (sym logical ∙ sym (types 1) ∙ types port) puts.word) (inr puts.new) (λ e. absurd (false≢true e))
    (λ closed hubs places small cycles offered at first slot.
    let given : operands ≡ map (places.offered block 1)
    (numbers_from 0 (width_into diagram (attributes_of diagram) block 1)) =
    subst (λ (k : Kind). AreOffered diagram places block b port element k operands) is offered in
    let tells = puts.tells closed hubs small in
    made_kind diagram timing places closed hubs after block b port element EnableTest is (record {
      holds = λ later goes n inputs rows are. record {
        at = λ c below.
            ap (λ (k : ℕ). rows k c) at.net ∙ (tells.holds later goes n inputs rows are).at c below
            ∙ ap (λ (list : List ℕ). stored_truth (any_above list rows c)) given
            ∙ ap stored_truth (any_map (λ k. int_lt (pos 0) (rows k c)) (places.offered block 1) (numbers_from 0 (width_into diagram (attributes_of diagram) block 1)));
      };
    }))

-- ---- an output port

three_are : (a b c read : ℕ) (P : ℕ → Type 0) → P a → P b → P c → Contains (a ∷ b ∷ c ∷ []) read → P read
three_are a b c read P p q r is = elim (Contains-push_cases (a ∷ b ∷ []) c read is) [
  | inl some ↦ elim (Contains-push_cases (a ∷ []) b read some) [
    | inl first ↦ elim (Contains-push_cases [] a read first) [
      | inl none ↦ absurd (omega (arith, none.1))
      | inr same ↦ subst P same p
    ]
    | inr same ↦ subst P same q
  ]
  | inr same ↦ subst P same r
]

module _ (diagram : Diagram) (timing : Timing) (before middle after : Circuit) (block : ℕ) (b : Block)
    (port element : ℕ) (operands : List ℕ) (entry : Entry) (control : ℕ) (list : List Decimal) (reset : Bool)
    (value : ℤ) (type : FxType) (other : ℕ)
    (is : b.kind ≡ EnOut reset list) (inside : b.enable ≡ Some control) (types : (port : ℕ) → type ≡ (attributes_of diagram).type_at block port) (is_type : IsType type)
    (one : (v : ℤ) → StoresEntry list element type v → v ≡ value) (args : AreArgs before ((attributes_of diagram).type_at block port ∷ enable_types (attributes_of diagram) b.enable) operands)
    (grown : after ≡ with_net middle (record {
      signed = is_signed type;
      width = width_of type;
      kind =
          Comb Choose (slice_index_or operands 1 0 ∷ slice_index_or operands 0 0 ∷ other ∷ []);
    }))
    (net : entry.net ≡ length middle.nets) (none : entry.multiply ≡ None)
  where
    abbrev From : ℕ
    From = slice_index_or operands 0 0

    abbrev Enable : ℕ
    Enable = slice_index_or operands 1 0

    abbrev Choice : Net
    Choice = record { signed = is_signed type; width = width_of type; kind = Comb Choose (Enable ∷ From ∷ other ∷ []) }

    asks : asks_ever (row_of b.kind).timing.asks ≡ true
    asks = ap (λ (k : Kind). asks_ever (row_of k).timing.asks) is

    out_kept : (keep : Bool) → ((if keep then 0 else 0) + 1) ≡ 1
    out_kept true = refl
    out_kept false = refl

    kept_is : kept_each diagram block b ≡ 1
    kept_is = ap (λ (k : Kind). (if keeps_own b.enable (period_into diagram (attributes_of diagram) block 1) then
        (row_of k).timing.delay else 0) + kept_by_role (row_of k).place.role) is
        ∙ out_kept (keeps_own b.enable (period_into diagram (attributes_of diagram) block 1))

    stored_first : (places : Places) → HasFirst diagram block element b.kind (places.first block element)
        → StoresEntry list element ((attributes_of diagram).type_at block 1) (places.first block element)
    stored_first places first = subst (λ (k : Kind). HasFirst diagram block element k (places.first block element)) is first

    first_is : (places : Places) → HasFirst diagram block element b.kind (places.first block element) → places.first block element ≡ value
    first_is places first = one (places.first block element) (subst (λ (t : FxType). StoresEntry list element t (places.first block element)) (sym (types 1)) (stored_first places first))

    from_word : HasWord before.nets From (width_of type) (is_signed type)
    from_word = subst (λ (t : FxType). HasWord before.nets From (width_of t) (is_signed t)) (sym (types port))
        (first_operand before ((attributes_of diagram).type_at block port)
        (enable_types (attributes_of diagram) b.enable) operands args)

    second : (1 < length operands) × (Enable < length before.nets)
    second = second_operand diagram before ((attributes_of diagram).type_at block port) operands b.enable (rw inside refl) args

    module _ (first_part : Grows before middle operands (IsQuiet diagram timing block) (if reset then 0 else 1))
        (other_new : length before.nets ≤ other)
        (other_word : HasWord middle.nets other (width_of type) (is_signed type)) where
      out_entry : ((closed hubs : ℕ) (places : Places) → hubs ≤ length before.nets → before.cycles ≡ timing.cycles
          → From ≡ places.offered block 1 element → Enable ≡ places.enable block
          → places.entry block port element ≡ length middle.nets
          → places.state block element 0 ≡ places.offered block 1 element
          → ((k : ℕ) → places.state block element (suc k) ≡ entry.state + k)
          → HasFirst diagram block element b.kind (places.first block element)
          → InLater closed hubs after (λ n rows. IsChosen n (rows (places.enable block)) (rows (places.offered block 1 element)) (rows other) (rows (places.entry block port element)))
          → IsMadeLater diagram timing places closed hubs after block b port element (EnOut reset list))
          → PutsEntry diagram timing before after block b port element operands entry
      out_entry makes =
          let old = longer before middle first_part.appends.extends in
          let more = second.1 in
          let from_there = slice_get_within before.nets From from_word.net from_word.is in
          let other_there = slice_get_within middle.nets other other_word.net other_word.is in
          let size = one-longer middle after Choice grown in
          let much = kept_is in
          let choice : Grows middle after (Enable ∷ From ∷ other ∷ []) (IsQuiet diagram timing block) 0 =
          comb_grows middle after Choose (Enable ∷ From ∷ other ∷ []) (is_signed type) (width_of type) (IsQuiet diagram timing block) grown (type-word type is_type) (refl, tt)
          (λ read names. three_are Enable From other read (λ (x : ℕ). x < length middle.nets) (omega (arith, more, old)) (omega (arith, from_there, old)) other_there names) (tt, λ e. cc) in
          quiet_entry diagram timing before after block b port element operands entry (EnOut reset list) ((if reset then 0 else 1) + 0) is
          (grows_then before middle after operands (Enable ∷ From ∷ other ∷ []) (IsQuiet diagram timing block) (IsQuiet diagram timing block) (if reset then 0 else 1) 0
          (λ read names. three_are Enable From other read (IsNamed before middle operands)
          (inl (Contains-get_or operands 1 0 second.0))
          (inl (Contains-get_or operands 0 0 (first_there second.0))) (inr (other_new, other_there)) names)
          (λ kind quiet. quiet) first_part choice)
          (at_most reset much) none refl
          (subst (λ (n : ℕ). HasWord after.nets n (width_of ((attributes_of diagram).type_at block port)) (is_signed ((attributes_of diagram).type_at block port))) (sym net)
          (subst (λ (t : FxType). HasWord after.nets (length middle.nets) (width_of t) (is_signed t)) (types port) (put_word middle after Choice grown)))
          (inr (omega (arith, net, old))) (λ keep. absurd (false≢true keep))
          (λ closed hubs places small cycles offered at first slot.
          let given : operands ≡ places.offered block 1 element ∷ enables_of places block b.enable = subst (λ (k : Kind). AreOffered diagram places block b port element k operands) is offered in
          let offer : From ≡ places.offered block 1 element = ap (λ (l : List ℕ). slice_index_or l 0 0) given in
          let enables : Enable ≡ places.enable block =
          ap (λ (l : List ℕ). slice_index_or l 1 0) given
          ∙ ap (λ (e : Option ℕ). slice_index_or
          (places.offered block 1 element ∷ enables_of places block e) 1 0) inside in
          let named : places.entry block port element ≡ length middle.nets = at.net ∙ net in
          let shows = chosen closed hubs after (length middle.nets) Enable From other (width_of type)
          (is_signed type) Choice (record {
            at = put-there middle after Choice grown;
            settled =
                inr (omega (arith, small, old));
          }) refl refl refl (type-word type is_type)
          (word-stays middle after From (width_of type) (is_signed type) (put-extends middle after Choice grown)
          (word-stays before middle From (width_of type) (is_signed type) first_part.appends.extends from_word))
          (word-stays middle after other (width_of type) (is_signed type) (put-extends middle after Choice grown) other_word) in
          made_kind diagram timing places closed hubs after block b port element (EnOut reset list) is
          (makes closed hubs places small cycles offer enables named (at.begins asks) (at.state asks) first
          (subst (λ (x : ℕ). InLater closed hubs after (λ n rows. IsChosen n (rows x) (rows (places.offered block 1 element)) (rows other) (rows (places.entry block port element)))) enables
          (subst (λ (x : ℕ). InLater closed hubs after (λ n rows. IsChosen n (rows Enable) (rows x) (rows other) (rows (places.entry block port element)))) offer
          (subst (λ (x : ℕ). InLater closed hubs after (λ n rows. IsChosen n (rows Enable) (rows From) (rows other) (rows x))) (sym named) shows)))))
        where
          at_most : (r : Bool) → kept_each diagram block b ≡ 1 → (if r then 0 else 1) + 0 ≤ kept_each diagram block b
          at_most true e = omega arith
          at_most false e = omega (arith, e)

          first_there : 1 < length operands → 0 < length operands
          first_there h = omega (arith, h)

-- with its output held
pub held_entry : (diagram : Diagram) (timing : Timing) (before middle after : Circuit) (block : ℕ) (b : Block)
    (port element : ℕ) (operands : List ℕ) (entry : Entry) (control : ℕ) (list : List Decimal) (value : ℤ)
    (type : FxType) (frame : Frame) (word : Word) (last : ℕ)
    → b.kind ≡ EnOut false list → b.enable ≡ Some control → ((port : ℕ) → type ≡ (attributes_of diagram).type_at block port) → IsType type → ((v : ℤ) → StoresEntry list element type v → v ≡ value)
    → AreArgs before ((attributes_of diagram).type_at block port ∷ enable_types (attributes_of diagram) b.enable)
    operands → word ≡ record { signed = is_signed type; width = width_of type }
    → IsFrameOf diagram timing block frame
    → AreSeries (λ x. EnReg frame (slice_index_or operands 1 0) false value x) before middle
    (slice_index_or operands 1 0 ∷ slice_index_or operands 0 0 ∷ []) frame word
    (slice_index_or operands 0 0) entry.state 1
    → last ≡ taken_by (slice_index_or operands 0 0) entry.state 1
    → after ≡ with_net middle (record {
      signed = is_signed type;
      width = width_of type;
      kind =
          Comb Choose (slice_index_or operands 1 0 ∷ slice_index_or operands 0 0 ∷ last ∷ []);
    })
    → entry.net ≡ length middle.nets → entry.multiply ≡ None
    → PutsEntry diagram timing before after block b port element operands entry
held_entry diagram timing before middle after block b port element operands entry control list value type frame word last is inside types is_type one args word_is own are last_is grown net none =
    out_entry diagram timing before middle after block b port element operands entry control list false value type last is inside types is_type one args grown net none
    (grows_naming before middle (slice_index_or operands 1 0 ∷ slice_index_or operands 0 0 ∷ []) operands (IsQuiet diagram timing block) 1 (two_named operands two.0)
    (grows-wider before middle (slice_index_or operands 1 0 ∷ slice_index_or operands 0 0 ∷ []) (IsOfFrame frame)
    (IsQuiet diagram timing block) 1 (quiet_frame diagram timing block frame own) are.grows))
    (omega (arith, begin_new, last_begin))
    (subst (λ (x : ℕ). HasWord middle.nets x (width_of type) (is_signed type)) (sym last_is)
    (subst (λ (w : Word). HasWord middle.nets
    (taken_by (slice_index_or operands 0 0) entry.state 1) w.width w.signed) word_is are.last))
    (λ closed hubs places small cycles offer enables named begins states first choice.
    let numbers = state_is (places.state block element) (slice_index_or operands 0 0) entry.state (begins ∙ sym offer) states in
    let value_is = first_of places first in
    out_held diagram timing places closed hubs after block b port element list (subst (λ (k : Kind). HasFirst diagram block element k (places.first block element)) is first)
    (subst (λ (x : ℕ). InLater closed hubs after
    (λ n rows. IsChosen n (rows (places.enable block)) (rows (places.offered block 1 element)) (rows x)
    (rows (places.entry block port element)))) (last_is ∙ sym (numbers 1)) choice)
    (λ period is_period.
    let shows = enabled_shows diagram timing before middle block frame word
    (slice_index_or operands 1 0 ∷ slice_index_or operands 0 0 ∷ [])
    (slice_index_or operands 0 0) entry.state 1 own closed hubs small cycles
    (places.state block element) numbers period is_period
    (slice_index_or operands 1 0) false value are in
    later_on closed closed hubs middle after
    (λ n rows. IsEnabledSeries n (span_at timing period block) 1 false (places.first block element)
    (rows (places.enable block)) (rows (places.offered block 1 element))
    (λ k. rows (places.state block element k))) (omega arith)
    (goes_appended closed hubs middle after
    (put-extends middle after (record {
      signed = is_signed type;
      width = width_of type;
      kind =
          Comb Choose (slice_index_or operands 1 0 ∷ slice_index_or operands 0 0 ∷ last ∷ []);
    }) grown))
    (subst (λ (v : ℤ). InLater closed hubs middle
    (λ n rows. IsEnabledSeries n (span_at timing period block) 1 false v (rows (places.enable block))
    (rows (places.offered block 1 element)) (λ k. rows (places.state block element k)))) (sym value_is)
    (subst (λ (e : ℕ). InLater closed hubs middle
    (λ n rows. IsEnabledSeries n (span_at timing period block) 1 false value (rows e)
    (rows (places.offered block 1 element)) (λ k. rows (places.state block element k)))) enables
    (subst (λ (f : ℕ). InLater closed hubs middle
    (λ n rows. IsEnabledSeries n (span_at timing period block) 1 false value
    (rows (slice_index_or operands 1 0)) (rows f) (λ k. rows (places.state block element k)))) offer
    shows)))))
  where
    two : (1 < length operands) × (slice_index_or operands 1 0 < length before.nets)
    two = second_operand diagram before ((attributes_of diagram).type_at block port) operands b.enable (rw inside refl) args

    begin_new : length before.nets ≤ entry.state
    begin_new = are.new

    last_begin : last ≡ entry.state + 0
    last_begin = last_is

    first_of : (places : Places) → HasFirst diagram block element b.kind (places.first block element) → places.first block element ≡ value
    first_of places first = one (places.first block element)
        (subst (λ (t : FxType). StoresEntry list element t (places.first block element)) (sym (types 1))
        (subst (λ (k : Kind). HasFirst diagram block element k (places.first block element)) is first))

-- with its output reset
pub reset_entry : (diagram : Diagram) (timing : Timing) (before middle after : Circuit) (block : ℕ) (b : Block)
    (port element : ℕ) (operands : List ℕ) (entry : Entry) (control : ℕ) (list : List Decimal) (value : ℤ)
    (type : FxType) (constant : ℕ)
    → b.kind ≡ EnOut true list → b.enable ≡ Some control
    → ((port : ℕ) → type ≡ (attributes_of diagram).type_at block port) → IsType type → InRange type value
    → ((v : ℤ) → StoresEntry list element type v → v ≡ value)
    → AreArgs before ((attributes_of diagram).type_at block port ∷ enable_types (attributes_of diagram) b.enable)
    operands → middle ≡ with_net before (record {
      signed = is_signed type;
      width = width_of type;
      kind =
          Comb (Const value) [];
    }) → constant ≡ length before.nets
    → after ≡ with_net middle (record {
      signed = is_signed type;
      width = width_of type;
      kind =
          Comb Choose (slice_index_or operands 1 0 ∷ slice_index_or operands 0 0 ∷ constant ∷ []);
    })
    → entry.net ≡ length middle.nets → entry.multiply ≡ None
    → PutsEntry diagram timing before after block b port element operands entry
reset_entry diagram timing before middle after block b port element operands entry control list value type constant is inside types is_type range one args made number grown net none =
    out_entry diagram timing before middle after block b port element operands entry control list true value type
    constant is inside types is_type one args grown net none
    (const_grows before middle type value is_type range made diagram timing block operands)
    (omega (arith, number)) (const_word before middle type value is_type range made constant number)
    (λ closed hubs places small cycles offer enables named begins states first choice.
    let value_is = first_of places first in
    out_reset diagram timing places closed hubs after block b port element list constant (subst (λ (k : Kind). HasFirst diagram block element k (places.first block element)) is first)
    (subst (λ (v : ℤ). InLater closed hubs after (λ n rows. AreSame n (rows constant) (steady v))) (sym value_is)
    (later_on closed closed hubs middle after (λ n rows. AreSame n (rows constant) (steady value)) (omega arith)
    (goes_appended closed hubs middle after
    (put-extends middle after (record {
      signed = is_signed type;
      width = width_of type;
      kind =
          Comb Choose (slice_index_or operands 1 0 ∷ slice_index_or operands 0 0 ∷ constant ∷ []);
    }) grown))
    (const_shows before middle type value is_type range made closed hubs constant number small))) choice)
  where
    first_of : (places : Places) → HasFirst diagram block element b.kind (places.first block element) → places.first block element ≡ value
    first_of places first = one (places.first block element)
        (subst (λ (t : FxType). StoresEntry list element t (places.first block element)) (sym (types 1))
        (subst (λ (k : Kind). HasFirst diagram block element k (places.first block element)) is first))
