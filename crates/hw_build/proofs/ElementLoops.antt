-- An element that was put in by its own nets goes into the loops over blocks.
use Rattle.std.proofs.Common.{◌≡◌, ℕ, zero, suc, ◌+◌, ◌-◌, ◌<◌, ◌≤◌, ◌⊎◌, ◌++◌, inl, inr, Bool, true, false, List, [], ◌∷◌, length, Contains, Option, Some, None, ap, sym, ◌∙◌, subst, refl}
use Rattle.std.proofs.Common.{length-append, arith}
use Rattle.std.specs.Prelude.{slice_get, ◌≢◌, ◌&&◌, not, if◌then◌else◌}
use Rattle.std.specs.List.{flat_map}
use Rattle.std.proofs.lemmas.Bool.{cases_Bool}
use Rattle.std.proofs.lemmas.Grind.{flat_map-append}
use Rattle.std.proofs.lemmas.Option.{none-some, same_Some, slice_get_within}
use Rattle.dg_model.specs.declared.diagram.Diagram.{Diagram}
use Rattle.dg_model.specs.declared.diagram.Block.{Block}
use Rattle.dg_model.specs.declared.kind.Kind.{Kind}
use Rattle.dg_model.specs.Attributes.{attributes_of}
use Rattle.dg_model.specs.Library.{row_of}
use Rattle.dg_model.specs.RootElements.{root_inputs}
use Rattle.hw_latency.specs.Shared.{multiplies, multiplies_if, is_shared}
use Rattle.hw_net.specs.declared.netlist.Net.{Net}
use Rattle.hw_net.specs.declared.netlist.NetKind.{NetKind}
use Rattle.hw_net.specs.declared.netlist.NetKind.TheVariants.{Comb, Reg, EnReg, Acc, Bridge, Unit, Counter}
use Rattle.hw_net.specs.declared.netlist.NetOp.{NetOp}
use Rattle.hw_net.specs.declared.netlist.NetOp.TheVariants.{Input, Const, Resize, ShiftUp, ShiftDown, Add, Subtract, Negate, Multiply, And, Or, Xor, Not, Less, Equal, Choose, Slice}
use Rattle.hw_net.specs.declared.netlist.Frame.{Frame}
use Rattle.hw_net.specs.Circuit.{Circuit}
use Rattle.hw_net.specs.Frames.{counted_frame}
use Rattle.hw_net.specs.Growing.{Extends}
use Rattle.hw_shows.specs.Timing.{Timing}
use Rattle.hw_build.specs.Places.{Places}
use Rattle.hw_build.specs.Serving.{others, op_factors, own_factors, unit_factors}
use Rattle.hw_build.specs.declared.blocks.Setting.{Setting}
use Rattle.hw_build.specs.declared.entry.Entry.{Entry}
use Rattle.hw_build.specs.inner.DesignTimes.{timing_for, times_for}
use Rattle.hw_build.specs.inner.Entries.{AreOffered, HasFirst, IsEntryPart, IsOwnMultiply, PutsEntry, multiply_at}
use Rattle.hw_build.specs.inner.HubPlaces.{hubs_in_all}
use Rattle.hw_build.specs.inner.Levels.{level_behind}
use Rattle.hw_build.specs.inner.FrameCounts.{IsBlockFrame}
use Rattle.hw_build.specs.inner.ElementLoop.{place_in, Fits, IsBegun, IsEntered, IsGoingBy}
use Rattle.hw_build.specs.inner.Tally.{IsOwnProduct, products_by}
use Rattle.hw_build.specs.inner.UnderWay.{own_level}
use Rattle.hw_build.proofs.GoesOn.{going_by_call}
use Rattle.math_list.proofs.Places.{get_right}
use Rattle.hw_build.proofs.MultiplierStep.{same_listed}

-- ---- which nets multiply

-- a net multiplies, or has no factors
factors_of_op : (args : List ℕ) (op : NetOp) → (op_factors args op ≡ []) ⊎ (op ≡ Multiply)
factors_of_op args (Input number) = inl refl
factors_of_op args (Const value) = inl refl
factors_of_op args Resize = inl refl
factors_of_op args (ShiftUp places) = inl refl
factors_of_op args (ShiftDown places) = inl refl
factors_of_op args Add = inl refl
factors_of_op args Subtract = inl refl
factors_of_op args Negate = inl refl
factors_of_op args Multiply = inr refl
factors_of_op args And = inl refl
factors_of_op args Or = inl refl
factors_of_op args Xor = inl refl
factors_of_op args Not = inl refl
factors_of_op args Less = inl refl
factors_of_op args Equal = inl refl
factors_of_op args Choose = inl refl
factors_of_op args (Slice high low) = inl refl

factors_of : (kind : NetKind) → (own_factors kind ≡ []) ⊎ ((args : List ℕ) × (kind ≡ Comb Multiply args))
factors_of (Comb op args) = elim (factors_of_op args op) [
  | inl none ↦ inl none
  | inr is ↦ inr (args, ap (λ (o : NetOp). Comb o args) is)
]
factors_of (Reg frame slot first from) = inl refl
factors_of (EnReg frame enable reset first from) = inl refl
factors_of (Acc frame enable from) = inl refl
factors_of (Bridge frame live from) = inl refl
factors_of (Unit left right) = inl refl
factors_of (Counter frame) = inl refl

-- of nets none or one of which multiplies
none_among : (ys : List Net) → ((i : ℕ) (z : Net) → slice_get ys i ≡ Some z → own_factors z.kind ≡ []) → length (flat_map (λ (n : Net). own_factors n.kind) ys) ≡ 0
none_among [] none = refl
none_among (y ∷ ys) none =
    let rest = none_among ys (λ i z at. none (suc i) z at) in
    let here : length (own_factors y.kind) ≡ 0 = ap length (none 0 y refl) in
    let sum = length-append (own_factors y.kind) (flat_map (λ (n : Net). own_factors n.kind) ys) in
    omega (arith, rest, here, sum)

one_among : (ys : List Net) (j : ℕ) (y : Net) → slice_get ys j ≡ Some y → length (own_factors y.kind) ≡ 1
    → ((i : ℕ) (z : Net) → i ≢ j → slice_get ys i ≡ Some z → own_factors z.kind ≡ [])
    → length (flat_map (λ (n : Net). own_factors n.kind) ys) ≡ 1
one_among [] j y at one none = absurd (none-some y at)
one_among (x ∷ ys) zero y at one none =
    let rest = none_among ys (λ i z there. none (suc i) z (λ e. absurd (omega (arith, e))) there) in
    let here : length (own_factors x.kind) ≡ 1 = ap (λ (n : Net). length (own_factors n.kind)) (same_Some x y at) ∙ one in
    let sum = length-append (own_factors x.kind) (flat_map (λ (n : Net). own_factors n.kind) ys) in
    omega (arith, rest, here, sum)
one_among (x ∷ ys) (suc j) y at one none =
    let rest = one_among ys j y at one (λ i z other there. none (suc i) z (λ e. other (omega (arith, e))) there) in
    let here : length (own_factors x.kind) ≡ 0 = ap length (none 0 x (λ e. absurd (omega (arith, e))) refl) in
    let sum = length-append (own_factors x.kind) (flat_map (λ (n : Net). own_factors n.kind) ys) in
    omega (arith, rest, here, sum)

-- ---- how many there are

abbrev pub count_some : Option ℕ → ℕ
count_some None = 0
count_some (Some k) = 1

pub own_next : (before after : Circuit) → Extends before after → (found : Option ℕ)
    → IsOwnMultiply before after found → ((k : ℕ) → found ≡ Some k → length before.nets ≤ k)
    → length (others after) ≡ length (others before) + count_some found
own_next before after grown found is new =
    let all : others after ≡ others before ++ flat_map (λ (n : Net). own_factors n.kind) grown.added =
    ap (flat_map (λ (n : Net). own_factors n.kind)) grown.nets
    ∙ flat_map-append (λ (n : Net). own_factors n.kind) before.nets grown.added in
    let count : length (others after) ≡ length (others before ++ flat_map (λ (n : Net). own_factors n.kind) grown.added) = ap length all in
    let sum = length-append (others before) (flat_map (λ (n : Net). own_factors n.kind) grown.added) in
    let added = by found refl in
    omega (arith, count, sum, added)
  where
    here : (i : ℕ) (z : Net) → slice_get grown.added i ≡ Some z → slice_get after.nets (length before.nets + i) ≡ Some z
    here i z at = ap (λ (all : List Net). slice_get all (length before.nets + i)) grown.nets ∙ get_right before.nets grown.added i ∙ at

    none : (i : ℕ) (z : Net) → slice_get grown.added i ≡ Some z → found ≢ Some (length before.nets + i) → own_factors z.kind ≡ []
    none i z at other = elim (factors_of z.kind) [
      | inl nothing ↦ nothing
      | inr found_it ↦ absurd (other (is.no_other (length before.nets + i) (omega arith) (record { net = z; reads = found_it.0; is = here i z at; kind = found_it.1 })))
    ]

    by : (o : Option ℕ) → found ≡ o → length (flat_map (λ (n : Net). own_factors n.kind) grown.added) ≡ count_some found
    by None e = none_among grown.added (λ i z at. none i z at (λ f. absurd (none-some (length before.nets + i) (sym e ∙ f)))) ∙ ap count_some (sym e)
    by (Some k) e =
        let comb = is.one k e in
        let low = new k e in
        let j : ℕ = k - length before.nets in
        let place : length before.nets + j ≡ k = omega (arith, low) in
        let at : slice_get grown.added j ≡ Some comb.net =
        sym (ap (λ (all : List Net). slice_get all (length before.nets + j)) grown.nets
        ∙ get_right before.nets grown.added j) ∙ ap (slice_get after.nets) place ∙ comb.is in
        one_among grown.added j comb.net at (ap (λ (kind : NetKind). length (own_factors kind)) comb.kind)
        (λ i z differs there. none i z there (λ f. let same = same_Some k (length before.nets + i) (sym e ∙ f) in differs (omega (arith, same, place))))
        ∙ ap count_some (sym e)

-- by the kind of a block
multiply_some : (first : ℕ) (kind : Kind) → (row_of kind).hardware.multiplies ≡ true → (k : ℕ) × (multiply_at first kind ≡ Some k) × (first ≤ k)
multiply_some first kind is = (first + length (row_of kind).signal.lists, ap (λ (own : Bool). if own then Some (first + length (row_of kind).signal.lists) else None) is, omega arith)

multiply_none : (first : ℕ) (kind : Kind) → (row_of kind).hardware.multiplies ≡ false → multiply_at first kind ≡ None
multiply_none first kind is = ap (λ (own : Bool). if own then Some (first + length (row_of kind).signal.lists) else None) is

pub part_units : (diagram : Diagram) (timing : Timing) (block : ℕ) (kind : NetKind) → IsEntryPart diagram timing block kind → unit_factors kind ≡ []
part_units diagram timing block (Comb op args) is = refl
part_units diagram timing block (Reg frame slot first from) is = refl
part_units diagram timing block (EnReg frame enable reset first from) is = refl
part_units diagram timing block (Acc frame enable from) is = absurd is
part_units diagram timing block (Bridge frame live from) is = absurd is
part_units diagram timing block (Unit left right) is = absurd is
part_units diagram timing block (Counter frame) is = refl

-- a Counter's frame is that of the block
pub part_frame : (setting : Setting) (block : ℕ) → block < length setting.design.checked.now.diagram.blocks
    → (kind : NetKind) (frame : Frame) → IsEntryPart setting.design.checked.now.diagram
    (timing_for setting.design) block kind → counted_frame kind ≡ Some frame
    → IsBlockFrame setting.design.checked.now.diagram setting.design.plan.now (times_for setting.design) block frame
part_frame setting block below (Comb op args) frame is counts = absurd (none-some frame counts)
part_frame setting block below (Reg own slot first from) frame is counts = absurd (none-some frame counts)
part_frame setting block below (EnReg own enable reset first from) frame is counts = absurd (none-some frame counts)
part_frame setting block below (Acc own enable from) frame is counts = absurd (none-some frame counts)
part_frame setting block below (Bridge own live from) frame is counts = absurd (none-some frame counts)
part_frame setting block below (Unit left right) frame is counts = absurd (none-some frame counts)
part_frame setting block below (Counter own) frame is counts =
    subst (IsBlockFrame setting.design.checked.now.diagram setting.design.plan.now (times_for setting.design) block)
    (same_Some own frame counts)
    (record { there = below; period_is = is.period_is; latency_is = inl is.latency_is })

-- ---- into the loops

-- the operands of an element stand no higher than its nets, and it below the net that readers name
pub record StandLow (setting : Setting) (before after : Circuit) (level : ℕ → ℕ) (block : ℕ) (operands : List ℕ) (entry : Entry) : Type 0 where
  pub own : ℕ
  pub some : 1 ≤ own
  pub named : (read : ℕ) → Contains operands read → (read < length before.nets) × (level read ≤ own)
  pub answer : level_behind before after level own entry.net ≤ own_level (place_in setting.design.checked.now.order block)

module _ (setting : Setting) (before after : Circuit) (block : ℕ) (b : Block) (port element : ℕ) (operands : List ℕ) (entry : Entry) where
  abbrev drawn : Diagram
  drawn = setting.design.checked.now.diagram

  pub entered_by : PutsEntry drawn (timing_for setting.design) before after block b port element operands entry
      → slice_get drawn.blocks block ≡ Some b
      → is_shared drawn (attributes_of drawn) setting.design.plan.now block ≡ false
      → ((places : Places) → Fits setting places → AreOffered drawn places block b port element b.kind operands)
      → ((places : Places) → Fits setting places
      → HasFirst drawn block element b.kind (places.first block element))
      → ((row_of b.kind).hardware.multiplies ≡ true
      → (timing_for setting.design).slot block element ≡ None)
      → ((start : Circuit) → IsBegun setting start → length start.nets ≤ length before.nets → (read : ℕ) → Contains operands read → read < length start.nets)
      → ((places : Places) (start : Circuit) (closed : ℕ) (level : ℕ → ℕ) → Fits setting places
      → IsGoingBy setting places start closed before level
      → StandLow setting before after level block operands entry)
      → IsEntered setting before after block b port element entry
  entered_by puts at unshared offered firsts slots below low =
      let count = puts.grows.registers in
      let few = puts.few in
      record {
        named = operands;
        appends = puts.grows.appends;
        below = below;
        stands = puts.stands;
        few = omega (arith, count, few);
        own = own_counted;
        shared = same_listed unit_factors before after puts.grows.appends.extends (λ k net past there. part_units drawn (timing_for setting.design) block net.kind (puts.grows.parts k net past there));
        new_product = λ k e. new_told k e;
        product = λ owns. product_told owns;
        own_number = λ m e. elim (cases_Bool (row_of b.kind).hardware.multiplies) [
          | inl is ↦
              (let some = multiply_some (length before.nets) b.kind is in
              let same = same_Some some.0 m (sym (puts.multiply ∙ some.1) ∙ e) in
              let low_one = some.2 in
              let comb = puts.multiplies.one m e in
              (is, omega (arith, same, low_one), slice_get_within after.nets m comb.net comb.is))
          | inr is ↦ absurd (none-some m (sym (puts.multiply ∙ multiply_none (length before.nets) b.kind is) ∙ e))
        ];
        own_frames = λ k frame past there. part_frame setting block (slice_get_within drawn.blocks block b at) there.net.kind frame (puts.grows.parts k there.net past there.is) there.counts;
        word = puts.word;
        each = λ places start closed level fits named products going.
            let l = low places start closed level fits going in
            record {
              next = level_behind before after level l.own;
              going =
                  going_by_call drawn (timing_for setting.design) places (place_in setting.design.checked.now.order)
                  (hubs_in_all drawn) (length (root_inputs drawn (attributes_of drawn))) start closed l.own
                  before after level operands going puts.grows.appends l.some l.named;
              low = l.answer;
              made = puts.made closed (hubs_in_all drawn) places going.way.hubs_are.there going.way.facts.cycles (offered places fits) named (firsts places fits) slots;
            };
      }
    where
      kind_of : multiplies drawn block ≡ (row_of b.kind).hardware.multiplies
      kind_of = ap multiplies_if at

      one_if : (t : Bool) → (row_of b.kind).hardware.multiplies ≡ t → products_by drawn setting.design.plan.now block ≡ (if t && true then 1 else 0)
      one_if t e = ap (λ (x : Bool). if x && not
          (is_shared drawn (attributes_of drawn) setting.design.plan.now block) then 1 else 0) (kind_of ∙ e)
          ∙ ap (λ (x : Bool). if t && not x then 1 else 0) unshared

      own_counted : length (others after) ≡ length (others before) + products_by drawn setting.design.plan.now block
      own_counted = elim (cases_Bool (row_of b.kind).hardware.multiplies) [
        | inl is ↦
            (let some = multiply_some (length before.nets) b.kind is in
            let told = puts.multiply ∙ some.1 in
            let sum = own_next before after puts.grows.appends.extends entry.multiply puts.multiplies
            (λ k e. let same = same_Some some.0 k (sym told ∙ e) in let low_one =
            some.2 in omega (arith, same, low_one)) in
            let one : count_some entry.multiply ≡ 1 = ap count_some told in
            let owned : products_by drawn setting.design.plan.now block ≡ 1 = one_if true is in
            omega (arith, sum, one, owned))
        | inr is ↦
            (let told = puts.multiply ∙ multiply_none (length before.nets) b.kind is in
            let sum = own_next before after puts.grows.appends.extends entry.multiply puts.multiplies (λ k e. absurd (none-some k (sym told ∙ e))) in
            let none : count_some entry.multiply ≡ 0 = ap count_some told in
            let owned : products_by drawn setting.design.plan.now block ≡ 0 = one_if false is in
            omega (arith, sum, none, owned))
      ]

      product_told : products_by drawn setting.design.plan.now block ≡ 1 → IsOwnProduct after entry.multiply
      product_told owns = elim (cases_Bool (row_of b.kind).hardware.multiplies) [
        | inl is ↦
            (let some = multiply_some (length before.nets) b.kind is in
            let told = puts.multiply ∙ some.1 in
            let comb = puts.multiplies.one some.0 told in
            record { number = some.0; told = told; net = comb.net; args = comb.reads; is = comb.is; kind = comb.kind })
        | inr is ↦ (let owned : products_by drawn setting.design.plan.now block ≡ 0 = one_if false is in absurd (omega (arith, owned, owns)))
      ]

      new_told : (k : ℕ) → entry.multiply ≡ Some k → (length before.nets ≤ k) × (k < length after.nets) × (products_by drawn setting.design.plan.now block ≡ 1)
      new_told k e = elim (cases_Bool (row_of b.kind).hardware.multiplies) [
        | inl is ↦
            (let some = multiply_some (length before.nets) b.kind is in
            let told = puts.multiply ∙ some.1 in
            let same = same_Some some.0 k (sym told ∙ e) in
            let low_one = some.2 in
            let comb = puts.multiplies.one k e in
            (omega (arith, same, low_one), slice_get_within after.nets k comb.net comb.is, one_if true is))
        | inr is ↦ (let told = puts.multiply ∙ multiply_none (length before.nets) b.kind is in absurd (none-some k (sym told ∙ e)))
      ]
