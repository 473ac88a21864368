-- What running a netlist asks of its nets goes on as it grows.
use Rattle.std.proofs.Common.{◌≡◌, ℕ, zero, suc, ◌+◌, ◌<◌, ◌≤◌, inl, inr, Bool, true, false, cond, List, [], ◌∷◌, length, All, Option, Some, None, IsSome, ap, sym, ◌∙◌, subst, refl, arith}
use Rattle.std.specs.Prelude.{slice_get, slice_index_or, ◌==◌}
use Rattle.std.proofs.lemmas.Bool.{false≢true, cases_lt, and_parts, eqb-true}
use Rattle.std.proofs.lemmas.Option.{none-some, same_Some, slice_get_within}
use Rattle.math_num.specs.Word.{IsWord, InWord}
use Rattle.hw_net.specs.declared.netlist.Frame.{Frame}
use Rattle.hw_net.specs.declared.netlist.Net.{Net}
use Rattle.hw_net.specs.declared.netlist.NetKind.{NetKind}
use Rattle.hw_net.specs.declared.netlist.NetKind.TheVariants.{Comb, Reg, EnReg, Acc, Bridge, Unit, Counter}
use Rattle.hw_net.specs.declared.netlist.NetOp.{NetOp}
use Rattle.hw_net.specs.declared.netlist.NetOp.TheVariants.{Input, Const, Resize, ShiftUp, ShiftDown, Add, Subtract, Negate, Multiply, And, Or, Xor, Not, Less, Equal, Choose, Slice}
use Rattle.hw_net.specs.Circuit.{Circuit}
use Rattle.hw_net.specs.Frames.{counted_frame, is_frame, counter_from, counter_of}
use Rattle.hw_net.specs.Growing.{Appends, IsReopened, IsConnected}
use Rattle.hw_net.specs.Netlist.{HasWord, HasBits, HasParts, HoldsProducts, IsKind, reads}
use Rattle.hw_net.proofs.Growth.{stood-there}
use Rattle.math_list.proofs.Places.{held}
use Rattle.hw_build.specs.inner.Growth.{GoesOn}
use Rattle.hw_build.specs.inner.Soundness.{IsSoundNet, AreSound}
use Rattle.hw_build.proofs.Growth.{goes_appended, still_within, word_later}
use Rattle.hw_build.proofs.Levels.{given, connected_here, connected_elsewhere, connected_length, goes_connected}
use Rattle.hw_net.proofs.Index.{same-self}

module _ (closed hubs : ℕ) (now later : Circuit) (goes : GoesOn closed hubs now later) where
  -- a net that is there had its word before
  word_before : (k : ℕ) (net : Net) → k < length now.nets → slice_get later.nets k ≡ Some net → HasWord now.nets k net.width net.signed
  word_before k net inside at = elim (goes.nets k inside) [
    | inl kept ↦ record { net = net; is = sym kept ∙ at; wide = refl; sign = refl }
    | inr changed ↦
        let is : IsReopened now.nets later.nets k = changed.2 in
        let same : ◌≡◌ {A = Net} is.is net = same_Some is.is net (sym is.later_there ∙ at) in
        record {
          net = is.was;
          is = is.there;
          wide = sym is.wide ∙ ap (λ (n : Net). n.width) same;
          sign = sym is.sign ∙ ap (λ (n : Net). n.signed) same;
        }
  ]

  bits_later : (args : List ℕ) (high low : ℕ) → All (λ read. read < length now.nets) args → HasBits now.nets args high low → HasBits later.nets args high low
  bits_later args high low there has = record {
    ordered = has.ordered;
    within = λ k read net at is.
        let word = word_before read net (held (λ (x : ℕ). x < length now.nets) args k read there at) is in
        subst (λ (w : ℕ). high < w) word.wide (has.within k read word.net at word.is);
  }

  parts_later : (inputs : ℕ) (args : List ℕ) (op : NetOp) → All (λ read. read < length now.nets) args → HasParts now.nets inputs args op → HasParts later.nets inputs args op
  parts_later inputs args (Input number) there has = has
  parts_later inputs args (Const value) there has = tt
  parts_later inputs args Resize there has = tt
  parts_later inputs args (ShiftUp places) there has = tt
  parts_later inputs args (ShiftDown places) there has = tt
  parts_later inputs args Add there has = tt
  parts_later inputs args Subtract there has = tt
  parts_later inputs args Negate there has = tt
  parts_later inputs args Multiply there has = tt
  parts_later inputs args And there has = tt
  parts_later inputs args Or there has = tt
  parts_later inputs args Xor there has = tt
  parts_later inputs args Not there has = tt
  parts_later inputs args Less there has = tt
  parts_later inputs args Equal there has = tt
  parts_later inputs args Choose there has = tt
  parts_later inputs args (Slice high low) there has = bits_later args high low there has

  products_later : (left right width : ℕ) (signed : Bool) → left < length now.nets → right < length now.nets
      → HoldsProducts now.nets left right width signed → HoldsProducts later.nets left right width signed
  products_later left right width signed there too has = record {
    holds = λ one other e f x y in_one in_other.
        let a = word_before left one there e in
        let b = word_before right other too f in
        has.holds a.net b.net a.is b.is x y
        (subst (λ (w : ℕ). InWord w a.net.signed x) (sym a.wide) (subst (λ (s : Bool). InWord one.width s x) (sym a.sign) in_one))
        (subst (λ (w : ℕ). InWord w b.net.signed y) (sym b.wide) (subst (λ (s : Bool). InWord other.width s y) (sym b.sign) in_other));
  }

  kind_later : (cycles inputs width : ℕ) (signed : Bool) (kind : NetKind)
      → All (λ read. read < length now.nets) (reads kind) → IsKind now.nets cycles inputs width signed kind
      → IsKind later.nets cycles inputs width signed kind
  kind_later cycles inputs width signed (Comb op args) there has = (has.0, parts_later inputs args op there has.1)
  kind_later cycles inputs width signed (Reg frame slot first from) there has = (has.0, word_later closed hubs now later from width signed goes has.1, has.2)
  kind_later cycles inputs width signed (EnReg frame enable reset first from) there has = (has.0, word_later closed hubs now later from width signed goes has.1, has.2)
  kind_later cycles inputs width signed (Acc frame enable from) there has = (has.0, word_later closed hubs now later from width signed goes has.1, has.2)
  kind_later cycles inputs width signed (Bridge frame live from) there has = (has.0, has.1, word_later closed hubs now later from width signed goes has.2)
  kind_later cycles inputs width signed (Unit left right) there has =
      products_later left right width signed
      (held (λ (x : ℕ). x < length now.nets) (left ∷ right ∷ []) 0 left there refl)
      (held (λ (x : ℕ). x < length now.nets) (left ∷ right ∷ []) 1 right there refl) has
  kind_later cycles inputs width signed (Counter frame) there has = has

-- more input ports do no harm
parts_more : (nets : List Net) (inputs more : ℕ) (args : List ℕ) (op : NetOp) → inputs ≤ more → HasParts nets inputs args op → HasParts nets more args op
parts_more nets inputs more args (Input number) less has = omega (arith, less, has)
parts_more nets inputs more args (Const value) less has = has
parts_more nets inputs more args Resize less has = has
parts_more nets inputs more args (ShiftUp places) less has = has
parts_more nets inputs more args (ShiftDown places) less has = has
parts_more nets inputs more args Add less has = has
parts_more nets inputs more args Subtract less has = has
parts_more nets inputs more args Negate less has = has
parts_more nets inputs more args Multiply less has = has
parts_more nets inputs more args And less has = has
parts_more nets inputs more args Or less has = has
parts_more nets inputs more args Xor less has = has
parts_more nets inputs more args Not less has = has
parts_more nets inputs more args Less less has = has
parts_more nets inputs more args Equal less has = has
parts_more nets inputs more args Choose less has = has
parts_more nets inputs more args (Slice high low) less has = has

kind_more : (nets : List Net) (cycles inputs more width : ℕ) (signed : Bool) (kind : NetKind) → inputs ≤ more → IsKind nets cycles inputs width signed kind → IsKind nets cycles more width signed kind
kind_more nets cycles inputs more width signed (Comb op args) less has = (has.0, parts_more nets inputs more args op less has.1)
kind_more nets cycles inputs more width signed (Reg frame slot first from) less has = has
kind_more nets cycles inputs more width signed (EnReg frame enable reset first from) less has = has
kind_more nets cycles inputs more width signed (Acc frame enable from) less has = has
kind_more nets cycles inputs more width signed (Bridge frame live from) less has = has
kind_more nets cycles inputs more width signed (Unit left right) less has = has
kind_more nets cycles inputs more width signed (Counter frame) less has = has

-- ---- Counters

counter_found : (nets : List Net) (start k : ℕ) (net : Net) (frame : Frame) → slice_get nets k ≡ Some net → counted_frame net.kind ≡ Some frame → IsSome (counter_from nets start frame)
counter_found [] start k net frame at counts = absurd (none-some net at)
counter_found (x ∷ nets) start zero net frame at counts =
    let is : is_frame frame (counted_frame x.kind) ≡ true = ap (λ (n : Net). is_frame frame (counted_frame n.kind)) (same_Some x net at) ∙ ap (is_frame frame) counts ∙ same-self frame in
    subst (λ (b : Bool). IsSome (cond b (Some start) (counter_from nets (start + 1) frame))) (sym is) refl
counter_found (x ∷ nets) start (suc k) net frame at counts = go (is_frame frame (counted_frame x.kind)) (counter_found nets (start + 1) k net frame at counts)
  where
    go : (b : Bool) → IsSome (counter_from nets (start + 1) frame) → IsSome (cond b (Some start) (counter_from nets (start + 1) frame))
    go true later = refl
    go false later = later

-- and what is found is one
pub record IsFound (nets : List Net) (frame : Frame) : Type 0 where
  pub place : ℕ
  pub net : Net
  pub at : slice_get nets place ≡ Some net
  pub counts : counted_frame net.kind ≡ Some frame

is_frame_of : (frame : Frame) (own : Option Frame) → is_frame frame own ≡ true → own ≡ Some frame
is_frame_of frame None e = absurd (false≢true e)
is_frame_of frame (Some own) e =
    let parts = and_parts (own.period == frame.period) (own.latency == frame.latency) e in
    let period : own.period ≡ frame.period = eqb-true own.period frame.period parts.0 in
    let latency : own.latency ≡ frame.latency = eqb-true own.latency frame.latency parts.1 in
    let same : ◌≡◌ {A = Frame} own frame = ap (λ (n : ℕ). record { period = n; latency = own.latency }) period ∙ ap (λ (n : ℕ). record { period = frame.period; latency = n }) latency in
    ap Some same

counter_there : (nets : List Net) (start : ℕ) (frame : Frame) → IsSome (counter_from nets start frame) → IsFound nets frame
counter_there [] start frame some = absurd (false≢true some)
counter_there (x ∷ nets) start frame some = go (is_frame frame (counted_frame x.kind)) refl (counter_there nets (start + 1) frame) some
  where
    go : (b : Bool) → is_frame frame (counted_frame x.kind) ≡ b
        → (IsSome (counter_from nets (start + 1) frame) → IsFound nets frame)
        → IsSome (cond b (Some start) (counter_from nets (start + 1) frame)) → IsFound (x ∷ nets) frame
    go true e rest h = record { place = 0; net = x; at = refl; counts = is_frame_of frame (counted_frame x.kind) e }
    go false e rest h = let found = rest h in record { place = suc found.place; net = found.net; at = found.at; counts = found.counts }

module _ (closed hubs : ℕ) (now later : Circuit) (goes : GoesOn closed hubs now later) where
  pub counter_later : (frame : Frame) → IsSome (counter_of now.nets frame) → IsSome (counter_of later.nets frame)
  counter_later frame some =
      let found = counter_there now.nets 0 frame some in
      elim (goes.nets found.place (slice_get_within now.nets found.place found.net found.at)) [
        | inl kept ↦ counter_found later.nets 0 found.place found.net frame (kept ∙ found.at) found.counts
        | inr changed ↦
            let is : IsReopened now.nets later.nets found.place = changed.2 in
            let same : ◌≡◌ {A = Net} is.was found.net = same_Some is.was found.net (sym is.there ∙ found.at) in
            absurd (none-some frame (ap counted_frame (sym is.old_kind) ∙ ap (λ (n : Net). counted_frame n.kind) same ∙ found.counts))
      ]

  pub sound_later : (inputs : ℕ) (net : Net) → IsSoundNet now inputs net → IsSoundNet later inputs net
  sound_later inputs net is = record {
    word = is.word;
    kind = subst (λ (c : ℕ). IsKind later.nets c inputs net.width net.signed net.kind) (sym goes.cycles)
        (kind_later closed hubs now later goes now.cycles inputs net.width net.signed net.kind is.there is.kind);
    there = λ i d within. still_within closed hubs now later goes (slice_index_or (reads net.kind) i d) (is.there i d within);
    counted = λ frame names. counter_later frame (is.counted frame names);
  }

-- nets that a call puts in are sound
pub sound_by_call : (closed hubs : ℕ) (before after : Circuit) (named : List ℕ) (inputs : ℕ)
    → hubs ≤ length before.nets → length after.inputs ≤ inputs → Appends before after named
    → AreSound closed hubs before inputs → AreSound closed hubs after inputs
sound_by_call closed hubs before after named inputs small few appends sound = record {
  each = λ k net at. elim (cases_lt k (length before.nets)) [
    | inl inside ↦ elim (sound.each k net (stood-there before after k net appends.extends inside at)) [
      | inl waits ↦ inl waits
      | inr is ↦ inr (sound_later closed hubs before after (goes_appended closed hubs before after appends.extends) inputs net is)
    ]
    | inr past ↦
        let is = appends.each k net past at in
        inr (record { word = is.word; kind = kind_more after.nets after.cycles (length after.inputs) inputs net.width net.signed net.kind few is.kind; there = is.there; counted = is.counted })
  ];
}

-- so is a hub that gets its argument
pub sound_by_connect : (closed hubs : ℕ) (before after : Circuit) (argument inputs : ℕ) (old : List ℕ)
    (is : IsConnected before after closed argument) → is.net.kind ≡ Comb Resize old → closed < hubs
    → argument < length before.nets → IsWord is.net.width is.net.signed
    → AreSound closed hubs before inputs → AreSound (suc closed) hubs after inputs
sound_by_connect closed hubs before after argument inputs old is kind high there word sound =
    let goes = goes_connected closed hubs before after closed argument old is kind (omega arith) high in
    let size = connected_length before after closed argument is in
    record {
      each = λ k net at. elim (cases_lt k closed) [
        | inl less ↦ elim (sound.each k net (sym (connected_elsewhere before after closed argument k is (λ e. absurd (omega (arith, less, e)))) ∙ at)) [
          | inl waits ↦ let low = waits.0 in absurd (omega (arith, low, less))
          | inr fine ↦ inr (sound_later closed hubs before after goes inputs net fine)
        ]
        | inr more ↦ elim (cases_lt closed k) [
          | inl past ↦ elim (sound.each k net (sym (connected_elsewhere before after closed argument k is (λ e. absurd (omega (arith, past, e)))) ∙ at)) [
            | inl waits ↦ inl (omega (arith, past), waits.1)
            | inr fine ↦ inr (sound_later closed hubs before after goes inputs net fine)
          ]
          | inr same ↦
              let e : k ≡ closed = omega (arith, more, same) in
              let own : ◌≡◌ {A = Net} (given is.net argument) net =
              same_Some (given is.net argument) net
              (sym (connected_here before after closed argument is) ∙ ap (slice_get after.nets) (sym e)
              ∙ at) in
              inr (subst (IsSoundNet after inputs) own (record {
                word = word;
                kind = (refl, tt);
                there = λ i d within. hub_reads i d within (omega (arith, there, size));
                counted = λ frame names. absurd (none-some frame names);
              }))
        ]
      ];
    }
  where
    hub_reads : (i d : ℕ) → i < length (argument ∷ []) → argument < length after.nets → slice_index_or (argument ∷ []) i d < length after.nets
    hub_reads zero d within below = below
    hub_reads (suc i) d within below = absurd (omega (arith, within))
