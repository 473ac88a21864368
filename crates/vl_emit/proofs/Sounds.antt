-- A netlist that can be run and has its Counters is sound, net by net.
use Rattle.std.proofs.Common.{◌≡◌, ℕ, suc, ◌+◌, ◌-◌, ◌*◌, ◌<◌, Bool, true, false, if◌then◌else◌, List, [], ◌∷◌, length, get_or, slice_get, Contains, Option, Some, pos, refl, ap, sym, ◌∙◌, subst}
use Rattle.std.proofs.Common.{arith}
use Rattle.std.specs.Prelude.{All, IsSome, unwrap_or}
use Rattle.std.proofs.lemmas.Option.{slice_get-get_or, get_or_from_slice_get, slice_get_within}
use Rattle.std.proofs.lemmas.List.Elements.{All-contains}
use Rattle.std.proofs.Math.Nat.{mul-pos}
use Rattle.math_num.specs.Word.{InWord, IsWord}
use Rattle.hw_net.specs.declared.netlist.Frame.{Frame}
use Rattle.hw_net.specs.declared.netlist.Net.{Net}
use Rattle.hw_net.specs.declared.netlist.NetPort.{NetPort}
use Rattle.hw_net.specs.declared.netlist.NetOp.{NetOp}
use Rattle.hw_net.specs.declared.netlist.NetOp.TheVariants.{Input, Const, Resize, ShiftUp, ShiftDown, Add, Subtract, Negate, Multiply, And, Or, Xor, Not, Less, Equal, Choose, Slice}
use Rattle.hw_net.specs.declared.netlist.NetKind.{NetKind}
use Rattle.hw_net.specs.declared.netlist.NetKind.TheVariants.{Comb, Reg, EnReg, Acc, Bridge, Unit, Counter}
use Rattle.hw_net.specs.Circuit.{Circuit}
use Rattle.hw_net.specs.Frames.{frame_of, counted_frame, is_frame, counter_from, counter_of, HasCounters}
use Rattle.hw_net.specs.Netlist.{reads, reads_now, HasWord, HasParts, IsKind, IsNetlist}
use Rattle.hw_net.specs.Operation.{arity}
use Rattle.vl_emit.specs.Names.{port_at}
use Rattle.hw_net.specs.Products.{net_at, no_net}
use Rattle.vl_emit.specs.inner.NetItems.{naming_of}
use Rattle.vl_emit.specs.inner.Ready.{IsTimed, IsReady, AreReady}
use Rattle.vl_emit.specs.inner.Sound.{IsCounted, HasWordOf, IsSoundKind, IsSound}
use Rattle.vl_emit.specs.inner.Spoken.{IsWithin}
use Rattle.math_num.proofs.Words.{size-below}
use Rattle.math_list.proofs.Tests.{some_there}
use Rattle.vl_emit.proofs.Sections.{Parts, parts_of}
use Rattle.vl_emit.proofs.Lists.{at-contains}
use Rattle.hw_net.proofs.Index.{same-is}

counts-frame : (frame : Frame) (kind : NetKind) → is_frame frame (counted_frame kind) ≡ true → kind ≡ Counter frame
counts-frame frame (Comb op args) e = absurd (cc e)
counts-frame frame (Reg own slot first from) e = absurd (cc e)
counts-frame frame (EnReg own enable reset_too first from) e = absurd (cc e)
counts-frame frame (Acc own enable from) e = absurd (cc e)
counts-frame frame (Bridge own live from) e = absurd (cc e)
counts-frame frame (Unit left right) e = absurd (cc e)
counts-frame frame (Counter own) e = ap Counter (same-is own frame e)

abbrev CounterAt : List Net → ℕ → Frame → ℕ → Type 0
CounterAt nets start frame j = (i : ℕ) × (j ≡ start + i) × (i < length nets) × ((net_at nets i).kind ≡ Counter frame)

counter-by : (n : Net) (nets : List Net) (start : ℕ) (frame : Frame) (j : ℕ) (t : Bool) → is_frame frame (counted_frame n.kind) ≡ t
    → (counter_from nets (start + 1) frame ≡ Some j → CounterAt nets (start + 1) frame j)
    → (if t then Some start else counter_from nets (start + 1) frame) ≡ Some j → CounterAt (n ∷ nets) start frame j
counter-by n nets start frame j true is further e = let same : start ≡ j = cc e in (0, omega (arith, same), omega arith, counts-frame frame n.kind is)
counter-by n nets start frame j false is further e = let r = further e in (suc r.0, omega (arith, r.1), omega (arith, r.2), r.3)

counter-from : (nets : List Net) (start : ℕ) (frame : Frame) (j : ℕ) → counter_from nets start frame ≡ Some j → CounterAt nets start frame j
counter-from [] start frame j e = absurd (cc e)
counter-from (n ∷ nets) start frame j e = counter-by n nets start frame j (is_frame frame (counted_frame n.kind)) refl (counter-from nets (start + 1) frame j) e

pub counter-found : (nets : List Net) (frame : Frame) (j : ℕ) → counter_of nets frame ≡ Some j → (j < length nets) × ((net_at nets j).kind ≡ Counter frame)
counter-found nets frame j e =
    let r = counter-from nets 0 frame j e in
    let same : r.0 ≡ j = omega (arith, r.1) in
    (omega (arith, r.1, r.2), subst (λ (i : ℕ). (net_at nets i).kind ≡ Counter frame) same r.3)

-- a slice lies within its argument
within-of : (nets : List Net) (inputs : ℕ) (args : List ℕ) (op : NetOp) → length args ≡ arity op → ((j : ℕ) → j < length args → get_or args j 0 < length nets)
    → HasParts nets inputs args op → IsWithin op (net_at nets (get_or args 0 0)).width
within-of nets inputs args (Input number) e there p = tt
within-of nets inputs args (Const value) e there p = tt
within-of nets inputs args Resize e there p = tt
within-of nets inputs args (ShiftUp places) e there p = tt
within-of nets inputs args (ShiftDown places) e there p = tt
within-of nets inputs args Add e there p = tt
within-of nets inputs args Subtract e there p = tt
within-of nets inputs args Negate e there p = tt
within-of nets inputs args Multiply e there p = tt
within-of nets inputs args And e there p = tt
within-of nets inputs args Or e there p = tt
within-of nets inputs args Xor e there p = tt
within-of nets inputs args Not e there p = tt
within-of nets inputs args Less e there p = tt
within-of nets inputs args Equal e there p = tt
within-of nets inputs args Choose e there p = tt
within-of nets inputs args (Slice high low) e there p =
    let some : 0 < length args = omega (arith, e) in
    let k : ℕ = get_or args 0 0 in
    (p.ordered, p.within 0 k (net_at nets k) (slice_get-get_or args 0 0 some) (slice_get-get_or nets k no_net (there 0 some)))

input-of : (nets : List Net) (inputs : ℕ) (args : List ℕ) (op : NetOp) → HasParts nets inputs args op → (input : ℕ) → op ≡ Input input → input < inputs
input-of nets inputs args op p input e = let q = subst (HasParts nets inputs args) e p in q

module _ (netlist : Circuit) (runs : IsNetlist netlist) (counted : HasCounters netlist.nets) where
  abbrev parts : Parts
  parts = parts_of netlist

  open parts use {cycles, count, net, naming}

  abbrev pub rank : ℕ → ℕ
  rank = runs.ranked.0

  net-there : (k : ℕ) → k < count → Contains netlist.nets (net_at netlist.nets k)
  net-there k h = at-contains netlist.nets k no_net h

  net-got : (k : ℕ) → k < count → slice_get netlist.nets k ≡ Some (net_at netlist.nets k)
  net-got k h = slice_get-get_or netlist.nets k no_net h

  pub word-at : (k : ℕ) → k < count → IsWord (net_at netlist.nets k).width (net_at netlist.nets k).signed
  word-at k h = All-contains (λ (n : Net). IsWord n.width n.signed) netlist.nets (net_at netlist.nets k) runs.words (net-there k h)

  kind-at : (k : ℕ) → k < count → IsKind netlist.nets netlist.cycles (length netlist.inputs) (net_at netlist.nets k).width (net_at netlist.nets k).signed (net_at netlist.nets k).kind
  kind-at k h = All-contains (λ (n : Net). IsKind netlist.nets netlist.cycles (length netlist.inputs) n.width n.signed n.kind) netlist.nets (net_at netlist.nets k) runs.kinds (net-there k h)

  there-at : (k : ℕ) → k < count → All (λ read. read < length netlist.nets) (reads (net_at netlist.nets k).kind)
  there-at k h = All-contains (λ (n : Net). All (λ read. read < length netlist.nets) (reads n.kind)) netlist.nets (net_at netlist.nets k) runs.there (net-there k h)

  falls-at : (k : ℕ) → k < count → All (λ read. runs.ranked.0 read < runs.ranked.0 k) (reads_now (net_at netlist.nets k).kind)
  falls-at k h = runs.ranked.1.falls k (net_at netlist.nets k) (net-got k h)

  -- what is known of a net by its kind
  record Known (k : ℕ) (kind : NetKind) : Type 0 where
    is_kind : IsKind netlist.nets netlist.cycles (length netlist.inputs) (net_at netlist.nets k).width (net_at netlist.nets k).signed kind
    there : All (λ read. read < length netlist.nets) (reads kind)
    falls : All (λ read. runs.ranked.0 read < runs.ranked.0 k) (reads_now kind)
    frames : (frame : Frame) → frame_of kind ≡ Some frame → IsSome (counter_of netlist.nets frame)

  known : (k : ℕ) → k < count → Known k (net_at netlist.nets k).kind
  known k h = record {
    is_kind = kind-at k h;
    there = there-at k h;
    falls = falls-at k h;
    frames = λ frame e. counted.each k (net_at netlist.nets k) frame (net-got k h) e;
  }

  timed : (frame : Frame) → 0 < frame.period → IsSome (counter_of netlist.nets frame) → IsTimed netlist frame
  timed frame some h =
      let f = some_there (counter_of netlist.nets frame) h in
      record { period = some; number = f.0; counter = f.1; there = (counter-found netlist.nets frame f.0 f.1).0 }

  counted-of : (frame : Frame) → IsTimed netlist frame → IsCounted cycles count naming net frame
  counted-of frame t =
      let same : unwrap_or (counter_of netlist.nets frame) 0 ≡ t.number = ap (λ (o : Option ℕ). unwrap_or o 0) t.counter in
      record {
        some = mul-pos t.period runs.cycles;
        there = subst (λ (i : ℕ). i < count) (sym same) t.there;
        is = subst (λ (i : ℕ). (net_at netlist.nets i).kind ≡ Counter frame) (sym same) (counter-found netlist.nets frame t.number t.counter).1;
      }

  has-word : (k from : ℕ) → HasWord netlist.nets from (net_at netlist.nets k).width (net_at netlist.nets k).signed → HasWordOf count net k from
  has-word k from w =
      let same : net_at netlist.nets from ≡ w.net = get_or_from_slice_get netlist.nets from w.net no_net w.is in
      record {
        there = slice_get_within netlist.nets from w.net w.is;
        width = ap (λ (n : Net). n.width) same ∙ w.wide;
        signed = ap (λ (n : Net). n.signed) same ∙ w.sign;
      }

  args-there : (args : List ℕ) → All (λ read. read < length netlist.nets) args → (j : ℕ) → j < length args → get_or args j 0 < length netlist.nets
  args-there args all j h = All-contains (λ (read : ℕ). read < length netlist.nets) args (get_or args j 0) all (at-contains args j 0 h)

  args-fall : (k : ℕ) (args : List ℕ) → All (λ read. runs.ranked.0 read < runs.ranked.0 k) args → (j : ℕ) → j < length args → runs.ranked.0 (get_or args j 0) < runs.ranked.0 k
  args-fall k args all j h = All-contains (λ (read : ℕ). runs.ranked.0 read < runs.ranked.0 k) args (get_or args j 0) all (at-contains args j 0 h)

  ready-by : (k : ℕ) (kind : NetKind) → Known k kind → IsReady netlist kind
  ready-by k (Comb op args) w =
      let there = args-there args w.there in (
        w.is_kind.0,
        there,
        within-of netlist.nets (length netlist.inputs) args op w.is_kind.0 there w.is_kind.1,
        λ input e. input-of netlist.nets (length netlist.inputs) args op w.is_kind.1 input e,
      )
  ready-by k (Reg frame slot first from) w = (timed frame w.is_kind.0 (w.frames frame refl), w.there 0 0 (omega arith))
  ready-by k (EnReg frame enable reset_too first from) w = (timed frame w.is_kind.0 (w.frames frame refl), w.there 1 0 (omega arith), w.there 0 0 (omega arith))
  ready-by k (Acc frame enable from) w = (timed frame w.is_kind.0 (w.frames frame refl), w.there 1 0 (omega arith), w.there 0 0 (omega arith))
  ready-by k (Bridge frame live from) w = (timed frame w.is_kind.0 (w.frames frame refl), w.there 0 0 (omega arith))
  ready-by k (Unit left right) w = (w.there 0 0 (omega arith), w.there 1 0 (omega arith))
  ready-by k (Counter frame) w = w.is_kind.0

  sound-by : (k : ℕ) → k < count → (kind : NetKind) → Known k kind → IsSoundKind cycles count naming net rank k kind
  sound-by k h (Comb op args) w =
      let there = args-there args w.there in (
        within-of netlist.nets (length netlist.inputs) args op w.is_kind.0 there w.is_kind.1,
        λ j below. (let less : j < length args = omega (arith, below, w.is_kind.0) in record { there = there j less; before = args-fall k args w.falls j less }),
        w.is_kind.0,
      )
  sound-by k h (Reg frame slot first from) w =
      (counted-of frame (timed frame w.is_kind.0 (w.frames frame refl)), record { of = has-word k from w.is_kind.1; first_in = w.is_kind.2 })
  sound-by k h (EnReg frame enable reset_too first from) w =
      (counted-of frame (timed frame w.is_kind.0 (w.frames frame refl)), record { of = has-word k from w.is_kind.1; first_in = w.is_kind.2 }, w.there 0 0 (omega arith))
  sound-by k h (Acc frame enable from) w =
      (counted-of frame (timed frame w.is_kind.0 (w.frames frame refl)), record { of = has-word k from w.is_kind.1; first_in = w.is_kind.2 }, w.there 0 0 (omega arith))
  sound-by k h (Bridge frame live from) w = (
    counted-of frame (timed frame w.is_kind.0 (w.frames frame refl)),
    mul-pos w.is_kind.1 runs.cycles,
    record { there = w.there 0 0 (omega arith); before = w.falls 0 0 (omega arith) },
    has-word k from w.is_kind.2,
  )
  sound-by k h (Unit left right) w =
      (record { there = w.there 0 0 (omega arith); before = w.falls 0 0 (omega arith) }, record { there = w.there 1 0 (omega arith); before = w.falls 1 0 (omega arith) })
  sound-by k h (Counter frame) w =
      let some : 0 < frame.period * netlist.cycles = mul-pos w.is_kind.0 runs.cycles in
      let same : frame.latency * netlist.cycles + frame.period * netlist.cycles - 1 ≡ frame.latency * netlist.cycles + (frame.period * netlist.cycles - 1) = omega (arith, some) in
      let within = subst (λ (n : ℕ). InWord (net_at netlist.nets k).width (net_at netlist.nets k).signed (pos n)) same w.is_kind.1 in
      (some, size-below (net_at netlist.nets k).width (net_at netlist.nets k).signed (pos (frame.latency * netlist.cycles + (frame.period * netlist.cycles - 1))) (word-at k h) within, within)

  pub netlist-sound : IsSound netlist.cycles (length netlist.nets) (naming_of netlist) (net_at netlist.nets) runs.ranked.0
  netlist-sound = record {
    word = word-at;
    names = λ k h. sound-by k h (net_at netlist.nets k).kind (known k h);
  }

  port-net : (ports : List NetPort) → All (λ port. port.net < length netlist.nets) ports → (i : ℕ) → i < length ports → (port_at ports i).net < length netlist.nets
  port-net ports all i h = All-contains (λ (p : NetPort). p.net < length netlist.nets) ports (port_at ports i) all (at-contains ports i _ h)

  pub netlist-ready : AreReady netlist
  netlist-ready = record {
    cycles = runs.cycles;
    words = word-at;
    kinds = λ k h. ready-by k (net_at netlist.nets k).kind (known k h);
    inputs = λ i h. (let got = runs.inputs i (port_at netlist.inputs i) (slice_get-get_or netlist.inputs i _ h) in slice_get_within netlist.nets (port_at netlist.inputs i).net got.net got.is);
    outputs = λ i h. port-net netlist.outputs runs.outputs i h;
  }
