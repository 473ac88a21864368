-- An accumulator that is put in behind its gate.
use Rattle.std.proofs.Common.{◌≡◌, ℕ, ◌<◌, inl, inr, List, [], ◌∷◌, length, Some, IsSome, Result, Ok, Err, IfOk, OnOk, slice_get, ap, sym, ◌∙◌, subst, arith, refl, get_or}
use Rattle.std.proofs.lemmas.Nat.{mul-lt}
use Rattle.std.proofs.lemmas.Option.{slice_get_within, same_Some}
use Rattle.std.proofs.lemmas.List.Elements.{All-nil}
use Rattle.math_num.specs.Word.{InWord}
use Rattle.hw_net.specs.declared.netlist.Frame.{Frame}
use Rattle.hw_net.specs.declared.netlist.Net.{Net}
use Rattle.hw_net.specs.declared.netlist.NetKind.{NetKind}
use Rattle.hw_net.specs.declared.netlist.NetKind.TheVariants.{Comb, Reg, EnReg, Acc, Bridge, Unit, Counter}
use Rattle.hw_net.specs.Circuit.{Circuit}
use Rattle.hw_net.specs.Frames.{counter_of}
use Rattle.hw_net.specs.Gathered.{AccIsClosed}
use Rattle.hw_net.specs.Growing.{Extends, InRows, IsCounted, MayRead, MayReadNow, with_net}
use Rattle.hw_net.specs.NetRows.{Rows, span_of}
use Rattle.hw_net.specs.Registers.{IsAcc}
use Rattle.hw_net.proofs.Extends.{read-net}
use Rattle.hw_net.proofs.Growth.{appends-counter, longer, still-there, extends-self, extends-trans, counter-stays, in-rows-first, in-rows-last, in-rows-both, in-rows-one}
use Rattle.hw_share.specs.Gathered.{CanGather, Gathers, IsGathered, IsGatheringPart}
use Rattle.hw_share.specs.inner.Gates.{Gates, IsGateAt}
use Rattle.hw_share.specs.inner.Parts.{IsNamed, Grows, IsChoosing}
use Rattle.hw_share.proofs.Choices.{in-word-later}
use Rattle.hw_share.proofs.Counters.{counter-grows}
use Rattle.hw_share.proofs.Gathering.{gathers-of}
use Rattle.hw_share.proofs.Growth.{all-two, grows-self, grows-then}
use Rattle.hw_share.proofs.Numbers.{zero-in}
use Rattle.hw_share.proofs.OneNet.{put-extends, put-there, put-grows}

-- what a gate adds is a part of a sum that is gathered
gate-wider : (frames : Frame → Type 0) (kind : NetKind) → IsChoosing frames kind → IsGatheringPart frames kind
gate-wider frames (Comb op args) is = is
gate-wider frames (Reg frame slot first from) is = is
gate-wider frames (EnReg frame enable reset first from) is = is
gate-wider frames (Acc frame enable from) is = tt
gate-wider frames (Bridge frame live from) is = is
gate-wider frames (Unit left right) is = is
gate-wider frames (Counter frame) is = is

module _ (accumulates : AccIsClosed) (a b c d : Circuit) (frame : Frame) (from : ℕ) (slots : List ℕ) (enable number counter : ℕ) (can : CanGather a frame from slots)
    (gate : IsGateAt a b frame slots enable)
    (counted : IsCounted b c frame) (found : counter_of c.nets frame ≡ Some counter) (last : number ≡ length c.nets)
    (grown : d ≡ with_net c (record { signed = can.from_there.net.signed; width = can.from_there.net.width; kind = Acc frame enable from })) where
  abbrev source : Net
  source = can.from_there.net

  abbrev one : Net
  one = record { signed = can.from_there.net.signed; width = can.from_there.net.width; kind = Acc frame enable from }

  abbrev part : NetKind → Type 0
  part = IsGatheringPart (λ other. other ≡ frame)

  ab : Extends a b
  ab = gate.grown.appends.extends

  counting : Grows b c [] part 0
  counting = counter-grows b c frame can.period counted [] part refl

  bc : Extends b c
  bc = counting.appends.extends

  cd : Extends c d
  cd = put-extends c d one grown

  ad : Extends a d
  ad = extends-trans a b d ab (extends-trans b c d bc cd)

  source-there : slice_get d.nets from ≡ Some source
  source-there = still-there a d from source ad can.from_there.is

  enable-inside : enable < length c.nets
  enable-inside = omega (arith, slice_get_within b.nets enable gate.bit.net gate.bit.is, longer b c bc)

  from-inside : from < length c.nets
  from-inside = slice_get_within c.nets from source (still-there a c from source (extends-trans a b c ab bc) can.from_there.is)

  has : IsSome (counter_of c.nets frame)
  has = rw found refl

  putting : Grows c d (enable ∷ from ∷ []) part 1
  putting = put-grows c d one grown (enable ∷ from ∷ []) part 1 (record {
    word = can.from_there.word;
    kind = (can.period, record { net = source; is = source-there; wide = refl; sign = refl }, zero-in source.width source.signed can.from_there.word);
    there = all-two (λ read. read < length d.nets) enable from (omega (arith, enable-inside, longer c d cd)) (omega (arith, from-inside, longer c d cd));
    allowed = all-two (MayRead c d (enable ∷ from ∷ [])) enable from (inl (0, omega arith, refl)) (inl (1, omega arith, refl));
    now = All-nil (MayReadNow c d (enable ∷ from ∷ []) (length c.nets));
    counted = λ other names. subst (λ (x : Frame). IsSome (counter_of d.nets x)) (same_Some frame other names) (counter-stays c d frame cd has);
  }) refl tt refl

  gating : Grows a b (from ∷ []) part 0
  gating = record {
    appends = grows-named.appends;
    parts = λ k net past there. gate-wider (λ other. other ≡ frame) net.kind (gate.grown.parts k net past there);
    registers = gate.grown.registers;
  } where
    grows-named : Grows a b (from ∷ []) (IsChoosing (λ other. other ≡ frame)) 0
    grows-named = grows-then a a b (from ∷ []) [] (IsChoosing (λ other. other ≡ frame)) (IsChoosing (λ other. other ≡ frame)) 0 0 (All-nil (IsNamed a a (from ∷ []))) (λ kind x. x)
        (grows-self a (from ∷ []) (IsChoosing (λ other. other ≡ frame))) gate.grown

  whole : Grows a d (from ∷ []) part 1
  whole = grows-then a c d (from ∷ []) (enable ∷ from ∷ []) part part 0 1
      (all-two (IsNamed a c (from ∷ [])) enable from (inr (gate.new, enable-inside)) (inl (0, omega arith, refl))) (λ kind x. x)
      (grows-then a b c (from ∷ []) [] part part 0 0 (All-nil (IsNamed a b (from ∷ []))) (λ kind x. x) gating counting) putting

  -- ---- rows

  abbrev Adds-up : ℕ → Rows → Type 0
  Adds-up n rows = IsAcc n (span_of a.cycles frame) source.width source.signed (rows enable) (rows from) (rows number)

  cycles : c.cycles ≡ a.cycles
  cycles = bc.cycles ∙ ab.cycles

  adds-up : InRows a d Adds-up
  adds-up = in-rows-last a c d Adds-up (extends-trans a b c ab bc)
      (in-rows-one c d one number Adds-up last grown
      (λ n inputs rows is. subst (λ (x : ℕ). IsAcc n (span_of x frame) source.width source.signed (rows enable) (rows from) (rows number)) cycles is))

  abbrev InItsWord : ℕ → Rows → Type 0
  InItsWord n rows = (x : ℕ) → x < n → InWord source.width source.signed (rows number x)

  in-its-word : InRows a d InItsWord
  in-its-word = in-rows-last a d d InItsWord ad (in-word-later d d number one (extends-self d) (ap (slice_get d.nets) last ∙ put-there c d one grown))

  gathers : InRows a d (λ n rows. Gathers n (span_of a.cycles frame) source.width source.signed slots (rows from) (rows number))
  gathers = in-rows-both a d
      (λ n rows. Gates n (span_of a.cycles frame) slots (rows enable))
      (λ n rows. Adds-up n rows × InItsWord n rows)
      (λ n rows. Gathers n (span_of a.cycles frame) source.width source.signed slots (rows from) (rows number))
      (in-rows-first a b d (λ n rows. Gates n (span_of a.cycles frame) slots (rows enable)) (extends-trans b c d bc cd) gate.shows)
      (in-rows-both a d Adds-up InItsWord (λ n rows. Adds-up n rows × InItsWord n rows) adds-up in-its-word (λ n rows p q. (p, q)))
      (λ n rows gates both. gathers-of accumulates n (span_of a.cycles frame) source.width source.signed slots (rows from) (rows enable) (rows number)
      (mul-lt 0 0 frame.period a.cycles can.period can.cycles) both.1 can.differ gates both.0)

  pub gathered-is : IsGathered a d frame from slots number
  gathered-is = record {
    shows = λ net is.
        let e : source ≡ net = same_Some source net (sym can.from_there.is ∙ is) in
        subst (λ (x : Net). InRows a d (λ n rows. Gathers n (span_of a.cycles frame) x.width x.signed slots (rows from) (rows number))) e gathers;
    word = λ net is.
        let e : source ≡ net = same_Some source net (sym can.from_there.is ∙ is) in
        record { net = one; is = ap (slice_get d.nets) last ∙ put-there c d one grown; wide = ap (λ (x : Net). x.width) e; sign = ap (λ (x : Net). x.signed) e };
    new = omega (arith, last, longer a b ab, longer b c bc);
    appends = whole.appends;
    parts = whole.parts;
    registers = whole.registers;
  }

-- the net that is gathered, as it is read behind its gate and the Counter
pub source-read : (a b c : Circuit) (frame : Frame) (from : ℕ) (slots : List ℕ) (enable : ℕ) (read : List Net) (result : Net) (can : CanGather a frame from slots) → IsGateAt a b frame slots enable
    → IsCounted b c frame → read ≡ c.nets → result ≡ get_or read from result → result ≡ can.from_there.net
source-read a b c frame from slots enable read result can gate counted same is =
    let extends = extends-trans a b c gate.grown.appends.extends (appends-counter b c [] frame can.period counted).extends in
    read-net c.nets read from can.from_there.net result same (still-there a c from can.from_there.net extends can.from_there.is) is

pub gathered-part : {E : Type 0} (result : Result ℕ E) → AccIsClosed → (a b c d : Circuit) (frame : Frame) (from : ℕ) (slots : List ℕ) (enable counter : ℕ)
    (can : CanGather a frame from slots) → IsGateAt a b frame slots enable
    → IsCounted b c frame → counter_of c.nets frame ≡ Some counter → IfOk result (λ number. number ≡ length c.nets)
    → OnOk result (d ≡ with_net c (record { signed = can.from_there.net.signed; width = can.from_there.net.width; kind = Acc frame enable from }))
    → IfOk result (λ number. IsGathered a d frame from slots number)
gathered-part (Ok number) accumulates a b c d frame from slots enable counter can gate counted found last grown =
    gathered-is accumulates a b c d frame from slots enable number counter can gate counted found last grown
gathered-part (Err e) accumulates a b c d frame from slots enable counter can gate counted found last grown = tt
