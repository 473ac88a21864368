-- A chain that grows by one register, and what is kept of it as the netlist grows.
use Rattle.std.proofs.Common.{◌≡◌, ℕ, zero, suc, ◌+◌, ◌-◌, ◌*◌, ◌<◌, inl, inr, List, [], ◌∷◌, ◌++◌, length, Contains, None, Some, ℤ, sym, ◌∙◌, subst, arith, refl}
use Rattle.std.proofs.lemmas.Bool.{cases_lt}
use Rattle.std.proofs.lemmas.Option.{slice_get_within}
use Rattle.std.proofs.lemmas.Nat.{mul-lt}
use Rattle.hw_net.specs.declared.netlist.Frame.{Frame}
use Rattle.hw_net.specs.declared.netlist.NetKind.{NetKind}
use Rattle.hw_net.specs.declared.netlist.NetKind.TheVariants.{Comb, Reg, EnReg, Acc, Bridge, Unit, Counter}
use Rattle.hw_net.specs.Circuit.{Circuit}
use Rattle.hw_net.specs.Netlist.{HasWord}
use Rattle.hw_net.specs.NetRows.{span_of}
use Rattle.hw_net.specs.Registers.{IsReg}
use Rattle.hw_net.specs.Growing.{Extends}
use Rattle.hw_net.proofs.Growth.{IsNamed, longer, still-there, stood-there, word-stays, in-rows-first, in-rows-last, in-rows-both, in-rows-all, appends-self, appends-trans}
use Rattle.math_list.proofs.Places.{split-last}
use Rattle.hw_lines.specs.declared.source.Source.{Source}
use Rattle.hw_lines.specs.Chain.{IsSource, IsPart, IsAnswer}
use Rattle.hw_net.specs.Growing.{IsNewReg}
use Rattle.hw_lines.specs.Taps.{IsTap, TapSteps}
use Rattle.hw_lines.specs.Register.{CanHold, Grows, SameWord, IsHeld}
use Rattle.hw_lines.specs.inner.Parts.{IsTapAt, AreTaps}

pub source-there : (a : Circuit) (source : Source) → IsSource a source → CanHold a source.from source.first
source-there a source is = record { there = record { net = is.net; is = is.is; word = is.word }; has_first = is.first }

same-word : (a b : Circuit) (from number : ℕ) (first : ℤ) → CanHold a from first → SameWord a b from number → CanHold b number first
same-word a b from number first can same =
    let has : HasWord b.nets number can.there.net.width can.there.net.signed = same can.there.net can.there.is in
    record {
      there = record { net = has.net; is = has.is; word = rw (has.wide, has.sign) can.there.word };
      has_first = rw (has.wide, has.sign) can.has_first;
    }

-- a tap can be held by a register of the source's first number
pub tap-can-hold : (a b : Circuit) (source : Source) (k number : ℕ) → IsSource a source → IsTapAt a b source k number → CanHold b number source.first
tap-can-hold a b source k number is tap = same-word a b source.from number source.first (source-there a source is) tap.word

reg-stays : (a b c : Circuit) (number : ℕ) → Extends b c → IsNewReg a b number → IsNewReg a c number
reg-stays a b c number p is = record { frame = is.frame; slot = is.slot; first = is.first; from = is.from; net = is.net; is = still-there b c number is.net p is.is; holds = is.holds; new = is.new }

pub reg-earlier : (a b c : Circuit) (number : ℕ) → Extends a b → IsNewReg b c number → IsNewReg a c number
reg-earlier a b c number p is = record { frame = is.frame; slot = is.slot; first = is.first; from = is.from; net = is.net; is = is.is; holds = is.holds; new = omega (arith, is.new, longer a b p) }

word-later : (a b c : Circuit) (from number : ℕ) → Extends b c → SameWord a b from number → SameWord a c from number
word-later a b c from number p same = λ net is. word-stays b c number net.width net.signed p (same net is)

-- the word of a net that has the word of another
pub word-of-word : (a b c : Circuit) (from middle number : ℕ) → SameWord a b from middle → SameWord b c middle number → SameWord a c from number
word-of-word a b c from middle number p q = λ net is.
    let has : HasWord b.nets middle net.width net.signed = p net is in
    let last : HasWord c.nets number has.net.width has.net.signed = q has.net has.is in
    record { net = last.net; is = last.is; wide = last.wide ∙ has.wide; sign = last.sign ∙ has.sign }

pub tap-stays : (a b c : Circuit) (source : Source) (k number : ℕ) → Extends b c → IsTapAt a b source k number → IsTapAt a c source k number
tap-stays a b c source k number p tap = record {
  shows = in-rows-first a b c (λ n rows. IsTap n (span_of a.cycles source.frame) k source.first (rows source.from) (rows number)) p tap.shows;
  word = word-later a b c source.from number p tap.word;
  stands = elim tap.stands [
    | inl itself ↦ inl itself
    | inr new ↦ inr (reg-stays a b c number p new)
  ];
}

pub taps-stay : (a b c : Circuit) (source : Source) (taps : List ℕ) → Extends b c → AreTaps a b source taps → AreTaps a c source taps
taps-stay a b c source taps p are = record { each = λ k number there. tap-stays a b c source k number p (are.each k number there) }

pub answer-stays : (a b c : Circuit) (source : Source) (reader : Frame) (number : ℕ) → Extends b c → IsAnswer a b source reader number → IsAnswer a c source reader number
answer-stays a b c source reader number p is = record {
  shows = in-rows-first a b c _ p is.shows;
  word = word-later a b c source.from number p is.word;
  holds = λ registered. reg-stays a b c number p (is.holds registered);
  stands = is.stands;
}

span-some : (a : Circuit) (source : Source) → 0 < a.cycles → IsSource a source → 0 < (span_of a.cycles source.frame).length
span-some a source some is = mul-lt 0 0 source.frame.period a.cycles is.some some

-- the source is its own tap 0
pub tap-itself : TapSteps → (a : Circuit) (source : Source) → 0 < a.cycles → IsSource a source → IsTapAt a a source 0 source.from
tap-itself steps a source some is = record {
  shows = in-rows-all a a (λ n rows. IsTap n (span_of a.cycles source.frame) 0 source.first (rows source.from) (rows source.from))
      (λ n rows. (steps n (span_of a.cycles source.frame) source.first (rows source.from) (span-some a source some is)).0);
  word = λ net there. record { net = net; is = there; wide = refl; sign = refl };
  stands = inl (refl, refl);
}

-- a register behind a tap is the next
pub tap-behind : TapSteps → (a b c : Circuit) (source : Source) (k last slot number : ℕ) → 0 < a.cycles → IsSource a source → Extends a b → Extends b c → slot ≡ source.frame.period * a.cycles - 1
    → IsTapAt a b source k last → IsHeld b c last source.frame slot source.first number → IsTapAt a c source (k + 1) number
tap-behind steps a b c source k last slot number some is p q at tap held = record {
  shows = in-rows-both a c
      (λ n rows. IsTap n (span_of a.cycles source.frame) k source.first (rows source.from) (rows last))
      (λ n rows. IsReg n (span_of b.cycles source.frame) slot source.first (rows last) (rows number))
      (λ n rows. IsTap n (span_of a.cycles source.frame) (k + 1) source.first (rows source.from) (rows number))
      (in-rows-first a b c (λ n rows. IsTap n (span_of a.cycles source.frame) k source.first (rows source.from) (rows last)) q tap.shows)
      (in-rows-last a b c (λ n rows. IsReg n (span_of b.cycles source.frame) slot source.first (rows last) (rows number)) p held.shows)
      (λ n rows shown reg. (steps n (span_of a.cycles source.frame) source.first (rows source.from) (span-some a source some is)).1 k (rows last) (rows number) shown
      (subst (λ (s : ℕ). IsReg n (span_of a.cycles source.frame) s source.first (rows last) (rows number)) at
      (subst (λ (x : ℕ). IsReg n (span_of x source.frame) slot source.first (rows last) (rows number)) p.cycles reg)));
  word = word-of-word a b c source.from last number tap.word held.word;
  stands = inr (reg-earlier a b c number p held.new);
}

-- a tap is the source or was put in
pub tap-named : (a b : Circuit) (source : Source) (k number : ℕ) → IsTapAt a b source k number → (read : ℕ) → Contains (number ∷ []) read → IsNamed a b (source.from ∷ []) read
tap-named a b source k number tap read named =
    let same : read ≡ number = one-of read number named in
    rw same (elim tap.stands [
      | inl itself ↦ inl (rw itself.1 (here source.from))
      | inr new ↦ inr (new.new, slice_get_within b.nets number new.net new.is)
    ])
  where
    here : (x : ℕ) → Contains (x ∷ []) x
    here x = (0, omega arith, refl)

    one-of : (x y : ℕ) → Contains (y ∷ []) x → x ≡ y
    one-of x y (zero, within, is) = sym is
    one-of x y (suc k, within, is) = absurd (omega (arith, within))

part-wider : (bridges more : Type 0) (frames others : Frame → Type 0) (kind : NetKind) → (bridges → more)
    → ((frame : Frame) → frames frame → others frame) → IsPart bridges frames kind → IsPart more others kind
part-wider bridges more frames others (Comb op args) f g is = is
part-wider bridges more frames others (Reg frame slot first from) f g is = is
part-wider bridges more frames others (EnReg frame enable reset first from) f g is = is
part-wider bridges more frames others (Acc frame enable from) f g is = is
part-wider bridges more frames others (Bridge frame live from) f g is = f is
part-wider bridges more frames others (Unit left right) f g is = is
part-wider bridges more frames others (Counter frame) f g is = g frame is

pub grows-trans : (a b c : Circuit) (from last : ℕ) (bridges more : Type 0) (frames others : Frame → Type 0) → (bridges → more) → ((frame : Frame) → frames frame → others frame)
    → ((read : ℕ) → Contains (last ∷ []) read → IsNamed a b (from ∷ []) read) → Grows a b from more others → Grows b c last bridges frames → Grows a c from more others
grows-trans a b c from last bridges more frames others f g named p q = record {
  appends = appends-trans a b c (from ∷ []) (last ∷ []) named p.appends q.appends;
  parts = λ k net past there.
      elim (cases_lt k (length b.nets)) [
        | inl less ↦ p.parts k net past (stood-there b c k net q.appends.extends less there)
        | inr more_nets ↦ part-wider bridges more frames others net.kind f g (q.parts k net more_nets there)
      ];
}

pub grows-wider : (a b : Circuit) (from : ℕ) (bridges more : Type 0) (frames others : Frame → Type 0)
    → (bridges → more) → ((frame : Frame) → frames frame → others frame) → Grows a b from bridges frames
    → Grows a b from more others
grows-wider a b from bridges more frames others f g p = record {
  appends = p.appends;
  parts = λ k net past there. part-wider bridges more frames others net.kind f g (p.parts k net past there);
}

-- one more tap at the end
pub taps-more : (a c : Circuit) (source : Source) (taps : List ℕ) (number : ℕ) → AreTaps a c source taps → IsTapAt a c source (length taps) number → AreTaps a c source (taps ++ number ∷ [])
taps-more a c source taps number are last = record {
  each = λ k other there.
      elim (split-last taps number other k there) [
        | inl front ↦ are.each k other front.1
        | inr end ↦ subst (λ (i : ℕ). IsTapAt a c source i other) (sym end.0) (subst (IsTapAt a c source (length taps)) end.1 last)
      ];
}

pub taps-first : TapSteps → (a : Circuit) (source : Source) → 0 < a.cycles → IsSource a source → AreTaps a a source (source.from ∷ [])
taps-first steps a source some is = taps-more a a source [] source.from (record { each = λ k number there. absurd (none-there number there) }) (tap-itself steps a source some is)
  where
    none-there : {A : Type 0} (x : A) → None ≡ Some x → ⊥
    none-there x e = cc

pub grows-self : (a : Circuit) (from : ℕ) (bridges : Type 0) (frames : Frame → Type 0) → Grows a a from bridges frames
grows-self a from bridges frames = record {
  appends = appends-self a (from ∷ []);
  parts = λ k net past there. absurd (omega (arith, slice_get_within a.nets k net there, past));
}
