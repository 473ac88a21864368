-- Netlists that grow by such parts, and what is kept of them.
use Rattle.std.proofs.Common.{◌≡◌, ℕ, ◌+◌, inl, inr, List, [], ◌∷◌, length, All, Some, slice_get, ap, sym, ◌∙◌, arith, refl}
use Rattle.std.proofs.lemmas.Bool.{cases_lt}
use Rattle.std.proofs.lemmas.Option.{slice_get_within, same_Some}
use Rattle.std.proofs.lemmas.List.Elements.{All-nil, All-cons, All-contains}
use Rattle.hw_net.specs.declared.netlist.Frame.{Frame}
use Rattle.hw_net.specs.declared.netlist.Net.{Net}
use Rattle.hw_net.specs.declared.netlist.NetKind.{NetKind}
use Rattle.hw_net.specs.declared.netlist.NetKind.TheVariants.{Counter}
use Rattle.hw_net.specs.Circuit.{Circuit}
use Rattle.hw_net.specs.Netlist.{HasWord}
use Rattle.hw_net.specs.Growing.{Extends}
use Rattle.hw_net.proofs.Growth.{longer, still-there, stood-there, word-stays, appends-self, appends-trans}
use Rattle.hw_share.specs.Operations.{SameWord}
use Rattle.hw_lines.specs.Register.{IsThere}
use Rattle.hw_share.specs.inner.Parts.{IsNamed, Grows, IsChoosing, IsKeeping}

pub all-two : (P : ℕ → Type 0) (x y : ℕ) → P x → P y → All P (x ∷ y ∷ [])
all-two P x y p q = All-cons P x (y ∷ []) p (All-cons P y [] q (All-nil P))

pub all-three : (P : ℕ → Type 0) (x y z : ℕ) → P x → P y → P z → All P (x ∷ y ∷ z ∷ [])
all-three P x y z p q r = All-cons P x (y ∷ z ∷ []) p (all-two P y z q r)

pub grows-self : (a : Circuit) (named : List ℕ) (part : NetKind → Type 0) → Grows a a named part 0
grows-self a named part = record {
  appends = appends-self a named;
  parts = λ k net past there. absurd (omega (arith, slice_get_within a.nets k net there, past));
  registers = omega arith;
}

pub grows-then : (a b c : Circuit) (named more : List ℕ) (part other : NetKind → Type 0) (m n : ℕ) → All (IsNamed a b named) more → ((kind : NetKind) → other kind → part kind)
    → Grows a b named part m → Grows b c more other n → Grows a c named part (m + n)
grows-then a b c named more part other m n all wider p q = record {
  appends = appends-trans a b c named more (λ read names. All-contains (IsNamed a b named) more read all names) p.appends q.appends;
  parts = λ k net past there.
      elim (cases_lt k (length b.nets)) [
        | inl less ↦ p.parts k net past (stood-there b c k net q.appends.extends less there)
        | inr beyond ↦ wider net.kind (q.parts k net beyond there)
      ];
  registers = omega (arith, p.registers, q.registers);
}

pub grows-wider : (a b : Circuit) (named : List ℕ) (part other : NetKind → Type 0) (n : ℕ) → ((kind : NetKind) → part kind → other kind) → Grows a b named part n → Grows a b named other n
grows-wider a b named part other n wider p = record {
  appends = p.appends;
  parts = λ k net past there. wider net.kind (p.parts k net past there);
  registers = p.registers;
}

pub choosing-wider : (frames others : Frame → Type 0) → ((frame : Frame) → frames frame → others frame) → (kind : NetKind) → IsChoosing frames kind → IsChoosing others kind
choosing-wider frames others f (Counter frame) is = f frame is
choosing-wider frames others f _ is = is

pub keeping-wider : (frames others : Frame → Type 0) → ((frame : Frame) → frames frame → others frame) → (kind : NetKind) → IsKeeping frames kind → IsKeeping others kind
keeping-wider frames others f (Counter frame) is = f frame is
keeping-wider frames others f _ is = is

-- the word of a net that has the word of another
pub word-then : (a b c : Circuit) (from middle number : ℕ) → SameWord a b from middle → SameWord b c middle number → SameWord a c from number
word-then a b c from middle number p q = λ net is.
    let has : HasWord b.nets middle net.width net.signed = p net is in
    let last : HasWord c.nets number has.net.width has.net.signed = q has.net has.is in
    record { net = last.net; is = last.is; wide = last.wide ∙ has.wide; sign = last.sign ∙ has.sign }

pub word-later : (a b c : Circuit) (from number : ℕ) → Extends b c → SameWord a b from number → SameWord a c from number
word-later a b c from number p same = λ net is. word-stays b c number net.width net.signed p (same net is)

-- a net keeps its word
pub word-itself : (a b : Circuit) (number : ℕ) → Extends a b → SameWord a b number number
word-itself a b number p = λ net is. record { net = net; is = still-there a b number net p is; wide = refl; sign = refl }

-- what is said of the word of a net that was there before
pub word-from : (a b c : Circuit) (from number : ℕ) (net : Net) → Extends a b → slice_get a.nets from ≡ Some net → SameWord a c from number → SameWord b c from number
word-from a b c from number net p is same = λ other there.
    let e : net ≡ other = same_Some net other (sym (still-there a b from net p is) ∙ there) in
    let has : HasWord c.nets number net.width net.signed = same net is in
    record { net = has.net; is = has.is; wide = has.wide ∙ ap (λ (x : Net). x.width) e; sign = has.sign ∙ ap (λ (x : Net). x.signed) e }

pub there-later : (a b : Circuit) (number : ℕ) → Extends a b → IsThere a number → IsThere b number
there-later a b number p is = record { net = is.net; is = still-there a b number is.net p is.is; word = is.word }

pub named-later : (a b c : Circuit) (named : List ℕ) (read : ℕ) → Extends b c → IsNamed a b named read → IsNamed a c named read
named-later a b c named read p is =
    elim is [
      | inl first ↦ inl first
      | inr put ↦ inr (put.0, omega (arith, put.1, longer b c p))
    ]
