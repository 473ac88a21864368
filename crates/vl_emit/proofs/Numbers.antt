-- The number that bits of a word show, and the bits of the number.
use Rattle.std.proofs.Common.{◌≡◌, ℕ, ◌-◌, ◌%◌, ◌^◌, ◌<◌, ◌≤◌, nat_le, Bool, true, false, List, Contains, find, bytes_eq, Option, None, Some, ℤ, pos, negsuc, ◌-ℤ◌, ap, sym, ◌∙◌, subst, refl, arith}
use Rattle.std.proofs.Common.{pow_pos}
use Rattle.std.proofs.lemmas.Int.{ints}
use Rattle.std.proofs.lemmas.Bool.{cond_both, leb-true, leb-false}
use Rattle.std.proofs.lemmas.Slice.Eq.{bytes_eq-Decides}
use Rattle.std.proofs.Math.Nat.{mod-eq_of_lt}
use Rattle.math_num.specs.Word.{IsWord, InWord, IsCongruent, IsWrapped}
use Rattle.math_num.proofs.Arithmetic.{double, IsCongruent-sym, IsCongruent-trans}
use Rattle.vl_ast.specs.declared.modules.Module.{Module}
use Rattle.vl_ast.specs.Context.{Net as DeclaredNet}
use Rattle.vl_ast.specs.Value.{number_of}
use Rattle.vl_ast.specs.Nets.{Declared, declarations, nets_of, net_or_none}
use Rattle.vl_ast.specs.Value.{bits_of}
use Rattle.math_num.proofs.Words.{size-half}
use Rattle.vl_emit.proofs.ModuleNets.{found-is}
use Rattle.vl_emit.proofs.OfOperations.{plain-back, width-at-least}
use Rattle.vl_emit.proofs.Operations.{number-back}
use Rattle.vl_emit.proofs.Twos.{bits-congruent}

-- numbers with the same bits are congruent
pub congruent-bits : (w : ℕ) (a b : ℤ) → bits_of w a ≡ bits_of w b → IsCongruent a b (2 ^ w)
congruent-bits w a b e =
    IsCongruent-trans (2 ^ w) (IsCongruent-sym (2 ^ w) (bits-congruent w a))
    (subst (λ (n : ℕ). IsCongruent (pos n) b (2 ^ w)) (sym e) (bits-congruent w b))

-- a number of the word, and its bits
record IsNumber (width : ℕ) (signed : Bool) (bits : ℕ) (z : ℤ) : Type 0 where
  pub in_word : InWord width signed z
  pub same : bits_of width z ≡ bits

negative : (w n : ℕ) → 1 ≤ w → n < 2 ^ w → 2 ^ (w - 1) ≤ n → IsNumber w true n (pos n -ℤ pos (2 ^ w))
negative w n h below half =
    let m : ℕ = 2 ^ w - 1 - n in
    let e : pos n -ℤ pos (2 ^ w) ≡ negsuc (2 ^ w - 1 - n) = omega (arith, ints, below) in
    let small : 2 ^ w - 1 - n < 2 ^ w = omega (arith, below) in
    let bits : bits_of w (negsuc (2 ^ w - 1 - n)) ≡ n = (let k : (2 ^ w - 1 - n) % 2 ^ w ≡ 2 ^ w - 1 - n = mod-eq_of_lt small in omega (arith, k, below)) in
    subst (IsNumber w true n) (sym e) (record {
      in_word = record { low = omega (arith, ints, half, below, double w h, pow_pos (w - 1)); high = omega (arith, ints, pow_pos (w - 1)) };
      same = bits;
    })

positive : (w n : ℕ) → 1 ≤ w → n < 2 ^ (w - 1) → IsNumber w true n (pos n)
positive w n h half = record {
  in_word = record { low = omega (arith, ints, pow_pos (w - 1)); high = omega (arith, ints, half) };
  same = mod-eq_of_lt (let d = double w h in omega (arith, half, d));
}

number-by : (w : ℕ) (signed : Bool) (n : ℕ) → IsWord w signed → n < 2 ^ w → IsNumber w signed n (number_of (record { width = w; signed = signed; bits = n }))
number-by w false n word below = record {
  in_word = record { low = omega (arith, ints); high = omega (arith, ints, below) };
  same = mod-eq_of_lt below;
}
number-by w true n word below =
    let h : 1 ≤ w = width-at-least true w word in
    cond_both (nat_le (2 ^ (w - 1)) n) (pos n -ℤ pos (2 ^ w)) (pos n) (IsNumber w true n)
    (λ is. negative w n h below (leb-true (2 ^ (w - 1)) n is))
    (λ is. positive w n h (leb-false (2 ^ (w - 1)) n is))

pub number-in_word : (w : ℕ) (signed : Bool) (n : ℕ) → IsWord w signed → n < 2 ^ w → InWord w signed (number_of (record { width = w; signed = signed; bits = n }))
number-in_word w signed n word below = (number-by w signed n word below).in_word

pub number-bits : (w : ℕ) (signed : Bool) (n : ℕ) → IsWord w signed → n < 2 ^ w → bits_of w (number_of (record { width = w; signed = signed; bits = n })) ≡ n
number-bits w signed n word below = (number-by w signed n word below).same

-- the bits of a number show it, cut to the word
pub number-wrapped : (w : ℕ) (signed : Bool) (n : ℕ) (z : ℤ) → IsWord w signed → n < 2 ^ w → n ≡ bits_of w z → IsWrapped z w signed (number_of (record { width = w; signed = signed; bits = n }))
number-wrapped w signed n z word below e = record {
  in_word = number-in_word w signed n word below;
  congruent = congruent-bits w (number_of (record { width = w; signed = signed; bits = n })) z (number-bits w signed n word below ∙ e);
}

number-back-by : (w : ℕ) (signed : Bool) (z : ℤ) → IsWord w signed → InWord w signed z → number_of (record { width = w; signed = signed; bits = bits_of w z }) ≡ z
number-back-by w true z word within = number-back w z (width-at-least true w word) (size-half w z within)
number-back-by w false z word within = plain-back false w w z refl word within (omega arith)

-- and where it is in the word, the number itself
pub number-is : (w : ℕ) (signed : Bool) (n : ℕ) (z : ℤ) → IsWord w signed → InWord w signed z → n ≡ bits_of w z → number_of (record { width = w; signed = signed; bits = n }) ≡ z
number-is w signed n z word within e =
    ap (λ (b : ℕ). number_of (record { width = w; signed = signed; bits = b })) e ∙ number-back-by w signed z word within

-- what a module gives a width is declared
pub record HasDeclaration (m : Module) (name : List ℕ) (net : DeclaredNet) : Type 0 where
  pub declared : Declared
  pub there : Contains (declarations m) declared
  pub name_is : declared.name ≡ name
  pub net_is : declared.net ≡ net

declaration-by : (m : Module) (name : List ℕ) (net : DeclaredNet) (o : Option Declared) → find (λ declared. bytes_eq declared.name name) (declarations m) ≡ o
    → net_or_none o ≡ net → 1 ≤ net.width → HasDeclaration m name net
declaration-by m name net None is e h = absurd (let f : 0 ≡ net.width = ap (λ (n : DeclaredNet). n.width) e in omega (arith, f, h))
declaration-by m name net (Some d) is e h =
    let f = found-is (λ (declared : Declared). bytes_eq declared.name name) (declarations m) d is in
    record { declared = d; there = f.0; name_is = (bytes_eq-Decides d.name name).0 f.1; net_is = e }

pub declaration-there : (m : Module) (name : List ℕ) (w : ℕ) (signed : Bool)
    → nets_of m name ≡ record { width = w; signed = signed } → 1 ≤ w
    → HasDeclaration m name (record { width = w; signed = signed })
declaration-there m name w signed e h =
    declaration-by m name (record { width = w; signed = signed }) (find (λ declared. bytes_eq declared.name name) (declarations m)) refl e h
