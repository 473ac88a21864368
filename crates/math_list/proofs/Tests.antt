-- Tests by `Bool`, of bytes and of options.
use Rattle.std.proofs.Common.{Bool, true, refl, false, ◌≡◌, true≢false, sym, cond, inl, inr, ◌⊎◌, Option, None, Some, List, ℕ, ap, ◌≢◌, ◌∙◌, bytes_eq, nat_lt, arith, ◌==◌, ℤ, int_lt, ◌<ℤ◌}
use Rattle.std.specs.Prelude.{◌&&◌, is_some, IsSome}
use Rattle.std.specs.Str.{bytes_eq}
use Rattle.std.proofs.lemmas.Slice.Eq.{bytes_eq-Decides}
use Rattle.std.proofs.lemmas.Bool.{true≢false, ltb-true, eqb-true, false≢true}
use Rattle.std.specs.Ordering.{is_eq}
use Rattle.std.specs.declared.cmp.Ordering.TheVariants.{Less, Equal, Greater}
use Rattle.std.proofs.lemmas.Int.{ints}

pub left_true : (a b : Bool) → (a && b) ≡ true → a ≡ true
left_true true b e = refl
left_true false b e = e

pub right_true : (a b : Bool) → (a && b) ≡ true → b ≡ true
right_true true b e = e
right_true false b e = let bad : false ≡ true = e in absurd (true≢false (sym bad))

pub and_false : (b : Bool) → (b && false) ≡ false
and_false true = refl
and_false false = refl

pub same_test : (a b : Bool) → (a ≡ true → b ≡ true) → (b ≡ true → a ≡ true) → a ≡ b
same_test true b to from = sym (to refl)
same_test false true to from = from refl
same_test false false to from = refl

pub cond_cases : {X : Type 0} (t : Bool) (x y z : X) → cond t x y ≡ z → ((t ≡ true) × (x ≡ z)) ⊎ ((t ≡ false) × (y ≡ z))
cond_cases true x y z h = inl (refl, h)
cond_cases false x y z h = inr (refl, h)

pub cond_some : {X : Type 0} (t : Bool) (x : Option X) (z : X) → cond t x None ≡ Some z → (t ≡ true) × (x ≡ Some z)
cond_some true x z h = (refl, h)
cond_some false x z h = cc

pub same_bytes : (xs : List ℕ) → bytes_eq xs xs ≡ true
same_bytes xs = (bytes_eq-Decides xs xs).1 refl

pub differ : (path other : List ℕ) → bytes_eq path other ≡ false → path ≢ other
differ path other h same = true≢false (sym (same_bytes path) ∙ ap (bytes_eq path) same ∙ h)

pub bytes_same : (a b : List ℕ) → a ≡ b → bytes_eq a b ≡ true
bytes_same a b e = (bytes_eq-Decides a b).1 e

pub unequal : (a b : List ℕ) → (a ≡ b → ⊥) → bytes_eq a b ≡ false
unequal a b ne = by (bytes_eq a b) refl where
  by : (t : Bool) → bytes_eq a b ≡ t → bytes_eq a b ≡ false
  by true e = absurd (ne ((bytes_eq-Decides a b).0 e))
  by false e = e

pub tied : (x y : ℕ) (less same : Bool) → nat_lt x y ≡ less → (x == y) ≡ same → is_eq (cond less Less (cond same Equal Greater)) ≡ same
tied x y true true p q =
    let below = ltb-true x y p in
    let one = eqb-true x y q in
    absurd (omega (arith, below, one))
tied x y true false p q = refl
tied x y false true p q = refl
tied x y false false p q = refl

pub some_of : {A : Type 0} (found : Option A) → is_some found ≡ true → (x : A) × (found ≡ Some x)
some_of None e = absurd (true≢false (sym e))
some_of (Some x) e = (x, refl)

pub none_of : {A : Type 0} (o : Option A) → is_some o ≡ false → o ≡ None
none_of None e = refl
none_of (Some x) e = absurd (false≢true (sym e))

pub some_there : (o : Option ℕ) → IsSome o → (x : ℕ) × (o ≡ Some x)
some_there None e = absurd (true≢false (sym e))
some_there (Some x) e = (x, refl)

pub lt-yes : (a b : ℤ) → a <ℤ b → int_lt a b ≡ true
lt-yes a b h = grind (arith, ints)
