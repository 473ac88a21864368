-- What the wrapper's expressions give in a row.
use Rattle.std.proofs.Common.{◌≡◌, ℕ, zero, suc, ◌+◌, ◌-◌, ◌%◌, ◌^◌, ◌<◌, ◌==◌, max, Bool, true, false, not, ◌&&◌, ◌||◌, if◌then◌else◌, List, refl, ap, ◌∙◌, arith}
use Rattle.std.proofs.Math.Nat.{mod-eq_of_lt}
use Rattle.vl_ast.specs.declared.expressions.UnOp.TheVariants.{IsZero}
use Rattle.vl_ast.specs.declared.expressions.BinOp.TheVariants.{Add, Subtract, Equal, Both, Either}
use Rattle.vl_ast.specs.declared.expressions.Expr.{Expr}
use Rattle.vl_ast.specs.declared.expressions.Expr.TheVariants.{Name, Binary, Choose}
use Rattle.vl_ast.specs.Context.{Net, own_length, is_signed}
use Rattle.vl_ast.specs.Value.{assigned, assigned_number, extended, is_true, truth, value_in}
use Rattle.st_wrap.specs.inner.Columns.{plain}
use Rattle.st_wrap.specs.inner.Control.{is_zero, number}
use Rattle.vl_ast.proofs.Copies.{extended-same, one-width}
use Rattle.vl_ast.proofs.Forms.{length-Name, length-Literal, length-Binary, length-Choose, sign-Name, sign-Literal, sign-Binary, sign-Choose, value-Name, value-Literal, value-Unary, value-Binary}
use Rattle.vl_ast.proofs.Forms.{value-Choose}

-- ---- truth

pub truth-zero : (b : Bool) → (truth b == 0) ≡ not b
truth-zero true = refl
truth-zero false = refl

pub truth-one : (b : Bool) → (truth b == 1) ≡ b
truth-one true = refl
truth-one false = refl

truth-cut : (b : Bool) → truth b % 2 ^ 1 ≡ truth b
truth-cut true = refl
truth-cut false = refl

twice-not : (b : Bool) → not (not b) ≡ b
twice-not true = refl
twice-not false = refl

-- a bit isn't 0 where it is 1
pub bit-one : (n : ℕ) → n < 2 ^ 1 → not (n == 0) ≡ (n == 1)
bit-one zero below = refl
bit-one (suc zero) below = refl
bit-one (suc (suc n)) below = absurd (omega (arith, below))

-- the bits of an expression that stands alone
abbrev alone_bits : (List ℕ → Net) → (List ℕ → ℕ) → Expr → ℕ
alone_bits nets row e = value_in nets row (own_length nets e) (is_signed nets e) e

module _ (nets : List ℕ → Net) (row : List ℕ → ℕ) where
  pub alone-Name : (x : List ℕ) → alone_bits nets row (Name x) ≡ row x
  alone-Name x =
      value-Name nets row (own_length nets (Name x)) (is_signed nets (Name x)) x
      ∙ ap (λ w. extended (record { width = (nets x).width; signed = is_signed nets (Name x); bits = row x }) w) (length-Name nets x)
      ∙ extended-same (nets x).width (is_signed nets (Name x)) (row x)

  -- an expression that is 1 where this holds and else 0, wherever it stands
  abbrev pub Tells : Expr → Bool → Type 0
  Tells e b = (width : ℕ) (signed : Bool) → value_in nets row width signed e ≡ truth b

  pub alone-tells : (e : Expr) (b : Bool) → Tells e b → alone_bits nets row e ≡ truth b
  alone-tells e b t = t (own_length nets e) (is_signed nets e)

  pub assigned-tells : (e : Expr) (b : Bool) → Tells e b → assigned nets row 1 e ≡ truth b
  assigned-tells e b t = ap (λ n. n % 2 ^ 1) (t (max 1 (own_length nets e)) (is_signed nets e)) ∙ truth-cut b

  pub true-tells : (e : Expr) (b : Bool) → Tells e b → is_true nets row e ≡ b
  true-tells e b t = ap (λ n. not (n == 0)) (alone-tells e b t) ∙ ap not (truth-zero b) ∙ twice-not b

  pub tells-zero : (x : List ℕ) → Tells (is_zero x) (row x == 0)
  tells-zero x width signed = value-Unary nets row width signed IsZero (Name x) ∙ ap (λ n. truth (n == 0)) (alone-Name x)

  pub tells-both : (l r : Expr) (a b : ℕ) → alone_bits nets row l ≡ a → alone_bits nets row r ≡ b → Tells (Binary Both l r) (not (a == 0) && not (b == 0))
  tells-both l r a b e f width signed = value-Binary nets row width signed Both l r ∙ (λ i. truth (not (e i == 0) && not (f i == 0)))

  pub tells-either : (l r : Expr) (a b : ℕ) → alone_bits nets row l ≡ a → alone_bits nets row r ≡ b → Tells (Binary Either l r) (not (a == 0) || not (b == 0))
  tells-either l r a b e f width signed = value-Binary nets row width signed Either l r ∙ (λ i. truth (not (e i == 0) || not (f i == 0)))

  pub plain-Name : (width : ℕ) (x : List ℕ) → value_in nets row width false (Name x) ≡ row x
  plain-Name width x = value-Name nets row width false x

  pub plain-number : (width own bits : ℕ) → value_in nets row width false (number own bits) ≡ bits
  plain-number width own bits = value-Literal nets row width false (plain own bits)

  pub unsigned-Name : (x : List ℕ) (e : Expr) → (nets x).signed ≡ false → (is_signed nets (Name x) && is_signed nets e) ≡ false
  unsigned-Name x e off = ap (λ b. b && is_signed nets e) (sign-Name nets x ∙ off)

  pub unsigned-number : (own bits : ℕ) (e : Expr) → (is_signed nets (number own bits) && is_signed nets e) ≡ false
  unsigned-number own bits e = ap (λ b. b && is_signed nets e) (sign-Literal nets (plain own bits))

  pub tells-equal : (x : List ℕ) (own bits : ℕ) → (nets x).signed ≡ false → Tells (Binary Equal (Name x) (number own bits)) (row x == bits)
  tells-equal x own bits off width signed =
      let l = own_length nets (Name x) in
      let r = own_length nets (number own bits) in
      let left : value_in nets row (max l r) (is_signed nets (Name x) && is_signed nets (number own bits)) (Name x) ≡ row x =
      ap (λ s. value_in nets row (max l r) s (Name x)) (unsigned-Name x (number own bits) off) ∙ plain-Name (max l r) x in
      let right : value_in nets row (max r l) (is_signed nets (number own bits) && is_signed nets (Name x)) (number own bits) ≡ bits =
      ap (λ s. value_in nets row (max r l) s (number own bits)) (unsigned-number own bits (Name x)) ∙ plain-number (max r l) own bits in
      value-Binary nets row width signed Equal (Name x) (number own bits) ∙ (λ i. truth (left i == right i))

  -- ---- the next numbers of the counters

  module _ (w : ℕ) (x : List ℕ) (is : nets x ≡ record { width = w; signed = false }) where
    width-is : own_length nets (Name x) ≡ w
    width-is = length-Name nets x ∙ ap (λ (n : Net). n.width) is

    off : (nets x).signed ≡ false
    off = ap (λ (n : Net). n.signed) is

    add-length : own_length nets (Binary Add (Name x) (number w 1)) ≡ w
    add-length = length-Binary nets Add (Name x) (number w 1) ∙ (λ i. max (width-is i) (length-Literal nets (plain w 1) i)) ∙ one-width w

    take-length : own_length nets (Binary Subtract (Name x) (number w 1)) ≡ w
    take-length = length-Binary nets Subtract (Name x) (number w 1) ∙ (λ i. max (width-is i) (length-Literal nets (plain w 1) i)) ∙ one-width w

    take-sign : (is_signed nets (Binary Subtract (Name x) (number w 1)) && is_signed nets (number w 0)) ≡ false
    take-sign = ap (λ b. b && is_signed nets (number w 0)) (sign-Binary nets Subtract (Name x) (number w 1) ∙ unsigned-Name x (number w 1) off)

    add-value : value_in nets row w false (Binary Add (Name x) (number w 1)) ≡ (row x + 1) % 2 ^ w
    add-value = value-Binary nets row w false Add (Name x) (number w 1) ∙ (λ i. (plain-Name w x i + plain-number w w 1 i) % 2 ^ w)

    take-value : value_in nets row w false (Binary Subtract (Name x) (number w 1)) ≡ (row x + (2 ^ w - 1)) % 2 ^ w
    take-value = value-Binary nets row w false Subtract (Name x) (number w 1) ∙ (λ i. (plain-Name w x i + (2 ^ w - plain-number w w 1 i)) % 2 ^ w)

    -- a choice whose parts have this width and no sign
    chosen : (t c o : Expr) (a b : ℕ) → own_length nets c ≡ w → own_length nets o ≡ w → (is_signed nets c && is_signed nets o) ≡ false
        → value_in nets row w false c ≡ a → value_in nets row w false o ≡ b
        → assigned nets row w (Choose t c o) ≡ (if alone_bits nets row t == 0 then b else a) % 2 ^ w
    chosen t c o a b lc lo s vc vo =
        let length : max w (own_length nets (Choose t c o)) ≡ w = ap (λ n. max w n) (length-Choose nets t c o ∙ (λ i. max (lc i) (lo i)) ∙ one-width w) ∙ one-width w in
        let sign : is_signed nets (Choose t c o) ≡ false = sign-Choose nets t c o ∙ s in
        (λ i. value_in nets row (length i) (sign i) (Choose t c o) % 2 ^ w)
        ∙ ap (λ n. n % 2 ^ w) (value-Choose nets row w false t c o ∙ (λ i. if alone_bits nets row t == 0 then vo i else vc i))

    pub up-value : (t : List ℕ) → assigned nets row w (Choose (Name t) (number w 0) (Binary Add (Name x) (number w 1)))
        ≡ (if row t == 0 then (row x + 1) % 2 ^ w else 0) % 2 ^ w
    up-value t =
        chosen (Name t) (number w 0) (Binary Add (Name x) (number w 1)) 0 ((row x + 1) % 2 ^ w)
        (length-Literal nets (plain w 0)) add-length (unsigned-number w 0 (Binary Add (Name x) (number w 1))) (plain-number w w 0) add-value
        ∙ ap (λ n. (if n == 0 then (row x + 1) % 2 ^ w else 0) % 2 ^ w) (alone-Name t)

    pub down-value : assigned nets row w (Choose (Name x) (Binary Subtract (Name x) (number w 1)) (number w 0))
        ≡ (if row x == 0 then 0 else (row x + (2 ^ w - 1)) % 2 ^ w) % 2 ^ w
    down-value =
        chosen (Name x) (Binary Subtract (Name x) (number w 1)) (number w 0) ((row x + (2 ^ w - 1)) % 2 ^ w) 0
        take-length (length-Literal nets (plain w 0)) take-sign take-value (plain-number w w 0)
        ∙ ap (λ n. (if n == 0 then 0 else (row x + (2 ^ w - 1)) % 2 ^ w) % 2 ^ w) (alone-Name x)

-- the reset value of a register is the number
pub assigned-plain : (w bits : ℕ) → bits < 2 ^ w → assigned_number w (plain w bits) ≡ bits
assigned-plain w bits below = ap (λ n. n % 2 ^ w) refl ∙ mod-eq_of_lt below
