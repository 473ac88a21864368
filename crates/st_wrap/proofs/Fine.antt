-- The wrapper's own expressions are sound.
use Rattle.std.proofs.Common.{◌≡◌, ℕ, zero, suc, ◌-◌, ◌*◌, ◌^◌, ◌<◌, ◌≤◌, max, nat_le, Bool, true, ◌&&◌, List, refl, sym, ap, ◌∙◌, arith, pow-suc, mul_comm}
use Rattle.std.proofs.lemmas.Bool.{le-leb, lt-ltb}
use Rattle.vl_ast.specs.declared.expressions.UnOp.TheVariants.{IsZero}
use Rattle.vl_ast.specs.declared.expressions.BinOp.{BinOp}
use Rattle.vl_ast.specs.declared.expressions.BinOp.TheVariants.{Both}
use Rattle.vl_ast.specs.declared.expressions.Expr.{Expr}
use Rattle.vl_ast.specs.declared.expressions.Expr.TheOpen.{Expr-F}
use Rattle.vl_ast.specs.declared.expressions.Expr.TheVariants.{Name, Binary, Choose, rolls-Name, rolls-Literal, rolls-Unary, rolls-Binary, rolls-Choose}
use Rattle.vl_ast.specs.declared.expressions.Expr.TheViews.{roll-Expr}
use Rattle.vl_ast.specs.declared.expressions.Expr.TheFolds.{map-Expr, para-Expr, para-roll-Expr}
use Rattle.vl_ast.specs.Conditions.{is_narrow, is_number, is_sound, is_sound_step, is_width}
use Rattle.vl_ast.specs.Context.{Net, binary_place, length_at, own_length}
use Rattle.st_wrap.specs.inner.Columns.{plain}
use Rattle.st_wrap.specs.inner.Control.{both, is_zero, number}
use Rattle.vl_ast.proofs.Forms.{length-Binary, length-Choose, length-Literal, length-Name}
use Rattle.vl_ast.proofs.Values.{own_length-roll}

-- a width that a net may have
pub is-width : (w : ℕ) → 1 ≤ w → w ≤ 128 → is_width w ≡ true
is-width w a b = (λ i. le-leb 1 w a i && le-leb w 128 b i)

pub is-number : (w bits : ℕ) → 1 ≤ w → w ≤ 128 → bits < 2 ^ w → is_number (plain w bits) ≡ true
is-number w bits a b small = (λ i. is-width w a b i && lt-ltb bits (2 ^ w) small i)

module _ (nets : List ℕ → Net) where
  abbrev sound : Expr → Bool
  sound e = para-Expr Bool (is_sound_step nets) e

  abbrev with_sound : Expr → Expr × Bool
  with_sound e = (e, para-Expr Bool (is_sound_step nets) e)

  rolled : (x : Expr-F Expr) → para-Expr Bool (is_sound_step nets) (roll-Expr x) ≡ is_sound_step nets (map-Expr Expr (Expr × Bool) with_sound x)
  rolled x = para-roll-Expr Bool (is_sound_step nets) x

  -- a sound expression of this length
  pub record IsFine (w : ℕ) (e : Expr) : Type 0 where
    pub parts : para-Expr Bool (is_sound_step nets) e ≡ true
    pub length : own_length nets e ≡ w
    pub narrow : w ≤ 128

  pub fine-sound : (w : ℕ) (e : Expr) → IsFine w e → is_sound nets e ≡ true
  fine-sound w e f = (λ i. f.parts i && nat_le (f.length i) 128) ∙ le-leb w 128 f.narrow

  narrow-true : (w : ℕ) (e : Expr) → IsFine w e → is_narrow nets (with_sound e) ≡ true
  narrow-true w e f = fine-sound w e f

  pub fine-Name : (x : List ℕ) (w : ℕ) → (nets x).width ≡ w → w ≤ 128 → IsFine w (Name x)
  fine-Name x w e low = record { parts = ap (para-Expr Bool (is_sound_step nets)) (sym (rolls-Name x)) ∙ rolled (Expr-F.Name x); length = length-Name nets x ∙ e; narrow = low }

  pub fine-number : (w bits : ℕ) → 1 ≤ w → w ≤ 128 → bits < 2 ^ w → IsFine w (number w bits)
  fine-number w bits a b small = record {
    parts = ap (para-Expr Bool (is_sound_step nets)) (sym (rolls-Literal (plain w bits))) ∙ rolled (Expr-F.Literal (plain w bits)) ∙ is-number w bits a b small;
    length = length-Literal nets (plain w bits);
    narrow = b;
  }

  pub fine-zero : (x : List ℕ) (w : ℕ) → (nets x).width ≡ w → w ≤ 128 → IsFine 1 (is_zero x)
  fine-zero x w e low = record {
    parts = ap (para-Expr Bool (is_sound_step nets)) (sym (rolls-Unary IsZero (Name x))) ∙ rolled (Expr-F.Unary IsZero (Name x)) ∙ narrow-true w (Name x) (fine-Name x w e low);
    length = ap (own_length nets) (sym (rolls-Unary IsZero (Name x))) ∙ own_length-roll nets (Expr-F.Unary IsZero (Name x));
    narrow = omega arith;
  }

  pub fine-Binary : (op : BinOp) (l r : Expr) (v w n : ℕ) → length_at (binary_place op) (max v w) ≡ n → n ≤ 128 → IsFine v l → IsFine w r → IsFine n (Binary op l r)
  fine-Binary op l r v w n e low f g = record {
    parts = ap (para-Expr Bool (is_sound_step nets)) (sym (rolls-Binary op l r)) ∙ rolled (Expr-F.Binary op l r) ∙ (λ i. narrow-true v l f i && narrow-true w r g i);
    length = length-Binary nets op l r ∙ (λ i. length_at (binary_place op) (max (f.length i) (g.length i))) ∙ e;
    narrow = low;
  }

  pub fine-Choose : (t c o : Expr) (u w : ℕ) → IsFine u t → IsFine w c → IsFine w o → IsFine w (Choose t c o)
  fine-Choose t c o u w f g h = record {
    parts = ap (para-Expr Bool (is_sound_step nets)) (sym (rolls-Choose t c o)) ∙ rolled (Expr-F.Choose t c o) ∙ (λ i. narrow-true u t f i && narrow-true w c g i && narrow-true w o h i);
    length = length-Choose nets t c o ∙ (λ i. max (g.length i) (h.length i)) ∙ (let m : max w w ≡ w = omega arith in m);
    narrow = g.narrow;
  }

  pub fine-both : (x y : List ℕ) → (nets x).width ≡ 1 → (nets y).width ≡ 1 → IsFine 1 (both x y)
  fine-both x y e f = fine-Binary Both (Name x) (Name y) 1 1 1 refl (omega arith) (fine-Name x 1 e (omega arith)) (fine-Name y 1 f (omega arith))

-- half of a power of two
pub double : (w : ℕ) → 1 ≤ w → 2 ^ w ≡ 2 * 2 ^ (w - 1)
double zero some = absurd (omega (arith, some))
double (suc w) some = let e : suc w - 1 ≡ w = omega arith in rw e (pow-suc 2 w ∙ mul_comm (2 ^ w) 2)
