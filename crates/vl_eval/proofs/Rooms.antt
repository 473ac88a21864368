-- The contexts of operands have room for them, and the bounds of literals and selects.
use Rattle.std.proofs.Common.{◌≡◌, ◌<◌, ◌≤◌, ◌-◌, ◌^◌, ℕ, max, Bool, true, nat_le, nat_lt, List, sym, ap, subst, ◌∙◌, arith}
use Rattle.std.proofs.Math.Pow.{pow_mono}
use Rattle.std.proofs.lemmas.Bool.{and_parts, leb-true, ltb-true}
use Rattle.vl_ast.specs.declared.expressions.UnOp.{UnOp}
use Rattle.vl_ast.specs.declared.expressions.BinOp.{BinOp}
use Rattle.vl_ast.specs.declared.expressions.Sized.{Sized}
use Rattle.vl_ast.specs.declared.expressions.Expr.{Expr}
use Rattle.vl_ast.specs.declared.expressions.Expr.TheVariants.{Unary, Binary}
use Rattle.vl_ast.specs.Context.{Net, Place, InWhole, Together, Alone, own_length, is_signed, length_at, unary_place, binary_place}
use Rattle.vl_ast.specs.Conditions.{is_number, is_sound, is_width}
use Rattle.vl_check.specs.declared.shapes.Shape.{Shape}
use Rattle.vl_check.specs.Scope.{nets_in}
use Rattle.vl_check.specs.Shape.{shape_of}
use Rattle.vl_eval.specs.declared.adding.Additions.{Additions}
use Rattle.vl_eval.specs.declared.site.Site.{Site}
use Rattle.vl_eval.specs.inner.Contexts.{context_at, context_of, left_context, unary_context}
use Rattle.vl_eval.specs.inner.Site.{CanBuild}
use Rattle.vl_eval.proofs.Operands.{few-of, length-binary, length-unary, sound-binary, sound-unary}

-- a shape that is a context has room for what the context has room for
pub room-in : (own : ℕ) (shape context : Shape) → shape ≡ context → (own ≤ context.length) × (context.length ≤ 128) → (own ≤ shape.length) × (shape.length ≤ 128)
room-in own shape context is room = (subst (λ (s : Shape). own ≤ s.length) (sym is) room.0, subst (λ (s : Shape). s.length ≤ 128) (sym is) room.1)

pub number-few : (n : Sized) → is_number n ≡ true → (1 ≤ n.width) × (n.width ≤ 128) × (n.bits < 2 ^ n.width)
number-few n h =
    let both = and_parts (is_width n.width) (nat_lt n.bits (2 ^ n.width)) h in
    let width = and_parts (nat_le 1 n.width) (nat_le n.width 128) both.0 in
    (leb-true 1 n.width width.0, leb-true n.width 128 width.1, ltb-true n.bits (2 ^ n.width) both.1)

-- masks of longer words are greater
pub masks : (a b low high : ℕ) → a ≤ b → low ≡ 2 ^ a - 1 → high ≡ 2 ^ b - 1 → low ≤ high
masks a b low high le l h = let p = pow_mono le in omega (arith, p, l, h)

module _ (nets : List ℕ → Net) where
  pub unary-room : (of : UnOp) (part : Expr) (width : ℕ) (signed : Bool) → is_sound nets (Unary of part) ≡ true → own_length nets (Unary of part) ≤ width → width ≤ 128
      → (own_length nets part ≤ (unary_context nets of part width signed).length) × ((unary_context nets of part width signed).length ≤ 128)
  unary-room of part width signed ok le most = by (unary_place of) (length-unary nets of part) where
    few : own_length nets part ≤ 128
    few = few-of nets part (sound-unary nets of part ok)

    by : (q : Place) → own_length nets (Unary of part) ≡ length_at q (own_length nets part)
        → (own_length nets part ≤ (context_at q (shape_of width signed)
        (shape_of (own_length nets part) (is_signed nets part))).length)
        × ((context_at q (shape_of width signed)
        (shape_of (own_length nets part) (is_signed nets part))).length ≤ 128)
    by InWhole e = (omega (arith, e, le), most)
    by Together e = (omega arith, few)
    by Alone e = (omega arith, few)

  context-room : (q : Place) (a b width : ℕ) (sa sb signed : Bool) → a ≤ 128 → b ≤ 128 → length_at q (max a b) ≤ width → width ≤ 128
      → (a ≤ (context_of q width signed a b sa sb).length) × ((context_of q width signed a b sa sb).length ≤ 128)
  context-room InWhole a b width sa sb signed fa fb le most = (omega arith, most)
  context-room Together a b width sa sb signed fa fb le most = (omega arith, omega arith)
  context-room Alone a b width sa sb signed fa fb le most = (omega arith, fa)

  pub left-context-room : (of : BinOp) (left right : Expr) (width : ℕ) (signed : Bool) → is_sound nets (Binary of left right) ≡ true → own_length nets (Binary of left right) ≤ width → width ≤ 128
      → (own_length nets left ≤ (left_context nets of left right width signed).length) × ((left_context nets of left right width signed).length ≤ 128)
  left-context-room of left right width signed ok le most =
      let oks = sound-binary nets of left right ok in
      context-room (binary_place of) (own_length nets left) (own_length nets right) width (is_signed nets left) (is_signed nets right) signed (few-of nets left oks.0) (few-of nets right oks.1)
      (subst (λ n. n ≤ width) (length-binary nets of left right) le) most

  pub right-context-room : (of : BinOp) (left right : Expr) (width : ℕ) (signed : Bool) → is_sound nets (Binary of left right) ≡ true → own_length nets (Binary of left right) ≤ width → width ≤ 128
      → (own_length nets right ≤ (left_context nets of right left width signed).length) × ((left_context nets of right left width signed).length ≤ 128)
  right-context-room of left right width signed ok le most =
      let oks = sound-binary nets of left right ok in
      let m : max (own_length nets right) (own_length nets left) ≡ max (own_length nets left) (own_length nets right) = omega arith in
      context-room (binary_place of) (own_length nets right) (own_length nets left) width (is_signed nets right) (is_signed nets left) signed (few-of nets right oks.1) (few-of nets left oks.0)
      (subst (λ n. n ≤ width) (length-binary nets of left right ∙ ap (length_at (binary_place of)) (sym m)) le) most

-- an operator that can be built has room for its operands in their contexts
module _ (site : Site) (ops : Additions) (of : BinOp) (left right : Expr) (context : Shape) (can : CanBuild site ops context.length (Binary of left right)) (on : Shape) where
  pub left-fits : on ≡ left_context (nets_in site.scope.now) of left right context.length context.signed → (own_length (nets_in site.scope.now) left ≤ on.length) × (on.length ≤ 128)
  left-fits is = room-in (own_length (nets_in site.scope.now) left) on _ is (left-context-room (nets_in site.scope.now) of left right context.length context.signed can.sound can.longer can.most)

  pub right-fits : on ≡ left_context (nets_in site.scope.now) of right left context.length context.signed → (own_length (nets_in site.scope.now) right ≤ on.length) × (on.length ≤ 128)
  right-fits is = room-in (own_length (nets_in site.scope.now) right) on _ is (right-context-room (nets_in site.scope.now) of left right context.length context.signed can.sound can.longer can.most)
