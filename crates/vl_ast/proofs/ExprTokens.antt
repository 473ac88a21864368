-- The tokens of a sound expression over identifiers can be written, by induction over the expression.
use Rattle.std.proofs.Common.{◌≡◌, ◌<◌, ◌≤◌, ◌+◌, ◌*◌, ◌^◌, ℕ, max, sum, nat_le, nat_lt, Bool, true, ◌&&◌, List, [], ◌∷◌, ◌++◌, map, Contains, flat_map, codes, refl, sym, subst, ◌∙◌, arith}
use Rattle.std.specs.Prelude.{fold}
use Rattle.std.specs.List.{list_all}
use Rattle.std.proofs.Math.Nat.{le-mul_of_pos_right, one-le-mul, pow-le-pow_right}
use Rattle.std.proofs.lemmas.Bool.{leb-true, ltb-true}
use Rattle.std.proofs.lemmas.List.Elements.{Contains-append_left, Contains-append_right}
use Rattle.vl_ast.specs.declared.expressions.Sized.{Sized}
use Rattle.vl_ast.specs.declared.expressions.Expr.{Expr}
use Rattle.vl_ast.specs.declared.expressions.Expr.TheOpen.{Expr-F}
use Rattle.vl_ast.specs.declared.expressions.Expr.TheViews.{roll-Expr}
use Rattle.vl_ast.specs.declared.expressions.Expr.TheFolds.{map-Expr, para-Expr, para-roll-Expr, fold-roll-Expr, ind-Expr}
use Rattle.vl_ast.specs.Conditions.{is_narrow, is_number, is_sound, is_sound_step}
use Rattle.vl_ast.specs.Context.{Net, Place, InWhole, Together, Alone, unary_place, binary_place, length_at, length_step, own_length}
use Rattle.vl_ast.specs.Grammar.{comma, expr_tokens, tokens_step, is_filled, is_filled_step}
use Rattle.vl_ast.specs.Nets.{names_read, names_step}
use Rattle.vl_ast.specs.Operators.{unary_text, binary_text, shift_text}
use Rattle.vl_ast.specs.Spelling.{joined}
use Rattle.vl_ast.specs.Tokens.{Token, Key, Sign, Identifier, Based, IsWritable, AreWritable}
use Rattle.vl_names.specs.Identifiers.{is_identifier}
use Rattle.vl_ast.proofs.Layouts.{AllWritable-append}
use Rattle.math_list.proofs.Elements.{head-in}
use Rattle.vl_ast.proofs.Values.{own_length-roll}
use Rattle.vl_ast.proofs.TokenForms.{number-writable, based-writable}
use Rattle.math_list.proofs.Tests.{right_true, left_true}

pub name-writable : (name : List ℕ) → is_identifier name ≡ true → IsWritable (Identifier name)
name-writable name e = (name, (refl, e))

pub sign-writable : (sign : List ℕ) → IsWritable (Sign sign)
sign-writable sign = (sign, refl)

pub key-writable : (word : List ℕ) → IsWritable (Key word)
key-writable word = (word, refl)

-- a literal has 1 to 128 bits
pub record IsLiteral (number : Sized) : Type 0 where
  pub some : 1 ≤ number.width
  pub writable : IsWritable (Based number)

pub literal-of : (number : Sized) → is_number number ≡ true → IsLiteral number
literal-of number e =
    let w = left_true (nat_le 1 number.width && nat_le number.width 128) (nat_lt number.bits (2 ^ number.width)) e in
    let some : 1 ≤ number.width = leb-true 1 number.width (left_true (nat_le 1 number.width) (nat_le number.width 128) w) in
    let most : number.width ≤ 128 = leb-true number.width 128 (right_true (nat_le 1 number.width) (nat_le number.width 128) w) in
    let fits : number.bits < 2 ^ number.width = ltb-true number.bits (2 ^ number.width) (right_true (nat_le 1 number.width && nat_le number.width 128) (nat_lt number.bits (2 ^ number.width)) e) in
    let more : 2 ^ number.width ≤ 2 ^ 128 = pow-le-pow_right {n = 2} (omega arith) most in
    record { some = some; writable = based-writable number (omega (arith, most)) (omega (arith, fits, more)) }

-- lists of tokens between commas
abbrev pub EachWritable : List (List Token) → Type 0
EachWritable [] = Unit
EachWritable (ts ∷ tss) = AreWritable ts × EachWritable tss

more-writable : (tss : List (List Token)) → EachWritable tss → AreWritable (flat_map (λ more. comma ++ more) tss)
more-writable [] w = tt
more-writable (ts ∷ tss) w = (sign-writable (codes ","), AllWritable-append ts _ w.0 (more-writable tss w.1))

pub joined-writable : (tss : List (List Token)) → EachWritable tss → AreWritable (joined comma tss)
joined-writable [] w = tt
joined-writable (ts ∷ tss) w = AllWritable-append ts _ w.0 (more-writable tss w.1)

sum-grows : (a : ℕ) (xs : List ℕ) → a ≤ fold (λ s x. s + x) a xs
sum-grows a [] = omega arith
sum-grows a (x ∷ xs) = let h = sum-grows (a + x) xs in omega (arith, h)

sum-some : (first : ℕ) (others : List ℕ) → 1 ≤ first → 1 ≤ sum (first ∷ others)
sum-some first others h = let g : 0 + first ≤ sum (first ∷ others) = sum-grows (0 + first) others in omega (arith, h, g)

length-some : (place : Place) (long : ℕ) → 1 ≤ long → 1 ≤ length_at place long
length-some InWhole long h = h
length-some Together long h = omega arith
length-some Alone long h = omega arith

module _ (nets : List ℕ → Net) where
  -- an identifier of 1 to 128 bits
  pub record IsKnown (name : List ℕ) : Type 0 where
    pub identifier : is_identifier name ≡ true
    pub some : 1 ≤ (nets name).width
    pub most : (nets name).width ≤ 128

  abbrev pub AreKnown : List (List ℕ) → Type 0
  AreKnown names = (name : List ℕ) → Contains names name → IsKnown name

  left-known : (xs ys : List (List ℕ)) → AreKnown (xs ++ ys) → AreKnown xs
  left-known xs ys known name c = known name (Contains-append_left xs ys name c)

  right-known : (xs ys : List (List ℕ)) → AreKnown (xs ++ ys) → AreKnown ys
  right-known xs ys known name c = known name (Contains-append_right xs ys name c)

  abbrev with_sound : Expr → Expr × Bool
  with_sound e = (e, para-Expr Bool (is_sound_step nets) e)

  -- a tokens' list of an expression with some bits
  record AreSome (long : ℕ) (ts : List Token) : Type 0 where
    some : 1 ≤ long
    writable : AreWritable ts

  abbrev Writes : Expr → Type 0
  Writes e = is_narrow nets (e, para-Expr Bool (is_sound_step nets) e) ≡ true → is_filled e ≡ true → AreKnown (names_read e) → AreSome (own_length nets e) (expr_tokens e)

  abbrev Part : Type 0
  Part = (e : Expr) × Writes e

  abbrev names_of : List Part → List (List ℕ)
  names_of parts = flat_map (λ part. part) (map names_read (map (λ p. p.0) parts))

  -- all parts of a concatenation
  each : (parts : List Part) → list_all (is_narrow nets) (map with_sound (map (λ p. p.0) parts)) ≡ true → list_all (λ more. more) (map is_filled (map (λ p. p.0) parts)) ≡ true
      → AreKnown (names_of parts) → EachWritable (map expr_tokens (map (λ p. p.0) parts))
  each [] sound filled known = tt
  each (part ∷ parts) sound filled known = (
    (part.1 (left_true (is_narrow nets (with_sound part.0)) _ sound) (left_true (is_filled part.0) _ filled) (left-known (names_read part.0) (names_of parts) known)).writable,
    each parts (right_true (is_narrow nets (with_sound part.0)) _ sound) (right_true (is_filled part.0) _ filled) (right-known (names_read part.0) (names_of parts) known),
  )

  -- the layer of an expression's parts
  abbrev Given : Expr-F Part → Type 0
  Given y = (is_sound_step nets (map-Expr Expr (Expr × Bool) with_sound (map-Expr Part Expr (λ p. p.0) y)) ≡ true)
      → length_step nets (map-Expr Expr ℕ (own_length nets) (map-Expr Part Expr (λ p. p.0) y)) ≤ 128
      → is_filled_step (map-Expr Expr Bool is_filled (map-Expr Part Expr (λ p. p.0) y)) ≡ true
      → AreKnown (names_step (map-Expr Expr (List (List ℕ)) names_read (map-Expr Part Expr (λ p. p.0) y)))
      → AreSome (length_step nets (map-Expr Expr ℕ (own_length nets) (map-Expr Part Expr (λ p. p.0) y))) (tokens_step (map-Expr Expr (List Token) expr_tokens (map-Expr Part Expr (λ p. p.0) y)))

  bracketed : (sign : List ℕ) (ts : List Token) → AreWritable ts → AreWritable (ts ++ Sign sign ∷ [])
  bracketed sign ts w = AllWritable-append ts (Sign sign ∷ []) w (sign-writable sign, tt)

  step : (y : Expr-F Part) → Given y
  step (Expr-F.Name name) sound short filled known = (let k = known name (head-in name []) in record { some = k.some; writable = (name-writable name k.identifier, tt) })
  step (Expr-F.Bit name place) sound short filled known =
      let k = known name (head-in name []) in
      let below : place < (nets name).width = ltb-true place (nets name).width (right_true (nat_lt 1 (nets name).width) (nat_lt place (nets name).width) sound) in
      let most = k.most in
      record { some = omega arith; writable = (name-writable name k.identifier, (sign-writable (codes "["), (number-writable place (omega (arith, below, most)), (sign-writable (codes "]"), tt)))) }
  step (Expr-F.Part name high low) sound short filled known =
      let k = known name (head-in name []) in
      let both = left_true (nat_lt 1 (nets name).width && nat_le low high) (nat_lt high (nets name).width) sound in
      let order : low ≤ high = leb-true low high (right_true (nat_lt 1 (nets name).width) (nat_le low high) both) in
      let below : high < (nets name).width = ltb-true high (nets name).width (right_true (nat_lt 1 (nets name).width && nat_le low high) (nat_lt high (nets name).width) sound) in
      let most = k.most in
      record {
        some = omega (arith, order);
        writable = (
          name-writable name k.identifier,
          (
            sign-writable (codes "["),
            (
              number-writable high (omega (arith, below, most)),
              (
                sign-writable (codes ":"),
                (number-writable low (omega (arith, order, below, most)), (sign-writable (codes "]"), tt)),
              ),
            ),
          ),
        );
      }
  step (Expr-F.Literal number) sound short filled known = (let l = literal-of number sound in record { some = l.some; writable = (l.writable, tt) })
  step (Expr-F.Concat []) sound short filled known = absurd (cc filled)
  step (Expr-F.Concat (part ∷ parts)) sound short filled known =
      let first = part.1 (left_true (is_narrow nets (with_sound part.0)) _ sound) (left_true (is_filled part.0) _ filled) (left-known (names_read part.0) (names_of parts) known) in
      let all = each (part ∷ parts) sound filled known in
      record {
        some = sum-some (own_length nets part.0) (map (own_length nets) (map (λ (p : Part). p.0) parts)) first.some;
        writable = (sign-writable (codes "{"), bracketed (codes "}") _ (joined-writable (map expr_tokens (map (λ (p : Part). p.0) (part ∷ parts))) all));
      }
  step (Expr-F.Repeat count part) sound short filled known =
      let p = part.1 (right_true (nat_lt 0 count) (is_narrow nets (with_sound part.0)) sound) filled known in
      let some : 1 ≤ count = ltb-true 0 count (left_true (nat_lt 0 count) (is_narrow nets (with_sound part.0)) sound) in
      let few : count ≤ count * own_length nets part.0 = le-mul_of_pos_right count p.some in
      record {
        some = one-le-mul some p.some;
        writable = (
          sign-writable (codes "{"),
          (
            number-writable count (omega (arith, few, short)),
            (
              sign-writable (codes "{"),
              AllWritable-append _
                  (Sign (codes "}") ∷ Sign (codes "}") ∷ []) p.writable
                  (sign-writable (codes "}"), (sign-writable (codes "}"), tt)),
            ),
          ),
        );
      }
  step (Expr-F.AsSigned part) sound short filled known =
      (let p = part.1 sound filled known in record { some = p.some; writable = (key-writable (codes "$signed"), (sign-writable (codes "("), bracketed (codes ")") _ p.writable)) })
  step (Expr-F.AsUnsigned part) sound short filled known =
      (let p = part.1 sound filled known in record { some = p.some; writable = (key-writable (codes "$unsigned"), (sign-writable (codes "("), bracketed (codes ")") _ p.writable)) })
  step (Expr-F.Unary op part) sound short filled known =
      (let p = part.1 sound filled known in
      record { some = length-some (unary_place op) (own_length nets part.0) p.some; writable = (sign-writable (codes "("), (sign-writable (unary_text op), bracketed (codes ")") _ p.writable)) })
  step (Expr-F.Binary op left right) sound short filled known =
      let l = left.1 (left_true (is_narrow nets (with_sound left.0)) _ sound) (left_true (is_filled left.0) _ filled) (left-known (names_read left.0) (names_read right.0) known) in
      let r = right.1 (right_true (is_narrow nets (with_sound left.0)) _ sound) (right_true (is_filled left.0) _ filled) (right-known (names_read left.0) (names_read right.0) known) in
      let some = l.some in
      record {
        some = length-some (binary_place op) (max (own_length nets left.0) (own_length nets right.0)) (omega (arith, some));
        writable = (sign-writable (codes "("), AllWritable-append (expr_tokens left.0) _ l.writable (sign-writable (binary_text op), bracketed (codes ")") _ r.writable));
      }
  step (Expr-F.Shift op part amount) sound short filled known =
      let p = part.1 (left_true (is_narrow nets (with_sound part.0)) (is_number amount) sound) filled known in
      let l = literal-of amount (right_true (is_narrow nets (with_sound part.0)) (is_number amount) sound) in
      record {
        some = p.some;
        writable = (sign-writable (codes "("), AllWritable-append (expr_tokens part.0) _ p.writable (sign-writable (shift_text op), (l.writable, (sign-writable (codes ")"), tt))));
      }
  step (Expr-F.Choose test chosen other) sound short filled known =
      let names = names_read chosen.0 ++ names_read other.0 in
      let two = left_true (is_narrow nets (with_sound test.0) && is_narrow nets (with_sound chosen.0)) (is_narrow nets (with_sound other.0)) sound in
      let two_filled = left_true (is_filled test.0 && is_filled chosen.0) (is_filled other.0) filled in
      let rest = right-known (names_read test.0) names known in
      let t = test.1 (left_true (is_narrow nets (with_sound test.0)) _ two) (left_true (is_filled test.0) _ two_filled) (left-known (names_read test.0) names known) in
      let c = chosen.1 (right_true (is_narrow nets (with_sound test.0)) _ two) (right_true (is_filled test.0) _ two_filled) (left-known (names_read chosen.0) (names_read other.0) rest) in
      let o = other.1 (right_true (is_narrow nets (with_sound test.0) && is_narrow nets (with_sound chosen.0)) _ sound) (right_true (is_filled test.0 && is_filled chosen.0) _ filled)
      (right-known (names_read chosen.0) (names_read other.0) rest) in
      let some = c.some in
      record {
        some = omega (arith, some);
        writable = (
          sign-writable (codes "("),
          AllWritable-append (expr_tokens test.0) _ t.writable (
            sign-writable (codes "?"),
            AllWritable-append (expr_tokens chosen.0) _ c.writable (sign-writable (codes ":"), bracketed (codes ")") _ o.writable),
          ),
        );
      }

  layer-writes : (y : Expr-F Part) → Writes (roll-Expr (map-Expr Part Expr (λ p. p.0) y))
  layer-writes y narrow filled known =
      let x : Expr-F Expr = map-Expr Part Expr (λ p. p.0) y in
      let e : Expr = roll-Expr x in
      let sound = left_true (para-Expr Bool (is_sound_step nets) (roll-Expr x)) (nat_le (own_length nets (roll-Expr x)) 128) narrow in
      let short : own_length nets (roll-Expr x) ≤ 128 =
      leb-true (own_length nets (roll-Expr x)) 128
      (right_true (para-Expr Bool (is_sound_step nets) (roll-Expr x))
      (nat_le (own_length nets (roll-Expr x)) 128) narrow) in
      let long = own_length-roll nets x in
      let got = step y (sym (para-roll-Expr Bool (is_sound_step nets) x) ∙ sound) (subst (λ (n : ℕ). n ≤ 128) long short) (sym (fold-roll-Expr Bool is_filled_step x) ∙ filled)
      (subst (λ (names : List (List ℕ)). AreKnown names) (fold-roll-Expr (List (List ℕ)) names_step x) known) in
      record {
        some = subst (λ (n : ℕ). 1 ≤ n) (sym long) got.some;
        writable = subst (λ (ts : List Token). AreWritable ts) (sym (fold-roll-Expr (List Token) tokens_step x)) got.writable;
      }

  writes : (e : Expr) → Writes e
  writes = ind-Expr Writes (λ x y shown. subst (λ z. Writes (roll-Expr z)) shown (layer-writes y))

  pub expr-writable : (e : Expr) → is_sound nets e ≡ true → is_filled e ≡ true → AreKnown (names_read e) → AreWritable (expr_tokens e)
  expr-writable e sound filled known = (writes e sound filled known).writable
