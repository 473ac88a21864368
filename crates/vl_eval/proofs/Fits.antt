-- The value of a sound expression fits every context that is at least as long as the expression.
use Rattle.std.proofs.Common.{◌≡◌, ◌<◌, ◌≤◌, ◌+◌, ◌-◌, ◌*◌, ◌/◌, ◌^◌, ℕ, zero, suc, max, Bool, true, false, ◌&&◌, ◌==◌, if◌then◌else◌, nat_le, nat_lt, List, [], ◌∷◌, ◌++◌, map, replicate, flat_map}
use Rattle.std.proofs.Common.{refl, sym, subst, ◌∙◌, arith}
use Rattle.std.specs.Prelude.{fold}
use Rattle.std.specs.List.{list_all}
use Rattle.std.specs.Int.{bit_at}
use Rattle.std.proofs.lemmas.Bool.{and_parts, ltb-true}
use Rattle.std.proofs.lemmas.Nat.{mod_below, pow_pos, pow-add, and_le_l, or_lt, xor_lt}
use Rattle.std.proofs.Math.Nat.{div-le_self, mul-le-mul_right}
use Rattle.std.proofs.Math.Pow.{pow_mono}
use Rattle.std.proofs.lemmas.List.Elements.{Contains-append_left, Contains-append_right}
use Rattle.vl_ast.specs.declared.expressions.UnOp.{UnOp}
use Rattle.vl_ast.specs.declared.expressions.UnOp.TheVariants.{Negate, Invert, IsZero}
use Rattle.vl_ast.specs.declared.expressions.BinOp.{BinOp}
use Rattle.vl_ast.specs.declared.expressions.BinOp.TheVariants.{Add, Subtract, Multiply, And, Or, Xor}
use Rattle.vl_ast.specs.declared.expressions.ShiftOp.{ShiftOp}
use Rattle.vl_ast.specs.declared.expressions.ShiftOp.TheVariants.{Left, Right, RightSigned}
use Rattle.vl_ast.specs.declared.expressions.Expr.{Expr}
use Rattle.vl_ast.specs.declared.expressions.Expr.TheOpen.{Expr-F}
use Rattle.vl_ast.specs.declared.expressions.Expr.TheViews.{roll-Expr}
use Rattle.vl_ast.specs.declared.expressions.Expr.TheFolds.{map-Expr, para-Expr, para-roll-Expr, fold-roll-Expr, ind-Expr}
use Rattle.vl_ast.specs.Context.{Net, Operand, alone, operand_at, unary_place, binary_place, in_context, own_length, length_step, length_at, is_signed}
use Rattle.vl_ast.specs.Conditions.{is_sound_step, is_narrow, is_number, is_width}
use Rattle.vl_ast.specs.Nets.{names_read, names_step}
use Rattle.vl_ast.specs.Value.{Bits, bits_step, is_negative, extended, beside, truth, unary_bits, binary_bits, shift_bits, value_in, bits_in, operand_of}
use Rattle.vl_eval.specs.inner.PlaceBits.{NamesFit}
use Rattle.vl_ast.proofs.Agree.{ByLayer}

pub extended-fits : (b : Bits) (width : ℕ) → b.bits < 2 ^ b.width → b.width ≤ width → extended b width < 2 ^ width
extended-fits b width fits longer = by (is_negative b) where
  by : (t : Bool) → (if t then b.bits + (2 ^ width - 2 ^ b.width) else b.bits) < 2 ^ width
  by true = let p = pow_mono longer in omega (arith, p)
  by false = let p = pow_mono longer in omega (arith, p)

pub beside-fits : (acc k : ℕ) (b : Bits) → acc < 2 ^ k → b.bits < 2 ^ b.width → beside acc b < 2 ^ (k + b.width)
beside-fits acc k b low fits =
    let p : (acc + 1) * 2 ^ b.width ≤ 2 ^ k * 2 ^ b.width = mul-le-mul_right (2 ^ b.width) (omega arith) in
    let q : acc * 2 ^ b.width + 2 ^ b.width ≡ (acc + 1) * 2 ^ b.width = add-scaled acc (2 ^ b.width) in
    let r = pow-add 2 k b.width in
    omega (arith, p, q, r)
  where
    add-scaled : (a s : ℕ) → a * s + s ≡ (a + 1) * s
    add-scaled a s = grind arith

truth-fits : (t : Bool) (width : ℕ) → 1 ≤ width → truth t < 2 ^ width
truth-fits true width some = let p = pow_mono some in omega (arith, p)
truth-fits false width some = let p = pow_pos width in omega (arith, p)

bit-fits : (n place width : ℕ) → 1 ≤ width → bit_at n place < 2 ^ width
bit-fits n place width some = let p = pow_mono some in let q = mod_below (n / 2 ^ place) 2 (omega arith) in omega (arith, p, q)

choice-fits : (t : Bool) (a b bound : ℕ) → a < bound → b < bound → (if t then a else b) < bound
choice-fits true a b bound p q = p
choice-fits false a b bound p q = q

shift-fits : (op : ShiftOp) (b : Bits) (places : ℕ) → b.bits < 2 ^ b.width → shift_bits op b places < 2 ^ b.width
shift-fits Left b places fits = mod_below (b.bits * 2 ^ places) (2 ^ b.width) (pow_pos b.width)
shift-fits Right b places fits = let d = div-le_self b.bits (2 ^ places) in omega (arith, d)
shift-fits RightSigned b places fits = choice-fits (is_negative b) (2 ^ b.width - 1 - (2 ^ b.width - 1 - b.bits) / 2 ^ places) (b.bits / 2 ^ places) (2 ^ b.width)
    (let p = pow_pos b.width in omega (arith, p)) (let d = div-le_self b.bits (2 ^ places) in omega (arith, d))

pub left-room : (nets : List ℕ → Net) (row : List ℕ → ℕ) (xs ys : List (List ℕ)) → NamesFit nets row (xs ++ ys) → NamesFit nets row xs
left-room nets row xs ys r = record { at = λ name c. r.at name (Contains-append_left xs ys name c) }

pub right-room : (nets : List ℕ → Net) (row : List ℕ → ℕ) (xs ys : List (List ℕ)) → NamesFit nets row (xs ++ ys) → NamesFit nets row ys
right-room nets row xs ys r = record { at = λ name c. r.at name (Contains-append_right xs ys name c) }

module _ (by_layer : ByLayer) (nets : List ℕ → Net) (row : List ℕ → ℕ) where
  abbrev pub sound : Expr → Bool
  sound e = para-Expr Bool (is_sound_step nets) e

  abbrev Fits : Expr → Type 0
  Fits e = sound e ≡ true → NamesFit nets row (names_read e) → (width : ℕ) (signed : Bool) → own_length nets e ≤ width → value_in nets row width signed e < 2 ^ width

  abbrev Known : Type 0
  Known = (e : Expr) × Fits e

  abbrev narrow : Expr → Bool
  narrow e = is_narrow nets (e, sound e)

  narrow-sound : (e : Expr) → narrow e ≡ true → sound e ≡ true
  narrow-sound e h = (and_parts (sound e) (nat_le (own_length nets e) 128) h).0

  alone-fits : (k : Known) → narrow k.0 ≡ true → NamesFit nets row (names_read k.0) → (alone nets (operand_of nets row k.0)).bits < 2 ^ own_length nets k.0
  alone-fits k h r = k.1 (narrow-sound k.0 h) r (own_length nets k.0) (is_signed nets k.0) (omega arith)

  parts-fit : (parts : List Known) → list_all narrow (map (λ p. p.0) parts) ≡ true → NamesFit nets row (flat_map (λ part. part) (map names_read (map (λ p. p.0) parts)))
      → (acc start : ℕ) → acc < 2 ^ start
      → fold beside acc (map (alone nets) (map (operand_of nets row) (map (λ p. p.0) parts))) < 2 ^ fold (λ a x. a + x) start (map (own_length nets) (map (λ p. p.0) parts))
  parts-fit [] h r acc start low = low
  parts-fit (part ∷ parts) h r acc start low =
      let hs = and_parts (narrow part.0) (list_all narrow (map (λ (p : Known). p.0) parts)) h in
      let rest = flat_map (λ part. part) (map names_read (map (λ (p : Known). p.0) parts)) in
      let first = alone-fits part hs.0 (left-room nets row (names_read part.0) rest r) in
      parts-fit parts hs.1 (right-room nets row (names_read part.0) rest r) (beside acc (alone nets (operand_of nets row part.0))) (start + own_length nets part.0)
      (beside-fits acc start (alone nets (operand_of nets row part.0)) low first)

  copies-fit : (b : Bits) → b.bits < 2 ^ b.width → (count acc start : ℕ) → acc < 2 ^ start → fold beside acc (replicate count b) < 2 ^ (start + count * b.width)
  copies-fit b fits zero acc start low = let e : start ≡ start + 0 * b.width = omega arith in subst (λ k. acc < 2 ^ k) e low
  copies-fit b fits (suc count) acc start low =
      let e : start + b.width + count * b.width ≡ start + suc count * b.width = more count b.width in
      subst (λ k. fold beside (beside acc b) (replicate count b) < 2 ^ k) e (copies-fit b fits count (beside acc b) (start + b.width) (beside-fits acc start b low fits))
    where
      more : (c w : ℕ) → start + w + c * w ≡ start + suc c * w
      more c w = grind arith

  longer : (a b value : ℕ) → value < 2 ^ a → a ≤ b → value < 2 ^ b
  longer a b value v le = let p = pow_mono le in omega (arith, p)

  binary-fits : (op : BinOp) (width : ℕ) (signed : Bool) (a b : Known) → narrow a.0 ≡ true → narrow b.0 ≡ true → NamesFit nets row (names_read a.0) → NamesFit nets row (names_read b.0)
      → length_at (binary_place op) (max (own_length nets a.0) (own_length nets b.0)) ≤ width
      → binary_bits op width (operand_at nets (binary_place op) width signed (operand_of nets row a.0)
      (operand_of nets row b.0)) (operand_at nets (binary_place op) width signed (operand_of nets row b.0)
      (operand_of nets row a.0)) < 2 ^ width
  binary-fits Add width signed a b ha hb ra rb le = mod_below _ (2 ^ width) (pow_pos width)
  binary-fits Subtract width signed a b ha hb ra rb le = mod_below _ (2 ^ width) (pow_pos width)
  binary-fits Multiply width signed a b ha hb ra rb le = mod_below _ (2 ^ width) (pow_pos width)
  binary-fits And width signed a b ha hb ra rb le =
      let p = a.1 (narrow-sound a.0 ha) ra width signed (omega arith) in
      let q = and_le_l (value_in nets row width signed a.0) (value_in nets row width signed b.0) in omega (arith, p, q)
  binary-fits Or width signed a b ha hb ra rb le = or_lt width _ _ (a.1 (narrow-sound a.0 ha) ra width signed (omega arith)) (b.1 (narrow-sound b.0 hb) rb width signed (omega arith))
  binary-fits Xor width signed a b ha hb ra rb le = xor_lt width _ _ (a.1 (narrow-sound a.0 ha) ra width signed (omega arith)) (b.1 (narrow-sound b.0 hb) rb width signed (omega arith))
  binary-fits _ width signed a b ha hb ra rb le = truth-fits _ width le

  unary-fits : (op : UnOp) (width : ℕ) (b : Bits) (own : ℕ) → length_at (unary_place op) own ≤ width → unary_bits op width b < 2 ^ width
  unary-fits Negate width b own le = mod_below _ (2 ^ width) (pow_pos width)
  unary-fits Invert width b own le = let p = pow_pos width in omega (arith, p)
  unary-fits IsZero width b own le = truth-fits _ width le

  abbrev bare : Expr-F Known → Expr-F Expr
  bare y = map-Expr Known Expr (λ p. p.0) y

  step : (y : Expr-F Known) → is_sound_step nets (map-Expr Expr (Expr × Bool) (λ e. (e, sound e)) (map-Expr Known Expr (λ p. p.0) y)) ≡ true
      → NamesFit nets row (names_step (map-Expr Expr (List (List ℕ)) names_read (map-Expr Known Expr (λ p. p.0) y)))
      → (width : ℕ) (signed : Bool) → length_step nets (map-Expr Expr ℕ (own_length nets) (map-Expr Known Expr (λ p. p.0) y)) ≤ width
      → bits_step nets row width signed (in_context nets width signed (map-Expr Expr (Operand Bits) (operand_of nets row) (map-Expr Known Expr (λ p. p.0) y))) < 2 ^ width
  step (Expr-F.Name name) h r width signed le = extended-fits (record { width = (nets name).width; signed = signed; bits = row name }) width (r.at name (0, omega arith, refl)) le
  step (Expr-F.Bit name place) h r width signed le = bit-fits (row name) place width le
  step (Expr-F.Part name high low) h r width signed le = longer (high + 1 - low) width _ (mod_below (row name / 2 ^ low) (2 ^ (high + 1 - low)) (pow_pos (high + 1 - low))) le
  step (Expr-F.Literal number) h r width signed le =
      let p = and_parts (is_width number.width) (nat_lt number.bits (2 ^ number.width)) h in
      extended-fits (record { width = number.width; signed = signed; bits = number.bits }) width (ltb-true number.bits (2 ^ number.width) p.1) le
  step (Expr-F.Concat parts) h r width signed le =
      longer _ width _ (parts-fit parts (sounds parts h) r 0 0 (omega arith)) le
    where
      sounds : (parts : List Known) → list_all (is_narrow nets) (map (λ e. (e, sound e)) (map (λ p. p.0) parts)) ≡ true → list_all narrow (map (λ p. p.0) parts) ≡ true
      sounds [] h = refl
      sounds (part ∷ parts) h =
          let hs = and_parts (narrow part.0) (list_all (is_narrow nets) (map (λ e. (e, sound e)) (map (λ (p : Known). p.0) parts))) h in
          rw (hs.0) (sounds parts hs.1)
  step (Expr-F.Repeat count part) h r width signed le =
      let p = and_parts (nat_lt 0 count) (narrow part.0) h in
      longer (0 + count * own_length nets part.0) width _ (copies-fit (alone nets (operand_of nets row part.0)) (alone-fits part p.1 r) count 0 0 (omega arith)) (omega (arith, le))
  step (Expr-F.AsSigned part) h r width signed le =
      extended-fits (record { width = own_length nets part.0; signed = signed; bits = (alone nets (operand_of nets row part.0)).bits }) width (alone-fits part h r) le
  step (Expr-F.AsUnsigned part) h r width signed le = longer (own_length nets part.0) width _ (alone-fits part h r) le
  step (Expr-F.Unary op part) h r width signed le =
      unary-fits op width (operand_at nets (unary_place op) width signed (operand_of nets row part.0)
      (operand_of nets row part.0)) (own_length nets part.0) le
  step (Expr-F.Binary op left right) h r width signed le =
      let hs = and_parts (narrow left.0) (narrow right.0) h in
      binary-fits op width signed left right hs.0 hs.1 (left-room nets row (names_read left.0) (names_read right.0) r) (right-room nets row (names_read left.0) (names_read right.0) r) le
  step (Expr-F.Shift op part amount) h r width signed le =
      let hs = and_parts (narrow part.0) (is_number amount) h in
      shift-fits op (bits_in nets row width signed part.0) amount.bits (part.1 (narrow-sound part.0 hs.0) r width signed le)
  step (Expr-F.Choose test chosen other) h r width signed le =
      let hs = and_parts (narrow test.0 && narrow chosen.0) (narrow other.0) h in
      let gs = and_parts (narrow test.0) (narrow chosen.0) hs.0 in
      let names = names_read chosen.0 ++ names_read other.0 in
      let rest = right-room nets row (names_read test.0) names r in
      let p = chosen.1 (narrow-sound chosen.0 gs.1) (left-room nets row (names_read chosen.0) (names_read other.0) rest) width signed (omega (arith, le)) in
      let q = other.1 (narrow-sound other.0 hs.1) (right-room nets row (names_read chosen.0) (names_read other.0) rest) width signed (omega (arith, le)) in
      choice-fits ((alone nets (operand_of nets row test.0)).bits == 0) _ _ (2 ^ width) q p

  layer-fits : (y : Expr-F Known) → Fits (roll-Expr (map-Expr Known Expr (λ p. p.0) y))
  layer-fits y h r width signed le =
      let x : Expr-F Expr = map-Expr Known Expr (λ p. p.0) y in
      let sounded = sym (para-roll-Expr Bool (is_sound_step nets) x) ∙ h in
      let names = fold-roll-Expr (List (List ℕ)) names_step x in
      let lengths = fold-roll-Expr ℕ (length_step nets) x in
      let given = step y sounded (subst (λ names. NamesFit nets row names) names r) width signed (subst (λ l. l ≤ width) lengths le) in
      subst (λ v. v < 2 ^ width) (sym (by_layer nets row width signed x)) given

  pub value-fits : (e : Expr) → Fits e
  value-fits = ind-Expr Fits (λ x y shown. subst (λ z. Fits (roll-Expr z)) shown (layer-fits y))
