-- What the last operation shows of an expression, from what the operations of its operands show.
use Rattle.std.proofs.Common.{◌≡◌, ◌<◌, ◌≤◌, ◌+◌, ◌-◌, ◌*◌, ◌%◌, ◌^◌, ◌==◌, ℕ, max, Bool, true, false, ◌&&◌, if◌then◌else◌, List, [], ◌∷◌, ◌++◌, length, map, flat_map, replicate, Contains, refl, sym}
use Rattle.std.proofs.Common.{ap, subst, ◌∙◌, arith}
use Rattle.std.specs.Prelude.{fold}
use Rattle.std.proofs.lemmas.List.{get_or_append_left, get_or_at, length-append}
use Rattle.std.proofs.lemmas.List.Sums.{fold-append}
use Rattle.std.proofs.Math.Nat.{max_comm}
use Rattle.vl_ast.specs.declared.expressions.UnOp.{UnOp}
use Rattle.vl_ast.specs.declared.expressions.BinOp.{BinOp}
use Rattle.vl_ast.specs.declared.expressions.ShiftOp.{ShiftOp}
use Rattle.vl_ast.specs.declared.expressions.Sized.{Sized}
use Rattle.vl_ast.specs.declared.expressions.Expr.{Expr}
use Rattle.vl_ast.specs.declared.expressions.Expr.TheOpen.{Expr-F}
use Rattle.vl_ast.specs.declared.expressions.Expr.TheViews.{roll-Expr}
use Rattle.vl_ast.specs.declared.expressions.Expr.TheFolds.{map-Expr, fold-roll-Expr}
use Rattle.vl_ast.specs.Context.{Net, Operand, InWhole, Together, Alone, own_length, is_signed, alone, operand_at, unary_place, binary_place, in_context}
use Rattle.vl_ast.specs.Nets.{names_read, names_step}
use Rattle.vl_ast.specs.Value.{Bits, bits_step, extended, unary_bits, binary_bits, shift_bits, value_in, beside, bits_in, operand_of}
use Rattle.vl_ast.proofs.Agree.{ByLayer, values-agree}
use Rattle.vl_eval.specs.declared.ops.Op.{Op}
use Rattle.vl_eval.specs.declared.ops.Op.TheVariants.{Constant, One, Choose, Beside}
use Rattle.vl_eval.specs.declared.ops.OneOp.TheVariants.{Extended, Select}
use Rattle.vl_eval.specs.inner.Ops.{op_value, IsSettled}
use Rattle.vl_eval.specs.inner.OperatorSteps.{unary_op, binary_op}
use Rattle.std.proofs.lemmas.Nat.Bits.{shr_and_one}
use Rattle.vl_eval.proofs.Words.{unary-gives, whole-gives, together-gives, alone-gives, extension, as-it-is, select-gives, put-beside}
use Rattle.vl_eval.specs.inner.PlaceBits.{NamesFit, row_of, Shows}
use Rattle.vl_eval.proofs.Copies.{bit-copies}
use Rattle.vl_eval.proofs.Fits.{sound, left-room, right-room, value-fits, beside-fits, extended-fits}

pub settled-before : (base : ℕ) (ops more : List Op) (values : ℕ → ℕ) → IsSettled base (ops ++ more) values → IsSettled base ops values
settled-before base ops more values s = record {
  at = λ k d below.
      let longer = length-append ops more in
      s.at k d (omega (arith, longer)) ∙ ap (λ o. op_value o values) (get_or_append_left ops more d k below);
}

-- what the last operation gives
pub last-value : (base : ℕ) (ops : List Op) (op : Op) (values : ℕ → ℕ) → IsSettled base (ops ++ op ∷ []) values → values (base + length ops) ≡ op_value op values
last-value base ops op values s =
    let longer = length-append ops (op ∷ []) in
    s.at (length ops) op (omega (arith, longer)) ∙ ap (λ o. op_value o values) (get_or_at ops op [] op (length ops) refl)

abbrev word : ℕ → Bool → ℕ → Bits
word width signed bits = record { width = width; signed = signed; bits = bits }

pub and-turned : (a b : Bool) → (a && b) ≡ (b && a)
and-turned true true = refl
and-turned true false = refl
and-turned false true = refl
and-turned false false = refl

module _ (by_layer : ByLayer) (base : ℕ) (nets : List ℕ → Net) (slot_of : List ℕ → ℕ) where
  abbrev Here : List Op → ℕ → ℕ → Bool → Expr → Type 0
  Here = Shows base nets slot_of

  abbrev row : (ℕ → ℕ) → List ℕ → ℕ
  row values = row_of slot_of values

  abbrev Fit : (ℕ → ℕ) → List (List ℕ) → Type 0
  Fit values names = NamesFit nets (row values) names

  pub still-shows : (ops more : List Op) (slot width : ℕ) (signed : Bool) (e : Expr) → Here ops slot width signed e → Here (ops ++ more) slot width signed e
  still-shows ops more slot width signed e h = record {
    below = let longer = length-append ops more in let b = h.below in omega (arith, longer, b);
    is = λ values s r. h.is values (settled-before base ops more values s) r;
  }

  names-of : (x : Expr-F Expr) (values : ℕ → ℕ) → Fit values (names_read (roll-Expr x)) → Fit values (names_step (map-Expr Expr (List (List ℕ)) names_read x))
  names-of x values r = subst (λ names. Fit values names) (fold-roll-Expr (List (List ℕ)) names_step x) r

  last-below : (ops : List Op) (op : Op) → base + length ops < base + length (ops ++ op ∷ [])
  last-below ops op = let longer = length-append ops (op ∷ []) in omega (arith, longer)

  -- the value of a layer
  abbrev layer : (ℕ → ℕ) → ℕ → Bool → Expr-F Expr → ℕ
  layer values width signed x = bits_step nets (row values) width signed (in_context nets width signed (map-Expr Expr (Operand Bits) (operand_of nets (row values)) x))

  -- an operation that gives the value of a layer
  pub shows-op : (ops : List Op) (op : Op) (width : ℕ) (signed : Bool) (x : Expr-F Expr)
      → ((values : ℕ → ℕ) → IsSettled base ops values → Fit values (names_step (map-Expr Expr (List (List ℕ)) names_read x)) → op_value op values ≡ layer values width signed x)
      → Here (ops ++ op ∷ []) (base + length ops) width signed (roll-Expr x)
  shows-op ops op width signed x gives = record {
    below = last-below ops op;
    is = λ values s room.
        last-value base ops op values s ∙ gives values (settled-before base ops (op ∷ []) values s) (names-of x values room)
        ∙ sym (by_layer nets (row values) width signed x);
  }

  -- a place that has it already
  pub shows-place : (ops : List Op) (slot : ℕ) (width : ℕ) (signed : Bool) (x : Expr-F Expr) → slot < base + length ops
      → ((values : ℕ → ℕ) → IsSettled base ops values → Fit values (names_step (map-Expr Expr (List (List ℕ)) names_read x)) → values slot ≡ layer values width signed x)
      → Here ops slot width signed (roll-Expr x)
  shows-place ops slot width signed x below gives = record {
    below = below;
    is = λ values s room. gives values s (names-of x values room) ∙ sym (by_layer nets (row values) width signed x);
  }

  -- an operand: its value, which fits
  pub fitting : (ops : List Op) (slot width : ℕ) (signed : Bool) (e : Expr) → sound by_layer nets (λ name. 0) e ≡ true → own_length nets e ≤ width → Here ops slot width signed e
      → (values : ℕ → ℕ) → IsSettled base ops values → Fit values (names_read e) → values slot < 2 ^ width
  fitting ops slot width signed e ok longer h values s room =
      subst (λ v. v < 2 ^ width) (sym (h.is values s room)) (value-fits by_layer nets (row values) e ok room width signed longer)

  -- an operand: it is sound and its value fits its context
  pub record Value (ops : List Op) (slot width : ℕ) (signed : Bool) (e : Expr) : Type 0 where
    pub ok : sound by_layer nets (λ name. 0) e ≡ true
    pub longer : own_length nets e ≤ width
    pub here : Shows base nets slot_of ops slot width signed e

  value-below : (ops : List Op) (slot width : ℕ) (signed : Bool) (e : Expr) → Value ops slot width signed e
      → (values : ℕ → ℕ) → IsSettled base ops values → Fit values (names_read e) → values slot < 2 ^ width
  value-below ops slot width signed e v values s room = fitting ops slot width signed e v.ok v.longer v.here values s room

  pub shows-unary : (ops : List Op) (op : Op) (a width : ℕ) (signed : Bool) (of : UnOp) (part : Expr) (inner : ℕ) (sign : Bool)
      → ((values : ℕ → ℕ) → operand_at nets (unary_place of) width signed (operand_of nets (row values) part) (operand_of nets (row values) part) ≡ bits_in nets (row values) inner sign part)
      → Value ops a inner sign part
      → ((values : ℕ → ℕ) → values a < 2 ^ inner → op_value op values ≡ unary_bits of width (word inner sign (values a)))
      → Here (ops ++ op ∷ []) (base + length ops) width signed (roll-Expr (Expr-F.Unary of part))
  shows-unary ops op a width signed of part inner sign placed v gives = shows-op ops op width signed (Expr-F.Unary of part) (λ values s room.
      gives values (value-below ops a inner sign part v values s room)
      ∙ ap (λ x. unary_bits of width (word inner sign x)) (v.here.is values s room)
      ∙ ap (unary_bits of width) (sym (placed values)))

  pub shows-binary : (ops : List Op) (op : Op) (a b width : ℕ) (signed : Bool) (of : BinOp) (left right : Expr) (lw rw' : ℕ) (ls rs : Bool)
      → ((values : ℕ → ℕ) → operand_at nets (binary_place of) width signed (operand_of nets (row values) left) (operand_of nets (row values) right) ≡ bits_in nets (row values) lw ls left)
      → ((values : ℕ → ℕ) → operand_at nets (binary_place of) width signed (operand_of nets (row values) right) (operand_of nets (row values) left) ≡ bits_in nets (row values) rw' rs right)
      → Value ops a lw ls left → Value ops b rw' rs right
      → ((values : ℕ → ℕ) → values a < 2 ^ lw → values b < 2 ^ rw' → op_value op values ≡ binary_bits of width (word lw ls (values a)) (word rw' rs (values b)))
      → Here (ops ++ op ∷ []) (base + length ops) width signed (roll-Expr (Expr-F.Binary of left right))
  shows-binary ops op a b width signed of left right lw rw' ls rs on_left on_right l r gives = shows-op ops op width signed (Expr-F.Binary of left right) (λ values s room.
      let room_l = left-room nets (row values) (names_read left) (names_read right) room in
      let room_r = right-room nets (row values) (names_read left) (names_read right) room in
      gives values (value-below ops a lw ls left l values s room_l) (value-below ops b rw' rs right r values s room_r)
      ∙ (λ i. binary_bits of width (word lw ls (l.here.is values s room_l i)) (word rw' rs (r.here.is values s room_r i)))
      ∙ (λ i. binary_bits of width (sym (on_left values) i) (sym (on_right values) i)))

  pub shows-whole : (ops : List Op) (a b width half : ℕ) (signed : Bool) (of : BinOp) (left right : Expr) → binary_place of ≡ InWhole → width ≤ 128
      → Value ops a width signed left → Value ops b width signed right
      → Here (ops ++ binary_op of a b (2 ^ width - 1) half ∷ []) (base + length ops) width signed (roll-Expr (Expr-F.Binary of left right))
  shows-whole ops a b width half signed of left right e most l r =
      shows-binary ops (binary_op of a b (2 ^ width - 1) half) a b width signed of left right width width signed signed
      (λ values. ap (λ p. operand_at nets p width signed (operand_of nets (row values) left) (operand_of nets (row values) right)) e)
      (λ values. ap (λ p. operand_at nets p width signed (operand_of nets (row values) right) (operand_of nets (row values) left)) e)
      l r (λ values la lb. whole-gives of e a b width half signed values most la lb)

  abbrev both-length : Expr → Expr → ℕ
  both-length left right = max (own_length nets left) (own_length nets right)

  abbrev both-signed : Expr → Expr → Bool
  both-signed left right = is_signed nets left && is_signed nets right

  pub shows-together : (ops : List Op) (a b width mask : ℕ) (signed : Bool) (of : BinOp) (left right : Expr) → binary_place of ≡ Together
      → Value ops a (both-length left right) (both-signed left right) left → Value ops b (both-length left right) (both-signed left right) right
      → Here (ops ++ binary_op of a b mask (if both-signed left right then 2 ^ (both-length left right - 1) else 0) ∷ []) (base + length ops) width signed (roll-Expr (Expr-F.Binary of left right))
  shows-together ops a b width mask signed of left right e l r =
      let w = both-length left right in
      let sg = both-signed left right in
      shows-binary ops (binary_op of a b mask (if sg then 2 ^ (w - 1) else 0)) a b width signed of left right w w sg sg
      (λ values. ap (λ p. operand_at nets p width signed (operand_of nets (row values) left) (operand_of nets (row values) right)) e)
      (λ values. ap (λ p. operand_at nets p width signed (operand_of nets (row values) right) (operand_of nets (row values) left)) e
      ∙ (λ i. bits_in nets (row values) (max_comm (own_length nets right) (own_length nets left) i) (and-turned (is_signed nets right) (is_signed nets left) i) right))
      l r (λ values la lb. together-gives of e a b width mask w sg values la lb)

  pub shows-alone : (ops : List Op) (a b width mask half : ℕ) (signed : Bool) (of : BinOp) (left right : Expr) → binary_place of ≡ Alone
      → Value ops a (own_length nets left) (is_signed nets left) left → Value ops b (own_length nets right) (is_signed nets right) right
      → Here (ops ++ binary_op of a b mask half ∷ []) (base + length ops) width signed (roll-Expr (Expr-F.Binary of left right))
  shows-alone ops a b width mask half signed of left right e l r =
      shows-binary ops (binary_op of a b mask half) a b width signed of left right (own_length nets left) (own_length nets right) (is_signed nets left) (is_signed nets right)
      (λ values. ap (λ p. operand_at nets p width signed (operand_of nets (row values) left) (operand_of nets (row values) right)) e)
      (λ values. ap (λ p. operand_at nets p width signed (operand_of nets (row values) right) (operand_of nets (row values) left)) e)
      l r (λ values la lb. alone-gives of e a b width mask half (own_length nets left) (own_length nets right) (is_signed nets left) (is_signed nets right) values)

  pub shows-unary-whole : (ops : List Op) (a width : ℕ) (signed : Bool) (of : UnOp) (part : Expr) → unary_place of ≡ InWhole → width ≤ 128 → Value ops a width signed part
      → Here (ops ++ unary_op of a (2 ^ width - 1) ∷ []) (base + length ops) width signed (roll-Expr (Expr-F.Unary of part))
  shows-unary-whole ops a width signed of part e most v =
      shows-unary ops (unary_op of a (2 ^ width - 1)) a width signed of part width signed
      (λ values. ap (λ p. operand_at nets p width signed (operand_of nets (row values) part) (operand_of nets (row values) part)) e)
      v (λ values low. unary-gives of a width width signed values most (λ _. refl) low)

  pub shows-unary-alone : (ops : List Op) (a width : ℕ) (signed : Bool) (of : UnOp) (part : Expr) → unary_place of ≡ Alone → width ≤ 128 → Value ops a (own_length nets part) (is_signed nets part) part
      → Here (ops ++ unary_op of a (2 ^ width - 1) ∷ []) (base + length ops) width signed (roll-Expr (Expr-F.Unary of part))
  shows-unary-alone ops a width signed of part e most v =
      shows-unary ops (unary_op of a (2 ^ width - 1)) a width signed of part (own_length nets part) (is_signed nets part)
      (λ values. ap (λ p. operand_at nets p width signed (operand_of nets (row values) part) (operand_of nets (row values) part)) e)
      v (λ values low. unary-gives of a width (own_length nets part) (is_signed nets part) values most (λ w. absurd (cc (e, w))) low)

  -- a choice, whose test stands alone
  pub shows-choice : (ops : List Op) (t c o width : ℕ) (signed : Bool) (test chosen other : Expr)
      → Here ops t (own_length nets test) (is_signed nets test) test → Here ops c width signed chosen → Here ops o width signed other
      → Here (ops ++ Choose t c o ∷ []) (base + length ops) width signed (roll-Expr (Expr-F.Choose test chosen other))
  shows-choice ops t c o width signed test chosen other ht hc ho = shows-op ops (Choose t c o) width signed (Expr-F.Choose test chosen other) (λ values s room.
      let both = names_read chosen ++ names_read other in
      let rest = right-room nets (row values) (names_read test) both room in
      let vt = ht.is values s (left-room nets (row values) (names_read test) both room) in
      let vc = hc.is values s (left-room nets (row values) (names_read chosen) (names_read other) rest) in
      let vo = ho.is values s (right-room nets (row values) (names_read chosen) (names_read other) rest) in
      (λ i. if vt i == 0 then vo i else vc i))

  -- a literal, extended once
  pub shows-literal : (ops : List Op) (bits width : ℕ) (signed : Bool) (number : Sized) → bits ≡ extended (word number.width signed number.bits) width
      → Here (ops ++ Constant bits ∷ []) (base + length ops) width signed (roll-Expr (Expr-F.Literal number))
  shows-literal ops bits width signed number e = shows-op ops (Constant bits) width signed (Expr-F.Literal number) (λ values s room. e)

  -- a name in a context without sign, or one that isn't longer, is its own place
  pub shows-name : (ops : List Op) (width : ℕ) (signed : Bool) (name : List ℕ) → slot_of name < base + length ops → (signed ≡ true → (nets name).width ≡ width)
      → Here ops (slot_of name) width signed (roll-Expr (Expr-F.Name name))
  shows-name ops width signed name within same =
      shows-place ops (slot_of name) width signed (Expr-F.Name name) within
      (λ values s room. sym (as-it-is (nets name).width width signed (values (slot_of name)) same))

  -- and in one with sign its bits are extended
  pub shows-signed-name : (ops : List Op) (width : ℕ) (name : List ℕ) → (nets name).width ≤ width → width ≤ 128
      → Here (ops ++ One (Extended (2 ^ ((nets name).width - 1)) (2 ^ width - 2 ^ (nets name).width)) (slot_of name) ∷ []) (base + length ops) width true (roll-Expr (Expr-F.Name name))
  shows-signed-name ops width name le most =
      shows-op ops (One (Extended (2 ^ ((nets name).width - 1)) (2 ^ width - 2 ^ (nets name).width)) (slot_of name)) width true (Expr-F.Name name) (λ values s room.
      extension (word (nets name).width true (values (slot_of name))) width refl (room.at name (0, omega arith, refl)) le most)

  -- a bit and a part of a name
  pub shows-bit : (ops : List Op) (width : ℕ) (signed : Bool) (name : List ℕ) (place : ℕ)
      → Here (ops ++ One (Select place 1) (slot_of name) ∷ []) (base + length ops) width signed (roll-Expr (Expr-F.Bit name place))
  shows-bit ops width signed name place = shows-op ops (One (Select place 1) (slot_of name)) width signed (Expr-F.Bit name place) (λ values s room. shr_and_one (values (slot_of name)) place)

  pub shows-part : (ops : List Op) (width : ℕ) (signed : Bool) (name : List ℕ) (high low : ℕ)
      → Here (ops ++ One (Select low (2 ^ (high + 1 - low) - 1)) (slot_of name) ∷ []) (base + length ops) width signed (roll-Expr (Expr-F.Part name high low))
  shows-part ops width signed name high low =
      shows-op ops (One (Select low (2 ^ (high + 1 - low) - 1)) (slot_of name)) width signed
      (Expr-F.Part name high low) (λ values s room. select-gives (values (slot_of name)) low (high + 1 - low))

  -- a cast that needs no extension is its operand alone
  pub shows-cast : (ops : List Op) (a width : ℕ) (signed : Bool) (part : Expr) → (signed ≡ true → own_length nets part ≡ width) → Here ops a (own_length nets part) (is_signed nets part) part
      → Here ops a width signed (roll-Expr (Expr-F.AsSigned part))
  shows-cast ops a width signed part same h = shows-place ops a width signed (Expr-F.AsSigned part) h.below (λ values s room.
      h.is values s room ∙ sym (as-it-is (own_length nets part) width signed (value_in nets (row values) (own_length nets part) (is_signed nets part) part) same))

  pub shows-as-unsigned : (ops : List Op) (a width : ℕ) (signed : Bool) (part : Expr) → Here ops a (own_length nets part) (is_signed nets part) part
      → Here ops a width signed (roll-Expr (Expr-F.AsUnsigned part))
  shows-as-unsigned ops a width signed part h = shows-place ops a width signed (Expr-F.AsUnsigned part) h.below (λ values s room. h.is values s room)

  -- and in a context with sign it is extended
  pub shows-as-signed : (ops : List Op) (a width : ℕ) (part : Expr) → own_length nets part ≤ width → width ≤ 128 → Value ops a (own_length nets part) (is_signed nets part) part
      → Here (ops ++ One (Extended (2 ^ (own_length nets part - 1)) (2 ^ width - 2 ^ own_length nets part)) a ∷ []) (base + length ops) width true (roll-Expr (Expr-F.AsSigned part))
  shows-as-signed ops a width part le most v =
      let own = own_length nets part in
      shows-op ops (One (Extended (2 ^ (own - 1)) (2 ^ width - 2 ^ own)) a) width true (Expr-F.AsSigned part) (λ values s room.
      extension (word own true (values a)) width refl (value-below ops a own (is_signed nets part) part v values s room) le most
      ∙ ap (λ x. extended (word own true x) width) (v.here.is values s room))

  -- a shift, by an operation or to a constant
  pub shows-shift : (ops : List Op) (op : Op) (a width : ℕ) (signed : Bool) (of : ShiftOp) (part : Expr) (amount : Sized) → Value ops a width signed part
      → ((values : ℕ → ℕ) → values a < 2 ^ width → op_value op values ≡ shift_bits of (word width signed (values a)) amount.bits)
      → Here (ops ++ op ∷ []) (base + length ops) width signed (roll-Expr (Expr-F.Shift of part amount))
  shows-shift ops op a width signed of part amount v gives = shows-op ops op width signed (Expr-F.Shift of part amount) (λ values s room.
      gives values (value-below ops a width signed part v values s room) ∙ ap (λ x. shift_bits of (word width signed x) amount.bits) (v.here.is values s room))

  -- the same where other names get places, as long as those that the expression reads keep theirs
  pub still-placed : (slot_of' : List ℕ → ℕ) (ops : List Op) (slot width : ℕ) (signed : Bool) (e : Expr) → ((name : List ℕ) → Contains (names_read e) name → slot_of name ≡ slot_of' name)
      → Here ops slot width signed e → Shows base nets slot_of' ops slot width signed e
  still-placed slot_of' ops slot width signed e same h = record {
    below = h.below;
    is = λ values s room.
        let before : NamesFit nets (row_of slot_of values) (names_read e) = record { at = λ name c. subst (λ k. values k < 2 ^ (nets name).width) (sym (same name c)) (room.at name c) } in
        h.is values s before ∙ values-agree by_layer nets (row_of slot_of values) (row_of slot_of' values) e width signed (λ name c. ap values (same name c));
  }

  -- operands side by side: their bits hang on the values, and together they have so many
  pub record ShowsBeside (ops : List Op) (slot length' : ℕ) (bits_of : (ℕ → ℕ) → List Bits) (names : List (List ℕ)) : Type 0 where
    pub below : slot < base + length ops
    pub is : (values : ℕ → ℕ) → IsSettled base ops values → Fit values names → values slot ≡ fold beside 0 (bits_of values)
    pub fits : (values : ℕ → ℕ) → IsSettled base ops values → Fit values names → fold beside 0 (bits_of values) < 2 ^ length'

  beside-snoc : (bs : List Bits) (b : Bits) → fold beside 0 (bs ++ b ∷ []) ≡ fold beside 0 bs * 2 ^ b.width + b.bits
  beside-snoc bs b = fold-append beside 0 bs (b ∷ [])

  -- one more on the right
  pub shows-beside : (ops : List Op) (a b l w : ℕ) (sg : Bool) (bits_of : (ℕ → ℕ) → List Bits) (names : List (List ℕ)) (part : Expr) → l + w ≤ 128
      → ((values : ℕ → ℕ) → Fit values names → Fit values (names_read part))
      → ShowsBeside ops a l bits_of names → Value ops b w sg part
      → ShowsBeside (ops ++ Beside a b w ∷ []) (base + length ops) (l + w) (λ values. bits_of values ++ bits_in nets (row values) w sg part ∷ []) names
  shows-beside ops a b l w sg bits_of names part most sub h v = record {
    below = last-below ops (Beside a b w);
    is = λ values s room.
        let before = settled-before base ops (Beside a b w ∷ []) values s in
        let la = h.is values before room in
        let rb = v.here.is values before (sub values room) in
        last-value base ops (Beside a b w) values s
        ∙ (λ i. (la i * 2 ^ w % 2 ^ 128 + rb i) % 2 ^ 128)
        ∙ put-beside (fold beside 0 (bits_of values)) (value_in nets (row values) w sg part) l w (h.fits values before room)
        (subst (λ x. x < 2 ^ w) rb (value-below ops b w sg part v values before (sub values room))) most
        ∙ sym (beside-snoc (bits_of values) (bits_in nets (row values) w sg part));
    fits = λ values s room.
        let before = settled-before base ops (Beside a b w ∷ []) values s in
        let rb = v.here.is values before (sub values room) in
        subst (λ n. n < 2 ^ (l + w)) (sym (beside-snoc (bits_of values) (bits_in nets (row values) w sg part)))
        (beside-fits (fold beside 0 (bits_of values)) l (bits_in nets (row values) w sg part) (h.fits values before room)
        (subst (λ x. x < 2 ^ w) rb (value-below ops b w sg part v values before (sub values room))));
  }

  -- copies of a bit
  pub shows-bit-copies : (ops : List Op) (a w count : ℕ) (sg : Bool) (part : Expr) → w ≡ 1 → 0 < count → count ≤ 128 → Value ops a w sg part
      → ShowsBeside (ops ++ One (Extended (2 ^ (1 - 1)) (2 ^ count - 2 ^ 1)) a ∷ []) (base + length ops) count (λ values. replicate count (bits_in nets (row values) w sg part)) (names_read part)
  shows-bit-copies ops a w count sg part one some most v = record {
    below = last-below ops (One (Extended (2 ^ (1 - 1)) (2 ^ count - 2 ^ 1)) a);
    is = λ values s room.
        let before = settled-before base ops (One (Extended (2 ^ (1 - 1)) (2 ^ count - 2 ^ 1)) a ∷ []) values s in
        let rb = v.here.is values before room in
        let low : values a < 2 ^ 1 = subst (λ n. values a < 2 ^ n) one (value-below ops a w sg part v values before room) in
        last-value base ops (One (Extended (2 ^ (1 - 1)) (2 ^ count - 2 ^ 1)) a) values s
        ∙ extension (word 1 true (values a)) count refl low some most
        ∙ ap (λ x. extended (word 1 true x) count) rb
        ∙ bit-copies count (bits_in nets (row values) w sg part) one (subst (λ x. x < 2 ^ 1) rb low) some;
    fits = λ values s room.
        let before = settled-before base ops (One (Extended (2 ^ (1 - 1)) (2 ^ count - 2 ^ 1)) a ∷ []) values s in
        let rb = v.here.is values before room in
        let low : value_in nets (row values) w sg part < 2 ^ 1 = subst (λ x. x < 2 ^ 1) rb (subst (λ n. values a < 2 ^ n) one (value-below ops a w sg part v values before room)) in
        subst (λ n. n < 2 ^ count) (bit-copies count (bits_in nets (row values) w sg part) one low some) (extended-fits (word 1 true (value_in nets (row values) w sg part)) count low some);
  }

  -- beside what has no bits
  pub shows-first : (ops : List Op) (b l w : ℕ) (sg : Bool) (bits_of : (ℕ → ℕ) → List Bits) (names : List (List ℕ)) (part : Expr) → l ≡ 0
      → ((values : ℕ → ℕ) → Fit values names → Fit values (names_read part))
      → ((values : ℕ → ℕ) → IsSettled base ops values → Fit values names → fold beside 0 (bits_of values) < 2 ^ l) → Value ops b w sg part
      → ShowsBeside ops b (l + w) (λ values. bits_of values ++ bits_in nets (row values) w sg part ∷ []) names
  shows-first ops b l w sg bits_of names part none sub fits v = record {
    below = v.here.below;
    is = λ values s room.
        let zero' = nothing (fold beside 0 (bits_of values)) l none (fits values s room) in
        v.here.is values s (sub values room) ∙ as-only (2 ^ w) (value_in nets (row values) w sg part)
        ∙ ap (λ n. n * 2 ^ w + value_in nets (row values) w sg part) (sym zero')
        ∙ sym (beside-snoc (bits_of values) (bits_in nets (row values) w sg part));
    fits = λ values s room.
        let rb = v.here.is values s (sub values room) in
        subst (λ n. n < 2 ^ (l + w)) (sym (beside-snoc (bits_of values) (bits_in nets (row values) w sg part)))
        (beside-fits (fold beside 0 (bits_of values)) l (bits_in nets (row values) w sg part) (fits values s room)
        (subst (λ x. x < 2 ^ w) rb (value-below ops b w sg part v values s (sub values room))));
  }
    where
      nothing : (n l : ℕ) → l ≡ 0 → n < 2 ^ l → n ≡ 0
      nothing n l e low = let p = ap (λ k. 2 ^ k) e in omega (arith, p, low)

      as-only : (m v : ℕ) → v ≡ 0 * m + v
      as-only m v = omega arith

  -- a concatenation and a repetition
  pub shows-concat : (ops : List Op) (slot l width : ℕ) (signed : Bool) (parts : List Expr)
      → ShowsBeside ops slot l (λ values. map (alone nets) (map (operand_of nets (row values)) parts)) (flat_map (λ p. p) (map names_read parts))
      → Here ops slot width signed (roll-Expr (Expr-F.Concat parts))
  shows-concat ops slot l width signed parts h = shows-place ops slot width signed (Expr-F.Concat parts) h.below (λ values s room. h.is values s room)

  pub shows-repeat : (ops : List Op) (slot l width : ℕ) (signed : Bool) (count : ℕ) (part : Expr)
      → ShowsBeside ops slot l (λ values. replicate count (alone nets (operand_of nets (row values) part))) (names_read part)
      → Here ops slot width signed (roll-Expr (Expr-F.Repeat count part))
  shows-repeat ops slot l width signed count part h = shows-place ops slot width signed (Expr-F.Repeat count part) h.below (λ values s room. h.is values s room)

  pub still-beside : (ops more : List Op) (slot l : ℕ) (bits_of : (ℕ → ℕ) → List Bits) (names : List (List ℕ)) → ShowsBeside ops slot l bits_of names → ShowsBeside (ops ++ more) slot l bits_of names
  still-beside ops more slot l bits_of names h = record {
    below = let longer = length-append ops more in let b = h.below in omega (arith, longer, b);
    is = λ values s r. h.is values (settled-before base ops more values s) r;
    fits = λ values s r. h.fits values (settled-before base ops more values s) r;
  }
