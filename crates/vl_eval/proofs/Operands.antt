-- What an expression's soundness, length and names say of its operands.
use Rattle.std.proofs.Common.{◌≡◌, ◌<◌, ◌≤◌, ◌+◌, ◌-◌, ◌*◌, ℕ, max, sum, Bool, true, false, ◌&&◌, nat_le, nat_lt, List, [], ◌∷◌, ◌++◌, map, flat_map, refl, sym, ap, ◌∙◌, arith}
use Rattle.std.specs.List.{list_all}
use Rattle.std.proofs.lemmas.Bool.{and_parts, leb-true, ltb-true}
use Rattle.vl_ast.specs.declared.expressions.UnOp.{UnOp}
use Rattle.vl_ast.specs.declared.expressions.BinOp.{BinOp}
use Rattle.vl_ast.specs.declared.expressions.ShiftOp.{ShiftOp}
use Rattle.vl_ast.specs.declared.expressions.Sized.{Sized}
use Rattle.vl_ast.specs.declared.expressions.Expr.{Expr}
use Rattle.vl_ast.specs.declared.expressions.Expr.TheOpen.{Expr-F}
use Rattle.vl_ast.specs.declared.expressions.Expr.TheViews.{roll-Expr}
use Rattle.vl_ast.specs.declared.expressions.Expr.TheVariants.{Name, Bit, Part, Literal, Concat, Repeat, AsSigned, AsUnsigned, Unary, Binary, Shift, Choose, rolls-Name, rolls-Bit, rolls-Part}
use Rattle.vl_ast.specs.declared.expressions.Expr.TheVariants.{rolls-Literal, rolls-Concat, rolls-Repeat, rolls-AsSigned, rolls-AsUnsigned, rolls-Unary, rolls-Binary, rolls-Shift, rolls-Choose}
use Rattle.vl_ast.specs.declared.expressions.Expr.TheFolds.{map-Expr, para-Expr, para-roll-Expr, fold-roll-Expr}
use Rattle.vl_ast.specs.Context.{Net, own_length, is_signed, length_step, sign_step, length_at, unary_place, binary_place}
use Rattle.vl_ast.specs.Conditions.{is_number, is_sound, is_sound_step, is_narrow}
use Rattle.vl_ast.specs.Nets.{names_read, names_step}

module _ (nets : List ℕ → Net) where
  abbrev steps : Expr → Bool
  steps e = para-Expr Bool (is_sound_step nets) e

  abbrev sound-layer : Expr-F Expr → Bool
  sound-layer x = is_sound_step nets (map-Expr Expr (Expr × Bool) (λ e. (e, steps e)) x)

  pub steps-of : (e : Expr) → is_sound nets e ≡ true → steps e ≡ true
  steps-of e h = (and_parts (steps e) (nat_le (own_length nets e) 128) h).0

  pub few-of : (e : Expr) → is_sound nets e ≡ true → own_length nets e ≤ 128
  few-of e h = leb-true (own_length nets e) 128 (and_parts (steps e) (nat_le (own_length nets e) 128) h).1

  layer-sound : (x : Expr-F Expr) (e : Expr) → roll-Expr x ≡ e → is_sound nets e ≡ true → sound-layer x ≡ true
  layer-sound x e rolls h = sym (ap steps (sym rolls) ∙ para-roll-Expr Bool (is_sound_step nets) x) ∙ steps-of e h

  length-of : (x : Expr-F Expr) (e : Expr) → roll-Expr x ≡ e → own_length nets e ≡ length_step nets (map-Expr Expr ℕ (own_length nets) x)
  length-of x e rolls = ap (own_length nets) (sym rolls) ∙ fold-roll-Expr ℕ (length_step nets) x

  sign-of : (x : Expr-F Expr) (e : Expr) → roll-Expr x ≡ e → is_signed nets e ≡ sign_step nets (map-Expr Expr Bool (is_signed nets) x)
  sign-of x e rolls = ap (is_signed nets) (sym rolls) ∙ fold-roll-Expr Bool (sign_step nets) x

  names-of : (x : Expr-F Expr) (e : Expr) → roll-Expr x ≡ e → names_read e ≡ names_step (map-Expr Expr (List (List ℕ)) names_read x)
  names-of x e rolls = ap names_read (sym rolls) ∙ fold-roll-Expr (List (List ℕ)) names_step x

  pub sound-unary : (op : UnOp) (part : Expr) → is_sound nets (Unary op part) ≡ true → is_sound nets part ≡ true
  sound-unary op part h = layer-sound (Expr-F.Unary op part) (Unary op part) (rolls-Unary op part) h

  pub length-unary : (op : UnOp) (part : Expr) → own_length nets (Unary op part) ≡ length_at (unary_place op) (own_length nets part)
  length-unary op part = length-of (Expr-F.Unary op part) (Unary op part) (rolls-Unary op part)

  pub names-unary : (op : UnOp) (part : Expr) → names_read (Unary op part) ≡ names_read part
  names-unary op part = names-of (Expr-F.Unary op part) (Unary op part) (rolls-Unary op part)

  pub sound-as-signed : (part : Expr) → is_sound nets (AsSigned part) ≡ true → is_sound nets part ≡ true
  sound-as-signed part h = layer-sound (Expr-F.AsSigned part) (AsSigned part) (rolls-AsSigned part) h

  pub length-as-signed : (part : Expr) → own_length nets (AsSigned part) ≡ own_length nets part
  length-as-signed part = length-of (Expr-F.AsSigned part) (AsSigned part) (rolls-AsSigned part)

  pub names-as-signed : (part : Expr) → names_read (AsSigned part) ≡ names_read part
  names-as-signed part = names-of (Expr-F.AsSigned part) (AsSigned part) (rolls-AsSigned part)

  pub sound-as-unsigned : (part : Expr) → is_sound nets (AsUnsigned part) ≡ true → is_sound nets part ≡ true
  sound-as-unsigned part h = layer-sound (Expr-F.AsUnsigned part) (AsUnsigned part) (rolls-AsUnsigned part) h

  pub names-as-unsigned : (part : Expr) → names_read (AsUnsigned part) ≡ names_read part
  names-as-unsigned part = names-of (Expr-F.AsUnsigned part) (AsUnsigned part) (rolls-AsUnsigned part)

  pub sound-binary : (op : BinOp) (left right : Expr) → is_sound nets (Binary op left right) ≡ true → (is_sound nets left ≡ true) × (is_sound nets right ≡ true)
  sound-binary op left right h = and_parts (is_sound nets left) (is_sound nets right) (layer-sound (Expr-F.Binary op left right) (Binary op left right) (rolls-Binary op left right) h)

  pub length-binary : (op : BinOp) (left right : Expr) → own_length nets (Binary op left right) ≡ length_at (binary_place op) (max (own_length nets left) (own_length nets right))
  length-binary op left right = length-of (Expr-F.Binary op left right) (Binary op left right) (rolls-Binary op left right)

  pub names-binary : (op : BinOp) (left right : Expr) → names_read (Binary op left right) ≡ names_read left ++ names_read right
  names-binary op left right = names-of (Expr-F.Binary op left right) (Binary op left right) (rolls-Binary op left right)

  pub sound-shift : (op : ShiftOp) (part : Expr) (amount : Sized) → is_sound nets (Shift op part amount) ≡ true → (is_sound nets part ≡ true) × (is_number amount ≡ true)
  sound-shift op part amount h = and_parts (is_sound nets part) (is_number amount) (layer-sound (Expr-F.Shift op part amount) (Shift op part amount) (rolls-Shift op part amount) h)

  pub length-shift : (op : ShiftOp) (part : Expr) (amount : Sized) → own_length nets (Shift op part amount) ≡ own_length nets part
  length-shift op part amount = length-of (Expr-F.Shift op part amount) (Shift op part amount) (rolls-Shift op part amount)

  pub names-shift : (op : ShiftOp) (part : Expr) (amount : Sized) → names_read (Shift op part amount) ≡ names_read part
  names-shift op part amount = names-of (Expr-F.Shift op part amount) (Shift op part amount) (rolls-Shift op part amount)

  pub sound-choose : (test chosen other : Expr) → is_sound nets (Choose test chosen other) ≡ true → (is_sound nets test ≡ true) × (is_sound nets chosen ≡ true) × (is_sound nets other ≡ true)
  sound-choose test chosen other h =
      let both = and_parts (is_sound nets test && is_sound nets chosen) (is_sound nets other)
      (layer-sound (Expr-F.Choose test chosen other) (Choose test chosen other)
      (rolls-Choose test chosen other) h) in
      let two = and_parts (is_sound nets test) (is_sound nets chosen) both.0 in
      (two.0, two.1, both.1)

  pub length-choose : (test chosen other : Expr) → own_length nets (Choose test chosen other) ≡ max (own_length nets chosen) (own_length nets other)
  length-choose test chosen other = length-of (Expr-F.Choose test chosen other) (Choose test chosen other) (rolls-Choose test chosen other)

  pub names-choose : (test chosen other : Expr) → names_read (Choose test chosen other) ≡ names_read test ++ (names_read chosen ++ names_read other)
  names-choose test chosen other = names-of (Expr-F.Choose test chosen other) (Choose test chosen other) (rolls-Choose test chosen other)

  pub sound-repeat : (count : ℕ) (part : Expr) → is_sound nets (Repeat count part) ≡ true → (0 < count) × (is_sound nets part ≡ true) × (count * own_length nets part ≤ 128)
  sound-repeat count part h =
      let both = and_parts (nat_lt 0 count) (is_sound nets part) (layer-sound (Expr-F.Repeat count part) (Repeat count part) (rolls-Repeat count part) h) in
      let l = length-of (Expr-F.Repeat count part) (Repeat count part) (rolls-Repeat count part) in
      let few = few-of (Repeat count part) h in
      (ltb-true 0 count both.0, both.1, omega (arith, l, few))

  pub names-repeat : (count : ℕ) (part : Expr) → names_read (Repeat count part) ≡ names_read part
  names-repeat count part = names-of (Expr-F.Repeat count part) (Repeat count part) (rolls-Repeat count part)

  pub length-repeat : (count : ℕ) (part : Expr) → own_length nets (Repeat count part) ≡ count * own_length nets part
  length-repeat count part = length-of (Expr-F.Repeat count part) (Repeat count part) (rolls-Repeat count part)

  pub sign-repeat : (count : ℕ) (part : Expr) → is_signed nets (Repeat count part) ≡ false
  sign-repeat count part = sign-of (Expr-F.Repeat count part) (Repeat count part) (rolls-Repeat count part)

  list-sound : (parts : List Expr) → list_all (is_narrow nets) (map (λ e. (e, steps e)) parts) ≡ list_all (is_sound nets) parts
  list-sound [] = refl
  list-sound (part ∷ parts) = ap (λ t. is_sound nets part && t) (list-sound parts)

  pub sound-concat : (parts : List Expr) → is_sound nets (Concat parts) ≡ true → (list_all (is_sound nets) parts ≡ true) × (sum (map (own_length nets) parts) ≤ 128)
  sound-concat parts h =
      let l = length-of (Expr-F.Concat parts) (Concat parts) (rolls-Concat parts) in
      let few = few-of (Concat parts) h in
      (sym (list-sound parts) ∙ layer-sound (Expr-F.Concat parts) (Concat parts) (rolls-Concat parts) h, omega (arith, l, few))

  pub length-concat : (parts : List Expr) → own_length nets (Concat parts) ≡ sum (map (own_length nets) parts)
  length-concat parts = length-of (Expr-F.Concat parts) (Concat parts) (rolls-Concat parts)

  pub sign-concat : (parts : List Expr) → is_signed nets (Concat parts) ≡ false
  sign-concat parts = sign-of (Expr-F.Concat parts) (Concat parts) (rolls-Concat parts)

  pub names-concat : (parts : List Expr) → names_read (Concat parts) ≡ flat_map (λ p. p) (map names_read parts)
  names-concat parts = names-of (Expr-F.Concat parts) (Concat parts) (rolls-Concat parts)

  pub sound-bit : (name : List ℕ) (place : ℕ) → is_sound nets (Bit name place) ≡ true → place < (nets name).width
  sound-bit name place h = ltb-true place (nets name).width
      (and_parts (nat_lt 1 (nets name).width) (nat_lt place (nets name).width)
      (layer-sound (Expr-F.Bit name place) (Bit name place) (rolls-Bit name place) h)).1

  pub sound-part : (name : List ℕ) (high low : ℕ) → is_sound nets (Part name high low) ≡ true → (low ≤ high) × (high < (nets name).width)
  sound-part name high low h =
      let both = and_parts (nat_lt 1 (nets name).width && nat_le low high) (nat_lt high (nets name).width)
      (layer-sound (Expr-F.Part name high low) (Part name high low) (rolls-Part name high low) h) in
      let two = and_parts (nat_lt 1 (nets name).width) (nat_le low high) both.0 in
      (leb-true low high two.1, ltb-true high (nets name).width both.1)

  pub names-name : (name : List ℕ) → names_read (Name name) ≡ name ∷ []
  names-name name = names-of (Expr-F.Name name) (Name name) (rolls-Name name)

  pub names-bit : (name : List ℕ) (place : ℕ) → names_read (Bit name place) ≡ name ∷ []
  names-bit name place = names-of (Expr-F.Bit name place) (Bit name place) (rolls-Bit name place)

  pub names-part : (name : List ℕ) (high low : ℕ) → names_read (Part name high low) ≡ name ∷ []
  names-part name high low = names-of (Expr-F.Part name high low) (Part name high low) (rolls-Part name high low)

  pub length-part : (name : List ℕ) (high low : ℕ) → own_length nets (Part name high low) ≡ high + 1 - low
  length-part name high low = length-of (Expr-F.Part name high low) (Part name high low) (rolls-Part name high low)

  pub length-name : (name : List ℕ) → own_length nets (Name name) ≡ (nets name).width
  length-name name = length-of (Expr-F.Name name) (Name name) (rolls-Name name)

  pub sound-literal : (number : Sized) → is_sound nets (Literal number) ≡ true → is_number number ≡ true
  sound-literal number h = layer-sound (Expr-F.Literal number) (Literal number) (rolls-Literal number) h

  pub length-literal : (number : Sized) → own_length nets (Literal number) ≡ number.width
  length-literal number = length-of (Expr-F.Literal number) (Literal number) (rolls-Literal number)
