-- The shape of each form of expression from those of its operands.
use Rattle.std.proofs.Common.{◌≡◌, ◌<◌, ◌≤◌, ◌+◌, ◌-◌, ◌*◌, ◌^◌, ℕ, max, sum, Bool, true, false, ◌&&◌, if◌then◌else◌, nat_le, nat_lt, List, [], ◌∷◌, ◌++◌, length, map, take, drop, slice_index_or}
use Rattle.std.proofs.Common.{Option, None, Some, refl, sym, ap, ◌∙◌, arith}
use Rattle.std.specs.Option.{option_map, option_and_then}
use Rattle.std.specs.List.{list_all}
use Rattle.std.proofs.lemmas.Bool.{and_parts, leb-true, le-leb, lt-leb}
use Rattle.std.proofs.lemmas.List.{map-append, take_more, take-append-drop}
use Rattle.std.proofs.lemmas.List.Sums.{sum_by-append}
use Rattle.std.proofs.lemmas.List.Folds.{list_all-append, list_all_at}
use Rattle.vl_ast.specs.declared.expressions.UnOp.{UnOp}
use Rattle.vl_ast.specs.declared.expressions.BinOp.{BinOp}
use Rattle.vl_ast.specs.declared.expressions.ShiftOp.{ShiftOp}
use Rattle.vl_ast.specs.declared.expressions.Sized.{Sized}
use Rattle.vl_ast.specs.declared.expressions.Expr.{Expr}
use Rattle.vl_ast.specs.declared.expressions.Expr.TheOpen.{Expr-F}
use Rattle.vl_ast.specs.declared.expressions.Expr.TheViews.{roll-Expr}
use Rattle.vl_ast.specs.declared.expressions.Expr.TheVariants.{Name, Bit, Part, Literal, Concat, Repeat, AsSigned, AsUnsigned, Unary, Binary, Shift, Choose, rolls-Name, rolls-Bit, rolls-Part}
use Rattle.vl_ast.specs.declared.expressions.Expr.TheVariants.{rolls-Literal, rolls-Concat, rolls-Repeat, rolls-AsSigned, rolls-AsUnsigned, rolls-Unary, rolls-Binary, rolls-Shift, rolls-Choose}
use Rattle.vl_ast.specs.declared.expressions.Expr.TheFolds.{map-Expr, para-Expr, para-roll-Expr, fold-roll-Expr}
use Rattle.vl_ast.specs.Context.{Net, Place, InWhole, Together, Alone, own_length, length_step, is_signed, sign_step, length_at, sign_at, unary_place, binary_place}
use Rattle.vl_ast.specs.Conditions.{is_number, is_sound, is_sound_step, is_narrow}
use Rattle.vl_check.specs.declared.shapes.Shape.{Shape}
use Rattle.vl_check.specs.Shape.{shape_of, shape_in, narrow, unary_shape, binary_shape, bit_shape, part_shape, literal_shape, with_both, choice_shape}

-- a shape where a test holds
abbrev when : Bool → ℕ → Bool → Option Shape
when sound length signed = if sound then Some (shape_of length signed) else None

module _ (nets : List ℕ → Net) where
  abbrev steps : Expr → Bool
  steps e = para-Expr Bool (is_sound_step nets) e

  abbrev sound-at : Expr-F Expr → Bool
  sound-at x = is_sound_step nets (map-Expr Expr (Expr × Bool) (λ e. (e, steps e)) x)

  abbrev length-at : Expr-F Expr → ℕ
  length-at x = length_step nets (map-Expr Expr ℕ (own_length nets) x)

  abbrev sign-at : Expr-F Expr → Bool
  sign-at x = sign_step nets (map-Expr Expr Bool (is_signed nets) x)

  sound-rolls : (x : Expr-F Expr) → steps (roll-Expr x) ≡ sound-at x
  sound-rolls x = para-roll-Expr Bool (is_sound_step nets) x

  length-rolls : (x : Expr-F Expr) → own_length nets (roll-Expr x) ≡ length-at x
  length-rolls x = fold-roll-Expr ℕ (length_step nets) x

  sign-rolls : (x : Expr-F Expr) → is_signed nets (roll-Expr x) ≡ sign-at x
  sign-rolls x = fold-roll-Expr Bool (sign_step nets) x

  rolled : (x : Expr-F Expr) → shape_in nets (roll-Expr x) ≡ when (sound-at x && nat_le (length-at x) 128) (length-at x) (sign-at x)
  rolled x = (λ i. when (sound-rolls x i && nat_le (length-rolls x i) 128) (length-rolls x i) (sign-rolls x i))

  -- what a shape says
  pub record Known (e : Expr) (shape : Shape) : Type 0 where
    pub sound : is_sound nets e ≡ true
    pub length : own_length nets e ≡ shape.length
    pub sign : is_signed nets e ≡ shape.signed
    pub few : shape.length ≤ 128

  pub known : (e : Expr) (shape : Shape) → shape_in nets e ≡ Some shape → Known e shape
  known e shape h = by (is_sound nets e) refl h where
    by : (t : Bool) → is_sound nets e ≡ t → when t (own_length nets e) (is_signed nets e) ≡ Some shape → Known e shape
    by true s h =
        let l : own_length nets e ≡ shape.length = cc h in
        let few = leb-true (own_length nets e) 128 (and_parts (steps e) (nat_le (own_length nets e) 128) s).1 in
        record { sound = s; length = l; sign = cc h; few = omega (arith, l, few) }
    by false s h = absurd (cc h)

  pub unsound : (e : Expr) → shape_in nets e ≡ None → is_sound nets e ≡ false
  unsound e h = by (is_sound nets e) refl h where
    by : (t : Bool) → is_sound nets e ≡ t → when t (own_length nets e) (is_signed nets e) ≡ None → is_sound nets e ≡ false
    by true s h = absurd (cc h)
    by false s h = s

and-true : (c : Bool) → (c && true) ≡ c
and-true true = refl
and-true false = refl

nested : (c d : Bool) (length : ℕ) (signed : Bool) → when (c && d) length signed ≡ (if c then when d length signed else None)
nested true d length signed = refl
nested false d length signed = refl

number-width : (n : Sized) → is_number n ≡ true → nat_le n.width 128 ≡ true
number-width n h = (and_parts (nat_le 1 n.width) (nat_le n.width 128) (and_parts (nat_le 1 n.width && nat_le n.width 128) (nat_lt n.bits (2 ^ n.width)) h).0).1

place-few : (place : Place) (n : ℕ) → n ≤ 128 → length_at place n ≤ 128
place-few InWhole n le = le
place-few Together n le = omega arith
place-few Alone n le = omega arith

module _ (nets : List ℕ → Net) where
  pub shape-name : (n : List ℕ) → shape_in nets (Name n) ≡ narrow (nets n).width (nets n).signed
  shape-name n = ap (shape_in nets) (sym (rolls-Name n)) ∙ rolled nets (Expr-F.Name n)

  pub shape-bit : (n : List ℕ) (place : ℕ) → shape_in nets (Bit n place) ≡ bit_shape (nets n) place
  shape-bit n place = ap (shape_in nets) (sym (rolls-Bit n place)) ∙ rolled nets (Expr-F.Bit n place)
      ∙ ap (λ t. when t 1 false) (and-true (nat_lt 1 (nets n).width && nat_lt place (nets n).width))

  pub shape-part : (n : List ℕ) (high low : ℕ) → shape_in nets (Part n high low) ≡ part_shape (nets n) high low
  shape-part n high low = ap (shape_in nets) (sym (rolls-Part n high low)) ∙ rolled nets (Expr-F.Part n high low)
      ∙ nested (nat_lt 1 (nets n).width && nat_le low high && nat_lt high (nets n).width) (nat_le (high + 1 - low) 128) (high + 1 - low) false

  pub shape-literal : (n : Sized) → shape_in nets (Literal n) ≡ literal_shape n
  shape-literal n = ap (shape_in nets) (sym (rolls-Literal n)) ∙ rolled nets (Expr-F.Literal n) ∙ by (is_number n) refl where
    by : (t : Bool) → is_number n ≡ t → when (is_number n && nat_le n.width 128) n.width n.signed ≡ when (is_number n) n.width n.signed
    by true e = ap (λ t. when (is_number n && t) n.width n.signed) (number-width n e) ∙ ap (λ t. when t n.width n.signed) (and-true (is_number n))
    by false e = (λ i. when (e i && nat_le n.width 128) n.width n.signed) ∙ (λ i. when (sym e i) n.width n.signed)

  -- one operand
  one-part : (part : Expr) (more : Bool) (f : ℕ → ℕ) (g : Bool → Bool) → ((n : ℕ) → n ≤ 128 → f n ≤ 128) → (o : Option Shape) → shape_in nets part ≡ o
      → when ((is_sound nets part && more) && nat_le (f (own_length nets part)) 128) (f (own_length nets part))
      (g (is_signed nets part))
      ≡ (if more then option_map (λ s. shape_of (f s.length) (g s.signed)) o else None)
  one-part part more f g few None h = (λ i. when ((unsound nets part h i && more) && nat_le (f (own_length nets part)) 128) (f (own_length nets part)) (g (is_signed nets part))) ∙ none more where
    none : (t : Bool) → ◌≡◌ {A = Option Shape} None (if t then None else None)
    none true = refl
    none false = refl
  one-part part more f g few (Some s) h =
      let k = known nets part s h in
      (λ i. when ((k.sound i && more) && nat_le (f (k.length i)) 128) (f (k.length i)) (g (k.sign i)))
      ∙ ap (λ t. when (more && t) (f s.length) (g s.signed)) (le-leb (f s.length) 128 (few s.length k.few))
      ∙ ap (λ t. when t (f s.length) (g s.signed)) (and-true more)

  pub shape-unary : (op : UnOp) (part : Expr) (o : Option Shape) → shape_in nets part ≡ o → shape_in nets (Unary op part) ≡ option_map (unary_shape op) o
  shape-unary op part o h = ap (shape_in nets) (sym (rolls-Unary op part)) ∙ rolled nets (Expr-F.Unary op part)
      ∙ ap (λ t. when (t && nat_le (length_at (unary_place op) (own_length nets part)) 128)
      (length_at (unary_place op) (own_length nets part)) (sign_at (unary_place op) (is_signed nets part)))
      (sym (and-true (is_sound nets part)))
      ∙ one-part part true (length_at (unary_place op)) (sign_at (unary_place op)) (place-few (unary_place op)) o h

  pub shape-as-signed : (part : Expr) (o : Option Shape) → shape_in nets part ≡ o → shape_in nets (AsSigned part) ≡ option_map (λ s. shape_of s.length true) o
  shape-as-signed part o h = ap (shape_in nets) (sym (rolls-AsSigned part)) ∙ rolled nets (Expr-F.AsSigned part)
      ∙ ap (λ t. when (t && nat_le (own_length nets part) 128) (own_length nets part) true) (sym (and-true (is_sound nets part)))
      ∙ one-part part true (λ n. n) (λ _. true) (λ n le. le) o h

  pub shape-as-unsigned : (part : Expr) (o : Option Shape) → shape_in nets part ≡ o → shape_in nets (AsUnsigned part) ≡ option_map (λ s. shape_of s.length false) o
  shape-as-unsigned part o h = ap (shape_in nets) (sym (rolls-AsUnsigned part)) ∙ rolled nets (Expr-F.AsUnsigned part)
      ∙ ap (λ t. when (t && nat_le (own_length nets part) 128) (own_length nets part) false) (sym (and-true (is_sound nets part)))
      ∙ one-part part true (λ n. n) (λ _. false) (λ n le. le) o h

  same-shape : (o : Option Shape) → option_map (λ (s : Shape). shape_of s.length s.signed) o ≡ o
  same-shape None = refl
  same-shape (Some s) = refl

  pub shape-shift : (op : ShiftOp) (part : Expr) (amount : Sized) (o : Option Shape) → shape_in nets part ≡ o → shape_in nets (Shift op part amount) ≡ (if is_number amount then o else None)
  shape-shift op part amount o h = ap (shape_in nets) (sym (rolls-Shift op part amount)) ∙ rolled nets (Expr-F.Shift op part amount)
      ∙ one-part part (is_number amount) (λ n. n) (λ t. t) (λ n le. le) o h ∙ ap (λ x. if is_number amount then x else None) (same-shape o)

  pub shape-repeat : (count : ℕ) (part : Expr) (o : Option Shape) → shape_in nets part ≡ o
      → shape_in nets (Repeat count part)
      ≡ (if nat_lt 0 count then option_and_then (λ s. narrow (count * s.length) false) o else None)
  shape-repeat count part o h = ap (shape_in nets) (sym (rolls-Repeat count part)) ∙ rolled nets (Expr-F.Repeat count part) ∙ by (nat_lt 0 count) o h where
    by : (t : Bool) (o : Option Shape) → shape_in nets part ≡ o
        → when ((t && is_sound nets part) && nat_le (count * own_length nets part) 128)
        (count * own_length nets part) false
        ≡ (if t then option_and_then (λ s. narrow (count * s.length) false) o else None)
    by false o h = refl
    by true None h = (λ i. when (unsound nets part h i && nat_le (count * own_length nets part) 128) (count * own_length nets part) false)
    by true (Some s) h = let k = known nets part s h in (λ i. when (k.sound i && nat_le (count * k.length i) 128) (count * k.length i) false)

  -- two operands
  pub shape-binary : (op : BinOp) (left right : Expr) (l r : Shape) → shape_in nets left ≡ Some l → shape_in nets right ≡ Some r → shape_in nets (Binary op left right) ≡ Some (binary_shape op l r)
  shape-binary op left right l r hl hr =
      let kl = known nets left l hl in let kr = known nets right r hr in
      let fl = kl.few in let fr = kr.few in
      let most : max l.length r.length ≤ 128 = omega arith in
      ap (shape_in nets) (sym (rolls-Binary op left right)) ∙ rolled nets (Expr-F.Binary op left right)
      ∙ (λ i. when ((kl.sound i && kr.sound i)
      && nat_le (length_at (binary_place op) (max (kl.length i) (kr.length i))) 128)
      (length_at (binary_place op) (max (kl.length i) (kr.length i)))
      (sign_at (binary_place op) (kl.sign i && kr.sign i)))
      ∙ ap (λ t. when t (length_at (binary_place op) (max l.length r.length))
      (sign_at (binary_place op) (l.signed && r.signed)))
      (le-leb (length_at (binary_place op) (max l.length r.length)) 128
      (place-few (binary_place op) (max l.length r.length) most))

  and-false : (c : Bool) → (c && false) ≡ false
  and-false true = refl
  and-false false = refl

  pub shape-binary-left : (op : BinOp) (left right : Expr) → shape_in nets left ≡ None → shape_in nets (Binary op left right) ≡ None
  shape-binary-left op left right hl =
      ap (shape_in nets) (sym (rolls-Binary op left right)) ∙ rolled nets (Expr-F.Binary op left right)
      ∙ (λ i. when ((unsound nets left hl i && is_sound nets right)
      && nat_le (length-at nets (Expr-F.Binary op left right)) 128)
      (length-at nets (Expr-F.Binary op left right)) (sign-at nets (Expr-F.Binary op left right)))

  pub shape-binary-right : (op : BinOp) (left right : Expr) → shape_in nets right ≡ None → shape_in nets (Binary op left right) ≡ None
  shape-binary-right op left right hr =
      ap (shape_in nets) (sym (rolls-Binary op left right)) ∙ rolled nets (Expr-F.Binary op left right)
      ∙ (λ i. when ((is_sound nets left && unsound nets right hr i)
      && nat_le (length-at nets (Expr-F.Binary op left right)) 128)
      (length-at nets (Expr-F.Binary op left right)) (sign-at nets (Expr-F.Binary op left right)))
      ∙ ap (λ t. when (t && nat_le (length-at nets (Expr-F.Binary op left right)) 128)
      (length-at nets (Expr-F.Binary op left right)) (sign-at nets (Expr-F.Binary op left right)))
      (and-false (is_sound nets left))

  -- a choice
  abbrev choice-when : Expr → Expr → Expr → Bool → Option Shape
  choice-when test chosen other t = when (t && nat_le (length-at nets (Expr-F.Choose test chosen other)) 128)
      (length-at nets (Expr-F.Choose test chosen other)) (sign-at nets (Expr-F.Choose test chosen other))

  choice-unsound : (test chosen other : Expr) → (is_sound nets test && is_sound nets chosen && is_sound nets other) ≡ false → shape_in nets (Choose test chosen other) ≡ None
  choice-unsound test chosen other f = ap (shape_in nets) (sym (rolls-Choose test chosen other)) ∙ rolled nets (Expr-F.Choose test chosen other) ∙ ap (choice-when test chosen other) f

  pub shape-choose-test : (test chosen other : Expr) → shape_in nets test ≡ None → shape_in nets (Choose test chosen other) ≡ None
  shape-choose-test test chosen other h = choice-unsound test chosen other (λ i. unsound nets test h i && is_sound nets chosen && is_sound nets other)

  pub shape-choose-chosen : (test chosen other : Expr) → shape_in nets chosen ≡ None → shape_in nets (Choose test chosen other) ≡ None
  shape-choose-chosen test chosen other h =
      choice-unsound test chosen other ((λ i. is_sound nets test && unsound nets chosen h i && is_sound nets other)
      ∙ ap (λ t. t && is_sound nets other) (and-false (is_sound nets test)))

  pub shape-choose-other : (test chosen other : Expr) → shape_in nets other ≡ None → shape_in nets (Choose test chosen other) ≡ None
  shape-choose-other test chosen other h =
      choice-unsound test chosen other ((λ i. is_sound nets test && is_sound nets chosen && unsound nets other h i)
      ∙ and-false (is_sound nets test && is_sound nets chosen))

  pub shape-choose : (test chosen other : Expr) (t c o : Shape) → shape_in nets test ≡ Some t → shape_in nets chosen ≡ Some c → shape_in nets other ≡ Some o
      → shape_in nets (Choose test chosen other) ≡ Some (shape_of (max c.length o.length) (c.signed && o.signed))
  shape-choose test chosen other t c o ht hc ho =
      let kt = known nets test t ht in let kc = known nets chosen c hc in let ko = known nets other o ho in
      let fc = kc.few in let fo = ko.few in
      let most : max c.length o.length ≤ 128 = omega arith in
      ap (shape_in nets) (sym (rolls-Choose test chosen other)) ∙ rolled nets (Expr-F.Choose test chosen other)
      ∙ (λ i. when ((kt.sound i && kc.sound i && ko.sound i) && nat_le (max (kc.length i) (ko.length i)) 128) (max (kc.length i) (ko.length i)) (kc.sign i && ko.sign i))
      ∙ ap (λ t. when t (max c.length o.length) (c.signed && o.signed)) (le-leb (max c.length o.length) 128 most)

  -- the parts of a concatenation
  list-sound : (parts : List Expr) → list_all (is_narrow nets) (map (λ e. (e, steps nets e)) parts) ≡ list_all (is_sound nets) parts
  list-sound [] = refl
  list-sound (part ∷ parts) = ap (λ t. is_sound nets part && t) (list-sound parts)

  abbrev pub lengths : List Expr → ℕ
  lengths parts = sum (map (own_length nets) parts)

  concat-rolled : (parts : List Expr) → shape_in nets (Concat parts) ≡ when (list_all (is_sound nets) parts && nat_le (lengths parts) 128) (lengths parts) false
  concat-rolled parts = ap (shape_in nets) (sym (rolls-Concat parts)) ∙ rolled nets (Expr-F.Concat parts) ∙ ap (λ t. when (t && nat_le (lengths parts) 128) (lengths parts) false) (list-sound parts)

  pub shape-concat : (parts : List Expr) → list_all (is_sound nets) parts ≡ true → shape_in nets (Concat parts) ≡ narrow (lengths parts) false
  shape-concat parts h = concat-rolled parts ∙ ap (λ t. when (t && nat_le (lengths parts) 128) (lengths parts) false) h

  pub concat-unsound : (parts : List Expr) → list_all (is_sound nets) parts ≡ false → shape_in nets (Concat parts) ≡ None
  concat-unsound parts h = concat-rolled parts ∙ ap (λ t. when (t && nat_le (lengths parts) 128) (lengths parts) false) h

  pub concat-long : (parts : List Expr) → 128 < lengths parts → shape_in nets (Concat parts) ≡ None
  concat-long parts h = concat-rolled parts
      ∙ ap (λ t. when (list_all (is_sound nets) parts && t) (lengths parts) false) (lt-leb (lengths parts) 128 h)
      ∙ ap (λ t. when t (lengths parts) false) (and-false (list_all (is_sound nets) parts))

  pub shape-two : (op : BinOp) (left right : Expr) (l r : Option Shape) → shape_in nets left ≡ l → shape_in nets right ≡ r → shape_in nets (Binary op left right) ≡ with_both (binary_shape op) l r
  shape-two op left right None r hl hr = shape-binary-left op left right hl
  shape-two op left right (Some l) None hl hr = shape-binary-right op left right hr
  shape-two op left right (Some l) (Some r) hl hr = shape-binary op left right l r hl hr

  pub shape-three : (test chosen other : Expr) (t c o : Option Shape) → shape_in nets test ≡ t
      → shape_in nets chosen ≡ c → shape_in nets other ≡ o
      → shape_in nets (Choose test chosen other) ≡ choice_shape t c o
  shape-three test chosen other None c o ht hc ho = shape-choose-test test chosen other ht
  shape-three test chosen other (Some t) None o ht hc ho = shape-choose-chosen test chosen other hc
  shape-three test chosen other (Some t) (Some c) None ht hc ho = shape-choose-other test chosen other ho
  shape-three test chosen other (Some t) (Some c) (Some o) ht hc ho = shape-choose test chosen other t c o ht hc ho

  -- one more part
  lengths-append : (xs ys : List Expr) → lengths (xs ++ ys) ≡ lengths xs + lengths ys
  lengths-append xs ys = ap sum (map-append (own_length nets) xs ys) ∙ sum_by-append (λ x. x) (map (own_length nets) xs) (map (own_length nets) ys)

  pub part-more : (parts : List Expr) (i : ℕ) (x : Expr) (s : Shape) (n : ℕ) → i < length parts → x ≡ slice_index_or parts i x → shape_in nets x ≡ Some s → n ≡ lengths (take i parts)
      → n + s.length ≡ lengths (take (i + 1) parts)
  part-more parts i x s n below is h e =
      let k = known nets x s h in
      let l = k.length in
      let one : lengths (x ∷ []) ≡ own_length nets x = omega arith in
      (let r = lengths-append (take i parts) (x ∷ []) in let w : n + s.length ≡ lengths (take i parts ++ x ∷ []) = omega (arith, e, l, one, r) in w)
      ∙ ap lengths (ap (λ y. take i parts ++ y ∷ []) is ∙ sym (take_more parts i x below))

  pub part-sound : (parts : List Expr) (i : ℕ) (x : Expr) (s : Shape) → i < length parts → x ≡ slice_index_or parts i x → shape_in nets x ≡ Some s → list_all (is_sound nets) (take i parts) ≡ true
      → list_all (is_sound nets) (take (i + 1) parts) ≡ true
  part-sound parts i x s below is h a =
      ap (list_all (is_sound nets)) (take_more parts i x below ∙ ap (λ y. take i parts ++ y ∷ []) (sym is))
      ∙ list_all-append (is_sound nets) (take i parts) (x ∷ [])
      ∙ (λ j. a j && ((known nets x s h).sound j && true))

  pub part-bad : (parts : List Expr) (i : ℕ) (x : Expr) → i < length parts → x ≡ slice_index_or parts i x → shape_in nets x ≡ None → shape_in nets (Concat parts) ≡ None
  part-bad parts i x below is h = concat-unsound parts (list_all_at (is_sound nets) parts i x below (ap (is_sound nets) (sym is) ∙ unsound nets x h))

  pub part-long : (parts : List Expr) (i : ℕ) → 128 < lengths (take i parts) → shape_in nets (Concat parts) ≡ None
  part-long parts i more =
      let whole = ap lengths (take-append-drop i parts) in
      let cut = lengths-append (take i parts) (drop i parts) in
      concat-long parts (omega (arith, more, whole, cut))
