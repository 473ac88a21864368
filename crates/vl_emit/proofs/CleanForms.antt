-- What is emitted breaks no condition on expressions, reads the nets that it is made of, and multiplies
-- nowhere but at a Multiply or a Unit.
use Rattle.std.proofs.Common.{◌≡◌, inl, inr, ℕ, ◌+◌, ◌-◌, ◌*◌, ◌^◌, ◌<◌, ◌≤◌, ◌==◌, nat_le, nat_lt, max, min, Bool, true, false, ◌&&◌, if◌then◌else◌, List, [], ◌∷◌, ◌++◌, Contains, ap, sym, ◌∙◌}
use Rattle.std.proofs.Common.{subst, refl, arith, pow_pos}
use Rattle.std.proofs.lemmas.Bool.{and_parts, cond_both, eqb-true, eqb-false, leb-true, leb-false, ltb-true, le-leb, lt-ltb, and_from}
use Rattle.std.proofs.lemmas.List.Elements.{Contains-append_cases}
use Rattle.math_num.specs.Word.{IsWord}
use Rattle.vl_ast.specs.declared.expressions.UnOp.{UnOp}
use Rattle.vl_ast.specs.declared.expressions.UnOp.TheVariants as unary
use Rattle.vl_ast.specs.declared.expressions.BinOp.{BinOp}
use Rattle.vl_ast.specs.declared.expressions.BinOp.TheVariants as binary
use Rattle.vl_ast.specs.declared.expressions.ShiftOp.{ShiftOp}
use Rattle.vl_ast.specs.declared.expressions.Sized.{Sized}
use Rattle.vl_ast.specs.declared.expressions.Expr.{Expr}
use Rattle.vl_ast.specs.declared.expressions.Expr.TheOpen.{Expr-F}
use Rattle.vl_ast.specs.declared.expressions.Expr.TheViews.{roll-Expr}
use Rattle.vl_ast.specs.declared.expressions.Expr.TheFolds.{map-Expr, para-Expr, para-roll-Expr, fold-roll-Expr}
use Rattle.vl_ast.specs.declared.expressions.Expr.TheVariants.{Name, Bit, Part, Literal, Concat, Repeat, AsSigned, Unary, Binary, Shift, Choose, rolls-Name, rolls-Bit, rolls-Part, rolls-Literal}
use Rattle.vl_ast.specs.declared.expressions.Expr.TheVariants.{rolls-Concat, rolls-Repeat, rolls-AsSigned, rolls-Unary, rolls-Binary, rolls-Shift, rolls-Choose}
use Rattle.vl_ast.specs.Context.{Net, Operand, own_length, is_signed, length_at, unary_place, binary_place, InWhole, Together, Alone, Place, operand_at}
use Rattle.vl_ast.specs.Conditions.{is_sound_step, is_narrow, is_number, is_width}
use Rattle.vl_ast.specs.Nets.{names_read, names_step}
use Rattle.vl_ast.specs.Multiplications.{Multiplication, multiplications_in, multiplications_step, product_of}
use Rattle.vl_emit.specs.Names.{Wire}
use Rattle.vl_emit.specs.inner.Pieces.{zeros, fill, inside, piece, at_width}
use Rattle.vl_ast.specs.declared.expressions.ShiftOp.TheVariants.{Left}
use Rattle.vl_ast.specs.Value.{bits_of}
use Rattle.hw_net.specs.declared.netlist.NetOp.{NetOp}
use Rattle.hw_net.specs.declared.netlist.NetOp.TheVariants as operation
use Rattle.hw_net.specs.Operation.{arity}
use Rattle.vl_emit.specs.inner.Operators.{by_sign, compared, signed_width, widened, common_width, factor, product, product_signed, test_of, in_width, slice_at, expression_of}
use Rattle.vl_emit.specs.inner.Spoken.{IsWithin}
use Rattle.vl_ast.proofs.SomeInputs.{bits-fit}
use Rattle.vl_emit.specs.inner.Clean.{IsClean}
use Rattle.vl_emit.proofs.ModuleNets.{first-or-later, no-element}
use Rattle.vl_ast.proofs.Forms.{length-Name, length-Bit, length-Part, length-Literal, length-Concat, length-Repeat, length-AsSigned, length-Unary, length-Binary, length-Shift, length-Choose}

module _ (nets : List ℕ → Net) (allowed : List ℕ → Type 0) where
  abbrev pub sound : Expr → Bool
  sound = para-Expr Bool (is_sound_step nets)

  sound-roll : (layer : Expr-F Expr) → sound (roll-Expr layer) ≡ is_sound_step nets (map-Expr Expr (Expr × Bool) (λ e. (e, sound e)) layer)
  sound-roll layer = para-roll-Expr Bool (is_sound_step nets) layer

  names-roll : (layer : Expr-F Expr) → names_read (roll-Expr layer) ≡ names_step (map-Expr Expr (List (List ℕ)) names_read layer)
  names-roll layer = fold-roll-Expr (List (List ℕ)) names_step layer

  abbrev products_of : Expr → ℕ → Bool → List Multiplication
  products_of = para-Expr (ℕ → Bool → List Multiplication) (multiplications_step nets)

  products-roll : (layer : Expr-F Expr) (context : ℕ) (signed : Bool)
      → multiplications_in nets context signed (roll-Expr layer)
      ≡ multiplications_step nets (map-Expr Expr (Operand (List Multiplication)) (λ e. (e, products_of e)) layer) context signed
  products-roll layer context signed = ap (λ (f : ℕ → Bool → List Multiplication). f context signed) (para-roll-Expr (ℕ → Bool → List Multiplication) (multiplications_step nets) layer)

  abbrev Clean : ℕ → Expr → Type 0
  Clean = IsClean nets allowed

  pub narrow : (w : ℕ) (e : Expr) → w ≤ 128 → Clean w e → is_narrow nets (e, sound e) ≡ true
  narrow w e h p = (λ i. p.sound i && nat_le (p.length i) 128) ∙ le-leb w 128 h

  pub name-clean : (x : List ℕ) (w : ℕ) → (nets x).width ≡ w → allowed x → Clean w (Name x)
  name-clean x w e a = record {
    length = length-Name nets x ∙ e;
    sound = ap sound (sym (rolls-Name x)) ∙ sound-roll (Expr-F.Name x);
    reads = λ name c. (let l = ap names_read (sym (rolls-Name x)) ∙ names-roll (Expr-F.Name x) in
        elim (first-or-later x name [] (subst (λ (ns : List (List ℕ)). Contains ns name) l c)) [
          | inl same ↦ subst allowed same a
          | inr after ↦ absurd (no-element name after)
        ]);
    products = λ context signed. ap (multiplications_in nets context signed) (sym (rolls-Name x)) ∙ products-roll (Expr-F.Name x) context signed;
  }

  pub part-clean : (x : List ℕ) (low w v : ℕ) → (nets x).width ≡ v → 1 ≤ w → 1 < v → low + w ≤ v → allowed x → Clean w (Part x (low + w - 1) low)
  part-clean x low w v e h k within a = record {
    length = length-Part nets x (low + w - 1) low ∙ omega arith;
    sound = ap sound (sym (rolls-Part x (low + w - 1) low)) ∙ sound-roll (Expr-F.Part x (low + w - 1) low)
        ∙ (λ i. nat_lt 1 (e i) && nat_le low (low + w - 1) && nat_lt (low + w - 1) (e i))
        ∙ and_from (nat_lt 1 v && nat_le low (low + w - 1)) (nat_lt (low + w - 1) v)
        (and_from (nat_lt 1 v) (nat_le low (low + w - 1)) (lt-ltb 1 v k) (le-leb low (low + w - 1) (omega arith))) (lt-ltb (low + w - 1) v (omega arith));
    reads = λ name c. (let l = ap names_read (sym (rolls-Part x (low + w - 1) low)) ∙ names-roll (Expr-F.Part x (low + w - 1) low) in
        elim (first-or-later x name [] (subst (λ (ns : List (List ℕ)). Contains ns name) l c)) [
          | inl same ↦ subst allowed same a
          | inr after ↦ absurd (no-element name after)
        ]);
    products = λ context signed. ap (multiplications_in nets context signed) (sym (rolls-Part x (low + w - 1) low)) ∙ products-roll (Expr-F.Part x (low + w - 1) low) context signed;
  }

  pub bit-clean : (x : List ℕ) (place v : ℕ) → (nets x).width ≡ v → 1 < v → place < v → allowed x → Clean 1 (Bit x place)
  bit-clean x place v e k within a = record {
    length = length-Bit nets x place;
    sound = ap sound (sym (rolls-Bit x place)) ∙ sound-roll (Expr-F.Bit x place)
        ∙ (λ i. nat_lt 1 (e i) && nat_lt place (e i)) ∙ and_from (nat_lt 1 v) (nat_lt place v) (lt-ltb 1 v k) (lt-ltb place v within);
    reads = λ name c. (let l = ap names_read (sym (rolls-Bit x place)) ∙ names-roll (Expr-F.Bit x place) in
        elim (first-or-later x name [] (subst (λ (ns : List (List ℕ)). Contains ns name) l c)) [
          | inl same ↦ subst allowed same a
          | inr after ↦ absurd (no-element name after)
        ]);
    products = λ context signed. ap (multiplications_in nets context signed) (sym (rolls-Bit x place)) ∙ products-roll (Expr-F.Bit x place) context signed;
  }

  pub literal-clean : (number : Sized) → 1 ≤ number.width → number.width ≤ 128 → number.bits < 2 ^ number.width → Clean number.width (Literal number)
  literal-clean number h k below = record {
    length = length-Literal nets number;
    sound = ap sound (sym (rolls-Literal number)) ∙ sound-roll (Expr-F.Literal number)
        ∙ and_from (is_width number.width) (nat_lt number.bits (2 ^ number.width))
        (and_from (nat_le 1 number.width) (nat_le number.width 128) (le-leb 1 number.width h) (le-leb number.width 128 k)) (lt-ltb number.bits (2 ^ number.width) below);
    reads = λ name c. (let l = ap names_read (sym (rolls-Literal number)) ∙ names-roll (Expr-F.Literal number) in
        absurd (no-element name (subst (λ (ns : List (List ℕ)). Contains ns name) l c)));
    products = λ context signed. ap (multiplications_in nets context signed) (sym (rolls-Literal number)) ∙ products-roll (Expr-F.Literal number) context signed;
  }

  pub beside-clean : (k v : ℕ) (left right : Expr) → k + v ≤ 128 → Clean k left → Clean v right → Clean (k + v) (Concat (left ∷ right ∷ []))
  beside-clean k v left right h l r = record {
    length = length-Concat nets (left ∷ right ∷ []) ∙ omega (arith, l.length, r.length);
    sound = ap sound (sym (rolls-Concat (left ∷ right ∷ []))) ∙ sound-roll (Expr-F.Concat (left ∷ right ∷ []))
        ∙ (let a = narrow k left (omega arith) l in let b = narrow v right (omega arith) r in (λ i. a i && (b i && true)));
    reads = λ name c. (let e = ap names_read (sym (rolls-Concat (left ∷ right ∷ []))) ∙ names-roll (Expr-F.Concat (left ∷ right ∷ [])) in
        elim (Contains-append_cases (names_read left) (names_read right ++ []) name (subst (λ (ns : List (List ℕ)). Contains ns name) e c)) [
          | inl d ↦ l.reads name d
          | inr d ↦ elim (Contains-append_cases (names_read right) [] name d) [
            | inl f ↦ r.reads name f
            | inr f ↦ absurd (no-element name f)
          ]
        ]);
    products = λ context signed. ap (multiplications_in nets context signed) (sym (rolls-Concat (left ∷ right ∷ []))) ∙ products-roll (Expr-F.Concat (left ∷ right ∷ [])) context signed
        ∙ (let a = l.products (own_length nets left) (is_signed nets left) in let b = r.products (own_length nets right) (is_signed nets right) in (λ i. a i ++ (b i ++ [])));
  }

  pub repeat-clean : (count : ℕ) (part : Expr) → 1 ≤ count → Clean 1 part → Clean count (Repeat count part)
  repeat-clean count part h p = record {
    length = length-Repeat nets count part ∙ ap (λ (i : ℕ). count * i) p.length ∙ omega arith;
    sound = ap sound (sym (rolls-Repeat count part)) ∙ sound-roll (Expr-F.Repeat count part)
        ∙ and_from (nat_lt 0 count) (is_narrow nets (part, sound part)) (lt-ltb 0 count h) (narrow 1 part (omega arith) p);
    reads = λ name c. p.reads name (subst (λ (ns : List (List ℕ)). Contains ns name) (ap names_read (sym (rolls-Repeat count part)) ∙ names-roll (Expr-F.Repeat count part)) c);
    products = λ context signed. ap (multiplications_in nets context signed) (sym (rolls-Repeat count part)) ∙ products-roll (Expr-F.Repeat count part) context signed
        ∙ p.products (own_length nets part) (is_signed nets part);
  }

  pub shift-clean : (w : ℕ) (op : ShiftOp) (part : Expr) (amount : Sized) → w ≤ 128 → is_number amount ≡ true → Clean w part → Clean w (Shift op part amount)
  shift-clean w op part amount h k p = record {
    length = length-Shift nets op part amount ∙ p.length;
    sound = ap sound (sym (rolls-Shift op part amount)) ∙ sound-roll (Expr-F.Shift op part amount) ∙ and_from (is_narrow nets (part, sound part)) (is_number amount) (narrow w part h p) k;
    reads = λ name c. p.reads name (subst (λ (ns : List (List ℕ)). Contains ns name) (ap names_read (sym (rolls-Shift op part amount)) ∙ names-roll (Expr-F.Shift op part amount)) c);
    products = λ context signed. ap (multiplications_in nets context signed) (sym (rolls-Shift op part amount))
        ∙ products-roll (Expr-F.Shift op part amount) context signed ∙ p.products context signed;
  }

  pub as_signed-clean : (w : ℕ) (part : Expr) → w ≤ 128 → Clean w part → Clean w (AsSigned part)
  as_signed-clean w part h p = record {
    length = length-AsSigned nets part ∙ p.length;
    sound = ap sound (sym (rolls-AsSigned part)) ∙ sound-roll (Expr-F.AsSigned part) ∙ narrow w part h p;
    reads = λ name c. p.reads name (subst (λ (ns : List (List ℕ)). Contains ns name) (ap names_read (sym (rolls-AsSigned part)) ∙ names-roll (Expr-F.AsSigned part)) c);
    products = λ context signed. ap (multiplications_in nets context signed) (sym (rolls-AsSigned part)) ∙ products-roll (Expr-F.AsSigned part) context signed
        ∙ p.products (own_length nets part) (is_signed nets part);
  }

  none-at : (place : Place) (context : ℕ) (signed : Bool) (x y : Expr) → ((c : ℕ) (s : Bool) → products_of x c s ≡ [])
      → operand_at nets place context signed (x, products_of x) (y, products_of y) ≡ []
  none-at InWhole context signed x y h = h context signed
  none-at Together context signed x y h = h (max (own_length nets x) (own_length nets y)) (is_signed nets x && is_signed nets y)
  none-at Alone context signed x y h = h (own_length nets x) (is_signed nets x)

  -- in the context of a binary operator only its own multiplication
  pub binary-products : (w v : ℕ) (op : BinOp) (x y : Expr) (context : ℕ) (signed : Bool) → Clean w x → Clean v y
      → multiplications_in nets context signed (Binary op x y) ≡ product_of op (record { left = x; right = y; width = context; signed = signed }) ++ []
  binary-products w v op x y context signed p q =
      ap (multiplications_in nets context signed) (sym (rolls-Binary op x y)) ∙ products-roll (Expr-F.Binary op x y) context signed
      ∙ (let a = none-at (binary_place op) context signed x y p.products in
      let b = none-at (binary_place op) context signed y x q.products in
      (λ i. a i ++ (product_of op (record { left = x; right = y; width = context; signed = signed }) ++ b i)))

  pub binary-reads : (w v : ℕ) (op : BinOp) (x y : Expr) (name : List ℕ) → Clean w x → Clean v y → Contains (names_read (Binary op x y)) name → allowed name
  binary-reads w v op x y name p q c =
      let e = ap names_read (sym (rolls-Binary op x y)) ∙ names-roll (Expr-F.Binary op x y) in
      elim (Contains-append_cases (names_read x) (names_read y) name (subst (λ (ns : List (List ℕ)). Contains ns name) e c)) [
        | inl d ↦ p.reads name d
        | inr d ↦ q.reads name d
      ]

  pub binary-sound : (w v : ℕ) (op : BinOp) (x y : Expr) → w ≤ 128 → v ≤ 128 → Clean w x → Clean v y → sound (Binary op x y) ≡ true
  binary-sound w v op x y h k p q =
      ap sound (sym (rolls-Binary op x y)) ∙ sound-roll (Expr-F.Binary op x y)
      ∙ and_from (is_narrow nets (x, sound x)) (is_narrow nets (y, sound y)) (narrow w x h p) (narrow v y k q)

  pub binary-clean : (w : ℕ) (op : BinOp) (x y : Expr) → w ≤ 128 → ((m : Multiplication) → product_of op m ≡ []) → Clean w x → Clean w y → Clean (length_at (binary_place op) w) (Binary op x y)
  binary-clean w op x y h none p q = record {
    length = length-Binary nets op x y ∙ ap (length_at (binary_place op)) (omega (arith, p.length, q.length));
    sound = binary-sound w w op x y h h p q;
    reads = λ name c. binary-reads w w op x y name p q c;
    products = λ context signed. binary-products w w op x y context signed p q ∙ ap (λ (l : List Multiplication). l ++ []) (none (record { left = x; right = y; width = context; signed = signed }));
  }

  pub choose-clean : (w v : ℕ) (test x y : Expr) → w ≤ 128 → v ≤ 128 → Clean v test → Clean w x → Clean w y → Clean w (Choose test x y)
  choose-clean w v test x y h k t p q = record {
    length = length-Choose nets test x y ∙ omega (arith, p.length, q.length);
    sound = ap sound (sym (rolls-Choose test x y)) ∙ sound-roll (Expr-F.Choose test x y)
        ∙ and_from (is_narrow nets (test, sound test) && is_narrow nets (x, sound x)) (is_narrow nets (y, sound y))
        (and_from (is_narrow nets (test, sound test)) (is_narrow nets (x, sound x)) (narrow v test k t) (narrow w x h p)) (narrow w y h q);
    reads = λ name c. (let e = ap names_read (sym (rolls-Choose test x y)) ∙ names-roll (Expr-F.Choose test x y) in
        elim (Contains-append_cases (names_read test) (names_read x ++ names_read y) name (subst (λ (ns : List (List ℕ)). Contains ns name) e c)) [
          | inl d ↦ t.reads name d
          | inr d ↦ elim (Contains-append_cases (names_read x) (names_read y) name d) [
            | inl f ↦ p.reads name f
            | inr f ↦ q.reads name f
          ]
        ]);
    products = λ context signed. ap (multiplications_in nets context signed) (sym (rolls-Choose test x y)) ∙ products-roll (Expr-F.Choose test x y) context signed
        ∙ (let a = t.products (own_length nets test) (is_signed nets test) in let b = p.products context signed in let d = q.products context signed in (λ i. a i ++ (b i ++ d i)));
  }

  -- a piece of a declared net
  module _ (wire : Wire) (declared : nets wire.name ≡ record { width = wire.width; signed = wire.signed }) (word : IsWord wire.width wire.signed) (a : allowed wire.name) where
    wide : (nets wire.name).width ≡ wire.width
    wide = ap (λ (n : Net). n.width) declared

    zeros-clean : (count : ℕ) → 1 ≤ count → count ≤ 128 → Clean count (zeros count)
    zeros-clean count h k = literal-clean (record { width = count; signed = false; bits = 0 }) h k (pow_pos count)

    fill-by : (signed : Bool) (count : ℕ) → wire.signed ≡ signed → 1 ≤ count → count ≤ 128 → Clean count (if signed then Repeat count (Bit wire.name (wire.width - 1)) else zeros count)
    fill-by true count is h k =
        let w : IsWord wire.width true = subst (λ (b : Bool). IsWord wire.width b) is word in
        let two : 2 ≤ wire.width = w.0 in
        repeat-clean count (Bit wire.name (wire.width - 1)) h (bit-clean wire.name (wire.width - 1) wire.width wide two (omega (arith, two)) a)
    fill-by false count is h k = zeros-clean count h k

    inside-clean : (low w : ℕ) → 1 ≤ w → low + w ≤ wire.width → Clean w (inside wire low w)
    inside-clean low w h k =
        cond_both (w == wire.width) (Name wire.name) (Part wire.name (low + w - 1) low) (Clean w)
        (λ is. let e = eqb-true w wire.width is in name-clean wire.name w (wide ∙ sym e) a)
        (λ is. let other = eqb-false w wire.width is in part-clean wire.name low w wire.width wide h (omega (arith, other)) k a)

    pub piece-clean : (low w : ℕ) → 1 ≤ w → w ≤ 128 → Clean w (piece wire low w)
    piece-clean low w h k =
        cond_both (nat_le wire.width low) (fill wire w)
        (if nat_le (low + w) wire.width then inside wire low w else Concat (fill wire (low + w - wire.width) ∷ inside wire low (wire.width - low) ∷ [])) (Clean w)
        (λ is. fill-by wire.signed w refl h k)
        (λ near. let n = leb-false wire.width low near in
        cond_both (nat_le (low + w) wire.width) (inside wire low w) (Concat (fill wire (low + w - wire.width) ∷ inside wire low (wire.width - low) ∷ [])) (Clean w)
        (λ is. inside-clean low w h (leb-true (low + w) wire.width is))
        (λ far. let f = leb-false (low + w) wire.width far in
        let all : low + w - wire.width + (wire.width - low) ≡ w = omega arith in
        subst (λ (i : ℕ). Clean i (Concat (fill wire (low + w - wire.width) ∷ inside wire low (wire.width - low) ∷ []))) all
        (beside-clean (low + w - wire.width) (wire.width - low) (fill wire (low + w - wire.width)) (inside wire low (wire.width - low)) (omega arith)
        (fill-by wire.signed (low + w - wire.width) refl (omega arith) (omega arith)) (inside-clean low (wire.width - low) (omega arith) (omega arith)))))

    pub at_width-clean : (w : ℕ) → 1 ≤ w → w ≤ 128 → Clean w (at_width w wire)
    at_width-clean w h k = piece-clean 0 w h k

  pub unary-clean : (w : ℕ) (op : UnOp) (part : Expr) → w ≤ 128 → Clean w part → Clean (length_at (unary_place op) w) (Unary op part)
  unary-clean w op part h p = record {
    length = length-Unary nets op part ∙ ap (length_at (unary_place op)) p.length;
    sound = ap sound (sym (rolls-Unary op part)) ∙ sound-roll (Expr-F.Unary op part) ∙ narrow w part h p;
    reads = λ name c. p.reads name (subst (λ (ns : List (List ℕ)). Contains ns name) (ap names_read (sym (rolls-Unary op part)) ∙ names-roll (Expr-F.Unary op part)) c);
    products = λ context signed. ap (multiplications_in nets context signed) (sym (rolls-Unary op part)) ∙ products-roll (Expr-F.Unary op part) context signed
        ∙ none-at (unary_place op) context signed part part p.products;
  }

  -- a net that an expression may read
  pub record Readable (wire : Wire) : Type 0 where
    pub declared : nets wire.name ≡ record { width = wire.width; signed = wire.signed }
    pub word : IsWord wire.width wire.signed
    pub may : allowed wire.name

  word-some : (w : ℕ) (signed : Bool) → IsWord w signed → 1 ≤ w
  word-some w true h = omega (arith, h.0)
  word-some w false h = h.0

  pub word-most : (w : ℕ) (signed : Bool) → IsWord w signed → w ≤ 128
  word-most w true h = h.1
  word-most w false h = omega (arith, h.1)

  signed-most : (w : ℕ) (signed : Bool) → IsWord w signed → (1 ≤ (if signed then w else w + 1)) × ((if signed then w else w + 1) ≤ 128)
  signed-most w true h = (omega (arith, h.0), h.1)
  signed-most w false h = (omega arith, omega (arith, h.1))

  pub at-clean : (w : ℕ) (wire : Wire) → 1 ≤ w → w ≤ 128 → Readable wire → Clean w (at_width w wire)
  at-clean w wire h k r = at_width-clean wire r.declared r.word r.may w h k

  pub net-clean : (wire : Wire) → Readable wire → Clean wire.width (Name wire.name)
  net-clean wire r = name-clean wire.name wire.width (ap (λ (n : Net). n.width) r.declared) r.may

  pub no-bits : (count : ℕ) → 1 ≤ count → count ≤ 128 → Clean count (zeros count)
  no-bits count h k = literal-clean (record { width = count; signed = false; bits = 0 }) h k (pow_pos count)

  widened-clean : (w : ℕ) (e : Expr) → 1 ≤ w → w ≤ 128 → Clean 1 e → Clean w (widened w e)
  widened-clean w e h k p =
      cond_both (w == 1) e (Concat (zeros (w - 1) ∷ e ∷ [])) (Clean w)
      (λ is. let one : w ≡ 1 = eqb-true w 1 is in rw one p)
      (λ is. let other = eqb-false w 1 is in
      let all : w - 1 + 1 ≡ w = omega arith in
      subst (λ (i : ℕ). Clean i (Concat (zeros (w - 1) ∷ e ∷ []))) all
      (beside-clean (w - 1) 1 (zeros (w - 1)) e (omega arith) (no-bits (w - 1) (omega (arith, other)) (omega arith)) p))

  pub test-clean : (wire : Wire) → Readable wire → Clean 1 (test_of wire)
  test-clean wire r =
      let h = word-some wire.width wire.signed r.word in
      let k = word-most wire.width wire.signed r.word in
      cond_both (wire.width == 1) (Name wire.name) (Binary binary.NotEqual (Name wire.name) (zeros wire.width)) (Clean 1)
      (λ is. let one = eqb-true wire.width 1 is in subst (λ (i : ℕ). Clean i (Name wire.name)) one (net-clean wire r))
      (λ is. binary-clean wire.width binary.NotEqual (Name wire.name) (zeros wire.width) k (λ m. refl) (net-clean wire r) (no-bits wire.width h k))

  -- an expression of at most so many bits
  pub record IsCleanWithin (most : ℕ) (e : Expr) : Type 0 where
    pub bits : ℕ
    pub within : bits ≤ most
    pub clean : Clean bits e

  pub factor-clean : (signed : Bool) (w : ℕ) (wire : Wire) → 1 ≤ w → w ≤ 128 → Readable wire → IsCleanWithin w (factor signed w wire)
  factor-clean true w wire h k r =
      let v : ℕ = min (signed_width wire) w in
      let e : Expr = at_width (min (signed_width wire) w) wire in
      let room = signed-most wire.width wire.signed r.word in
      cond_both (wire.signed && nat_le wire.width w) (Name wire.name) (AsSigned e) (IsCleanWithin w)
      (λ is. record { bits = wire.width; within = leb-true wire.width w (and_parts wire.signed (nat_le wire.width w) is).1; clean = net-clean wire r })
      (λ is. record { bits = v; within = omega arith; clean = as_signed-clean v e (omega (arith, k)) (at-clean v wire (omega (arith, h, room.0)) (omega (arith, k)) r) })
  factor-clean false w wire h k r =
      let some = word-some wire.width wire.signed r.word in
      cond_both wire.signed w (min wire.width w) (λ (v : ℕ). IsCleanWithin w (at_width v wire))
      (λ is. record { bits = w; within = omega arith; clean = at-clean w wire h k r })
      (λ is. record { bits = min wire.width w; within = omega arith; clean = at-clean (min wire.width w) wire (omega (arith, h, some)) (omega (arith, k)) r })

  module _ (w : ℕ) (x y : Wire) (some : 1 ≤ w) (most : w ≤ 128) (r : Readable x) (s : Readable y) where
    left-factor : IsCleanWithin w (factor (product_signed x y) w x)
    left-factor = factor-clean (product_signed x y) w x some most r

    right-factor : IsCleanWithin w (factor (product_signed x y) w y)
    right-factor = factor-clean (product_signed x y) w y some most s

    -- a product breaks no condition, has at most its own bits, and reads its two nets
    pub product-length : own_length nets (product w x y) ≤ w
    product-length =
        let p = left-factor in
        let q = right-factor in
        let long = length-Binary nets binary.Multiply (factor (product_signed x y) w x) (factor (product_signed x y) w y) in
        omega (arith, long, p.clean.length, q.clean.length, p.within, q.within)

    pub product-sound : sound (product w x y) ≡ true
    product-sound =
        let p = left-factor in
        let q = right-factor in
        binary-sound p.bits q.bits binary.Multiply _ _ (omega (arith, p.within, most)) (omega (arith, q.within, most)) p.clean q.clean

    pub product-reads : (name : List ℕ) → Contains (names_read (product w x y)) name → allowed name
    product-reads name c = binary-reads left-factor.bits right-factor.bits binary.Multiply _ _ name left-factor.clean right-factor.clean c

    -- it is one multiplication, of its factors in its context
    pub product-one : (context : ℕ) (signed : Bool) → multiplications_in nets context signed (product w x y)
        ≡ record { left = factor (product_signed x y) w x; right = factor (product_signed x y) w y; width = context; signed = signed } ∷ []
    product-one context signed = binary-products left-factor.bits right-factor.bits binary.Multiply _ _ context signed left-factor.clean right-factor.clean

  module _ (ports : ℕ → Wire) (a : ℕ → Wire) (w : ℕ) (some : 1 ≤ w) (most : w ≤ 128) where
    two-clean : (op : BinOp) → ((m : Multiplication) → product_of op m ≡ []) → (c : ℕ) → 1 ≤ c → c ≤ 128 → Readable (a 0) → Readable (a 1)
        → Clean (length_at (binary_place op) c) (in_width op c a)
    two-clean op none c h k r s = binary-clean c op (at_width c (a 0)) (at_width c (a 1)) k none (at-clean c (a 0) h k r) (at-clean c (a 1) h k s)

    common-some : Readable (a 0) → Readable (a 1) → (1 ≤ common_width (a 0) (a 1)) × (common_width (a 0) (a 1) ≤ 128)
    common-some r s =
        let x = signed-most (a 0).width (a 0).signed r.word in
        let y = signed-most (a 1).width (a 1).signed s.word in
        let u = word-some (a 0).width (a 0).signed r.word in
        let v = word-most (a 0).width (a 0).signed r.word in
        let t = word-most (a 1).width (a 1).signed s.word in
        cond_both (by_sign (a 0) (a 1)) (max (signed_width (a 0)) (signed_width (a 1))) (max (a 0).width (a 1).width) (λ (c : ℕ). (1 ≤ c) × (c ≤ 128))
        (λ is. (omega (arith, x.0), omega (arith, x.1, y.1))) (λ is. (omega (arith, u), omega (arith, v, t)))

    compared-clean : (signed : Bool) (c : ℕ) (e : Expr) → c ≤ 128 → Clean c e → Clean c (compared signed e)
    compared-clean true c e h p = as_signed-clean c e h p
    compared-clean false c e h p = p

    slice-clean : (low count : ℕ) → 1 ≤ count → count ≤ 128 → Readable (a 0) → Clean w (slice_at w (a 0) low count)
    slice-clean low count h k r =
        cond_both (nat_le w count) (piece (a 0) low w) (Concat (zeros (w - count) ∷ piece (a 0) low count ∷ [])) (Clean w)
        (λ is. piece-clean (a 0) r.declared r.word r.may low w some most)
        (λ is. let more = leb-false w count is in
        let all : w - count + count ≡ w = omega arith in
        subst (λ (i : ℕ). Clean i (Concat (zeros (w - count) ∷ piece (a 0) low count ∷ []))) all
        (beside-clean (w - count) count (zeros (w - count)) (piece (a 0) low count) (omega arith) (no-bits (w - count) (omega arith) (omega arith))
        (piece-clean (a 0) r.declared r.word r.may low count h k)))

    -- an operation that isn't a Multiply
    pub op-clean : (op : NetOp) → ((j : ℕ) → j < arity op → Readable (a j)) → ((port : ℕ) → op ≡ operation.Input port → Readable (ports port))
        → IsWithin op (a 0).width → ¬ (op ≡ operation.Multiply) → Clean w (expression_of op ports a w)
    op-clean (operation.Input port) known input within not_product = at-clean w (ports port) some most (input port refl)
    op-clean (operation.Const number) known input within not_product = literal-clean (record { width = w; signed = false; bits = bits_of w number }) some most (bits-fit w number)
    op-clean operation.Resize known input within not_product = at-clean w (a 0) some most (known 0 (omega arith))
    op-clean (operation.ShiftUp places) known input within not_product =
        cond_both (nat_lt places w) (Shift Left (at_width w (a 0)) (record { width = 8; signed = false; bits = places })) (zeros w) (Clean w)
        (λ is. let few : places < w = ltb-true places w is in
        shift-clean w Left (at_width w (a 0)) (record { width = 8; signed = false; bits = places }) most
        (lt-ltb places 256 (omega (arith, few, most))) (at-clean w (a 0) some most (known 0 (omega arith))))
        (λ is. no-bits w some most)
    op-clean (operation.ShiftDown places) known input within not_product =
        let r = known 0 (omega arith) in piece-clean (a 0) r.declared r.word r.may places w some most
    op-clean operation.Add known input within not_product = two-clean binary.Add (λ m. refl) w some most (known 0 (omega arith)) (known 1 (omega arith))
    op-clean operation.Subtract known input within not_product = two-clean binary.Subtract (λ m. refl) w some most (known 0 (omega arith)) (known 1 (omega arith))
    op-clean operation.Negate known input within not_product = unary-clean w unary.Negate (at_width w (a 0)) most (at-clean w (a 0) some most (known 0 (omega arith)))
    op-clean operation.Multiply known input within not_product = absurd (not_product refl)
    op-clean operation.And known input within not_product = two-clean binary.And (λ m. refl) w some most (known 0 (omega arith)) (known 1 (omega arith))
    op-clean operation.Or known input within not_product = two-clean binary.Or (λ m. refl) w some most (known 0 (omega arith)) (known 1 (omega arith))
    op-clean operation.Xor known input within not_product = two-clean binary.Xor (λ m. refl) w some most (known 0 (omega arith)) (known 1 (omega arith))
    op-clean operation.Not known input within not_product = unary-clean w unary.Invert (at_width w (a 0)) most (at-clean w (a 0) some most (known 0 (omega arith)))
    op-clean operation.Less known input within not_product =
        let r = known 0 (omega arith) in
        let s = known 1 (omega arith) in
        let c : ℕ = common_width (a 0) (a 1) in
        let b : Bool = by_sign (a 0) (a 1) in
        let k = common-some r s in
        widened-clean w (Binary binary.Less (compared b (at_width c (a 0))) (compared b (at_width c (a 1)))) some most
        (binary-clean c binary.Less (compared b (at_width c (a 0))) (compared b (at_width c (a 1))) k.1 (λ m. refl)
        (compared-clean b c (at_width c (a 0)) k.1 (at-clean c (a 0) k.0 k.1 r)) (compared-clean b c (at_width c (a 1)) k.1 (at-clean c (a 1) k.0 k.1 s)))
    op-clean operation.Equal known input within not_product =
        let r = known 0 (omega arith) in let s = known 1 (omega arith) in
        let k = common-some r s in
        widened-clean w (in_width binary.Equal (common_width (a 0) (a 1)) a) some most (two-clean binary.Equal (λ m. refl) (common_width (a 0) (a 1)) k.0 k.1 r s)
    op-clean operation.Choose known input within not_product =
        choose-clean w 1 (test_of (a 0)) (at_width w (a 1)) (at_width w (a 2)) most (omega arith) (test-clean (a 0) (known 0 (omega arith)))
        (at-clean w (a 1) some most (known 1 (omega arith))) (at-clean w (a 2) some most (known 2 (omega arith)))
    op-clean (operation.Slice high low) known input within not_product =
        let r = known 0 (omega arith) in
        let k = word-most (a 0).width (a 0).signed r.word in
        slice-clean low (high + 1 - low) (omega (arith, within.0)) (omega (arith, within.0, within.1, k)) r
