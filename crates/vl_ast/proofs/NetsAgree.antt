-- An expression whose names are exchanged for others means the same where the same is declared of the names that it reads.
use Rattle.std.proofs.Common.{◌≡◌, ℕ, max, Bool, ◌&&◌, List, [], ◌∷◌, ◌++◌, map, map-id, replicate, Contains, flat_map, refl, sym, ap, subst, ◌∙◌, arith}
use Rattle.std.specs.Prelude.{fold, sum, ◌*◌, ◌%◌, ◌^◌, if◌then◌else◌, ◌==◌, not}
use Rattle.std.proofs.lemmas.List.Elements.{Contains-append_left, Contains-append_right}
use Rattle.vl_ast.specs.declared.expressions.Expr.{Expr}
use Rattle.vl_ast.specs.declared.expressions.Expr.TheOpen.{Expr-F}
use Rattle.vl_ast.specs.declared.expressions.Expr.TheViews.{roll-Expr}
use Rattle.vl_ast.specs.declared.expressions.Expr.TheFolds.{map-Expr, fold-roll-Expr, ind-Expr}
use Rattle.vl_ast.specs.Context.{Net, Place, InWhole, Together, Alone, Operand, alone, operand_at, unary_place, binary_place, in_context, own_length, is_signed, length_step, sign_step, length_at}
use Rattle.vl_ast.specs.Context.{sign_at}
use Rattle.vl_ast.specs.Nets.{names_read, names_step}
use Rattle.vl_ast.specs.Value.{Bits, bits_step, extended, beside, unary_bits, binary_bits, shift_bits, value_in, bits_in, operand_of, assigned, is_true}
use Rattle.vl_ast.proofs.Agree.{ByLayer}
use Rattle.vl_ast.proofs.Values.{own_length-roll, is_signed-roll}

-- a layer with other names
abbrev pub relabelled : (List ℕ → List ℕ) → Expr-F Expr → Expr-F Expr
relabelled rename (Expr-F.Name name) = Expr-F.Name (rename name)
relabelled rename (Expr-F.Bit name place) = Expr-F.Bit (rename name) place
relabelled rename (Expr-F.Part name high low) = Expr-F.Part (rename name) high low
relabelled rename (Expr-F.Literal number) = Expr-F.Literal number
relabelled rename (Expr-F.Concat parts) = Expr-F.Concat parts
relabelled rename (Expr-F.Repeat count part) = Expr-F.Repeat count part
relabelled rename (Expr-F.AsSigned part) = Expr-F.AsSigned part
relabelled rename (Expr-F.AsUnsigned part) = Expr-F.AsUnsigned part
relabelled rename (Expr-F.Unary op part) = Expr-F.Unary op part
relabelled rename (Expr-F.Binary op left right) = Expr-F.Binary op left right
relabelled rename (Expr-F.Shift op part amount) = Expr-F.Shift op part amount
relabelled rename (Expr-F.Choose test chosen other) = Expr-F.Choose test chosen other

-- the same is declared of each of these names under either name
pub record Same (rename : List ℕ → List ℕ) (nets other : List ℕ → Net) (names : List (List ℕ)) : Type 0 where
  pub at : (name : List ℕ) → Contains names name → nets (rename name) ≡ other name

pub left-same : (rename : List ℕ → List ℕ) (nets other : List ℕ → Net) (xs ys : List (List ℕ)) → Same rename nets other (xs ++ ys) → Same rename nets other xs
left-same rename nets other xs ys s = record { at = λ name c. s.at name (Contains-append_left xs ys name c) }

pub right-same : (rename : List ℕ → List ℕ) (nets other : List ℕ → Net) (xs ys : List (List ℕ)) → Same rename nets other (xs ++ ys) → Same rename nets other ys
right-same rename nets other xs ys s = record { at = λ name c. s.at name (Contains-append_right xs ys name c) }

pub only : (rename : List ℕ → List ℕ) (nets other : List ℕ → Net) (name : List ℕ) → Same rename nets other (name ∷ []) → nets (rename name) ≡ other name
only rename nets other name s = s.at name (0, omega arith, refl)

-- how an expression is renamed, by its layers
abbrev pub Renames : (List ℕ → List ℕ) → (Expr → Expr) → Type 0
Renames rename renamed = (x : Expr-F Expr) → renamed (roll-Expr x) ≡ roll-Expr (relabelled rename (map-Expr Expr Expr renamed x))

pub chosen-same : (test test' chosen chosen' other other' : Bits) → test ≡ test' → chosen ≡ chosen' → other ≡ other'
    → (if test.bits == 0 then other.bits else chosen.bits) ≡ (if test'.bits == 0 then other'.bits else chosen'.bits)
chosen-same test test' chosen chosen' other other' a b c = rw (a, b, c) refl

module _ (by_layer : ByLayer) (rename : List ℕ → List ℕ) (renamed : Expr → Expr) (renames : Renames rename renamed) (nets other : List ℕ → Net) (row : List ℕ → ℕ) where
  abbrev inside : List ℕ → ℕ
  inside name = row (rename name)

  record Alike (e : Expr) : Type 0 where
    length : own_length nets (renamed e) ≡ own_length other e
    sign : is_signed nets (renamed e) ≡ is_signed other e
    value : (width : ℕ) (signed : Bool) → bits_in nets row width signed (renamed e) ≡ bits_in other inside width signed e

  abbrev Agrees : Expr → Type 0
  Agrees e = Same rename nets other (names_read e) → Alike e

  abbrev Known : Type 0
  Known = (e : Expr) × Agrees e

  alone-same : (e : Expr) → Alike e → alone nets (operand_of nets row (renamed e)) ≡ alone other (operand_of other inside e)
  alone-same e a = a.value (own_length nets (renamed e)) (is_signed nets (renamed e)) ∙ (λ i. bits_in other inside (a.length i) (a.sign i) e)

  at-place : (place : Place) (width : ℕ) (signed : Bool) (a b : Expr) → Alike a → Alike b
      → operand_at nets place width signed (operand_of nets row (renamed a)) (operand_of nets row (renamed b))
      ≡ operand_at other place width signed (operand_of other inside a) (operand_of other inside b)
  at-place InWhole width signed a b x y = x.value width signed
  at-place Together width signed a b x y =
      x.value (max (own_length nets (renamed a)) (own_length nets (renamed b))) (is_signed nets (renamed a) && is_signed nets (renamed b))
      ∙ (λ i. bits_in other inside (max (x.length i) (y.length i)) (x.sign i && y.sign i) a)
  at-place Alone width signed a b x y = alone-same a x

  abbrev renamed_all : List Known → List Expr
  renamed_all parts = map renamed (map (λ p. p.0) parts)

  lengths : (parts : List Known) → Same rename nets other (flat_map (λ part. part) (map names_read (map (λ p. p.0) parts)))
      → map (own_length nets) (map renamed (map (λ p. p.0) parts)) ≡ map (own_length other) (map (λ p. p.0) parts)
  lengths [] s = refl
  lengths (part ∷ parts) s =
      let names = names_read part.0 in
      let rest = flat_map (λ part. part) (map names_read (map (λ (p : Known). p.0) parts)) in
      let first = (part.1 (left-same rename nets other names rest s)).length in
      let others = lengths parts (right-same rename nets other names rest s) in
      (λ i. first i ∷ others i)

  each : (parts : List Known) → Same rename nets other (flat_map (λ part. part) (map names_read (map (λ p. p.0) parts)))
      → map (alone nets) (map (operand_of nets row) (map renamed (map (λ p. p.0) parts))) ≡ map (alone other) (map (operand_of other inside) (map (λ p. p.0) parts))
  each [] s = refl
  each (part ∷ parts) s =
      let names = names_read part.0 in
      let rest = flat_map (λ part. part) (map names_read (map (λ (p : Known). p.0) parts)) in
      let first = alone-same part.0 (part.1 (left-same rename nets other names rest s)) in
      let others = each parts (right-same rename nets other names rest s) in
      (λ i. first i ∷ others i)

  abbrev SameIn : Expr-F Known → Type 0
  SameIn y = Same rename nets other (names_step (map-Expr Expr (List (List ℕ)) names_read (map-Expr Known Expr (λ p. p.0) y)))

  length-step : (y : Expr-F Known) → SameIn y
      → length_step nets (map-Expr Expr ℕ (own_length nets) (relabelled rename (map-Expr Expr Expr renamed (map-Expr Known Expr (λ p. p.0) y))))
      ≡ length_step other (map-Expr Expr ℕ (own_length other) (map-Expr Known Expr (λ p. p.0) y))
  length-step (Expr-F.Name name) s = ap (λ (n : Net). n.width) (only rename nets other name s)
  length-step (Expr-F.Concat parts) s = ap sum (lengths parts s)
  length-step (Expr-F.Repeat count part) s = ap (λ n. count * n) (part.1 s).length
  length-step (Expr-F.AsSigned part) s = (part.1 s).length
  length-step (Expr-F.AsUnsigned part) s = (part.1 s).length
  length-step (Expr-F.Unary op part) s = ap (length_at (unary_place op)) (part.1 s).length
  length-step (Expr-F.Binary op left right) s =
      let a = (left.1 (left-same rename nets other (names_read left.0) (names_read right.0) s)).length in
      let b = (right.1 (right-same rename nets other (names_read left.0) (names_read right.0) s)).length in
      (λ i. length_at (binary_place op) (max (a i) (b i)))
  length-step (Expr-F.Shift op part amount) s = (part.1 s).length
  length-step (Expr-F.Choose test chosen otherwise) s =
      let rest = right-same rename nets other (names_read test.0) (names_read chosen.0 ++ names_read otherwise.0) s in
      let b = (chosen.1 (left-same rename nets other (names_read chosen.0) (names_read otherwise.0) rest)).length in
      let c = (otherwise.1 (right-same rename nets other (names_read chosen.0) (names_read otherwise.0) rest)).length in
      (λ i. max (b i) (c i))
  length-step _ s = refl

  sign-step : (y : Expr-F Known) → SameIn y
      → sign_step nets (map-Expr Expr Bool (is_signed nets) (relabelled rename (map-Expr Expr Expr renamed (map-Expr Known Expr (λ p. p.0) y))))
      ≡ sign_step other (map-Expr Expr Bool (is_signed other) (map-Expr Known Expr (λ p. p.0) y))
  sign-step (Expr-F.Name name) s = ap (λ (n : Net). n.signed) (only rename nets other name s)
  sign-step (Expr-F.Unary op part) s = ap (sign_at (unary_place op)) (part.1 s).sign
  sign-step (Expr-F.Binary op left right) s =
      let a = (left.1 (left-same rename nets other (names_read left.0) (names_read right.0) s)).sign in
      let b = (right.1 (right-same rename nets other (names_read left.0) (names_read right.0) s)).sign in
      (λ i. sign_at (binary_place op) (a i && b i))
  sign-step (Expr-F.Shift op part amount) s = (part.1 s).sign
  sign-step (Expr-F.Choose test chosen otherwise) s =
      let rest = right-same rename nets other (names_read test.0) (names_read chosen.0 ++ names_read otherwise.0) s in
      let b = (chosen.1 (left-same rename nets other (names_read chosen.0) (names_read otherwise.0) rest)).sign in
      let c = (otherwise.1 (right-same rename nets other (names_read chosen.0) (names_read otherwise.0) rest)).sign in
      (λ i. b i && c i)
  sign-step _ s = refl

  value-step : (y : Expr-F Known) → SameIn y → (width : ℕ) (signed : Bool)
      → bits_step nets row width signed (in_context nets width signed
      (map-Expr Expr (Operand Bits) (operand_of nets row)
      (relabelled rename (map-Expr Expr Expr renamed (map-Expr Known Expr (λ p. p.0) y)))))
      ≡ bits_step other inside width signed (in_context other width signed (map-Expr Expr (Operand Bits) (operand_of other inside) (map-Expr Known Expr (λ p. p.0) y)))
  value-step (Expr-F.Name name) s width signed = ap (λ (n : Net). extended (record { width = n.width; signed = signed; bits = row (rename name) }) width) (only rename nets other name s)
  value-step (Expr-F.Bit name place) s width signed = refl
  value-step (Expr-F.Part name high low) s width signed = refl
  value-step (Expr-F.Literal number) s width signed = refl
  value-step (Expr-F.Concat parts) s width signed = ap (λ (bits : List Bits). fold beside 0 bits) (each parts s)
  value-step (Expr-F.Repeat count part) s width signed = ap (λ (b : Bits). fold beside 0 (replicate count b)) (alone-same part.0 (part.1 s))
  value-step (Expr-F.AsSigned part) s width signed =
      ap (λ (b : Bits). extended (record { width = b.width; signed = signed; bits = b.bits }) width) (alone-same part.0 (part.1 s))
  value-step (Expr-F.AsUnsigned part) s width signed = ap (λ (b : Bits). b.bits) (alone-same part.0 (part.1 s))
  value-step (Expr-F.Unary op part) s width signed = ap (unary_bits op width) (at-place (unary_place op) width signed part.0 part.0 (part.1 s) (part.1 s))
  value-step (Expr-F.Binary op left right) s width signed =
      let x = left.1 (left-same rename nets other (names_read left.0) (names_read right.0) s) in
      let y = right.1 (right-same rename nets other (names_read left.0) (names_read right.0) s) in
      let a = at-place (binary_place op) width signed left.0 right.0 x y in
      let b = at-place (binary_place op) width signed right.0 left.0 y x in
      (λ i. binary_bits op width (a i) (b i))
  value-step (Expr-F.Shift op part amount) s width signed = ap (λ (b : Bits). shift_bits op b amount.bits) ((part.1 s).value width signed)
  value-step (Expr-F.Choose test chosen otherwise) s width signed =
      let names = names_read chosen.0 ++ names_read otherwise.0 in
      let a = alone-same test.0 (test.1 (left-same rename nets other (names_read test.0) names s)) in
      let rest = right-same rename nets other (names_read test.0) names s in
      let b = (chosen.1 (left-same rename nets other (names_read chosen.0) (names_read otherwise.0) rest)).value width signed in
      let c = (otherwise.1 (right-same rename nets other (names_read chosen.0) (names_read otherwise.0) rest)).value width signed in
      chosen-same _ _ _ _ _ _ a b c

  layer-agrees : (y : Expr-F Known) → Agrees (roll-Expr (map-Expr Known Expr (λ p. p.0) y))
  layer-agrees y s =
      let x : Expr-F Expr = map-Expr Known Expr (λ p. p.0) y in
      let z : Expr-F Expr = relabelled rename (map-Expr Expr Expr renamed x) in
      let names = fold-roll-Expr (List (List ℕ)) names_step x in
      let here = subst (λ (names : List (List ℕ)). Same rename nets other names) names s in
      let it : renamed (roll-Expr x) ≡ roll-Expr z = renames x in
      record {
        length = ap (own_length nets) it ∙ own_length-roll nets z ∙ length-step y here ∙ sym (own_length-roll other x);
        sign = ap (is_signed nets) it ∙ is_signed-roll nets z ∙ sign-step y here ∙ sym (is_signed-roll other x);
        value = λ width signed.
            ap (λ (b : ℕ). let bits : Bits = record { width = width; signed = signed; bits = b } in bits)
            (ap (value_in nets row width signed) it ∙ by_layer nets row width signed z ∙ value-step y here width signed ∙ sym (by_layer other inside width signed x));
      }

  agrees : (e : Expr) → Agrees e
  agrees = ind-Expr Agrees (λ x y shown. subst (λ z. Agrees (roll-Expr z)) shown (layer-agrees y))

  pub assigned-renamed : (width : ℕ) (e : Expr) → ((name : List ℕ) → Contains (names_read e) name → nets (rename name) ≡ other name)
      → assigned nets row width (renamed e) ≡ assigned other (λ name. row (rename name)) width e
  assigned-renamed width e same =
      let a = agrees e (record { at = same }) in
      ap (λ (b : Bits). b.bits % 2 ^ width) (a.value (max width (own_length nets (renamed e))) (is_signed nets (renamed e)))
      ∙ (λ i. value_in other inside (max width (a.length i)) (a.sign i) e % 2 ^ width)

  pub true-renamed : (e : Expr) → ((name : List ℕ) → Contains (names_read e) name → nets (rename name) ≡ other name)
      → is_true nets row (renamed e) ≡ is_true other (λ name. row (rename name)) e
  true-renamed e same = let a = agrees e (record { at = same }) in ap (λ (b : Bits). not (b.bits == 0)) (alone-same e a)

  pub length-renamed : (e : Expr) → ((name : List ℕ) → Contains (names_read e) name → nets (rename name) ≡ other name)
      → own_length nets (renamed e) ≡ own_length other e
  length-renamed e same = (agrees e (record { at = same })).length

-- where each name is its own
pub own-renames : Renames (λ name. name) (λ e. e)
own-renames (Expr-F.Name name) = refl
own-renames (Expr-F.Bit name place) = refl
own-renames (Expr-F.Part name high low) = refl
own-renames (Expr-F.Literal number) = refl
own-renames (Expr-F.Concat parts) = ap (λ (l : List Expr). roll-Expr (Expr-F.Concat l)) (sym (map-id parts))
own-renames (Expr-F.Repeat count part) = refl
own-renames (Expr-F.AsSigned part) = refl
own-renames (Expr-F.AsUnsigned part) = refl
own-renames (Expr-F.Unary op part) = refl
own-renames (Expr-F.Binary op left right) = refl
own-renames (Expr-F.Shift op part amount) = refl
own-renames (Expr-F.Choose test chosen other) = refl

module _ (by_layer : ByLayer) (nets other : List ℕ → Net) (row : List ℕ → ℕ) where
  pub assigned-same : (width : ℕ) (e : Expr) → ((name : List ℕ) → Contains (names_read e) name → nets name ≡ other name) → assigned nets row width e ≡ assigned other row width e
  assigned-same = assigned-renamed by_layer (λ name. name) (λ e. e) own-renames nets other row

  pub true-same : (e : Expr) → ((name : List ℕ) → Contains (names_read e) name → nets name ≡ other name) → is_true nets row e ≡ is_true other row e
  true-same = true-renamed by_layer (λ name. name) (λ e. e) own-renames nets other row
