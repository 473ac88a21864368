-- The wrapper's names differ: each kind has a letter of its own, and within a kind the core's or the columns' names
-- tell them apart.
use Rattle.std.proofs.Common.{◌≡◌, ◌≢◌, ℕ, ◌*◌, ◌/◌, ◌^◌, ◌<◌, ◌≤◌, ◌==◌, max, fold, nat_eq, ⊎_elim, Bool, true, false, ◌||◌, if◌then◌else◌, List, [], ◌∷◌, ◌++◌, map, Contains, bytes_eq}
use Rattle.std.proofs.Common.{slice_index_or, codes, decimal, refl, sym, ap, subst, ◌∙◌, arith}
use Rattle.std.specs.List.{starts_with}
use Rattle.std.specs.Str.Parse.{AllDigits}
use Rattle.std.proofs.lemmas.Bool.{cases_Bool, cond-false, cond-true, eqb-false}
use Rattle.std.proofs.lemmas.Fmt.{decimal_injective, decimal_is_IsNumeral}
use Rattle.std.proofs.lemmas.List.{append_assoc}
use Rattle.std.proofs.lemmas.Nat.{div-add-mod', mul-le}
use Rattle.std.proofs.lemmas.Slice.Eq.{bytes_eq-Decides}
use Rattle.std.proofs.lemmas.Str.Parse.{digit_from_value}
use Rattle.vl_ast.specs.declared.modules.Port.{Port}
use Rattle.vl_ast.specs.declared.modules.Module.{Module}
use Rattle.vl_ast.specs.Attributes.{clocks_of, lateness_of}
use Rattle.vl_ast.specs.Driven.{output_ports}
use Rattle.math_list.proofs.Elements.{from-map, head-in, tail-in}
use Rattle.vl_ast.proofs.Ranges.{clocks-some, late-few}
use Rattle.st_wrap.specs.Names.{IsColumnName}
use Rattle.st_wrap.specs.Pace.{latest_in, samples_late}
use Rattle.st_wrap.specs.inner.Names.{held_name, inner_name, is_shared, late_name}

-- the letter behind `fx_`, and 0 where a name doesn't begin so
abbrev pub letter : List ℕ → ℕ
letter name = if starts_with nat_eq name (codes "fx_") then slice_index_or name 3 0 else 0

pub inner-plain : (n : List ℕ) → is_shared n ≡ false → inner_name n ≡ codes "fx_core_" ++ n
inner-plain n off = cond-false (is_shared n) n (codes "fx_core_" ++ n) off

pub inner-shared : (n : List ℕ) → is_shared n ≡ true → inner_name n ≡ n
inner-shared n on = cond-true (is_shared n) n (codes "fx_core_" ++ n) on

pub inner-letter : (n : List ℕ) → is_shared n ≡ false → letter (inner_name n) ≡ 99
inner-letter n off = ap letter (inner-plain n off)

pub held-letter : (n : List ℕ) → letter (held_name n) ≡ 104
held-letter n = refl

pub late-letter : (n : List ℕ) (k : ℕ) → letter (late_name n k) ≡ 108
late-letter n k = refl

pub column-letter : (n : List ℕ) → IsColumnName n → letter n ≡ 0
column-letter n c = cond-false (starts_with nat_eq n (codes "fx_")) (slice_index_or n 3 0) 0 c.plain

-- names of two letters differ
pub by-letter : (a b : List ℕ) (x y : ℕ) → letter a ≡ x → letter b ≡ y → x ≢ y → a ≢ b
by-letter a b x y p q other e = other (sym p ∙ ap letter e ∙ q)

-- a name has another letter
pub off : (n : List ℕ) (x : ℕ) → (letter n == x) ≡ false → letter n ≢ x
off n x e = eqb-false (letter n) x e

-- a shared name is one of two
pub shared-cases : (P : List ℕ → Type 0) (n : List ℕ) → is_shared n ≡ true → P (codes "clk") → P (codes "reset") → P n
shared-cases P n on c r = ⊎_elim
    (λ t. subst P (sym ((bytes_eq-Decides n (codes "clk")).0 t)) c)
    (λ f. subst P (sym ((bytes_eq-Decides n (codes "reset")).0 (other (bytes_eq n (codes "clk")) (bytes_eq n (codes "reset")) on f))) r)
    (cases_Bool (bytes_eq n (codes "clk")))
  where
    other : (a b : Bool) → (a || b) ≡ true → a ≡ false → b ≡ true
    other true b e f = absurd (cc f)
    other false b e f = e

pub shared-letter : (n : List ℕ) → is_shared n ≡ true → letter n ≡ 0
shared-letter n on = shared-cases (λ n. letter n ≡ 0) n on refl refl

core-cancel : (a b : List ℕ) → codes "fx_core_" ++ a ≡ codes "fx_core_" ++ b → a ≡ b
core-cancel a b e = cc e

pub held-same : (a b : List ℕ) → held_name a ≡ held_name b → a ≡ b
held-same a b e = cc e

pub inner-same : (a b : List ℕ) → inner_name a ≡ inner_name b → a ≡ b
inner-same a b e = by (is_shared a) (is_shared b) refl refl where
  by : (x y : Bool) → is_shared a ≡ x → is_shared b ≡ y → a ≡ b
  by true true p q = sym (inner-shared a p) ∙ e ∙ inner-shared b q
  by false false p q = core-cancel a b (sym (inner-plain a p) ∙ e ∙ inner-plain b q)
  by true false p q = absurd (by-letter a (inner_name b) 0 99 (shared-letter a p) (inner-letter b q) (λ z. absurd (cc z)) (sym (inner-shared a p) ∙ e))
  by false true p q = absurd (by-letter b (inner_name a) 0 99 (shared-letter b q) (inner-letter a p) (λ z. absurd (cc z)) (sym (inner-shared b q) ∙ sym e))

-- ---- numbers before a mark

AreOther : ℕ → List ℕ → Type 0
AreOther mark [] = Unit {0}
AreOther mark (x ∷ xs) = (x ≢ mark) × AreOther mark xs

cut-same : (mark : ℕ) (xs ys a b : List ℕ) → AreOther mark xs → AreOther mark ys → xs ++ mark ∷ a ≡ ys ++ mark ∷ b → (xs ≡ ys) × (a ≡ b)
unfolding AreOther
cut-same mark [] [] a b p q e = (refl, cc e)
cut-same mark [] (y ∷ ys) a b p q e = let h : mark ≡ y = cc e in absurd (q.0 (sym h))
cut-same mark (x ∷ xs) [] a b p q e = let h : x ≡ mark = cc e in absurd (p.0 h)
cut-same mark (x ∷ xs) (y ∷ ys) a b p q e =
    let h : x ≡ y = cc e in
    let t : xs ++ mark ∷ a ≡ ys ++ mark ∷ b = cc e in
    let r = cut-same mark xs ys a b p.1 q.1 t in
    ((λ i. h i ∷ r.0 i), r.1)

digits-other : (digits : List ℕ) → AllDigits 10 digits → AreOther 95 digits
unfolding AreOther
digits-other [] all = tt
digits-other (d ∷ digits) all = ((λ e. let r = digit_from_value d all.0 in let h : d ≤ 57 = r.1 in omega (arith, h, e)), digits-other digits all.1)

decimal-other : (k : ℕ) → k < 2 ^ 64 → AreOther 95 (decimal k)
decimal-other k small = digits-other (decimal k) (decimal_is_IsNumeral k small).0.1

late-split : (n : List ℕ) (k : ℕ) → late_name n k ≡ codes "fx_late_" ++ (decimal k ++ 95 ∷ n)
late-split n k = by (decimal k) where
  by : (d : List ℕ) → codes "fx_late_" ++ d ++ codes "_" ++ n ≡ codes "fx_late_" ++ (d ++ 95 ∷ n)
  by d = ap (λ t. codes "fx_late_" ++ t) (append_assoc d (95 ∷ []) n)

pub late-same : (a b : List ℕ) (j k : ℕ) → j < 2 ^ 64 → k < 2 ^ 64 → late_name a j ≡ late_name b k → (j ≡ k) × (a ≡ b)
late-same a b j k p q e =
    let whole : codes "fx_late_" ++ (decimal j ++ 95 ∷ a) ≡ codes "fx_late_" ++ (decimal k ++ 95 ∷ b) = sym (late-split a j) ∙ e ∙ late-split b k in
    let tail : decimal j ++ 95 ∷ a ≡ decimal k ++ 95 ∷ b = cc whole in
    let r = cut-same 95 (decimal j) (decimal k) a b (decimal-other j p) (decimal-other k q) tail in
    (decimal_injective j k p q r.0, r.1)

-- ---- the latest output comes not too late for a number

fold-bound : (ns : List ℕ) (a most : ℕ) → a ≤ most → ((n : ℕ) → Contains ns n → n ≤ most) → fold max a ns ≤ most
fold-bound [] a most h each = h
fold-bound (n ∷ ns) a most h each = fold-bound ns (max a n) most (let e = each n (head-in n ns) in omega (arith, h, e)) (λ m c. each m (tail-in n m ns c))

late-bound : (core : Module) (port : Port) → samples_late (clocks_of core) port ≤ 16777216
late-bound core port = quotient (lateness_of port) (clocks_of core) (clocks-some core).0 (late-few port) where
  quotient : (n d : ℕ) → 1 ≤ d → n ≤ 16777216 → n / d ≤ 16777216
  quotient n d some low =
      let w = div-add-mod' n d in
      let m : (n / d) * 1 ≤ (n / d) * d = mul-le (n / d) 1 (n / d) d (omega arith) some in
      omega (arith, w, m, low)

pub latest-bound : (core : Module) → latest_in core ≤ 16777216
latest-bound core = fold-bound (map (samples_late (clocks_of core)) (output_ports core)) 0 16777216 (omega arith)
    (λ n c. let r = from-map (samples_late (clocks_of core)) (output_ports core) n c in subst (λ k. k ≤ 16777216) r.2 (late-bound core r.0))
