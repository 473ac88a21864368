-- A list of rows thinned by a test: those that pass, behind a first.
use Rattle.std.proofs.Common.{◌≡◌, ◌<◌, ◌≤◌, ⊎_elim, ℕ, zero, suc, Bool, true, false, ◌&&◌, if◌then◌else◌, ◌==◌, refl, sym, ap, subst, ◌∙◌, arith}
use Rattle.std.proofs.lemmas.Bool.{cond-true, cond-false, cases_eq, eq-eqb, eqb-true, cases_Bool}
use Rattle.vl_ast.specs.Runs.{Row, Rows}
use Rattle.vl_ast.specs.Windows.{counted}

module _ (test : ℕ → Bool) where
  pub counted-yes : (j : ℕ) → test j ≡ true → counted test (suc j) ≡ suc (counted test j)
  counted-yes j e = cond-true (test j) (suc (counted test j)) (counted test j) e

  counted-no : (j : ℕ) → test j ≡ false → counted test (suc j) ≡ counted test j
  counted-no j e = cond-false (test j) (suc (counted test j)) (counted test j) e

  counted-more : (j : ℕ) → counted test j ≤ counted test (suc j)
  counted-more j = ⊎_elim
      (λ t. let e = counted-yes j t in omega (arith, e))
      (λ f. let e = counted-no j f in omega (arith, e))
      (cases_Bool (test j))

  pub counted-grows : (many j : ℕ) → j ≤ many → counted test j ≤ counted test many
  counted-grows zero j below = let e : j ≡ 0 = omega arith in subst (λ k. counted test k ≤ 0) (sym e) (omega arith)
  counted-grows (suc many) j below = ⊎_elim
      (λ same. subst (λ k. counted test k ≤ counted test (suc many)) (sym same) (omega arith))
      (λ other. let less : j ≤ many = omega (arith, below, other) in let g = counted-grows many j less in let more = counted-more many in omega (arith, g, more))
      (cases_eq j (suc many))

  pub counted-above : (many j : ℕ) → j < many → test j ≡ true → counted test j < counted test many
  counted-above many j below passes = let g = counted-grows many (suc j) (omega arith) in let e = counted-yes j passes in omega (arith, g, e)

  -- the place of the one of a number
  pub record At (many number : ℕ) : Type 0 where
    pub place : ℕ
    pub below : place < many
    pub passes : test place ≡ true
    pub counts : counted test place ≡ number

  pub found : (many number : ℕ) → number < counted test many → At many number
  found zero number below = absurd (omega (arith, below))
  found (suc many) number below = by (found many number) where
    later : At many number → At (suc many) number
    later at = record { place = at.place; below = (let b = at.below in omega (arith, b)); passes = at.passes; counts = at.counts }

    by : (number < counted test many → At many number) → At (suc many) number
    by before = ⊎_elim
        (λ t. ⊎_elim
        (λ same. record { place = many; below = omega arith; passes = t; counts = same })
        (λ other. let e = counted-yes many t in later (before (omega (arith, e, below, other))))
        (cases_eq (counted test many) number))
        (λ f. let e = counted-no many f in later (before (omega (arith, e, below))))
        (cases_Bool (test many))

  module _ (head : Row) (items : Rows) where
    -- the first, and behind it those of the first so many that pass
    abbrev pub thin : ℕ → ℕ → Row
    thin zero number = head
    thin (suc many) number = if test many && number == suc (counted test many) then items many else thin many number

    -- the last of these
    abbrev pub newest : ℕ → Row
    newest zero = head
    newest (suc many) = if test many then items many else newest many

    thin-here : (j : ℕ) → test j ≡ true → thin (suc j) (suc (counted test j)) ≡ items j
    thin-here j t = cond-true (test j && suc (counted test j) == suc (counted test j)) (items j)
        (thin j (suc (counted test j)))
        (both (test j) _ t (eq-eqb (suc (counted test j)) (suc (counted test j)) refl)) where
          both : (a b : Bool) → a ≡ true → b ≡ true → (a && b) ≡ true
          both a b e f = rw (e, f) refl

    thin-skip : (j number : ℕ) → (test j ≡ true → number ≡ suc (counted test j) → ⊥) → thin (suc j) number ≡ thin j number
    thin-skip j number other = cond-false (test j && number == suc (counted test j)) (items j) (thin j number) (by (test j) (number == suc (counted test j)) refl refl) where
      by : (t s : Bool) → test j ≡ t → (number == suc (counted test j)) ≡ s → (t && s) ≡ false
      by true true e f = absurd (other e (eqb-true number (suc (counted test j)) f))
      by true false e f = refl
      by false s e f = refl

    thin-low : (j number : ℕ) → number ≤ counted test j → thin (suc j) number ≡ thin j number
    thin-low j number low = thin-skip j number (λ t e. omega (arith, low, e))

    pub thin-kept : (many j number : ℕ) → j ≤ many → number ≤ counted test j → thin many number ≡ thin j number
    thin-kept zero j number below low = let e : 0 ≡ j = omega arith in ap (λ k. thin k number) e
    thin-kept (suc many) j number below low = ⊎_elim
        (λ same. ap (λ k. thin k number) (sym same))
        (λ other. let less : j ≤ many = omega (arith, below, other) in let g = counted-grows many j less in
        thin-low many number (omega (arith, g, low)) ∙ thin-kept many j number less low)
        (cases_eq j (suc many))

    pub thin-newest : (j : ℕ) → thin j (counted test j) ≡ newest j
    thin-newest zero = refl
    thin-newest (suc j) = ⊎_elim
        (λ t. ap (thin (suc j)) (counted-yes j t) ∙ thin-here j t ∙ sym (cond-true (test j) (items j) (newest j) t))
        (λ f. ap (thin (suc j)) (counted-no j f) ∙ thin-low j (counted test j) (omega arith) ∙ thin-newest j ∙ sym (cond-false (test j) (items j) (newest j) f))
        (cases_Bool (test j))

    pub thin-placed : (many j : ℕ) → j < many → test j ≡ true → thin many (suc (counted test j)) ≡ items j
    thin-placed many j below t =
        let e = counted-yes j t in
        thin-kept many (suc j) (suc (counted test j)) (omega arith) (omega (arith, e)) ∙ thin-here j t
