-- Blanks and comments before a layout, and what the beginning of a comment leaves.
use Rattle.std.proofs.Common.{◌≡◌, ◌≢◌, ◌⊎◌, inl, inr, ⊎_elim, ℕ, Bool, false, List, [], ◌∷◌, ◌++◌, refl, sym, ◌∙◌, ap, subst, codes, arith, append_assoc}
use Rattle.std.proofs.lemmas.List.Elements.{recursion_from_All, All-from_recursion, All-nil, Contains-push_cases, Contains-append_cases}
use Rattle.vl_ast.specs.Tokens.{Token, Filler, Blank, LineComment as LineFiller, BlockComment as BlockFiller, filler_text, IsOneLine, IsFiller, IsGap, Lays}

filler_first : (filler : Filler) (gap : List ℕ) → filler_text filler ++ gap ≢ []
filler_first (Blank byte) gap e = cc
filler_first _ gap e = cc

filler_gap : (filler : Filler) (gap : List ℕ) → IsFiller filler → IsGap gap → IsGap (filler_text filler ++ gap)
filler_gap filler gap is h =
    (filler ∷ h.0, All-from_recursion IsFiller (filler ∷ h.0) (is, recursion_from_All IsFiller h.0 h.1), ap (λ g. filler_text filler ++ g) h.2)

pub empty_gap : IsGap []
empty_gap = ([], All-nil IsFiller, refl)

regroup : (front gap written rest : List ℕ) → front ++ ((gap ++ written) ++ rest) ≡ ((front ++ gap) ++ written) ++ rest
regroup front gap written rest = simp append_assoc

-- a blank or a comment before a layout, whatever stands before it
pub filler_put : (filler : Filler) (tokens : List Token) (bytes : List ℕ) (after : Bool) → IsFiller filler → Lays false tokens bytes → Lays after tokens (filler_text filler ++ bytes)
filler_put filler [] bytes after is (inl gap) = inl (filler_gap filler bytes is gap)
filler_put filler [] bytes after is (inr h) =
    inr (filler_text filler ++ h.0, h.1, filler_gap filler h.0 is h.2, h.3, ap (λ b. filler_text filler ++ b) h.4 ∙ regroup (filler_text filler) h.0 (47 ∷ 47 ∷ []) h.1)
filler_put filler (token ∷ tokens) bytes after is h = (
  filler_text filler ++ h.0,
  h.1,
  h.2,
  filler_gap filler h.0 is h.3,
  λ _. filler_first filler h.0,
  h.5,
  h.6,
  h.7,
  ap (λ b. filler_text filler ++ b) h.8 ∙ regroup (filler_text filler) h.0 h.1 h.2,
)

pub nothing_one_line : IsOneLine []
nothing_one_line c = omega (arith, c.1)

one_line_more : (b : ℕ) (bs : List ℕ) → b ≢ 10 → IsOneLine bs → IsOneLine (b ∷ bs)
one_line_more b bs other h c =
    ⊎_elim (λ at. ⊎_elim nothing_one_line other (Contains-push_cases [] b 10 at)) h (Contains-append_cases (b ∷ []) bs 10 c)

-- a comment to the end of its line, and what it leaves
abbrev pub LineRest : List Token → List ℕ → Type 0
LineRest tokens bytes =
    ((body : List ℕ) × (rest : List ℕ) × IsOneLine body × (bytes ≡ body ++ 10 ∷ rest) × Lays false tokens rest)
    ⊎ ((tokens ≡ []) × IsOneLine bytes)

pub line_more : (b : ℕ) (bs : List ℕ) (tokens : List Token) → b ≢ 10 → LineRest tokens bs → LineRest tokens (b ∷ bs)
line_more b bs tokens other (inl h) = inl (b ∷ h.0, h.1, one_line_more b h.0 other h.2, ap (λ l. b ∷ l) h.3, h.4)
line_more b bs tokens other (inr h) = inr (h.0, one_line_more b bs other h.1)

pub line_laid : (tokens : List Token) (bytes : List ℕ) (after : Bool) → LineRest tokens bytes → Lays after tokens (47 ∷ 47 ∷ bytes)
line_laid tokens bytes after (inl h) =
    subst (λ b. Lays after tokens (47 ∷ 47 ∷ b)) (append_assoc h.0 (10 ∷ []) h.1 ∙ sym h.3) (filler_put (LineFiller h.0) tokens h.1 after h.2 h.4)
line_laid tokens bytes after (inr h) =
    subst (λ t. Lays after t (47 ∷ 47 ∷ bytes)) (sym h.0) (inr ([], bytes, empty_gap, h.1, refl))

no_end_empty : IsFiller (BlockFiller [])
no_end_empty [] after e = cc
no_end_empty (x ∷ xs) after e = cc

no_end_more : (b : ℕ) (bs : List ℕ) → (b ≡ 42 → (more : List ℕ) → bs ≢ 47 ∷ more) → IsFiller (BlockFiller bs) → IsFiller (BlockFiller (b ∷ bs))
no_end_more b bs first h [] after e = let at : b ≡ 42 = cc in let rest : bs ≡ 47 ∷ after = cc in first at after rest
no_end_more b bs first h (x ∷ xs) after e = let rest : bs ≡ xs ++ codes "*/" ++ after = cc in h xs after rest

-- a comment to its end mark, and what it leaves
pub record BlockRest (tokens : List Token) (bytes : List ℕ) : Type 0 where
  pub body : List ℕ
  pub rest : List ℕ
  pub inside : IsFiller (BlockFiller body)
  pub same : bytes ≡ body ++ 42 ∷ 47 ∷ rest
  pub laid : Lays false tokens rest

pub block_ends : (bytes : List ℕ) (tokens : List Token) → Lays false tokens bytes → BlockRest tokens (42 ∷ 47 ∷ bytes)
block_ends bytes tokens h = record { body = []; rest = bytes; inside = no_end_empty; same = refl; laid = h }

-- a byte that doesn't begin the end mark
pub block_more : (b : ℕ) (bs : List ℕ) (tokens : List Token) → (b ≡ 42 → (more : List ℕ) → bs ≢ 47 ∷ more) → BlockRest tokens bs → BlockRest tokens (b ∷ bs)
block_more b bs tokens first h = record {
  body = b ∷ h.body;
  rest = h.rest;
  inside = no_end_more b h.body (λ at more e. first at (more ++ 42 ∷ 47 ∷ h.rest) (h.same ∙ ap (λ l. l ++ 42 ∷ 47 ∷ h.rest) e)) h.inside;
  same = ap (λ l. b ∷ l) h.same;
  laid = h.laid;
}

pub block_laid : (tokens : List Token) (bytes : List ℕ) (after : Bool) → BlockRest tokens bytes → Lays after tokens (47 ∷ 42 ∷ bytes)
block_laid tokens bytes after h =
    subst (λ b. Lays after tokens (47 ∷ 42 ∷ b)) (append_assoc h.body (42 ∷ 47 ∷ []) h.rest ∙ sym h.same) (filler_put (BlockFiller h.body) tokens h.rest after h.inside h.laid)
