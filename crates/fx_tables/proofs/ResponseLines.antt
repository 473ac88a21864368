-- A response that is put line by line.
use Rattle.std.proofs.Common.{◌≡◌, ◌<◌, ◌≤◌, ◌+◌, ⊎_elim, ℕ, ℤ, zero, suc, List, [], ◌++◌, Option, ap, sym, ◌∙◌, append_assoc, append-nil, arith}
use Rattle.std.proofs.Math.Numerals.{suc-eq-add-one}
use Rattle.std.proofs.lemmas.Bool.{cases_lt}
use Rattle.fx_io.specs.Sink.{TookProperPrefix, also_took}
use Rattle.fx_tables.specs.Response.{response, response_line}
use Rattle.fx_io.proofs.SinkBytes.{took-split}

module _ (periods : List ℕ) (row : ℕ → List ℤ) where
  pub one-line-more : (t : ℕ) → response periods row t ++ response_line periods t (row t) ≡ response periods row (t + 1)
  one-line-more t = ap (response periods row) (suc-eq-add-one t)

  -- the lines of the first samples stand first
  pub record Front (t samples : ℕ) : Type 0 where
    pub rest : List ℕ
    pub whole : response periods row samples ≡ response periods row t ++ rest

  front : (t samples : ℕ) → t ≤ samples → Front t samples
  front t zero below = let none : t ≡ 0 = omega (arith, below) in record { rest = []; whole = ap (response periods row) (sym none) ∙ sym (append-nil (response periods row t)) }
  front t (suc k) below = ⊎_elim
      (λ less. let f = front t k (omega (arith, less)) in record {
        rest = f.rest ++ response_line periods k (row k);
        whole = ap (λ xs. xs ++ response_line periods k (row k)) f.whole ∙ append_assoc (response periods row t) f.rest (response_line periods k (row k));
      })
      (λ same. let e : t ≡ suc k = omega (arith, below, same) in record { rest = []; whole = ap (response periods row) (sym e) ∙ sym (append-nil (response periods row t)) })
      (cases_lt t (suc k))

  -- a part of a line more
  pub took-part : (t samples : ℕ) (before mid now : Option (List ℕ)) → t < samples
      → mid ≡ also_took before (response periods row t) → TookProperPrefix mid now (response_line periods t (row t))
      → TookProperPrefix before now (response periods row samples)
  took-part t samples before mid now below is part =
      let f = front (suc t) samples (omega (arith, below)) in
      let done = response periods row t in
      let line = response_line periods t (row t) in
      took-split before mid now done line (f.rest, f.whole ∙ append_assoc done line f.rest) is part
