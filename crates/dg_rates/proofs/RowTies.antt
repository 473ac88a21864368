-- Rows of sources and readers once one more block reads one more source.
use Rattle.std.proofs.Common.{◌≡◌, ℕ, ◌+◌, ◌<◌, ⊎_elim, true, List, [], ◌∷◌, ◌++◌, length, Some, refl, sym, ap, subst, ◌∙◌, arith}
use Rattle.std.specs.Prelude.{All, slice_get}
use Rattle.std.proofs.lemmas.Bool.{cases_eq}
use Rattle.std.proofs.lemmas.Grind.{get_or-set_at}
use Rattle.std.proofs.lemmas.List.{get_or-set_other, length-set}
use Rattle.std.proofs.lemmas.List.Elements.{All-push}
use Rattle.dg_waves.specs.inner.Waves.{is_in}
use Rattle.dg_waves.proofs.WaveRounds.{is_in_push, is_in_last}
use Rattle.math_list.proofs.Places.{pushed_at}
use Rattle.dg_rates.specs.inner.Links.{AreTied}
use Rattle.fx_io.specs.Rows.{row_at, noted}

pub noted_here : (rows : List (List ℕ)) (block number k : ℕ) → block < length rows → k ≡ block → row_at (noted rows block number) k ≡ row_at rows k ++ number ∷ []
noted_here rows block number k inside same =
    get_or-set_at rows block k (row_at rows block ++ number ∷ []) [] same inside ∙ ap (λ n. row_at rows n ++ number ∷ []) (sym same)

pub noted_other : (rows : List (List ℕ)) (block number k : ℕ) → (k ≡ block → ⊥) → row_at (noted rows block number) k ≡ row_at rows k
noted_other rows block number k other = get_or-set_other rows block k (row_at rows block ++ number ∷ []) [] other

-- a fact of each row that a further number keeps
each_row : (P : ℕ → List ℕ → Type 0) (rows : List (List ℕ)) (block number : ℕ) → block < length rows
    → ((k : ℕ) → P k (row_at rows k)) → ((k : ℕ) → k ≡ block → P k (row_at rows k) → P k (row_at rows k ++ number ∷ []))
    → (k : ℕ) → P k (row_at (noted rows block number) k)
each_row P rows block number inside before more k =
    ⊎_elim
    (λ same. subst (P k) (sym (noted_here rows block number k inside same)) (more k same (before k)))
    (λ other. subst (P k) (sym (noted_other rows block number k other)) (before k))
    (cases_eq k block)

-- who is a reader stays one
still_in : (rows : List (List ℕ)) (at reader k block : ℕ) → at < length rows → is_in block (row_at rows k) ≡ true → is_in block (row_at (noted rows at reader) k) ≡ true
still_in rows at reader k block inside is =
    ⊎_elim
    (λ same. subst (λ row. is_in block row ≡ true) (sym (noted_here rows at reader k inside same)) (is_in_push (row_at rows k) reader block is))
    (λ other. subst (λ row. is_in block row ≡ true) (sym (noted_other rows at reader k other)) is)
    (cases_eq k at)

now_in : (rows : List (List ℕ)) (at reader k block : ℕ) → at < length rows → k ≡ at → block ≡ reader → is_in block (row_at (noted rows at reader) k) ≡ true
now_in rows at reader k block inside same is = subst (λ row. is_in block row ≡ true) (sym (noted_here rows at reader k inside same)) (is_in_last (row_at rows k) reader block (sym is))

-- one more block is its own reader
pub own_more : (count own : ℕ) (sources readers : List (List ℕ)) → own < count → AreTied count own sources readers → AreTied count (own + 1) sources (noted readers own own)
own_more count own sources readers below t = record {
  sources_size = t.sources_size;
  readers_size = length-set readers own (row_at readers own ++ own ∷ []) ∙ t.readers_size;
  there = t.there;
  readers_there = each_row (λ k row. All (λ r. r < count) row) readers own own inside t.readers_there
      (λ k same before. All-push (λ r. r < count) (row_at readers k) own before below);
  own = λ block there.
      ⊎_elim
      (λ same. now_in readers own own block block inside same same)
      (λ other. still_in readers own own block block inside (t.own block (omega (arith, there, other))))
      (cases_eq block own);
  known = λ block k s at. still_in readers own own s block inside (t.known block k s at);
}
  where
    inside : own < length readers
    inside = omega (arith, below, t.readers_size)

pub tie_more : (count selves : ℕ) (sources readers : List (List ℕ)) (reader source : ℕ) → reader < count → source < count → AreTied count selves sources readers
    → AreTied count selves (noted sources reader source) (noted readers source reader)
tie_more count selves sources readers reader source reader_there source_there t = record {
  sources_size = length-set sources reader (row_at sources reader ++ source ∷ []) ∙ t.sources_size;
  readers_size = length-set readers source (row_at readers source ++ reader ∷ []) ∙ t.readers_size;
  there = each_row (λ k row. All (λ s. s < count) row) sources reader source reader_inside t.there
      (λ k same before. All-push (λ s. s < count) (row_at sources k) source before source_there);
  readers_there = each_row (λ k row. All (λ r. r < count) row) readers source reader source_inside t.readers_there
      (λ k same before. All-push (λ r. r < count) (row_at readers k) reader before reader_there);
  own = λ block inside. still block block (t.own block inside);
  known = λ block k s at.
      ⊎_elim
      (λ same. at_reader block k s same (subst (λ row. slice_get row k ≡ Some s) (noted_here sources reader source block reader_inside same) at))
      (λ other. still s block (t.known block k s (subst (λ row. slice_get row k ≡ Some s) (noted_other sources reader source block other) at)))
      (cases_eq block reader);
}
  where
    reader_inside : reader < length sources
    reader_inside = omega (arith, reader_there, t.sources_size)

    source_inside : source < length readers
    source_inside = omega (arith, source_there, t.readers_size)

    still : (s block : ℕ) → is_in block (row_at readers s) ≡ true → is_in block (row_at (noted readers source reader) s) ≡ true
    still s block is = still_in readers source reader s block source_inside is

    at_reader : (block k s : ℕ) → block ≡ reader → slice_get (row_at sources block ++ source ∷ []) k ≡ Some s → is_in block (row_at (noted readers source reader) s) ≡ true
    at_reader block k s same at = pushed_at (λ x. is_in block (row_at (noted readers source reader) x) ≡ true)
        (row_at sources block) source (λ j x there. still x block (t.known block j x there))
        (now_in readers source reader source block source_inside refl same) k s at
