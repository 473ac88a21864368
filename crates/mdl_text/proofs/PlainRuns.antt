-- Runs of bytes that stand for themselves in a string.
use Rattle.std.proofs.Common.{◌≡◌, ℕ, ◌+◌, true, false, cond, List, [], ◌∷◌, ◌++◌, take, drop, Some, refl, sym, ◌∙◌, ap, append_assoc, append-nil, one-add}
use Rattle.std.specs.List.{list_all, prefix_len}
use Rattle.mdl_text.specs.declared.strings.Place.TheVariants.{Outside, Inside}
use Rattle.mdl_text.specs.Bytes.{is_blank}
use Rattle.fx_text.specs.Strings.{is_plain}
use Rattle.mdl_text.specs.inner.Plain.{strings, strings_from}
use Rattle.mdl_text.proofs.Quotes.{open_step, plain_step, close_step, outside_blanks, after_step}

-- a run is read as what it is
pub inside_plain : (bytes said : List ℕ) → strings Inside said bytes ≡ strings Inside (said ++ take (prefix_len is_plain bytes) bytes) (drop (prefix_len is_plain bytes) bytes)
inside_plain [] said = ap (λ l. strings Inside l []) (sym (append-nil said))
inside_plain (b ∷ bs) said = elim (is_plain b) as
    (λ t. is_plain b ≡ t → strings Inside said (b ∷ bs)
    ≡ strings Inside (said ++ take (cond t (1 + prefix_len is_plain bs) 0) (b ∷ bs))
    (drop (cond t (1 + prefix_len is_plain bs) 0) (b ∷ bs))) [
      | true ↦ λ e. rw (one-add)
          (ap (after_step bs) (plain_step said b e)
          ∙ inside_plain bs (said ++ b ∷ [])
          ∙ ap (λ l. strings Inside l (drop (prefix_len is_plain bs) bs)) (append_assoc said (b ∷ []) (take (prefix_len is_plain bs) bs)))
      | false ↦ λ e. ap (λ l. strings Inside l (b ∷ bs)) (sym (append-nil said))
    ] refl

-- a string that is one run, with blanks after it
pub one_string : (inner after said : List ℕ) → drop (prefix_len is_plain inner) inner ≡ 34 ∷ after
    → list_all is_blank after ≡ true → strings_from said (34 ∷ inner)
    ≡ Some (said ++ take (prefix_len is_plain inner) inner)
one_string inner after said ends blanks =
    let run : List ℕ = said ++ take (prefix_len is_plain inner) inner in
    ap (after_step inner) (open_step said)
    ∙ inside_plain inner said
    ∙ ap (strings Inside run) ends
    ∙ ap (after_step after) (close_step run)
    ∙ ap (strings Outside run) (sym (append-nil after))
    ∙ outside_blanks after run [] blanks
