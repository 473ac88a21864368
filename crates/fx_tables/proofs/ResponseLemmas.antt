-- The line of a response, written from its end field by field with a space before each.
use Rattle.std.proofs.Common.{◌≡◌, ℕ, zero, suc, ◌+◌, ◌-◌, ◌<◌, List, [], ◌∷◌, ◌++◌, length, get_or, drop, set, refl, sym, ap, ◌∙◌, append_assoc, append-nil, arith}
use Rattle.std.specs.Prelude.{ℤ}
use Rattle.std.specs.List.{flat_map, join_with_byte}
use Rattle.std.proofs.lemmas.List.{drop_more, drop-drop, drop_all, drop-set}
use Rattle.fx_tables.specs.Stimulus.{hits_at}
use Rattle.fx_tables.specs.Response.{text_of_field, response_fields, response_line}

-- a field with a space before it
abbrev pub spaced : List ℕ → List ℕ
spaced field = 32 ∷ field

-- the fields from the k-th on with a space before each, and a newline
abbrev pub rest_of_line : ℕ → List (List ℕ) → List ℕ
rest_of_line k fields = flat_map spaced (drop k fields) ++ 10 ∷ []

pub length-response_fields : (t : ℕ) (periods : List ℕ) (values : List ℤ) → length values ≡ length periods → length (response_fields t periods values) ≡ length periods
length-response_fields t [] values same = refl
length-response_fields t (p ∷ periods) [] same = absurd (omega arith)
length-response_fields t (p ∷ periods) (v ∷ values) same = ap suc (length-response_fields t periods values (omega arith))

pub get_or-response_fields : (t k : ℕ) (periods : List ℕ) (values : List ℤ) (unused : ℤ)
    → length values ≡ length periods → k < length periods
    → get_or (response_fields t periods values) k []
    ≡ text_of_field (hits_at (get_or periods k 0) t) (get_or values k unused)
get_or-response_fields t k [] values unused same inside = absurd (omega arith)
get_or-response_fields t k (p ∷ periods) [] unused same inside = absurd (omega arith)
get_or-response_fields t zero (p ∷ periods) (v ∷ values) unused same inside = refl
get_or-response_fields t (suc k) (p ∷ periods) (v ∷ values) unused same inside = get_or-response_fields t k periods values unused (omega arith) (omega arith)

-- before the newline
pub rest_of_line-none : (t : ℕ) (periods : List ℕ) (values : List ℤ) (bytes : List ℕ)
    → length values ≡ length periods → 0 < length bytes
    → drop (length bytes - 1) (set bytes (length bytes - 1) 10)
    ≡ rest_of_line (length periods) (response_fields t periods values)
rest_of_line-none t periods values bytes same some =
    drop-set bytes (length bytes - 1) 10 (omega arith)
    ∙ ap (λ rest. 10 ∷ rest) (drop_all (length bytes - 1 + 1) bytes (omega arith))
    ∙ ap (λ rest. flat_map spaced rest ++ 10 ∷ []) (sym (drop_all (length periods) (response_fields t periods values) (omega (arith, length-response_fields t periods values same))))

-- one field more
pub rest_of_line-more : (t k next : ℕ) (periods : List ℕ) (values : List ℤ) (unused : ℤ)
    → length values ≡ length periods → next ≡ k + 1 → k < length periods
    → rest_of_line k (response_fields t periods values)
    ≡ 32 ∷ (text_of_field (hits_at (get_or periods k 0) t) (get_or values k unused)
    ++ rest_of_line next (response_fields t periods values))
rest_of_line-more t k next periods values unused same is inside =
    let fields = response_fields t periods values in
    let there : k < length (response_fields t periods values) = omega (arith, length-response_fields t periods values same) in
    ap (λ rest. flat_map spaced rest ++ 10 ∷ []) (drop_more fields k [] there)
    ∙ ap (λ rest. 32 ∷ rest) (append_assoc (get_or fields k []) (flat_map spaced (drop (k + 1) fields)) (10 ∷ []))
    ∙ ap (λ field. 32 ∷ (field ++ rest_of_line (k + 1) fields)) (get_or-response_fields t k periods values unused same inside)
    ∙ ap (λ n. 32 ∷ (text_of_field (hits_at (get_or periods k 0) t) (get_or values k unused) ++ rest_of_line n fields)) (sym is)

-- a space before the first field too
spaced_join : (field : List ℕ) (fields : List (List ℕ)) → flat_map spaced (field ∷ fields) ≡ 32 ∷ join_with_byte 32 (field ∷ fields)
spaced_join field [] = ap (λ rest. 32 ∷ rest) (append-nil field)
spaced_join field (next ∷ fields) = ap (λ rest. 32 ∷ (field ++ rest)) (spaced_join next fields)

-- the line without it
pub line_from : (t start : ℕ) (periods : List ℕ) (values : List ℤ) (bytes : List ℕ) → length values ≡ length periods
    → 0 < length periods → drop start bytes ≡ rest_of_line 0 (response_fields t periods values)
    → drop (start + 1) bytes ≡ response_line periods t values
line_from t start [] values bytes same some is = absurd (omega arith)
line_from t start (p ∷ periods) [] bytes same some is = absurd (omega arith)
line_from t start (p ∷ periods) (v ∷ values) bytes same some is =
    sym (drop-drop 1 start bytes)
    ∙ ap (drop 1) is
    ∙ ap (λ line. drop 1 (line ++ 10 ∷ [])) (spaced_join (text_of_field (hits_at p t) v) (response_fields t periods values))
