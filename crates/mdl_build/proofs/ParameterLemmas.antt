-- The parameters of a block, read one after the other.
use Rattle.std.proofs.Common.{◌≡◌, ℕ, zero, suc, ◌+◌, ◌<◌, ◌≤◌, ⊎_elim, List, [], ◌∷◌, length, drop, Option, Some, None, Bor, get_or, map, refl, sym, ap, subst, ◌∙◌, add-one, arith}
use Rattle.std.specs.Prelude.{slice_get, option_map}
use Rattle.std.specs.Option.{unwrap_or}
use Rattle.std.proofs.lemmas.Bool.{cases_lt}
use Rattle.std.proofs.lemmas.List.{drop_all, length-map}
use Rattle.std.proofs.lemmas.Option.{none-some, same_Some, slice_get-map, slice_get-get_or}
use Rattle.mdl_text.specs.declared.tree.Item.{Item}
use Rattle.mdl_build.specs.declared.library.BlockType.{BlockType}
use Rattle.mdl_build.specs.declared.settings.Setting.{Setting}
use Rattle.mdl_build.specs.declared.settings.Settings.{Settings}
use Rattle.mdl_values.specs.Reads.{Finds}
use Rattle.mdl_build.specs.declared.library.Parameter.{Parameter}
use Rattle.mdl_build.specs.Blocks.{HasSettings, AreRead, IsRead, IsReadable, first_text}
use Rattle.mdl_build.specs.Library.{ParameterRow, row_of, parameters_of}
use Rattle.mdl_build.specs.Lookup.{value_under, fallback, text_of}
use Rattle.mdl_build.specs.Rules.{IsFirstWrong, AllRead}
use Rattle.mdl_build.specs.Settings.{ReadsAs, unset, with_setting}
use Rattle.mdl_build.specs.inner.Texts.{contents_of, fallbacks_of}
use Rattle.mdl_build.specs.inner.Readings.{AreReadTo}

drop_at : {X : Type 0} (xs : List X) (k : ℕ) (x : X) → slice_get xs k ≡ Some x → drop k xs ≡ x ∷ drop (suc k) xs
drop_at [] k x at = absurd (none-some x at)
drop_at {X} (y ∷ ys) zero x at = ap (λ (head : X). head ∷ ys) (same_Some y x at)
drop_at (y ∷ ys) (suc k) x at = drop_at ys k x at

module _ (items : List Item) (block_type : BlockType) (place : ℕ) where
  pub none_read : AreReadTo items block_type place 0 unset
  none_read = record { rest = λ after h. h; readable = λ k other less at. absurd (omega (arith, less)) }

  -- one more is read
  pub one_read : (number : ℕ) (row : ParameterRow) (settings : Settings) (setting : Setting) → AreReadTo items block_type place number settings
      → slice_get (parameters_of block_type) number ≡ Some row → IsRead items block_type place row setting → AreReadTo items block_type place (number + 1) (with_setting settings setting)
  one_read number row settings setting before at read = record {
    rest = λ after h.
        before.rest after (subst (λ (rows : List ParameterRow). AreRead items block_type place rows settings after) (sym (drop_at (parameters_of block_type) number row at))
        (setting, read, subst (λ (n : ℕ). AreRead items block_type place (drop n (parameters_of block_type)) (with_setting settings setting) after) (add-one number) h));
    readable = λ k other less there.
        ⊎_elim (λ (below : k < number). before.readable k other below there)
        (λ (above : number ≤ k).
        let same : number ≡ k = omega (arith, above, less) in
        let own : row ≡ other = same_Some row other (sym at ∙ ap (slice_get (parameters_of block_type)) same ∙ there) in
        subst (IsReadable items block_type place) own (setting, read))
        (cases_lt k number);
  }

  -- all are read
  pub all_read : (number : ℕ) (settings : Settings) → AreReadTo items block_type place number settings → length (parameters_of block_type) ≤ number → HasSettings items block_type place settings
  all_read number settings before all =
      before.rest settings (subst (λ (rows : List ParameterRow). AreRead items block_type place rows settings settings) (sym (drop_all number (parameters_of block_type) all)) refl)

  -- one isn't read
  pub first_wrong : (number : ℕ) (row : ParameterRow) (settings : Settings) (name : List ℕ) → AreReadTo items block_type place number settings
      → slice_get (parameters_of block_type) number ≡ Some row
      → ((setting : Setting) → ¬ IsRead items block_type place row setting) → name ≡ row.name
      → IsFirstWrong items block_type place (parameters_of block_type) name
  first_wrong number row settings name before at wrong name_is = record {
    number = number;
    parameter = row;
    there = at;
    wrong = λ h. wrong h.0 h.1;
    before = λ k other less there. before.readable k other less there;
    name_is = name_is;
  }

  -- what is read of all is read of each
  each_read : (rows : List ParameterRow) (before after : Settings)
      → AreRead items block_type place rows before after → (k : ℕ) (row : ParameterRow)
      → slice_get rows k ≡ Some row → IsReadable items block_type place row
  each_read [] before after h k row at = absurd (none-some row at)
  each_read (first ∷ rows) before after h zero row at = subst (IsReadable items block_type place) (same_Some first row at) (h.0, h.1)
  each_read (first ∷ rows) before after h (suc k) row at = each_read rows (with_setting before h.0) after h.2 k row at

  pub read_each : (settings : Settings) → HasSettings items block_type place settings → AllRead items block_type place
  read_each settings h = each_read (parameters_of block_type) unset settings h

-- ---- a parameter of the table

-- the parameter of a number, and its text where the other one is that which the type's defaults have
pub record IsRowAt (items : List Item) (block_type : BlockType) (place number : ℕ) (row : ParameterRow) (other : List ℕ) : Type 0 where
  pub at_number : slice_get (parameters_of block_type) number ≡ Some row
  pub text_is : unwrap_or (value_under items place row.name) other ≡ text_of items block_type place row

pub row_here : (items : List Item) (block_type : BlockType) (place : ℕ) (parameters : List Parameter) (defaults : List (Bor (List ℕ))) (number : ℕ) (p : Parameter) (d : Bor (List ℕ))
    → map row_of parameters ≡ parameters_of block_type → contents_of defaults ≡ fallbacks_of items block_type → number < length parameters
    → IsRowAt items block_type place number (row_of (get_or parameters number p)) (get_or defaults number d).now
row_here items block_type place parameters defaults number p d rows texts below =
    let row = row_of (get_or parameters number p) in
    let there : slice_get (parameters_of block_type) number ≡ Some row =
    ap (λ (list : List ParameterRow). slice_get list number) (sym rows) ∙ slice_get-map row_of parameters number ∙ ap (option_map row_of) (slice_get-get_or parameters number p below) in
    let long : length defaults ≡ length parameters =
    sym (length-map defaults (λ (text : Bor (List ℕ)). text.now)) ∙ ap length texts
    ∙ length-map (parameters_of block_type) (fallback items block_type) ∙ sym (ap length rows)
    ∙ length-map parameters row_of in
    let inside : number < length defaults = omega (arith, long, below) in
    let own : Some (get_or defaults number d).now ≡ Some (fallback items block_type row) =
    sym (slice_get-map (λ (text : Bor (List ℕ)). text.now) defaults number ∙ ap (option_map (λ (text : Bor (List ℕ)). text.now)) (slice_get-get_or defaults number d inside))
    ∙ ap (λ (list : List (List ℕ)). slice_get list number) texts ∙ slice_get-map (fallback items block_type) (parameters_of block_type) number ∙ ap (option_map (fallback items block_type)) there in
    record { at_number = there; text_is = ap (unwrap_or (value_under items place row.name)) (same_Some (get_or defaults number d).now (fallback items block_type row) own) }

-- what it is read as
pub read_some : (items : List Item) (block_type : BlockType) (place : ℕ) (row : ParameterRow) (gate : List ℕ) (text : List ℕ) (found : Option Setting) (setting : Setting)
    → gate ≡ first_text items block_type place (parameters_of block_type)
    → text ≡ text_of items block_type place row → Finds (ReadsAs gate row.reader row.default text) found
    → found ≡ Some setting → IsRead items block_type place row setting
read_some items block_type place row gate text found setting gate_is text_is finds is =
    let here : Finds (ReadsAs gate row.reader row.default text) (Some setting) = subst (λ (f : Option Setting). Finds (ReadsAs gate row.reader row.default text) f) is finds in
    subst (λ (s : List ℕ). ReadsAs s row.reader row.default (text_of items block_type place row) setting) gate_is
    (subst (λ (t : List ℕ). ReadsAs gate row.reader row.default t setting) text_is here)

pub read_none : (items : List Item) (block_type : BlockType) (place : ℕ) (row : ParameterRow) (gate : List ℕ) (text : List ℕ) (found : Option Setting)
    → gate ≡ first_text items block_type place (parameters_of block_type)
    → text ≡ text_of items block_type place row → Finds (ReadsAs gate row.reader row.default text) found
    → found ≡ None → (setting : Setting) → ¬ IsRead items block_type place row setting
read_none items block_type place row gate text found gate_is text_is finds is setting read =
    let here : Finds (ReadsAs gate row.reader row.default text) None = subst (λ (f : Option Setting). Finds (ReadsAs gate row.reader row.default text) f) is finds in
    here setting (subst (λ (t : List ℕ). ReadsAs gate row.reader row.default t setting) (sym text_is)
    (subst (λ (s : List ℕ). ReadsAs s row.reader row.default (text_of items block_type place row) setting) (sym gate_is) read))
