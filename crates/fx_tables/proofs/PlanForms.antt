-- What is read of a line of a plan has its form.
use Rattle.std.proofs.Common.{◌≡◌, ◌≢◌, ℕ, zero, suc, ◌<◌, ◌≤◌, Bool, true, false, cond, not, eqb, None, Some, Option, List, [], ◌∷◌, ◌++◌, ◌⊎◌, inl, inr, length, take, drop, get_or, refl, sym, ap}
use Rattle.std.proofs.Common.{subst, ◌∙◌, ⊎_elim, arith, rules, eqb-true}
use Rattle.std.specs.Prelude.{codes, ◌&&◌, nat_le}
use Rattle.std.specs.List.{list_all, prefix_len}
use Rattle.std.specs.Str.{bytes_eq}
use Rattle.std.specs.Str.Parse.{digits_value}
use Rattle.std.proofs.lemmas.Bool.{and_parts, and_from, not-true, false≢true, cases_lt, cond-true, cond-false, not-false}
use Rattle.std.proofs.lemmas.Bool.Decides.{nat_tests}
use Rattle.std.proofs.lemmas.Slice.Eq.{bytes_eq-Decides}
use Rattle.std.proofs.lemmas.List.Sums.{prefix_len-le-length, prefix_len_passes, prefix_len_stops}
use Rattle.std.proofs.lemmas.List.Folds.{length-prefix_len}
use Rattle.std.proofs.lemmas.List.{take-append-drop}
use Rattle.fx_text.specs.Digits.{is_number}
use Rattle.fx_text.specs.Strings.{string_behind}
use Rattle.fx_text.proofs.FormLemmas.{read_form, form_read}
use Rattle.fx_tables.specs.Fields.{is_blank, after_blanks, fields_of}
use Rattle.fx_tables.specs.inner.PlainPlan.{sole_number, cycles_entry, multipliers_entry, pipelined_entry, counted_entry, pipeline_entry, words_entry, entry_of}
use Rattle.fx_tables.specs.PlanLines.{AreBlanks, IsCount, IsPipelineLine, IsSetting, Says}
use Rattle.fx_tables.specs.declared.entry.PlanEntry.{PlanEntry}
use Rattle.fx_tables.specs.declared.entry.PlanEntry.TheVariants.{Passed, Cycles, Multipliers, Pipelined}
use Rattle.fx_tables.proofs.FieldsLemmas.{IsRunAt, no_field, first_field, fields_of-blank, fields_of-field}
use Rattle.math_list.proofs.Tests.{cond_cases, cond_some}

-- a number that is the only field
record Sole (low high : ℕ) (fields : List (List ℕ)) (count : ℕ) : Type 0 where
  pub digits : List ℕ
  pub is : fields ≡ digits ∷ []
  pub is_count : IsCount low high digits count

sole_form : (low high : ℕ) (fields : List (List ℕ)) (count : ℕ) → sole_number low high fields ≡ Some count → Sole low high fields count
sole_form low high [] count h = cc
sole_form low high (field ∷ next ∷ more) count h = cc
sole_form low high (field ∷ []) count h =
    let value : ℕ = digits_value 10 field in
    let read = cond_some (is_number 9 field && nat_le low value && nat_le value high) (Some value) count h in
    let outer = and_parts (is_number 9 field && nat_le low value) (nat_le value high) read.0 in
    let inner = and_parts (is_number 9 field) (nat_le low value) outer.0 in
    let same : value ≡ count = let e = read.1 in cc in
    let above : low ≤ value = let e = inner.1 in search (rules, nat_tests) in
    let below : value ≤ high = let e = outer.1 in search (rules, nat_tests) in
    record {
      digits = field;
      is = refl;
      is_count = record { short = inner.0; value = same; low = omega (arith, same, above); high = omega (arith, same, below) };
    }

-- blanks come off the front
record Unblanked (line : List ℕ) : Type 0 where
  pub before : List ℕ
  pub blanks : AreBlanks before
  pub form : line ≡ before ++ after_blanks line

unblanked : (line : List ℕ) → Unblanked line
unblanked [] = record { before = []; blanks = refl; form = refl }
unblanked (b ∷ line) = by_test (is_blank b) refl (unblanked line)
  where
    by_test : (t : Bool) → is_blank b ≡ t → Unblanked line → Unblanked (b ∷ line)
    by_test true is more = record {
      before = b ∷ more.before;
      blanks = and_from (is_blank b) (list_all is_blank more.before) is more.blanks;
      form = ap (λ l. b ∷ l) more.form ∙ sym (ap (λ t. b ∷ (more.before ++ cond t (after_blanks line) (b ∷ line))) is);
    }
    by_test false is more = record {
      before = [];
      blanks = refl;
      form = sym (ap (λ t. cond t (after_blanks line) (b ∷ line)) is);
    }

starts : (line : List ℕ) → 0 < length (after_blanks line) → is_blank (get_or (after_blanks line) 0 0) ≡ false
starts [] some = absurd (omega arith)
starts (b ∷ line) some = by_test (is_blank b) refl some (starts line)
  where
    by_test : (t : Bool) → is_blank b ≡ t → 0 < length (cond t (after_blanks line) (b ∷ line))
        → (0 < length (after_blanks line) → is_blank (get_or (after_blanks line) 0 0) ≡ false)
        → is_blank (get_or (cond t (after_blanks line) (b ∷ line)) 0 0) ≡ false
    by_test true is more before = before more
    by_test false is more before = is

same_fields : (line : List ℕ) → fields_of (after_blanks line) ≡ fields_of line
same_fields [] = refl
same_fields (b ∷ line) = by_test (is_blank b) refl (same_fields line)
  where
    by_test : (t : Bool) → is_blank b ≡ t → fields_of (after_blanks line) ≡ fields_of line → fields_of (cond t (after_blanks line) (b ∷ line)) ≡ fields_of (b ∷ line)
    by_test true is same = same ∙ sym (fields_of-blank b line is)
    by_test false is same = refl

-- a line that begins with a field: what follows it is nothing, or begins with a blank
record FirstField (rest word : List ℕ) : Type 0 where
  pub form : rest ≡ word ++ drop (length word) rest
  pub ends : length word < length rest → is_blank (get_or rest (length word) 0) ≡ true

abbrev no_blank : ℕ → Bool
no_blank b = not (is_blank b)

run_at : (rest : List ℕ) → (0 < length rest → is_blank (get_or rest 0 0) ≡ false) → IsRunAt rest (prefix_len no_blank rest)
run_at rest start = record {
  start = start;
  end_within = prefix_len-le-length no_blank rest;
  run = λ k below. not-true (is_blank (get_or rest k 0)) (prefix_len_passes no_blank rest k 0 below);
  end = λ inside. not-false (is_blank (get_or rest (prefix_len no_blank rest) 0)) (prefix_len_stops no_blank rest 0 inside);
}

run_field : (rest : List ℕ) → (0 < length rest → is_blank (get_or rest 0 0) ≡ false) → FirstField rest (take (prefix_len no_blank rest) rest)
run_field rest start =
    let end : ℕ = prefix_len no_blank rest in
    let long : length (take end rest) ≡ end = length-prefix_len no_blank rest in
    record {
      form = sym (take-append-drop end rest) ∙ ap (λ n. take end rest ++ drop n rest) (sym long);
      ends = λ inside. ap (λ n. is_blank (get_or rest n 0)) long ∙ (run_at rest start).end (omega (arith, long, inside));
    }

field_of : (rest word : List ℕ) (words : List (List ℕ)) → (0 < length rest → is_blank (get_or rest 0 0) ≡ false) → fields_of rest ≡ word ∷ words → FirstField rest word
field_of rest word words start is =
    let end : ℕ = prefix_len no_blank rest in
    elim (cases_lt 0 (length (take end rest))) [
      | inl some ↦
          let cut = first_field rest end (run_at rest start) some in
          let same : take end rest ≡ word = cc in
          subst (λ (w : List ℕ). FirstField rest w) same (run_field rest start)
      | inr none ↦
          let nothing : fields_of rest ≡ [] = no_field rest end (run_at rest start) (omega arith) in
          absurd (let bad : ◌≡◌ {A = List (List ℕ)} [] (word ∷ words) = sym nothing ∙ is in cc)
    ]

opening : (text : List ℕ) → eqb (get_or text 0 0) 34 ≡ true → text ≡ 34 ∷ drop 1 text
opening [] h = cc
opening (b ∷ text) h = ap (λ c. c ∷ text) (eqb-true b 34 h)

-- a path, a blank and a count
record Counted (text : List ℕ) (entry : PlanEntry) : Type 0 where
  pub path : List ℕ
  pub next : ℕ
  pub rest : List ℕ
  pub count : ℕ
  pub read : string_behind text ≡ Some (path, next ∷ rest)
  pub blank_behind : is_blank next ≡ true
  pub sole : Sole 1 64 (fields_of (next ∷ rest)) count
  pub is : entry ≡ Pipelined (record { path = path; count = count })

pipelined_form : (text path rest : List ℕ) (next : ℕ) (entry : PlanEntry) (sole : Option ℕ)
    → string_behind text ≡ Some (path, next ∷ rest) → is_blank next ≡ true
    → sole_number 1 64 (fields_of (next ∷ rest)) ≡ sole → pipelined_entry path sole ≡ Some entry
    → Counted text entry
pipelined_form text path rest next entry None read blank number h = cc
pipelined_form text path rest next entry (Some count) read blank number h = record {
  path = path;
  next = next;
  rest = rest;
  count = count;
  read = read;
  blank_behind = blank;
  sole = sole_form 1 64 (fields_of (next ∷ rest)) count number;
  is = cc;
}

counted_form : (text : List ℕ) (entry : PlanEntry) (string : Option (List ℕ × List ℕ)) → string_behind text ≡ string → counted_entry string ≡ Some entry → Counted text entry
counted_form text entry None read h = cc
counted_form text entry (Some (path, [])) read h = cc
counted_form text entry (Some (path, next ∷ rest)) read h =
    let behind = cond_some (is_blank next) (pipelined_entry path (sole_number 1 64 (fields_of (next ∷ rest)))) entry h in
    pipelined_form text path rest next entry _ read behind.0 refl behind.1

quote_behind : (rest text : List ℕ) → rest ≡ codes "pipeline" ++ 34 ∷ text → (length (codes "pipeline") < length rest → is_blank (get_or rest (length (codes "pipeline")) 0) ≡ true) → ⊥
quote_behind rest text is ends =
    let blank : is_blank 34 ≡ true = subst (λ (r : List ℕ). 8 < length r → is_blank (get_or r 8 0) ≡ true) is ends (omega arith) in
    false≢true blank

pipeline_form : (line : List ℕ) (words : List (List ℕ)) (entry : PlanEntry)
    → fields_of line ≡ codes "pipeline" ∷ words
    → pipeline_entry (after_blanks (drop 8 (after_blanks line))) ≡ Some entry → Says line entry
pipeline_form line words entry fields h =
    let front = unblanked line in
    let rest : List ℕ = after_blanks line in
    let first = field_of rest (codes "pipeline") words (starts line) (same_fields line ∙ fields) in
    let gap = unblanked (drop 8 rest) in
    let quote : List ℕ = after_blanks (drop 8 rest) in
    let opened = cond_some (eqb (get_or quote 0 0) 34) (counted_entry (string_behind (drop 1 quote))) entry h in
    let opens = opening quote opened.0 in
    let counted = counted_form (drop 1 quote) entry (string_behind (drop 1 quote)) refl opened.1 in
    let behind : drop 8 rest ≡ gap.before ++ 34 ∷ drop 1 quote = gap.form ∙ ap (λ l. gap.before ++ l) opens in
    subst (Says line) (sym counted.is) (record {
      before = front.before;
      between = gap.before;
      text = drop 1 quote;
      next = counted.next;
      rest = counted.rest;
      digits = counted.sole.digits;
      blanks = front.blanks;
      blanks_between = gap.blanks;
      some_between = λ none. quote_behind rest (drop 1 quote) (first.form ∙ ap (λ l. codes "pipeline" ++ l) (behind ∙ ap (λ l. l ++ 34 ∷ drop 1 quote) none)) first.ends;
      form = front.form ∙ ap (λ l. front.before ++ l) (first.form ∙ ap (λ l. codes "pipeline" ++ l) behind);
      is_path = read_form (drop 1 quote) counted.path (counted.next ∷ counted.rest) counted.read;
      blank_behind = counted.blank_behind;
      one_field = counted.sole.is;
      is_count = counted.sole.is_count;
    })

-- a word and a count
setting_form : (word line : List ℕ) (words : List (List ℕ)) (least greatest count : ℕ)
    → fields_of line ≡ word ∷ words → sole_number least greatest words ≡ Some count
    → IsSetting word line least greatest count
setting_form word line words least greatest count fields number =
    let sole = sole_form least greatest words count number in
    record { digits = sole.digits; fields = fields ∙ ap (λ l. word ∷ l) sole.is; is_count = sole.is_count }

cycles_form : (line : List ℕ) (words : List (List ℕ)) (entry : PlanEntry) (sole : Option ℕ)
    → fields_of line ≡ codes "cycles" ∷ words → sole_number 1 1024 words ≡ sole → cycles_entry sole ≡ Some entry
    → Says line entry
cycles_form line words entry None fields number h = cc
cycles_form line words entry (Some count) fields number h =
    let is : entry ≡ Cycles count = cc in
    subst (Says line) (sym is) (setting_form (codes "cycles") line words 1 1024 count fields number)

multipliers_form : (line : List ℕ) (words : List (List ℕ)) (entry : PlanEntry) (sole : Option ℕ)
    → fields_of line ≡ codes "multipliers" ∷ words → sole_number 0 64 words ≡ sole
    → multipliers_entry sole ≡ Some entry → Says line entry
multipliers_form line words entry None fields number h = cc
multipliers_form line words entry (Some count) fields number h =
    let is : entry ≡ Multipliers count = cc in
    subst (Says line) (sym is) (setting_form (codes "multipliers") line words 0 64 count fields number)

words_form : (line : List ℕ) (fields : List (List ℕ)) (entry : PlanEntry) → fields_of line ≡ fields → words_entry fields (drop 8 (after_blanks line)) ≡ Some entry → Says line entry
words_form line [] entry is h =
    let passed : entry ≡ Passed = cc in
    subst (Says line) (sym passed) (inl is)
words_form line (word ∷ words) entry is h =
    let text : List ℕ = after_blanks (drop 8 (after_blanks line)) in
    let first : (name : List ℕ) → bytes_eq word name ≡ true → fields_of line ≡ name ∷ words = λ name same. is ∙ ap (λ w. w ∷ words) ((bytes_eq-Decides word name).0 same) in
    ⊎_elim
    (λ one. cycles_form line words entry (sole_number 1 1024 words) (first (codes "cycles") one.0) refl one.1)
    (λ no_cycles. ⊎_elim
    (λ two. multipliers_form line words entry (sole_number 0 64 words) (first (codes "multipliers") two.0) refl two.1)
    (λ no_multipliers.
    let three = cond_some (bytes_eq word (codes "pipeline")) (pipeline_entry text) entry no_multipliers.1 in
    pipeline_form line words entry (first (codes "pipeline") three.0) three.1)
    (cond_cases (bytes_eq word (codes "multipliers")) (multipliers_entry (sole_number 0 64 words)) (cond (bytes_eq word (codes "pipeline")) (pipeline_entry text) None) (Some entry) no_cycles.1))
    (cond_cases (bytes_eq word (codes "cycles")) (cycles_entry (sole_number 1 1024 words))
    (cond (bytes_eq word (codes "multipliers")) (multipliers_entry (sole_number 0 64 words))
    (cond (bytes_eq word (codes "pipeline")) (pipeline_entry text) None)) (Some entry) h)

comment_form : (line : List ℕ) → eqb (get_or line 0 0) 35 ≡ true → line ≡ codes "#" ++ drop 1 line
comment_form [] h = cc
comment_form (b ∷ line) h = ap (λ c. c ∷ line) (eqb-true b 35 h)

-- what is read of a line has its form
pub entry_form : (line : List ℕ) (entry : PlanEntry) → entry_of line ≡ Some entry → Says line entry
entry_form line entry h = ⊎_elim
    (λ comment.
    let passed : entry ≡ Passed = let e = comment.1 in cc in
    subst (Says line) (sym passed) (inr (drop 1 line, comment_form line comment.0)))
    (λ other. words_form line (fields_of line) entry refl other.1)
    (cond_cases (eqb (get_or line 0 0) 35) (Some Passed) (words_entry (fields_of line) (drop 8 (after_blanks line))) (Some entry) h)

-- a count is read
sole_read : (low high : ℕ) (digits : List ℕ) (count : ℕ) → IsCount low high digits count → sole_number low high (digits ∷ []) ≡ Some count
sole_read low high digits count is =
    let above : nat_le low (digits_value 10 digits) ≡ true = let l = is.low in let v = is.value in grind (arith, nat_tests) in
    let below : nat_le (digits_value 10 digits) high ≡ true = let l = is.high in let v = is.value in grind (arith, nat_tests) in
    cond-true (is_number 9 digits && nat_le low (digits_value 10 digits) && nat_le (digits_value 10 digits) high) (Some (digits_value 10 digits)) None
    (and_from (is_number 9 digits && nat_le low (digits_value 10 digits)) (nat_le (digits_value 10 digits) high)
    (and_from (is_number 9 digits) (nat_le low (digits_value 10 digits)) is.short above) below)
    ∙ ap Some is.value

-- a line that begins with `#` has a first field that does
hash_first : (line word : List ℕ) (words : List (List ℕ)) (first : ℕ) → fields_of line ≡ (first ∷ word) ∷ words → first ≢ 35 → eqb (get_or line 0 0) 35 ≡ false
hash_first [] word words first fields other = cc
hash_first (b ∷ line) word words first fields other = by_test (eqb b 35) refl
  where
    by_test : (t : Bool) → eqb b 35 ≡ t → t ≡ false
    by_test false is = refl
    by_test true is =
        let hash = eqb-true b 35 is in
        let cut = field_of (b ∷ line) (first ∷ word) words (λ _. ap is_blank hash) fields in
        let same : b ≡ first = let e = cut.form in cc in
        absurd (other (sym same ∙ hash))

setting_read : (line : List ℕ) (word : List ℕ) (words : List (List ℕ)) (first : ℕ) (entry : Option PlanEntry)
    → fields_of line ≡ (first ∷ word) ∷ words → first ≢ 35
    → words_entry ((first ∷ word) ∷ words) (drop 8 (after_blanks line)) ≡ entry → entry_of line ≡ entry
setting_read line word words first entry fields other read =
    cond-false (eqb (get_or line 0 0) 35) (Some Passed) (words_entry (fields_of line) (drop 8 (after_blanks line))) (hash_first line word words first fields other)
    ∙ ap (λ fs. words_entry fs (drop 8 (after_blanks line))) fields
    ∙ read

blanks_over : (before rest : List ℕ) → AreBlanks before → after_blanks (before ++ rest) ≡ after_blanks rest
blanks_over [] rest blanks = refl
blanks_over (b ∷ before) rest blanks =
    let parts = and_parts (is_blank b) (list_all is_blank before) blanks in
    cond-true (is_blank b) (after_blanks (before ++ rest)) (b ∷ (before ++ rest)) parts.0 ∙ blanks_over before rest parts.1

letter : (word rest : List ℕ) (k : ℕ) → list_all no_blank word ≡ true → k < length word → is_blank (get_or (word ++ rest) k 0) ≡ false
letter [] rest k plain below = absurd (omega arith)
letter (b ∷ word) rest zero plain below = not-true (is_blank b) (and_parts (no_blank b) (list_all no_blank word) plain).0
letter (b ∷ word) rest (suc k) plain below = letter word rest k (and_parts (no_blank b) (list_all no_blank word) plain).1 (omega arith)

pipeline_first : (between text : List ℕ) → AreBlanks between → between ≢ [] → fields_of (codes "pipeline" ++ (between ++ text)) ≡ codes "pipeline" ∷ fields_of (between ++ text)
pipeline_first [] text blanks some = absurd (some refl)
pipeline_first (b ∷ between) text blanks some =
    fields_of-field 8 (codes "pipeline" ++ ((b ∷ between) ++ text)) (omega arith) (omega arith)
    (λ k below. letter (codes "pipeline") ((b ∷ between) ++ text) k refl below)
    (λ inside. (and_parts (is_blank b) (list_all is_blank between) blanks).0)

either_way : {X : Type 0} (t : Bool) (x y : X) → y ≡ x → cond t x y ≡ x
either_way true x y same = refl
either_way false x y same = same

pipeline_read : (line path : List ℕ) (count : ℕ) → IsPipelineLine line path count → entry_of line ≡ Some (Pipelined (record { path = path; count = count }))
pipeline_read line path count says =
    let behind : List ℕ = says.between ++ 34 ∷ says.text in
    let place : after_blanks line ≡ codes "pipeline" ++ behind = ap after_blanks says.form ∙ blanks_over says.before (codes "pipeline" ++ behind) says.blanks in
    let fields : fields_of line ≡ codes "pipeline" ∷ fields_of behind =
    sym (same_fields line) ∙ ap fields_of place
    ∙ pipeline_first says.between (34 ∷ says.text) says.blanks_between says.some_between in
    let gap : after_blanks behind ≡ 34 ∷ says.text = blanks_over says.between (34 ∷ says.text) says.blanks_between in
    setting_read line (drop 1 (codes "pipeline")) (fields_of behind) 112 (Some (Pipelined (record { path = path; count = count }))) fields (λ e. omega (arith, e))
    (
    ap (λ l. pipeline_entry (after_blanks (drop 8 l))) place
    ∙ ap pipeline_entry gap
    ∙ ap counted_entry (form_read says.text path (says.next ∷ says.rest) says.is_path)
    ∙ cond-true (is_blank says.next) (pipelined_entry path (sole_number 1 64 (fields_of (says.next ∷ says.rest)))) None says.blank_behind
    ∙ ap (λ fs. pipelined_entry path (sole_number 1 64 fs)) says.one_field
    ∙ ap (pipelined_entry path) (sole_read 1 64 says.digits count says.is_count)
    )

-- a form is read
pub form_entry : (line : List ℕ) (entry : PlanEntry) → Says line entry → entry_of line ≡ Some entry
form_entry line Passed (inl none) =
    either_way (eqb (get_or line 0 0) 35) (Some Passed) (words_entry (fields_of line) (drop 8 (after_blanks line))) (ap (λ fs. words_entry fs (drop 8 (after_blanks line))) none)
form_entry line Passed (inr (comment, is)) = ap entry_of is
form_entry line (Cycles count) says =
    setting_read line (drop 1 (codes "cycles")) (says.digits ∷ []) 99 (Some (Cycles count)) says.fields (λ e. omega (arith, e))
    (ap cycles_entry (sole_read 1 1024 says.digits count says.is_count))
form_entry line (Multipliers count) says =
    setting_read line (drop 1 (codes "multipliers")) (says.digits ∷ []) 109 (Some (Multipliers count)) says.fields (λ e. omega (arith, e))
    (ap multipliers_entry (sole_read 0 64 says.digits count says.is_count))
form_entry line (Pipelined pipeline) says = pipeline_read line pipeline.path pipeline.count says
