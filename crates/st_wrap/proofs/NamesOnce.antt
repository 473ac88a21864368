-- No name is declared or driven twice in the wrapper.
use Rattle.std.proofs.Common.{◌≡◌, ℕ, zero, suc, ◌+◌, ◌-◌, ◌<◌, ◌≤◌, ⊎_elim, Bool, true, false, not, ◌&&◌, List, [], ◌∷◌, ◌++◌, map, flat_map, length, take, drop, Contains, bytes_eq, refl, sym, ap}
use Rattle.std.proofs.Common.{subst, ◌∙◌, arith, length-drop}
use Rattle.std.specs.List.{AllByRecursion, IsDistinct, list_any, range_with_len, zip}
use Rattle.std.proofs.lemmas.Bool.{and_parts, false≢true, not-true, or_parts}
use Rattle.std.proofs.lemmas.List.{map-append, take-append-drop}
use Rattle.std.proofs.lemmas.List.Concat.{flat_map-append}
use Rattle.std.proofs.lemmas.List.Elements.{Contains-append_left, Contains-append_right}
use Rattle.std.proofs.lemmas.Slice.Eq.{bytes_eq-Decides}
use Rattle.vl_ast.specs.declared.modules.ModItem.{ModItem}
use Rattle.vl_ast.specs.declared.modules.Module.{Module}
use Rattle.vl_ast.specs.Driven.{output_ports, stimulus_ports}
use Rattle.vl_ast.specs.Nets.{Mention, Declares, Drives, Reads, Clocks, item_mentions}
use Rattle.math_list.proofs.Elements.{cons-cases, from-map, map-in, none-in}
use Rattle.vl_ast.specs.Attributes.{clocks_of}
use Rattle.st_wrap.specs.declared.columns.Column.{Column}
use Rattle.st_wrap.specs.Header.{named_inputs, named_outputs}
use Rattle.st_wrap.specs.Names.{AreColumnNames, IsColumnName}
use Rattle.st_wrap.specs.Pace.{latest_in}
use Rattle.st_wrap.specs.inner.Columns.{input_column, output_column}
use Rattle.st_wrap.specs.inner.Names.{inner_name}
use Rattle.st_wrap.specs.inner.CoreNames.{renamed_item}
use Rattle.st_wrap.specs.inner.Wrapper.{inputs_of, outputs_of}
use Rattle.st_wrap.proofs.Apart.{Apart, declared_names, driven_names}
use Rattle.st_wrap.proofs.Letters.{latest-bound}
use Rattle.st_wrap.proofs.NameReads.{item-renamed, renamed_mention}

-- ---- names of items

-- the names that items declare, and those that they drive
abbrev pub declared_in : List ModItem → List (List ℕ)
declared_in items = flat_map declared_names (flat_map item_mentions items)

abbrev pub driven_in : List ModItem → List (List ℕ)
driven_in items = flat_map driven_names (flat_map item_mentions items)

module _ (names_of : Mention → List (List ℕ)) where
  pub names-append : (xs ys : List ModItem) → flat_map names_of (flat_map item_mentions (xs ++ ys)) ≡ flat_map names_of (flat_map item_mentions xs) ++ flat_map names_of (flat_map item_mentions ys)
  names-append xs ys = ap (flat_map names_of) (flat_map-append item_mentions xs ys) ∙ flat_map-append names_of (flat_map item_mentions xs) (flat_map item_mentions ys)

  -- items made of others
  pub names-flat : {A : Type 0} (f : A → List ModItem) (g : A → List (List ℕ)) (xs : List A) → ((x : A) → flat_map names_of (flat_map item_mentions (f x)) ≡ g x)
      → flat_map names_of (flat_map item_mentions (flat_map f xs)) ≡ flat_map g xs
  names-flat f g [] each = refl
  names-flat f g (x ∷ xs) each = names-append (f x) (flat_map f xs) ∙ (λ i. each x i ++ names-flat f g xs each i)

  pub names-map : {A : Type 0} (f : A → ModItem) (g : A → List (List ℕ)) (xs : List A) → ((x : A) → flat_map names_of (item_mentions (f x)) ≡ g x)
      → flat_map names_of (flat_map item_mentions (map f xs)) ≡ flat_map g xs
  names-map f g [] each = refl
  names-map f g (x ∷ xs) each = flat_map-append names_of (item_mentions (f x)) (flat_map item_mentions (map f xs)) ∙ (λ i. each x i ++ names-map f g xs each i)

pub flat-empty : {A B : Type 0} (xs : List A) → flat_map (λ (x : A). let none : List B = [] in none) xs ≡ []
flat-empty [] = refl
flat-empty (x ∷ xs) = flat-empty xs

pub map-twice : {A B C : Type 0} (g : B → C) (f : A → B) (xs : List A) → map g (map f xs) ≡ map (λ x. g (f x)) xs
map-twice g f [] = refl
map-twice g f (x ∷ xs) = ap (λ ys. g (f x) ∷ ys) (map-twice g f xs)

-- the core's names by those that they have
pub declared-renamed : (xs : List Mention) → flat_map declared_names (map renamed_mention xs) ≡ map inner_name (flat_map declared_names xs)
declared-renamed [] = refl
declared-renamed (Declares d ∷ xs) = ap (λ ys. inner_name d.name ∷ ys) (declared-renamed xs)
declared-renamed (Drives c n ∷ xs) = declared-renamed xs
declared-renamed (Reads n ∷ xs) = declared-renamed xs
declared-renamed (Clocks ∷ xs) = declared-renamed xs

pub driven-renamed : (xs : List Mention) → flat_map driven_names (map renamed_mention xs) ≡ map inner_name (flat_map driven_names xs)
driven-renamed [] = refl
driven-renamed (Declares d ∷ xs) = driven-renamed xs
driven-renamed (Drives c n ∷ xs) = ap (λ ys. inner_name n ∷ ys) (driven-renamed xs)
driven-renamed (Reads n ∷ xs) = driven-renamed xs
driven-renamed (Clocks ∷ xs) = driven-renamed xs

pub items-renamed : (items : List ModItem) → flat_map item_mentions (map renamed_item items) ≡ map renamed_mention (flat_map item_mentions items)
items-renamed [] = refl
items-renamed (i ∷ items) = (λ k. item-renamed i k ++ items-renamed items k) ∙ sym (map-append renamed_mention (item_mentions i) (flat_map item_mentions items))

-- ---- tests on names written out

abbrev pub all_differ : List (List ℕ) → Bool
all_differ [] = true
all_differ (x ∷ xs) = not (list_any (bytes_eq x) xs) && all_differ xs

none-equal : (x : List ℕ) (xs : List (List ℕ)) → list_any (bytes_eq x) xs ≡ false → Contains xs x → ⊥
none-equal x [] e h = none-in x h
none-equal x (y ∷ xs) e h =
    let p = or_parts (bytes_eq x y) (list_any (bytes_eq x) xs) e in
    ⊎_elim (λ s. false≢true (sym p.0 ∙ (bytes_eq-Decides x y).1 (sym s))) (λ t. none-equal x xs p.1 t) (cons-cases y x xs h)

pub by-test : (xs : List (List ℕ)) → all_differ xs ≡ true → Apart xs
by-test [] e = tt
by-test (x ∷ xs) e =
    let p = and_parts (not (list_any (bytes_eq x) xs)) (all_differ xs) e in
    (none-equal x xs (not-true (list_any (bytes_eq x) xs) p.0), by-test xs p.1)

-- names that differ by their test are apart
apart-distinct : (xs : List (List ℕ)) → IsDistinct bytes_eq xs → Apart xs
unfolding IsDistinct
apart-distinct [] d = tt
apart-distinct (x ∷ xs) d = (not-in xs d.0, apart-distinct xs d.1) where
  not-in : (ys : List (List ℕ)) → AllByRecursion (λ y. bytes_eq x y ≡ false) ys → Contains ys x → ⊥
  not-in [] a h = none-in x h
  not-in (y ∷ ys) a h = ⊎_elim (λ s. false≢true (sym a.0 ∙ (bytes_eq-Decides x y).1 (sym s))) (λ t. not-in ys a.1 t) (cons-cases y x ys h)

-- ---- a fact of each element of a list that is written out

abbrev pub Each : {A : Type 0} → (A → Type 0) → List A → Type 0
Each P [] = Unit {0}
Each P (x ∷ xs) = P x × Each P xs

pub in-each : {A : Type 0} (P : A → Type 0) (xs : List A) → Each P xs → (x : A) → Contains xs x → P x
in-each P [] e x h = absurd (none-in x h)
in-each P (y ∷ ys) e x h = ⊎_elim (λ s. subst P s e.0) (λ t. in-each P ys e.1 x t) (cons-cases y x ys h)

-- ---- ranges

pub in-range : (start count k : ℕ) → Contains (range_with_len start count) k → (start ≤ k) × (k < start + count)
in-range start zero k h = absurd (none-in k h)
in-range start (suc count) k h = ⊎_elim
    (λ e. (omega (arith, e), omega (arith, e)))
    (λ t. let r = in-range (start + 1) count k t in let a = r.0 in let b = r.1 in (omega (arith, a), omega (arith, b)))
    (cons-cases start k (range_with_len (start + 1) count) h)

pub apart-range : (start count : ℕ) → Apart (range_with_len start count)
apart-range start zero = tt
apart-range start (suc count) = ((λ h. let r = in-range (start + 1) count start h in let a = r.0 in omega (arith, a)), apart-range (start + 1) count)

-- ---- columns

abbrev pub column_name : Column → List ℕ
column_name column = column.name

seconds : {A B : Type 0} (xs : List A) (ys : List B) → length xs ≤ length ys → map (λ (p : A × B). p.1) (zip xs ys) ≡ take (length xs) ys
seconds [] ys h = refl
seconds (x ∷ xs) [] h = absurd (omega (arith, h))
seconds (x ∷ xs) (y ∷ ys) h = ap (λ zs. y ∷ zs) (seconds xs ys (omega (arith, h)))

pub all-seconds : {A B : Type 0} (xs : List A) (ys : List B) → length xs ≡ length ys → map (λ (p : A × B). p.1) (zip xs ys) ≡ ys
all-seconds [] [] h = refl
all-seconds [] (y ∷ ys) h = absurd (omega (arith, h))
all-seconds (x ∷ xs) [] h = absurd (omega (arith, h))
all-seconds (x ∷ xs) (y ∷ ys) h = ap (λ zs. y ∷ zs) (all-seconds xs ys (omega (arith, h)))

module _ (core : Module) (names : List (List ℕ)) (named : AreColumnNames core names) where
  pub column-names : map column_name (inputs_of core names) ++ map column_name (outputs_of core names) ≡ names
  column-names =
      let n : ℕ = length (stimulus_ports core) in
      let count = named.count in
      let cut : length (drop (length (stimulus_ports core)) names) ≡ length names - length (stimulus_ports core) = length-drop (length (stimulus_ports core)) names in
      let ins = map-twice column_name input_column (named_inputs core names) ∙ seconds (stimulus_ports core) names (omega (arith, count)) in
      let outs = map-twice column_name (output_column (clocks_of core) (latest_in core)) (named_outputs core names)
      ∙ all-seconds (output_ports core) (drop (length (stimulus_ports core)) names) (omega (arith, count, cut)) in
      (λ i. ins i ++ outs i) ∙ take-append-drop (length (stimulus_ports core)) names

  pub columns-apart : Apart (map column_name (inputs_of core names) ++ map column_name (outputs_of core names))
  columns-apart = subst (λ xs. Apart xs) (sym column-names) (apart-distinct names named.differ)

  pub is-name : (n : List ℕ) → Contains (map column_name (inputs_of core names) ++ map column_name (outputs_of core names)) n → IsColumnName n
  is-name n h =
      let c = subst (λ xs. Contains xs n) column-names h in
      subst IsColumnName c.2 (named.each c.0 n c.1)

  pub input-name : (column : Column) → Contains (inputs_of core names) column → IsColumnName column.name
  input-name column c = is-name column.name
      (Contains-append_left (map column_name (inputs_of core names))
      (map column_name (outputs_of core names)) column.name
      (map-in column_name (inputs_of core names) column c))

  pub output-name : (column : Column) → Contains (outputs_of core names) column → IsColumnName column.name
  output-name column c = is-name column.name
      (Contains-append_right (map column_name (inputs_of core names))
      (map column_name (outputs_of core names)) column.name
      (map-in column_name (outputs_of core names) column c))

  pub late-small : (column : Column) → Contains (outputs_of core names) column → column.late ≤ 16777216
  late-small column c =
      let r = from-map (output_column (clocks_of core) (latest_in core)) (named_outputs core names) column c in
      let b = latest-bound core in
      subst (λ (x : Column). x.late ≤ 16777216) r.2 (omega (arith, b))
