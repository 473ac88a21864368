-- The wrapper is clocked, and its ports carry what they must.
use Rattle.std.proofs.Common.{◌≡◌, ◌≢◌, ℕ, ◌==◌, nat_le, Bool, true, false, ◌&&◌, ◌||◌, if◌then◌else◌, List, [], ◌∷◌, ◌++◌, map, flat_map, find, Contains, bytes_eq, codes, Some, None, refl, sym, ap}
use Rattle.std.proofs.Common.{subst, ◌∙◌, arith}
use Rattle.std.specs.Prelude.{option_map}
use Rattle.std.specs.List.{list_any, range_with_len}
use Rattle.std.proofs.lemmas.Bool.{cond-false, eqb-false}
use Rattle.std.proofs.lemmas.List.Elements.{Contains-append_right}
use Rattle.std.proofs.lemmas.List.Folds.{list_any-append}
use Rattle.vl_ast.specs.declared.modules.ModItem.{ModItem}
use Rattle.vl_ast.specs.declared.modules.ModItem.TheVariants.{Wire, Reg, Assign, Always}
use Rattle.vl_ast.specs.declared.modules.Port.{Port}
use Rattle.vl_ast.specs.declared.modules.Module.{Module}
use Rattle.vl_ast.specs.Conditions.{BreaksNone, is_clk_at_fault, is_read_of, is_reset_at_fault, lacks_attribute, no_attribute, no_reset}
use Rattle.vl_ast.specs.Control.{is_stallable}
use Rattle.vl_ast.specs.Header.{bit_input, input_port, output_port}
use Rattle.vl_ast.specs.Nets.{Mention, Declares, Drives, Reads, Clocks, item_mentions, mentions, place_of, port_declared}
use Rattle.math_list.proofs.Elements.{head-in, tail-in}
use Rattle.st_wrap.specs.declared.columns.Column.{Column}
use Rattle.st_wrap.specs.declared.pace.Counters.{Counters}
use Rattle.st_wrap.specs.Header.{flag, row_port}
use Rattle.st_wrap.specs.Names.{AreColumnNames, own_names}
use Rattle.st_wrap.specs.inner.Columns.{column_port, stage_name}
use Rattle.st_wrap.specs.inner.Names.{inner_name, late_name}
use Rattle.st_wrap.specs.inner.Wrapper.{declared_items, inputs_of, outputs_of, ports_of, wrapped}
use Rattle.st_wrap.proofs.OneRun.{clk-unread}
use Rattle.st_wrap.proofs.Letters.{inner-letter, inner-same, letter}
use Rattle.st_wrap.proofs.NamesOnce.{input-name}
use Rattle.st_wrap.proofs.NamePlaces.{DeclareAlone, core_part, declared-alone, declared_part, helds, late_mentions, lates, mentions-are, output-of, ports_part}
use Rattle.st_wrap.proofs.NameReads.{control_mentions, held_mentions, renamed_mention, stage_mentions}
use Rattle.math_list.proofs.Tests.{and_false, unequal}

abbrev clk : List ℕ
clk = codes "clk"

-- ---- nothing reads the clock

module _ {A : Type 0} (test : A → Bool) where
  none-append : (xs ys : List A) → list_any test xs ≡ false → list_any test ys ≡ false → list_any test (xs ++ ys) ≡ false
  none-append xs ys e f = list_any-append test xs ys ∙ (λ i. e i || f i)

  none-flat : {B : Type 0} (g : B → List A) (bs : List B) → ((b : B) → Contains bs b → list_any test (g b) ≡ false) → list_any test (flat_map g bs) ≡ false
  none-flat g [] each = refl
  none-flat g (b ∷ bs) each = none-append (g b) (flat_map g bs) (each b (head-in b bs)) (none-flat g bs (λ c h. each c (tail-in b c bs h)))

abbrev clocked_read : Mention → Bool
clocked_read = is_read_of clk

ports-none : (ports : List Port) → list_any clocked_read (map (λ port. Declares (port_declared port)) ports) ≡ false
ports-none [] = refl
ports-none (port ∷ ports) = ports-none ports

alone-none : (items : List ModItem) → DeclareAlone items → list_any clocked_read (flat_map item_mentions items) ≡ false
alone-none [] a = refl
alone-none (Wire signed width name ∷ items) a = alone-none items a.1
alone-none (Reg signed width name ∷ items) a = alone-none items a.1
alone-none (Assign name value ∷ items) a = absurd a.0
alone-none (Always name first condition value ∷ items) a = absurd a.0

renamed-none : (xs : List Mention) → ((n : List ℕ) → Contains xs (Reads n) → n ≢ clk) → list_any clocked_read (map renamed_mention xs) ≡ false
renamed-none [] other = refl
renamed-none (Declares d ∷ xs) other = renamed-none xs (λ n h. other n (tail-in (Declares d) (Reads n) xs h))
renamed-none (Drives c m ∷ xs) other = renamed-none xs (λ n h. other n (tail-in (Drives c m) (Reads n) xs h))
renamed-none (Clocks ∷ xs) other = renamed-none xs (λ n h. other n (tail-in Clocks (Reads n) xs h))
renamed-none (Reads m ∷ xs) other =
    let differs : inner_name m ≢ clk = λ e. other m (head-in (Reads m) xs) (inner-same m clk e) in
    (λ i. unequal (inner_name m) clk differs i || renamed-none xs (λ n h. other n (tail-in (Reads m) (Reads n) xs h)) i)

-- a name with a letter isn't the clock
lettered : (n : List ℕ) (x : ℕ) → letter n ≡ x → (x == 0) ≡ false → bytes_eq n clk ≡ false
lettered n x l some = unequal n clk (λ e. eqb-false x 0 some (sym l ∙ ap letter e))

module _ (core : Module) (sound : BreaksNone core) (stallable : is_stallable core ≡ true) (names : List (List ℕ)) (named : AreColumnNames core names) (counters : Counters) where
  input-other : (column : Column) → Contains (inputs_of core names) column → bytes_eq column.name clk ≡ false
  input-other column c = unequal column.name clk (λ e. (input-name core names named column c).free (subst (λ n. Contains own_names n) (sym e) (0, omega arith, refl)))

  held-none : (column : Column) → Contains (inputs_of core names) column → list_any clocked_read (held_mentions column) ≡ false
  held-none column c = let e = input-other column c in (λ i. e i || (e i || false))

  stage-other : (column : Column) → Contains (outputs_of core names) column → (k : ℕ) → bytes_eq (stage_name column k) clk ≡ false
  stage-other column c k = by (k == 0) where
    inner : bytes_eq (inner_name column.inner) clk ≡ false
    inner = let p = output-of core sound stallable names named counters column c in
        lettered (inner_name column.inner) 99 (subst (λ n. letter (inner_name n) ≡ 99) p.3 (inner-letter p.0.name p.2)) refl

    by : (b : Bool) → bytes_eq (if b then inner_name column.inner else late_name column.name k) clk ≡ false
    by true = inner
    by false = lettered (late_name column.name k) 108 refl refl

  late-none : (column : Column) → Contains (outputs_of core names) column → list_any clocked_read (late_mentions column) ≡ false
  late-none column c =
      none-append clocked_read (flat_map (stage_mentions column) (range_with_len 0 column.late)) (Drives false column.name ∷ Reads (stage_name column column.late) ∷ [])
      (none-flat clocked_read (stage_mentions column) (range_with_len 0 column.late) (λ place h. let e = stage-other column c place in (λ i. e i || false)))
      (let e = stage-other column c column.late in (λ i. e i || false))

  reads-none : list_any clocked_read (mentions (wrapped core names counters)) ≡ false
  reads-none = ap (list_any clocked_read) (mentions-are core sound stallable names named counters)
      ∙ none-append clocked_read (ports_part core names)
      (declared_part core names counters ++ (core_part core
      ++ (control_mentions ++ (helds core names ++ lates core names))))
      (ports-none (ports_of (inputs_of core names) (outputs_of core names)))
      (none-append clocked_read (declared_part core names counters) (core_part core ++ (control_mentions ++ (helds core names ++ lates core names)))
      (alone-none (declared_items core counters (inputs_of core names) (outputs_of core names)) (declared-alone core sound stallable names named counters))
      (none-append clocked_read (core_part core) (control_mentions ++ (helds core names ++ lates core names))
      (renamed-none (flat_map item_mentions core.items) (λ n h. clk-unread core sound n (in-core n h)))
      (none-append clocked_read control_mentions (helds core names ++ lates core names) refl
      (none-append clocked_read (helds core names) (lates core names) (none-flat clocked_read held_mentions (inputs_of core names) held-none)
      (none-flat clocked_read late_mentions (outputs_of core names) late-none)))))
    where
      in-core : (n : List ℕ) → Contains (flat_map item_mentions core.items) (Reads n) → Contains (mentions core) (Reads n)
      in-core n h = Contains-append_right (map (λ port. Declares (port_declared port)) core.ports) (flat_map item_mentions core.items) (Reads n) h

  pub clocked : no_reset (wrapped core names counters) ≡ None
  clocked =
      let o : Module = wrapped core names counters in
      let c : is_clk_at_fault (wrapped core names counters) ≡ false = reads-none in
      let r : is_reset_at_fault (wrapped core names counters) ≡ false = refl in
      (λ i. if c i && r i then Some (if nat_le (place_of o (codes "clk")) (place_of o (codes "reset")) then codes "clk" else codes "reset")
      else (if c i then Some (codes "clk") else (if r i then Some (codes "reset") else None)))

-- ---- attributes

module _ {A : Type 0} (test : A → Bool) where
  found-none : (x : A) (xs : List A) → test x ≡ false → find test xs ≡ None → find test (x ∷ xs) ≡ None
  found-none x xs e f = cond-false (test x) (Some x) (find test xs) e ∙ f

  found-append : (xs ys : List A) → find test xs ≡ None → find test ys ≡ None → find test (xs ++ ys) ≡ None
  found-append [] ys e f = f
  found-append (x ∷ xs) ys e f = by (test x) refl e (found-append xs ys) where
    by : (b : Bool) → test x ≡ b → (if b then Some x else find test xs) ≡ None → (find test xs ≡ None → find test ys ≡ None → find test (xs ++ ys) ≡ None)
        → (if test x then Some x else find test (xs ++ ys)) ≡ None
    by true t e rest = absurd (cc e)
    by false t e rest = cond-false (test x) (Some x) (find test (xs ++ ys)) t ∙ rest e f

  found-map : {B : Type 0} (g : B → A) (bs : List B) → ((b : B) → test (g b) ≡ false) → find test (map g bs) ≡ None
  found-map g [] each = refl
  found-map g (b ∷ bs) each = found-none (g b) (map g bs) (each b) (found-map g bs each)

lacks-clock : (stalls : Bool) → (lacks_attribute stalls (bit_input (codes "clk")) ≡ false) × (lacks_attribute stalls (bit_input (codes "reset")) ≡ false)
lacks-clock true = (refl, refl)
lacks-clock false = (refl, refl)

lacks-input : (stalls : Bool) (name : List ℕ) (width : ℕ) (signed : Bool) → lacks_attribute stalls (input_port (row_port name width signed)) ≡ false
lacks-input stalls name width signed = and_false _

lacks-output : (stalls : Bool) (name : List ℕ) (width : ℕ) (signed : Bool) → lacks_attribute stalls (output_port (row_port name width signed)) ≡ false
lacks-output stalls name width signed = and_false _

pub attributed : (core : Module) (names : List (List ℕ)) (counters : Counters) → no_attribute (wrapped core names counters) ≡ None
attributed core names counters =
    let s : Bool = is_stallable (wrapped core names counters) in
    let ins : List Port = map (λ column. input_port (column_port column)) (inputs_of core names) in
    let outs : List Port = map (λ column. output_port (column_port column)) (outputs_of core names) in
    let after3 : List Port = output_port (flag (codes "out_valid")) ∷ outs in
    let after2 : List Port = output_port (flag (codes "in_ready")) ∷ after3 in
    let after1 : List Port = input_port (flag (codes "out_ready")) ∷ after2 in
    let behind : List Port = ins ++ after1 in
    ap (option_map (λ (port : Port). port.name))
    (found-none (lacks_attribute s) (bit_input (codes "clk")) (bit_input (codes "reset") ∷ input_port (flag (codes "in_valid")) ∷ behind) (lacks-clock s).0
    (found-none (lacks_attribute s) (bit_input (codes "reset")) (input_port (flag (codes "in_valid")) ∷ behind) (lacks-clock s).1
    (found-none (lacks_attribute s) (input_port (flag (codes "in_valid"))) behind (lacks-input s (codes "in_valid") 1 false)
    (found-append (lacks_attribute s) ins after1
    (found-map (lacks_attribute s) (λ column. input_port (column_port column)) (inputs_of core names)
    (λ column. lacks-input s column.name column.width column.signed))
    (found-none (lacks_attribute s) (input_port (flag (codes "out_ready"))) after2 (lacks-input s (codes "out_ready") 1 false)
    (found-none (lacks_attribute s) (output_port (flag (codes "in_ready"))) after3 (lacks-output s (codes "in_ready") 1 false)
    (found-none (lacks_attribute s) (output_port (flag (codes "out_valid"))) outs (lacks-output s (codes "out_valid") 1 false)
    (found-map (lacks_attribute s) (λ column. output_port (column_port column)) (outputs_of core names) (λ column. lacks-output s column.name column.width column.signed)))))))))
