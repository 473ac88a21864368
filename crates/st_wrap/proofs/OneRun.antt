-- Two runs of a module that are reset, and have the same inputs from then on, show the same from then on. Nothing
-- reads `clk`, so its bits don't count.
use Rattle.std.proofs.Common.{◌≡◌, ◌≢◌, ◌<◌, ◌≤◌, ◌+◌, ◌%◌, ◌^◌, ⊎_elim, ℕ, zero, suc, max, nat_le, Bool, true, false, not, if◌then◌else◌, ◌==◌, List, ◌++◌, Contains, bytes_eq, codes, Option, Some}
use Rattle.std.proofs.Common.{None, refl, sym, ap, subst, ◌∙◌, arith}
use Rattle.std.specs.List.{list_any}
use Rattle.std.proofs.lemmas.Bool.{cases_Bool, cond-true, cond-false, eq-eqb, false≢true, not-false, or_parts}
use Rattle.std.proofs.lemmas.List.Elements.{Contains-append_left, Contains-append_right}
use Rattle.std.proofs.lemmas.List.Folds.{list_any-from_Any}
use Rattle.std.proofs.lemmas.Slice.Eq.{bytes_eq-Decides}
use Rattle.vl_ast.specs.declared.expressions.Sized.{Sized}
use Rattle.vl_ast.specs.declared.expressions.Expr.{Expr}
use Rattle.vl_ast.specs.declared.modules.ModItem.TheVariants.{Reg, Assign, Always}
use Rattle.vl_ast.specs.declared.modules.Port.{Port}
use Rattle.vl_ast.specs.declared.modules.Module.{Module}
use Rattle.vl_ast.specs.Conditions.{BreaksNone, is_clk_at_fault, is_read_of, is_reset_at_fault, may_drive, may_drive_it}
use Rattle.vl_ast.specs.Context.{own_length, is_signed}
use Rattle.vl_ast.specs.Control.{is_bit_input}
use Rattle.vl_ast.specs.Nets.{Declared, Declares, Drives, InputPort, OutputPort, Reads, Register, condition_names, declaration_of, declarations, mentions, names_read, nets_of, place_of, port_declared}
use Rattle.vl_ast.specs.Room.{AreSame}
use Rattle.vl_ast.specs.Runs.{Row, Rows, Runs, next_bits, takes_value}
use Rattle.vl_ast.specs.Value.{assigned, assigned_number}
use Rattle.vl_ast.proofs.Agree.{values-agree}
use Rattle.vl_ast.proofs.Alone.{reset-port}
use Rattle.vl_ast.proofs.Facts.{ByAlways, Driver, always-drives, assign-drives, driven-declared, driver-of, has-driver, in-port, is-declared, may-drive, mention-listed, read-declared, reads-of-always}
use Rattle.vl_ast.proofs.Facts.{reads-of-assign, reg-declared}
use Rattle.vl_ast.proofs.GatesSound.{neither}
use Rattle.vl_ast.proofs.Layers.{value_by_layer}
use Rattle.vl_ast.proofs.StallFree.{bit-port}
use Rattle.math_list.proofs.Tests.{unequal}

-- the law of a lower crate that a module has one list of rows
abbrev pub OneRun : Type 0
OneRun = (m : Module) (count : ℕ) (start : List ℕ → ℕ) (inputs rows other : ℕ → List ℕ → ℕ) →
    BreaksNone m → Runs m count start inputs rows → Runs m count start inputs other → AreSame m count rows other

abbrev clk : List ℕ
clk = codes "clk"

module _ (m : Module) (sound : BreaksNone m) where
  faults : (is_clk_at_fault m ≡ false) × (is_reset_at_fault m ≡ false)
  faults = neither (if nat_le (place_of m (codes "clk")) (place_of m (codes "reset")) then codes "clk" else codes "reset") (is_clk_at_fault m) (is_reset_at_fault m) sound.clocked

  clk-parts : (not (list_any (is_bit_input clk) m.ports) ≡ false) × (list_any (is_read_of clk) (mentions m) ≡ false)
  clk-parts = or_parts (not (list_any (is_bit_input clk) m.ports)) (list_any (is_read_of clk) (mentions m)) faults.0

  abbrev ClkPort : Type 0
  ClkPort = (port : Port) × Contains m.ports port × (port.name ≡ clk) × (port.input ≡ true) × (port.width ≡ 1) × (port.signed ≡ false)

  pub clk-port : ClkPort
  clk-port = bit-port clk m.ports (not-false (list_any (is_bit_input clk) m.ports) clk-parts.0)

  pub clk-unread : (name : List ℕ) → Contains (mentions m) (Reads name) → name ≢ clk
  clk-unread name h e =
      let seen : list_any (is_read_of clk) (mentions m) ≡ true =
      list_any-from_Any (is_read_of clk) (mentions m) (h.0, Reads name, h.1, h.2, (bytes_eq-Decides name clk).1 e) in
      absurd (false≢true (sym clk-parts.1 ∙ seen))

  clk-declared : declaration_of m clk ≡ Some (port_declared clk-port.0)
  clk-declared = subst (λ n. declaration_of m n ≡ Some (port_declared clk-port.0)) clk-port.2
      (is-declared m sound.acyclic.driven sound.acyclic.once (port_declared clk-port.0) (in-port m sound.acyclic.driven sound.acyclic.once clk-port.0 clk-port.1))

  not-driven-input : (c : Bool) → may_drive c InputPort ≡ true → ⊥
  not-driven-input true e = absurd (cc e)
  not-driven-input false e = absurd (cc e)

  clk-undriven : (c : Bool) (name : List ℕ) → Contains (mentions m) (Drives c name) → name ≢ clk
  clk-undriven c name h e =
      let may = may-drive m sound.acyclic.driven sound.acyclic.once c name h in
      let found : declaration_of m name ≡ Some (port_declared clk-port.0) = ap (declaration_of m) e ∙ clk-declared in
      let kind : may_drive c (if clk-port.0.input then InputPort else OutputPort) ≡ true = sym (ap (may_drive_it c) found) ∙ may in
      not-driven-input c (sym (ap (λ (b : Bool). may_drive c (if b then InputPort else OutputPort)) clk-port.3) ∙ kind)

  -- ---- rows that show the same but `clk`

  pub record AreAlike (row other : Row) : Type 0 where
    pub at : (d : Declared) → Contains (mentions m) (Declares d) → d.name ≢ clk → row d.name ≡ other d.name

  module _ (row other : Row) (alike : AreAlike row other) where
    read-same : (name : List ℕ) → Contains (mentions m) (Reads name) → row name ≡ other name
    read-same name h =
        let d = read-declared m sound.acyclic.driven sound.acyclic.once name h in
        subst (λ n. row n ≡ other n) d.2 (alike.at d.0 d.1 (λ e. clk-unread name h (sym d.2 ∙ e)))

    reset-same : row (codes "reset") ≡ other (codes "reset")
    reset-same =
        let p = reset-port m sound.clocked in
        subst (λ n. row n ≡ other n) p.2 (alike.at (port_declared p.0) (in-port m sound.acyclic.driven sound.acyclic.once p.0 p.1)
        (λ e. false≢true ((bytes_eq-Decides (codes "reset") clk).1 (sym p.2 ∙ e))))

    takes-same : (condition : Option Expr) → ((x : List ℕ) → Contains (condition_names condition) x → row x ≡ other x) → takes_value m row condition ≡ takes_value m other condition
    takes-same None same = refl
    takes-same (Some e) same = ap (λ v. not (v == 0)) (values-agree value_by_layer (nets_of m) row other e (own_length (nets_of m) e) (is_signed (nets_of m) e) same)

    next-same : (name : List ℕ) (first : Sized) (condition : Option Expr) (value : Expr) → Contains m.items (Always name first condition value)
        → next_bits m row name first condition value ≡ next_bits m other name first condition value
    next-same name first condition value h =
        let drives = always-drives m sound.acyclic.driven sound.acyclic.once name first condition value h in
        let d = driven-declared m sound.acyclic.driven sound.acyclic.once true name drives in
        let own : row name ≡ other name = subst (λ n. row n ≡ other n) d.2 (alike.at d.0 d.1 (λ e. clk-undriven true name drives (sym d.2 ∙ e))) in
        let read : (x : List ℕ) → Contains (condition_names condition ++ names_read value) x → row x ≡ other x =
        λ x c. read-same x (reads-of-always m sound.acyclic.driven sound.acyclic.once name x first condition value h c) in
        let takes = takes-same condition (λ x c. read x (Contains-append_left (condition_names condition) (names_read value) x c)) in
        let w : ℕ = (nets_of m name).width in
        let gives : assigned (nets_of m) row w value ≡ assigned (nets_of m) other w value =
        ap (λ n. n % 2 ^ w) (values-agree value_by_layer (nets_of m) row other value (max w (own_length (nets_of m) value)) (is_signed (nets_of m) value)
        (λ x c. read x (Contains-append_right (condition_names condition) (names_read value) x c))) in
        (λ i. if reset-same i == 1 then assigned_number w first else (if takes i then gives i else own i))

  -- ---- one row

  -- a row that each name fits, and in which each wire and output has its assignment's value
  pub record Holds (row : Row) : Type 0 where
    pub fits : (d : Declared) → Contains (declarations m) d → row d.name < 2 ^ d.net.width
    pub assigns : (name : List ℕ) (value : Expr) → Contains m.items (Assign name value) → row name ≡ assigned (nets_of m) row (nets_of m name).width value

  module _ (one : OneRun) (row other : Row) (a : Holds row) (b : Holds other)
      (registers : (signed : Bool) (width : ℕ) (name : List ℕ) → Contains m.items (Reg signed width name) → row name ≡ other name)
      (ports : (port : Port) → Contains m.ports port → port.input ≡ true → port.name ≢ clk → row port.name ≡ other port.name) where
    -- the other row with this one's `clk`
    patched : Row
    patched name = if bytes_eq name clk then row name else other name

    at-clk : (name : List ℕ) → name ≡ clk → patched name ≡ row name
    unfolding patched
    at-clk name e = cond-true (bytes_eq name clk) (row name) (other name) ((bytes_eq-Decides name clk).1 e)

    not-clk : (name : List ℕ) → name ≢ clk → patched name ≡ other name
    unfolding patched
    not-clk name e = cond-false (bytes_eq name clk) (row name) (other name) (unequal name clk e)

    patch-cases : (P : ℕ → Type 0) (name : List ℕ) → P (row name) → P (other name) → P (patched name)
    patch-cases P name p q = ⊎_elim
        (λ t. subst P (sym (at-clk name ((bytes_eq-Decides name clk).0 t))) p)
        (λ f. subst P (sym (not-clk name (λ e. false≢true (sym f ∙ (bytes_eq-Decides name clk).1 e)))) q)
        (cases_Bool (bytes_eq name clk))

    not-clk-reg : (signed : Bool) (width : ℕ) (name : List ℕ) → Contains m.items (Reg signed width name) → name ≢ clk
    not-clk-reg signed width name h e =
        let d = reg-declared m sound.acyclic.driven sound.acyclic.once signed width name h in
        let drives = has-driver m sound.acyclic.driven sound.acyclic.once _ d refl in
        clk-undriven drives.0 name drives.1 e

    this-run : Runs m 1 row (λ k. row) (λ k. row)
    this-run = record {
      fits = λ k below d h. a.fits d h;
      starts = λ some signed width name h. refl;
      driven = λ k below port h input. refl;
      assigns = λ k below name value h. a.assigns name value h;
      steps = λ k below. absurd (omega (arith, below));
    }

    patched-run : Runs m 1 row (λ k. row) (λ k. patched)
    patched-run = record {
      fits = λ k below d h. patch-cases (λ n. n < 2 ^ d.net.width) d.name (a.fits d h) (b.fits d h);
      starts = λ some signed width name h. not-clk name (not-clk-reg signed width name h) ∙ sym (registers signed width name h);
      driven = λ k below port h input. ⊎_elim
          (λ t. at-clk port.name ((bytes_eq-Decides port.name clk).0 t))
          (λ f. let other' : port.name ≢ clk = λ e. false≢true (sym f ∙ (bytes_eq-Decides port.name clk).1 e) in not-clk port.name other' ∙ sym (ports port h input other'))
          (cases_Bool (bytes_eq port.name clk));
      assigns = λ k below name value h.
          let own = not-clk name (clk-undriven false name (assign-drives m sound.acyclic.driven sound.acyclic.once name value h)) in
          let w : ℕ = (nets_of m name).width in
          let same : (x : List ℕ) → Contains (names_read value) x → other x ≡ patched x =
          λ x c. sym (not-clk x (clk-unread x (reads-of-assign m sound.acyclic.driven sound.acyclic.once name x value h c))) in
          own ∙ b.assigns name value h
          ∙ ap (λ n. n % 2 ^ w) (values-agree value_by_layer (nets_of m) other patched value (max w (own_length (nets_of m) value)) (is_signed (nets_of m) value) same);
      steps = λ k below. absurd (omega (arith, below));
    }

    pub rows-alike : AreAlike row other
    rows-alike = record {
      at = λ d h other'.
          one m 1 row (λ k. row) (λ k. row) (λ k. patched) sound this-run patched-run 0 (omega arith) d (mention-listed m sound.acyclic.driven sound.acyclic.once d h)
          ∙ not-clk d.name other';
    }

  -- ---- runs

  -- a row with `reset` of a run
  pub record IsReset (count last : ℕ) (start : Row) (inputs rows : Rows) : Type 0 where
    pub runs : Runs m count start inputs rows
    pub within : last < count
    pub on : rows last (codes "reset") ≡ 1

  holds : (count last : ℕ) (start : Row) (inputs rows : Rows) → IsReset count last start inputs rows → (k : ℕ) → k < count → Holds (rows k)
  holds count last start inputs rows r k below = record {
    fits = λ d h. r.runs.fits k below d h;
    assigns = λ name value h. r.runs.assigns k below name value h;
  }

  module _ (one : OneRun) (count last : ℕ) (start : Row) (inputs rows : Rows) (a : IsReset count last start inputs rows)
      (count' last' : ℕ) (start' : Row) (inputs' rows' : Rows) (b : IsReset count' last' start' inputs' rows') where
    -- the input ports but `clk` show the same at each clock up to one
    pub record SameInputs (until : ℕ) : Type 0 where
      pub at : (clock : ℕ) → clock ≤ until → (port : Port) → Contains m.ports port → port.input ≡ true → port.name ≢ clk
          → rows (last + 1 + clock) port.name ≡ rows' (last' + 1 + clock) port.name

    abbrev RegistersSame : ℕ → Type 0
    RegistersSame clock = (signed : Bool) (width : ℕ) (name : List ℕ) → Contains m.items (Reg signed width name) → rows (last + 1 + clock) name ≡ rows' (last' + 1 + clock) name

    -- what clocks a register
    clocks-it : (signed : Bool) (width : ℕ) (name : List ℕ) → Contains m.items (Reg signed width name) → Driver m sound.acyclic.driven sound.acyclic.once name true
    clocks-it signed width name h =
        let d = reg-declared m sound.acyclic.driven sound.acyclic.once signed width name h in
        let drives = has-driver m sound.acyclic.driven sound.acyclic.once _ d refl in
        let may = may-drive m sound.acyclic.driven sound.acyclic.once drives.0 name drives.1 in
        let found = is-declared m sound.acyclic.driven sound.acyclic.once _ d in
        let clocked : drives.0 ≡ true = of-register drives.0 (sym (ap (may_drive_it drives.0) found) ∙ may) in
        subst (λ c. Driver m sound.acyclic.driven sound.acyclic.once name c) clocked (driver-of m sound.acyclic.driven sound.acyclic.once drives.0 name drives.1)
      where
        of-register : (c : Bool) → may_drive c Register ≡ true → c ≡ true
        of-register true e = refl
        of-register false e = absurd (cc e)

    registers-first : last + 1 < count → last' + 1 < count' → RegistersSame 0
    registers-first below below' signed width name h = by (clocks-it signed width name h) where
      by : Driver m sound.acyclic.driven sound.acyclic.once name true → rows (last + 1 + 0) name ≡ rows' (last' + 1 + 0) name
      by (ByAlways first condition value there) =
          let e : last + 1 + 0 ≡ last + 1 = omega arith in
          let e' : last' + 1 + 0 ≡ last' + 1 = omega arith in
          ap (λ k. rows k name) e
          ∙ a.runs.steps last below name first condition value there
          ∙ cond-true (rows last (codes "reset") == 1) _ _ (eq-eqb (rows last (codes "reset")) 1 a.on)
          ∙ sym (cond-true (rows' last' (codes "reset") == 1) _ _ (eq-eqb (rows' last' (codes "reset")) 1 b.on))
          ∙ sym (b.runs.steps last' below' name first condition value there)
          ∙ sym (ap (λ k. rows' k name) e')

    registers-next : (clock : ℕ) → last + 1 + suc clock < count → last' + 1 + suc clock < count'
        → AreAlike (rows (last + 1 + clock)) (rows' (last' + 1 + clock)) → RegistersSame (suc clock)
    registers-next clock below below' alike signed width name h = by (clocks-it signed width name h) where
      by : Driver m sound.acyclic.driven sound.acyclic.once name true → rows (last + 1 + suc clock) name ≡ rows' (last' + 1 + suc clock) name
      by (ByAlways first condition value there) =
          let e : last + 1 + suc clock ≡ last + 1 + clock + 1 = omega arith in
          let e' : last' + 1 + suc clock ≡ last' + 1 + clock + 1 = omega arith in
          ap (λ k. rows k name) e
          ∙ a.runs.steps (last + 1 + clock) (omega (arith, below)) name first condition value there
          ∙ next-same (rows (last + 1 + clock)) (rows' (last' + 1 + clock)) alike name first condition value there
          ∙ sym (b.runs.steps (last' + 1 + clock) (omega (arith, below')) name first condition value there)
          ∙ sym (ap (λ k. rows' k name) e')

    alike-by : (clock : ℕ) → last + 1 + clock < count → last' + 1 + clock < count' → RegistersSame clock
        → ((port : Port) → Contains m.ports port → port.input ≡ true → port.name ≢ clk → rows (last + 1 + clock) port.name ≡ rows' (last' + 1 + clock) port.name)
        → AreAlike (rows (last + 1 + clock)) (rows' (last' + 1 + clock))
    alike-by clock below below' registers ports =
        rows-alike one (rows (last + 1 + clock)) (rows' (last' + 1 + clock))
        (holds count last start inputs rows a (last + 1 + clock) below) (holds count' last' start' inputs' rows' b (last' + 1 + clock) below') registers ports

    pub alike-at : (until : ℕ) → SameInputs until → (clock : ℕ) → clock ≤ until → last + 1 + clock < count → last' + 1 + clock < count'
        → AreAlike (rows (last + 1 + clock)) (rows' (last' + 1 + clock))
    alike-at until same zero low below below' =
        alike-by zero below below' (registers-first (omega (arith, below)) (omega (arith, below'))) (λ port h input other. same.at zero low port h input other)
    alike-at until same (suc clock) low below below' =
        alike-by (suc clock) below below'
        (registers-next clock below below' (alike-at until same clock (omega (arith, low)) (omega (arith, below)) (omega (arith, below'))))
        (λ port h input other. same.at (suc clock) low port h input other)
