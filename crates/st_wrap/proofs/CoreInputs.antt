-- The core's inputs at the clocks of a sample are those of the sample's transfer in.
use Rattle.std.proofs.Common.{◌≡◌, ◌≢◌, ℕ, zero, suc, ◌+◌, ◌-◌, ◌/◌, ◌%◌, ◌^◌, ◌<◌, ◌==◌, max, ◌⊎◌, inl, inr, ⊎_elim, Bool, true, false, not, ◌&&◌, if◌then◌else◌, List, Contains, codes, Some, refl}
use Rattle.std.proofs.Common.{sym, ap, subst, ◌∙◌, arith}
use Rattle.std.proofs.Math.Nat.{mod-eq_of_lt}
use Rattle.std.proofs.lemmas.Bool.{cases_Bool, cond-true, cond-false, eq-eqb, eqb-true, eqb-false}
use Rattle.vl_ast.specs.declared.expressions.Expr.{Expr}
use Rattle.vl_ast.specs.declared.expressions.Expr.TheVariants.{Name, Choose}
use Rattle.vl_ast.specs.declared.modules.ModItem.TheVariants.{Reg, Assign, Always, Wire}
use Rattle.vl_ast.specs.declared.modules.Module.{Module}
use Rattle.vl_ast.specs.Context.{Net, own_length, is_signed}
use Rattle.vl_ast.specs.Header.{input_port}
use Rattle.vl_ast.specs.Nets.{Declared, Declares, mentions, net_or_none, nets_of, port_declared}
use Rattle.vl_ast.specs.Runs.{Row, Rows}
use Rattle.vl_ast.specs.Value.{assigned, extended, value_in}
use Rattle.vl_ast.specs.Windows.{Window, counted, row_at}
use Rattle.vl_ast.proofs.Alone.{reset-port}
use Rattle.vl_ast.proofs.Facts.{in-port, is-declared, mention-listed, reg-declared, wire-declared}
use Rattle.vl_ast.specs.Attributes.{clocks_of}
use Rattle.st_wrap.specs.declared.columns.Column.{Column}
use Rattle.st_wrap.specs.declared.pace.Counters.{Counters}
use Rattle.st_wrap.specs.Pace.{latest_in}
use Rattle.st_wrap.specs.Transfers.{IsTransfer, in_side}
use Rattle.st_wrap.specs.inner.Columns.{column_port, moving, plain}
use Rattle.st_wrap.specs.inner.Names.{begin_name, held_name, inner_name}
use Rattle.st_wrap.proofs.ControlSignals.{begin-moves, begin-told, begins, moves}
use Rattle.vl_ast.proofs.Copies.{extended-same, name-copied, one-width}
use Rattle.vl_ast.proofs.Forms.{length-Choose, length-Name, value-Choose, value-Name}
use Rattle.st_wrap.proofs.Handovers.{Setting, begins-is, begun-first, in-transfer, ins-are}
use Rattle.st_wrap.proofs.Samples.{next-first, next-same, zero-phase}
use Rattle.st_wrap.proofs.Handshakes.{some-cycles}
use Rattle.st_wrap.proofs.Signals.{alone-Name, truth-zero}

-- ---- names of one width and sign

module _ (nets : List ℕ → Net) (row : List ℕ → ℕ) (w : ℕ) (signed : Bool) where
  abbrev net : Net
  net = record { width = w; signed = signed }

  name-value : (s : Bool) (x : List ℕ) → nets x ≡ net → value_in nets row w s (Name x) ≡ row x
  name-value s x is =
      value-Name nets row w s x ∙ ap (λ (n : Net). extended (record { width = n.width; signed = s; bits = row x }) w) is ∙ extended-same w s (row x)

  name-length : (x : List ℕ) → nets x ≡ net → own_length nets (Name x) ≡ w
  name-length x is = length-Name nets x ∙ ap (λ (n : Net). n.width) is

  pub assigned-Name : (x : List ℕ) → nets x ≡ net → row x < 2 ^ w → assigned nets row w (Name x) ≡ row x
  assigned-Name x is fits = name-copied nets row w x (ap (λ (n : Net). n.width) is) fits

  pub chosen-Name : (t x y : List ℕ) → nets x ≡ net → nets y ≡ net → row x < 2 ^ w → row y < 2 ^ w
      → assigned nets row w (Choose (Name t) (Name x) (Name y)) ≡ (if row t == 0 then row y else row x)
  chosen-Name t x y is it fx fy =
      let e : Expr = Choose (Name t) (Name x) (Name y) in
      let length : max w (own_length nets e) ≡ w =
      ap (λ n. max w n) (length-Choose nets (Name t) (Name x) (Name y) ∙ (λ i. max (name-length x is i) (name-length y it i)) ∙ one-width w) ∙ one-width w in
      ap (λ n. value_in nets row n (is_signed nets e) e % 2 ^ w) length
      ∙ ap (λ n. n % 2 ^ w) (value-Choose nets row w (is_signed nets e) (Name t) (Name x) (Name y)
      ∙ (λ i. if alone-Name nets row t i == 0 then name-value (is_signed nets e) y it i else name-value (is_signed nets e) x is i))
      ∙ by (row t == 0)
    where
      by : (b : Bool) → (if b then row y else row x) % 2 ^ w ≡ (if b then row y else row x)
      by true = mod-eq_of_lt fy
      by false = mod-eq_of_lt fx

-- counts of tests that say the same below a place
pub counted-same : (one other : ℕ → Bool) (place : ℕ) → ((j : ℕ) → j < place → one j ≡ other j) → counted one place ≡ counted other place
counted-same one other zero same = refl
counted-same one other (suc place) same =
    let here = same place (omega arith) in
    let before = counted-same one other place (λ j below. same j (omega (arith, below))) in
    (λ i. if here i then suc (before i) else before i)

-- the word of a column
abbrev pub word_of : Column → Net
word_of column = record { width = column.width; signed = column.signed }

-- what a module has of an input
pub record HasInput (m : Module) (column : Column) : Type 0 where
  pub port : Contains m.ports (input_port (column_port column))
  pub wire : Contains m.items (Wire column.signed column.width (inner_name column.inner))
  pub held : Contains m.items (Reg column.signed column.width (held_name column.name))
  pub assigned : Contains m.items (Assign (inner_name column.inner) (Choose (Name begin_name) (Name column.name) (Name (held_name column.name))))
  pub clocked : Contains m.items (Always (held_name column.name) (plain column.width 0) (Some (moving begin_name)) (Name column.name))

module _ {core m : Module} {counters : Counters} {window : Window} {start : Row} {inputs rows : Rows}
    (s : Setting core m counters window start inputs rows) (column : Column) (has : HasInput m column) where
  abbrev test : ℕ → Bool
  test place = moves counters (rows (row_at window place))

  abbrev F : ℕ
  F = clocks_of core

  abbrev held : List ℕ
  held = held_name column.name

  d-of : (d : Declared) → Contains (mentions m) (Declares d) → nets_of m d.name ≡ d.net
  d-of d h = ap net_or_none (is-declared m s.acyclic.driven s.acyclic.once d h)

  port-net : nets_of m column.name ≡ word_of column
  port-net = d-of (port_declared (input_port (column_port column))) (in-port m s.acyclic.driven s.acyclic.once (input_port (column_port column)) has.port)

  held-net : nets_of m (held_name column.name) ≡ word_of column
  held-net = d-of _ (reg-declared m s.acyclic.driven s.acyclic.once column.signed column.width (held_name column.name) has.held)

  wire-net : nets_of m (inner_name column.inner) ≡ word_of column
  wire-net = d-of _ (wire-declared m s.acyclic.driven s.acyclic.once column.signed column.width (inner_name column.inner) has.wire)

  module _ (k : ℕ) (below : k < window.rows) where
    port-fits : rows k column.name < 2 ^ column.width
    port-fits = s.runs.fits k below (port_declared (input_port (column_port column)))
        (mention-listed m s.acyclic.driven s.acyclic.once _ (in-port m s.acyclic.driven s.acyclic.once (input_port (column_port column)) has.port))

    held-fits : rows k (held_name column.name) < 2 ^ column.width
    held-fits = s.runs.fits k below _ (mention-listed m s.acyclic.driven s.acyclic.once _ (reg-declared m s.acyclic.driven s.acyclic.once column.signed column.width (held_name column.name) has.held))

    input-is : rows k (inner_name column.inner) ≡ (if begins counters (rows k) then rows k column.name else rows k (held_name column.name))
    input-is =
        s.runs.assigns k below (inner_name column.inner) _ has.assigned
        ∙ ap (λ (n : Net). assigned (nets_of m) (rows k) n.width (Choose (Name begin_name) (Name column.name) (Name (held_name column.name)))) wire-net
        ∙ chosen-Name (nets_of m) (rows k) column.width column.signed begin_name column.name (held_name column.name) port-net held-net port-fits held-fits
        ∙ ap (λ b. if b then rows k (held_name column.name) else rows k column.name)
        (ap (λ n. n == 0) (begin-told m counters s.acyclic s.has window.rows start inputs rows s.runs k below) ∙ truth-zero (begins counters (rows k)))
        ∙ turned (begins counters (rows k))
      where
        turned : (b : Bool) → (if not b then rows k (held_name column.name) else rows k column.name) ≡ (if b then rows k column.name else rows k (held_name column.name))
        turned true = refl
        turned false = refl

    held-next : k + 1 < window.rows → window.last_reset < k
        → rows (k + 1) (held_name column.name) ≡ (if moves counters (rows k) && begins counters (rows k) then rows k column.name else rows k (held_name column.name))
    held-next more behind =
        let p = reset-port m s.clocked in
        let zero-reset : rows k (codes "reset") ≡ 0 = subst (λ n. rows k n ≡ inputs k n) p.2 (s.runs.driven k below p.0 p.1 p.3) ∙ s.last.released k behind below in
        let off : (rows k (codes "reset") == 1) ≡ false = ap (λ n. n == 1) zero-reset in
        s.runs.steps k more (held_name column.name) (plain column.width 0) (Some (moving begin_name)) (Name column.name) has.clocked
        ∙ cond-false (rows k (codes "reset") == 1) _ _ off
        ∙ (λ i. if begin-moves m counters s.acyclic s.has window.rows start inputs rows s.runs k below i
        then assigned (nets_of m) (rows k) (held-net i).width (Name column.name) else rows k (held_name column.name))
        ∙ ap (λ n. if moves counters (rows k) && begins counters (rows k) then n else rows k (held_name column.name))
        (assigned-Name (nets_of m) (rows k) column.width column.signed column.name port-net port-fits)

  -- the transfer in of a number, and what the port shows in it
  pub record Shown (number bits : ℕ) : Type 0 where
    pub place : ℕ
    pub transfer : IsTransfer in_side window rows number place
    pub shows : rows (row_at window place) column.name ≡ bits

  -- a row that moves at a sample's first clock is its transfer
  first-transfer : (place : ℕ) → row_at window place < window.rows → test place ≡ true → counted test place % F ≡ 0
      → IsTransfer in_side window rows (counted test place / F) place
  first-transfer place below on first = record {
    within = below;
    hands_over = in-transfer s place below ∙ (λ i. on i && (begins-is s place below ∙ eq-eqb (counted test place % F) 0 first) i);
    earlier = ins-are s place below ∙ begun-first F (latest_in core) (some-cycles core) (counted test place) first;
  }

  abbrev HeldAt : ℕ → Type 0
  HeldAt place = counted test place % F ≢ 0 → Shown (counted test place / F) (rows (row_at window place) (held_name column.name))

  -- what is held after a row
  held-step : (place : ℕ) → row_at window (suc place) < window.rows → HeldAt place → HeldAt (suc place)
  held-step place below before some = by (cases_Bool (test place)) where
    inside : row_at window place < window.rows
    inside = omega (arith, below)

    next-row : row_at window (suc place) ≡ row_at window place + 1
    next-row = omega arith

    stepped : rows (row_at window (suc place)) (held_name column.name)
        ≡ (if test place && begins counters (rows (row_at window place)) then rows (row_at window place) column.name else rows (row_at window place) (held_name column.name))
    stepped = ap (λ n. rows n (held_name column.name)) next-row ∙ held-next (row_at window place) inside (omega (arith, below)) (omega arith)

    still : test place ≡ false → Shown (counted test (suc place) / F) (rows (row_at window (suc place)) (held_name column.name))
    still off =
        let c : counted test (suc place) ≡ counted test place = cond-false (test place) (suc (counted test place)) (counted test place) off in
        let old = before (λ e. some (ap (λ n. n % F) c ∙ e)) in
        let same : rows (row_at window (suc place)) (held_name column.name) ≡ rows (row_at window place) (held_name column.name) =
        stepped ∙ ap (λ (b : Bool). if b && begins counters (rows (row_at window place)) then rows (row_at window place) column.name else rows (row_at window place) (held_name column.name)) off in
        record { place = old.place; transfer = subst (λ n. IsTransfer in_side window rows (n / F) old.place) (sym c) old.transfer; shows = old.shows ∙ sym same }

    moved : test place ≡ true → Shown (counted test (suc place) / F) (rows (row_at window (suc place)) (held_name column.name))
    moved on =
        let c : counted test (suc place) ≡ counted test place + 1 = cond-true (test place) (suc (counted test place)) (counted test place) on ∙ omega arith in
        let more : counted test place % F ≢ F - 1 = λ e. some (ap (λ n. n % F) c ∙ next-first F (some-cycles core) (counted test place) e) in
        let sample : counted test place / F ≡ counted test (suc place) / F = sym (ap (λ n. n / F) c ∙ next-same F (some-cycles core) (counted test place) more) in
        let value : rows (row_at window (suc place)) (held_name column.name)
        ≡ (if counted test place % F == 0 then rows (row_at window place) column.name else rows
        (row_at window place) (held_name column.name)) =
        stepped ∙ (λ i. if on i && begins-is s place inside i then rows (row_at window place) column.name else rows (row_at window place) (held_name column.name)) in
        ⊎_elim
        (λ t. record {
          place = place;
          transfer = subst (λ n. IsTransfer in_side window rows n place) sample (first-transfer place inside on (eqb-true (counted test place % F) 0 t));
          shows = sym (value ∙ cond-true (counted test place % F == 0) (rows (row_at window place) column.name) (rows (row_at window place) (held_name column.name)) t);
        })
        (λ f.
        let old = before (eqb-false (counted test place % F) 0 f) in
        record {
          place = old.place;
          transfer = subst (λ n. IsTransfer in_side window rows n old.place) sample old.transfer;
          shows = old.shows ∙ sym (value ∙ cond-false (counted test place % F == 0) (rows (row_at window place) column.name) (rows (row_at window place) (held_name column.name)) f);
        })
        (cases_Bool (counted test place % F == 0))

    by : (test place ≡ true) ⊎ (test place ≡ false) → Shown (counted test (suc place) / F) (rows (row_at window (suc place)) (held_name column.name))
    by (inl on) = moved on
    by (inr off) = still off

  held-at : (place : ℕ) → row_at window place < window.rows → HeldAt place
  held-at zero below some = absurd (some (zero-phase F (some-cycles core)))
  held-at (suc place) below some = held-step place below (held-at place (omega (arith, below))) some

  -- at each clock of a sample the core's input is what its transfer in showed
  pub input-shown : (place : ℕ) → row_at window place < window.rows → moves counters (rows (row_at window place)) ≡ true
      → Shown (counted (λ place. moves counters (rows (row_at window place))) place / clocks_of core) (rows (row_at window place) (inner_name column.inner))
  input-shown place below on = ⊎_elim
      (λ t.
      let first = eqb-true (counted test place % F) 0 t in
      let b : begins counters (rows (row_at window place)) ≡ true = begins-is s place below ∙ t in
      record {
        place = place;
        transfer = first-transfer place below on first;
        shows = sym (input-is (row_at window place) below ∙ cond-true (begins counters (rows (row_at window place))) _ _ b);
      })
      (λ f.
      let some = eqb-false (counted test place % F) 0 f in
      let b : begins counters (rows (row_at window place)) ≡ false = begins-is s place below ∙ f in
      let old = held-at place below some in
      record {
        place = old.place;
        transfer = old.transfer;
        shows = old.shows ∙ sym (input-is (row_at window place) below ∙ cond-false (begins counters (rows (row_at window place))) _ _ b);
      })
      (cases_Bool (counted test place % F == 0))
