-- A run of a netlist shows the rows of the clocks that were made.
use Rattle.std.proofs.Common.{◌≡◌, ℕ, zero, suc, ◌+◌, ◌-◌, ◌<◌, inl, inr, nat_lt, Bool, true, false, if◌then◌else◌, pos, ap, sym, ◌∙◌, subst, arith, refl}
use Rattle.std.proofs.lemmas.Bool.{cases_lt, ltb-true, ltb-false}
use Rattle.hw_net.specs.Circuit.{Circuit}
use Rattle.hw_net.specs.NetRows.{Inputs, Rows}
use Rattle.hw_run.specs.State.{State, row_of}
use Rattle.hw_run.specs.Run.{IsAt, RunsGoOn, StateShowsRows}
use Rattle.hw_net.specs.Step.{Row, Goes}
use Rattle.hw_net.proofs.Steps.{steps-give-rows}
use Rattle.hw_order.proofs.Unique.{rows-are-one}

lt-is : (a b : ℕ) → a < b → nat_lt a b ≡ true
lt-is a b below = by (nat_lt a b) refl
  where
    by : (is : Bool) → nat_lt a b ≡ is → is ≡ true
    by true e = refl
    by false e = absurd (omega (arith, ltb-false a b e, below))

lt-not : (n : ℕ) → nat_lt n n ≡ false
lt-not n = by (nat_lt n n) refl
  where
    by : (is : Bool) → nat_lt n n ≡ is → is ≡ false
    by true e = absurd (omega (arith, ltb-true n n e))
    by false e = refl

module _ (rows : Rows) (n : ℕ) (last : Row) where
  -- the rows with one more behind them
  abbrev more : Rows
  more net c = if nat_lt c n then rows net c else last net

  more-before : (net c : ℕ) → c < n → more net c ≡ rows net c
  more-before net c below = ap (λ (b : Bool). if b then rows net c else last net) (lt-is c n below)

  more-last : (net : ℕ) → more net n ≡ last net
  more-last net = ap (λ (b : Bool). if b then rows net n else last net) (lt-not n)

module _ (netlist : Circuit) (inputs : Inputs) (rows : Rows) where
  -- a clock that was made goes so in the longer rows too
  goes-before : (n : ℕ) (last : Row) (c : ℕ) → c < n → Goes netlist c (λ number. inputs number c) (λ net. rows net (c - 1)) (λ net. rows net c)
      → Goes netlist c (λ number. inputs number c) (λ net. more rows n last net (c - 1)) (λ net. more rows n last net c)
  goes-before n last c below goes =
      let before : (net : ℕ) → rows net (c - 1) ≡ more rows n last net (c - 1) = λ net. sym (more-before rows n last net (c - 1) (omega arith)) in
      let now : (net : ℕ) → rows net c ≡ more rows n last net c = λ net. sym (more-before rows n last net c below) in
      subst (λ (r : Row). Goes netlist c (λ number. inputs number c) (λ net. more rows n last net (c - 1)) r) (λ i net. now net i)
      (subst (λ (r : Row). Goes netlist c (λ number. inputs number c) r (λ net. rows net c)) (λ i net. before net i) goes)

  -- at the first clock the row before has no say
  from-row : (n : ℕ) (given values last : Row) → ((net : ℕ) → 0 < n → rows net (n - 1) ≡ values net)
      → Goes netlist n given values last → Goes netlist n given (λ net. more rows n last net (n - 1)) last
  from-row zero given values last held goes = record { each = λ k net there. goes.each k net there }
  from-row (suc n) given values last held goes =
      let same : (net : ℕ) → values net ≡ more rows (suc n) last net (suc n - 1) = λ net. sym (more-before rows (suc n) last net (suc n - 1) (omega arith) ∙ held net (omega arith)) in
      subst (λ (r : Row). Goes netlist (suc n) given r last) (λ i net. same net i) goes

  goes-last : (n : ℕ) (given values last : Row) → ((net : ℕ) → 0 < n → rows net (n - 1) ≡ values net) → ((number : ℕ) → inputs number n ≡ given number) → Goes netlist n given values last
      → Goes netlist n (λ number. inputs number n) (λ net. more rows n last net (n - 1)) (λ net. more rows n last net n)
  goes-last n given values last held agree goes =
      let now : (net : ℕ) → last net ≡ more rows n last net n = λ net. sym (more-last rows n last net) in
      let in_same : (number : ℕ) → given number ≡ inputs number n = λ number. sym (agree number) in
      subst (λ (r : Row). Goes netlist n (λ number. inputs number n) (λ net. more rows n last net (n - 1)) r) (λ i net. now net i)
      (subst (λ (r : Row). Goes netlist n r (λ net. more rows n last net (n - 1)) last) (λ i number. in_same number i) (from-row n given values last held goes))

at-start : (netlist : Circuit) (inputs : Inputs) (state : State) → state.clocks ≡ 0 → IsAt netlist inputs state
at-start netlist inputs state none = record {
  rows = λ net c. pos 0;
  goes = λ c below. absurd (omega (arith, below, none));
  last = λ net some. absurd (omega (arith, some, none));
}

at-more : (netlist : Circuit) (inputs : Inputs) (state new : State) (given : Row) → IsAt netlist inputs state → ((number : ℕ) → inputs number state.clocks ≡ given number)
    → Goes netlist state.clocks given (row_of state.values) (row_of new.values) → new.clocks ≡ state.clocks + 1 → IsAt netlist inputs new
at-more netlist inputs state new given at agree goes count = record {
  rows = more at.rows state.clocks (row_of new.values);
  goes = λ c below.
      elim (cases_lt c state.clocks) [
        | inl less ↦ goes-before netlist inputs at.rows state.clocks (row_of new.values) c less (at.goes c less)
        | inr end ↦
            let same : state.clocks ≡ c = omega (arith, below, end, count) in
            subst (λ (x : ℕ). Goes netlist x (λ number. inputs number x)
            (λ net. more at.rows state.clocks (row_of new.values) net (x - 1))
            (λ net. more at.rows state.clocks (row_of new.values) net x)) same
            (goes-last netlist inputs at.rows state.clocks given (row_of state.values) (row_of new.values) at.last agree goes)
      ];
  last = λ net some.
      let same : new.clocks - 1 ≡ state.clocks = omega (arith, count) in
      ap (more at.rows state.clocks (row_of new.values) net) same ∙ more-last at.rows state.clocks (row_of new.values) net;
}

pub runs-go-on : RunsGoOn
runs-go-on netlist inputs state new given = (at-start netlist inputs state, at-more netlist inputs state new given)

pub state-shows-rows : StateShowsRows
state-shows-rows netlist inputs state rows well at some are k inside =
    let same = rows-are-one netlist state.clocks inputs at.rows rows well (steps-give-rows netlist state.clocks inputs at.rows well at.goes) are k (state.clocks - 1) inside (omega arith) in
    sym (at.last k some) ∙ same
