-- What single nets show as waves.
use Rattle.std.proofs.Common.{◌≡◌, ℕ, suc, ◌-◌, ◌*◌, ◌<◌, ◌≤◌, ◌⊎◌, Bool, true, false, ℤ, pos, List, [], ◌∷◌, Some, ap, subst, refl}
use Rattle.std.specs.Prelude.{slice_get, not, if◌then◌else◌, ◌≢◌}
use Rattle.std.specs.Ordering.{int_eq}
use Rattle.std.proofs.lemmas.Bool.Decides.{Decides-int_eq}
use Rattle.std.proofs.lemmas.Bool.{false≢true}
use Rattle.std.proofs.Common.{true≢false}
use Rattle.math_num.specs.Word.{IsWord, InWord, IsWrapped}
use Rattle.hw_net.specs.declared.netlist.Net.{Net}
use Rattle.hw_net.specs.declared.netlist.NetKind.{NetKind}
use Rattle.hw_net.specs.declared.netlist.NetKind.TheVariants.{Comb, Reg, EnReg}
use Rattle.hw_net.specs.declared.netlist.NetOp.{NetOp}
use Rattle.hw_net.specs.declared.netlist.NetOp.TheVariants.{Const, Resize, Choose}
use Rattle.hw_net.specs.Circuit.{Circuit}
use Rattle.hw_net.specs.Netlist.{HasWord}
use Rattle.hw_net.specs.NetRows.{Inputs, Rows, NetShows, NetRows, span_of}
use Rattle.hw_net.specs.Registers.{IsReg, IsEnReg}
use Rattle.hw_shows.specs.Timing.{Timing}
use Rattle.hw_shows.specs.Series.{AreSame, steady, span_at, IsSeries, IsEnabledSeries, IsChosen}
use Rattle.hw_build.specs.inner.Growth.{GoesOn, InLater}
use Rattle.hw_build.proofs.Growth.{net_later, word_later, shown_later}
use Rattle.math_num.proofs.Words.{wrapped-is}
use Rattle.hw_build.proofs.Words.{shows_word}

-- the net stands at its number for good
pub record IsSettled (closed hubs : ℕ) (now : Circuit) (number : ℕ) (net : Net) : Type 0 where
  pub at : slice_get now.nets number ≡ Some net
  pub settled : (number < closed) ⊎ (hubs ≤ number)

module _ (closed hubs : ℕ) (now : Circuit) where
  -- ---- operations

  -- an operation of a settled net, in a word that has what is given
  pub combined : (number : ℕ) (net : Net) (op : NetOp) (args : List ℕ) → IsSettled closed hubs now number net
      → net.kind ≡ Comb op args → (later : Circuit) → GoesOn closed hubs now later
      → (n : ℕ) (inputs : Inputs) (rows : Rows) → NetRows later n inputs rows
      → NetShows later.cycles n inputs rows net.width net.signed (Comb op args) (rows number)
  combined number net op args is kind later goes n inputs rows are =
      subst (λ (k : NetKind). NetShows later.cycles n inputs rows net.width net.signed k (rows number)) kind (are.shows number net (net_later closed hubs now later number net goes is.at is.settled))

  -- a Resize of a net of its own word shows what that shows
  pub resized : (number argument width : ℕ) (signed : Bool) (net : Net) → IsSettled closed hubs now number net
      → net.kind ≡ Comb Resize (argument ∷ []) → net.width ≡ width → net.signed ≡ signed → IsWord width signed
      → HasWord now.nets argument width signed
      → InLater closed hubs now (λ n rows. AreSame n (rows number) (rows argument))
  resized number argument width signed net is kind wide sign word has = record {
    holds = λ later goes n inputs rows are. record {
      at = λ c below.
          let wrapped = combined number net Resize (argument ∷ []) is kind later goes n inputs rows are c below in
          let held = shows_word later n inputs rows argument width signed are (word_later closed hubs now later argument width signed goes has) c below in
          wrapped-is (rows argument c) width signed (rows number c) word held
          (subst (λ (w : ℕ). IsWrapped (rows argument c) w signed (rows number c)) wide (subst (λ (s : Bool). IsWrapped (rows argument c) net.width s (rows number c)) sign wrapped));
    };
  }

  -- a constant of its word is shown at each clock
  pub constant : (number : ℕ) (value : ℤ) (net : Net) → IsSettled closed hubs now number net
      → net.kind ≡ Comb (Const value) [] → IsWord net.width net.signed → InWord net.width net.signed value
      → InLater closed hubs now (λ n rows. AreSame n (rows number) (steady value))
  constant number value net is kind word has = record {
    holds = λ later goes n inputs rows are.
        record {
          at = λ c below. wrapped-is value net.width net.signed (rows number c) word has
              (combined number net (Const value) [] is kind later goes n inputs rows are c below);
        };
  }

  chosen_on : (b : Bool) (x y : ℤ) → b ≡ false → (if not b then x else y) ≡ x
  chosen_on false x y e = refl
  chosen_on true x y e = absurd (true≢false e)

  chosen_off : (b : Bool) (x y : ℤ) → b ≡ true → (if not b then x else y) ≡ y
  chosen_off true x y e = refl
  chosen_off false x y e = absurd (false≢true e)

  not_same : (a b : ℤ) → a ≢ b → int_eq a b ≡ false
  not_same a b h = go (int_eq a b) refl
    where
      go : (t : Bool) → int_eq a b ≡ t → int_eq a b ≡ false
      go true e = absurd (h ((Decides-int_eq a b).0 e))
      go false e = e

  -- a choice between nets of its own word
  pub chosen : (number enable passed other width : ℕ) (signed : Bool) (net : Net)
      → IsSettled closed hubs now number net → net.kind ≡ Comb Choose (enable ∷ passed ∷ other ∷ [])
      → net.width ≡ width → net.signed ≡ signed → IsWord width signed
      → HasWord now.nets passed width signed → HasWord now.nets other width signed → InLater closed hubs now (λ n rows. IsChosen n (rows enable) (rows passed) (rows other) (rows number))
  chosen number enable passed other width signed net is kind wide sign word has has_other = record {
    holds = λ later goes n inputs rows are.
        let wrapped = λ (c : ℕ) (below : c < n). subst (λ (w : ℕ). IsWrapped (if not (int_eq (rows enable c) (pos 0)) then rows passed c else rows other c) w signed (rows number c)) wide
        (subst (λ (s : Bool). IsWrapped (if not (int_eq (rows enable c) (pos 0)) then rows passed c else rows other c) net.width s (rows number c)) sign
        (combined number net Choose (enable ∷ passed ∷ other ∷ []) is kind later goes n inputs rows are c below)) in
        record {
          on = λ c below differs. wrapped-is (rows passed c) width signed (rows number c) word
              (shows_word later n inputs rows passed width signed are
              (word_later closed hubs now later passed width signed goes has) c below)
              (subst (λ (v : ℤ). IsWrapped v width signed (rows number c))
              (chosen_on (int_eq (rows enable c) (pos 0)) (rows passed c) (rows other c)
              (not_same (rows enable c) (pos 0) differs)) (wrapped c below));
          off = λ c below same. wrapped-is (rows other c) width signed (rows number c) word
              (shows_word later n inputs rows other width signed are
              (word_later closed hubs now later other width signed goes has_other) c below)
              (subst (λ (v : ℤ). IsWrapped v width signed (rows number c))
              (chosen_off (int_eq (rows enable c) (pos 0)) (rows passed c) (rows other c)
              ((Decides-int_eq (rows enable c) (pos 0)).1 same)) (wrapped c below));
        };
  }

  -- ---- registers

  -- a register in the frame of a block
  pub registered : (number slot from period block : ℕ) (first : ℤ) (timing : Timing) (net : Net)
      → IsSettled closed hubs now number net → now.cycles ≡ timing.cycles
      → net.kind ≡ Reg (record { period = period; latency = timing.latency block }) slot first from
      → InLater closed hubs now (λ n rows. IsReg n (span_at timing period block) slot first (rows from) (rows number))
  registered number slot from period block first timing net is cycles kind =
      shown_later closed hubs now number net is.at is.settled (λ n rows. IsReg n (span_at timing period block) slot first (rows from) (rows number))
      (λ n inputs rows shows. subst (λ (c : ℕ). IsReg n (span_of c (record { period = period; latency = timing.latency block })) slot first (rows from) (rows number)) cycles
      (subst (λ (k : NetKind). NetShows now.cycles n inputs rows net.width net.signed k (rows number)) kind shows))

  pub enabled : (number enable from period block : ℕ) (reset : Bool) (first : ℤ) (timing : Timing) (net : Net)
      → IsSettled closed hubs now number net → now.cycles ≡ timing.cycles
      → net.kind ≡ EnReg (record { period = period; latency = timing.latency block }) enable reset first from
      → InLater closed hubs now (λ n rows. IsEnReg n (span_at timing period block) reset first (rows enable) (rows from) (rows number))
  enabled number enable from period block reset first timing net is cycles kind =
      shown_later closed hubs now number net is.at is.settled (λ n rows. IsEnReg n (span_at timing period block) reset first (rows enable) (rows from) (rows number))
      (λ n inputs rows shows. subst (λ (c : ℕ). IsEnReg n (span_of c (record { period = period; latency = timing.latency block })) reset first (rows enable) (rows from) (rows number)) cycles
      (subst (λ (k : NetKind). NetShows now.cycles n inputs rows net.width net.signed k (rows number)) kind shows))

  -- registers in series, of which each names the one before
  pub series : (period block count : ℕ) (first : ℤ) (timing : Timing) (source : ℕ) (number : ℕ → ℕ) → number 0 ≡ source
      → ((k : ℕ) → k < count → InLater closed hubs now (λ n rows. IsReg n (span_at timing period block) (period * timing.cycles - 1) first (rows (number k)) (rows (number (suc k)))))
      → InLater closed hubs now (λ n rows. IsSeries n (span_at timing period block) count first (rows source) (λ k. rows (number k)))
  series period block count first timing source number begins each = record {
    holds = λ later goes n inputs rows are. record {
      begins = record { at = λ c below. ap (λ (k : ℕ). rows k c) begins };
      takes = λ k below. (each k below).holds later goes n inputs rows are;
    };
  }

  pub enabled_series : (period block count : ℕ) (reset : Bool) (first : ℤ) (timing : Timing) (enable source : ℕ) (number : ℕ → ℕ) → number 0 ≡ source
      → ((k : ℕ) → k < count → InLater closed hubs now (λ n rows. IsEnReg n (span_at timing period block) reset first (rows enable) (rows (number k)) (rows (number (suc k)))))
      → InLater closed hubs now (λ n rows. IsEnabledSeries n (span_at timing period block) count reset first (rows enable) (rows source) (λ k. rows (number k)))
  enabled_series period block count reset first timing enable source number begins each = record {
    holds = λ later goes n inputs rows are. record {
      begins = record { at = λ c below. ap (λ (k : ℕ). rows k c) begins };
      takes = λ k below. (each k below).holds later goes n inputs rows are;
    };
  }
