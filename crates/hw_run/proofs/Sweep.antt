-- One sweep over the nets in an order in which each stands after those that it reads in the same clock.
use Rattle.std.proofs.Common.{◌≡◌, ◌≢◌, ℕ, ◌+◌, ◌<◌, ◌≤◌, ◌⊎◌, inl, inr, List, length, Some, slice_get, slice_index, slice_index_or, set, All, ℤ, pos, ap, sym, ◌∙◌}
use Rattle.std.proofs.Common.{subst, arith}
use Rattle.hw_net.specs.declared.netlist.Net.{Net}
use Rattle.hw_net.specs.Netlist.{reads_now}
use Rattle.hw_run.specs.State.{row_of}
use Rattle.hw_net.specs.Step.{Row, NetGoes}
use Rattle.std.proofs.lemmas.Bool.{cases_lt}
use Rattle.std.proofs.lemmas.List.{get_or-set_same, get_or-set_other}
use Rattle.std.proofs.lemmas.Option.{slice_get_within}
use Rattle.hw_run.specs.inner.Sweep.{IsSwept}
use Rattle.hw_order.specs.Order.{IsOrder}
use Rattle.hw_order.proofs.Same.{goes-same}

module _ (nets : List Net) (order : List ℕ) (cycles clock : ℕ) (inputs now : Row) (is : IsOrder nets order) where
  pub swept-none : (next : List ℤ) → IsSwept nets order cycles clock inputs now next 0
  swept-none next = record { each = λ j net below. absurd (omega arith) }

  -- the net at another place of the order is another net
  another : (i j : ℕ) → i < length order → j < length order → j ≢ i → slice_index order j ≢ slice_index order i
  another i j h k apart e = apart (sym (is.at j k) ∙ ap is.rank e ∙ is.at i h)

  -- one net more
  module _ (next : List ℤ) (i : ℕ) (one : Net) (v : ℤ) (size : length next ≡ length nets) (h : i < length order) (here : slice_get nets (slice_index order i) ≡ Some one)
      (before : IsSwept nets order cycles clock inputs now next i) (goes : NetGoes cycles clock inputs now (row_of next) one.width one.signed one.kind (now (slice_index order i)) v) where
    -- a net that stands before reads no net at or after its own place
    kept : (k : ℕ) (net : Net) → slice_get nets k ≡ Some net → is.rank k < i + 1 → All (λ read. row_of next read ≡ row_of (set next (slice_index order i) v) read) (reads_now net.kind)
    kept k net there below n d within =
        let apart : slice_index_or (reads_now net.kind) n d ≢ slice_index order i = λ e. omega (arith, is.ranked.falls k net there n d within, ap is.rank e, is.at i h) in
        sym (get_or-set_other next (slice_index order i) (slice_index_or (reads_now net.kind) n d) v (pos 0) apart)

    abbrev GoesAt : Net → ℕ → Type 0
    GoesAt net k = NetGoes cycles clock inputs now (row_of (set next (slice_index order i) v)) net.width net.signed net.kind (now k) (row_of (set next (slice_index order i) v) k)

    at-last : (net : Net) → slice_get nets (slice_index order i) ≡ Some net → GoesAt net (slice_index order i)
    at-last net there =
        let both : Some one ≡ Some net = sym here ∙ there in
        let same : one ≡ net = cc in
        let within : slice_index order i < length next = omega (arith, slice_get_within nets (slice_index order i) one here) in
        let value : row_of (set next (slice_index order i) v) (slice_index order i) ≡ v = get_or-set_same next (slice_index order i) v (pos 0) within in
        let goes-one : GoesAt one (slice_index order i) =
        rw value (goes-same (row_of next) (row_of (set next (slice_index order i) v)) cycles clock inputs now one.width one.signed one.kind (now (slice_index order i)) v
        (kept (slice_index order i) one here (omega (arith, is.at i h))) goes) in
        subst (λ (x : Net). GoesAt x (slice_index order i)) same goes-one

    by-place : (j : ℕ) (net : Net) → slice_get nets (slice_index order j) ≡ Some net → (j < i) ⊎ (i ≤ j) → j < i + 1 → GoesAt net (slice_index order j)
    by-place j net there (inl less) below =
        let apart : slice_index order j ≢ slice_index order i = another i j h (omega arith) (λ e. omega arith) in
        let same : row_of (set next (slice_index order i) v) (slice_index order j)
        ≡ row_of next (slice_index order j) =
        get_or-set_other next (slice_index order i) (slice_index order j) v (pos 0) apart in
        rw same (goes-same (row_of next) (row_of (set next (slice_index order i) v)) cycles clock inputs now
        net.width net.signed net.kind (now (slice_index order j)) (row_of next (slice_index order j))
        (kept (slice_index order j) net there (omega (arith, is.at j (omega arith)))) (before.each j net less there))
    by-place j net there (inr more) below =
        let e : j ≡ i = omega arith in
        let f : slice_index order j ≡ slice_index order i = ap (slice_index order) e in
        subst (GoesAt net) (sym f) (at-last net (rw f at there))

    pub swept-more : IsSwept nets order cycles clock inputs now (set next (slice_index order i) v) (i + 1)
    swept-more = record { each = λ j net below there. by-place j net there (cases_lt j i) below }

  -- a sweep over the whole order
  pub swept-all : (next : List ℤ) → IsSwept nets order cycles clock inputs now next (length order)
      → (k : ℕ) (net : Net) → slice_get nets k ≡ Some net → NetGoes cycles clock inputs now (row_of next) net.width net.signed net.kind (now k) (row_of next k)
  swept-all next swept k net there =
      let within : k < length nets = slice_get_within nets k net there in
      let e : slice_index order (is.rank k) ≡ k = is.each k within in
      subst (λ (x : ℕ). NetGoes cycles clock inputs now (row_of next) net.width net.signed net.kind (now x) (row_of next x)) e
      (swept.each (is.rank k) net (is.all k within) (rw e there))
