-- Levels go on as a netlist grows, and at the end no net reaches itself in a clock.
use Rattle.std.proofs.Common.{◌≡◌, ℕ, zero, suc, ◌+◌, ◌*◌, ◌<◌, ◌≤◌, ◌⊎◌, inl, inr, List, [], ◌∷◌, length, Some, All, Contains, ap, sym, ◌∙◌, subst, length-set, arith, refl, mul-le-mul_right}
use Rattle.std.specs.Prelude.{slice_get, slice_set, slice_index_or, nat_lt, ◌≢◌}
use Rattle.std.proofs.lemmas.Bool.{cond-true, cond-false, cases_lt, lt-ltb, le-ltb}
use Rattle.std.proofs.lemmas.Option.{none-some, same_Some, slice_get_within, slice_get-get_or, get_or_from_slice_get}
use Rattle.math_list.proofs.Places.{set_other, held}
use Rattle.hw_net.specs.declared.netlist.Frame.{Frame}
use Rattle.hw_net.specs.declared.netlist.Net.{Net}
use Rattle.hw_net.specs.declared.netlist.NetKind.{NetKind}
use Rattle.hw_net.specs.declared.netlist.NetKind.TheVariants.{Comb, Reg, EnReg, Acc, Bridge, Unit, Counter}
use Rattle.hw_net.specs.declared.netlist.NetOp.TheVariants.{Resize}
use Rattle.hw_net.specs.Circuit.{Circuit}
use Rattle.hw_net.specs.Frames.{counted_frame, IsCounter}
use Rattle.hw_net.specs.Netlist.{reads, reads_now, IsRanked}
use Rattle.hw_net.specs.Growing.{Appends, MayReadNow, IsReopened, IsConnected}
use Rattle.hw_net.proofs.Growth.{longer, stood-there}
use Rattle.hw_net.specs.Growing.{IsNewReg}
use Rattle.hw_build.specs.inner.Growth.{GoesOn}
use Rattle.hw_build.specs.inner.Levels.{IsLevelled, level_of, net_at, level_behind}
use Rattle.dg_tables.proofs.EntryLayout.{set_there}

-- what is read in the own clock is read
reads_then : (P : ℕ → Type 0) (kind : NetKind) (i read : ℕ) → All P (reads kind) → slice_get (reads_now kind) i ≡ Some read → P read
reads_then P (Comb op args) i read all at = held P args i read all at
reads_then P (Reg frame slot first from) i read all at = absurd (none-some read at)
reads_then P (EnReg frame enable reset first from) i read all at = absurd (none-some read at)
reads_then P (Acc frame enable from) i read all at = absurd (none-some read at)
reads_then P (Bridge frame live from) i read all at = held P (from ∷ []) i read all at
reads_then P (Unit left right) i read all at = held P (left ∷ right ∷ []) i read all at
reads_then P (Counter frame) i read all at = absurd (none-some read at)

some_read : (own : ℕ) (list : List ℕ) (i read : ℕ) → slice_get list i ≡ Some read → level_of own list ≡ own
some_read own [] i read at = absurd (none-some read at)
some_read own (first ∷ list) i read at = refl

low_level : (own : ℕ) (list : List ℕ) → level_of own list ≤ own
low_level own [] = omega arith
low_level own (first ∷ list) = omega arith

-- a Counter reads nothing
counter_level : (own : ℕ) (kind : NetKind) (frame : Frame) → counted_frame kind ≡ Some frame → level_of own (reads_now kind) ≡ 0
counter_level own (Comb op args) frame is = absurd (none-some frame is)
counter_level own (Reg other slot first from) frame is = absurd (none-some frame is)
counter_level own (EnReg other enable reset first from) frame is = absurd (none-some frame is)
counter_level own (Acc other enable from) frame is = absurd (none-some frame is)
counter_level own (Bridge other live from) frame is = absurd (none-some frame is)
counter_level own (Unit left right) frame is = absurd (none-some frame is)
counter_level own (Counter other) frame is = refl

-- the levels of the nets before a call stay
pub level_stays : (before after : Circuit) (level : ℕ → ℕ) (own k : ℕ) → k < length before.nets → level_behind before after level own k ≡ level k
level_stays before after level own k inside = cond-true {A = ℕ} (nat_lt k (length before.nets)) (level k) (level_of own (reads_now (net_at after.nets k).kind)) (lt-ltb k (length before.nets) inside)

module _ (before after : Circuit) (level : ℕ → ℕ) (own : ℕ) (named : List ℕ) (levelled : IsLevelled before.nets level) (appends : Appends before after named) (some : 1 ≤ own)
    (low : (read : ℕ) → Contains named read → (read < length before.nets) × (level read ≤ own))
  where
    at_before : (k : ℕ) → k < length before.nets → level_behind before after level own k ≡ level k
    at_before k inside = cond-true {A = ℕ} (nat_lt k (length before.nets)) (level k) (level_of own (reads_now (net_at after.nets k).kind)) (lt-ltb k (length before.nets) inside)

    at_after : (k : ℕ) (net : Net) → length before.nets ≤ k → slice_get after.nets k ≡ Some net → level_behind before after level own k ≡ level_of own (reads_now net.kind)
    at_after k net past at =
        cond-false {A = ℕ} (nat_lt k (length before.nets)) (level k) (level_of own (reads_now (net_at after.nets k).kind)) (le-ltb k (length before.nets) past)
        ∙ ap (λ (n : Net). level_of own (reads_now n.kind)) (get_or_from_slice_get after.nets k net _ at)

    counter_zero : (k : ℕ) → IsCounter after.nets k → level_behind before after level own k ≡ 0
    counter_zero k counter = elim (cases_lt k (length before.nets)) [
      | inl inside ↦ at_before k inside ∙ levelled.counters k
          (record {
            frame = counter.frame;
            at =
                record {
                  net = counter.at.net;
                  is =
                      stood-there before after k counter.at.net appends.extends inside counter.at.is;
                  counts =
                      counter.at.counts;
                };
          })
      | inr past ↦ at_after k counter.at.net past counter.at.is ∙ counter_level own counter.at.net.kind counter.frame counter.at.counts
    ]

    new_below : (k : ℕ) (net : Net) (i read : ℕ) → length before.nets ≤ k → slice_get after.nets k ≡ Some net → slice_get (reads_now net.kind) i ≡ Some read → MayReadNow before after named k read
        → (level_behind before after level own read < level_behind before after level own k) ⊎ ((level_behind before after level own read ≡ level_behind before after level own k) × (read < k))
    new_below k net i read past at reads may =
        let own_level : level_behind before after level own k ≡ own = at_after k net past at ∙ some_read own (reads_now net.kind) i read reads in
        let by : level_behind before after level own read ≤ own → read < k
        → (level_behind before after level own read < level_behind before after level own k)
        ⊎ ((level_behind before after level own read ≡ level_behind before after level own k)
        × (read < k)) =
        λ less before_k. elim (cases_lt (level_behind before after level own read) own) [
          | inl lower ↦ inl (omega (arith, lower, own_level))
          | inr same ↦ inr (omega (arith, same, less, own_level), before_k)
        ] in
        elim may [
          | inl names ↦
              let is = low read names in
              let inside = is.0 in
              let less = is.1 in
              let e = at_before read inside in
              by (omega (arith, e, less)) (omega (arith, inside, past))
          | inr rest ↦ elim rest [
            | inl appended ↦
                let early = appended.1 in
                let there = slice_get_within after.nets k net at in
                let other : Net = net_at after.nets read in
                let other_at : slice_get after.nets read ≡ Some other = slice_get-get_or after.nets read _ (omega (arith, early, there)) in
                let e = at_after read other appended.0 other_at in
                let less = low_level own (reads_now other.kind) in
                by (omega (arith, e, less)) early
            | inr counter ↦ let e = counter_zero read counter in inl (omega (arith, e, own_level, some))
          ]
        ]

    -- the nets of a call on a level that is no lower than those that the call names
    pub levelled_by_call : IsLevelled after.nets (level_behind before after level own)
    levelled_by_call = record {
      below = λ k net i read at reads. elim (cases_lt k (length before.nets)) [
        | inl inside ↦
            let was = levelled.below k net i read (stood-there before after k net appends.extends inside at) reads in
            let there = was.0 in
            let more = longer before after appends.extends in
            let here = at_before k inside in
            let read_here = at_before read there in
            (omega (arith, there, more), elim was.1 [ inl lower ↦ inl (omega (arith, lower, here, read_here)) | inr same ↦ let e = same.0 in inr (omega (arith, e, here, read_here), same.1) ])
        | inr past ↦
            let is = appends.each k net past at in (
              reads_then (λ (x : ℕ). x < length after.nets) net.kind i read is.there reads,
              new_below k net i read past at reads
                  (held (MayReadNow before after named k) (reads_now net.kind) i read is.now reads),
            )
      ];
      counters = counter_zero;
    }

-- ---- a hub that gets its argument

pub set_elsewhere : {A : Type 0} (xs : List A) (i k : ℕ) (x : A) → k ≢ i → slice_get (slice_set xs i x) k ≡ slice_get xs k
set_elsewhere xs i k x differs = set_other xs i k x (λ same. differs (sym same))

-- the net of a Resize that gets its argument
abbrev pub given : Net → ℕ → Net
given net argument = record net { kind = Comb Resize (argument ∷ []) }

pub connected_here : (before after : Circuit) (number argument : ℕ) (is : IsConnected before after number argument) → slice_get after.nets number ≡ Some (given is.net argument)
connected_here before after number argument is =
    ap (λ (c : Circuit). slice_get c.nets number) is.is
    ∙ set_there before.nets number (given is.net argument) (slice_get_within before.nets number is.net is.was)

pub connected_elsewhere : (before after : Circuit) (number argument k : ℕ) (is : IsConnected before after number argument) → k ≢ number → slice_get after.nets k ≡ slice_get before.nets k
connected_elsewhere before after number argument k is differs = ap (λ (c : Circuit). slice_get c.nets k) is.is ∙ set_elsewhere before.nets number k (given is.net argument) differs

pub connected_length : (before after : Circuit) (number argument : ℕ) (is : IsConnected before after number argument) → length after.nets ≡ length before.nets
connected_length before after number argument is = ap (λ (c : Circuit). length c.nets) is.is ∙ length-set before.nets number (given is.net argument)

pub levelled_by_connect : (before after : Circuit) (level : ℕ → ℕ) (number argument : ℕ)
    → IsConnected before after number argument → argument < length before.nets → level argument < level number
    → IsLevelled before.nets level → IsLevelled after.nets level
levelled_by_connect before after level number argument is there lower levelled =
    let size = connected_length before after number argument is in
    record {
      below = λ k net i read at reads. elim (cases_eq k number) [
        | inl same ↦
            let own : ◌≡◌ {A = Net} (given is.net argument) net =
            same_Some (given is.net argument) net
            (sym (connected_here before after number argument is) ∙ ap (slice_get after.nets) (sym same)
            ∙ at) in
            let reads_it : slice_get (argument ∷ []) i ≡ Some read = ap (λ (n : Net). slice_get (reads_now n.kind) i) own ∙ reads in
            let e : read ≡ argument = only_one i argument read reads_it in
            (omega (arith, e, there, size), inl (subst (λ (x : ℕ). level x < level k) (sym e) (subst (λ (x : ℕ). level argument < level x) (sym same) lower)))
        | inr differs ↦
            let was = levelled.below k net i read (sym (connected_elsewhere before after number argument k is differs) ∙ at) reads in
            let inside = was.0 in
            (omega (arith, inside, size), was.1)
      ];
      counters = λ k counter. elim (cases_eq k number) [
        | inl same ↦
            let own : ◌≡◌ {A = Net} (given is.net argument) counter.at.net =
            same_Some (given is.net argument) counter.at.net
            (sym (connected_here before after number argument is) ∙ ap (slice_get after.nets) (sym same)
            ∙ counter.at.is) in
            absurd (none-some counter.frame (ap (λ (n : Net). counted_frame n.kind) own ∙ counter.at.counts))
        | inr differs ↦ levelled.counters k (record {
          frame = counter.frame;
          at =
              record {
                net = counter.at.net;
                is =
                    sym (connected_elsewhere before after number argument k is differs) ∙ counter.at.is;
                counts =
                    counter.at.counts;
              };
        })
      ];
    }
  where
    cases_eq : (a b : ℕ) → (a ≡ b) ⊎ (a ≢ b)
    cases_eq a b = elim (cases_lt a b) [
      | inl less ↦ inr (λ e. absurd (omega (arith, less, e)))
      | inr more ↦ elim (cases_lt b a) [ inl greater ↦ inr (λ e. absurd (omega (arith, greater, e))) | inr same ↦ inl (omega (arith, more, same)) ]
    ]

    only_one : (i argument read : ℕ) → slice_get (argument ∷ []) i ≡ Some read → read ≡ argument
    only_one zero argument read at = sym (same_Some argument read at)
    only_one (suc i) argument read at = absurd (none-some read at)

-- a hub that is open gets its argument
pub goes_connected : (closed hubs : ℕ) (before after : Circuit) (number argument : ℕ) (old : List ℕ)
    (is : IsConnected before after number argument) → is.net.kind ≡ Comb Resize old → closed ≤ number
    → number < hubs → GoesOn closed hubs before after
goes_connected closed hubs before after number argument old is kind low high = record {
  cycles = ap (λ (c : Circuit). c.cycles) is.is;
  nets = λ k inside. elim (cases_lt k number) [
    | inl less ↦ inl (connected_elsewhere before after number argument k is (λ e. absurd (omega (arith, less, e))))
    | inr more ↦ elim (cases_lt number k) [
      | inl greater ↦ inl (connected_elsewhere before after number argument k is (λ e. absurd (omega (arith, greater, e))))
      | inr same ↦
          let e : number ≡ k = omega (arith, more, same) in
          subst (λ (x : ℕ). (slice_get after.nets x ≡ slice_get before.nets x) ⊎ ((closed ≤ x) × (x < hubs) × IsReopened before.nets after.nets x)) e
          (inr (
            low,
            high,
            record {
              was = is.net;
              is = given is.net argument;
              old_args = old;
              new_args = argument ∷ [];
              there = is.was;
              later_there = connected_here before after number argument is;
              old_kind = kind;
              new_kind = refl;
              wide = refl;
              sign = refl;
            },
          ))
    ]
  ];
}

-- ---- the end

abbrev pub rank_of : List Net → (ℕ → ℕ) → ℕ → ℕ
rank_of nets level k = level k * length nets + k

pub levelled_is_ranked : (nets : List Net) (level : ℕ → ℕ) → IsLevelled nets level → IsRanked nets (rank_of nets level)
levelled_is_ranked nets level is = record {
  falls = λ k net at i d within.
      let read : ℕ = slice_index_or (reads_now net.kind) i d in
      let reads : slice_get (reads_now net.kind) i ≡ Some read = slice_get-get_or (reads_now net.kind) i d within in
      let below = is.below k net i read at reads in
      let there = below.0 in
      elim below.1 [
        | inl lower ↦ let more : suc (level read) * length nets ≤ level k * length nets = mul-le-mul_right (length nets) lower in omega (arith, more, there)
        | inr same ↦ let e : level read * length nets ≡ level k * length nets = ap (λ (l : ℕ). l * length nets) same.0 in let early = same.1 in omega (arith, e, early)
      ];
}

-- ---- levels of what a call answers

-- a net that a call puts in stands no higher than the call
pub new_level : (before after : Circuit) (level : ℕ → ℕ) (own k : ℕ) → length before.nets ≤ k → level_behind before after level own k ≤ own
new_level before after level own k past =
    let e = cond-false {A = ℕ} (nat_lt k (length before.nets)) (level k) (level_of own (reads_now (net_at after.nets k).kind)) (le-ltb k (length before.nets) past) in
    let low = low_level own (reads_now (net_at after.nets k).kind) in
    omega (arith, e, low)

-- a register that a call puts in reads nothing
pub register_level : (before after : Circuit) (level : ℕ → ℕ) (own number : ℕ) → IsNewReg before after number → level_behind before after level own number ≡ 0
register_level before after level own number is =
    let there : ◌≡◌ {A = Net} (net_at after.nets number) is.net = get_or_from_slice_get after.nets number is.net _ is.is in
    let kind : (net_at after.nets number).kind ≡ Reg is.frame is.slot is.first is.from = ap (λ (n : Net). n.kind) there ∙ is.holds in
    cond-false {A = ℕ} (nat_lt number (length before.nets)) (level number)
    (level_of own (reads_now (net_at after.nets number).kind)) (le-ltb number (length before.nets) is.new)
    ∙ ap (λ (k : NetKind). level_of own (reads_now k)) kind

-- an answer that is the source, or was put in
pub answer_level : (before after : Circuit) (level : ℕ → ℕ) (own from number : ℕ) → from < length before.nets
    → level from ≤ own → (number ≡ from) ⊎ (length before.nets ≤ number)
    → level_behind before after level own number ≤ own
answer_level before after level own from number there low (inl same) =
    let e = level_stays before after level own from there in
    subst (λ (n : ℕ). level_behind before after level own n ≤ own) (sym same) (omega (arith, e, low))
answer_level before after level own from number there low (inr past) = new_level before after level own number past

-- a result that is an argument, or was put in
pub result_level : (before after : Circuit) (level : ℕ → ℕ) (own number : ℕ) (args : List ℕ)
    → ((read : ℕ) → Contains args read → (read < length before.nets) × (level read ≤ own))
    → Contains args number ⊎ (length before.nets ≤ number) → level_behind before after level own number ≤ own
result_level before after level own number args low (inl among) =
    let is = low number among in
    let e = level_stays before after level own number is.0 in
    let less = is.1 in
    omega (arith, e, less)
result_level before after level own number args low (inr past) = new_level before after level own number past
