-- A netlist with a net of each kind, and its rows over six clocks, two of which make a base sample, by hand.
use Rattle.std.proofs.Common.{ℕ, zero, suc, ◌<◌, ℤ, pos, negsuc, ◌*ℤ◌, Bool, true, false, List, [], ◌∷◌, All, codes, refl, subst, arith}
use Rattle.std.proofs.Math.Dec.{lit<, lit≤}
use Rattle.std.proofs.lemmas.Int.{ints}
use Rattle.std.proofs.lemmas.Option.{same_Some}
use lib.Signed.{le_z_yes}
use Rattle.math_num.specs.Word.{InWord, IsWord}
use Rattle.hw_net.specs.declared.netlist.Frame.{Frame}
use Rattle.hw_net.specs.declared.netlist.Net.{Net}
use Rattle.hw_net.specs.declared.netlist.NetKind.{NetKind}
use Rattle.hw_net.specs.declared.netlist.NetKind.TheVariants.{Comb, Reg, EnReg, Bridge, Unit, Counter}
use Rattle.hw_net.specs.declared.netlist.NetOp.TheVariants.{Input, Add, Choose, Less}
use Rattle.hw_net.specs.declared.netlist.NetPort.{NetPort}
use Rattle.hw_net.specs.Circuit.{Circuit}
use Rattle.hw_net.specs.Netlist.{IsInput, IsKind, IsNetlist, IsRanked, HoldsProducts, reads, reads_now}
use Rattle.math_list.proofs.ByRecursion.{all_of}
use Rattle.hw_shows.proofs.Small.{each_by}

-- ---- the nets
abbrev pub net : Bool → ℕ → NetKind → Net
net signed width kind = record { signed = signed; width = width; kind = kind }

-- each base sample from the first on, from the second on, and every other one from the second on
abbrev pub each_sample : Frame
each_sample = record { period = 1; latency = 0 }

abbrev later_samples : Frame
later_samples = record { period = 1; latency = 1 }

abbrev odd_samples : Frame
odd_samples = record { period = 2; latency = 1 }

abbrev pub nets : List Net
nets = net true 2 (Comb (Input 0) []) ∷ net true 2 (Comb (Input 1) []) ∷ net false 1 (Counter each_sample) ∷ net true 2 (Comb Choose (2 ∷ 0 ∷ 1 ∷ [])) ∷ net true 4 (Unit 3 0)
    ∷ net true 4 (Reg each_sample 0 (pos 7) 4) ∷ net true 4 (Bridge odd_samples 1 5) ∷ net true 2 (EnReg each_sample 1 true (negsuc 0) 0) ∷ net true 2 (EnReg each_sample 1 false (negsuc 0) 0)
    ∷ net false 1 (Comb Less (0 ∷ 1 ∷ [])) ∷ net false 2 (Counter later_samples) ∷ net true 2 (Comb Add (0 ∷ 0 ∷ [])) ∷ []

abbrev port : List ℕ → ℕ → NetPort
port name number = record { name = name; net = number; period = 1; latency = 0 }

abbrev pub circuit : List Net → Circuit
circuit nets = record { cycles = 2; nets = nets; inputs = port (codes "a") 0 ∷ port (codes "b") 1 ∷ []; outputs = port (codes "y") 6 ∷ []; labels = [] }

-- ---- it can be run
-- -2 to 1 times -2 to 1 is -2 to 4
products : (x y : ℤ) → InWord 2 true x → InWord 2 true y → InWord 4 true (x *ℤ y)
products (pos (suc (suc n))) y left right = let high = left.high in absurd (omega (arith, ints, high))
products (negsuc (suc (suc n))) y left right = let low = left.low in absurd (omega (arith, ints, low))
products (pos zero) y left right = let low = right.low in let high = right.high in record { low = omega (arith, ints, low, high); high = omega (arith, ints, low, high) }
products (pos (suc zero)) y left right = let low = right.low in let high = right.high in record { low = omega (arith, ints, low, high); high = omega (arith, ints, low, high) }
products (negsuc zero) y left right = let low = right.low in let high = right.high in record { low = omega (arith, ints, low, high); high = omega (arith, ints, low, high) }
products (negsuc (suc zero)) y left right = let low = right.low in let high = right.high in record { low = omega (arith, ints, low, high); high = omega (arith, ints, low, high) }

holds : HoldsProducts nets 3 0 4 true
holds = record {
  holds = λ one other at also x y.
      subst (λ (l : Net). InWord l.width l.signed x → InWord other.width other.signed y → InWord 4 true (x *ℤ y)) (same_Some (net true 2 (Comb Choose (2 ∷ 0 ∷ 1 ∷ []))) one at)
      (subst (λ (r : Net). InWord 2 true x → InWord r.width r.signed y → InWord 4 true (x *ℤ y)) (same_Some (net true 2 (Comb (Input 0) [])) other also) (products x y));
}

abbrev IsKindOf : Net → Type 0
IsKindOf net = IsKind nets 2 2 net.width net.signed net.kind

kinds : All IsKindOf nets
kinds = all_of IsKindOf nets (
  (refl, lit< tt),
  (
    (refl, lit< tt),
    (
      (lit< tt, record { low = le_z_yes tt; high = le_z_yes tt }),
      (
        (refl, tt),
        (
          holds,
          (
            (lit< tt, record { net = net true 4 (Unit 3 0); is = refl; wide = refl; sign = refl }, record { low = le_z_yes tt; high = le_z_yes tt }),
            (
              (lit< tt, lit< tt, record { net = net true 4 (Reg each_sample 0 (pos 7) 4); is = refl; wide = refl; sign = refl }),
              (
                (lit< tt, record { net = net true 2 (Comb (Input 0) []); is = refl; wide = refl; sign = refl }, record { low = le_z_yes tt; high = le_z_yes tt }),
                (
                  (lit< tt, record { net = net true 2 (Comb (Input 0) []); is = refl; wide = refl; sign = refl }, record { low = le_z_yes tt; high = le_z_yes tt }),
                  (
                    (refl, tt),
                    ((lit< tt, record { low = le_z_yes tt; high = le_z_yes tt }), ((refl, tt), tt)),
                  ),
                ),
              ),
            ),
          ),
        ),
      ),
    ),
  ),
)

abbrev AreThere : Net → Type 0
AreThere net = All (λ read. read < 12) (reads net.kind)

none_there : All (λ (read : ℕ). read < 12) []
none_there = all_of (λ (read : ℕ). read < 12) [] tt

two_there : (one other : ℕ) → one < 12 → other < 12 → All (λ (read : ℕ). read < 12) (one ∷ other ∷ [])
two_there one other low high = all_of (λ (read : ℕ). read < 12) (one ∷ other ∷ []) (low, (high, tt))

one_there : (one : ℕ) → one < 12 → All (λ (read : ℕ). read < 12) (one ∷ [])
one_there one low = all_of (λ (read : ℕ). read < 12) (one ∷ []) (low, tt)

there : All AreThere nets
there = all_of AreThere nets (
  none_there,
  (
    none_there,
    (
      none_there,
      (
        all_of (λ (read : ℕ). read < 12) (2 ∷ 0 ∷ 1 ∷ []) (lit< tt, (lit< tt, (lit< tt, tt))),
        (
          two_there 3 0 (lit< tt) (lit< tt),
          (
            one_there 4 (lit< tt),
            (
              one_there 5 (lit< tt),
              (
                two_there 1 0 (lit< tt) (lit< tt),
                (
                  two_there 1 0 (lit< tt) (lit< tt),
                  (
                    two_there 0 1 (lit< tt) (lit< tt),
                    (none_there, (two_there 0 0 (lit< tt) (lit< tt), tt)),
                  ),
                ),
              ),
            ),
          ),
        ),
      ),
    ),
  ),
)

-- each stands behind those that it reads in its clock
abbrev Falls : ℕ → Net → Type 0
Falls k net = All (λ read. read < k) (reads_now net.kind)

none_read : (k : ℕ) → All (λ (read : ℕ). read < k) []
none_read k = all_of (λ (read : ℕ). read < k) [] tt

two_read : (k one other : ℕ) → one < k → other < k → All (λ (read : ℕ). read < k) (one ∷ other ∷ [])
two_read k one other low high = all_of (λ (read : ℕ). read < k) (one ∷ other ∷ []) (low, (high, tt))

ranked : IsRanked nets (λ k. k)
ranked = record {
  falls = each_by Falls nets (none_read 0) (none_read 1) (none_read 2) (all_of (λ (read : ℕ). read < 3) (2 ∷ 0 ∷ 1 ∷ []) (lit< tt, (lit< tt, (lit< tt, tt)))) (two_read 4 3 0 (lit< tt) (lit< tt))
      (none_read 5) (all_of (λ (read : ℕ). read < 6) (5 ∷ []) (lit< tt, tt)) (none_read 7) (none_read 8) (two_read 9 0 1 (lit< tt) (lit< tt)) (none_read 10) (two_read 11 0 0 (lit< tt) (lit< tt));
}

abbrev AreWord : Net → Type 0
AreWord net = IsWord net.width net.signed

pub is_netlist : IsNetlist (circuit nets)
is_netlist = record {
  cycles = lit< tt;
  words = all_of AreWord nets (
    (lit≤ tt, lit≤ tt),
    (
      (lit≤ tt, lit≤ tt),
      (
        (lit≤ tt, lit≤ tt),
        (
          (lit≤ tt, lit≤ tt),
          (
            (lit≤ tt, lit≤ tt),
            (
              (lit≤ tt, lit≤ tt),
              (
                (lit≤ tt, lit≤ tt),
                (
                  (lit≤ tt, lit≤ tt),
                  (
                    (lit≤ tt, lit≤ tt),
                    ((lit≤ tt, lit≤ tt), ((lit≤ tt, lit≤ tt), ((lit≤ tt, lit≤ tt), tt))),
                  ),
                ),
              ),
            ),
          ),
        ),
      ),
    ),
  );
  kinds = kinds;
  there = there;
  ranked = (λ k. k, ranked);
  inputs = each_by (λ (k : ℕ) (p : NetPort). IsInput nets p.net k) (port (codes "a") 0 ∷ port (codes "b") 1 ∷ [])
      (record { net = net true 2 (Comb (Input 0) []); is = refl; shows = refl }) (record { net = net true 2 (Comb (Input 1) []); is = refl; shows = refl });
  outputs = all_of (λ (p : NetPort). p.net < 12) (port (codes "y") 6 ∷ []) (lit< tt, tt);
}

-- ---- none: a net that reads itself in its clock, a product of 3 bits, and a count of 1 bit up to 3
abbrev of_one : Net → Net → Circuit
of_one first second = record { cycles = 2; nets = first ∷ second ∷ []; inputs = port (codes "a") 0 ∷ []; outputs = []; labels = [] }

abbrev given : Net
given = net true 2 (Comb (Input 0) [])

reads_itself : ¬ IsNetlist (of_one given (net true 2 (Comb Add (0 ∷ 1 ∷ []))))
reads_itself is =
    let less : is.ranked.0 1 < is.ranked.0 1 = is.ranked.1.falls 1 (net true 2 (Comb Add (0 ∷ 1 ∷ []))) refl 1 1 (lit< tt) in
    absurd (omega (arith, less))

too_narrow : ¬ IsNetlist (of_one given (net true 3 (Unit 0 0)))
too_narrow is =
    let held : HoldsProducts (given ∷ net true 3 (Unit 0 0) ∷ []) 0 0 3 true = is.kinds 1 given (lit< tt) in
    let four : InWord 3 true (pos 4) = held.holds given given refl refl (negsuc 1) (negsuc 1) (record { low = le_z_yes tt; high = le_z_yes tt }) (record { low = le_z_yes tt; high = le_z_yes tt }) in
    absurd four.high.le

counts_too_far : ¬ IsNetlist (of_one given (net false 1 (Counter later_samples)))
counts_too_far is = absurd (is.kinds 1 given (lit< tt)).1.high.le
