-- What registers and multiplications are left where nets read by other numbers, and the Counter of a
-- frame.
use Rattle.std.proofs.Common.{◌≡◌, ℕ, zero, suc, ◌+◌, ◌<◌, List, [], ◌∷◌, ◌++◌, map, flat_map, length, Contains, Option, None, Some, Bool, true, false, if◌then◌else◌, slice_get, get_or, refl, ap}
use Rattle.std.proofs.Common.{arith}
use Rattle.std.specs.List.{AllZip}
use Rattle.std.proofs.lemmas.Option.{none-some, same_Some, slice_get_within}
use Rattle.hw_net.specs.declared.netlist.Frame.{Frame}
use Rattle.hw_net.specs.declared.netlist.Net.{Net}
use Rattle.hw_net.specs.declared.netlist.NetOp.{NetOp}
use Rattle.hw_net.specs.declared.netlist.NetOp.TheVariants.{Input, Const, Resize, ShiftUp, ShiftDown, Add, Subtract, Negate, Multiply, And, Or, Xor, Not, Less, Equal, Choose, Slice}
use Rattle.hw_net.specs.declared.netlist.NetKind.{NetKind}
use Rattle.hw_net.specs.declared.netlist.NetKind.TheVariants.{Comb, Reg, EnReg, Acc, Bridge, Unit, Counter}
use Rattle.hw_net.specs.Frames.{counted_frame, counter_from, counter_of, is_frame}
use Rattle.hw_net.specs.Netlist.{IsKind, reads, reads_now}
use Rattle.hw_net.specs.Operation.{arity}
use Rattle.hw_net.specs.Products.{Product, comb_product, op_product, unit_product}
use Rattle.hw_net.proofs.Index.{same-is}
use Rattle.hw_refine.specs.Redirects.{redirected}
use Rattle.hw_refine.specs.Refines.{held, held_count}
use Rattle.math_list.proofs.Elements.{found, stands}

-- ---- lists

pub further : {X : Type 0} (x y : X) (xs : List X) → Contains xs y → Contains (x ∷ xs) y
further x y xs c = stands (x ∷ xs) (suc c.0) y (found xs y c)

pub zip-map : {X Y : Type 0} (R : X → Y → Type 0) (f : X → Y) (xs : List X) → ((x : X) → Contains xs x → R x (f x)) → AllZip R xs (map f xs)
zip-map R f [] each = tt
zip-map R f (x ∷ xs) each = (each x (0, omega arith, refl), zip-map R f xs (λ y c. each y (further x y xs c)))

pub ones : (nets : List Net) → flat_map (λ (net : Net). net ∷ []) nets ≡ nets
ones [] = refl
ones (net ∷ nets) = ap (λ (rest : List Net). net ∷ rest) (ones nets)

-- ---- nets

-- the first Counter of a frame is one of the nets, and counts it
pub counter-at : (nets : List Net) (start j : ℕ) (frame : Frame) → counter_from nets start frame ≡ Some j
    → (k : ℕ) × (net : Net) × (j ≡ start + k) × (slice_get nets k ≡ Some net)
    × (counted_frame net.kind ≡ Some frame)
counter-at [] start j frame e = absurd (none-some j e)
counter-at (one ∷ nets) start j frame e = by (counter-at nets (start + 1) j frame) (is_frame frame (counted_frame one.kind)) refl e
  where
    own : (found : Option Frame) → is_frame frame found ≡ true → found ≡ Some frame
    own None h = absurd (cc h)
    own (Some other) h = ap Some (same-is other frame h)

    by : (counter_from nets (start + 1) frame ≡ Some j → (k : ℕ) × (net : Net) × (j ≡ start + 1 + k) × (slice_get nets k ≡ Some net) × (counted_frame net.kind ≡ Some frame))
        → (b : Bool) → is_frame frame (counted_frame one.kind) ≡ b → (if b then Some start else counter_from nets (start + 1) frame) ≡ Some j
        → (k : ℕ) × (net : Net) × (j ≡ start + k) × (slice_get (one ∷ nets) k ≡ Some net) × (counted_frame net.kind ≡ Some frame)
    by rest true is h = (0, one, (let same : start ≡ j = same_Some start j h in omega (arith, same)), refl, own (counted_frame one.kind) is)
    by rest false is h = (let r = rest h in (suc r.0, r.1, (let a = r.2 in omega (arith, a)), r.3, r.4))

pub counter-below : (nets : List Net) (j : ℕ) (frame : Frame) → counter_of nets frame ≡ Some j → j < length nets
counter-below nets j frame e =
    let r = counter-at nets 0 j frame e in
    let a = r.2 in
    let b = slice_get_within nets r.0 r.1 r.3 in
    omega (arith, a, b)

-- what is read in the same clock is read
pub now-read : (kind : NetKind) (read : ℕ) → Contains (reads_now kind) read → Contains (reads kind) read
now-read (Comb op args) read c = c
now-read (Reg frame slot first from) read c = absurd (let a = c.1 in omega (arith, a))
now-read (EnReg frame enable reset first from) read c = absurd (let a = c.1 in omega (arith, a))
now-read (Acc frame enable from) read c = absurd (let a = c.1 in omega (arith, a))
now-read (Bridge frame live from) read c = c
now-read (Unit left right) read c = c
now-read (Counter frame) read c = absurd (let a = c.1 in omega (arith, a))

pub held-moved : (place : ℕ → ℕ) (kind : NetKind) → held (redirected place kind) ≡ held kind
held-moved place (Comb op args) = refl
held-moved place (Reg frame slot first from) = refl
held-moved place (EnReg frame enable reset first from) = refl
held-moved place (Acc frame enable from) = refl
held-moved place (Bridge frame live from) = refl
held-moved place (Unit left right) = refl
held-moved place (Counter frame) = refl

pub held-append : (xs ys : List Net) → held_count (xs ++ ys) ≡ held_count xs + held_count ys
held-append [] ys = omega arith
held-append (x ∷ xs) ys = (let e = held-append xs ys in omega (arith, e))

-- ---- multiplications of nets that read by other numbers

module _ (place : ℕ → ℕ) (Q : ℕ → ℕ → Type 0) where
  abbrev pub Factors : Product → Product → Type 0
  Factors was is = Q was.left is.left × Q was.right is.right

  pub unit-zip : (w v : ℕ) (kind : NetKind) → ((read : ℕ) → Contains (reads kind) read → Q read (place read)) → AllZip Factors (unit_product w kind) (unit_product v (redirected place kind))
  unit-zip w v (Comb op args) on = tt
  unit-zip w v (Reg frame slot first from) on = tt
  unit-zip w v (EnReg frame enable reset first from) on = tt
  unit-zip w v (Acc frame enable from) on = tt
  unit-zip w v (Bridge frame live from) on = tt
  unit-zip w v (Unit left right) on = ((on left (0, omega arith, refl), on right (1, omega arith, refl)), tt)
  unit-zip w v (Counter frame) on = tt

  factors-zip : (args : List ℕ) → length args ≡ 2 → ((read : ℕ) → Contains args read → Q read (place read))
      → Q (get_or args 0 0) (get_or (map place args) 0 0) × Q (get_or args 1 0) (get_or (map place args) 1 0)
  factors-zip [] e on = absurd (omega (arith, e))
  factors-zip (x ∷ []) e on = absurd (omega (arith, e))
  factors-zip (x ∷ y ∷ rest) e on = (on x (0, omega arith, refl), on y (1, omega arith, refl))

  op-zip : (w v : ℕ) (args : List ℕ) (op : NetOp) → length args ≡ arity op
      → ((read : ℕ) → Contains args read → Q read (place read))
      → AllZip Factors (op_product w args op) (op_product v (map place args) op)
  op-zip w v args (Input number) e on = tt
  op-zip w v args (Const value) e on = tt
  op-zip w v args Resize e on = tt
  op-zip w v args (ShiftUp places) e on = tt
  op-zip w v args (ShiftDown places) e on = tt
  op-zip w v args Add e on = tt
  op-zip w v args Subtract e on = tt
  op-zip w v args Negate e on = tt
  op-zip w v args Multiply e on = (factors-zip args e on, tt)
  op-zip w v args And e on = tt
  op-zip w v args Or e on = tt
  op-zip w v args Xor e on = tt
  op-zip w v args Not e on = tt
  op-zip w v args Less e on = tt
  op-zip w v args Equal e on = tt
  op-zip w v args Choose e on = tt
  op-zip w v args (Slice high low) e on = tt

  pub comb-zip : (w v : ℕ) (nets : List Net) (cycles inputs u : ℕ) (s : Bool) (kind : NetKind)
      → IsKind nets cycles inputs u s kind → ((read : ℕ) → Contains (reads kind) read → Q read (place read))
      → AllZip Factors (comb_product w kind) (comb_product v (redirected place kind))
  comb-zip w v nets cycles inputs u s (Comb op args) is on = op-zip w v args op is.0 on
  comb-zip w v nets cycles inputs u s (Reg frame slot first from) is on = tt
  comb-zip w v nets cycles inputs u s (EnReg frame enable reset first from) is on = tt
  comb-zip w v nets cycles inputs u s (Acc frame enable from) is on = tt
  comb-zip w v nets cycles inputs u s (Bridge frame live from) is on = tt
  comb-zip w v nets cycles inputs u s (Unit left right) is on = tt
  comb-zip w v nets cycles inputs u s (Counter frame) is on = tt
