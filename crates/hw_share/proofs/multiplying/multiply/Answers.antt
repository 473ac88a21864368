use Rattle.std.proofs.Common.{◌≡◌, ◌+◌, ◌<◌, ◌≤◌, IfOk, OnOk, ◌∷◌, [], List, ℕ, Bool, Some, true, false, ap, arith, length, slice_get}
use Rattle.std.proofs.lemmas.Option.{slice_get_within}
use Rattle.math_num.specs.Word.{IsWord}
use Rattle.hw_net.specs.declared.netlist.Net.{Net}
use Rattle.hw_share.specs.inner.Parts.{Grows, IsMultiplying}
use Rattle.hw_share.specs.inner.Steps.{IsMultiplier}
use Rattle.hw_net.proofs.Extends.{read-net}
use Rattle.hw_share.proofs.Multipliers.{multiply-part}
use Rattle.hw_share.proofs.multiplying.multiply.Goals as goal

narrow : (width : ℕ) (signed : Bool) → IsWord width signed → width ≤ 128
narrow width true is = is.1
narrow width false is = omega (arith, is.1)

-- the ends of a multiplier are among the nets that are read
inside : (nets read : List Net) (number : ℕ) (net : Net) → read ≡ nets → slice_get nets number ≡ Some net → number < length read
inside nets read number net same is = omega (arith, ap (λ (nets : List Net). length nets) same, slice_get_within nets number net is)

pub bounds-nets-left : goal.bounds-nets-left
bounds-nets-left c = inside c.args.net.now.nets c.nets.result.now c.args.ends.left c.requires.left.net c.nets.ensures c.requires.left.is

pub bounds-nets-right : goal.bounds-nets-right
bounds-nets-right c = inside c.args.net.now.nets c.nets-2.result.now c.args.ends.right c.requires.right.net c.nets-2.ensures c.requires.right.is

pub overflow_add-width : goal.overflow_add-width
overflow_add-width c =
    let can = c.requires in
    let left = read-net c.args.net.now.nets c.nets.result.now c.args.ends.left can.left.net c.index-nets-left.result c.nets.ensures can.left.is c.index-nets-left.is in
    let right = read-net c.args.net.now.nets c.nets-2.result.now c.args.ends.right can.right.net c.index-nets-right.result c.nets-2.ensures can.right.is c.index-nets-right.is in
    let one = ap (λ (net : Net). net.width) left in
    let other = ap (λ (net : Net). net.width) right in
    record { fits = omega (arith, one, other, narrow _ _ can.product) }

parts : (c : goal.After-add) → IfOk c.add.result (IsMultiplier c.args.net.now c.add.new.self c.args.ends) × OnOk c.add.result (length c.add.new.self.nets ≡ length c.args.net.now.nets + 1)
    × OnOk c.add.result (Grows c.args.net.now c.add.new.self (c.args.ends.left ∷ c.args.ends.right ∷ []) IsMultiplying 0)
parts c =
    let can = c.requires in
    let left : c.index-nets-left.result ≡ can.left.net =
    read-net c.args.net.now.nets c.nets.result.now c.args.ends.left can.left.net c.index-nets-left.result
    c.nets.ensures can.left.is c.index-nets-left.is in
    let right : c.index-nets-right.result ≡ can.right.net =
    read-net c.args.net.now.nets c.nets-2.result.now c.args.ends.right can.right.net c.index-nets-right.result
    c.nets-2.ensures can.right.is c.index-nets-right.is in
    multiply-part c.add.result c.args.net.now c.add.new.self c.args.ends can c.add.ensures.number (rw (left, right) at c.add.ensures.grown)

pub returns-clause-is : goal.returns-clause-is
returns-clause-is c = (parts c).0

pub returns-clause-long : goal.returns-clause-long
returns-clause-long c = (parts c).1

pub returns-clause-grown : goal.returns-clause-grown
returns-clause-grown c = (parts c).2

pub offset_bounds-nets-left : goal.offset_bounds-nets-left
offset_bounds-nets-left c =
    let low = inside c.args.net.now.nets c.nets.result.now c.args.ends.left c.requires.left.net c.nets.ensures c.requires.left.is in
    omega (arith, low)

pub offset_bounds-nets-right : goal.offset_bounds-nets-right
offset_bounds-nets-right c =
    let low = inside c.args.net.now.nets c.nets-2.result.now c.args.ends.right c.requires.right.net c.nets-2.ensures c.requires.right.is in
    omega (arith, low)
