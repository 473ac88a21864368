use Rattle.std.proofs.Common.{◌≡◌, ◌+◌, ◌∷◌, ◌++◌, List, ℕ, true, false, map, drop, get_or, ap, arith}
use Rattle.std.proofs.lemmas.Bool.{ne_eqb}
use Rattle.hw_names.specs.Names.{plain_byte, undoubled}
use Rattle.hw_names.proofs.Plain.{all_put, left_on, put_on, second_stays, other_stays}
use Rattle.hw_names.proofs.names.plain_name.Goals.{then-byte-eq47+then-not-is_second, else-byte-eq47+in_ok-push, else-byte-eq47-via-then-byte-eq47+else-not-is_second}
use Rattle.hw_names.proofs.names.plain_name.Goals.{else-byte-eq47-via-else-byte-eq47}
use Rattle.hw_names.proofs.names.plain_name.Goals as goal

pub loop-byte-init : goal.loop-byte-init
loop-byte-init c = ap (λ (name : List ℕ). name ++ map plain_byte (undoubled false c.args.path.now)) c.new-name.ensures.items

pub loop-byte-preserved : goal.loop-byte-preserved
loop-byte-preserved c =
    let path = c.args.path.now in
    let i = c.loop-byte.byte-index in
    let whole = map plain_byte (undoubled false path) in
    elim c.if-byte-eq47.branch [
      | then-byte-eq47+then-not-is_second w ↦
          let first : c.loop-byte.is_second ≡ false = w.if-not-is_second.true in
          rw (w.name-is, w.is_second-is) (left_on c.loop-byte.name.items c.loop-byte.is_second path whole i c.loop-byte-test.true c.loop-byte.invariant w.if-byte-eq47.true first)
      | else-byte-eq47+in_ok-push w ↦
          let stays : undoubled c.loop-byte.is_second (get_or path i 0 ∷ drop (i + 1) path) ≡ get_or path i 0 ∷ undoubled false (drop (i + 1) path) = elim w.else-byte-eq47.branch [
            | else-byte-eq47-via-then-byte-eq47+else-not-is_second w' ↦
                let second : c.loop-byte.is_second ≡ true = w'.if-not-is_second.false in
                second_stays c.loop-byte.is_second (get_or path i 0) (drop (i + 1) path) second
            | else-byte-eq47-via-else-byte-eq47 w' ↦
                other_stays c.loop-byte.is_second (get_or path i 0) (drop (i + 1) path) (ne_eqb (get_or path i 0) 47 (λ e. let differs = w'.if-byte-eq47.false in omega (arith, differs, e)))
          ] in
          rw (w.name-is, w.is_second-is) (put_on c.loop-byte.name.items c.loop-byte.is_second path whole i
          c.loop-byte-test.true c.loop-byte.invariant w.plain_byte.result w.push.new.self.items stays
          w.plain_byte.ensures w.in_ok-push.ensures.items)
    ]

pub returns : goal.returns
returns c = all_put c.loop-byte.name.items c.loop-byte.is_second c.args.path.now (map plain_byte (undoubled false c.args.path.now)) c.loop-byte.byte-index c.loop-byte-test.false c.loop-byte.invariant
