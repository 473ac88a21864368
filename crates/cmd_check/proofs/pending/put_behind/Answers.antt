use Rattle.std.proofs.Common.{◌≡◌, ◌∙◌, ◌++◌, [], List, Some, ℕ, ap, refl}
use Rattle.arrayvec.specs.ArrayVec.{ArrayVec}
use Rattle.cmd_check.proofs.PieceBytes.{all_put, both, none_of, part_put, passed_over, waits_more}
use Rattle.cmd_check.proofs.pending.put_behind.Goals as goal

pub returns-in-Some : goal.returns-in-Some
returns-in-Some g c = both c.put_waiting.ensures.adds (passed_over c.put_waiting.new.out c.put_waiting.new.pending c.in-Some._fault c.args.bytes.now c.in-Some.is)

pub returns-in-Err-put_all : goal.returns-in-Err-put_all
returns-in-Err-put_all g c =
    let waiting = c.put_waiting.new.pending in
    let bytes = c.args.bytes.now in
    let calm = none_of waiting.fault c.in_default.not-Some in
    both c.put_waiting.ensures.adds
    (part_put c.put_waiting.new.out c.put_all.new.sink waiting (record { bytes = c.try_extend_from_slice.new.self; fault = Some c.in-Err-put_all.fault }) c.in-Err-put_all.fault bytes bytes calm refl
    (ap (λ (xs : List ℕ). xs ++ bytes) (c.put_waiting.ensures.none calm)) c.in-Err-put_all.ensures.cut c.in-Err-put_all.ensures.cause)

pub returns-in_default-put_all : goal.returns-in_default-put_all
returns-in_default-put_all g c =
    let waiting = c.put_waiting.new.pending in
    let bytes = c.args.bytes.now in
    let calm = none_of waiting.fault c.in_default.not-Some in
    let none : waiting.bytes.items ≡ [] = c.put_waiting.ensures.none calm in
    let put = c.in_default-put_all.ensures in
    both c.put_waiting.ensures.adds
    (all_put c.put_waiting.new.out c.put_all.new.sink waiting (record { bytes = c.try_extend_from_slice.new.self; fault = waiting.fault }) bytes bytes calm calm
    (ap (λ (left : ArrayVec ℕ). left.items) c.in-Err.ensures.err ∙ none) (ap (λ (xs : List ℕ). xs ++ bytes) none) put.whole put.faultless)

pub returns-in_default-try_extend_from_slice : goal.returns-in_default-try_extend_from_slice
returns-in_default-try_extend_from_slice g c =
    let calm = none_of c.put_waiting.new.pending.fault c.in_default.not-Some in
    both c.put_waiting.ensures.adds (waits_more c.put_waiting.new.out c.put_waiting.new.pending
    (record { bytes = c.try_extend_from_slice.new.self; fault = c.put_waiting.new.pending.fault })
    c.args.bytes.now calm calm c.in_default-try_extend_from_slice.ensures.ok)
