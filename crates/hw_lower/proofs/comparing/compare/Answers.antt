use Rattle.std.proofs.Common.{int_lt, int_le, not, refl}
use Rattle.std.specs.Ordering.{int_eq}
use Rattle.hw_lower.proofs.Truths.{told-bit, told-opposite, not-less}
use Rattle.hw_lower.proofs.comparing.compare.Goals as goal

pub returns-in-Eq : goal.returns-in-Eq
returns-in-Eq c = rw c.in-Eq.is (told-bit (λ numbers. int_eq (numbers c.args.one.place) (numbers c.args.other.place)) (rw c.bit_word.ensures at c.binary.ensures))

pub returns-in-Lt : goal.returns-in-Lt
returns-in-Lt c = rw c.in-Lt.is (told-bit (λ numbers. int_lt (numbers c.args.one.place) (numbers c.args.other.place)) (rw c.bit_word-in-Lt.ensures at c.binary-in-Lt.ensures))

pub returns-in-Gt : goal.returns-in-Gt
returns-in-Gt c = rw c.in-Gt.is (told-bit (λ numbers. int_lt (numbers c.args.other.place) (numbers c.args.one.place)) (rw c.bit_word-in-Gt.ensures at c.binary-in-Gt.ensures))

pub returns-in-Ne : goal.returns-in-Ne
returns-in-Ne c =
    rw c.in-Ne.is (told-opposite (λ numbers. int_eq (numbers c.args.one.place) (numbers c.args.other.place))
    (λ numbers. not (int_eq (numbers c.args.one.place) (numbers c.args.other.place)))
    (λ numbers. refl) c.opposite.ensures)

pub returns-in-Le : goal.returns-in-Le
returns-in-Le c =
    rw c.in-Le.is (told-opposite (λ numbers. int_lt (numbers c.args.other.place) (numbers c.args.one.place))
    (λ numbers. int_le (numbers c.args.one.place) (numbers c.args.other.place))
    (λ numbers. not-less (numbers c.args.other.place) (numbers c.args.one.place)) c.opposite-in-Le.ensures)

pub returns-in-Ge : goal.returns-in-Ge
returns-in-Ge c =
    rw c.in-Ge.is (told-opposite (λ numbers. int_lt (numbers c.args.one.place) (numbers c.args.other.place))
    (λ numbers. int_le (numbers c.args.other.place) (numbers c.args.one.place))
    (λ numbers. not-less (numbers c.args.one.place) (numbers c.args.other.place)) c.opposite-in-Ge.ensures)
