-- What is carried out of words.
use Rattle.std.proofs.Common.{◌≡◌, ℕ, List, Option, Some, subst}
use Rattle.fx_top.specs.declared.answer.Answer.{Answer}
use Rattle.fx_top.specs.Call.{Files, Stream}
use Rattle.fx_top.specs.Caused.{IsCarriedOut}
use Rattle.fx_top.specs.Command.{Asked, asked_of}

-- what is carried out of the words is what they ask for
pub carried : (files : Files) (out : Stream) (words : List (List ℕ)) (answer : Answer) (asked : Asked)
    → IsCarriedOut files out (asked_of words) answer → asked_of words ≡ Some asked
    → IsCarriedOut files out (Some asked) answer
carried files out words answer asked why shape = subst (λ (named : Option Asked). IsCarriedOut files out named answer) shape why
