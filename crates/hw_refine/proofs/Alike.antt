-- Copies and repeated operations show the same.
use Rattle.std.proofs.Common.{ℕ, Bool, subst}
use Rattle.math_num.specs.Word.{InWord, IsWrapped}
use Rattle.hw_net.specs.declared.netlist.NetKind.{NetKind}
use Rattle.hw_net.specs.NetRows.{NetShows, operands_at}
use Rattle.hw_net.specs.Operation.{given_by}
use Rattle.math_num.proofs.Residues.{one-wrapped}
use Rattle.math_num.proofs.Words.{wrapped-is}
use Rattle.hw_refine.specs.Same.{CopiesShowSame, RepeatsShowSame}

pub copies : CopiesShowSame
copies netlist k read both kind n inputs rows are c below =
    let h = subst (λ (t : NetKind). NetShows netlist.cycles n inputs rows both.net.width both.net.signed t (rows k)) kind (are.shows k both.net both.is) in
    let a = are.in_word read both.second both.second_is c below in
    let b : InWord both.net.width both.net.signed (rows read c) =
    subst (λ (s : Bool). InWord both.net.width s (rows read c)) both.sign
    (subst (λ (w : ℕ). InWord w both.second.signed (rows read c)) both.wide a) in
    wrapped-is (rows read c) both.net.width both.net.signed (rows k c) both.word b (h c below)

pub repeats : RepeatsShowSame
repeats netlist k other op args both kind second n inputs rows are c below =
    let h = subst (λ (t : NetKind). NetShows netlist.cycles n inputs rows both.net.width both.net.signed t (rows k)) kind (are.shows k both.net both.is) in
    let g = subst (λ (t : NetKind). NetShows netlist.cycles n inputs rows both.second.width both.second.signed t (rows other)) second (are.shows other both.second both.second_is) in
    let v = given_by op (λ number. inputs number c) (operands_at (λ net. rows net c) args) in
    let q : IsWrapped v both.net.width both.net.signed (rows other c) =
    subst (λ (s : Bool). IsWrapped v both.net.width s (rows other c)) both.sign
    (subst (λ (w : ℕ). IsWrapped v w both.second.signed (rows other c)) both.wide (g c below)) in
    one-wrapped v both.net.width both.net.signed (rows k c) (rows other c) both.word (h c below) q
