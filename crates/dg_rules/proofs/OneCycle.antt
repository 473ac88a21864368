-- A shortest cycle whose edges stand first is one.
use Rattle.std.proofs.Common.{◌≡◌, ℕ, inl, inr, List, [], ◌∷◌, length, reverse, refl, sym, ◌∙◌, ap, ap₂, subst, arith}
use Rattle.std.proofs.lemmas.List.{reverse-reverse, length-reverse}
use Rattle.dg_model.specs.declared.diagram.Diagram.{Diagram}
use Rattle.dg_model.specs.declared.fault.RuleFault.{RuleFault}
use Rattle.dg_model.specs.declared.fault.Shown.TheVariants.{Cycle}
use Rattle.dg_model.specs.declared.rule.Rule.{Rule}
use Rattle.dg_model.specs.Faults.{path_of, fault_of}
use Rattle.dg_model.specs.Loop.{IsInstantCycle, BreaksLoop}
use Rattle.dg_model.specs.Signals.{Attributes}
use Rattle.dg_rules.specs.ShownCycle.{first_edge, StandNoLater, BreaksLoopAlone}

none_later : (place : ℕ → ℕ → ℕ) (reader : ℕ) (xs ys : List ℕ) → length xs ≡ length ys → StandNoLater place reader xs ys → StandNoLater place reader ys xs → xs ≡ ys
none_later place reader [] [] long here there = refl
none_later place reader [] (y ∷ ys) long here there = absurd there
none_later place reader (x ∷ xs) [] long here there = absurd here
none_later place reader (x ∷ xs) (y ∷ ys) long (inl less) (inl more) = absurd (omega (arith, less, more))
none_later place reader (x ∷ xs) (y ∷ ys) long (inl less) (inr there) = absurd (omega (arith, less, ap (place reader) (there.0)))
none_later place reader (x ∷ xs) (y ∷ ys) long (inr here) (inl more) = absurd (omega (arith, more, ap (place reader) (here.0)))
none_later place reader (x ∷ xs) (y ∷ ys) long (inr here) (inr there) =
    ap (λ (b : ℕ). b ∷ xs) here.0
    ∙ ap (λ (bs : List ℕ). y ∷ bs) (none_later place x xs ys (omega (arith, long)) here.1 (subst (λ (b : ℕ). StandNoLater place b ys xs) (sym here.0) there.1))

-- the least block on any cycle is one
same_first : (diagram : Diagram) (attributes : Attributes) (one other : RuleFault) → (is : BreaksLoop diagram attributes one) → (too : BreaksLoop diagram attributes other) → is.first ≡ too.first
same_first diagram attributes one other is too =
    omega (arith, is.least (too.first ∷ too.more) too.is_cycle 0 0 (omega arith), too.least (is.first ∷ is.more) is.is_cycle 0 0 (omega arith))

pub one_cycle : (diagram : Diagram) (attributes : Attributes) (one other : RuleFault) → BreaksLoopAlone diagram attributes one → BreaksLoopAlone diagram attributes other → one ≡ other
one_cycle diagram attributes one other is too =
    let own = is.breaks in
    let its = too.breaks in
    let same = same_first diagram attributes one other own its in
    let its_here : IsInstantCycle diagram attributes (own.first ∷ its.more) = subst (λ (first : ℕ). IsInstantCycle diagram attributes (first ∷ its.more)) (sym same) its.is_cycle in
    let own_there : IsInstantCycle diagram attributes (its.first ∷ own.more) = subst (λ (first : ℕ). IsInstantCycle diagram attributes (first ∷ own.more)) same own.is_cycle in
    let long : length own.more ≡ length its.more = omega (arith, is.shortest its.more its_here, too.shortest own.more own_there) in
    let here = is.first its.more its_here (sym long) in
    let there : StandNoLater (first_edge diagram attributes) own.first (reverse its.more) (reverse own.more) =
    subst (λ (first : ℕ). StandNoLater (first_edge diagram attributes) first (reverse its.more) (reverse own.more)) (sym same) (too.first own.more own_there long) in
    let back : reverse own.more ≡ reverse its.more =
    none_later (first_edge diagram attributes) own.first (reverse own.more) (reverse its.more) (length-reverse own.more ∙ long ∙ sym (length-reverse its.more)) here there in
    let more : own.more ≡ its.more = sym (reverse-reverse own.more) ∙ ap reverse back ∙ reverse-reverse its.more in
    own.fault_is ∙ ap₂ (λ (first : ℕ) (blocks : List ℕ). fault_of Rule.Loop (path_of diagram first) (Cycle (first ∷ blocks))) same more ∙ sym its.fault_is
