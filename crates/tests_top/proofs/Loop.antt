-- No assignments of the module of one delay read each other in a cycle.
use Rattle.std.proofs.Common.{◌≡◌, ◌<◌, ◌%◌, ℕ, zero, suc, List, [], ◌∷◌, true, Contains, slice_index_or, length, bytes_eq, ap, sym, ◌∙◌, subst, arith}
use Rattle.std.proofs.lemmas.Nat.{mod_below}
use Rattle.vl_ast.specs.declared.expressions.Expr.{Expr}
use Rattle.vl_ast.specs.declared.expressions.Expr.TheVariants.{Name}
use Rattle.vl_ast.specs.declared.modules.ModItem.TheVariants.{Assign}
use Rattle.vl_ast.specs.Nets.{names_read}
use Rattle.vl_ast.specs.Conditions.{IsLoop, AssignmentReads}
use Rattle.tests_top.proofs.DelayModule.{OneDelay, delay_module}
use Rattle.vl_ast.proofs.Copies.{reads-Name}
use Rattle.tests_top.proofs.Names.{AreDifferent, register}

assigned-at : (d : OneDelay) (name : List ℕ) (value : Expr) (k : ℕ) → k < 3
    → slice_index_or (delay_module d).items k (Assign name value) ≡ Assign name value → (d.output ≡ name) × (Name register ≡ value)
assigned-at d name value zero below e = absurd (cc)
assigned-at d name value (suc zero) below e = absurd (cc)
assigned-at d name value (suc (suc zero)) below e = (cc, cc)
assigned-at d name value (suc (suc (suc k))) below e = absurd (omega arith)

-- the one assignment
pub assigned-is : (d : OneDelay) (name : List ℕ) (value : Expr) → Contains (delay_module d).items (Assign name value) → (d.output ≡ name) × (Name register ≡ value)
assigned-is d name value c = assigned-at d name value c.0 c.1 c.2

only-one : (name read : List ℕ) (k : ℕ) → k < 1 → slice_index_or (name ∷ []) k read ≡ read → name ≡ read
only-one name read zero below e = e
only-one name read (suc k) below e = absurd (omega arith)

reads-are : (d : OneDelay) (name read : List ℕ) → AssignmentReads (delay_module d) name read → (d.output ≡ name) × (register ≡ read)
reads-are d name read a =
    let is = assigned-is d name a.value a.assigned in
    let among : Contains (register ∷ []) read = subst (λ (names : List (List ℕ)). Contains names read) (ap names_read (sym is.1) ∙ reads-Name register) a.reads in
    (is.0, only-one register read among.0 among.1 among.2)

pub no-loop : (d : OneDelay) → AreDifferent d.input d.output → (first : List ℕ) (others : List (List ℕ)) → IsLoop (delay_module d) first others → ⊥
no-loop d n first others loop =
    let count = length (first ∷ others) in
    let next = 1 % count in
    let some : 0 < count = omega arith in
    let begins = reads-are d _ _ (loop.reads 0 some) in
    let below : next < count = mod_below 1 count some in
    let goes_on = reads-are d _ _ (loop.reads next below) in
    let same : bytes_eq d.output register ≡ true = subst (λ (name : List ℕ). bytes_eq d.output name ≡ true) (goes_on.0 ∙ sym begins.1) n.y-y in
    absurd (cc (same, n.register-y.1))
