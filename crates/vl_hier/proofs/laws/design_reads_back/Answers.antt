use Rattle.std.proofs.Common.{◌≡◌, ◌≤◌, ℕ, List, Result, Ok, Err, IfOk}
use Rattle.vl_ast.specs.Grammar.{most_items}
use Rattle.vl_read.specs.declared.design.Design.{Design}
use Rattle.vl_read.specs.Designs.{IsNoDesign, SpellsDesign, items_in}
use Rattle.vl_hier.specs.declared.refusal.HierFault.{HierFault}
use Rattle.vl_hier.specs.declared.refusal.HierFault.TheVariants.{Syntax, Link, OutOfMemory}
use Rattle.vl_hier.specs.Fault.{IfLink, IfSyntax}
use Rattle.vl_hier.specs.Written.{IsReadBack}
use Rattle.vl_hier.proofs.laws.design_reads_back.Goals as goal

module _ (unique : (bytes : List ℕ) (one other : Design) → SpellsDesign bytes one → SpellsDesign bytes other → one ≡ other)
    (text : List ℕ) (design : Design) (spelled : SpellsDesign text design) (few : items_in design ≤ most_items) where
  back : (answer : Result Design HierFault) → IfOk answer (SpellsDesign text) → IfSyntax answer (λ _. IsNoDesign text) → IfLink answer (λ _. ⊥) → IsReadBack answer design
  back (Ok read) found refused unlinked = unique text read design found spelled
  back (Err (Syntax line)) found refused unlinked = refused design spelled few
  back (Err (Link name)) found refused unlinked = unlinked
  back (Err OutOfMemory) found refused unlinked = tt

pub returns : goal.returns
returns c = λ text design answer spelled few found refused unlinked. back c.unique_design.ensures text design spelled few answer found refused unlinked
