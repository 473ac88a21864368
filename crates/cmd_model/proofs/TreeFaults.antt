-- A fault of a tree's diagram is one of the model.
use Rattle.std.proofs.Common.{◌≡◌, ℕ, ◌⊎◌, ⊎_elim, inl, inr, List, [], map, subst}
use Rattle.mdl_text.specs.declared.tree.Tree.{Tree}
use Rattle.mdl_text.specs.Stands.{Stands}
use Rattle.dg_model.specs.declared.diagram.Block.{Block}
use Rattle.dg_model.specs.declared.fault.CheckFault.{CheckFault}
use Rattle.dg_model.specs.declared.fault.CheckFault.TheVariants as check
use Rattle.dg_model.specs.declared.fault.RuleFault.{RuleFault}
use Rattle.dg_model.specs.Faults.{IsRefusal}
use Rattle.cmd_model.specs.declared.accepting.ModelFault.TheVariants as model
use Rattle.cmd_model.specs.inner.ModelFault.{fault_of}
use Rattle.cmd_model.specs.Model.{BreaksText, BreaksLines, BreaksModel, IsBrokenModel}

breaks : (tree : Tree) (fault : RuleFault) → BreaksText tree fault [] ⊎ BreaksLines tree fault [] → BreaksModel tree fault []
breaks tree fault broken = ⊎_elim (λ text. inl text) (λ lines. inr (inl lines)) broken

-- before there is a diagram no block is shown
pub refused-tree : (bytes : List ℕ) (tree : Tree) (own : CheckFault) → Stands bytes tree → IsRefusal (λ fault. BreaksText tree fault [] ⊎ BreaksLines tree fault []) own
    → (fault : RuleFault) (blocks : List Block) → fault_of [] own ≡ model.Broken fault blocks → IsBrokenModel bytes fault (map (λ block. block.path) blocks)
refused-tree bytes tree (check.Broken own) stands refused fault blocks is =
    let same : own ≡ fault = cc is in
    let none : [] ≡ blocks = cc is in
    subst (λ (list : List Block). IsBrokenModel bytes fault (map (λ block. block.path) list)) none
    (subst (λ (f : RuleFault). IsBrokenModel bytes f []) same (record { tree = tree; stands = stands; broken = breaks tree own refused }))
refused-tree bytes tree check.OutOfMemory stands refused fault blocks is = absurd (cc is)
