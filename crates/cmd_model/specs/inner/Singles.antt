-- What the crates below say together: each step from a text to a verdict gives one thing at most.
use Rattle.std.specs.Prelude.{◌≡◌, ℕ, List}
use Rattle.mdl_text.specs.declared.tree.Tree.{Tree}
use Rattle.mdl_text.specs.Prefix.{IsMdlFaultLine}
use Rattle.mdl_text.specs.Stands.{Stands}
use Rattle.mdl_build.specs.Laws.{NestedIsOne, FaultIsOne as TextIsOne, NestedIsNotBroken}
use Rattle.dg_flat.specs.Laws.{FlatIsOne, BrokenIsOne as LinesAreOne, FlatIsNotBroken}
use Rattle.dg_rules.specs.Laws.{FaultIsOne, ToldIsOne, CheckedIsNotBroken}

-- a text stands for at most one tree
abbrev pub TreeIsOne : Type 0
TreeIsOne =
    (bytes : List ℕ) (one other : Tree) → Stands bytes one → Stands bytes other → one ≡ other

-- the laws of the lower crates
pub record EachIsOne : Type 0 where
  pub tree : TreeIsOne
  pub line : (bytes : List ℕ) (one other : ℕ) → IsMdlFaultLine bytes one
      → IsMdlFaultLine bytes other → one ≡ other
  pub nested : NestedIsOne
  pub text : TextIsOne
  pub text_kept : NestedIsNotBroken
  pub flat : FlatIsOne
  pub lines : LinesAreOne
  pub lines_kept : FlatIsNotBroken
  pub rule : FaultIsOne
  pub same_told : ToldIsOne
  pub rule_kept : CheckedIsNotBroken
