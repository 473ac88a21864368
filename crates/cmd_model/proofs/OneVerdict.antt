-- A text has at most one verdict.
use Rattle.std.proofs.Common.{◌≡◌, ◌≢◌, ℕ, inl, inr, List, sym, ◌∙◌, ap, ap₂, subst}
use Rattle.std.specs.Prelude.{map}
use Rattle.mdl_text.specs.declared.tree.Tree.{Tree}
use Rattle.mdl_build.specs.Laws.{NestedIsOne}
use Rattle.mdl_build.specs.Nested.{IsNestedOf}
use Rattle.dg_flat.specs.Laws.{FlatIsOne}
use Rattle.dg_flat.specs.Flat.{IsFlatOf}
use Rattle.dg_flat.specs.Rules.{BreaksWiringOrEnable}
use Rattle.dg_model.specs.declared.diagram.Block.{Block}
use Rattle.dg_model.specs.declared.diagram.Diagram.{Diagram}
use Rattle.dg_model.specs.declared.fault.RuleFault.{RuleFault}
use Rattle.dg_model.specs.declared.nested.Nested.{Nested}
use Rattle.dg_model.specs.declared.rule.Rule.{Rule}
use Rattle.dg_model.specs.Checked.{IsChecked, BreaksRule}
use Rattle.dg_rules.specs.Laws.{told_first}
use Rattle.cmd_model.specs.Laws.{DiagramIsOne, VerdictIsOne, BrokenIsOne, LineIsOne}
use Rattle.cmd_model.specs.Model.{IsDiagramOf, IsModelOf, BreaksModel, IsBrokenModel}
use Rattle.cmd_model.specs.RuleLine.{rule_line}
use Rattle.cmd_model.specs.Verdict.{Verdict}
use Rattle.cmd_model.specs.inner.Singles.{TreeIsOne, EachIsOne}

-- ---- diagrams

one_diagram : NestedIsOne → FlatIsOne → (tree : Tree) (one other : Diagram) → IsDiagramOf tree one → IsDiagramOf tree other → one ≡ other
one_diagram one_nested one_flat tree one other is too =
    one_flat too.nested one other (subst (λ (nested : Nested). IsFlatOf nested one) (one_nested tree is.nested too.nested is.built too.built) is.flat) is.wired too.flat

pub one_model : TreeIsOne → NestedIsOne → FlatIsOne → DiagramIsOne
one_model one_tree one_nested one_flat bytes one other is too =
    one_diagram one_nested one_flat too.tree one other (subst (λ (tree : Tree). IsDiagramOf tree one) (one_tree bytes is.tree too.tree is.stands too.stands) is.flat) too.flat

-- ---- faults

module _ (known : EachIsOne) where
  -- one fault, or two of the rule of loops that differ in their cycles at most
  record AreSame (one other : RuleFault) (paths others : List (List ℕ)) : Type 0 where
    told_same : told_first one ≡ told_first other
    fault_same : one.rule ≢ Rule.Loop → one ≡ other
    paths_same : paths ≡ others

  same : (one other : RuleFault) (paths others : List (List ℕ)) → one ≡ other → paths ≡ others → AreSame one other paths others
  same one other paths others fault list = record { told_same = ap told_first fault; fault_same = λ not. fault; paths_same = list }

  no_lines : (tree : Tree) (fault : RuleFault) (diagram : Diagram) (nested : Nested) → IsNestedOf tree nested → BreaksWiringOrEnable nested fault → IsDiagramOf tree diagram → ⊥
  no_lines tree fault diagram nested built broken flat =
      known.lines_kept flat.nested fault flat.wiring flat.enables
      (subst (λ (n : Nested). BreaksWiringOrEnable n fault) (known.nested tree nested flat.nested built flat.built) broken)

  one_breach : (tree : Tree) (one other : RuleFault) (paths others : List (List ℕ)) → BreaksModel tree one paths → BreaksModel tree other others → AreSame one other paths others
  one_breach tree one other paths others (inl is) (inl too) = same one other paths others (known.text tree one other is.broken too.broken) (is.none ∙ sym too.none)
  one_breach tree one other paths others (inl is) (inr (inl too)) = absurd (known.text_kept tree too.nested one too.built is.broken)
  one_breach tree one other paths others (inl is) (inr (inr too)) = absurd (known.text_kept tree too.flat.nested one too.flat.built is.broken)
  one_breach tree one other paths others (inr (inl is)) (inl too) = absurd (known.text_kept tree is.nested other is.built too.broken)
  one_breach tree one other paths others (inr (inl is)) (inr (inl too)) =
      let broken = subst (λ (n : Nested). BreaksWiringOrEnable n one) (known.nested tree is.nested too.nested is.built too.built) is.broken in
      same one other paths others (known.lines too.nested one other broken too.broken) (is.none ∙ sym too.none)
  one_breach tree one other paths others (inr (inl is)) (inr (inr too)) = absurd (no_lines tree one too.diagram is.nested is.built is.broken too.flat)
  one_breach tree one other paths others (inr (inr is)) (inl too) = absurd (known.text_kept tree is.flat.nested other is.flat.built too.broken)
  one_breach tree one other paths others (inr (inr is)) (inr (inl too)) = absurd (no_lines tree other is.diagram too.nested too.built too.broken is.flat)
  one_breach tree one other paths others (inr (inr is)) (inr (inr too)) =
      let diagram = one_diagram known.nested known.flat tree is.diagram too.diagram is.flat too.flat in
      let broken = subst (λ (d : Diagram). BreaksRule d one) diagram is.broken in
      record {
        told_same = known.same_told too.diagram one other broken too.broken;
        fault_same = λ not. known.rule too.diagram one other broken too.broken not;
        paths_same = is.paths_are ∙ ap (λ (d : Diagram). map (λ (block : Block). block.path) d.blocks) diagram ∙ sym too.paths_are;
      }

  same_breach : (bytes : List ℕ) (one other : RuleFault) (paths others : List (List ℕ)) → IsBrokenModel bytes one paths → IsBrokenModel bytes other others → AreSame one other paths others
  same_breach bytes one other paths others is too =
      one_breach too.tree one other paths others (subst (λ (tree : Tree). BreaksModel tree one paths) (known.tree bytes is.tree too.tree is.stands too.stands) is.broken) too.broken

  -- a model that is accepted breaks no rule
  kept : (tree : Tree) (diagram : Diagram) (fault : RuleFault) (paths : List (List ℕ)) → IsDiagramOf tree diagram → IsChecked diagram → BreaksModel tree fault paths → ⊥
  kept tree diagram fault paths flat checked (inl broken) = known.text_kept tree flat.nested fault flat.built broken.broken
  kept tree diagram fault paths flat checked (inr (inl broken)) = no_lines tree fault diagram broken.nested broken.built broken.broken flat
  kept tree diagram fault paths flat checked (inr (inr broken)) =
      known.rule_kept diagram fault checked
      (subst (λ (d : Diagram). BreaksRule d fault) (one_diagram known.nested known.flat tree broken.diagram diagram broken.flat flat) broken.broken)

  never_both : (bytes : List ℕ) (diagram : Diagram) (fault : RuleFault) (paths : List (List ℕ)) → IsModelOf bytes diagram → IsBrokenModel bytes fault paths → ⊥
  never_both bytes diagram fault paths is broken =
      kept is.tree diagram fault paths is.flat is.checked
      (subst (λ (tree : Tree). BreaksModel tree fault paths) (known.tree bytes broken.tree is.tree broken.stands is.stands) broken.broken)

  -- ---- verdicts

  pub one_verdict : VerdictIsOne
  one_verdict bytes (Verdict.NotMdl one) (Verdict.NotMdl other) is too = ap Verdict.NotMdl (known.line bytes one other is.fault too.fault)
  one_verdict bytes (Verdict.NotMdl line) (Verdict.Broken fault paths) is too = absurd (is.no_tree too.tree too.stands)
  one_verdict bytes (Verdict.NotMdl line) (Verdict.Accepted diagram) is too = absurd (is.no_tree too.tree too.stands)
  one_verdict bytes (Verdict.Broken fault paths) (Verdict.NotMdl line) is too = absurd (too.no_tree is.tree is.stands)
  one_verdict bytes (Verdict.Broken one paths) (Verdict.Broken other others) is too =
      let breach = same_breach bytes one other paths others is too in
      ap₂ Verdict.Broken breach.told_same breach.paths_same
  one_verdict bytes (Verdict.Broken fault paths) (Verdict.Accepted diagram) is too = absurd (never_both bytes diagram fault paths too is)
  one_verdict bytes (Verdict.Accepted diagram) (Verdict.NotMdl line) is too = absurd (too.no_tree is.tree is.stands)
  one_verdict bytes (Verdict.Accepted diagram) (Verdict.Broken fault paths) is too = absurd (never_both bytes diagram fault paths is too)
  one_verdict bytes (Verdict.Accepted one) (Verdict.Accepted other) is too = ap Verdict.Accepted (one_model known.tree known.nested known.flat bytes one other is too)

  pub one_broken : BrokenIsOne
  one_broken bytes one other paths others is too not =
      let breach = same_breach bytes one other paths others is too in
      (breach.fault_same not, breach.paths_same)

  pub one_line : LineIsOne
  one_line bytes one other is too not =
      let both = one_broken bytes is.fault too.fault is.paths too.paths is.broken too.broken not in
      is.line_is ∙ ap₂ (λ (paths : List (List ℕ)) (fault : RuleFault). rule_line paths fault) both.1 both.0 ∙ sym too.line_is
