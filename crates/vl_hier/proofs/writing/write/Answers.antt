use Rattle.std.proofs.Common.{◌≡◌, ◌++◌, ◌∙◌, ℕ, List, ap, codes, flat_map, sym}
use Rattle.math_list.proofs.Places.{three_appended}
use Rattle.vl_ast.specs.Spelling.{spelling}
use Rattle.vl_hier.specs.Linked.{IsParted}
use Rattle.vl_hier.specs.Written.{IsDesignSpelling, instance_text, open_spelling, top_spelling}
use Rattle.vl_hier.proofs.writing.write.Given.{Over}
use Rattle.vl_hier.proofs.writing.write.Goals.{After-from_vec}
use Rattle.std.proofs.lemmas.Result.{IfOk-weaker}
use Rattle.vl_hier.proofs.writing.write.Goals as goal

module _ (g : Over) (c : After-from_vec g) where
  parted : IsParted c.args.design.now c.in-Some.below.now c.in-Some.top.now
  parted = sym c.as_slice.ensures ∙ c.in-Some.ensures.cases.0

  first : c.put_modules.new.out.items ≡ flat_map spelling c.in-Some.below.now
  first = c.in_ok-put_modules.ensures ∙ ap (λ (bytes : List ℕ). bytes ++ flat_map spelling c.in-Some.below.now) c.new-out.ensures.items

  whole : c.push.new.text.items ≡ flat_map spelling c.in-Some.below.now ++ top_spelling c.in-Some.top.now c.args.design.now.instances
  whole =
      three_appended c.put_modules.new.out.items (open_spelling c.in-Some.top.now) (flat_map instance_text c.as_slice-2.result.now) (codes "endmodule\n") _ _ _
      c.in_ok-put_open.ensures c.in_ok-put_instances.ensures c.in_ok-push.ensures
      ∙ (λ k. first k ++ (open_spelling c.in-Some.top.now ++ flat_map instance_text (c.as_slice-2.ensures k) ++ codes "endmodule\n"))

  is-spelling : (text : List ℕ) → text ≡ c.push.new.text.items → IsDesignSpelling c.args.design.now text
  is-spelling text is = (c.in-Some.below.now, c.in-Some.top.now, parted, is ∙ whole)

pub returns-clause-text : goal.returns-clause-text
returns-clause-text g c = IfOk-weaker c.from_vec.result _ _ (is-spelling g c) c.from_vec.ensures

pub returns-clause-spells : goal.returns-clause-spells
returns-clause-spells g c = λ bytes spelled.
    IfOk-weaker c.from_vec.result _ _ (λ text is. c.design_spelling_spells.ensures bytes text c.args.design.now spelled (is-spelling g c text is)) c.from_vec.ensures
