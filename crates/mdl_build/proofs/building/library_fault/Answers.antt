use Rattle.std.proofs.Common.{ℕ, sym, ap, ◌∙◌}
use Rattle.std.specs.Prelude.{find, is_none}
use Rattle.mdl_build.specs.Rules.{type_at}
use Rattle.mdl_build.proofs.BlockPlaces.{block_here}
use Rattle.mdl_build.proofs.StructureLemmas.{found_block}
use Rattle.mdl_build.proofs.building.library_fault.Goals as goal

pub first_unknown-requires : goal.first_unknown-requires
first_unknown-requires c = λ k d below. (block_here c.args.known.now.layout.items.now c.places.result.now k d (c.places.ensures ∙ c.requires.blocks.places) below).within

pub text_or_empty-word-requires : goal.text_or_empty-word-requires
text_or_empty-word-requires c =
    let items = c.args.known.now.layout.items.now in
    (found_block items (λ (p : ℕ). is_none (type_at items p)) c.in-Some.place
    (ap (find (λ (p : ℕ). is_none (type_at items p))) (sym (c.places.ensures ∙ c.requires.blocks.places)) ∙ sym c.first_unknown.ensures ∙ c.in-Some.is)).within

pub broken_at-requires-clause-within : goal.broken_at-requires-clause-within
broken_at-requires-clause-within c =
    let items = c.args.known.now.layout.items.now in
    (found_block items (λ (p : ℕ). is_none (type_at items p)) c.in-Some.place
    (ap (find (λ (p : ℕ). is_none (type_at items p))) (sym (c.places.ensures ∙ c.requires.blocks.places)) ∙ sym c.first_unknown.ensures ∙ c.in-Some.is)).within

pub broken_at-requires-clause-counts : goal.broken_at-requires-clause-counts
broken_at-requires-clause-counts c =
    let items = c.args.known.now.layout.items.now in
    (found_block items (λ (p : ℕ). is_none (type_at items p)) c.in-Some.place
    (ap (find (λ (p : ℕ). is_none (type_at items p))) (sym (c.places.ensures ∙ c.requires.blocks.places)) ∙ sym c.first_unknown.ensures ∙ c.in-Some.is)).counts
