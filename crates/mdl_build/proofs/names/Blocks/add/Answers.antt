use Rattle.std.proofs.Common.{◌≡◌, ℕ, Bool, ◌++◌, ◌∷◌, [], Some, None, cond, sym, ap, ◌∙◌}
use Rattle.std.specs.Prelude.{position}
use Rattle.std.specs.BTreeMap.{get}
use Rattle.mdl_build.specs.declared.names.Blocks.{Blocks}
use Rattle.mdl_build.specs.Blocks.{is_named_in}
use Rattle.mdl_build.specs.inner.Names.{compare_keys, key_eq}
use Rattle.math_list.proofs.Tests.{some_of, none_of}
use Rattle.mdl_build.proofs.NameNumbers.{other_name, new_name, known_name, tied_keys}
use Rattle.mdl_build.proofs.names.Blocks.add.Goals as goal
use Rattle.mdl_build.proofs.names.Blocks.add.Goals.{in-Some+then-not-contains_key+in_ok-insert, in-Some+else-not-contains_key, in_default}

pub returns-clause-numbered : goal.returns-clause-numbered
returns-clause-numbered c = elim c.match-key_of.branch [
  | in-Some+then-not-contains_key+in_ok-insert w ↦
      let items = c.args.layout.now.items.now in
      let places = c.args.self.now.places.items in
      let own = w.in-Some.key in
      let none : get compare_keys c.args.self.now.numbers own ≡ None = none_of (get compare_keys c.args.self.now.numbers own) (sym w.contains_key.ensures ∙ w.if-not-contains_key.true) in
      λ key.
      ap (λ (b : Blocks). get compare_keys b.numbers key) w.self-is
      ∙ w.in_ok-insert.ensures.updates.0 key
      ∙ ap (λ (same : Bool). cond same (Some w.len.result) (get compare_keys c.args.self.now.numbers key)) (tied_keys own key)
      ∙ ap (λ (n : ℕ). cond (key_eq own key) (Some n) (get compare_keys c.args.self.now.numbers key)) (w.len.ensures ∙ c.args.self.now.places.ok.0)
      ∙ new_name items places c.args.place (get compare_keys c.args.self.now.numbers) c.requires.numbered own w.in-Some.ensures none key
      ∙ ap (position (is_named_in items key.0 key.1.now)) (ap (λ (b : Blocks). b.places.items ++ c.args.place ∷ []) (sym w.self-is) ∙ sym c.in_ok-push.ensures.items)
  | in-Some+else-not-contains_key w ↦
      let items = c.args.layout.now.items.now in
      let places = c.args.self.now.places.items in
      let own = w.in-Some.key in
      let some = some_of (get compare_keys c.args.self.now.numbers own) (sym w.contains_key.ensures ∙ w.if-not-contains_key.false) in
      λ key.
      ap (λ (b : Blocks). get compare_keys b.numbers key) w.self-is
      ∙ known_name items places c.args.place (get compare_keys c.args.self.now.numbers) c.requires.numbered own w.in-Some.ensures some.0 some.1 key
      ∙ ap (position (is_named_in items key.0 key.1.now)) (ap (λ (b : Blocks). b.places.items ++ c.args.place ∷ []) (sym w.self-is) ∙ sym c.in_ok-push.ensures.items)
  | in_default w ↦
      let items = c.args.layout.now.items.now in
      λ key.
      ap (λ (b : Blocks). get compare_keys b.numbers key) w.self-is
      ∙ other_name items c.args.self.now.places.items c.args.place (get compare_keys c.args.self.now.numbers) c.requires.numbered key (w.in_default.ensures key.0 key.1.now)
      ∙ ap (position (is_named_in items key.0 key.1.now)) (ap (λ (b : Blocks). b.places.items ++ c.args.place ∷ []) (sym w.self-is) ∙ sym c.in_ok-push.ensures.items)
]
