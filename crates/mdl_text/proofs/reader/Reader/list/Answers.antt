use Rattle.std.proofs.Common.{◌≡◌, ℕ, ◌+◌, Bool, true, cond, List, ◌++◌, take, drop, Some, None, sym, ap, ◌∙◌, append_assoc, take-add}
use Rattle.std.specs.List.{list_all}
use Rattle.std.proofs.lemmas.List.{take_rest}
use Rattle.mdl_text.specs.Bytes.{is_blank}
use Rattle.mdl_text.specs.declared.brackets.ListEnd.TheVariants.{Closed}
use Rattle.mdl_text.specs.declared.reader.Draft.{Draft}
use Rattle.mdl_text.specs.declared.reader.Pending.{Pending}
use Rattle.mdl_text.specs.declared.reader.Pending.TheVariants.{Nothing}
use Rattle.mdl_text.specs.declared.reader.Reader.{Reader}
use Rattle.mdl_text.specs.declared.tree.Value.TheVariants.{List as Brackets}
use Rattle.mdl_text.specs.inner.Plain.{added, free, list_from, listed, listed_by}
use Rattle.mdl_text.proofs.reader.Reader.list.Goals as goal

-- a list that is closed behind so many bytes of the line, where others stand before it
closed_list : (draft made : Draft) (pending : Pending) (name own said line rest left list : List ℕ)
    (begun taken nesting : ℕ) → rest ≡ drop begun line → Closed taken ≡ list_from nesting rest
    → left ≡ drop taken rest → list_all is_blank left ≡ true
    → list ≡ said ++ take (begun + taken) line → own ≡ name → made ≡ added draft own (Brackets list) → pending ≡ Nothing
    → listed draft name (said ++ take begun line) nesting (drop begun line) ≡ Some (record { draft = made; pending = pending })
unfolding listed
closed_list draft made pending name own said line rest left list begun taken nesting is_rest ends is_left blanks is_list is_own is_made is_free =
    ap (λ (l : List ℕ). listed_by draft name (said ++ take begun line) l (list_from nesting l)) (sym is_rest)
    ∙ ap (listed_by draft name (said ++ take begun line) rest) (sym ends)
    ∙ ap (λ (b : Bool). cond b (Some (free (added draft name (Brackets (said ++ take begun line ++ take taken rest))))) None) (ap (list_all is_blank) (sym is_left) ∙ blanks)
    ∙ ap (λ (l : List ℕ). Some (free (added draft name (Brackets l))))
    (append_assoc said (take begun line) (take taken rest)
    ∙ ap (λ (l : List ℕ). said ++ l) (ap (λ (r : List ℕ). take begun line ++ take taken r) is_rest
    ∙ sym (take-add begun taken line)) ∙ sym is_list)
    ∙ ap (λ (n : List ℕ). Some (free (added draft n (Brackets list)))) (sym is_own)
    ∙ ap (λ (d : Draft). Some (free d)) (sym is_made)
    ∙ ap (λ (p : Pending). let reader : Reader = record { draft = made; pending = p } in Some reader) (sym is_free)

pub returns-in_ok-add-in-Closed : goal.returns-in_ok-add-in-Closed
returns-in_ok-add-in-Closed c =
    closed_list c.args.self.now.draft c.add.new.self c.args.self.now.pending c.args.name c.bytes.result.now
    c.args.said c.args.line.now c.split_at.result.1.now _ c.in_ok-list-in-Closed.list c.args.begun
    c.in-Closed.taken c.args.nesting
    c.split_at.ensures.back c.in-Closed.ensures.value (take_rest c.split_at.result.1.now c.in-Closed.taken)
    (sym c.are_blanks.ensures ∙ c.if-are_blanks.true) c.in_ok-list-in-Closed.ensures c.bytes.ensures
    c.in_ok-add-in-Closed.ensures c.requires.free
