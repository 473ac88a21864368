-- What a text's flattening is of a call that asks for it.
use Rattle.std.proofs.Common.{◌≡◌, ◌≢◌, ◌≤◌, ℕ, List, [], ◌∷◌, ◌++◌, Result, Ok, Err, OnErr, OnOk, IfErr, IfOk, ⊎_elim, sym, subst, ◌∙◌}
use Rattle.std.specs.Prelude.{⊤}
use Rattle.std.specs.Borrow.{Bor}
use Rattle.fx_io.specs.declared.sink.PutFault.{PutFault}
use Rattle.fx_io.specs.Sink.{TookProperPrefix, also_took}
use Rattle.fx_top.specs.declared.answer.Answer.{Answer}
use Rattle.fx_top.specs.Call.{Files, Stream, IsUntouched}
use Rattle.fx_top.specs.Cause.{IsFetched}
use Rattle.fx_top.specs.Flattened.{HasFlatCause, HasFlatWritten, IsDesignOf, IsFlatModuleOf, IsFlatTextOf, IsUnflattened}
use Rattle.fx_top.specs.inner.Fetch.{IsFetchAnswer, IsUnfit, IsUnread}
use Rattle.fx_top.specs.inner.Flattening.{IsFlatDone, flat_answer}
use Rattle.fx_top.specs.inner.Tasks.{IsPut}
use Rattle.fx_top.proofs.Tasks.{put-text}
use Rattle.vl_ast.specs.declared.modules.Module.{Module}
use Rattle.vl_ast.specs.Grammar.{most_items}
use Rattle.vl_ast.specs.Spelling.{spelling}
use Rattle.vl_hier.specs.declared.refusal.HierFault.{HierFault}
use Rattle.vl_hier.specs.declared.refusal.HierFault.TheVariants.{Syntax, Link, OutOfMemory}
use Rattle.vl_hier.specs.Fault.{IfLink, IfSyntax, IsBadFirst}
use Rattle.vl_hier.specs.Flat.{IsFlatOf}
use Rattle.vl_hier.specs.Linked.{HasAllLinked}
use Rattle.vl_read.specs.declared.design.Design.{Design}
use Rattle.vl_read.specs.Designs.{IsDesignFaultLine, IsNoDesign, SpellsDesign, items_in}

-- a design that is spelled has a top
pub some-modules : (verilog : List ℕ) (design : Design) → SpellsDesign verilog design → design.modules ≢ []
some-modules verilog design spelled none = behind spelled.grammar.below spelled.grammar.top (sym none ∙ spelled.grammar.parted)
  where
    behind : (below : List Module) (top : Module) → [] ≡ below ++ top ∷ [] → ⊥
    behind [] top e = let no : ⊥ = cc in no
    behind (m ∷ below) top e = let no : ⊥ = cc in no

pub unread : (verilog : List ℕ) (fault : HierFault) → IfSyntax {A = Design} (Err fault) (λ _. IsNoDesign verilog)
    → IfSyntax {A = Design} (Err fault) (λ line. IsDesignFaultLine verilog line)
    → IfLink {A = Design} (Err fault) (λ _. ⊥) → IsUnflattened verilog fault
unread verilog (Syntax line) refused is unlinked = record { refused = refused; fault_line = is }
unread verilog (Link name) refused is unlinked = absurd unlinked
unread verilog OutOfMemory refused is unlinked = tt

module _ (verilog : List ℕ) (design : Design) (spelled : SpellsDesign verilog design) (few : items_in design ≤ most_items) where
  of : IsDesignOf verilog design
  of = record { spelled = spelled; few = few }

  pub made-flat : (made : Result Module HierFault) → IfOk made (λ m. IsFlatOf design m) → IfOk made (λ _. HasAllLinked design) → IfOk made (IsFlatModuleOf verilog)
  made-flat (Ok m) flat linked = record { design = design; is = of; linked = linked; flat_is = flat }
  made-flat (Err fault) flat linked = tt

  pub not-flat : (made : Result Module HierFault) → IfLink made (λ name. IsBadFirst design name) → IfSyntax made (λ _. ⊥) → IfErr made (IsUnflattened verilog)
  not-flat (Ok m) bad none = tt
  not-flat (Err (Syntax line)) bad none = absurd none
  not-flat (Err (Link name)) bad none = record { design = design; is = of; bad = bad }
  not-flat (Err OutOfMemory) bad none = tt

pub put-flat : (verilog text : List ℕ) (out : Stream) (m : Module) → IsFlatModuleOf verilog m → text ≡ spelling m
    → (put : Result ⊤ PutFault) → OnOk put (out.now ≡ also_took out.before text)
    → OnErr put (TookProperPrefix out.before out.now text) → OnErr put out.failed →
    IsPut (IsFlatTextOf verilog) out put
put-flat verilog text out m made is put whole cut rise = put-text (IsFlatTextOf verilog) out text (record { flat = m; made = made; text_is = is }) put whole cut rise

module _ (files : Files) (out : Stream) (file : List ℕ) where
  unread-caused : (answer : Answer) → IsUnread files file answer → HasFlatCause files file answer
  unread-caused answer why = subst (HasFlatCause files file) (sym why.answer_is) (record { same = why.same; rise = why.rise; absent = why.absent })

  unfit-caused : (answer : Answer) → IsUnfit files file answer → HasFlatCause files file answer
  unfit-caused answer why = subst (HasFlatCause files file) (sym why.answer_is) (record { same = why.same; rise = why.rise; overlong = why.overlong; held = why.held })

  pub unfetched-caused : (answer : Answer) → IsFetchAnswer files file answer → HasFlatCause files file answer
  unfetched-caused answer why = ⊎_elim (λ is. subst (HasFlatCause files file) (sym is) tt) (λ more. ⊎_elim (unread-caused answer) (unfit-caused answer) more) why

  pub unfetched-written : (answer : Answer) → IsUntouched out → IsFetchAnswer files file answer → HasFlatWritten files file out answer
  unfetched-written answer untouched why =
      ⊎_elim (λ is. subst (HasFlatWritten files file out) (sym is) untouched)
      (λ more. ⊎_elim (λ (w : IsUnread files file answer). subst (HasFlatWritten files file out) (sym w.answer_is) untouched)
      (λ (w : IsUnfit files file answer). subst (HasFlatWritten files file out) (sym w.answer_is) untouched) more) why

  module _ (named : Bor (List ℕ)) (same : named.now ≡ file) (verilog : List ℕ) (fetched : IsFetched files file verilog) where
    pub flat-caused : (done : Result (Result ⊤ PutFault) HierFault) → IsFlatDone verilog out done → HasFlatCause files file (flat_answer named done)
    flat-caused (Ok (Ok whole)) done = tt
    flat-caused (Ok (Err part)) done = tt
    flat-caused (Err (Syntax line)) done = (same, record { bytes = verilog; fetched = fetched; so = done.0 })
    flat-caused (Err (Link name)) done = (same, record { bytes = verilog; fetched = fetched; so = done.0 })
    flat-caused (Err OutOfMemory) done = tt

    pub flat-written : (done : Result (Result ⊤ PutFault) HierFault) → IsFlatDone verilog out done → HasFlatWritten files file out (flat_answer named done)
    flat-written (Ok (Ok whole)) done = record { text = done.0; made = record { bytes = verilog; fetched = fetched; so = done.1.0 }; taken = done.1.1 }
    flat-written (Ok (Err part)) done = record { rise = done.1.1.1; text = done.0; made = record { bytes = verilog; fetched = fetched; so = done.1.0 }; taken = done.1.1.0 }
    flat-written (Err (Syntax line)) done = done.1
    flat-written (Err (Link name)) done = done.1
    flat-written (Err OutOfMemory) done = done.1
