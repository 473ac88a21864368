-- What the contract of the wrapper says, of the module as a plain function.
use Rattle.std.proofs.Common.{◌≡◌, ◌∙◌, ap, ℕ, true, List, length, None, subst, sym}
use Rattle.vl_ast.specs.declared.modules.Module.{Module}
use Rattle.vl_ast.specs.Conditions.{BreaksNone, IsAcyclic, doubly, undriven}
use Rattle.vl_ast.specs.Control.{is_stallable}
use Rattle.vl_ast.specs.Grammar.{Spells}
use Rattle.vl_ast.specs.Multiplications.{multiplications}
use Rattle.vl_ast.specs.Spelling.{spelling}
use Rattle.vl_ast.specs.Stalls.{KeepsBits}
use Rattle.st_wrap.specs.declared.pace.Counters.{Counters}
use Rattle.st_wrap.specs.Carried.{CarriesTransfers, FollowsCore, ShakesHands}
use Rattle.st_wrap.specs.Names.{AreColumnNames}
use Rattle.st_wrap.specs.inner.Control.{CountFor}
use Rattle.st_wrap.specs.inner.Wrapper.{IsWrapped, inputs_of, outputs_of, wrapped}
use Rattle.st_wrap.proofs.Attributes.{attributed, clocked}
use Rattle.st_wrap.proofs.Bare.{same-products}
use Rattle.st_wrap.proofs.Carries.{CountedRun, carried, followed}
use Rattle.st_wrap.proofs.OneRun.{OneRun}
use Rattle.st_wrap.proofs.Drivers.{once}
use Rattle.st_wrap.proofs.Loopless.{no-loop}
use Rattle.st_wrap.proofs.Narrow.{narrow}
use Rattle.st_wrap.proofs.Needs.{driven}
use Rattle.st_wrap.proofs.Handshakes.{shakes}
use Rattle.st_wrap.proofs.SomeText.{SoundSpell, spelled}
use Rattle.st_wrap.proofs.Structure.{has-control}

module _ (core : Module) (names : List (List ℕ)) (counters : Counters) (counts : CountFor core counters) (sound : BreaksNone core) (stallable : is_stallable core ≡ true) where
  pub breaks-none : AreColumnNames core names → BreaksNone (wrapped core names counters)
  breaks-none named =
      let a : undriven (wrapped core names counters) ≡ None = driven core sound stallable names named counters in
      let b : doubly (wrapped core names counters) ≡ None = once core sound stallable names named counters in
      let acyclic : IsAcyclic (wrapped core names counters) = record {
        driven = a;
        once = b;
        acyclic = λ first others loop. no-loop core sound stallable names named counters a b first others loop;
      } in
      record {
        acyclic = acyclic;
        narrow = narrow core sound stallable names named counters counts acyclic;
        clocked = clocked core sound stallable names named counters;
        attributed = attributed core names counters;
      }

  pub shakes-hands : AreColumnNames core names → ShakesHands core (wrapped core names counters)
  shakes-hands named =
      let b = breaks-none named in
      record {
        in_runs = λ window start inputs rows last runs.
            shakes core (wrapped core names counters) counters b.acyclic b.clocked (has-control core counters (inputs_of core names) (outputs_of core names) stallable) counts
            window start inputs rows last runs;
      }

module _ (one : OneRun) (thins : CountedRun) (core : Module) (names : List (List ℕ)) (counters : Counters)
    (counts : CountFor core counters) (sound : BreaksNone core) (stallable : is_stallable core ≡ true)
    (keeps : KeepsBits core) (named : AreColumnNames core names) where
  none-broken : BreaksNone (wrapped core names counters)
  none-broken = breaks-none core names counters counts sound stallable named

  pub carries-transfers : CarriesTransfers core names (wrapped core names counters)
  carries-transfers = record {
    in_runs = λ window start inputs rows last runs core_window core_start core_inputs core_rows steady fed.
        carried one thins core sound stallable keeps names named counters counts none-broken.acyclic none-broken.clocked window start inputs rows last runs
        core_window core_start core_inputs core_rows steady fed;
  }

  pub follows-core : FollowsCore core names (wrapped core names counters)
  follows-core = record {
    in_runs = λ window start inputs rows last runs.
        followed one thins core sound stallable keeps names named counters counts none-broken.acyclic none-broken.clocked window start inputs rows last runs;
  }

pub counts-products : (core : Module) (names : List (List ℕ)) (m : Module) → IsWrapped core names m → length (multiplications m) ≡ length (multiplications core)
counts-products core names m is =
    ap (λ made. length (multiplications made)) is.is ∙ same-products core is.counters (inputs_of core names) (outputs_of core names)

pub is-spelled : SoundSpell → (core : Module) (names : List (List ℕ)) (m : Module) → IsWrapped core names m → BreaksNone core → is_stallable core ≡ true → AreColumnNames core names
    → (bytes : List ℕ) → Spells bytes core → Spells (spelling m) m
is-spelled spell core names m is sound stallable named bytes spells =
    subst (λ (w : Module). Spells (spelling w) w) (sym is.is)
    (spelled core sound stallable names named is.counters bytes spells spell (breaks-none core names is.counters is.counted sound stallable named))
