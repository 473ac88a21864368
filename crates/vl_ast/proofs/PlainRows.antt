-- The counted rows of a gated module are rows of the module itself.
use Rattle.std.proofs.Common.{◌≡◌, true, None, codes, ap, subst, ◌∙◌}
use Rattle.vl_ast.specs.declared.modules.Module.{Module}
use Rattle.vl_ast.specs.Conditions.{IsAcyclic, no_reset}
use Rattle.vl_ast.specs.Control.{is_stallable}
use Rattle.vl_ast.specs.Driven.{IsResetLast}
use Rattle.vl_ast.specs.Gated.{gated}
use Rattle.vl_ast.specs.Stalls.{AreThinned, AreUngated}
use Rattle.vl_ast.specs.Windows.{Window}
use Rattle.vl_ast.specs.Context.{Net}
use Rattle.vl_ast.specs.Runs.{Row, Rows, Runs}
use Rattle.vl_ast.proofs.Agree.{ByLayer}
use Rattle.vl_ast.proofs.Gates.{gated-keeps, gated-runs}
use Rattle.vl_ast.proofs.GatesSound.{enable-net, gated-acyclic, no_reset-same}
use Rattle.vl_ast.proofs.StallFree.{are-thinned, bit-port}

pub are-ungated : (by_layer : ByLayer) (m : Module) → IsAcyclic m → no_reset m ≡ None → is_stallable m ≡ true
    → (window : Window) (start : Row) (inputs rows : Rows) → IsResetLast window inputs → Runs (gated m) window.rows start inputs rows → AreUngated m window inputs rows
are-ungated by_layer m acyclic clocked stallable window start inputs rows last runs =
    let plain = ap (λ (net : Net). net.signed) (enable-net by_layer m acyclic stallable) in
    let t : AreThinned (gated m) window inputs rows =
    are-thinned by_layer (gated m) (gated-acyclic by_layer m acyclic stallable) (no_reset-same m clocked) stallable (gated-keeps m plain) window start inputs rows last runs in
    let p = bit-port (codes "clk_enable") m.ports stallable in
    record {
      thinned = t;
      runs = gated-runs m plain _ t.start t.thin_inputs t.thin_rows t.runs
          (λ k below. subst (λ n. t.thin_rows k n ≡ t.thin_inputs k n) p.2 (t.runs.driven k below p.0 p.1 p.3) ∙ t.enabled.at k below);
    }
