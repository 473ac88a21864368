-- A module to which `clk_enable` and `ce_out` are added is clocked and can be stalled, and the counted rows of
-- its gated form are rows of the module itself.
use Rattle.std.proofs.Common.{◌≡◌, ℕ, nat_le, Bool, true, false, not, ◌&&◌, ◌||◌, if◌then◌else◌, List, [], ◌∷◌, ◌++◌, codes, Some, None, refl, sym, ap, ◌∙◌}
use Rattle.std.specs.List.{list_any}
use Rattle.vl_ast.specs.declared.modules.Port.{Port}
use Rattle.vl_ast.specs.declared.modules.Module.{Module}
use Rattle.vl_ast.specs.Conditions.{IsAcyclic, is_clk_at_fault, is_read_of, is_reset_at_fault, no_reset}
use Rattle.vl_ast.specs.Control.{is_bit_input, is_stallable}
use Rattle.vl_ast.specs.Driven.{IsResetLast}
use Rattle.vl_ast.specs.Gated.{IsFresh, IsOpened, gated}
use Rattle.vl_ast.specs.Header.{bit_output, bit_input}
use Rattle.vl_ast.specs.Stalls.{AreCounted, AreUngated}
use Rattle.vl_ast.specs.Windows.{Window}
use Rattle.vl_ast.specs.Nets.{place_of, mentions}
use Rattle.vl_ast.specs.Runs.{Row, Rows, Runs}
use Rattle.vl_ast.proofs.Agree.{ByLayer}
use Rattle.vl_ast.proofs.Gates.{enable}
use Rattle.vl_ast.proofs.GatesSound.{neither}
use Rattle.vl_ast.proofs.ClockEnable.{any-front, front, middle, back, opened-acyclic, opened-has, out, tail, whole-m, whole-o}
use Rattle.vl_ast.proofs.Parts.{part-runs}
use Rattle.vl_ast.proofs.PlainRows.{are-ungated}

any-ports : (test : Port → Bool) (part xs ys : List Port) → list_any test xs ≡ list_any test ys → list_any test (part ++ xs) ≡ list_any test (part ++ ys)
any-ports test [] xs ys e = e
any-ports test (x ∷ part) xs ys e = ap (λ t. test x || t) (any-ports test part xs ys e)

any-true : (test : Port → Bool) (part xs : List Port) → list_any test xs ≡ true → list_any test (part ++ xs) ≡ true
any-true test [] xs e = e
any-true test (x ∷ part) xs e = ap (λ t. test x || t) (any-true test part xs e) ∙ right (test x) where
  right : (b : Bool) → (b || true) ≡ true
  right true = refl
  right false = refl

module _ (m o : Module) (opened : IsOpened m o) where
  pub opened-stallable : is_stallable o ≡ true
  opened-stallable = ap (list_any (is_bit_input enable)) opened.ports ∙ any-true (is_bit_input enable) opened.front _ refl

  ports-same : (name : List ℕ) → is_bit_input name (bit_input enable) ≡ false → is_bit_input name (bit_output out) ≡ false
      → list_any (is_bit_input name) o.ports ≡ list_any (is_bit_input name) m.ports
  ports-same name e f =
      ap (list_any (is_bit_input name)) opened.ports
      ∙ any-ports (is_bit_input name) opened.front _ _ (ap (λ t. t || list_any (is_bit_input name) (opened.middle ++ bit_output out ∷ opened.back)) e
      ∙ any-ports (is_bit_input name) opened.middle _ _ (ap (λ t. t || list_any (is_bit_input name) opened.back) f))
      ∙ sym (ap (list_any (is_bit_input name)) opened.were)

  module _ (small : IsAcyclic m) (fresh : IsFresh m) where
    reads-same : list_any (is_read_of (codes "clk")) (mentions o) ≡ list_any (is_read_of (codes "clk")) (mentions m)
    reads-same =
        let test = is_read_of (codes "clk") in
        ap (list_any test) (whole-o m o small fresh opened)
        ∙ any-front test (front m o small fresh opened) _ _ (any-front test (middle m o small fresh opened) _ _ (any-front test (back m o small fresh opened) tail [] refl))
        ∙ sym (ap (list_any test) (whole-m m o small fresh opened))

    pub opened-clocked : no_reset m ≡ None → no_reset o ≡ None
    opened-clocked e =
        let n = neither (if nat_le (place_of m (codes "clk")) (place_of m (codes "reset")) then codes "clk" else codes "reset") (is_clk_at_fault m) (is_reset_at_fault m) e in
        let clk : is_clk_at_fault o ≡ false = (λ i. not (ports-same (codes "clk") refl refl i) || reads-same i) ∙ n.0 in
        let reset : is_reset_at_fault o ≡ false = (λ i. not (ports-same (codes "reset") refl refl i)) ∙ n.1 in
        (λ i. if clk i && reset i then Some (if nat_le (place_of o (codes "clk")) (place_of o (codes "reset")) then codes "clk" else codes "reset")
        else (if clk i then Some (codes "clk") else (if reset i then Some (codes "reset") else None)))

    pub are-counted : ByLayer → no_reset m ≡ None → (window : Window) (start : Row) (inputs rows : Rows) → IsResetLast window inputs → Runs (gated o) window.rows start inputs rows
        → AreCounted m o window inputs rows
    are-counted by_layer clocked window start inputs rows last runs =
        let large = opened-acyclic m o small fresh opened in
        let u : AreUngated o window inputs rows = are-ungated by_layer o large (opened-clocked clocked) opened-stallable window start inputs rows last runs in
        record { thinned = u.thinned; runs = part-runs by_layer m o small large (opened-has m o small fresh opened) _ u.thinned.start u.thinned.thin_inputs u.thinned.thin_rows u.runs }
