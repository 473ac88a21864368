-- A mark from what it is made of.
use Rattle.std.proofs.Common.{◌≡◌, ℕ, Bool, true, false, List, inl, inr, sym}
use Rattle.std.proofs.lemmas.Bool.{false≢true}
use Rattle.dg_model.specs.declared.diagram.Diagram.{Diagram}
use Rattle.dg_model.specs.declared.resolved.Resolved.{Resolved}
use Rattle.dg_model.specs.Attributes.{attributes_of}
use Rattle.hw_latency.specs.Shared.{is_shared}
use Rattle.hw_latency.specs.inner.Marks.{AreUnmarked, IsAnyMarked, IsMark}
use Rattle.std.specs.Prelude.{length}

pub mark_own : (diagram : Diagram) (plan : Resolved) (marks : List Bool) (row : List ℕ) (place : ℕ)
    → is_shared diagram (attributes_of diagram) plan place ≡ true → IsMark diagram plan marks row place true
mark_own diagram plan marks row place own = record {
  yes = λ e. inl own;
  own = λ e. absurd (false≢true (sym e));
  none = λ e. absurd (false≢true (sym e));
}

pub mark_behind : (diagram : Diagram) (plan : Resolved) (marks : List Bool) (row : List ℕ) (place : ℕ) (mark : Bool)
    → is_shared diagram (attributes_of diagram) plan place ≡ false → (mark ≡ true → IsAnyMarked marks row)
    → (mark ≡ false → AreUnmarked marks row (length row))
    → IsMark diagram plan marks row place mark
mark_behind diagram plan marks row place mark own any none = record { yes = λ e. inr (any e); own = λ e. own; none = none }
