use Rattle.std.proofs.Common.{◌++◌, ◌-◌, ◌∙◌, ℕ, List, ap, codes, length, take}
use Rattle.vl_hier.specs.Written.{open_spelling}
use Rattle.vl_hier.proofs.WrittenParts.{before-end}
use Rattle.vl_hier.proofs.writing.put_open.Goals as goal

pub returns : goal.returns
returns g c =
    let old = c.args.out.now.items in
    let top = c.args.top.now in
    let text = c.bytes-bytes.ensures ∙ c.in_ok-text.ensures.text in
    c.in_ok-push.ensures
    ∙ ap (λ (bytes : List ℕ). old ++ bytes)
    (c.split_at.ensures.front ∙ ap (λ (n : ℕ). take n c.bytes-bytes.result.now) c.saturating_sub.ensures
    ∙ (λ k. take (length (text k) - 10) (text k)) ∙ before-end (open_spelling top) (codes "endmodule\n"))
