use Rattle.std.proofs.Common.{◌≡◌, ◌+◌, ◌||◌, ℕ, Bool, ap, sym, ◌∙◌, arith}
use Rattle.fx_type.specs.FxType.{is_signed, width_of}
use Rattle.hw_lower.proofs.planning.product_word.Goals as goal

pub returns : goal.returns
returns c = λ full is.
    let wide : c.width.result + c.width-2.result ≡ width_of full = omega (arith, c.width.ensures, c.width-2.ensures, is.width) in
    let sign : (c.is_signed.result || c.is_signed-2.result) ≡ is_signed full =
    ap (λ (s : Bool). s || c.is_signed-2.result) c.is_signed.ensures
    ∙ ap (λ (s : Bool). is_signed c.args.one || s) c.is_signed-2.ensures ∙ sym is.sign in
    ap (λ (s : Bool). record { signed = s; width = c.width.result + c.width-2.result }) sign ∙ ap (λ (w : ℕ). record { signed = is_signed full; width = w }) wide
