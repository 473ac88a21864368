use Rattle.std.proofs.Common.{List, Bool, sym, ap, ◌∙◌}
use Rattle.dg_model.specs.declared.kind.Kind.TheVariants.{Sum, Mux, Demux}
use Rattle.dg_flat.proofs.kinds.copy_unlisted.Goals as goal

pub returns-in_ok-copy_list-in-Sum : goal.returns-in_ok-copy_list-in-Sum
returns-in_ok-copy_list-in-Sum c = c.in-Sum.is ∙ ap (λ (negative : List Bool). Sum negative c.in-Sum.accum) (sym (c.in_ok-copy_list-in-Sum.ensures ∙ c.as_slice.ensures))

pub returns-in_ok-copy_list-in-Mux : goal.returns-in_ok-copy_list-in-Mux
returns-in_ok-copy_list-in-Mux c = c.in-Mux.is ∙ ap Mux (sym (c.in_ok-copy_list-in-Mux.ensures ∙ c.as_slice-in-Mux.ensures))

pub returns-in_ok-copy_list-in-Demux : goal.returns-in_ok-copy_list-in-Demux
returns-in_ok-copy_list-in-Demux c = c.in-Demux.is ∙ ap Demux (sym (c.in_ok-copy_list-in-Demux.ensures ∙ c.as_slice-in-Demux.ensures))
