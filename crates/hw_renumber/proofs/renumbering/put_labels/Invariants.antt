use Rattle.std.proofs.Common.{◌≡◌, ◌++◌, take, map}
use Rattle.hw_renumber.specs.Renumbered.{moved_label, place_in}
use Rattle.hw_renumber.proofs.renumbering.put_labels.Given as goal

abbrev pub invariant-loop-label : goal.invariant-loop-label
invariant-loop-label l = l.made ≡ record l.initial.made { labels = l.initial.made.labels ++ map (moved_label (place_in l.places)) (take l.label-index l.labels) }
