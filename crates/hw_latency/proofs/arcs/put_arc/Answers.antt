use Rattle.hw_latency.proofs.arcs.put_arc.Goals as goal

pub returns : goal.returns
returns c = record {
  arc = c.arc_between-arc.result;
  put = c.in_ok-push.ensures.items;
  is = c.arc_between-arc.ensures.is;
  begins = c.arc_between-arc.ensures.from;
  ends = c.arc_between-arc.ensures.to;
  small = c.arc_between-arc.ensures.small;
}
