use Rattle.vl_inner.proofs.NameReads.{reads-renamed}
use Rattle.vl_inner.proofs.laws.renamed_reads.Goals as goal

pub returns : goal.returns
returns c = reads-renamed
