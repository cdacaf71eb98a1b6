use Rattle.job.proofs.Limited.{limited}
use Rattle.job.proofs.text_of.Goals as goal

pub returns-clause-bytes : goal.returns-clause-bytes
returns-clause-bytes g c = limited g.R.Read.remaining c.take.result.inner c.args.input c.take.result.limit 65537 _ c.read_to_end.new.buf.items c.truncate.new.self.items c.take.ensures.inner c.take.ensures.limit c.in_ok-text.ensures.items c.truncate.ensures.items c.in_ok-read_to_end.ensures.bytes
