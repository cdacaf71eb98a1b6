use Rattle.std.proofs.Common.{◌≡◌, ◌+◌, drop, arith, rules}
use Rattle.std.proofs.lemmas.Grind.{common_steps}
use Rattle.job_line.proofs.FirstLine.{lines_of-first}
use Rattle.job_line.proofs.text.TextLinesIterator.next.Goals as goal

pub returns-clause-steps : goal.returns-clause-steps
returns-clause-steps c =
    let left : c.unwrap_or-self.result.now ≡ drop (c.line_length-end.result + 1) c.args.self.now.rest.now = grind (arith, common_steps) in
    let first = lines_of-first c.args.self.now.rest.now (grind arith) in
    cc

pub returns-clause-goes : goal.returns-clause-goes
returns-clause-goes c = let steps = returns-clause-steps c in search rules
