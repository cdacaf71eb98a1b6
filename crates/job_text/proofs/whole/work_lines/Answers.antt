use Rattle.std.proofs.Common.{◌≡◌, ◌∷◌, [], ◌++◌, vec_items, ap, sym, ◌∙◌, subst, subst₂}
use Rattle.std.proofs.lemmas.List.{append_assoc, append-nil}
use Rattle.job_line.specs.Split.{lines_of}
use Rattle.job_text.specs.Jobs.{stage_of, fresh, WorkedAll, no_line, one_line}
use Rattle.job_text.proofs.whole.work_lines.Goals as goal

pub loop-line-init : goal.loop-line-init
loop-line-init c = λ more t h.
    let ls : lines_of c.into_iter-line-iterator.result.rest.now ≡ lines_of c.args.text.now = cc in
    let none : vec_items c.new-answers.result ≡ [] = c.new-answers.ensures.items in
    rw none (subst₂ (λ s rest. WorkedAll s rest more t) c.in_ok-job.ensures ls h)

pub loop-line-preserved : goal.loop-line-preserved
loop-line-preserved c = λ more t h.
    let answers = vec_items c.loop-line.answers in
    let a = c.work-next.result.1 in
    let on = c.loop-line.invariant (a ∷ more) t (rw c.in-Some.ensures.steps (one_line c.work-next.ensures h)) in
    subst (λ as'. WorkedAll fresh (lines_of c.args.text.now) as' t) (sym (ap (λ as'. as' ++ more) c.in_ok-push.ensures.items ∙ append_assoc answers (a ∷ []) more)) on

pub returns : goal.returns
returns c = (
  stage_of c.loop-line.job,
  subst (λ as'. WorkedAll fresh (lines_of c.args.text.now) as' (stage_of c.loop-line.job)) (append-nil (vec_items c.loop-line.answers)) (c.loop-line.invariant [] _ (rw c.in-None.ensures.steps.0 no_line)),
)
