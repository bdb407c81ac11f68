use Rattle.std.proofs.Common.{◌≡◌, subst, inl, inr}
use Rattle.lt_command.specs.Answers.{plan_in}
use Rattle.lt_answers.specs.Answers.{IsText}
use Rattle.lt_answers.proofs.Due.{due_of_put, same_plan}
use Rattle.ltest.proofs.top.ltest.Goals as goal

pub returns-in-Ok-answer-clause-due : goal.returns-in-Ok-answer-clause-due
returns-in-Ok-answer-clause-due g c files asked told is =
    let same : plan_in c.in-Ok.command ≡ asked = same_plan (plan_in c.in-Ok.command) asked _ c.in-Ok.ensures is in
    due_of_put _ asked files _ _ c.in-Ok-answer.text.items c.put_text.result (subst (λ p. IsText (g.S.Shelf.told c.args.shelf.now) p c.in-Ok-answer.text.items) same c.in-Ok-answer.ensures.text) told
    (rw c.as_slice.ensures.value at c.put_text.ensures.ends)

pub returns-in-Ok-answer-clause-exact : goal.returns-in-Ok-answer-clause-exact
returns-in-Ok-answer-clause-exact g c files asked s told is d =
    elim (returns-in-Ok-answer-clause-due g c files asked told is) [
      | inl outside ↦ inl outside
      | inr due ↦ inr (c.one_answer_is_due.ensures c.parts_keep_laws.ensures files asked c.put_text.result s due d)
    ]
