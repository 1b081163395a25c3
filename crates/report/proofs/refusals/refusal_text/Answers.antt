use Rattle.report.proofs.refusals.refusal_text.Goals as goal

pub returns-in-AlreadyBroken : goal.returns-in-AlreadyBroken
returns-in-AlreadyBroken c = rw c.in-AlreadyBroken.is c.before_numbers-in-AlreadyBroken.ensures

pub returns-in-WrongWidth : goal.returns-in-WrongWidth
returns-in-WrongWidth c = rw c.in-WrongWidth.is c.width_text.ensures

pub returns-in-OverBudget : goal.returns-in-OverBudget
returns-in-OverBudget c = rw c.in-OverBudget.is c.before_numbers-in-OverBudget.ensures
