-- `good_steps` is the rule for a step list, test by test.
use borrow.Author.Tests.{le-leb, lt-leb}
use Rattle.refusals.specs.Steps.{good_steps}
use Rattle.refusals.proofs.steps.good_steps.Goals as goal

pub returns-then-steps-lt1 : goal.returns-then-steps-lt1
unfolding good_steps
returns-then-steps-lt1 c = rw (lt-leb _ _ c.if-steps-lt1.true)

pub returns-then-steps-le-STEPS_MOST : goal.returns-then-steps-le-STEPS_MOST
unfolding good_steps
returns-then-steps-le-STEPS_MOST c = rw (le-leb _ _ c.before.before.if-steps-lt1.false, le-leb _ _ c.before.if-steps-le-STEPS_MOST.true) c.rising.ensures

pub returns-else-steps-le-STEPS_MOST : goal.returns-else-steps-le-STEPS_MOST
unfolding good_steps
returns-else-steps-le-STEPS_MOST c = rw (le-leb _ _ c.before.if-steps-lt1.false, lt-leb _ _ c.if-steps-le-STEPS_MOST.false)
