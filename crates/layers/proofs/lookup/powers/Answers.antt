-- `powers` sums four parts, none of which is large.
use mathlib.Core.Path.{refl}
use native.Mathlib.Omega.{arith}
use Rattle.layers.specs.Laws.Entries.{squared, cubed}
use Rattle.layers.proofs.lookup.powers.Goals as goal

pub overflow_mul-result : goal.overflow_mul-result
overflow_mul-result c = omega (arith, c.requires)

pub overflow_add-result : goal.overflow_add-result
overflow_add-result c = omega (arith, squared c.args.q c.requires, cubed c.args.q c.requires)

pub overflow_mul-result-2 : goal.overflow_mul-result-2
overflow_mul-result-2 c = omega (arith, squared c.args.q c.requires, cubed c.args.q c.requires)

pub overflow_mul-result-3 : goal.overflow_mul-result-3
overflow_mul-result-3 c = omega (arith, squared c.args.q c.requires, cubed c.args.q c.requires)

pub overflow_add-result-2 : goal.overflow_add-result-2
overflow_add-result-2 c = omega (arith, squared c.args.q c.requires, cubed c.args.q c.requires)

pub overflow_mul-result-4 : goal.overflow_mul-result-4
overflow_mul-result-4 c = omega (arith, squared c.args.q c.requires, cubed c.args.q c.requires)

pub overflow_mul-result-5 : goal.overflow_mul-result-5
overflow_mul-result-5 c = omega (arith, squared c.args.q c.requires, cubed c.args.q c.requires)

pub overflow_add-result-3 : goal.overflow_add-result-3
overflow_add-result-3 c = omega (arith, squared c.args.q c.requires, cubed c.args.q c.requires)

pub returns : goal.returns
returns c = refl
