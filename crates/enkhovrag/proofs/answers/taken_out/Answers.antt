-- `taken_out` goes by the cases of a taken reading.
use Rattle.std.specs.Prelude.{◌≡◌, Err}
use Rattle.std.proofs.Common.{rules, sym, ◌∙◌, ap}
use Rattle.readings.specs.declared.Fault.TheVariants.{Missing, OutOfRange}
use Prim.Native.Nat.{ℕ}
use native.Mathlib.Omega.{arith}
use lib.Ieee.{Float, of_bits}
use Rattle.readings.proofs.Laws.Exact.{fraction-zero}
use Rattle.enkhovrag.specs.declared.answers.EkTaken.{EkTaken}
use Rattle.enkhovrag.specs.Answers.{taken_out}
use Rattle.enkhovrag.proofs.answers.taken_out.Goals as goal

-- no value: the number alone, and +0.0
none : ℕ → Float → EkTaken
none n v = record { number = n; value = v }

pub returns-in-Err-Missing : goal.returns-in-Err-Missing
unfolding none of_bits
returns-in-Err-Missing c = let e : c.args.t ≡ Err Missing = search rules in sym (ap taken_out e ∙ ap (none 4) (fraction-zero 1024 (omega arith)))

pub returns-in-Err-OutOfRange : goal.returns-in-Err-OutOfRange
unfolding none of_bits
returns-in-Err-OutOfRange c = let e : c.args.t ≡ Err OutOfRange = search rules in sym (ap taken_out e ∙ ap (none 5) (fraction-zero 1024 (omega arith)))
