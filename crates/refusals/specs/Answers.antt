-- Answers whose value is one number, and lent room afterwards (01, When the unit says no).
use Rattle.std.specs.Prelude.{List, ◌++◌, ℤ, length, drop, Result, Ok, Err}
use Rattle.refusals.specs.declared.Refusal.{Refusal}
use Rattle.refusals.specs.Verdicts.{Verdict}

-- what an operation answers whose value is one number
abbrev pub Answer : Type 0
Answer = Result ℤ Refusal

-- the value where the verdict accepts, else the refusal
abbrev pub valued : {A : Type 0} → Verdict → A → Result A Refusal
valued (Ok u) z = Ok z
valued (Err r) z = Err r

-- lent bytes or entries afterwards: f at their front and the rest as found; where it is refused, all as found
abbrev pub written : {A : Type 0} → Verdict → List A → List A → List A
written (Ok u) f out = f ++ drop (length f) out
written (Err r) f out = out
