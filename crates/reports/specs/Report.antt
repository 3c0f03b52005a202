-- The report on one block (01, Layers and steps).
use Rattle.std.specs.Prelude.{◌≡◌, List, [], ◌∷◌, map, ℕ, ◌<◌, eqb, ℤ, pos, nat_abs, length, replicate, Result}
use Rattle.blocks.specs.Trials.{block_code}
use Rattle.integers.specs.Vectors.{«at», range}
use Rattle.layers.specs.E8.{e8, nearest}
use Rattle.readings.specs.declared.Reading.{Reading}
use Rattle.readings.specs.Report.{Reportable, report_reading}
use Rattle.refusals.specs.declared.settings.Settings.{Settings}
use Rattle.refusals.specs.declared.Refusal.{Refusal}
use Rattle.refusals.specs.declared.Refusal.TheVariants.{Size}
use Rattle.refusals.specs.Answers.{valued}
use Rattle.refusals.specs.Settings.{check_settings}
use Rattle.refusals.specs.Steps.{check_steps}
use Rattle.refusals.specs.Verdicts.{unless, first_refusal, Verdict}
use Rattle.records.specs.Eight.Codes.{step_of, whole_point}
use Rattle.layers.specs.Code.{code8}
use Rattle.encoding.specs.Encode.{check_fits}
use Rattle.records.specs.Eight.Vectors.{units_hour, check_readings}

-- settings; steps; exactly eight readings; each a reading; last whether a listed step fits
unfoldable pub check_report : Settings → List ℤ → List ℤ → Verdict
check_report c steps x = first_refusal (check_settings c ∷ check_steps 0 steps ∷ unless (eqb (length x) 8) (Size 0)
    ∷ check_readings 0 (units_hour x).readings ∷ check_fits (code8 (nat_abs c.q) (nat_abs c.m)) steps 0 (x ∷ []) ∷ [])

-- each of eight readings X that were decoded at the step s as the doubled point e: as taken, as decoded, and the first less the second
abbrev pub reading_reports : List ℤ → ℤ → List ℤ → List Reading
reading_reports X s e = map (λ (i : ℕ). report_reading («at» X i) s («at» e i)) (range 0 8)

-- the same of a block, as decoded from its bytes
abbrev pub block_report : ℕ → ℕ → List ℤ → List ℤ → List Reading
block_report q m steps X = let b = block_code e8 nearest q m steps X in reading_reports X (step_of steps b) (whole_point q m b)

-- what a report answers
abbrev pub ReportAnswer : Type 0
ReportAnswer = Result (List Reading) Refusal

-- the eight where the verdict accepts, else the refusal
abbrev pub reported : Verdict → List Reading → ReportAnswer
reported = valued

-- +0.0 throughout
abbrev pub no_readings : List Reading
no_readings = replicate 8 (report_reading (pos 0) (pos 0) (pos 0))

-- the whole answer
unfoldable pub report : Settings → List ℤ → List ℤ → ReportAnswer
report c steps x = reported (check_report c steps x) (block_report (nat_abs c.q) (nat_abs c.m) steps x)

-- ---- for the code

-- what is refused before a step is tried
abbrev pub check_given : Settings → List ℤ → List ℤ → Verdict
check_given c steps x = first_refusal (check_settings c ∷ check_steps 0 steps ∷ unless (eqb (length x) 8) (Size 0) ∷ check_readings 0 (units_hour x).readings ∷ [])

-- eight readings and eight coordinates, whose reports at the step s are exact
pub record Reportables (X : List ℤ) (s : ℤ) (e : List ℤ) : Type 0 where
  pub readings-long : length X ≡ 8
  pub point-long : length e ≡ 8
  pub each : (i : ℕ) → i < 8 → Reportable («at» X i) s («at» e i)
