-- What the report's code relies on: what was given is a block and its coder, and the reports on it are exact.
use Rattle.std.specs.Result.{result_unwrap_or}
use Rattle.std.specs.Prelude.{◌≡◌, refl, List, [], ◌∷◌, map, ℕ, ◌+◌, ◌*◌, ◌<◌, ◌≤◌, eqb, ℤ, pos, nat_abs, ◌*ℤ◌, ◌-ℤ◌, length, drop, ◌<ℤ◌, Ok, Err}
use Rattle.std.proofs.Common.{sym, ◌∙◌, subst, eqb-true}
use Rattle.std.proofs.Math.Path.{ap}
use Rattle.std.proofs.Math.Decide.{dec_le}
use native.Mathlib.Omega.{arith}
use Rattle.std.proofs.Math.ListN.{get_or}
use Rattle.integers.specs.Laws.Loops.{range_at}
use Rattle.integers.specs.Laws.Sums.{at-scale, length-scale_v}
use Rattle.integers.specs.Vectors.{«at», scale_v, Bounded}
use Rattle.blocks.specs.Limits.{Block}
use Rattle.blocks.specs.Laws.Theorems.{block-digits, block-decodes}
use Rattle.blocks.specs.Trials.{first_fitting, block_code}
use Rattle.layers.specs.Digits.{IsCode}
use Rattle.layers.specs.E8.{e8, nearest}
use Rattle.layers.proofs.Laws.Bases.{base-two}
use Rattle.layers.proofs.Laws.E8.{decode-in8, decode-times8}
use Rattle.readings.specs.declared.Reading.{Reading}
use Rattle.readings.specs.Fractions.{Exactly}
use Rattle.readings.proofs.Laws.Report.{report-taken, report-decoded, report-difference}
use Rattle.readings.specs.Report.{Reportable, report_reading}
use Rattle.readings.specs.Taking.{units_most, measure_units}
use Rattle.refusals.specs.declared.settings.Settings.{Settings}
use Rattle.refusals.specs.declared.Refusal.{Refusal}
use Rattle.refusals.specs.declared.Refusal.TheVariants.{Size}
use Rattle.refusals.specs.Laws.Verdicts.{refused-never, unless-accepted, first-accepted, first-last, first-append}
use Rattle.refusals.specs.Settings.{check_settings}
use Rattle.refusals.specs.Steps.{check_steps}
use Rattle.refusals.specs.Verdicts.{unless, first_refusal, Verdict}
use Rattle.records.specs.Eight.Codes.{Coder, step_of, whole_point}
use Rattle.layers.specs.Code.{code8}
use Rattle.encoding.specs.Encode.{check_fits}
use Rattle.records.specs.Eight.Asked.{CoderTaken, coder-taken, coder-positive, steps-positive}
use Rattle.encoding.specs.Laws.Encode.{fits-none}
use Rattle.records.proofs.Eight.Hours.{units-sound, units_small, units-taken}
use Rattle.reports.specs.Report.{no_readings, check_report, block_report, reported, report, check_given, Reportables}
use Rattle.records.specs.Eight.Vectors.{units_hour, check_readings}

-- what was given and not refused: allowed settings, steps to code with, and a block
pub record Given (c : Settings) (steps x : List ℤ) : Type 0 where
  pub taken : CoderTaken c steps
  pub block : Block x

module _ (c : Settings) (steps x : List ℤ) where
  abbrev eight : Verdict
  eight = unless (eqb (length x) 8) (Size 0)

  abbrev taken : Verdict
  taken = check_readings 0 (units_hour x).readings

  abbrev fitting : Verdict
  fitting = check_fits (code8 (nat_abs c.q) (nat_abs c.m)) steps 0 (x ∷ [])

  pub given-taken : check_given c steps x ≡ Ok tt → Given c steps x
  given-taken e =
      let s = first-accepted (check_settings c) (check_steps 0 steps ∷ eight ∷ taken ∷ []) e in let l = first-accepted (check_steps 0 steps) (eight ∷ taken ∷ []) s.1 in
      let n = first-accepted eight (taken ∷ []) l.1 in let r = first-accepted taken [] n.1 in
      record {
        taken = coder-taken c 0 steps s.0 l.0;
        block = record { long = eqb-true (length x) 8 (unless-accepted _ (Size 0) n.0); small = subst (Bounded units_most) (units-taken 0 x r.0) (units_small (map measure_units x) (units-sound x).ranged) };
      }

  report-opened : (v : Verdict) → check_given c steps x ≡ v → check_report c steps x ≡ first_refusal (v ∷ fitting ∷ [])
  unfolding check_report
  report-opened v e = first-append (check_settings c ∷ check_steps 0 steps ∷ eight ∷ taken ∷ []) (fitting ∷ []) ∙ ap (λ (w : Verdict). first_refusal (w ∷ fitting ∷ [])) e

  -- what was given is refused, or whether a step fits is the last check
  pub report-refused : (r : Refusal) → check_given c steps x ≡ Err r → check_report c steps x ≡ Err r
  report-refused r e = report-opened (Err r) e

  pub report-last : check_given c steps x ≡ Ok tt → check_report c steps x ≡ fitting
  report-last e = report-opened (Ok tt) e ∙ first-last fitting

-- a block that a listed step fits
module _ (q : ℤ) (m : ℕ) (steps : List ℤ) (coder : Coder q m steps) (X : List ℤ) (block : Block X) (h : first_fitting e8 nearest (nat_abs q) m steps X < length steps) where
  abbrev b : List ℕ
  b = block_code e8 nearest (nat_abs q) m steps X

  abbrev s : ℤ
  s = step_of steps b

  abbrev e : List ℤ
  e = whole_point (nat_abs q) m b

  q> : 0 < nat_abs q
  q> = coder-positive q m steps coder

  positive : (i : ℕ) → i < length steps → pos 0 <ℤ «at» steps i
  positive = steps-positive q m steps coder

  -- its bytes are m layers of digits
  pub block-code : IsCode 8 (nat_abs q) m (drop 1 b)
  block-code = block-digits e8 nearest X block.long (nat_abs q) m q> steps positive h

  -- s·e is within 2s of 2X, since e is the point that X rounds to at s
  close : (i : ℕ) → i < 8 → nat_abs (pos 2 *ℤ «at» X i -ℤ s *ℤ «at» e i) ≤ 2 * nat_abs s
  close i k =
      rw ((block-decodes e8 nearest X block.long (nat_abs q) m q> steps positive h).1, sym (at-scale (pos 2) X i))
      (nearest.close s (positive _ h) (scale_v (pos 2) X) (length-scale_v (pos 2) X ∙ block.long) i k)

  -- and its reports are exact
  pub block-reportable : Reportables X s e
  block-reportable = let most = (coder.listed.each _ h).most in record {
    readings-long = block.long;
    point-long = (decode-in8 (nat_abs q) m q> _ block-code).long;
    each = λ i k. record {
      taken = block.small i;
      decoded = decode-times8 (nat_abs q) m q> _ block-code (base-two q coder.base) coder.power s most i;
      difference = omega (arith, close i k, most);
    };
  }

-- an answer has eight readings, refused or not
pub report-long : (c : Settings) (steps x : List ℤ) → length (result_unwrap_or (report c steps x) no_readings) ≡ 8
unfolding report
report-long c steps x = go (check_report c steps x)
  where
    go : (v : Verdict) → length (result_unwrap_or (reported v (block_report (nat_abs c.q) (nat_abs c.m) steps x)) no_readings) ≡ 8
    go (Ok u) = refl
    go (Err r) = refl

-- the three numbers of a reading X that was decoded as s·e / 2048, with nothing lost
pub record ExactReading (r : Reading) (X s e : ℤ) : Type 0 where
  pub taken : Exactly r.taken X 1024
  pub decoded : Exactly r.decoded (s *ℤ e) 2048
  pub difference : Exactly r.difference (pos 2 *ℤ X -ℤ s *ℤ e) 2048

-- a report that is not refused
module _ (c : Settings) (steps x : List ℤ) (ok : check_report c steps x ≡ Ok tt) where
  abbrev q : ℕ
  q = nat_abs c.q

  abbrev m : ℕ
  m = nat_abs c.m

  checked : (check_given c steps x ≡ Ok tt) × (fitting c steps x ≡ Ok tt)
  checked = let t = first-accepted (check_given c steps x) (fitting c steps x ∷ []) (sym (report-opened c steps x _ refl) ∙ ok) in (t.0, sym (first-last (fitting c steps x)) ∙ t.1)

  fits : first_fitting e8 nearest q m steps x < length steps
  fits = elim (dec_le (length steps) (first_fitting e8 nearest q m steps x)) [
    | yes h ↦ refused-never (sym (fits-none (code8 q m) steps 0 x [] h) ∙ checked.1)
    | no h ↦ omega arith
  ]

  abbrev bytes : List ℕ
  bytes = block_code e8 nearest q m steps x

  abbrev reading : ℕ → Reading
  reading i = report_reading («at» x i) (step_of steps bytes) («at» (whole_point q m bytes) i)

  entry : (i : ℕ) (d : Reading) → i < 8 → get_or (result_unwrap_or (report c steps x) no_readings) i d ≡ reading i
  unfolding report
  entry i d h = let z : 0 + i ≡ i = omega arith in ap (λ (v : Verdict). get_or (result_unwrap_or (reported v (block_report q m steps x)) no_readings) i d) ok ∙ range_at reading 0 8 i d h ∙ ap reading z

  -- has, for each of the eight readings, three exact numbers (01, Layers and steps)
  pub report-exact : (i : ℕ) (d : Reading) → i < 8 → ExactReading (get_or (result_unwrap_or (report c steps x) no_readings) i d) («at» x i) (step_of steps bytes) («at» (whole_point q m bytes) i)
  report-exact i d h =
      let X : ℤ = «at» x i in let s : ℤ = step_of steps bytes in let e : ℤ = «at» (whole_point q m bytes) i in let g = given-taken c steps x checked.0 in
      let can : Reportable X s e = (block-reportable c.q m steps g.taken.coder x g.block fits).each i h in
      subst (λ (r : Reading). ExactReading r X s e) (sym (entry i d h)) (record { taken = report-taken X s e can; decoded = report-decoded X s e can; difference = report-difference X s e can })
