-- `check_pair_by` is the list of checks: the first two are made as one, so are those of the table, and both records.
use Rattle.std.specs.Prelude.{Err, Ok}
use Rattle.std.proofs.Common.{rules, ◌≡◌, refl, sym, ◌∙◌, ap₂, List, [], ◌∷◌, ℕ, ℤ, nat_abs, length, arith}
use Rattle.records.specs.Eight.Codes.{blocks_in}
use Rattle.records.specs.Eight.Asked.{coder-accepted}
use Rattle.refusals.specs.declared.settings.Settings.{Settings}
use Rattle.refusals.specs.Laws.Verdicts.{first-last}
use Rattle.refusals.specs.Limits.{blocks_most}
use Rattle.refusals.specs.Settings.{check_settings, Allowed}
use Rattle.refusals.specs.Steps.{check_steps}
use Rattle.refusals.specs.Verdicts.{first_refusal, Verdict}
use Rattle.scores.specs.Eight.Scores.{check_code}
use Rattle.lookups.specs.Laws.Scoring.{pair-by-is}
use Rattle.lookups.proofs.pair_score.check_pair_by.Goals as goal

-- settings that were accepted
allowed : (s : Settings) (steps : List ℤ) → Ok tt ≡ first_refusal (check_settings s ∷ check_steps 0 steps ∷ []) → Allowed s.q s.m
allowed s steps e = (coder-accepted s steps (sym e)).allowed

-- both records, at q and m
module _ (steps : List ℤ) (b : List ℕ) (steps' : List ℤ) (b' : List ℕ) where
  abbrev codes : ℕ → ℕ → Verdict
  codes q m = first_refusal (check_code (length steps) q m 1 blocks_most 0 0 b ∷ check_code (length steps') q m (blocks_in m b) (blocks_in m b) 0 0 b' ∷ [])

  codes-are : (v : Verdict) (q m q' m' : ℕ) → v ≡ codes q m → q ≡ q' → m ≡ m' → v ≡ first_refusal (codes q' m' ∷ [])
  codes-are v q m q' m' e f g = e ∙ ap₂ codes f g ∙ sym (first-last (codes q' m'))

pub check_lent-requires : goal.check_lent-requires
check_lent-requires c = allowed c.args.s c.args.steps.now c.in_ok-check_coder.ensures

pub digit_values-q-requires : goal.digit_values-q-requires
digit_values-q-requires c = allowed c.args.s c.args.steps.now c.in_ok-check_coder.ensures

pub layers-m-requires : goal.layers-m-requires
layers-m-requires c = allowed c.args.s c.args.steps.now c.in_ok-check_coder.ensures

pub check_codes-requires : goal.check_codes-requires
check_codes-requires c = omega (arith, c.layers-m.ensures, (allowed c.args.s c.args.steps.now c.in_ok-check_coder.ensures).m-most)

pub returns-in_err-check_coder : goal.returns-in_err-check_coder
returns-in_err-check_coder c = let refused : c.from_residual.result ≡ Err c.in_err-check_coder.field-0.0 = search rules in refused ∙ (let a = c.args in sym (pair-by-is a.s a.steps.now a.code.now a.steps2.now a.code2.now a.room _ _ _ (sym c.in_err-check_coder.ensures) refl refl))

pub returns-in_err-check_steps : goal.returns-in_err-check_steps
returns-in_err-check_steps c = let refused : c.from_residual-in_err-check_steps.result ≡ Err c.in_err-check_steps.field-0.0 = search rules in refused ∙ (let a = c.args in
    sym (pair-by-is a.s a.steps.now a.code.now a.steps2.now a.code2.now a.room _ _ _ (sym c.in_ok-check_coder.ensures) (sym c.in_err-check_steps.ensures) refl))

pub returns-in_err-check_lent : goal.returns-in_err-check_lent
returns-in_err-check_lent c = let refused : c.from_residual-in_err-check_lent.result ≡ Err c.in_err-check_lent.field-0.0 = search rules in refused ∙ (let a = c.args in
    sym (pair-by-is a.s a.steps.now a.code.now a.steps2.now a.code2.now a.room _ _ _ (sym c.in_ok-check_coder.ensures) (sym c.in_ok-check_steps.ensures) (sym c.in_err-check_lent.ensures)))

pub returns : goal.returns
returns c = let a = c.args in
    codes-are a.steps.now a.code.now a.steps2.now a.code2.now c.check_codes.result c.digit_values-q.result c.layers-m.result (nat_abs a.s.q) (nat_abs a.s.m) c.check_codes.ensures c.digit_values-q.ensures c.layers-m.ensures
    ∙ sym (pair-by-is a.s a.steps.now a.code.now a.steps2.now a.code2.now a.room _ _ _ (sym c.in_ok-check_coder.ensures) (sym c.in_ok-check_steps.ensures) (sym c.in_ok-check_lent.ensures))
