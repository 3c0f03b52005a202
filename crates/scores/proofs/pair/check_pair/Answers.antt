-- `check_pair` is the list of checks: the first two are made as one, and both records as one.
use Rattle.std.proofs.Common.{rules}
use Rattle.std.specs.Prelude.{Err, Ok}
use mathlib.Core.Path.{◌≡◌, refl, sym, ◌∙◌, ap₂}
use mathlib.Core.List.{List, [], ◌∷◌}
use Prim.Native.Nat.{ℕ}
use native.Mathlib.Omega.{arith}
use lib.IntN.{nat_abs}
use lib.ListN.{length}
use Rattle.records.specs.Eight.Codes.{blocks_in}
use Rattle.records.specs.Eight.Asked.{CoderTaken, coder-accepted}
use Rattle.refusals.specs.Laws.Verdicts.{first-last}
use Rattle.refusals.specs.Limits.{blocks_most}
use Rattle.refusals.specs.Steps.{check_steps}
use Rattle.refusals.specs.Verdicts.{first_refusal, Verdict}
use Rattle.scores.specs.Eight.Pair.{pair_is}
use Rattle.scores.specs.Eight.Scores.{check_code, check_pair}
use Rattle.scores.proofs.pair.check_pair.Goals as goal
use Rattle.scores.proofs.pair.check_pair.Goals.{After-check_coder}

module _ (c : After-check_coder) where
  abbrev b : List ℕ
  b = c.args.code.now

  -- both records, at q and m
  abbrev codes : ℕ → ℕ → Verdict
  codes q m = first_refusal (check_code (length c.args.steps.now) q m 1 blocks_most 0 0 b ∷ check_code (length c.args.steps2.now) q m (blocks_in m b) (blocks_in m b) 0 0 c.args.code2.now ∷ [])

  abbrev whole : Verdict
  whole = codes (nat_abs c.args.s.q) (nat_abs c.args.s.m)

  decided : (v w : Verdict) → c.check_coder.result ≡ v → check_steps 1 c.args.steps2.now ≡ w
      → check_pair c.args.s c.args.steps.now b c.args.steps2.now c.args.code2.now ≡ first_refusal (v ∷ w ∷ whole ∷ [])
  decided v w d e = pair_is c.args.s c.args.steps.now b c.args.steps2.now c.args.code2.now v w (sym c.check_coder.ensures ∙ d) e

  -- the settings and the first list are accepted
  taken : c.check_coder.result ≡ Ok tt → CoderTaken c.args.s c.args.steps.now
  taken e = coder-accepted c.args.s c.args.steps.now (sym c.check_coder.ensures ∙ e)

pub digit_values-q-requires : goal.digit_values-q-requires
digit_values-q-requires c = (taken (goal.at.digit_values-q-requires c).After-check_coder c.in_ok-check_coder.was).allowed

pub layers-m-requires : goal.layers-m-requires
layers-m-requires c = (taken (goal.at.layers-m-requires c).After-check_coder c.in_ok-check_coder.was).allowed

pub check_codes-requires : goal.check_codes-requires
check_codes-requires c = omega (arith, c.layers-m.ensures, (taken (goal.at.check_codes-requires c).After-check_coder c.in_ok-check_coder.was).allowed.m-most)

pub returns-in_err-check_coder : goal.returns-in_err-check_coder
returns-in_err-check_coder c = let refused : c.from_residual.result ≡ Err c.in_err-check_coder.field-0.0 = search rules in refused ∙ (sym (decided (goal.at.returns-in_err-check_coder c).After-check_coder _ _ c.in_err-check_coder.was refl))

pub returns-in_err-check_steps : goal.returns-in_err-check_steps
returns-in_err-check_steps c = let refused : c.from_residual-in_err-check_steps.result ≡ Err c.in_err-check_steps.field-0.0 = search rules in refused ∙ (sym (decided (goal.at.returns-in_err-check_steps c).After-check_coder (Ok tt) _ c.in_ok-check_coder.was (sym c.check_steps.ensures ∙ c.in_err-check_steps.was)))

pub returns : goal.returns
returns c = let a = (goal.at.returns c).After-check_coder in
    c.check_codes.ensures ∙ ap₂ (codes a) c.digit_values-q.ensures c.layers-m.ensures
    ∙ sym (decided a (Ok tt) (Ok tt) c.in_ok-check_coder.was (sym c.check_steps.ensures ∙ c.in_ok-check_steps.was) ∙ first-last (whole a))
