-- `check_units_hour` is the list of checks, one after the other; the first two are made as one.
use Rattle.std.proofs.Common.{rules}
use Rattle.std.specs.Prelude.{Ok, Err}
use mathlib.Core.Path.{◌≡◌, refl, sym, ◌∙◌, ap}
use mathlib.Core.Bool.{Bool}
use mathlib.Core.List.{[], ◌∷◌}
use Rattle.records.specs.Eight.Vectors.{Hour, units_hour, check_readings}
use Rattle.refusals.specs.declared.Refusal.TheVariants.{Size}
use Rattle.refusals.specs.Laws.Verdicts.{first-last}
use Rattle.refusals.specs.Verdicts.{unless, first_refusal, Verdict}
use Rattle.scores.specs.Hours.{check_hour}
use Rattle.scores.specs.Laws.Asked.{hour-is}
use Rattle.scores.proofs.hours.check_units_hour.Goals as goal
use Rattle.scores.proofs.hours.check_units_hour.Goals.{After-check_coder}

module _ (c : After-check_coder) where
  abbrev h : Hour
  h = units_hour c.args.x.now

  abbrev readings : Verdict
  readings = check_readings 0 h.readings

  decided : (v f : Verdict) → c.check_coder.result ≡ v → h.frame ≡ f → check_hour c.args.s c.args.steps.now h ≡ first_refusal (v ∷ f ∷ readings ∷ [])
  decided v f d e = hour-is c.args.s c.args.steps.now h v f readings (sym c.check_coder.ensures ∙ d) e refl

pub returns-in_err-check_coder : goal.returns-in_err-check_coder
returns-in_err-check_coder c = let refused : c.from_residual.result ≡ Err c.in_err-check_coder.field-0.0 = search rules in refused ∙ (let a = (goal.at.returns-in_err-check_coder c).After-check_coder in sym (decided a (Err _) (h a).frame c.in_err-check_coder.was refl))

pub returns-then-whole_blocks : goal.returns-then-whole_blocks
returns-then-whole_blocks c = let a = (goal.at.returns-then-whole_blocks c).After-check_coder in
    c.check_units.ensures ∙ sym (decided a (Ok tt) (Ok tt) c.in_ok-check_coder.was (ap (λ (b : Bool). unless b (Size 0)) (sym c.whole_blocks.ensures ∙ c.if-whole_blocks.true)) ∙ first-last (readings a))

pub returns-else-whole_blocks : goal.returns-else-whole_blocks
returns-else-whole_blocks c =
    sym (decided (goal.at.returns-else-whole_blocks c).After-check_coder (Ok tt) (Err (Size 0)) c.in_ok-check_coder.was (ap (λ (b : Bool). unless b (Size 0)) (sym c.whole_blocks.ensures ∙ c.if-whole_blocks.false)))
