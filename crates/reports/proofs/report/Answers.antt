-- `report` is refused with what was given, or else reports on the block.
use Rattle.std.specs.Prelude.{Err}
use Rattle.refusals.specs.Verdicts.{Verdict}
use Rattle.std.proofs.Common.{◌≡◌, [], ◌∷◌, ℕ, ℤ, nat_abs, sym, ◌∙◌, ap, ap₂, subst₂, rules}
use mir.Syntax.{w64}
use mir.Val.{to_z, of_z}
use Rattle.layers.specs.Code.{code8}
use Rattle.records.specs.Eight.Codes.{Coder}
use Rattle.encoding.specs.Encode.{check_fits}
use Rattle.reports.specs.Laws.Report.{given-taken, report-refused, report-last}
use Rattle.reports.specs.Report.{ReportAnswer, block_report, reported, report}
use Rattle.reports.proofs.report.Goals as goal

pub base-requires : goal.base-requires
base-requires c = (given-taken c.args.s c.args.steps.now c.args.x.now (sym c.check_given.ensures ∙ c.in_ok-check_given.was)).taken.allowed

pub layers-requires : goal.layers-requires
layers-requires c = (given-taken c.args.s c.args.steps.now c.args.x.now (sym c.check_given.ensures ∙ c.in_ok-check_given.was)).taken.allowed

pub report_block-requires : goal.report_block-requires
report_block-requires c = let g = given-taken c.args.s c.args.steps.now c.args.x.now (sym c.check_given.ensures ∙ c.in_ok-check_given.was) in
    let same : to_z w64 (of_z w64 c.base.result) ≡ c.base.result = search rules in
    (g.block, subst₂ (λ (q : ℤ) (m : ℕ). Coder q m c.args.steps.now) (sym (same ∙ c.base.ensures)) (sym c.layers.ensures) g.taken.coder)

pub returns-in_err-check_given : goal.returns-in_err-check_given
unfolding report
returns-in_err-check_given c = let v = c.args.s in let X = c.args.x.now in let l = c.args.steps.now in
    let refused : c.from_residual.result ≡ Err c.in_err-check_given.field-0.0 = search rules in record {
      answer = refused ∙ ap (λ (w : Verdict). reported w (block_report (nat_abs v.q) (nat_abs v.m) l X)) (sym (report-refused v l X _ (sym c.check_given.ensures ∙ c.in_err-check_given.was)));
    }

pub returns : goal.returns
unfolding report
returns c = let v = c.args.s in let X = c.args.x.now in let l = c.args.steps.now in
    let same : to_z w64 (of_z w64 c.base.result) ≡ c.base.result = search rules in
    let block : ℤ → ℕ → ReportAnswer = λ q m. reported (check_fits (code8 (nat_abs q) m) l 0 (X ∷ [])) (block_report (nat_abs q) m l X) in record {
      answer = c.report_block.ensures ∙ ap₂ block (same ∙ c.base.ensures) c.layers.ensures
          ∙ ap (λ (w : Verdict). reported w (block_report (nat_abs v.q) (nat_abs v.m) l X)) (sym (report-last v l X (sym c.check_given.ensures ∙ c.in_ok-check_given.was)));
    }
