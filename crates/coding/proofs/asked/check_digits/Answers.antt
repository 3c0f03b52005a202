-- `check_digits` is the list of checks, test by test.
use Rattle.std.proofs.Common.{rules, sym, ap, ◌∙◌, ℕ, ◌*◌, nat_abs, length, eq-eqb, ne_eqb}
use Rattle.refusals.specs.Laws.Verdicts.{first-last}
use Rattle.coding.specs.Answers.{check_below, check_digits}
use Rattle.coding.specs.Laws.Asked.{checked-allowed}
use Rattle.coding.proofs.asked.check_digits.Goals as goal

pub layers-requires : goal.layers-requires
layers-requires c = checked-allowed c.args.s (sym c.in_ok-check_settings.ensures)

pub digit_values-requires : goal.digit_values-requires
digit_values-requires c = checked-allowed c.args.s (sym c.in_ok-check_settings.ensures)

pub returns-in_err-check_settings : goal.returns-in_err-check_settings
unfolding check_digits
returns-in_err-check_settings c = rw (sym c.in_err-check_settings.ensures) (search rules)

pub returns-then-ds-layers : goal.returns-then-ds-layers
unfolding check_digits
returns-then-ds-layers c =
    rw (sym c.in_ok-check_settings.ensures, eq-eqb (length c.args.ds.now) (8 * nat_abs c.args.s.m) (c.if-ds-layers.true ∙ ap (λ (n : ℕ). 8 * n) c.layers.ensures))
    (c.check_below.ensures ∙ ap (λ (q : ℕ). check_below q 0 c.args.ds.now) c.digit_values.ensures ∙ sym (first-last (check_below (nat_abs c.args.s.q) 0 c.args.ds.now)))

pub returns-else-ds-layers : goal.returns-else-ds-layers
unfolding check_digits
returns-else-ds-layers c = rw (sym c.in_ok-check_settings.ensures, ne_eqb (length c.args.ds.now) (8 * nat_abs c.args.s.m) (λ e. c.if-ds-layers.false (e ∙ ap (λ (n : ℕ). 8 * n) (sym c.layers.ensures))))
