-- `read_lines` takes the lines in turn; the first that is not of its kind makes the text malformed.
use Rattle.std.proofs.Common.{◌∙◌, sym, ap, cond, arith, Bool, length, Some, None}
use Rattle.std.proofs.Math.Path.{ap₂}
use Rattle.texts.specs.Laws.Asked.{counted-numbers, counted-other, pair-two, pair-other, asked-not, first-not, second-not, third-not, eight-not, asked_is}
use Rattle.texts.specs.Text.{numbers, settings_in}
use Rattle.texts.proofs.read_lines.Goals as goal

pub returns-in_err-s : goal.returns-in_err-s
returns-in_err-s c = let f = c.args.first.now in let s = c.args.second.now in let t = c.args.third.now in let no = asked-not f s t (first-not f s t (pair-other f (sym c.in_err-s.ensures))) in record { answer = c.from_residual.ensures ∙ no.0; room = no.1 }

pub returns-in_err-n : goal.returns-in_err-n
returns-in_err-n c = let f = c.args.first.now in let s = c.args.second.now in let t = c.args.third.now in let no = asked-not f s t (second-not f s t (counted-other s (sym c.in_err-n.ensures.answer))) in record { answer = c.from_residual-in_err-n.ensures ∙ no.0; room = no.1 }

pub returns-in_err-read_numbers : goal.returns-in_err-read_numbers
returns-in_err-read_numbers c = let f = c.args.first.now in let s = c.args.second.now in let t = c.args.third.now in let no = asked-not f s t (third-not f s t (counted-other t (sym c.in_err-read_numbers.ensures.answer))) in record { answer = c.from_residual-in_err-read_numbers.ensures ∙ no.0; room = no.1 }

pub returns-then-branch-ne8 : goal.returns-then-branch-ne8
returns-then-branch-ne8 c = let f = c.args.first.now in let s = c.args.second.now in let t = c.args.third.now in
    let read = counted-numbers t _ (sym c.in_ok-read_numbers.ensures.answer) in
    let no = asked-not f s t (eight-not f s t (λ e. c.if-branch-ne8.true (sym read.1 ∙ e))) in record { answer = no.0; room = no.1 }

pub returns : goal.returns
returns c = let f = c.args.first.now in let s = c.args.second.now in let t = c.args.third.now in
    let pair = pair-two f _ (sym c.in_ok-s.ensures) in
    let steps = counted-numbers s _ (sym c.in_ok-n.ensures.answer) in
    let read = counted-numbers t _ (sym c.in_ok-read_numbers.ensures.answer) in
    let all = asked_is f s t pair.0 steps.0 read.0 (omega (arith, read.1, c.if-branch-ne8.false)) in record {
      answer = ap₂ (λ s n. Some (s, n)) (sym pair.1) (sym steps.1) ∙ sym (ap (λ (b : Bool). cond b (Some (settings_in f, length (numbers s))) None) all);
      room = λ _. (c.read_numbers.ensures.room steps.0, c.read_numbers-2.ensures.room read.0);
    }
