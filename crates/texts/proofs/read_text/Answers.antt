-- `read_text` reads the three lines that were found; where they are not three the text is malformed.
use Rattle.std.proofs.Common.{◌≡◌, ◌∙◌, sym, ap, true, false, cond, arith, ℕ, Bool, List, length, Some, None}
use Rattle.std.proofs.lemmas.List.Edits.{sets}
use Rattle.texts.specs.Laws.Texts.{not-formed, line-is, formed-is, told_is}
use Rattle.texts.specs.Text.{numbers, line_of, settings_in, well_formed}
use Rattle.texts.proofs.read_text.Goals as goal

pub returns-in_err-a : goal.returns-in_err-a
returns-in_err-a c = let t = c.args.text.now in
    let no : well_formed t ≡ false = not-formed t c.in_err-a.ensures in record {
      answer = c.from_residual.ensures ∙ sym (ap (λ (b : Bool). cond b (Some (settings_in (line_of t 0), length (numbers (line_of t 1)))) None) no);
      room = λ e. let f : true ≡ false = sym e ∙ no in let z : ◌≡◌ {A = ℕ} 0 1 = cc in absurd (omega arith);
    }

pub returns : goal.returns
returns c =
    let x = c.args.text.now in let a = c.in_ok-a.a in let b = c.in_ok-a.b in let e = c.in_ok-a.c in let h = c.in_ok-a.ensures in
    record {
      answer = c.read_lines.ensures.answer ∙ told_is x a b e h;
      room = λ w. let both = c.read_lines.ensures.room (sym (formed-is x a b e h) ∙ w) in (
        both.0 ∙ ap (λ (f : List ℕ). sets c.args.steps.now 0 (numbers f)) (sym (line-is x a b e h 1)),
        both.1 ∙ ap (λ (f : List ℕ). sets c.args.x.now 0 (numbers f)) (sym (line-is x a b e h 2)),
      );
    }
