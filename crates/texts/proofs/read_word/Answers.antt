-- `read_word` is a number by its sign and by the size of its digits.
use Rattle.std.proofs.Common.{◌≡◌, ◌∙◌, refl, ap, true, false, Bool, ℕ, List, [], ◌∷◌, take, eqb, ◌&&◌}
use Rattle.std.specs.Cmp.Lexicographic.{pointwise}
use Rattle.texts.specs.Answers.{size_of, signed}
use Rattle.texts.specs.Laws.Numbers.{number-told}
use Rattle.texts.specs.Text.{minus, has_minus}
use Rattle.texts.proofs.read_word.Goals as goal

-- whether a minus can be taken off the front
led-by : (w : List ℕ) → has_minus w ≡ pointwise eqb (take 1 w) (minus ∷ [])
led-by [] = refl
led-by (b ∷ w) = go (eqb b minus)
  where
    go : (e : Bool) → e ≡ (e && true)
    go true = refl
    go false = refl

pub returns-in-Some : goal.returns-in-Some
returns-in-Some c = let w = c.args.word.now in let h = c.in-Some.ensures.cases in
    c.signed.ensures ∙ ap (signed true) (c.digits_size.ensures ∙ ap size_of h.1) ∙ number-told w true (led-by w ∙ h.0)

pub returns-in-None : goal.returns-in-None
returns-in-None c = let w = c.args.word.now in
    c.signed-in-None.ensures ∙ ap (signed false) c.digits_size-in-None.ensures ∙ number-told w false (led-by w ∙ c.in-None.ensures.cases)
