-- `show_text` shows the block that a well-formed text asks for, and refuses a malformed text.
use Rattle.std.proofs.Common.{◌≡◌, ◌∙◌, sym, ap, subst, Some, true, arith, List, ℤ, ℕ, ◌≤◌, length, take, length-take}
use Rattle.std.proofs.Math.Path.{ap₂}
use Rattle.std.proofs.lemmas.List.Edits.{sets}
use Rattle.integers.specs.Vectors.{zeros}
use Rattle.refusals.specs.declared.settings.Settings.{Settings}
use Rattle.texts.specs.Answers.{text_told}
use Rattle.texts.specs.Laws.Asked.{told-block, told-malformed}
use Rattle.listing.specs.Laws.Order.{text-malformed, text-formed}
use Rattle.texts.specs.Laws.Rooms.{take-front}
use Rattle.texts.specs.Laws.Texts.{formed-counts}
use Rattle.listing.specs.Listing.{block_shown, shown}
use Rattle.listing.specs.Pages.{Puts}
use Rattle.texts.specs.Text.{line_of, numbers, settings_in, well_formed}
use Rattle.listing.proofs.show_text.Goals as goal

-- a text that asks for a block: the steps and X as they are lent
module _ (t : List ℕ) (s : Settings) (n : ℕ) (e : text_told t ≡ Some (s, n)) where
  told : (well_formed t ≡ true) × (settings_in (line_of t 0) ≡ s) × (length (numbers (line_of t 1)) ≡ n)
  told = told-block t s n e

  counts : (length (numbers (line_of t 1)) ≤ 2048) × (length (numbers (line_of t 2)) ≡ 8)
  counts = formed-counts t told.0

  steps-are : (x : List ℤ) → x ≡ sets (zeros 2048) 0 (numbers (line_of t 1)) → take n x ≡ numbers (line_of t 1)
  steps-are x h = ap₂ take (sym told.2) h ∙ take-front (zeros 2048) (numbers (line_of t 1)) (omega (arith, counts.0))

  X-is : (x : List ℤ) → x ≡ sets (zeros 2048) 0 (numbers (line_of t 2)) → take 8 x ≡ numbers (line_of t 2)
  X-is x h = ap₂ take (sym counts.1) h ∙ take-front (zeros 2048) (numbers (line_of t 2)) (omega (arith, counts.1))

pub slice_bounds-steps-end : goal.slice_bounds-steps-end
slice_bounds-steps-end c = let e = sym c.in-Some.ensures.answer in omega (arith, (told c.args.given.now _ _ e).2, (counts c.args.given.now _ _ e).0, c.read_text.auto.steps)

pub slice_bounds-show_block-end : goal.slice_bounds-show_block-end
slice_bounds-show_block-end c = let e = sym c.in-Some.ensures.answer in
    omega (arith, length-take c.in-Some.n c.read_text.new.steps, (told c.args.given.now _ _ e).2, (counts c.args.given.now _ _ e).0, c.read_text.auto.steps)

pub returns-in-None : goal.returns-in-None
returns-in-None c = let t = c.args.given.now in
    let same = text-malformed t (told-malformed t (sym c.in-None.ensures.answer)) in
    subst (Puts c.args.page.now c.put_refusal.new.page) same c.put_refusal.ensures

pub returns-in-Some : goal.returns-in-Some
returns-in-Some c =
    let t = c.args.given.now in let s = c.in-Some.s in let n = c.in-Some.n in let e = sym c.in-Some.ensures.answer in
    let formed = told t s n e in let rooms = c.read_text.ensures.room formed.0 in let steps = numbers (line_of t 1) in let X = numbers (line_of t 2) in
    let same : block_shown s (take n c.read_text.new.steps) (take 8 c.read_text.new.x) ≡ shown t
    = ap₂ (block_shown s) (steps-are t s n e _ rooms.0) (X-is t s n e _ rooms.1) ∙ ap (λ (c : Settings). block_shown c steps X) (sym formed.1) ∙ text-formed t formed.0 in
    subst (Puts c.args.page.now c.show_block.new.page) same c.show_block.ensures
