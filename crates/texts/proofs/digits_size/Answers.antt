-- `digits_size` walks the digits: those that are left, after the value so far, give the same size as all.
use Rattle.std.proofs.Common.{◌∙◌, sym, ap₂, add-one, arith, drop, ℕ}
use Rattle.texts.specs.Answers.{size_after}
use Rattle.texts.specs.Laws.Numbers.{size-next}
use Rattle.texts.proofs.digits_size.Goals as goal

pub loop-b-preserved : goal.loop-b-preserved
loop-b-preserved c = let ds = c.args.ds.now in let i = c.loop-b.b-index in record {
  kept = omega (arith, c.next_value-v.ensures);
  left = c.loop-b.invariant.left ∙ size-next c.loop-b.v ds i c.loop-b-test.true (sym c.if-not-is_ascii_digit.ensures.value)
      ∙ ap₂ (λ (v j : ℕ). size_after v (drop j ds)) (sym c.next_value-v.ensures) (sym (add-one i));
}
