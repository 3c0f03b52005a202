-- `first_fault` walks the blocks: what is left of them gives the same verdict as all, until one is refused.
use Rattle.std.proofs.Common.{rules, Err, ◌≡◌, List, [], ◌∷◌, ℕ, ◌+◌, ◌*◌, ◌-◌, ◌<◌, sym, ◌∙◌, ap, take, drop, arith}
use Rattle.refusals.specs.Laws.Verdicts.{first-last}
use Rattle.refusals.specs.Verdicts.{first_refusal, Verdict}
use Rattle.layers.specs.Digits.{cut}
use Rattle.records.specs.Codes.{check_block, check_blocks}
use Rattle.records.specs.Laws.Codes.{blocks-opened}
use Rattle.records.proofs.codes.first_fault.Goals as goal

-- the verdict on block i decides, and where it accepts, the rest
decided : (steps q n first k i : ℕ) (body : List ℕ) (v : Verdict) → i < k → v ≡ check_block steps q (first + n * i) (take (n * i + n - n * i) (drop (n * i) body)) →
    check_blocks steps q n (first + n * i) (cut n (k - i) (drop (n * i) body)) ≡ first_refusal (v ∷ check_blocks steps q n (first + n * (i + 1)) (cut n (k - (i + 1)) (drop (n * (i + 1)) body)) ∷ [])
decided steps q n first k i body v h e = let whole : n * i + n - n * i ≡ n = omega arith in
    blocks-opened steps q n first k i body h
    ∙ ap (λ (w : Verdict). first_refusal (w ∷ check_blocks steps q n (first + n * (i + 1)) (cut n (k - (i + 1)) (drop (n * (i + 1)) body)) ∷ []))
    (sym (e ∙ ap (λ (j : ℕ). check_block steps q (first + n * i) (take j (drop (n * i) body))) whole))

pub returns-in_err-check_block : goal.returns-in_err-check_block
returns-in_err-check_block c = let a = c.args in
    let e : c.from_residual.result ≡ Err c.in_err-check_block.field-0.0 = search rules in
    e ∙ sym (c.loop-i.invariant ∙ decided a.steps a.q a.n a.first a.k c.loop-i.i a.body.now _ c.loop-i-test.true (sym c.in_err-check_block.was ∙ c.check_block.ensures))

pub loop-i-preserved : goal.loop-i-preserved
loop-i-preserved c = let a = c.args in
    c.loop-i.invariant ∙ decided a.steps a.q a.n a.first a.k c.loop-i.i a.body.now _ c.loop-i-test.true (sym c.in_ok-check_block.was ∙ c.check_block.ensures) ∙ first-last _
