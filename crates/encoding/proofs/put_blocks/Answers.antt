-- `put_blocks` writes block after block, each in its own part: after i turns the first i stand in front.
use Rattle.std.proofs.Common.{◌≡◌, List, ◌++◌, ℕ, ◌+◌, ◌*◌, ◌-◌, ◌<◌, ◌≤◌, sym, ◌∙◌, ap, ap₂, take, drop, length, length-take, arith, rules}
use borrow.Rule.Slice.PartMut.{put_mid}
use lib.Seq.{take-add}
use Rattle.layers.proofs.Laws.Loops.{write-in}
use Rattle.records.specs.Laws.Parts.{part-ends}
use Rattle.encoding.proofs.put_blocks.Goals as goal

-- block i stands in its part
more-is : (code found out part : List ℕ) (n k i : ℕ) → i < k → n * k ≤ length code → out ≡ take (n * i) code ++ drop (n * i) found → part ≡ take (n * i + n - n * i) (drop (n * i) code) →
    put_mid (n * i) (n * i + n - n * i) out part ≡ take (n * (i + 1)) code ++ drop (n * (i + 1)) found
more-is code found out part n k i h l e p =
    let a = n * i in let block = take n (drop a code) in let size : a + n - a ≡ n = omega arith in let next : a + n ≡ n * (i + 1) = omega arith in
    ap₂ (λ (k : ℕ) (p : List ℕ). put_mid a k out p) size (p ∙ ap (λ (k : ℕ). take k (drop a code)) size)
    ∙ ap (λ (x : List ℕ). take a x ++ (block ++ drop n (drop a x))) e
    ∙ write-in (take a code) block found a n (simp length-take (omega (arith, part-ends n i k h)))
    ∙ ap (λ (f : List ℕ). f ++ drop (a + n) found) (sym (take-add a n code))
    ∙ ap (λ (j : ℕ). take j code ++ drop j found) next

pub loop-i-preserved : goal.loop-i-preserved
loop-i-preserved c = let a = c.args in
    (search rules, more-is a.code.now a.out.now c.loop-i.out _ a.n a.k c.loop-i.i c.loop-i-test.true c.requires.0 c.loop-i.invariant.1 c.copy_from_slice.ensures.after)
