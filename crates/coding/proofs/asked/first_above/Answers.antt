-- `first_above` walks the digits: what is left of them gives the same verdict as all, until one is not below q.
use Rattle.std.proofs.Common.{◌≡◌, List, ℕ, suc, ◌+◌, ◌<◌, length, get_or, drop, sym, ◌∙◌, ap, ap₂, arith}
use Rattle.std.specs.Prelude.{Err}
use mathlib.Core.Bool.{Bool, true, false, cond}
use borrow.Author.Tests.{lt-ltb, le-ltb}
use lib.Dec.{ltb}
use lib.ListN.{drop_of_length-le}
use lib.Seq.{drop-cons}
use Rattle.refusals.specs.declared.Refusal.TheVariants.{Byte}
use Rattle.coding.specs.Answers.{check_below}
use Rattle.coding.proofs.asked.first_above.Goals as goal

-- the digit at i decides
opened : (q first i : ℕ) (ds : List ℕ) (b : Bool) → i < length ds → ltb (get_or ds i 0) q ≡ b → check_below q (first + i) (drop i ds) ≡ cond b (check_below q (first + (i + 1)) (drop (i + 1) ds)) (Err (Byte (first + i)))
opened q first i ds b h e =
    let k : suc (first + i) ≡ first + (i + 1) = omega arith in let j : suc i ≡ i + 1 = omega arith in
    ap (check_below q (first + i)) (drop-cons ds i 0 h)
    ∙ ap (λ (b : Bool). cond b (check_below q (suc (first + i)) (drop (suc i) ds)) (Err (Byte (first + i)))) e
    ∙ ap₂ (λ (k j : ℕ). cond b (check_below q k (drop j ds)) (Err (Byte (first + i)))) k j

pub loop-i-init : goal.loop-i-init
loop-i-init c = let a = c.args in let e : a.first ≡ a.first + 0 = omega arith in ap (λ (k : ℕ). check_below a.q k a.ds.now) e

pub returns-then-d-q : goal.returns-then-d-q
returns-then-d-q c = let a = c.args in let ds = a.ds.now in let i = c.loop-i.i in
    sym (c.loop-i.invariant ∙ opened a.q a.first i ds false c.loop-i-test.true (le-ltb (get_or ds i 0) a.q c.if-d-q.true))

pub loop-i-preserved : goal.loop-i-preserved
loop-i-preserved c = let a = c.args in let ds = a.ds.now in let i = c.loop-i.i in
    c.loop-i.invariant ∙ opened a.q a.first i ds true c.loop-i-test.true (lt-ltb (get_or ds i 0) a.q (omega (arith, c.if-d-q.false)))

pub returns : goal.returns
returns c = let a = c.args in let i = c.loop-i.i in
    sym (c.loop-i.invariant ∙ ap (check_below a.q (a.first + i)) (drop_of_length-le a.ds.now {i = i} (omega arith)))
