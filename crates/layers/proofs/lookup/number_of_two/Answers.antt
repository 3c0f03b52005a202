-- The two words joined, by the word of the powers: the fourth byte is the number of all eight.
use mathlib.Core.Path.{◌≡◌, ◌∙◌, ap₂, subst}
use mathlib.Core.List.{List}
use Prim.Native.Nat.{ℕ, ◌+◌, ◌*◌, ◌/◌, ◌%◌, ◌^◌, ◌<◌, ◌≤◌}
use native.Mathlib.Nat.{mul-le-mul}
use native.Mathlib.Omega.{arith}
use lib.ListN.{length, take, drop, length-drop}
use lib.Seq.{length-take-le}
use Rattle.layers.specs.Digits.{Below, entry_of}
use Rattle.layers.specs.Laws.Entries.{entry_of-less, entry_of-halves, gathered-two}
use Rattle.layers.specs.Laws.Rows.{below-take, below-drop, below_more}
use Rattle.layers.proofs.lookup.number_of_two.Goals as goal
use Rattle.layers.proofs.lookup.number_of_two.Goals.{Start}
use Rattle.layers.proofs.lookup.number_of_two.Lts as lts
use Rattle.layers.proofs.lookup.number_of_two.Tie as tie
use Rattle.layers.proofs.lookup.number_of_two.Reads as reads

abbrev After-four-2 : Type 0
After-four-2 = lts.After-four2 tie.the-claims reads.Pre reads.Post

-- four of the digits, from `from` on
module _ (s : Start) (from : ℕ) (h : from + 4 ≤ 8) where
  abbrev ds : List ℕ
  ds = s.args.ds.now

  abbrev half : List ℕ
  half = take 4 (drop from ds)

  half-long : length half ≡ 4
  half-long = length-take-le 4 (drop from ds) (simp length-drop (omega (arith, s.requires.long)))

  half-below : Below 2 half
  half-below = below-take 2 4 (drop from ds) (below-drop 2 from ds s.requires.below)

  word_small : entry_of 256 half < 2 ^ 32
  word_small = subst (λ (n : ℕ). entry_of 256 half < 256 ^ n) half-long (entry_of-less 256 half (below_more 2 256 (omega arith) half half-below))

module _ (c : After-four-2) where
  abbrev s : Start
  s = c.before.before.before

  first_small : c.before.four.result < 2 ^ 32
  first_small = omega (arith, c.before.four.ensures, word_small s 0 (omega arith))

  second-small : c.four-2.result < 2 ^ 32
  second-small = omega (arith, c.four-2.ensures, word_small s 4 (omega arith))

pub four-requires : goal.four-requires
four-requires c = omega (arith, c.before.requires.long)

pub four-requires-2 : goal.four-requires-2
four-requires-2 c = omega (arith, c.before.before.requires.long)

pub overflow_mul-result : goal.overflow_mul-result
overflow_mul-result c = omega (arith, second-small c.before)

pub overflow_add-result : goal.overflow_add-result
overflow_add-result c = omega (arith, first_small c.before, second-small c.before)

pub overflow_mul-result-2 : goal.overflow_mul-result-2
overflow_mul-result-2 c = let d = c.before in
    let w : d.before.four.result + 16 * d.four-2.result ≤ 2 ^ 37 = omega (arith, first_small d.before, second-small d.before) in let p : c.powers.result ≤ 2 ^ 25 = omega (arith, c.powers.ensures) in
    omega (arith, mul-le-mul w p)

pub returns : goal.returns
returns c = let d = c.before in let o = s d.before in
    ap₂ (λ (x y : ℕ). x * y / 16777216 % 256) (ap₂ (λ (x y : ℕ). x + 16 * y) d.before.four.ensures d.four-2.ensures) c.powers.ensures
    ∙ gathered-two (half o 0 (omega arith)) (half o 4 (omega arith)) (half-long o 0 (omega arith)) (half-long o 4 (omega arith)) (half-below o 0 (omega arith)) (half-below o 4 (omega arith))
    ∙ entry_of-halves 2 o.args.ds.now o.requires.long
