-- The word of the digits by the word of the powers: its fourth byte is their entry number.
use mathlib.Core.Path.{◌≡◌, ◌∙◌, ap₂, subst}
use mathlib.Core.List.{List}
use Prim.Native.Nat.{ℕ, ◌*◌, ◌/◌, ◌%◌, ◌^◌, ◌<◌, ◌≤◌}
use native.Mathlib.Nat.{mul-le-mul}
use native.Mathlib.Omega.{arith}
use lib.ListN.{length, take, drop, length-drop}
use lib.Seq.{length-take-le}
use Rattle.layers.specs.Digits.{Below, entry_of}
use Rattle.layers.specs.Laws.Entries.{entry_of-less, powers-small, gathered}
use Rattle.layers.specs.Laws.Rows.{below-take, below-drop, below_more}
use Rattle.layers.proofs.lookup.half_number.Goals as goal
use Rattle.layers.proofs.lookup.half_number.Goals.{After-powers, Start}

module _ (s : Start) where
  abbrev q : ℕ
  q = s.args.q

  abbrev ds : List ℕ
  ds = take 4 (drop s.args.at s.args.ds.now)

  four-long : length ds ≡ 4
  four-long = length-take-le 4 (drop s.args.at s.args.ds.now) (simp length-drop (omega (arith, s.requires.0)))

  below : Below q ds
  below = below-take q 4 (drop s.args.at s.args.ds.now) (below-drop q s.args.at s.args.ds.now s.requires.2)

  word_small : entry_of 256 ds < 2 ^ 32
  word_small = subst (λ (n : ℕ). entry_of 256 ds < 256 ^ n) four-long (entry_of-less 256 ds (below_more q 256 (omega (arith, s.requires.1)) ds below))

module _ (c : After-powers) where
  product_small : c.before.four.result * c.powers.result ≤ 2 ^ 32 * 2 ^ 25
  product_small = let s = c.before.before.before in
      let w : c.before.four.result ≤ 2 ^ 32 = omega (arith, c.before.four.ensures, word_small s.before) in let p : c.powers.result ≤ 2 ^ 25 = omega (arith, c.powers.ensures, powers-small (q s.before) s.requires.1) in
      mul-le-mul w p

pub overflow_mul-result : goal.overflow_mul-result
overflow_mul-result c = omega (arith, product_small c)

pub returns : goal.returns
returns c = let s = c.before.before.before in
    (ap₂ (λ (x y : ℕ). x * y / 16777216 % 256) c.before.four.ensures c.powers.ensures ∙ gathered (q s.before) (ds s.before) (four-long s.before) s.requires.1 (below s.before), omega arith)
