-- `entry_numbers` goes up: after i turns the numbers of the first i layers stand in front.
use Rattle.std.proofs.Common.{◌≡◌, sym, ◌∙◌, ap, subst, List, ℕ, ◌+◌, ◌*◌, ◌-◌, ◌<◌, take, drop, arith}
use lib.ListN.{set, length-set}
use Rattle.layers.specs.Digits.{IsLayer, IsCode, entry_of}
use Rattle.layers.proofs.Laws.Loops.{code-layer}
use Rattle.lookups.proofs.Laws.Rows.{entries-more}
use Rattle.lookups.proofs.pair_score.entry_numbers.Goals as goal

module _ (m : ℕ) (ds : List ℕ) (i : ℕ) where
  layer-is : take (8 * i + 8 - 8 * i) (drop (8 * i) ds) ≡ take 8 (drop (8 * i) ds)
  layer-is = let e : 8 * i + 8 - 8 * i ≡ 8 = omega arith in ap (λ (k : ℕ). take k (drop (8 * i) ds)) e

  layer : IsCode 8 2 m ds → i < m → IsLayer 8 2 (take (8 * i + 8 - 8 * i) (drop (8 * i) ds))
  layer h k = subst (IsLayer 8 2) (sym layer-is) (code-layer 8 2 m ds h i k)

pub entry_number-requires : goal.entry_number-requires
entry_number-requires g c = (layer g.row.M c.args.ds.now c.loop-i.i c.requires.1 c.loop-i-test.true, omega arith)

pub loop-i-preserved : goal.loop-i-preserved
loop-i-preserved g c = let i : ℕ = c.loop-i.i in let ds : List ℕ = c.args.ds.now in (
  length-set c.loop-i.numbers i _ ∙ c.loop-i.invariant.0,
  ap (λ (n : ℕ). take (i + 1) (set c.loop-i.numbers i n)) (c.entry_number.ensures ∙ ap (entry_of 2) (layer-is g.row.M ds i))
      ∙ entries-more c.loop-i.numbers i ds (omega (arith, c.loop-i.invariant.0, c.loop-i-test.true)) c.loop-i.invariant.1,
)
