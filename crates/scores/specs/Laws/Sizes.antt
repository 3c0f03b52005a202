-- How large scores are, for all q, M and K: each coordinate of a whole point is at most 2 W, and nothing else is used.
use Rattle.std.specs.Prelude.{List, ℕ, ◌*◌, ◌-◌, ◌^◌, ◌≤◌, ℤ, pos, negsuc, nat_abs, ◌*ℤ◌, length, get_or, drop}
use Rattle.std.proofs.Common.{mul-le-mul, arith, take_all}
use mir.Syntax.{w64}
use mir.Val.{SFits}
use Rattle.integers.specs.Floor.{floor_div}
use Rattle.integers.specs.Laws.Sizes.{abs-mul-le, fits-abs}
use Rattle.integers.specs.Laws.Sums.{dot-bound}
use Rattle.integers.specs.Vectors.{dot, Sized}
use Rattle.lattice.specs.Doubled.{E8}
use Rattle.layers.proofs.Laws.Bases.{base-two}
use Rattle.layers.proofs.Laws.E8.{decode-in8, decode-small8}
use Rattle.layers.proofs.Laws.Widths.{width-less}
use Rattle.layers.specs.Sizes.{width}
use Rattle.records.specs.Eight.Codes.{Coder, IsBlock, step_of, whole_point}
use Rattle.records.specs.Eight.Asked.{coder-positive}
use Rattle.points.specs.Laws.Points.{coder-digital, point-narrow}
use Rattle.refusals.specs.Limits.{step_most}
use Rattle.scores.specs.Laws.Inner.{inner-size}
use Rattle.scores.specs.Eight.Scores.{Scored, inner, block_pair, block_query}

-- an inner product of n entries up to A with n up to B is at most n A B
pub dot-sized : (n A B : ℕ) (a b : List ℤ) → Sized n A a → Sized n B b → nat_abs (dot a b) ≤ n * (A * B)
dot-sized n A B a b h k = rw (take_all n a (omega (arith, h.long)), take_all n b (omega (arith, k.long))) at (dot-bound A B a b h.small k.small n)

-- a quarter is no larger
quarter-small : (B : ℕ) (x : ℤ) → nat_abs x ≤ 4 * B → nat_abs (floor_div x 4) ≤ B
quarter-small B (pos n) h = omega arith
quarter-small B (negsuc n) h = omega arith

-- the inner product of two points in narrow numbers
pub inner-narrow : (e f : List ℤ) → Sized 8 (2 ^ 14 - 1) e → Sized 8 (2 ^ 14 - 1) f → nat_abs (inner e f) ≤ 2 ^ 29
unfolding inner
inner-narrow e f h k = quarter-small (2 ^ 29) (dot e f) (omega (arith, dot-sized 8 (2 ^ 14 - 1) (2 ^ 14 - 1) e f h k))

-- a step that a block names
pub scored-step : (steps : List ℤ) (b : List ℕ) (e : List ℤ) → Scored steps b e → nat_abs (step_of steps b) ≤ step_most
scored-step steps b e h = (h.listed.each (get_or b 0 0) h.first).most

-- that step times an inner product of readings with the block's point fits 64 bits
pub scored-fits : (steps : List ℤ) (b : List ℕ) (X e : List ℤ) → Sized 8 (2 ^ 24) X → Scored steps b e → SFits w64 (step_of steps b *ℤ dot X e)
scored-fits steps b X e h k = fits-abs _ (omega (arith, abs-mul-le (step_of steps b) (dot X e) (scored-step steps b e k) (dot-sized 8 (2 ^ 24) (2 ^ 14 - 1) X e h k.narrow)))

module _ (q : ℤ) (m : ℕ) where
  -- no coordinate of a whole point is larger, not doubled
  abbrev W : ℕ
  W = width (nat_abs q) m

  -- the most that one block adds to a query score, and to a pair score
  abbrev pub query_part : ℕ
  query_part = step_most * (8 * (2 ^ 24 * (2 * W)))

  abbrev pub pair_part : ℕ
  pair_part = step_most * step_most * (8 * (W * W))

  module _ (steps : List ℤ) (c : Coder q m steps) where
    -- which is at most 2 (q^M - 1), with q^M at most 4096
    pub width-most : W ≤ 8190
    width-most = omega (arith, width-less (nat_abs q) m (base-two q c.base), c.power)

    module _ (b : List ℕ) (h : IsBlock (length steps) (nat_abs q) m b) where
      abbrev e : List ℤ
      e = whole_point (nat_abs q) m b

      -- a coded block names a point of E8
      pub point-in : E8 e
      point-in = decode-in8 (nat_abs q) m (coder-positive q m steps c) (drop 1 b) h.code

      -- with coordinates up to 2 W, doubled
      pub point-sized : Sized 8 (2 * W) e
      point-sized = record { long = point-in.long; small = decode-small8 (nat_abs q) m (coder-positive q m steps c) (drop 1 b) h.code }

      -- it is scored in narrow numbers
      pub block-scored : Scored steps b e
      block-scored = record { listed = c.listed; some = omega (arith, h.long); first = h.first; narrow = point-narrow q m (coder-digital q m steps c) b h.code }

      -- and a step up to 1024
      pub step_small : nat_abs (step_of steps b) ≤ step_most
      step_small = (c.listed.each (get_or b 0 0) h.first).most

      -- s times an inner product
      pub query-dot-small : (X : List ℤ) → Sized 8 (2 ^ 24) X → nat_abs (dot X e) ≤ 8 * (2 ^ 24 * (2 * W))
      query-dot-small X k = dot-sized 8 (2 ^ 24) (2 * W) X e k point-sized

      pub block_query-small : (X : List ℤ) → Sized 8 (2 ^ 24) X → nat_abs (block_query (nat_abs q) m steps X b) ≤ query_part
      unfolding Rattle.scores.specs.Scores.block_query
      block_query-small X k = abs-mul-le (step_of steps b) (dot X e) step_small (query-dot-small X k)

      -- so no more than this, whatever q and M are
      pub block_query-most : (X : List ℤ) → Sized 8 (2 ^ 24) X → nat_abs (block_query (nat_abs q) m steps X b) ≤ 2 ^ 51
      block_query-most X k = omega (arith, block_query-small X k, width-most)

-- two coded blocks, each with its own step list
module _ (q : ℤ) (m : ℕ) (steps steps' : List ℤ) (c : Coder q m steps) (c' : Coder q m steps')
    (b b' : List ℕ) (h : IsBlock (length steps) (nat_abs q) m b) (h' : IsBlock (length steps') (nat_abs q) m b') where
  abbrev p : List ℤ
  p = whole_point (nat_abs q) m b

  abbrev p' : List ℤ
  p' = whole_point (nat_abs q) m b'

  -- a quarter of 8 (2 W)²
  pub inner-small : nat_abs (inner p p') ≤ 8 * (W q m * W q m)
  inner-small = omega (
    arith,
    inner-size p p' (point-in q m steps c b h) (point-in q m steps' c' b' h'),
    dot-sized 8 (2 * W q m) (2 * W q m) p p' (point-sized q m steps c b h) (point-sized q m steps' c' b' h'),
  )

  pub steps-small : nat_abs (step_of steps b *ℤ step_of steps' b') ≤ step_most * step_most
  steps-small = abs-mul-le (step_of steps b) (step_of steps' b') (step_small q m steps c b h) (step_small q m steps' c' b' h')

  pub block_pair-small : nat_abs (block_pair (nat_abs q) m steps steps' b b') ≤ pair_part q m
  unfolding Rattle.scores.specs.Scores.block_pair
  block_pair-small = abs-mul-le (step_of steps b *ℤ step_of steps' b') (inner p p') steps-small inner-small

  -- so no more than this, whatever q and M are
  pub block_pair-most : nat_abs (block_pair (nat_abs q) m steps steps' b b') ≤ 2 ^ 49
  block_pair-most = let w = width-most q m steps c in omega (arith, block_pair-small, mul-le-mul w w)
