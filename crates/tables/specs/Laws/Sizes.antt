-- How large the entries of the tables are: each coordinate of a layer point is at most 2 q, and nothing else is used.
use Rattle.std.specs.Prelude.{ℕ, ◌*◌, ◌-◌, ◌^◌, ◌<◌, ◌≤◌, nat_abs}
use Rattle.std.proofs.Common.{arith}
use Rattle.integers.specs.Laws.Sums.{sized-more}
use Rattle.integers.specs.Vectors.{Sized}
use Rattle.lattice.specs.Doubled.{E8}
use Rattle.layers.specs.Digits.{digits_of}
use Rattle.layers.specs.E8.{e8, nearest}
use Rattle.layers.specs.Laws.Entries.{digits_of-layer}
use Rattle.layers.proofs.Laws.Splitting.{layer_point-in}
use Rattle.layers.proofs.Laws.Widths.{layer_point-small}
use Rattle.scores.specs.Laws.Inner.{inner-size}
use Rattle.scores.specs.Laws.Sizes.{dot-sized}
use Rattle.scores.specs.Scores.{inner}
use Rattle.tables.specs.Tables.{query_most, layer_at}

module _ (q : ℕ) (q> : 0 < q) (i : ℕ) where
  -- it is a point of the lattice
  pub layer_at-in : E8 (layer_at q i)
  layer_at-in = layer_point-in e8 nearest q q> (digits_of q 8 i) (digits_of-layer q q> 8 i)

  -- of eight coordinates, each at most 2 q
  pub layer_at-sized : Sized 8 (2 * q) (layer_at q i)
  layer_at-sized = record { long = layer_at-in.long; small = layer_point-small e8 nearest q q> (digits_of q 8 i) (digits_of-layer q q> 8 i) }

  -- as inner products are made
  pub layer_at-small : q ≤ query_most → Sized 8 (2 ^ 14 - 1) (layer_at q i)
  layer_at-small h = sized-more 8 (2 * q) (layer_at q i) layer_at-sized (2 ^ 14 - 1) (omega arith)

-- an entry of the pair table fits 8 bits
pub pair_entry-small : (i j : ℕ) → nat_abs (inner (layer_at 2 i) (layer_at 2 j)) ≤ 32
pair_entry-small i j =
    let two : 0 < 2 = omega arith in
    omega (arith, inner-size (layer_at 2 i) (layer_at 2 j) (layer_at-in 2 two i) (layer_at-in 2 two j), dot-sized 8 4 4 (layer_at 2 i) (layer_at 2 j) (layer_at-sized 2 two i) (layer_at-sized 2 two j))
