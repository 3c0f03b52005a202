-- Groups of entries: entry numbers that follow each other, whose points serve the parts of all blocks. No promise to a user cites these.
use Rattle.std.specs.Prelude.{◌≡◌, ◌⊎◌, List, ℕ, ◌+◌, ◌*◌, ◌<◌, ◌≤◌, ℤ, length, take, drop}
use Rattle.integers.specs.Vectors.{«at», dot}

-- e is o, but that in the parts of the first k blocks, each of `size` entries, the n entries from i on are the sums of the block's readings with the points 0 to n - 1
pub record GroupFilled (size i n : ℕ) (point : ℕ → List ℤ) (X o : List ℤ) (k : ℕ) (e : List ℤ) : Type 0 where
  pub long : length e ≡ length o
  pub filled : (b t : ℕ) → b < k → t < n → «at» e (size * b + i + t) ≡ dot (take 8 (drop (8 * b) X)) (point t)
  pub kept : (p : ℕ) → ((b : ℕ) → b < k → (p < size * b + i) ⊎ (size * b + i + n ≤ p)) → «at» e p ≡ «at» o p
