-- Points that stand eight side by side, block t in column t mod 8: what is left of a group of eight, from one of its blocks on.
use Rattle.std.specs.Prelude.{◌≡◌, List, ℕ, ◌+◌, ◌*◌, ◌-◌, ◌/◌, ◌%◌, ◌<◌, ◌≤◌, min, ℤ, pos, take, drop}
use Rattle.std.proofs.Common.{◌∙◌, ap, arith, drop-drop}
use Rattle.columns.specs.Columns.{column}
use Rattle.records.specs.Eight.Codes.{block_size, whole_point}
use Rattle.points.specs.Lanes.{block_at, BlockPoints}

-- of k blocks those from i on that are in i's group
abbrev pub Standing : ℕ → ℕ → ℕ → List ℕ → ℕ → List (List ℤ) → Type 0
Standing q m k f i e = (t : ℕ) → i ≤ t → t < k → t / 8 ≡ i / 8 → column (pos 0) (t % 8) e ≡ whole_point q m (block_at m f t)

module _ (q m k : ℕ) (f : List ℕ) (i : ℕ) (e : List (List ℤ)) where
  -- a group's points, made at its first block
  pub standing-first : (n : ℕ) → n ≡ min 8 (k - i) → i % 8 ≡ 0 → BlockPoints q m n (drop (block_size m * i) f) e → Standing q m k f i e
  standing-first n all h p t lo hi g =
      let size : ℕ = block_size m in let j : ℕ = t - i in let c : t % 8 ≡ j = omega arith in let there : i + j ≡ t = omega arith in let s : size * i + size * j ≡ size * (i + j) = omega arith in
      ap (λ (c : ℕ). column (pos 0) c e) c
      ∙ p.each j (omega arith)
      ∙ ap (λ (g : List ℕ). whole_point q m (take size g)) (drop-drop (size * j) (size * i) f ∙ ap (λ (a : ℕ). drop a f) (s ∙ ap (λ (t : ℕ). size * t) there))

  -- they serve the next block, unless a group begins with it
  pub standing-next : Standing q m k f i e → ((i + 1) % 8 ≡ 0 → ⊥) → Standing q m k f (i + 1) e
  standing-next p h t lo hi g = p t (omega arith) hi (omega (arith, h))
