-- What a step makes of a block of readings X, and which step of a list is used (01, Layers and steps), over any lattice and rule.
use Rattle.std.specs.Prelude.{Bool, true, ◌&&◌, cond, List, [], ◌∷◌, ℕ, suc, ◌+◌, ◌*◌, eqb, ℤ, pos, nat_abs}
use Rattle.integers.specs.Vectors.{«at», scale_v, small}
use Rattle.layers.specs.Digits.{joined}
use Rattle.layers.specs.E8.{e8, nearest, leftover8}
use Rattle.layers.specs.Layers.{digits, leftover}
use Rattle.layers.specs.Rule.{Lattice, Rule}
use Rattle.layers.specs.Sizes.{width}
use Rattle.blocks.specs.declared.Trial.{Trial}

-- nothing is left over: every entry is 0
abbrev pub nothing_left : List ℤ → Bool
nothing_left [] = true
nothing_left (x ∷ a) = eqb (nat_abs x) 0 && nothing_left a

-- the point that X / s rounds to, doubled, as X is doubled for it
abbrev pub point_at : (L : Lattice) → Rule L → ℤ → List ℤ → List ℤ
point_at L R s X = R.round s (scale_v (pos 2) X)

module _ (L : Lattice) (R : Rule L) (q m : ℕ) where
  -- a step fits a block where m layers leave nothing over of that point; else it overloads
  abbrev pub fits : ℤ → List ℤ → Bool
  fits s X = nothing_left (leftover L R q m (point_at L R s X))

  -- T: the place, from 0, of the first listed step that fits; the list's length where none does
  abbrev pub first_fitting : List ℤ → List ℤ → ℕ
  first_fitting [] X = 0
  first_fitting (s ∷ l) X = cond (fits s X) 0 (suc (first_fitting l X))

  -- a block's bytes at the step s in the place t: t, then the digits of the point, layer 0 first
  abbrev pub code_at : ℕ → ℤ → List ℤ → List ℕ
  code_at t s X = t ∷ joined (digits L R q m (point_at L R s X))

  -- a block's bytes: those at the first step that fits
  abbrev pub block_code : List ℤ → List ℤ → List ℕ
  block_code steps X = let t = first_fitting steps X in code_at t («at» steps t) X

  -- a step can only fit where no reading is past s (W + 1), so that others need not be tried
  abbrev pub in_reach : ℤ → List ℤ → Bool
  in_reach s X = small (nat_abs s * (width q m + 1)) X

  -- the bytes that the step s in the place t leaves in a room: its own where X is in its reach, and else those that were there
  abbrev pub room_at : ℕ → ℤ → List ℤ → List ℕ → List ℕ
  room_at t s X out = cond (in_reach s X) (code_at t s X) out

  -- the bytes that the steps of a list, the first in the place t, leave in turn in the same room, up to the first that fits; a
  -- step that X is not in reach of leaves the room as it is
  abbrev pub tried_room : ℕ → List ℤ → List ℤ → List ℕ → List ℕ
  tried_room t [] X out = out
  tried_room t (s ∷ l) X out = cond (in_reach s X) (cond (fits s X) (code_at t s X) (tried_room (suc t) l X (code_at t s X))) (tried_room (suc t) l X out)

-- the trial of a block at a step, in E8
abbrev pub trial8 : ℕ → ℕ → ℤ → List ℤ → Trial
trial8 q m s X = let e = point_at e8 nearest s X in record { point = e; leftover = leftover8 q m e }
