-- Which step lists are allowed (01, Layers and steps).
use Rattle.std.specs.Prelude.{Bool, true, ◌&&◌, List, [], ◌∷◌, ℕ, ◌<◌, ◌≤◌, leb, ℤ, pos, nat_abs, length, ◌≤ℤ◌}
use Rattle.std.specs.Int.Signed.{le_z, lt_z}
use Rattle.integers.specs.Vectors.{«at»}
use Rattle.refusals.specs.declared.Refusal.TheVariants.{Steps}
use Rattle.refusals.specs.Limits.{steps_most, step_most}
use Rattle.refusals.specs.Verdicts.{unless, Verdict}

-- every step above the one before, and none past 1024
abbrev pub rising : ℤ → List ℤ → Bool
rising last [] = true
rising last (s ∷ l) = lt_z last s && (le_z s (pos step_most) && rising s l)

-- 1 to 4 steps, each from 1 to 1024, strictly increasing
unfoldable pub good_steps : List ℤ → Bool
good_steps l = leb 1 (length l) && (leb (length l) steps_most && rising (pos 0) l)

-- refusal 2 where they are not; its place is the list's
abbrev pub check_steps : ℕ → List ℤ → Verdict
check_steps place l = unless (good_steps l) (Steps place)

-- a step within its limits
pub record AllowedStep (s : ℤ) : Type 0 where
  pub least : pos 1 ≤ℤ s
  pub most : nat_abs s ≤ step_most

-- step lists within their rule
pub record AllowedSteps (l : List ℤ) : Type 0 where
  pub some : 1 ≤ length l
  pub few : length l ≤ steps_most
  pub each : (i : ℕ) → i < length l → AllowedStep («at» l i)
