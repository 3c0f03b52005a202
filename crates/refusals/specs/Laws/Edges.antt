-- The edges that document 01 lists, by computation.
use Rattle.std.specs.Prelude.{◌≡◌, refl, true, false, [], ◌∷◌, map, pos}
use Rattle.refusals.specs.Settings.{good_settings}
use Rattle.refusals.specs.Steps.{good_steps}

-- q,M of 16,3 and 8,4 pass; 16,4 and 9,4 and 2,0 and 1,1 and 17,1 are refused
pub settings-edges : (good_settings (pos 16) (pos 3) ≡ true) × (good_settings (pos 8) (pos 4) ≡ true) × (good_settings (pos 16) (pos 4) ≡ false)
    × (good_settings (pos 9) (pos 4) ≡ false) × (good_settings (pos 2) (pos 0) ≡ false) × (good_settings (pos 1) (pos 1) ≡ false) × (good_settings (pos 17) (pos 1) ≡ false)
unfolding good_settings
settings-edges = (refl, refl, refl, refl, refl, refl, refl)

-- steps (1) and (1,1024) pass; (), (0), (1025) and (2,2) are refused
pub steps-edges : map good_steps (((pos 1) ∷ []) ∷ (pos 1 ∷ pos 1024 ∷ []) ∷ [] ∷ (pos 0 ∷ []) ∷ (pos 1025 ∷ []) ∷ (pos 2 ∷ pos 2 ∷ []) ∷ []) ≡ true ∷ true ∷ false ∷ false ∷ false ∷ false ∷ []
unfolding good_steps
steps-edges = refl
