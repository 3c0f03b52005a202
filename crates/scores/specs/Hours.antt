-- The hour that code records are scored against: what is checked of it, and where its units are put (01, When the unit says no).
use Rattle.std.specs.Prelude.{List, [], ◌∷◌, ◌++◌, ℤ, length, drop, Ok, Err}
use Rattle.records.specs.Eight.Vectors.{Hour, check_readings, units_taken}
use Rattle.refusals.specs.declared.settings.Settings.{Settings}
use Rattle.refusals.specs.Settings.{check_settings}
use Rattle.refusals.specs.Steps.{check_steps}
use Rattle.refusals.specs.Verdicts.{first_refusal, Verdict}

-- settings; steps; the hour's count; its readings
unfoldable pub check_hour : Settings → List ℤ → Hour → Verdict
check_hour c steps h = first_refusal (check_settings c ∷ check_steps 0 steps ∷ h.frame ∷ check_readings 0 h.readings ∷ [])

-- lent numbers afterwards: the units X at their front and the rest as found; where it is refused, all as found
abbrev pub units_front : Verdict → List ℤ → List ℤ → List ℤ
units_front (Ok u) X x = X ++ drop (length X) x
units_front (Err r) X x = x

-- the room for an hour's units: they are put there, up to the first reading that is none, once settings, steps and count are accepted
unfoldable pub hour_room : Settings → List ℤ → Hour → List ℤ → List ℤ
hour_room c steps h x = units_front (first_refusal (check_settings c ∷ check_steps 0 steps ∷ h.frame ∷ [])) (units_taken h.readings) x
