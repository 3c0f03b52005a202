-- What is answered where a point is coded or decoded by itself (01, Layers and steps).
use Rattle.std.specs.Prelude.{◌&&◌, cond, List, [], ◌∷◌, ℕ, suc, ◌*◌, eqb, leb, ltb, ℤ, nat_abs, length, Ok, Err}
use Rattle.integers.specs.Vectors.{small}
use Rattle.refusals.specs.declared.settings.Settings.{Settings}
use Rattle.refusals.specs.declared.Refusal.TheVariants.{Size, Byte, Point}
use Rattle.refusals.specs.Answers.{written}
use Rattle.refusals.specs.Limits.{point_most}
use Rattle.refusals.specs.Settings.{check_settings}
use Rattle.refusals.specs.Verdicts.{unless, first_refusal, Verdict}
use Rattle.lattice.specs.Answers.{answered, PointAnswer}
use Rattle.lattice.specs.Doubled.{is_point}
use Rattle.layers.specs.E8.{digits8, leftover8, decode8}

-- ---- from a point to digits

-- settings; eight numbers; room for 8 M digits; a doubled point, each coordinate at most 2^26 in magnitude
unfoldable pub check_point : Settings → List ℤ → ℕ → Verdict
check_point c e room = first_refusal (check_settings c ∷ unless (eqb (length e) 8) (Size 0) ∷ unless (leb (8 * nat_abs c.m) room) (Size 1) ∷ unless (small point_most e && is_point e) Point ∷ [])

-- the whole answer: what M layers leave over of the point
unfoldable pub coded : Settings → List ℤ → ℕ → PointAnswer
coded c e room = answered (check_point c e room) (leftover8 (nat_abs c.q) (nat_abs c.m) e)

-- the digit room afterwards
unfoldable pub digit_room : Settings → List ℤ → List ℕ → List ℕ
digit_room c e out = written (check_point c e (length out)) (digits8 (nat_abs c.q) (nat_abs c.m) e) out

-- ---- from digits to a point

-- each digit below q; else the place of the first that is not, counted from i
abbrev pub check_below : ℕ → ℕ → List ℕ → Verdict
check_below q i [] = Ok tt
check_below q i (d ∷ ds) = cond (ltb d q) (check_below q (suc i) ds) (Err (Byte i))

-- settings; exactly 8 M digits; each below q
unfoldable pub check_digits : Settings → List ℕ → Verdict
check_digits c ds = first_refusal (check_settings c ∷ unless (eqb (length ds) (8 * nat_abs c.m)) (Size 0) ∷ check_below (nat_abs c.q) 0 ds ∷ [])

-- the whole answer
unfoldable pub decoded : Settings → List ℕ → PointAnswer
decoded c ds = answered (check_digits c ds) (decode8 (nat_abs c.q) (nat_abs c.m) ds)
