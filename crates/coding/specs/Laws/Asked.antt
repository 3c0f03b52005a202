-- What it says that a point, or digits, were taken and not refused.
use Rattle.std.specs.Prelude.{◌≡◌, refl, Bool, true, false, ◌&&◌, cond, List, [], ◌∷◌, ℕ, suc, ◌*◌, ◌-◌, ◌^◌, ◌<◌, ◌≤◌, eqb, leb, ltb, ℤ, nat_abs, length, Ok, Err}
use Rattle.std.proofs.Common.{◌∙◌, ap, subst, arith, eqb-true, leb-true, lt-ltb}
use Rattle.refusals.specs.declared.settings.Settings.{Settings}
use Rattle.refusals.specs.declared.Refusal.TheVariants.{Settings as BadSettings, Size, Byte, Point}
use Rattle.integers.specs.Laws.Linear.{Z, abs-parts}
use Rattle.integers.specs.Laws.Sums.{sized-more}
use Rattle.integers.specs.Laws.Tests.{and-true, sized-small}
use Rattle.integers.specs.Vectors.{Sized, small}
use Rattle.refusals.specs.Laws.Allowed.{settings-allowed}
use Rattle.refusals.specs.Laws.Verdicts.{refused-never, unless-accepted, first-accepted}
use Rattle.refusals.specs.Limits.{point_most}
use Rattle.refusals.specs.Settings.{check_settings, Allowed}
use Rattle.refusals.specs.Verdicts.{unless, Verdict}
use Rattle.lattice.specs.Doubled.{is_point}
use Rattle.coding.specs.Answers.{check_point, check_below, check_digits}
use Rattle.layers.specs.Digits.{Below, IsCode}
use Rattle.layers.specs.E8.{e8, nearest, leftover8, decode8}
use Rattle.layers.proofs.Laws.Bases.{decode8-sized}
use Rattle.layers.proofs.Laws.Widths.{leftover-stays}
use Rattle.layers.specs.Sizes.{long_power, Base}

-- the settings of an accepted check
pub checked-allowed : (c : Settings) → check_settings c ≡ Ok tt → Allowed c.q c.m
checked-allowed c e = settings-allowed c.q c.m (unless-accepted _ BadSettings e)

-- settings that are allowed are a base that the code takes
pub allowed-base : (q m : ℤ) → Allowed q m → Base q
allowed-base q m h = record { least = omega (arith, Z, abs-parts q, h.q-whole, h.q-least); most = omega (arith, h.q-most) }

pub record PointTaken (c : Settings) (e : List ℤ) (room : ℕ) : Type 0 where
  pub allowed : Allowed c.q c.m
  pub input : Sized 8 point_most e
  pub member : is_point e ≡ true
  pub fits : 8 * nat_abs c.m ≤ room

pub point-taken : (c : Settings) (e : List ℤ) (room : ℕ) → check_point c e room ≡ Ok tt → PointTaken c e room
unfolding check_point
point-taken c e room k =
    let eight : Verdict = unless (eqb (length e) 8) (Size 0) in let roomy : Verdict = unless (leb (8 * nat_abs c.m) room) (Size 1) in let limits : Verdict = unless (small point_most e && is_point e) Point in
    let s = first-accepted (check_settings c) (eight ∷ roomy ∷ limits ∷ []) k in let n = first-accepted eight (roomy ∷ limits ∷ []) s.1 in
    let r = first-accepted roomy (limits ∷ []) n.1 in let p = first-accepted limits [] r.1 in
    let t = and-true (small point_most e) (is_point e) (unless-accepted _ Point p.0) in
    record {
      allowed = checked-allowed c s.0;
      input = sized-small 8 point_most e (eqb-true (length e) 8 (unless-accepted _ (Size 0) n.0)) t.0;
      member = t.1;
      fits = leb-true (8 * nat_abs c.m) room (unless-accepted _ (Size 1) r.0);
    }

-- digits of an accepted check
pub below-taken : (q i : ℕ) (ds : List ℕ) → check_below q i ds ≡ Ok tt → Below q ds
below-taken q i [] k = tt
below-taken q i (d ∷ ds) k = go (ltb d q) (λ e. leb-true (suc d) q e) (λ h. below-taken q (suc i) ds h) k
  where
    go : (b : Bool) → (b ≡ true → d < q) → (check_below q (suc i) ds ≡ Ok tt → Below q ds) → cond b (check_below q (suc i) ds) (Err (Byte i)) ≡ Ok tt → (d < q) × Below q ds
    go true f rest k = (f refl, rest k)
    go false f rest k = refused-never k

-- and digits below q are accepted
pub below-accepted : (q i : ℕ) (ds : List ℕ) → Below q ds → check_below q i ds ≡ Ok tt
below-accepted q i [] h = refl
below-accepted q i (d ∷ ds) h = ap (λ (t : Bool). cond t (check_below q (suc i) ds) (Err (Byte i))) (lt-ltb d q h.0) ∙ below-accepted q (suc i) ds h.1

pub record DigitsTaken (c : Settings) (ds : List ℕ) : Type 0 where
  pub allowed : Allowed c.q c.m
  pub code : IsCode 8 (nat_abs c.q) (nat_abs c.m) ds

pub digits-taken : (c : Settings) (ds : List ℕ) → check_digits c ds ≡ Ok tt → DigitsTaken c ds
unfolding check_digits
digits-taken c ds k =
    let long : Verdict = unless (eqb (length ds) (8 * nat_abs c.m)) (Size 0) in let below : Verdict = check_below (nat_abs c.q) 0 ds in
    let s = first-accepted (check_settings c) (long ∷ below ∷ []) k in let n = first-accepted long (below ∷ []) s.1 in let b = first-accepted below [] n.1 in
    record {
      allowed = checked-allowed c s.0;
      code = record { long = eqb-true (length ds) (8 * nat_abs c.m) (unless-accepted _ (Size 0) n.0); below = below-taken (nat_abs c.q) 0 ds b.0 };
    }

-- so that the answers fit 32 bits
pub leftover-narrow : (c : Settings) (e : List ℤ) (room : ℕ) → PointTaken c e room → Sized 8 (2 ^ 31 - 1) (leftover8 (nat_abs c.q) (nat_abs c.m) e)
leftover-narrow c e room h =
    let g : List ℤ = leftover8 (nat_abs c.q) (nat_abs c.m) e in
    sized-more 8 point_most g (leftover-stays e8 nearest (nat_abs c.q) h.allowed.q-least point_most (omega arith) (nat_abs c.m) e h.input) (2 ^ 31 - 1) (omega arith)

pub decoded-narrow : (c : Settings) (ds : List ℕ) → DigitsTaken c ds → Sized 8 (2 ^ 31 - 1) (decode8 (nat_abs c.q) (nat_abs c.m) ds)
decoded-narrow c ds h =
    let p : nat_abs c.q ^ nat_abs c.m ≤ long_power = omega (arith, h.allowed.power) in let all : nat_abs c.m - 0 ≡ nat_abs c.m = omega arith in
    let whole : Sized 8 (2 ^ 30) (decode8 (nat_abs c.q) (nat_abs c.m) ds) = subst (λ (k : ℕ). Sized 8 (2 ^ 30) (decode8 (nat_abs c.q) k ds)) all (decode8-sized c.q (allowed-base c.q c.m h.allowed) (nat_abs c.m) p ds h.code 0 (omega arith)) in
    sized-more 8 (2 ^ 30) (decode8 (nat_abs c.q) (nat_abs c.m) ds) whole (2 ^ 31 - 1) (omega arith)
