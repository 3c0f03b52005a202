-- What it says of a test that one of two answers was given.
use Rattle.std.specs.Prelude.{◌≡◌, refl, Bool, true, false, cond}

module _ {A : Type 0} (x y z : A) where
  pub chosen : (b : Bool) → cond b x y ≡ z → (y ≡ z → ⊥) → (b ≡ true) × (x ≡ z)
  chosen true e f = (refl, e)
  chosen false e f = absurd (f e)

  pub passed : (b : Bool) → cond b x y ≡ z → (x ≡ z → ⊥) → b ≡ false
  passed true e f = absurd (f e)
  passed false e f = refl
