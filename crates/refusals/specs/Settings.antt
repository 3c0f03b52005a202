-- Which settings are allowed (01, Layers and steps).
use Rattle.std.specs.Prelude.{◌≡◌, Bool, ◌&&◌, ◌^◌, ◌≤◌, leb, ℤ, pos, nat_abs}
use Rattle.refusals.specs.declared.settings.Settings.{Settings as Chosen}
use Rattle.refusals.specs.declared.Refusal.TheVariants.{Settings}
use Rattle.integers.specs.Vectors.{within}
use Rattle.refusals.specs.Limits.{q_least, q_most, m_least, m_most, power_most}
use Rattle.refusals.specs.Verdicts.{unless, Verdict}

-- q from 2 to 16, M from 1 to 4, q^M at most 4096
unfoldable pub good_settings : ℤ → ℤ → Bool
good_settings q m = within (pos q_least) (pos q_most) q && (within (pos m_least) (pos m_most) m && leb (nat_abs q ^ nat_abs m) power_most)

-- refusal 1 where they are not
abbrev pub check_settings : Chosen → Verdict
check_settings c = unless (good_settings c.q c.m) Settings

-- settings within their limits
pub record Allowed (q m : ℤ) : Type 0 where
  pub q-whole : pos (nat_abs q) ≡ q
  pub q-least : q_least ≤ nat_abs q
  pub q-most : nat_abs q ≤ q_most
  pub m-whole : pos (nat_abs m) ≡ m
  pub m-least : m_least ≤ nat_abs m
  pub m-most : nat_abs m ≤ m_most
  pub power : nat_abs q ^ nat_abs m ≤ power_most
