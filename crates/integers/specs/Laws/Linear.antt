-- omega over ℤ where the facts lie in the context: a number is its positive part less its negative part, both naturals.
use Rattle.std.specs.Prelude.{◌≡◌, ℕ, suc, ◌+◌, ◌-◌, ◌^◌, ◌<◌, ◌≤◌, ℤ, pos, negsuc, nat_abs, ◌≤ℤ◌, ◌<ℤ◌}
use Rattle.std.proofs.Common.{sym, ◌∙◌, subst₂, arith, SFits}
use Rattle.std.specs.Int.{w64}
use Rattle.integers.specs.Laws.Difference.{D, pos-D, negsuc-D, eq-D, le-D, lt-D}

abbrev pub pos_part : ℤ → ℕ
pos_part (pos n) = n
pos_part (negsuc n) = 0

abbrev pub neg_part : ℤ → ℕ
neg_part (pos n) = 0
neg_part (negsuc n) = suc n

is : (z : ℤ) → z ≡ D (pos_part z) (neg_part z)
is (pos n) = pos-D n
is (negsuc n) = negsuc-D n

pub le→ : {a b : ℤ} → a ≤ℤ b → pos_part a + neg_part b ≤ pos_part b + neg_part a
le→ {a} {b} h = (le-D (pos_part a) (neg_part a) (pos_part b) (neg_part b)).0 (subst₂ ◌≤ℤ◌ (is a) (is b) h)

pub lt→ : {a b : ℤ} → a <ℤ b → pos_part a + neg_part b < pos_part b + neg_part a
lt→ {a} {b} h = (lt-D (pos_part a) (neg_part a) (pos_part b) (neg_part b)).0 (subst₂ ◌<ℤ◌ (is a) (is b) h)

pub eq→ : {a b : ℤ} → a ≡ b → pos_part a + neg_part b ≡ pos_part b + neg_part a
eq→ {a} {b} h = (eq-D (pos_part a) (neg_part a) (pos_part b) (neg_part b)).0 (sym (is a) ∙ h ∙ is b)

pub →le : {a b : ℤ} → pos_part a + neg_part b ≤ pos_part b + neg_part a → a ≤ℤ b
→le {a} {b} h = subst₂ ◌≤ℤ◌ (sym (is a)) (sym (is b)) ((le-D (pos_part a) (neg_part a) (pos_part b) (neg_part b)).1 h)

pub →lt : {a b : ℤ} → pos_part a + neg_part b < pos_part b + neg_part a → a <ℤ b
→lt {a} {b} h = subst₂ ◌<ℤ◌ (sym (is a)) (sym (is b)) ((lt-D (pos_part a) (neg_part a) (pos_part b) (neg_part b)).1 h)

pub →eq : {a b : ℤ} → pos_part a + neg_part b ≡ pos_part b + neg_part a → a ≡ b
→eq {a} {b} h = is a ∙ (eq-D (pos_part a) (neg_part a) (pos_part b) (neg_part b)).1 h ∙ sym (is b)

pub fits→ : {z : ℤ} → SFits w64 z → pos_part z + neg_part z ≤ 2 ^ 63
fits→ {z = pos n} h = omega (arith, h.sfits)
fits→ {z = negsuc n} h = omega (arith, h.sfits)

pub →fits : {z : ℤ} → (pos_part z - neg_part z) + (neg_part z - pos_part z) < 2 ^ 63 → SFits w64 z
→fits {z = pos n} h = record { sfits = omega arith }
→fits {z = negsuc n} h = record { sfits = omega arith }

pub abs-parts : (a : ℤ) → nat_abs a ≡ (pos_part a - neg_part a) + (neg_part a - pos_part a)
abs-parts (pos n) = omega arith
abs-parts (negsuc n) = omega arith

pub ruleset Z = (le→, lt→, eq→, →le, →lt, →eq, fits→, →fits)
