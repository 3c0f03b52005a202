-- For q = 2 the number by one product; else the first half's number, and q⁴ times that of the second.
use mathlib.Core.Path.{sym, ◌∙◌, ap, ap₂, subst}
use Prim.Native.Nat.{ℕ, ◌+◌, ◌*◌, ◌≤◌}
use native.Mathlib.Nat.{mul-le-mul}
use native.Mathlib.Omega.{arith}
use Rattle.layers.specs.Digits.{IsLayer, entry_of}
use Rattle.layers.specs.Laws.Entries.{entry_of-halves, squared, cubed, fourth}
use Rattle.layers.proofs.lookup.entry_number.Goals as goal
use Rattle.layers.proofs.lookup.entry_number.Goals.{After-half_number-2}

-- the second half, in its place
module _ (c : After-half_number-2) where
  abbrev q : ℕ
  q = c.before.before.before.before.args.q

  second : q * q * q * q * c.half_number-2.result ≤ 256 * 256
  second = let r : c.half_number-2.result ≤ 256 = omega (arith, c.half_number-2.ensures.1) in mul-le-mul (fourth q c.before.before.before.before.requires.1) r

pub number_of_two-requires : goal.number_of_two-requires
number_of_two-requires c = let s = c.before.before in subst (λ (q : ℕ). IsLayer 8 q s.args.ds.now) c.if-q-eq2.true s.requires.0

pub returns-then-q-eq2 : goal.returns-then-q-eq2
returns-then-q-eq2 c = let t = c.before in let s = t.before.before in c.number_of_two.ensures ∙ ap (λ (q : ℕ). entry_of q s.args.ds.now) (sym t.if-q-eq2.true)

pub half_number-requires : goal.half_number-requires
half_number-requires c = let s = c.before.before in (omega (arith, s.requires.0.long), s.requires.1, s.requires.0.below)

pub overflow_mul-result : goal.overflow_mul-result
overflow_mul-result c = let s = c.before.before.before in omega (arith, squared s.args.q s.requires.1)

pub overflow_mul-result-2 : goal.overflow_mul-result-2
overflow_mul-result-2 c = let s = c.before.before.before in omega (arith, cubed s.args.q s.requires.1)

pub overflow_mul-result-3 : goal.overflow_mul-result-3
overflow_mul-result-3 c = let s = c.before.before.before in omega (arith, fourth s.args.q s.requires.1)

pub half_number-requires-2 : goal.half_number-requires-2
half_number-requires-2 c = let s = c.before.before.before in (omega (arith, s.requires.0.long), s.requires.1, s.requires.0.below)

pub overflow_mul-result-4 : goal.overflow_mul-result-4
overflow_mul-result-4 c = omega (arith, second c)

pub overflow_add-result : goal.overflow_add-result
overflow_add-result c = omega (arith, second c, c.before.half_number.ensures.1)

pub returns : goal.returns
returns c = let s = c.before.before.before.before in let q = s.args.q in
    ap₂ (λ (x y : ℕ). x + q * q * q * q * y) c.before.half_number.ensures.0 c.half_number-2.ensures.0 ∙ entry_of-halves q s.args.ds.now s.requires.0.long
