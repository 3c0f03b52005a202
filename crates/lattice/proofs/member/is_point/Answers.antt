-- The tests of `is_point`, in turn.
use Rattle.std.proofs.Common.{◌≡◌, sym, ◌∙◌, ap, ◌%◌, ℕ, ℤ, pos, length, eqb, SFits, w64, of_z, to_z-of_z, eq-eqb, ne_eqb}
use Rattle.integers.specs.Floor.{floor_mod}
use Rattle.lattice.specs.Doubled.{odds, is_point}
use Rattle.lattice.proofs.member.is_point.Goals as goal

pub returns-then-odds-eq0 : goal.returns-then-odds-eq0
unfolding is_point
returns-then-odds-eq0 c =
    let e = c.args.e.now in let f : SFits w64 c.sum.result = record { sfits = c.sum.type_inv } in
    ap (λ (z : ℤ). eqb (of_z w64 z) 0) ((simp (to_z-of_z, f) at c.floor_mod.ensures) ∙ ap (λ (z : ℤ). pos (floor_mod z 4)) c.sum.ensures)
    ∙ sym (rw (eq-eqb (length e) 8 c.requires.long, eq-eqb (odds e % 8) 0 (ap (λ (n : ℕ). n % 8) (sym c.odds.ensures) ∙ c.if-odds-eq0.true)))

pub returns-else-odds-eq0 : goal.returns-else-odds-eq0
unfolding is_point
returns-else-odds-eq0 c = let e = c.args.e.now in let n : odds e % 8 ≡ 0 → ⊥ = λ h. c.if-odds-eq0.false (ap (λ (n : ℕ). n % 8) c.odds.ensures ∙ h) in
    ne_eqb (c.odds.result % 8) 0 c.if-odds-eq0.false ∙ sym (rw (eq-eqb (length e) 8 c.requires.long, ne_eqb (odds e % 8) 0 n))
