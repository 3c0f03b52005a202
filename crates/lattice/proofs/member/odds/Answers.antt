-- The count with an entry.
use Rattle.std.proofs.Common.{◌≡◌, sym, ◌∙◌, ap, ap₂, Bool, List, ℕ, suc, zero, refl, ◌+◌, ◌<◌, ◌^◌, take, ℤ, nat_abs, eqb, SFits, w64, to_z-of_z, add-one, mod-lt, arith}
use Rattle.std.specs.Int.{from_bool}
use Rattle.integers.specs.Laws.Sizes.{fits-abs}
use Rattle.integers.specs.Vectors.{«at», Sized}
use Rattle.lattice.specs.Doubled.{par, odds}
use Rattle.lattice.specs.Laws.Member.{odds-take-suc, odds-count}
use Rattle.lattice.proofs.member.odds.Goals as goal

bit : (n : ℕ) → n < 2 → from_bool (eqb n 1) ≡ n
bit zero h = refl
bit (suc zero) h = refl
bit (suc (suc n)) h = absurd (omega arith)

more : (e : List ℤ) (i m n : ℕ) (b : Bool) → m ≡ odds (take i e) → b ≡ eqb (par («at» e i)) 1 → n ≡ from_bool b → m + n ≡ odds (take (i + 1) e)
more e i m n b p q r = ap₂ ◌+◌ p (r ∙ ap from_bool q ∙ bit (par («at» e i)) (mod-lt (nat_abs («at» e i)) (omega arith))) ∙ sym (rw (add-one i) (odds-take-suc e i))

fits : (e : List ℤ) (i : ℕ) → Sized 8 (2 ^ 32) e → SFits w64 («at» e i)
fits e i h = fits-abs _ (omega (arith, h.small i))

pub overflow_add-n : goal.overflow_add-n
overflow_add-n c = let e = c.args.e.now in let i = c.loop-x.x-index in
    rw (more e i c.loop-x.n c.from-n.result c.odd.result c.loop-x.invariant (simp (to_z-of_z, fits e i c.requires) at c.odd.ensures) c.from-n.ensures) (record { fits = omega (arith, odds-count e (i + 1)) })

pub loop-x-preserved : goal.loop-x-preserved
loop-x-preserved c = let e = c.args.e.now in let i = c.loop-x.x-index in
    more e i c.loop-x.n c.from-n.result c.odd.result c.loop-x.invariant (simp (to_z-of_z, fits e i c.requires) at c.odd.ensures) c.from-n.ensures
