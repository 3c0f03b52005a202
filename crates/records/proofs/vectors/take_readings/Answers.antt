-- `take_readings` walks the readings: what is left of them gives the same verdict as all, and the units of those before stand in front.
use Rattle.std.proofs.Common.{◌≡◌, ap, false, Ok, List, ◌∷◌, ℕ, suc, ◌+◌, ◌*◌, ◌-◌, ◌<◌, ℤ, subst, sym, ◌∙◌, add-one, arith, rules}
use mir.Syntax.{w32}
use mir.Val.{to_z, of_z}
use Rattle.std.specs.Result.{is_ok}
use Rattle.readings.specs.Words.{measure_at}
use Rattle.records.specs.Vectors.{fvecs_readings}
use Rattle.records.proofs.Laws.Vectors.{Taking, taking-next, taking-done, reading-none, refusal_of, reading-refused}
use Rattle.records.proofs.vectors.take_readings.Invariants.{from}
use Rattle.records.proofs.vectors.take_readings.Goals as goal

-- the first of the readings that are left
opened : (b : List ℕ) (o x : List ℤ) (i n : ℕ) → i < n → Taking (fvecs_readings b) o i (from b i (n - i)) x → Taking (fvecs_readings b) o i (measure_at b (4 + 4 * i) ∷ from b (i + 1) (n - (i + 1))) x
opened b o x i n h t = let e : n - i ≡ suc (n - suc i) = omega arith in
    rw (add-one i) (subst (λ (k : ℕ). Taking (fvecs_readings b) o i (from b i k) x) e t)

pub loop-i-preserved : goal.loop-i-preserved
loop-i-preserved c =
    let b = c.args.b.now in let o = c.args.x.now in let i = c.loop-i.i-counter in let x = c.loop-i.x in
    let same : to_z w32 (of_z w32 c.in_ok-x.field-0) ≡ c.in_ok-x.field-0 = search rules in
    let taken : c.measure_at.result ≡ Ok c.in_ok-x.field-0 = search rules in
    rw same (taking-next (fvecs_readings b) o i x _ _ _ (sym c.measure_at.ensures ∙ taken) (omega (arith, c.requires.2)) (opened b o x i c.args.n c.loop-i-test.true c.loop-i.invariant))

pub returns-in_err-x : goal.returns-in_err-x
returns-in_err-x c =
    let b = c.args.b.now in let o = c.args.x.now in let i = c.loop-i.i-counter in let x = c.loop-i.x in let rest = from b (i + 1) (c.args.n - (i + 1)) in
    let t = opened b o x i c.args.n c.loop-i-test.true c.loop-i.invariant in
    let none : is_ok (measure_at b (4 + 4 * i)) ≡ false = ap is_ok (sym c.measure_at.ensures) ∙ sym c.in_err-x.ensures.variant in
    let refused : c.from_residual.result ≡ refusal_of i c.measure_at.result = search rules in record {
      answer = refused ∙ ap (refusal_of i) c.measure_at.ensures ∙ sym (t.verdict ∙ reading-refused i _ rest none);
      room = taking-done (fvecs_readings b) o i x _ (reading-none i _ rest none) t;
    }
