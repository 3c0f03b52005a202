-- Each reading, and twice it, fits.
use Rattle.std.proofs.Common.{rules, List, ℕ, ℤ, pos, ◌*ℤ◌, ◌^◌, arith, SFits, w32, w64}
use Rattle.integers.specs.Laws.Arrays.{from_fn-map}
use Rattle.integers.specs.Laws.Sizes.{fits-abs, fits-mag, fits-mul}
use Rattle.integers.specs.Vectors.{«at», Sized}
use Rattle.blocks.proofs.doubled.Goals as goal

reading_fits : (x : List ℤ) → Sized 8 (2 ^ 24) x → (i : ℕ) → SFits w32 («at» x i)
reading_fits x h i = fits-mag w32 _ (omega (arith, h.small i))

wide_fits : (x : List ℤ) → Sized 8 (2 ^ 24) x → (i : ℕ) → SFits w64 («at» x i)
wide_fits x h i = fits-abs _ (omega (arith, h.small i))

twice_fits : (x : List ℤ) → Sized 8 (2 ^ 24) x → (i : ℕ) → SFits w64 (pos 2 *ℤ «at» x i)
twice_fits x h i = fits-mul (pos 2) («at» x i) 2 (2 ^ 24) (omega arith) (h.small i) (omega arith)

pub returns : goal.returns
returns c = let x = c.args.x.now in
    from_fn-map _ (λ (z : ℤ). pos 2 *ℤ z) x (pos 0) (pos 0) c.requires.long c.from_fn.ensures.items
    (λ k y q l e. let f = reading_fits x c.requires k in let g = wide_fits x c.requires k in let h = twice_fits x c.requires k in search rules)
