-- Each product and sum fits 64 bits.
use Rattle.std.proofs.Common.{◌≡◌, rules, arith, List, ℕ, ℤ, pos, nat_abs, ◌+ℤ◌, ◌*ℤ◌, ◌^◌, ◌≤◌, SFits, w64}
use Rattle.std.proofs.iter.Serving.{serving}
use Rattle.integers.specs.Laws.Arrays.{from_fn-list}
use Rattle.integers.specs.Laws.Sizes.{fits-abs, fits-add, abs-mul-le}
use Rattle.integers.specs.Laws.Sums.{entries, lengths}
use Rattle.integers.specs.Vectors.{«at», add_v, scale_v, Sized}
use Rattle.layers.proofs.points.plus_times.Goals as goal

entry_fits : (a : List ℤ) → Sized 8 (2 ^ 30) a → (j : ℕ) → SFits w64 («at» a j)
entry_fits a h j = fits-abs _ (omega (arith, h.small j))

product_fits : (k : ℤ) (b : List ℤ) → nat_abs k ≤ 2 ^ 30 → Sized 8 (2 ^ 30) b → (j : ℕ) → SFits w64 (k *ℤ «at» b j)
product_fits k b l h j = fits-abs _ (omega (arith, abs-mul-le k («at» b j) l (h.small j)))

sum_fits : (a : List ℤ) (k : ℤ) (b : List ℤ) → Sized 8 (2 ^ 30) a → nat_abs k ≤ 2 ^ 30 → Sized 8 (2 ^ 30) b → (j : ℕ) → SFits w64 («at» a j +ℤ k *ℤ «at» b j)
sum_fits a k b g l h j = fits-add («at» a j) (k *ℤ «at» b j) (omega (arith, abs-mul-le k («at» b j) l (h.small j), g.small j))

entry : (a : List ℤ) (k : ℤ) (b : List ℤ) (j : ℕ) → «at» (add_v a (scale_v k b)) j ≡ «at» a j +ℤ k *ℤ «at» b j
entry a k b j = simp entries

pub from_fn-requires : goal.from_fn-requires
from_fn-requires c =
    let a = c.args.a.now in let b = c.args.b.now in let k = c.args.k in let r = c.requires in
    let f = entry_fits a r.0 in let g = entry_fits b r.1 in let p = product_fits k b r.2 r.1 in let s = sum_fits a k b r.0 r.2 r.1 in
    grind (serving, f, g, p, s)

pub returns : goal.returns
returns c =
    let a = c.args.a.now in let b = c.args.b.now in let k = c.args.k in let r = c.requires in
    from_fn-list _ (add_v a (scale_v k b)) (pos 0) (simp lengths (omega (arith, r.0.long, r.1.long))) c.from_fn.ensures.items
    (λ j y q l e.
    let f = entry_fits a r.0 j in let g = entry_fits b r.1 j in let p = product_fits k b r.2 r.1 j in let s = sum_fits a k b r.0 r.2 r.1 j in
    search (rules, entry))
