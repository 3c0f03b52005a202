-- `chosen` takes the mend of each half, and of the two what `lead` says.
use native.Mathlib.Omega.{arith}
use mathlib.Core.Path.{◌≡◌, sym, subst}
use mathlib.Core.Bool.{cond}
use Prim.Native.Nat.{◌+◌, ◌*◌, ◌-◌}
use lib.IntN.{ℤ, pos, nat_abs, ◌+ℤ◌}
use lib.Signed.{lt_z}
use Rattle.rounding.specs.Pass.{Scan, Mild, even_mend, odd_mend, lead, chosen, scan_of, mend_of}
use Rattle.rounding.proofs.Laws.Passes.{of_cond, mended-mild, all_keys, choice-is}
use Rattle.rounding.proofs.point.chosen.Goals as goal

pub lead-requires : goal.lead-requires
lead-requires g c = let t = g.T.Number in let h = g.met.T.Number in let n = g.T.Key.Count.count in let s : ℤ = t.value c.args.s in let f = c.requires.1.fair in
    let k : n c.sub.result ≡ 16 * nat_abs s + 15 - n c.args.c.least = cc (g.met.T.Key.Count.sub_law _ _ _ c.sub.ensures, h.add_law _ _ _ c.add.ensures, h.mul_law _ _ _ c.mul.ensures, all_keys s c.requires.0.least) in (
      f.even,
      f.odd,
      subst (Mild t.step) (sym c.mended-x.ensures) (mended-mild t.step s (n c.args.c.most) c.requires.0.most c.requires.1.most c.is_odd.result),
      subst (Mild t.step) (sym c.mended-y.ensures) (mended-mild t.step s (n c.sub.result) c.requires.0.most (omega (arith, k, c.requires.0.most)) c.is_odd-2.result),
      c.requires.2,
    )

pub returns : goal.returns
unfolding chosen
returns g c = let t = g.T.Number in let h = g.met.T.Number in let n = g.T.Key.Count.count in let s : ℤ = t.value c.args.s in let b : Scan = scan_of n t.value c.args.c in
    let k : n c.sub.result ≡ 16 * nat_abs s + 15 - b.least = cc (g.met.T.Key.Count.sub_law _ _ _ c.sub.ensures, h.add_law _ _ _ c.add.ensures, h.mul_law _ _ _ c.mul.ensures, all_keys s c.requires.0.least) in
    let u : t.value c.add-2.result ≡ b.sum +ℤ pos b.keys = cc (h.add_law _ _ _ c.add-2.ensures) in
    let x : mend_of n t.value c.mended-x.result ≡ even_mend s b = cc in
    let y : mend_of n t.value c.mended-y.result ≡ odd_mend s b = cc in
    let e : c.positive-even.result ≡ lt_z (pos 0) (lead b.even b.odd (even_mend s b) (odd_mend s b) (t.value c.args.way)) = cc in
    let p : t.value c.either.result ≡ cond c.positive-even.result (pos 0) (pos 1) = cc (of_cond t.value c.positive-even.result _ _ c.either.ensures) in
    choice-is {x = mend_of n t.value c.mended-x.result} {y = mend_of n t.value c.mended-y.result} p (of_cond n c.positive-even.result _ _ c.either-2.ensures) (of_cond t.value c.positive-even.result _ _ c.either-3.ensures) e x y
