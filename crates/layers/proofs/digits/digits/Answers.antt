-- What a layer leaves over is as small, and its digits come after those of the layers before it.
use Rattle.std.proofs.Common.{◌≡◌, sym, ◌∙◌, ap, ap₂, subst, List, ◌++◌, ℕ, ◌+◌, ◌*◌, ◌-◌, ◌^◌, ℤ, nat_abs, take, drop, add-one, arith, length-take, length-drop, SFits, w64, to_z-of_z}
use borrow.Rule.Slice.PartMut.{put_mid}
use Rattle.integers.specs.Laws.Sums.{sized-more}
use Rattle.integers.specs.Vectors.{Sized}
use Rattle.lattice.specs.Computed.{nearest_point}
use Rattle.layers.specs.E8.{e8, nearest, digits8, leftover8}
use Rattle.layers.specs.Layers.{layer_digits}
use Rattle.layers.specs.Sizes.{Base}
use Rattle.layers.proofs.Laws.Bases.{base-is, base-two, base-divisor}
use Rattle.layers.proofs.Laws.E8.{digits8-long}
use Rattle.layers.proofs.Laws.Loops.{leftover-next, digits-next, write-part}
use Rattle.layers.proofs.Laws.Widths.{leftover-stays}
use Rattle.layers.proofs.digits.digits.Goals as goal

-- after i layers
module _ (q : ℤ) (base : Base q) (e : List ℤ) (i : ℕ) where
  rest-small : Sized 8 (2 ^ 26) e → {g : List ℤ} → g ≡ leftover8 (nat_abs q) i e → Sized 8 (2 ^ 26) g
  rest-small h g-is = subst (Sized 8 (2 ^ 26)) (sym g-is) (leftover-stays e8 nearest (nat_abs q) (base-two q base) (2 ^ 26) (omega arith) i e h)

  rest_more : {g n : List ℤ} → g ≡ leftover8 (nat_abs q) i e → n ≡ nearest_point q g → n ≡ leftover8 (nat_abs q) (i + 1) e
  rest_more g-is n-is =
      n-is ∙ ap₂ nearest_point (sym (base-is q base)) g-is ∙ sym (leftover-next e8 nearest (nat_abs q) i e) ∙ ap (λ (k : ℕ). leftover8 (nat_abs q) k e) (sym (add-one i))

  -- the layer's digits are written into their part, and the part comes back
  written_more : {g : List ℤ} {out part : List ℕ} (found : List ℕ) → g ≡ leftover8 (nat_abs q) i e → out ≡ digits8 (nat_abs q) i e ++ drop (8 * i) found
      → part ≡ layer_digits e8 (nat_abs q) g ++ drop 8 (take (8 * i + 8 - 8 * i) (drop (8 * i) out))
      → put_mid (8 * i) (8 * i + 8 - 8 * i) out part ≡ digits8 (nat_abs q) (i + 1) e ++ drop (8 * (i + 1)) found
  written_more {g} {out} {part} found g-is out-is part-is =
      let eight : 8 * i + 8 - 8 * i ≡ 8 = omega arith in let eight-more : 8 * i + 8 ≡ 8 * (i + 1) = omega arith in
      let layer : List ℕ = layer_digits e8 (nat_abs q) (leftover8 (nat_abs q) i e) in let w : List ℕ = digits8 (nat_abs q) i e in
      let p : part ≡ layer ++ drop 8 (take 8 (drop (8 * i) out)) = part-is ∙ ap₂ (λ (g : List ℤ) (k : ℕ). layer_digits e8 (nat_abs q) g ++ drop 8 (take k (drop (8 * i) out))) g-is eight in
      ap₂ (λ (k : ℕ) (p : List ℕ). put_mid (8 * i) k out p) eight p
      ∙ ap (λ (x : List ℕ). take (8 * i) x ++ ((layer ++ drop 8 (take 8 (drop (8 * i) x))) ++ drop 8 (drop (8 * i) x))) out-is
      ∙ write-part w layer found (8 * i) 8 (digits8-long (nat_abs q) i e)
      ∙ ap₂ (λ (w : List ℕ) (k : ℕ). w ++ drop k found) (sym (digits-next e8 nearest (nat_abs q) i e) ∙ ap (λ (k : ℕ). digits8 (nat_abs q) k e) (sym (add-one i))) eight-more

pub layer_digits-requires : goal.layer_digits-requires
layer_digits-requires c =
    let f : SFits w64 c.reciprocal-w.result = record { sfits = c.reciprocal-w.type_inv } in
    simp (to_z-of_z, c.ranges.q, f, length-take, length-drop)
    (c.requires.0, rest-small c.args.q c.requires.0 c.args.e.now c.loop-i.i c.requires.1 (simp (to_z-of_z, c.ranges.q) at c.loop-i.invariant.rest), (simp (to_z-of_z, c.ranges.q) at c.reciprocal-w.ensures), omega (arith, c.requires.2))

pub nearest_point-g-requires : goal.nearest_point-g-requires
nearest_point-g-requires c =
    let h = rest-small c.args.q c.requires.0 c.args.e.now c.loop-i.i c.requires.1 (simp (to_z-of_z, c.ranges.q) at c.loop-i.invariant.rest) in
    simp (to_z-of_z, c.ranges.q) (base-divisor c.args.q c.requires.0, sized-more 8 (2 ^ 26) c.loop-i.g h (2 ^ 30) (omega arith))

pub loop-i-preserved : goal.loop-i-preserved
loop-i-preserved c =
    let q = c.args.q in let b = c.requires.0 in let e = c.args.e.now in let i = c.loop-i.i in let fq = c.ranges.q in
    let rest : c.loop-i.g ≡ leftover8 (nat_abs q) i e = simp (to_z-of_z, fq) at c.loop-i.invariant.rest in
    record {
      rest = simp (to_z-of_z, fq) (rest_more q b e i rest (simp (to_z-of_z, fq) at c.nearest_point-g.ensures));
      written = simp (to_z-of_z, fq) (written_more q b e i c.args.out.now rest (simp (to_z-of_z, fq) at c.loop-i.invariant.written) (simp (to_z-of_z, fq) at c.layer_digits.ensures));
    }
