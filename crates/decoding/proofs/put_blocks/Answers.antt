-- `put_blocks` has the points made, then writes block after block, each into its part: after i turns the bytes of the first i stand before the rest as found.
use borrow.Author.Rules.{rules}
use mathlib.Core.Path.{◌≡◌, sym, ◌∙◌, ap, ap₂, subst₂}
use mathlib.Core.List.{List, [], ◌++◌, map}
use Prim.Native.Nat.{ℕ, ◌+◌, ◌*◌, ◌-◌, ◌≤◌}
use native.Mathlib.Omega.{arith}
use borrow.Rule.Slice.PartMut.{put_mid}
use lib.IntN.{ℤ, pos, nat_abs}
use lib.ListN.{length, get_or, take, drop, replicate, length-take, length-drop}
use mir.Syntax.{w64}
use mir.Val.{SFits}
use mir.Facts.{to_z-of_z}
use Rattle.layers.specs.Digits.{joined, cut}
use Rattle.layers.proofs.Laws.Loops.{write-in}
use Rattle.records.specs.Eight.Codes.{block_size, step_of, whole_point}
use Rattle.decoding.specs.Decode.{Readable, reading_bytes, decoded_bytes}
use Rattle.decoding.specs.Laws.Decode.{block-readable}
use Rattle.records.specs.Laws.Parts.{cut-more, joined-more, front_long}
use Rattle.points.specs.Laws.Points.{row_at}
use Rattle.decoding.proofs.put_blocks.Goals as goal
use Rattle.decoding.proofs.put_blocks.Goals.{In-loop-i, After-step_of-s}

-- block i and its part
module _ (c : In-loop-i) where
  abbrev q : ℕ
  q = nat_abs c.args.q

  abbrev m : ℕ
  m = c.args.m

  abbrev steps : List ℤ
  steps = c.args.steps.now

  abbrev body : List ℕ
  body = c.args.body.now

  abbrev i : ℕ
  i = c.loop-i.i

  abbrev found : List ℕ
  found = c.args.out.now

  abbrev written : List ℕ
  written = joined (map (decoded_bytes q m steps) (cut (block_size m) i body))

  out-is : c.loop-i.out ≡ written ++ drop (32 * i) found
  out-is = simp (to_z-of_z, c.ranges.q) at c.loop-i.invariant.1

  abbrev n : ℕ
  n = c.block_size-n.result

  n-is : n ≡ block_size m
  n-is = c.block_size-n.ensures

  abbrev block : List ℕ
  block = take (block_size m) (drop (block_size m * i) body)

  -- its point, in its row
  row_is : get_or c.whole_points.new.rows i [] ≡ whole_point q m block
  row_is = ap (λ (r : List (List ℤ)). get_or r i []) (simp (to_z-of_z, c.ranges.q) at c.whole_points.ensures)
      ∙ row_at (whole_point q m) (block_size m) body (replicate 64 (replicate 8 (pos 0))) c.args.k i [] c.loop-i-test.true

  room : 32 * i + 32 ≤ length found
  room = omega (arith, c.loop-i-test.true, c.requires.4)

  block-is : take (n * i + n - n * i) (drop (n * i) body) ≡ block
  block-is = let whole : n * i + n - n * i ≡ n = omega arith in ap₂ (λ (j n : ℕ). take j (drop (n * i) body)) (whole ∙ n-is) n-is

  -- the block's bytes are written into their part, and the part comes back
  more-is : (part : List ℕ) → part ≡ decoded_bytes q m steps block → put_mid (32 * i) (32 * i + 32 - 32 * i) c.loop-i.out part ≡ joined (map (decoded_bytes q m steps) (cut (block_size m) (i + 1) body)) ++ drop (32 * (i + 1)) found
  more-is part h =
      let g = decoded_bytes q m steps in let a : ℕ = 32 * i in let whole : a + 32 - a ≡ 32 = omega arith in let next : a + 32 ≡ 32 * (i + 1) = omega arith in
      ap₂ (λ (k : ℕ) (p : List ℕ). put_mid a k c.loop-i.out p) whole h
      ∙ ap (λ (o : List ℕ). take a o ++ (g block ++ drop 32 (drop a o))) out-is
      ∙ write-in written (g block) found a 32 (front_long written found a c.loop-i.out out-is c.loop-i.invariant.0 (omega (arith, room)))
      ∙ ap₂ (λ (w : List ℕ) (k : ℕ). w ++ drop k found) (sym (ap (λ (l : List (List ℕ)). joined (map g l)) (cut-more (block_size m) i body) ∙ joined-more g (cut (block_size m) i body) block)) next

-- its step
module _ (c : After-step_of-s) where
  step_fits : SFits w64 c.step_of-s.result
  step_fits = record { sfits = c.step_of-s.type_inv }

pub put_readings-requires : goal.put_readings-requires
put_readings-requires c = let w = goal.at.put_readings-requires c in let b = w.In-loop-i in let h = c.loop-i-test.true in
    simp (to_z-of_z, step_fits w.After-step_of-s, length-take, length-drop) (
      subst₂ Readable (sym (c.step_of-s.ensures ∙ ap (step_of (steps b)) (block-is b))) (sym (row_is b)) (block-readable c.args.q (m b) (steps b) (block b) c.requires.1 (c.requires.2.each (i b) h)),
      omega (arith, room b, c.loop-i.invariant.0),
    )

pub loop-i-preserved : goal.loop-i-preserved
loop-i-preserved c = let w = goal.at.loop-i-preserved c in let b = w.In-loop-i in (
  search rules,
  simp (to_z-of_z, c.ranges.q) (more-is b c.put_readings.new.out ((simp (to_z-of_z, step_fits w.After-step_of-s) at c.put_readings.ensures)
      ∙ ap₂ (λ (s : ℤ) (e : List ℤ). joined (map (reading_bytes s) e)) (c.step_of-s.ensures ∙ ap (step_of (steps b)) (block-is b)) (row_is b))),
)
