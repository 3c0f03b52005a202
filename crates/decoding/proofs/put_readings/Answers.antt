-- `put_readings` writes reading after reading: after i turns the bytes of the first i stand before the rest as found.
use borrow.Author.Rules.{rules}
use mathlib.Core.Path.{◌≡◌, sym, ◌∙◌, ap, ap₂}
use mathlib.Core.List.{List, ◌++◌, map}
use Prim.Native.Nat.{ℕ, ◌+◌, ◌*◌}
use native.Mathlib.Omega.{arith}
use lib.IntN.{ℤ, pos}
use lib.ListN.{length, take, drop}
use mir.Syntax.{w16, w64}
use mir.Val.{SFits}
use mir.Facts.{to_z-of_z}
use Rattle.integers.specs.Vectors.{«at»}
use Rattle.layers.specs.Digits.{joined}
use Rattle.decoding.specs.Decode.{reading_bytes}
use Rattle.records.specs.Laws.Parts.{joined-take, front_long, write-over}
use Rattle.decoding.proofs.put_readings.Goals as goal
use Rattle.decoding.proofs.put_readings.Goals.{At-loop-i}

-- what stands at the loop's test
module _ (c : At-loop-i) where
  abbrev s : ℤ
  s = c.args.s

  abbrev e : List ℤ
  e = c.args.e.now

  abbrev i : ℕ
  i = c.loop-i.i

  -- the coordinate i
  abbrev x : ℤ
  x = «at» e i

  abbrev found : List ℕ
  found = c.args.out.now

  abbrev written : List ℕ
  written = joined (map (reading_bytes s) (take i e))

  out-is : c.loop-i.out ≡ written ++ drop (4 * i) found
  out-is = simp (to_z-of_z, c.ranges.s) at c.loop-i.invariant.1

  written-long : length written ≡ 4 * i
  written-long = front_long written found (4 * i) c.loop-i.out out-is (omega (arith, c.requires.1)) (omega (arith, c.requires.1))

pub loop-i-preserved : goal.loop-i-preserved
loop-i-preserved c =
    let b = (goal.at.loop-i-preserved c).At-loop-i in let n : SFits w16 (x b) = search rules in let wide : SFits w64 (x b) = record { sfits = omega (arith, n.sfits) } in
    let bytes : List ℕ = reading_bytes (s b) (x b) in let four : 4 * i b + 4 ≡ 4 * (i b + 1) = omega arith in (
      search rules,
      simp (to_z-of_z, c.ranges.s) (
          (simp (to_z-of_z, c.ranges.s, n, wide) at c.put_decoded.ensures)
          ∙ ap (λ (o : List ℕ). take (4 * i b) o ++ bytes ++ drop (4 * i b + 4) o) (out-is b)
          ∙ write-over (written b) (found b) (4 * i b) bytes 4 (written-long b)
          ∙ ap₂ (λ (w : List ℕ) (k : ℕ). w ++ drop k (found b)) (sym (joined-take (reading_bytes (s b)) (e b) (i b) (pos 0) (omega (arith, c.requires.0.long)))) four
          ),
    )
