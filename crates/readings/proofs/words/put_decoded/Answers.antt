-- `put_decoded` writes the pattern of the decoded reading, which is a number, so that its pattern is the only one.
use mathlib.Core.Path.{◌≡◌, sym, ◌∙◌, ap, subst}
use mathlib.Core.Bool.{not}
use lib.Dec.{T, lit≤}
use lib.IntN.{◌*ℤ◌}
use lib.Ieee.{Float, binary32, to_bits, is_nan}
use mir.Facts.{to_z-of_z}
use Rattle.readings.specs.Fractions.{fraction}
use Rattle.readings.specs.Words.{put_word}
use Rattle.readings.proofs.Laws.Exact.{fraction-exact, exactly-number}
use Rattle.readings.proofs.words.put_decoded.Goals as goal
use Rattle.readings.proofs.words.put_decoded.Goals.{After-decoded_value, Start}

abbrev start : After-decoded_value → Start
start c = c.before.before.before

value : (c : After-decoded_value) → c.decoded_value.result ≡ fraction ((start c).args.s *ℤ (start c).args.e) 2048
value c = simp (to_z-of_z, (start c).ranges.s, (start c).ranges.e) at c.decoded_value.ensures

pub float_to_bits-decoded_value : goal.float_to_bits-decoded_value
float_to_bits-decoded_value c =
    let z = (start c).args.s *ℤ (start c).args.e in
    subst (λ (x : Float). T (not (is_nan x))) (sym (value c)) (exactly-number (fraction z 2048) z 2048 (fraction-exact z 11 (start c).requires.e_bound (lit≤ tt)))

pub returns : goal.returns
returns c =
    let p = c.before.before in let a = (start p.before.before).args in
    p.put_word.ensures ∙ ap (λ (x : Float). put_word a.b.now a.i (to_bits binary32 x)) (value p.before.before)
