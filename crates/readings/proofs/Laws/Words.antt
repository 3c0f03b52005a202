-- A word that was written is read back, and nothing else changes.
use Rattle.std.specs.Prelude.{◌≡◌, List, ◌++◌, ℕ, ◌+◌, ◌*◌, ◌/◌, ◌%◌, ◌^◌, ◌<◌, ◌≤◌, T, ℤ, ◌*ℤ◌, length, get_or, take, drop, Float}
use Rattle.std.proofs.Common.{sym, subst, append_assoc, add-zero, mod-eq_of_lt, arith, length-append, length-take, length-drop, get_or-append-add}
use Rattle.std.proofs.Math.Nat.{div-div-eq-div-mul, mod-add-div'}
use Rattle.std.specs.Float.{binary32}
use Rattle.std.specs.Float.Ieee.{of_bits, to_bits, fits}
use Rattle.std.specs.Float.Ieee.Bits.{of_bits-to_bits, to_bits-lt}
use Rattle.readings.specs.Report.{decoded_value}
use Rattle.readings.specs.Words.{word_at, bytes_of, put_word, put_decoded}
use Rattle.readings.proofs.Laws.Exact.{fraction-fits}

-- a number below 2 ^ 32 is the sum of its four bytes
digits : (w : ℕ) → w < 2 ^ 32 → w % 256 + w / 256 % 256 * 256 + w / 65536 % 256 * 65536 + w / 16777216 % 256 * 16777216 ≡ w
digits w h =
    rw (sym (div-div-eq-div-mul w 65536 256), sym (div-div-eq-div-mul w 256 256), mod-eq_of_lt (small w h))
    (joined w (w / 256) (w / 256 / 256) _ _ _ _ (mod-add-div' w 256) (mod-add-div' (w / 256) 256) (mod-add-div' (w / 256 / 256) 256))
  where
    small : (w : ℕ) → w < 2 ^ 32 → w / 256 / 256 / 256 < 256
    small w h = omega arith

    joined : (w v u t x y z : ℕ) → x + v * 256 ≡ w → y + u * 256 ≡ v → z + t * 256 ≡ u → x + y * 256 + z * 65536 + t * 16777216 ≡ w
    joined w v u t x y z h k l = omega arith

module _ (b : List ℕ) (i w : ℕ) (room : i + 4 ≤ length b) where
  pub length-put : length (put_word b i w) ≡ length b
  length-put = simp (length-append, length-take, length-drop) (omega arith)

  byte : (j : ℕ) → get_or (put_word b i w) (i + j) 0 ≡ get_or (bytes_of w ++ drop (i + 4) b) j 0
  byte j =
      let rest = bytes_of w ++ drop (i + 4) b in
      let p : length (take i b) ≡ i = simp length-take (omega arith) in
      rw append_assoc (subst (λ (k : ℕ). get_or (take i b ++ rest) (k + j) 0 ≡ get_or rest j 0) p (get_or-append-add (take i b) rest j 0))

  pub word-put : w < 2 ^ 32 → word_at (put_word b i w) i ≡ w
  word-put h =
      let first : get_or (put_word b i w) i 0 ≡ w % 256 = rw add-zero at (byte 0) in
      rw (first, byte 1, byte 2, byte 3) (digits w h)

-- so is one at the front, whatever follows it
pub word_first : (w : ℕ) (b : List ℕ) → w < 2 ^ 32 → word_at (bytes_of w ++ b) 0 ≡ w
word_first w b h = word-put (bytes_of w ++ b) 0 w (omega arith) h

-- a float that was written as its pattern is read back, and so is a decoded reading
pub float-put : (b : List ℕ) (i : ℕ) (v : Float) → i + 4 ≤ length b → T (fits binary32 v) → of_bits binary32 (word_at (put_word b i (to_bits binary32 v)) i) ≡ v
float-put b i v room h = rw (word-put b i (to_bits binary32 v) room (to_bits-lt binary32 v h)) (of_bits-to_bits binary32 v h)

pub decoded-put : (b : List ℕ) (i : ℕ) (s e : ℤ) → i + 4 ≤ length b → of_bits binary32 (word_at (put_decoded b i s e) i) ≡ decoded_value s e
decoded-put b i s e room = float-put b i (decoded_value s e) room (fraction-fits (s *ℤ e) 2048)
