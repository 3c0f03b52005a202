-- Little-endian 32-bit words in bytes, and readings that stand in them as binary32 patterns (01, Bytes).
use Rattle.std.specs.Prelude.{ℕ, ◌+◌, ◌*◌, ◌/◌, ◌%◌, List, [], ◌∷◌, ◌++◌, ℤ, get_or, take, drop}
use Rattle.std.specs.Float.{binary32}
use Rattle.std.specs.Float.Ieee.{to_bits}
use Rattle.readings.specs.Taking.{measure_bits, Measured}
use Rattle.readings.specs.Report.{decoded_value}

-- the number that the four bytes from i on stand for, the lowest first
abbrev pub word_at : List ℕ → ℕ → ℕ
word_at b i = get_or b i 0 + get_or b (i + 1) 0 * 256 + get_or b (i + 2) 0 * 65536 + get_or b (i + 3) 0 * 16777216

-- the four bytes of w, the lowest first
abbrev pub bytes_of : ℕ → List ℕ
bytes_of w = w % 256 ∷ w / 256 % 256 ∷ w / 65536 % 256 ∷ w / 16777216 % 256 ∷ []

-- b with the four bytes of w from i on, and all else as it was
abbrev pub put_word : List ℕ → ℕ → ℕ → List ℕ
put_word b i w = take i b ++ bytes_of w ++ drop (i + 4) b

-- the reading whose pattern stands at i
abbrev pub measure_at : List ℕ → ℕ → Measured
measure_at b i = measure_bits (word_at b i)

-- b with the pattern of the decoded reading s·e / 2048 at i, and all else as it was
abbrev pub put_decoded : List ℕ → ℕ → ℤ → ℤ → List ℕ
put_decoded b i s e = put_word b i (to_bits binary32 (decoded_value s e))
