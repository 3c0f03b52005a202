-- What the showing program prints (01, The proved blocks).
use Rattle.std.specs.Prelude.{cond, List, [], ◌∷◌, ◌++◌, map, ℕ, zero, suc, ◌+◌, ◌/◌, ◌%◌, ltb, ℤ, pos, negsuc, nat_abs, get_or, drop, Ok, Err}
use Prim.Native.Char.{code}
use Rattle.blocks.specs.Trials.{block_code}
use Rattle.layers.specs.Digits.{cut}
use Rattle.layers.specs.E8.{e8, nearest}
use Rattle.refusals.specs.declared.settings.Settings.{Settings}
use Rattle.refusals.specs.declared.Refusal.{Refusal}
use Rattle.refusals.specs.declared.Refusal.TheVariants.{Record}
use Rattle.refusals.specs.Limits.{m_most}
use Rattle.refusals.specs.Verdicts.{row_of, spot_of, unless, Verdict}
use Rattle.records.specs.Eight.Codes.{code_length, step_of, whole_point}
use Rattle.records.specs.Eight.Vectors.{units_hour}
use Rattle.layers.specs.Code.{eight_of}
use Rattle.encoding.specs.Encode.{check_encode}
use Rattle.texts.specs.Text.{bytes, newline, space, minus, line_of, numbers, settings_in, well_formed}

-- ---- numbers

-- the byte of a digit
abbrev pub digit_byte : ℕ → ℕ
digit_byte d = code "0" + d

-- the decimal digits of n, which has at most k + 1 of them
abbrev pub decimal_in : ℕ → ℕ → List ℕ
decimal_in zero n = digit_byte n ∷ []
decimal_in (suc k) n = cond (ltb n 10) (digit_byte n ∷ []) (decimal_in k (n / 10) ++ (digit_byte (n % 10) ∷ []))

-- the decimal digits of n, with no needless zero before them
unfoldable pub decimal : ℕ → List ℕ
decimal n = decimal_in n n

-- a number: a minus where it is below 0, then its digits
abbrev pub written : ℤ → List ℕ
written (pos n) = decimal n
written (negsuc n) = minus ∷ decimal (suc n)

-- ---- lines

-- numbers, a space before each
abbrev pub fields : List ℤ → List ℕ
fields [] = []
fields (z ∷ l) = space ∷ (written z ++ fields l)

-- a line: its name, its numbers, a newline
abbrev pub line : List ℕ → List ℤ → List ℕ
line name l = name ++ (fields l ++ (newline ∷ []))

-- ---- what is printed

-- of layer k: its number, then its digits
abbrev pub layer_line : ℕ → List ℕ → List ℕ
layer_line k ds = line (bytes "layer") (pos k ∷ map pos ds)

-- of layers, counted from k
abbrev pub layer_lines : ℕ → List (List ℕ) → List ℕ
layer_lines k [] = []
layer_lines k (ds ∷ l) = layer_line k ds ++ layer_lines (suc k) l

-- of a block's code b: T and its step; the layers; the doubled point that it decodes to
unfoldable pub block_listing : ℕ → ℕ → List ℤ → List ℕ → List ℕ
block_listing q m steps b = line (bytes "step") (pos (get_or b 0 0) ∷ step_of steps b ∷ []) ++ (layer_lines 0 (cut 8 m (drop 1 b)) ++ line (bytes "point") (whole_point q m b))

-- of a refusal: its number and place
abbrev pub refusal_line : Refusal → List ℕ
refusal_line r = line (bytes "refused") (pos (row_of r) ∷ pos (spot_of r) ∷ [])

-- of a verdict: the listing f where it accepts, else its refusal
abbrev pub printed : Verdict → List ℕ → List ℕ
printed (Ok u) f = f
printed (Err r) f = refusal_line r

-- of what three lines ask for: the eight X are coded as one block, which is refused by 1, 2, 5 or 6, in this order
unfoldable pub check_shown : Settings → List ℤ → List ℤ → Verdict
check_shown c steps X = check_encode (eight_of c) c steps (units_hour X) (code_length m_most 1)

unfoldable pub block_shown : Settings → List ℤ → List ℤ → List ℕ
block_shown c steps X = let q = nat_abs c.q in let m = nat_abs c.m in printed (check_shown c steps X) (block_listing q m steps (block_code e8 nearest q m steps X))

-- of a text: refused by 10 where it is malformed, before all else
unfoldable pub shown : List ℕ → List ℕ
shown t = printed (unless (well_formed t) (Record 0)) (block_shown (settings_in (line_of t 0)) (numbers (line_of t 1)) (numbers (line_of t 2)))

-- the most bytes that are printed
abbrev pub room_most : ℕ
room_most = 1024
