-- What the showing program reads: three lines of whole numbers (01, The proved blocks). A text is its bytes.
use Rattle.std.specs.Prelude.{Bool, true, false, ◌&&◌, cond, List, [], ◌∷◌, map, ℕ, ◌+◌, ◌*◌, ◌-◌, ◌^◌, eqb, leb, ℤ, pos, neg_ℤ, length, get_or, drop}
use Prim.Native.Char.{code}
use Prim.Native.String.{String, [] as []ˢ, ◌∷◌ as ◌∷ˢ◌}
use Rattle.integers.specs.Vectors.{«at»}
use Rattle.refusals.specs.declared.settings.Settings.{Settings}

-- the bytes of a quoted text
abbrev pub bytes : String → List ℕ
bytes []ˢ = []
bytes (c ∷ˢ s) = code c ∷ bytes s

-- the most bytes of a text
abbrev pub text_most : ℕ
text_most = 4096

abbrev pub newline : ℕ
newline = code "\n"

abbrev pub space : ℕ
space = code " "

abbrev pub minus : ℕ
minus = code "-"

-- ---- lines and words

-- a byte before pieces: where it ends a piece, an empty one stands before them; else it joins the first
abbrev pub led : Bool → ℕ → List (List ℕ) → List (List ℕ)
led true b l = [] ∷ l
led false b [] = (b ∷ []) ∷ []
led false b (p ∷ l) = (b ∷ p) ∷ l

-- the pieces of a text, each ended by the byte `mark`, which the last may lack
abbrev pub pieces : ℕ → List ℕ → List (List ℕ)
pieces mark [] = []
pieces mark (b ∷ t) = led (eqb b mark) b (pieces mark t)

-- those that are not empty
abbrev pub full : List (List ℕ) → List (List ℕ)
full [] = []
full ([] ∷ l) = full l
full ((b ∷ p) ∷ l) = (b ∷ p) ∷ full l

-- the lines of a text: newlines end them, and the last newline may be missing
abbrev pub lines : List ℕ → List (List ℕ)
lines t = pieces newline t

-- the words of a line: spaces part them, one or more, and do no harm before the first or after the last
abbrev pub words : List ℕ → List (List ℕ)
words l = full (pieces space l)

-- ---- numbers

-- a decimal digit
abbrev pub is_digit : ℕ → Bool
is_digit b = leb (code "0") b && leb b (code "9")

abbrev pub all_digits : List ℕ → Bool
all_digits [] = true
all_digits (b ∷ l) = is_digit b && all_digits l

-- the value of digits that stand after others of the value v
abbrev pub value_after : ℕ → List ℕ → ℕ
value_after v [] = v
value_after v (b ∷ l) = value_after (10 * v + (b - code "0")) l

-- whether a word begins with a minus
abbrev pub has_minus : List ℕ → Bool
has_minus [] = false
has_minus (b ∷ l) = eqb b minus

-- the word without it
abbrev pub unsigned : List ℕ → List ℕ
unsigned w = cond (has_minus w) (drop 1 w) w

-- the most that follows a minus, or stands without one, within signed 32 bits
abbrev pub size_most : Bool → ℕ
size_most true = 2 ^ 31
size_most false = 2 ^ 31 - 1

-- a number: one or more digits, maybe after a minus, not past signed 32 bits
unfoldable pub is_number : List ℕ → Bool
is_number w = leb 1 (length (unsigned w)) && (all_digits (unsigned w) && leb (value_after 0 (unsigned w)) (size_most (has_minus w)))

-- its value
unfoldable pub number_in : List ℕ → ℤ
number_in w = cond (has_minus w) (neg_ℤ (pos (value_after 0 (unsigned w)))) (pos (value_after 0 (unsigned w)))

abbrev pub all_numbers : List (List ℕ) → Bool
all_numbers [] = true
all_numbers (w ∷ l) = is_number w && all_numbers l

-- whether a line holds numbers only, and the numbers
abbrev pub numeric : List ℕ → Bool
numeric l = all_numbers (words l)

abbrev pub numbers : List ℕ → List ℤ
numbers l = map number_in (words l)

-- ---- texts

-- line i, counted from 0
abbrev pub line_of : List ℕ → ℕ → List ℕ
line_of t i = get_or (lines t) i []

-- three lines of numbers: two in the first, any count in the second, also none, eight in the third
unfoldable pub is_asked : List ℕ → List ℕ → List ℕ → Bool
is_asked a b c = (numeric a && eqb (length (numbers a)) 2) && (numeric b && (numeric c && eqb (length (numbers c)) 8))

-- a text of that kind: at most 4,096 bytes, exactly three lines, and these as above
unfoldable pub well_formed : List ℕ → Bool
well_formed t = leb (length t) text_most && (eqb (length (lines t)) 3 && is_asked (line_of t 0) (line_of t 1) (line_of t 2))

-- what it asks for: q and M, the steps, and X
abbrev pub settings_in : List ℕ → Settings
settings_in l = record { q = «at» (numbers l) 0; m = «at» (numbers l) 1 }
