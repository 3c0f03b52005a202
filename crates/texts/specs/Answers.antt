-- What each function of the reader answers, part by part of a text.
use Rattle.std.specs.Prelude.{◌≡◌, Bool, true, false, ◌&&◌, cond, List, [], ◌∷◌, ℕ, suc, ◌+◌, ◌-◌, ◌^◌, ◌<◌, ◌≤◌, min, eqb, leb, ℤ, pos, neg_ℤ, Option, Some, None, length, take, drop}
use Rattle.refusals.specs.declared.settings.Settings.{Settings}
use Rattle.texts.specs.Text.{text_most, all_digits, value_after, size_most, is_number, number_in, numeric, numbers, lines, line_of, is_asked, well_formed, settings_in}

-- how long the first piece of a text is
abbrev pub piece_length : ℕ → List ℕ → ℕ
piece_length mark [] = 0
piece_length mark (b ∷ t) = cond (eqb b mark) 0 (suc (piece_length mark t))

-- a cap past every number: thousands of digits do no harm
abbrev pub cap : ℕ
cap = 2 ^ 32

-- digits that follow others of the value v
abbrev pub size_after : ℕ → List ℕ → Option ℕ
size_after v l = cond (all_digits l) (Some (min (value_after v l) cap)) None

abbrev pub size_of : List ℕ → Option ℕ
size_of l = cond (leb 1 (length l)) (size_after 0 l) None

-- a number of that size, after a minus or without one
abbrev pub signed : Bool → Option ℕ → Option ℤ
signed true (Some v) = cond (leb v (size_most true)) (Some (neg_ℤ (pos v))) None
signed false (Some v) = cond (leb v (size_most false)) (Some (pos v)) None
signed true None = None
signed false None = None

-- a word
abbrev pub number_told : List ℕ → Option ℤ
number_told w = cond (is_number w) (Some (number_in w)) None

-- how many numbers a line has
abbrev pub counted : List ℕ → Option ℕ
counted l = cond (numeric l) (Some (length (numbers l))) None

-- a first line
abbrev pub pair_told : List ℕ → Option Settings
pair_told l = cond (numeric l && eqb (length (numbers l)) 2) (Some (settings_in l)) None

-- three lines, which end at the places a, b and c
pub record ThreeLines (t : List ℕ) (a b c : ℕ) : Type 0 where
  pub few : length t ≤ text_most
  pub second : a < b
  pub third : b < c
  pub end : c ≤ length t
  pub are : lines t ≡ take a t ∷ take (b - (a + 1)) (drop (a + 1) t) ∷ take (c - (b + 1)) (drop (b + 1) t) ∷ []

abbrev pub LinesFound : List ℕ → Option (ℕ × ℕ × ℕ) → Type 0
LinesFound t (Some (a, b, c)) = ThreeLines t a b c
LinesFound t None = (leb (length t) text_most && eqb (length (lines t)) 3) ≡ false

-- three lines in all
abbrev pub asked_told : List ℕ → List ℕ → List ℕ → Option (Settings × ℕ)
asked_told a b c = cond (is_asked a b c) (Some (settings_in a, length (numbers b))) None

-- a text
abbrev pub text_told : List ℕ → Option (Settings × ℕ)
text_told t = cond (well_formed t) (Some (settings_in (line_of t 0), length (numbers (line_of t 1)))) None
