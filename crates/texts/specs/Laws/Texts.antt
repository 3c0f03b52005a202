-- The three lines of a text, as they are found one after the other.
use Rattle.std.specs.Prelude.{◌≡◌, refl, true, false, cond, leb, Some, None, get_or, take, drop}
use Rattle.std.proofs.Math.Path.{sym, ap, ap₂}
use Rattle.std.proofs.Common.{◌∙◌, arith, drop_of_length-le}
use Rattle.std.proofs.Math.Bool.{Bool, ◌&&◌, and-false, and_assoc}
use mathlib.Core.List.{List, [], ◌∷◌}
use Prim.Native.Nat.{ℕ, ◌+◌, ◌-◌, ◌<◌, ◌≤◌}
use borrow.Author.Tests.{leb-true, le-leb, lt-leb, eqb-true, eq-eqb, ne_eqb}
use Rattle.std.proofs.Math.Dec.{eqb}
use Rattle.std.proofs.Math.ListN.{length}
use Rattle.integers.specs.Laws.Tests.{and-true}
use Rattle.texts.specs.Answers.{piece_length, ThreeLines, asked_told, text_told}
use Rattle.texts.specs.Laws.Pieces.{pieces-short, pieces-next, pieces-some, pieces-last}
use Rattle.texts.specs.Laws.Words.{numbers-few}
use Rattle.texts.specs.Text.{text_most, newline, pieces, lines, numeric, numbers, line_of, is_asked, settings_in, well_formed}

module _ (t : List ℕ) where
  -- a text that is too long, or has not three lines
  pub too_long : text_most < length t → (leb (length t) text_most && eqb (length (lines t)) 3) ≡ false
  too_long h = ap (λ (b : Bool). b && eqb (length (lines t)) 3) (lt-leb (length t) text_most h)

  not_three : (length (lines t) ≡ 3 → ⊥) → (leb (length t) text_most && eqb (length (lines t)) 3) ≡ false
  not_three h = ap (λ (b : Bool). leb (length t) text_most && b) (ne_eqb (length (lines t)) 3 h) ∙ and-false (leb (length t) text_most)

  -- the first line ends at a
  module _ (a : ℕ) (first : a ≡ 0 + piece_length newline (drop 0 t)) where
    pub one_line : length t ≤ a → (leb (length t) text_most && eqb (length (lines t)) 3) ≡ false
    one_line h = not_three (λ e. omega (arith, pieces-last newline t 0 a first (omega arith)))

    -- the second at b
    module _ (b : ℕ) (second : b ≡ a + 1 + piece_length newline (drop (a + 1) t)) (more : a < length t) where
      first-line : lines t ≡ take a t ∷ pieces newline (drop (a + 1) t)
      first-line = let e : a - 0 ≡ a = omega arith in pieces-next newline t 0 a first (omega arith) ∙ ap (λ (k : ℕ). take k t ∷ pieces newline (drop (a + 1) t)) e

      pub two-lines : length t ≤ b + 1 → (leb (length t) text_most && eqb (length (lines t)) 3) ≡ false
      two-lines h = not_three (λ e. omega (arith, ap length first-line, pieces-last newline t (a + 1) b second h))

      -- the third at c
      module _ (c : ℕ) (third : c ≡ b + 1 + piece_length newline (drop (b + 1) t)) (again : b + 1 < length t) where
        all_lines : lines t ≡ take a t ∷ take (b - (a + 1)) (drop (a + 1) t) ∷ take (c - (b + 1)) (drop (b + 1) t) ∷ pieces newline (drop (c + 1) t)
        all_lines =
            first-line ∙ ap (λ (l : List (List ℕ)). take a t ∷ l) (pieces-next newline t (a + 1) b second (omega arith)
            ∙ ap (λ (l : List (List ℕ)). take (b - (a + 1)) (drop (a + 1) t) ∷ l) (pieces-next newline t (b + 1) c third again))

        -- a fourth line, even an empty one
        pub four-lines : c + 1 < length t → (leb (length t) text_most && eqb (length (lines t)) 3) ≡ false
        four-lines h = not_three (λ e. omega (arith, ap length all_lines, pieces-some newline t (c + 1) (c + 1 + piece_length newline (drop (c + 1) t)) refl h))

        -- or none
        pub three-lines : length t ≤ text_most → c ≤ length t → length t ≤ c + 1 → ThreeLines t a b c
        three-lines few end h = record {
          few = few;
          second = omega arith;
          third = omega arith;
          end = end;
          are = all_lines ∙ ap (λ (r : List ℕ). take a t ∷ take (b - (a + 1)) (drop (a + 1) t) ∷ take (c - (b + 1)) (drop (b + 1) t) ∷ pieces newline r) (drop_of_length-le t {i = c + 1} h);
        }

  -- ---- whether it is well formed

  pub not-formed : (leb (length t) text_most && eqb (length (lines t)) 3) ≡ false → well_formed t ≡ false
  unfolding well_formed
  not-formed e = let asked : Bool = is_asked (line_of t 0) (line_of t 1) (line_of t 2) in sym (and_assoc (leb (length t) text_most) (eqb (length (lines t)) 3) asked) ∙ ap (λ (b : Bool). b && asked) e

  module _ (a b c : ℕ) (h : ThreeLines t a b c) where
    abbrev pub first : List ℕ
    first = take a t

    abbrev pub second : List ℕ
    second = take (b - (a + 1)) (drop (a + 1) t)

    abbrev pub third : List ℕ
    third = take (c - (b + 1)) (drop (b + 1) t)

    pub line-is : (i : ℕ) → line_of t i ≡ get_or (first ∷ second ∷ third ∷ []) i []
    line-is i = ap (λ (l : List (List ℕ)). get_or l i []) h.are

    -- that is decided by its three lines
    pub formed-is : well_formed t ≡ is_asked first second third
    unfolding well_formed
    formed-is =
        ap₂ ◌&&◌ (le-leb (length t) text_most h.few)
        (ap₂ ◌&&◌ (eq-eqb (length (lines t)) 3 (ap length h.are)) (ap (λ (l : List (List ℕ)). is_asked (get_or l 0 []) (get_or l 1 []) (get_or l 2 [])) h.are))

    pub told_is : asked_told first second third ≡ text_told t
    told_is =
        ap₂ (λ (w : Bool) (n : ℕ). cond w (Some (settings_in first, n)) None) (sym formed-is) (ap (λ (l : List ℕ). length (numbers l)) (sym (line-is 1)))
        ∙ ap (λ (l : List ℕ). cond (well_formed t) (Some (settings_in l, length (numbers (line_of t 1)))) None) (sym (line-is 0))

  -- what it says that it is
  pub formed-counts : well_formed t ≡ true → (length (numbers (line_of t 1)) ≤ 2048) × (length (numbers (line_of t 2)) ≡ 8)
  unfolding well_formed is_asked
  formed-counts e =
      let a : List ℕ = line_of t 0 in let b : List ℕ = line_of t 1 in let c : List ℕ = line_of t 2 in let eight : Bool = eqb (length (numbers c)) 8 in let two : Bool = numeric a && eqb (length (numbers a)) 2 in
      let asked : Bool = two && (numeric b && (numeric c && eight)) in
      let f = and-true (leb (length t) text_most) (eqb (length (lines t)) 3 && asked) e in let g = and-true (eqb (length (lines t)) 3) asked f.1 in
      let p = and-true two (numeric b && (numeric c && eight)) g.1 in let q = and-true (numeric b) (numeric c && eight) p.1 in let r = and-true (numeric c) eight q.1 in (
        omega (arith, numbers-few b, pieces-short newline t 1, leb-true (length t) text_most f.0),
        eqb-true (length (numbers c)) 8 r.1,
      )
