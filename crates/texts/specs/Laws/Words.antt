-- What a walk over the words of a line has read: the numbers so far stand in front of the room, and the words that are left decide the rest.
use Rattle.std.specs.Prelude.{◌≡◌, refl, Bool, true, false, ◌&&◌, cond, List, [], ◌∷◌, ◌++◌, map, ℕ, zero, suc, ◌+◌, ◌*◌, ◌-◌, ◌<◌, ◌≤◌, ℤ, Some, None, length, take, drop, set}
use Rattle.std.proofs.Common.{sym, ◌∙◌, ap, append-nil, append_assoc, arith, length-append, length-take, length-drop, drop_of_length-le}
use Rattle.std.proofs.Math.Decide.{dec_le}
use Rattle.std.proofs.lemmas.List.{length-map}
use Rattle.std.proofs.lemmas.List.Edits.{sets}
use Rattle.texts.specs.Answers.{piece_length, number_told, counted}
use Rattle.texts.specs.Laws.Choices.{chosen, passed}
use Rattle.texts.specs.Laws.Pieces.{piece-within, pieces-next, full-empty, full-next}
use Rattle.texts.specs.Laws.Rooms.{sets_more}
use Rattle.texts.specs.Text.{space, pieces, full, words, is_number, number_in, all_numbers, numeric, numbers}

-- what the answer to a word says of it
module _ (w : List ℕ) where
  pub told-whole : (z : ℤ) → number_told w ≡ Some z → (is_number w ≡ true) × (number_in w ≡ z)
  told-whole z e = let t = chosen _ _ _ (is_number w) e (λ k. let n : ◌≡◌ {A = ℕ} 0 1 = cc in omega arith) in (t.0, cc t.1)

  pub told_none : number_told w ≡ None → is_number w ≡ false
  told_none e = passed _ _ _ (is_number w) e (λ k. let n : ◌≡◌ {A = ℕ} 0 1 = cc in omega arith)

-- the words from the place i on
abbrev pub words_from : List ℕ → ℕ → List (List ℕ)
words_from line i = full (pieces space (drop i line))

-- up to the place i there were n numbers, `so`
pub record Reading (line : List ℕ) (o : List ℤ) (i n : ℕ) (x : List ℤ) : Type 0 where
  pub so : List ℤ
  pub long : length so ≡ n
  pub room : x ≡ sets o 0 so
  pub verdict : numeric line ≡ all_numbers (words_from line i)
  pub are : numbers line ≡ so ++ map number_in (words_from line i)

pub reading-start : (line : List ℕ) (o : List ℤ) → Reading line o 0 0 o
reading-start line o = record { so = []; long = refl; room = refl; verdict = refl; are = refl }

module _ (line : List ℕ) (o : List ℤ) (i n : ℕ) (x : List ℤ) (r : Reading line o i n x) where
  -- the piece from i on ends at e
  module _ (e : ℕ) (ends : e ≡ i + piece_length space (drop i line)) (within : i < length line) where
    abbrev w : List ℕ
    w = take (e - i) (drop i line)

    opened : words_from line i ≡ full (w ∷ pieces space (drop (e + 1) line))
    opened = ap full (pieces-next space line i e ends within)

    -- it is empty
    pub reading-space : e ≡ i → Reading line o (i + 1) n x
    reading-space h =
        let none : length w ≡ 0 = simp (length-take, length-drop) (omega arith) in let next : e + 1 ≡ i + 1 = omega arith in
        let same : words_from line i ≡ words_from line (i + 1) = opened ∙ full-empty w (pieces space (drop (e + 1) line)) none ∙ ap (words_from line) next in
        record { so = r.so; long = r.long; room = r.room; verdict = r.verdict ∙ ap all_numbers same; are = r.are ∙ ap (λ (l : List (List ℕ)). r.so ++ map number_in l) same }

    -- it is a word
    module _ (some : i < e) (most : e ≤ length line) where
      pub word_some : 1 ≤ length w
      word_some = simp (length-take, length-drop) (omega arith)

      next_word : words_from line i ≡ w ∷ words_from line (e + 1)
      next_word = opened ∙ full-next w (pieces space (drop (e + 1) line)) word_some

      -- and a number
      pub reading-number : (z : ℤ) → number_told w ≡ Some z → Reading line o (e + 1) (n + 1) (set x n z)
      reading-number z h = let t = told-whole w z h in record {
        so = r.so ++ (z ∷ []);
        long = simp length-append (omega (arith, r.long));
        room = ap (λ (x : List ℤ). set x n z) r.room ∙ sets_more o r.so 0 n z (omega (arith, r.long));
        verdict = r.verdict ∙ ap all_numbers next_word ∙ ap (λ (b : Bool). b && all_numbers (words_from line (e + 1))) t.0;
        are = r.are ∙ ap (λ (l : List (List ℕ)). r.so ++ map number_in l) next_word ∙ ap (λ (y : ℤ). r.so ++ (y ∷ map number_in (words_from line (e + 1)))) t.1
            ∙ sym (append_assoc r.so (z ∷ []) (map number_in (words_from line (e + 1))));
      }

      -- or none
      not-numeric : number_told w ≡ None → numeric line ≡ false
      not-numeric h = r.verdict ∙ ap all_numbers next_word ∙ ap (λ (b : Bool). b && all_numbers (words_from line (e + 1))) (told_none w h)

      pub reading-none : {A : Type 0} → number_told w ≡ None → (counted line ≡ None) × (numeric line ≡ true → A)
      reading-none h = (
        ap (λ (b : Bool). cond b (Some (length (numbers line))) None) (not-numeric h),
        λ k. let f : true ≡ false = sym k ∙ not-numeric h in let z : ◌≡◌ {A = ℕ} 0 1 = cc in absurd (omega arith),
      )

  -- nothing is left
  module _ (done : length line ≤ i) where
    none_left : words_from line i ≡ []
    none_left = ap (λ (l : List ℕ). full (pieces space l)) (drop_of_length-le line {i = i} done)

    -- nor further on
    pub reading-past : Reading line o (i + 1) n x
    reading-past = let same : words_from line i ≡ words_from line (i + 1) = none_left ∙ sym (ap (λ (l : List ℕ). full (pieces space l)) (drop_of_length-le line {i = i + 1} (omega arith))) in
        record { so = r.so; long = r.long; room = r.room; verdict = r.verdict ∙ ap all_numbers same; are = r.are ∙ ap (λ (l : List (List ℕ)). r.so ++ map number_in l) same }

    all_read : numbers line ≡ r.so
    all_read = r.are ∙ ap (λ (l : List (List ℕ)). r.so ++ map number_in l) none_left ∙ append-nil r.so

    pub reading-done : (counted line ≡ Some n) × (x ≡ sets o 0 (numbers line))
    reading-done = (
      ap (λ (b : Bool). cond b (Some (length (numbers line))) None) (r.verdict ∙ ap all_numbers none_left) ∙ ap Some (ap length all_read ∙ r.long),
      r.room ∙ ap (sets o 0) (sym all_read),
    )

-- a number takes a byte, and a space before the next: a line of n bytes has at most half of n + 1
module _ (line : List ℕ) where
  none_from : (i : ℕ) → length line ≤ i → 2 * length (words_from line i) ≤ length line + 1 - i
  none_from i h = omega (arith, ap (λ (l : List ℕ). length (full (pieces space l))) (drop_of_length-le line {i = i} h))

  next-from : (i : ℕ) → i < length line → ((j : ℕ) → i < j → 2 * length (words_from line j) ≤ length line + 1 - j) → 2 * length (words_from line i) ≤ length line + 1 - i
  next-from i h later =
      let e : ℕ = i + piece_length space (drop i line) in let most : e ≤ length line = piece-within space line i (omega arith) in
      let w : List ℕ = take (e - i) (drop i line) in let rest : List (List ℕ) = pieces space (drop (e + 1) line) in
      let opened : words_from line i ≡ full (w ∷ rest) = ap full (pieces-next space line i e refl h) in let below = later (e + 1) (omega arith) in
      elim (dec_le e i) [
        | yes l ↦ omega (arith, ap length (opened ∙ full-empty w rest (simp (length-take, length-drop) (omega arith))), below)
        | no l ↦ omega (arith, ap length (opened ∙ full-next w rest (simp (length-take, length-drop) (omega arith))), below)
      ]

  few-from : (k i : ℕ) → length line ≤ k + i → 2 * length (words_from line i) ≤ length line + 1 - i
  few-from zero i h = none_from i (omega arith)
  few-from (suc k) i h = elim (dec_le (length line) i) [
    | yes m ↦ none_from i m
    | no m ↦ next-from i (omega arith) (λ j g. few-from k j (omega arith))
  ]

  pub numbers-few : 2 * length (numbers line) ≤ length line + 1
  numbers-few = omega (arith, few-from (length line) 0 (omega arith), length-map (words line) number_in)
