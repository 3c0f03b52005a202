-- A line is walked part by part, as a split at spaces gives them: what is read of the parts so far.
use Rattle.std.specs.Prelude.{◌≡◌, refl, Bool, true, false, cond, List, [], ◌∷◌, ℕ, zero, suc, ◌+◌, ◌*◌, ◌-◌, ◌<◌, ◌≤◌, ℤ, Some, None, eqb, length, get_or, take, drop, set}
use Rattle.std.proofs.Common.{sym, ◌∙◌, ap, ap₂, add-one, arith, length-take, length-drop, drop-cons, drop_of_length-le}
use Rattle.std.proofs.Math.Decide.{dec_le}
use Rattle.std.proofs.lemmas.List.Edits.{sets}
use Rattle.std.specs.List.{slice_split, onto_first}
use Rattle.texts.specs.Answers.{piece_length, number_told, counted}
use Rattle.texts.specs.Laws.Pieces.{piece-within}
use Rattle.texts.specs.Laws.Words.{Reading, reading-space, reading-number, reading-none, reading-done, reading-past}
use Rattle.texts.specs.Text.{space, numeric, numbers}

-- the parts of a text: its pieces, and an empty one after a last space
abbrev pub parts : List ℕ → List (List ℕ)
parts t = slice_split (λ b. eqb b space) t

-- those from the place i on; past the end there is none
abbrev pub parts_from : List ℕ → ℕ → List (List ℕ)
parts_from t zero = parts t
parts_from [] (suc i) = []
parts_from (b ∷ t) (suc i) = parts_from t i

-- the first is the first piece; a space ends it, or the text
parts-first : (t : List ℕ) → parts t ≡ take (piece_length space t) t ∷ parts_from t (suc (piece_length space t))
parts-first [] = refl
parts-first (b ∷ t) = go (eqb b space) (parts-first t)
  where
    go : (e : Bool) → parts t ≡ take (piece_length space t) t ∷ parts_from t (suc (piece_length space t))
        → cond e ([] ∷ parts t) (onto_first b (parts t)) ≡ take (cond e 0 (suc (piece_length space t))) (b ∷ t) ∷ parts_from (b ∷ t) (suc (cond e 0 (suc (piece_length space t))))
    go true h = refl
    go false h = ap (onto_first b) h

parts-at : (t : List ℕ) (i j k : ℕ) → i ≤ length t → k ≡ i + j → parts_from (drop i t) j ≡ parts_from t k
parts-at t zero j k h e = ap (parts_from t) (omega (arith, e))
parts-at [] (suc i) j k h e = absurd (omega arith)
parts-at (b ∷ t) (suc i) j zero h e = absurd (omega arith)
parts-at (b ∷ t) (suc i) j (suc k) h e = parts-at t i j k (omega arith) (omega arith)

parts-past : (t : List ℕ) (i : ℕ) → length t < i → parts_from t i ≡ []
parts-past t zero h = absurd (omega arith)
parts-past [] (suc i) h = refl
parts-past (b ∷ t) (suc i) h = parts-past t i (omega arith)

-- those from i on begin with the piece from i on
parts-next : (t : List ℕ) (i : ℕ) → i ≤ length t → parts_from t i ≡ take (piece_length space (drop i t)) (drop i t) ∷ parts_from t (i + piece_length space (drop i t) + 1)
parts-next t i h = let n : ℕ = piece_length space (drop i t) in
    sym (parts-at t i 0 i h (omega arith)) ∙ parts-first (drop i t) ∙ ap (λ (l : List (List ℕ)). take n (drop i t) ∷ l) (parts-at t i (suc n) (i + n + 1) h (omega arith))

-- of the first k parts n were numbers, which stand in front of the room; at some place the next part begins
pub record Walk (line : List ℕ) (o : List ℤ) (k n : ℕ) (x : List ℤ) : Type 0 where
  pub place : ℕ
  pub few : 2 * n ≤ place
  pub read : Reading line o place n x
  pub left : drop k (parts line) ≡ parts_from line place

module _ (line : List ℕ) (o : List ℤ) (k n : ℕ) (x : List ℤ) (r : Walk line o k n x) where
  -- the next part is w
  module _ (w : List ℕ) (within : k < length (parts line)) (is : w ≡ get_or (parts line) k w) where
    abbrev i : ℕ
    i = r.place

    abbrev e : ℕ
    e = i + piece_length space (drop i line)

    opened : parts_from line i ≡ w ∷ drop (k + 1) (parts line)
    opened = sym r.left ∙ drop-cons (parts line) k w within ∙ ap₂ (λ (w : List ℕ) (j : ℕ). w ∷ drop j (parts line)) (sym is) (sym (add-one k))

    inside : i ≤ length line
    inside = elim (dec_le i (length line)) [
      | yes h ↦ h
      | no h ↦ absurd (omega (arith, ap length (sym (parts-past line i (omega arith)) ∙ opened)))
    ]

    same : w ∷ drop (k + 1) (parts line) ≡ take (e - i) (drop i line) ∷ parts_from line (e + 1)
    same = let n : piece_length space (drop i line) ≡ e - i = omega arith in sym opened ∙ parts-next line i inside ∙ ap (λ (n : ℕ). take n (drop i line) ∷ parts_from line (e + 1)) n

    word : w ≡ take (e - i) (drop i line)
    word = cc same

    after : drop (k + 1) (parts line) ≡ parts_from line (e + 1)
    after = cc same

    most : e ≤ length line
    most = piece-within space line i inside

    -- it is empty
    pub walk-empty : length w ≡ 0 → Walk line o (k + 1) n x
    walk-empty h =
        let here : e ≡ i = omega (arith, h, most, ap length word, length-take (e - i) (drop i line), length-drop i line) in let next : e + 1 ≡ i + 1 = omega arith in record {
          place = i + 1;
          few = omega (arith, r.few);
          read = elim (dec_le (length line) i) [
            | yes p ↦ reading-past line o i n x r.read p
            | no p ↦ reading-space line o i n x r.read e refl (omega arith) here
          ];
          left = after ∙ ap (parts_from line) next;
        }

    -- it is a word
    module _ (some : 1 ≤ length w) where
      longer : i < e
      longer = omega (arith, ap length word, length-take (e - i) (drop i line), length-drop i line)

      -- there is room for its number
      pub walk-room : 2 * n < length line
      walk-room = omega (arith, r.few, longer, most)

      pub walk-number : (z : ℤ) → number_told w ≡ Some z → Walk line o (k + 1) (n + 1) (set x n z)
      walk-number z h = record {
        place = e + 1;
        few = omega (arith, r.few, longer);
        read = reading-number line o i n x r.read e refl (omega (arith, longer, most)) longer most z (ap number_told (sym word) ∙ h);
        left = after;
      }

      pub walk-none : {A : Type 0} → number_told w ≡ None → (counted line ≡ None) × (numeric line ≡ true → A)
      walk-none h = reading-none line o i n x r.read e refl (omega (arith, longer, most)) longer most (ap number_told (sym word) ∙ h)

  -- nothing is left
  pub walk-done : length (parts line) ≤ k → (counted line ≡ Some n) × (x ≡ sets o 0 (numbers line))
  walk-done h = reading-done line o r.place n x r.read (elim (dec_le (length line) r.place) [
    | yes p ↦ p
    | no p ↦ absurd (omega (arith, ap length (sym (parts-next line r.place (omega arith)) ∙ sym r.left ∙ drop_of_length-le (parts line) {i = k} h)))
  ])
