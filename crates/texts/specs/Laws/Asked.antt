-- What the answers of the reader say of its lines, and what three of them ask for.
use Rattle.std.specs.Prelude.{◌≡◌, Bool, true, false, cond, List, ℕ, Some, None, eqb, length}
use Rattle.std.proofs.Common.{sym, ◌∙◌, arith, eq-eqb, ne_eqb}
use Rattle.std.proofs.Math.Path.{ap, ap₂}
use Rattle.std.proofs.Math.Bool.{◌&&◌, and-false}
use Rattle.refusals.specs.declared.settings.Settings.{Settings}
use Rattle.texts.specs.Answers.{counted, pair_told, asked_told, text_told}
use Rattle.texts.specs.Laws.Choices.{chosen, passed}
use Rattle.texts.specs.Text.{numeric, numbers, settings_in, line_of, is_asked, well_formed}

module _ (l : List ℕ) where
  -- a line that holds numbers only, or another
  pub counted-numbers : (n : ℕ) → counted l ≡ Some n → (numeric l ≡ true) × (length (numbers l) ≡ n)
  counted-numbers n e = let t = chosen _ _ _ (numeric l) e (λ k. let z : ◌≡◌ {A = ℕ} 0 1 = cc in omega arith) in (t.0, cc t.1)

  pub counted-other : counted l ≡ None → numeric l ≡ false
  counted-other e = passed _ _ _ (numeric l) e (λ k. let z : ◌≡◌ {A = ℕ} 0 1 = cc in omega arith)

  -- a first line
  abbrev two : Bool
  two = numeric l && eqb (length (numbers l)) 2

  pub pair-not : two ≡ false → pair_told l ≡ None
  pair-not e = ap (λ (b : Bool). cond b (Some (settings_in l)) None) e

  pub pair_is : two ≡ true → pair_told l ≡ Some (settings_in l)
  pair_is e = ap (λ (b : Bool). cond b (Some (settings_in l)) None) e

  pub pair-two : (c : Settings) → pair_told l ≡ Some c → (two ≡ true) × (settings_in l ≡ c)
  pair-two c e = let t = chosen _ _ _ two e (λ k. let z : ◌≡◌ {A = ℕ} 0 1 = cc in omega arith) in (t.0, cc t.1)

  pub pair-other : pair_told l ≡ None → two ≡ false
  pair-other e = passed _ _ _ two e (λ k. let z : ◌≡◌ {A = ℕ} 0 1 = cc in omega arith)

module _ (a b c : List ℕ) where
  abbrev test : Bool → Bool → Bool → Bool → Bool
  test p q r s = p && (q && (r && s))

  -- what it says that three lines are not of the kind
  pub asked-not : {A : Type 0} → is_asked a b c ≡ false → (None ≡ asked_told a b c) × (is_asked a b c ≡ true → A)
  asked-not e = (
    sym (ap (λ (t : Bool). cond t (Some (settings_in a, length (numbers b))) None) e),
    λ k. let f : true ≡ false = sym k ∙ e in let z : ◌≡◌ {A = ℕ} 0 1 = cc in absurd (omega arith),
  )

  -- the first is not, the second, the third
  pub first-not : two a ≡ false → is_asked a b c ≡ false
  unfolding is_asked
  first-not e = ap (λ (p : Bool). test p (numeric b) (numeric c) (eqb (length (numbers c)) 8)) e

  pub second-not : numeric b ≡ false → is_asked a b c ≡ false
  unfolding is_asked
  second-not e = ap (λ (q : Bool). test (two a) q (numeric c) (eqb (length (numbers c)) 8)) e ∙ and-false (two a)

  pub third-not : numeric c ≡ false → is_asked a b c ≡ false
  unfolding is_asked
  third-not e = ap (λ (r : Bool). test (two a) (numeric b) r (eqb (length (numbers c)) 8)) e ∙ ap (λ (t : Bool). two a && t) (and-false (numeric b)) ∙ and-false (two a)

  pub eight-not : (length (numbers c) ≡ 8 → ⊥) → is_asked a b c ≡ false
  unfolding is_asked
  eight-not h =
      ap (test (two a) (numeric b) (numeric c)) (ne_eqb (length (numbers c)) 8 h)
      ∙ ap (λ (t : Bool). two a && (numeric b && t)) (and-false (numeric c)) ∙ ap (λ (t : Bool). two a && t) (and-false (numeric b)) ∙ and-false (two a)

  -- or that they are
  pub asked_is : two a ≡ true → numeric b ≡ true → numeric c ≡ true → length (numbers c) ≡ 8 → is_asked a b c ≡ true
  unfolding is_asked
  asked_is p q r h = ap₂ (λ (p q : Bool). test p q (numeric c) (eqb (length (numbers c)) 8)) p q ∙ ap₂ ◌&&◌ r (eq-eqb (length (numbers c)) 8 h)

-- what the answer to a text says of it
module _ (t : List ℕ) where
  pub told-block : (c : Settings) (n : ℕ) → text_told t ≡ Some (c, n) → (well_formed t ≡ true) × (settings_in (line_of t 0) ≡ c) × (length (numbers (line_of t 1)) ≡ n)
  told-block c n e =
      let b = chosen _ _ _ (well_formed t) e (λ k. let z : ◌≡◌ {A = ℕ} 0 1 = cc in omega arith) in
      let p : ◌≡◌ {A = Settings × ℕ} (settings_in (line_of t 0), length (numbers (line_of t 1))) (c, n) = cc b.1 in (b.0, ap (λ p. p.0) p, ap (λ p. p.1) p)

  pub told-malformed : text_told t ≡ None → well_formed t ≡ false
  told-malformed e = passed _ _ _ (well_formed t) e (λ k. let z : ◌≡◌ {A = ℕ} 0 1 = cc in omega arith)
