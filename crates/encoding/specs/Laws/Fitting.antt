-- Which blocks are refused: the first that no listed step fits, and none where each has one (01, When the unit says no).
use Rattle.refusals.specs.Verdicts.{Verdict}
use Rattle.std.specs.Prelude.{◌≡◌, refl, true, false, ◌↔◌, ◌⊎◌, List, [], ◌∷◌, ℕ, zero, suc, ◌+◌, ◌<◌, ◌≤◌, ℤ, length, get_or, Ok, Err}
use Rattle.std.proofs.Common.{sym, ◌∙◌, ap, subst, inl, inr, arith}
use Rattle.std.proofs.lemmas.Bool.{false≢true}
use Rattle.std.proofs.Math.Decide.{dec_le}
use Rattle.integers.specs.Vectors.{«at»}
use Rattle.blocks.specs.Laws.Fitting.{none_before, fitting-iff}
use Rattle.blocks.specs.Trials.{fits, first_fitting}
use Rattle.refusals.specs.declared.Refusal.{Refusal}
use Rattle.refusals.specs.declared.Refusal.TheVariants.{Overload}
use Rattle.refusals.specs.Laws.Verdicts.{refused-never}
use Rattle.layers.specs.Code.{Code}
use Rattle.encoding.specs.Encode.{check_fits}
use Rattle.encoding.specs.Laws.Encode.{fits_next, fits-none}

module _ (C : Code) (steps : List ℤ) where
  -- some listed step fits a block
  abbrev pub Fitted : List ℤ → Type 0
  Fitted X = (j : ℕ) × (j < length steps) × (fits C.lattice C.rule C.q C.m («at» steps j) X ≡ true)

  -- every listed step overloads it
  abbrev pub Overloaded : List ℤ → Type 0
  Overloaded X = (j : ℕ) → j < length steps → fits C.lattice C.rule C.q C.m («at» steps j) X ≡ false

  -- each of the first n blocks has a step that fits it
  abbrev pub AllFitted : ℕ → List (List ℤ) → Type 0
  AllFitted n l = (i : ℕ) → i < n → Fitted (get_or l i [])

-- block k is the first that every listed step overloads
pub record FirstOverload (C : Code) (steps : List ℤ) (l : List (List ℤ)) (k : ℕ) : Type 0 where
  pub within : k < length l
  pub none : Overloaded C steps (get_or l k [])
  pub before : AllFitted C steps k l

module _ (C : Code) (steps : List ℤ) where
  -- what a verdict on blocks says, the first in the place p
  abbrev Judged : ℕ → List (List ℤ) → Verdict → Type 0
  Judged p l v = ((v ≡ Ok tt) × AllFitted C steps (length l) l) ⊎ ((k : ℕ) × (v ≡ Err (Overload (p + k))) × FirstOverload C steps l k)

  fitted-more : (X : List ℤ) (l : List (List ℤ)) (n : ℕ) → Fitted C steps X → AllFitted C steps n l → AllFitted C steps (suc n) (X ∷ l)
  fitted-more X l n f h zero k = f
  fitted-more X l n f h (suc i) k = h i (omega arith)

  judged-later : (p : ℕ) (X : List ℤ) (l : List (List ℤ)) (v : Verdict) → Fitted C steps X → Judged (suc p) l v → Judged p (X ∷ l) v
  judged-later p X l v f (inl h) = inl (h.0, fitted-more X l (length l) f h.1)
  judged-later p X l v f (inr h) = let k : ℕ = h.0 in let e : suc p + k ≡ p + suc k = omega arith in
      inr (suc k, h.1 ∙ ap (λ (j : ℕ). Err (Overload j)) e, record { within = omega (arith, h.2.within); none = h.2.none; before = fitted-more X l k f h.2.before })

  fits-judged : (p : ℕ) (l : List (List ℤ)) → Judged p l (check_fits C steps p l)
  fits-judged p [] = inl (refl, λ i h. absurd (omega arith))
  fits-judged p (X ∷ l) = go (fits-judged (suc p) l) (dec_le (length steps) (first_fitting C.lattice C.rule C.q C.m steps X))
    where
      go : Judged (suc p) l (check_fits C steps (suc p) l) → Dec (length steps ≤ first_fitting C.lattice C.rule C.q C.m steps X) → Judged p (X ∷ l) (check_fits C steps p (X ∷ l))
      go rest (yes h) = let z : p ≡ p + 0 = omega arith in
          inr (
            0,
            fits-none C steps p X l h ∙ ap (λ (j : ℕ). Err (Overload j)) z,
            record { within = omega arith; none = λ j k. none_before C.lattice C.rule C.q C.m X steps j (omega arith); before = λ i k. absurd (omega arith) },
          )
      go rest (no h) = let k : first_fitting C.lattice C.rule C.q C.m steps X < length steps = omega arith in
          subst (Judged p (X ∷ l)) (sym (fits_next C steps p X l k)) (judged-later p X l (check_fits C steps (suc p) l) ((fitting-iff C.lattice C.rule C.q C.m X steps).0 k) rest)

  never_both : {A : Type 0} (X : List ℤ) → Fitted C steps X → Overloaded C steps X → A
  never_both X f o = absurd (false≢true (sym (o f.0 f.1) ∙ f.2))

  first-least : (l : List (List ℤ)) (a b : ℕ) → FirstOverload C steps l a → FirstOverload C steps l b → a ≤ b
  first-least l a b h k = elim (dec_le a b) [
    | yes c ↦ c
    | no c ↦ never_both (get_or l b []) (h.before b (omega arith)) k.none
  ]

  -- blocks are accepted exactly where every one has a listed step that fits it
  pub accepted-iff : (p : ℕ) (l : List (List ℤ)) → (check_fits C steps p l ≡ Ok tt) ↔ AllFitted C steps (length l) l
  accepted-iff p l = (λ e. to e (fits-judged p l), λ h. from h (fits-judged p l))
    where
      to : check_fits C steps p l ≡ Ok tt → Judged p l (check_fits C steps p l) → AllFitted C steps (length l) l
      to e (inl h) = h.1
      to e (inr h) = refused-never (sym h.1 ∙ e)

      from : AllFitted C steps (length l) l → Judged p l (check_fits C steps p l) → check_fits C steps p l ≡ Ok tt
      from f (inl h) = h.0
      from f (inr h) = never_both (get_or l h.0 []) (f h.0 h.2.within) h.2.none

  -- a refusal is always 6, at the first block that no listed step fits
  pub refused-overload : (p : ℕ) (l : List (List ℤ)) (r : Refusal) → check_fits C steps p l ≡ Err r → (k : ℕ) × (r ≡ Overload (p + k)) × FirstOverload C steps l k
  refused-overload p l r e = go (fits-judged p l)
    where
      go : Judged p l (check_fits C steps p l) → (k : ℕ) × (r ≡ Overload (p + k)) × FirstOverload C steps l k
      go (inl h) = refused-never (sym e ∙ h.0)
      go (inr h) = (h.0, cc (e, h.1), h.2)

  -- block k is named exactly where it is the first that no listed step fits
  pub overload-first : (l : List (List ℤ)) (k : ℕ) → (check_fits C steps 0 l ≡ Err (Overload k)) ↔ FirstOverload C steps l k
  overload-first l k = (λ e. to (refused-overload 0 l (Overload k) e), λ h. from h (fits-judged 0 l))
    where
      to : (j : ℕ) × (Overload k ≡ Overload (0 + j)) × FirstOverload C steps l j → FirstOverload C steps l k
      to h = let e : k ≡ 0 + h.0 = cc h.1 in let f : h.0 ≡ k = omega arith in subst (FirstOverload C steps l) f h.2

      from : FirstOverload C steps l k → Judged 0 l (check_fits C steps 0 l) → check_fits C steps 0 l ≡ Err (Overload k)
      from h (inl f) = never_both (get_or l k []) (f.1 k h.within) h.none
      from h (inr f) = let a = first-least l k f.0 h f.2 in let b = first-least l f.0 k f.2 h in let e : 0 + f.0 ≡ k = omega arith in
          f.1 ∙ ap (λ (j : ℕ). Err (Overload j)) e
