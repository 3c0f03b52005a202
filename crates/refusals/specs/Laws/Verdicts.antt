-- Laws of verdicts and of the order of checks.
use Rattle.std.specs.Prelude.{◌≡◌, refl, Bool, true, false, List, [], ◌∷◌, ◌++◌, ℕ, Ok, Err}
use Rattle.std.proofs.Common.{◌∙◌, ap, arith}
use Rattle.refusals.specs.declared.Refusal.{Refusal}
use Rattle.refusals.specs.Answers.{valued}
use Rattle.refusals.specs.Verdicts.{unless, first_refusal, Verdict}

-- a refusal is no acceptance
pub refused-never {ℓ} : {r : Refusal} {A : Type ℓ} → ◌≡◌ {A = Verdict} (Err r) (Ok tt) → A
refused-never e = let z : ◌≡◌ {A = ℕ} 0 1 = cc in absurd (omega arith)

-- a check accepts where its test holds
pub unless-accepted : (b : Bool) (r : Refusal) → unless b r ≡ Ok tt → b ≡ true
unless-accepted true r e = refl
unless-accepted false r e = refused-never e

-- a list of checks accepts where each does
pub first-accepted : (v : Verdict) (l : List Verdict) → first_refusal (v ∷ l) ≡ Ok tt → (v ≡ Ok tt) × (first_refusal l ≡ Ok tt)
first-accepted (Ok u) l e = (refl, e)
first-accepted (Err r) l e = refused-never e

-- each of a list of checks accepts
abbrev pub Accepting : List Verdict → Type 0
Accepting [] = Unit {0}
Accepting (v ∷ l) = (v ≡ Ok tt) × Accepting l

-- then so does the list
pub first-all : (l : List Verdict) → Accepting l → first_refusal l ≡ Ok tt
first-all [] h = refl
first-all (v ∷ l) h = ap (λ (v : Verdict). first_refusal (v ∷ l)) h.0 ∙ first-all l h.1

-- the last check of a list is its verdict
pub first-last : (v : Verdict) → first_refusal (v ∷ []) ≡ v
first-last (Ok u) = refl
first-last (Err r) = refl

-- checks that stand first may be made together, as one
pub first-append : (a b : List Verdict) → first_refusal (a ++ b) ≡ first_refusal (first_refusal a ∷ b)
first-append [] b = refl
first-append (Ok u ∷ a) b = first-append a b
first-append (Err r ∷ a) b = refl

-- checks that stand together may be made as one
pub first_group : (a b c : List Verdict) → first_refusal (a ++ (b ++ c)) ≡ first_refusal (a ++ (first_refusal b ∷ c))
first_group [] b c = first-append b c
first_group (Ok u ∷ a) b c = first_group a b c
first_group (Err r ∷ a) b c = refl

-- the answer of a refusal is that refusal, whatever follows
pub valued-err : {A : Type 0} {v : Verdict} {r : Refusal} (z : A) → v ≡ Err r → valued v z ≡ Err r
valued-err z e = ap (λ (v : Verdict). valued v z) e

-- and of an acceptance its value
pub valued-ok : {A : Type 0} {v : Verdict} (z : A) → v ≡ Ok tt → valued v z ≡ Ok z
valued-ok z e = ap (λ (v : Verdict). valued v z) e

-- the first check of a list refuses, or leaves it to the others
pub first-err : {v : Verdict} {r : Refusal} (l : List Verdict) → v ≡ Err r → first_refusal (v ∷ l) ≡ Err r
first-err l e = ap (λ (v : Verdict). first_refusal (v ∷ l)) e

pub first-ok : {v : Verdict} (l : List Verdict) → v ≡ Ok tt → first_refusal (v ∷ l) ≡ first_refusal l
first-ok l e = ap (λ (v : Verdict). first_refusal (v ∷ l)) e
