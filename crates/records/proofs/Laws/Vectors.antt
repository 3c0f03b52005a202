-- What a walk over readings has found, and what it says that all of them were readings.
use Rattle.readings.specs.declared.Fault.TheVariants as fault
use Rattle.readings.specs.Taking.{Measured}
use Rattle.std.specs.Result.{is_ok}
use Rattle.std.specs.Prelude.{◌≡◌, refl, false, List, [], ◌∷◌, ◌++◌, map, ℕ, zero, suc, ◌+◌, ◌<◌, ℤ, length, get_or, take, drop, set, Ok, Err}
use Rattle.std.proofs.Common.{sym, ◌∙◌, ap, ap₂, append-nil, add-one, arith, length-append, take-append-drop, drop-drop, drop-set-lt, take-suc-set}
use Rattle.std.proofs.Math.Seq.{append_snoc}
use Rattle.refusals.specs.declared.Refusal.{Refusal}
use Rattle.refusals.specs.declared.Refusal.TheVariants.{Missing, OutOfRange}
use Rattle.refusals.specs.Laws.Verdicts.{refused-never}
use Rattle.refusals.specs.Verdicts.{Verdict}
use Rattle.records.specs.Vectors.{refused_at, check_readings, units_taken}

-- a reading that is one, and then the rest
module _ (i : ℕ) (r : Measured) (l : List Measured) where
  pub reading-taken : (X : ℤ) → r ≡ Ok X → (check_readings i (r ∷ l) ≡ check_readings (suc i) l) × (units_taken (r ∷ l) ≡ X ∷ units_taken l)
  reading-taken X e = rw e (refl, refl)

  -- or none, and nothing of the rest
  pub reading-missing : r ≡ Err fault.Missing → (check_readings i (r ∷ l) ≡ Err (Missing i)) × (units_taken (r ∷ l) ≡ [])
  reading-missing e = rw e (refl, refl)

  pub reading-beyond : r ≡ Err fault.OutOfRange → (check_readings i (r ∷ l) ≡ Err (OutOfRange i)) × (units_taken (r ∷ l) ≡ [])
  reading-beyond e = rw e (refl, refl)

  pub reading-none : is_ok r ≡ false → units_taken (r ∷ l) ≡ []
  reading-none e = go r e
    where
      go : (r : Measured) → is_ok r ≡ false → units_taken (r ∷ l) ≡ []
      go (Ok X) e = cc
      go (Err fault.Missing) e = refl
      go (Err fault.OutOfRange) e = refl

-- the refusal of one reading with the index i, if it is none
abbrev pub refusal_of : ℕ → Measured → Verdict
refusal_of i (Ok X) = Ok tt
refusal_of i (Err f) = Err (refused_at f i)

pub reading-refused : (i : ℕ) (r : Measured) (l : List Measured) → is_ok r ≡ false → check_readings i (r ∷ l) ≡ refusal_of i r
reading-refused i (Ok X) l e = cc
reading-refused i (Err fault.Missing) l e = refl
reading-refused i (Err fault.OutOfRange) l e = refl

-- each of the first n readings is one
abbrev pub AllUnits : ℕ → List Measured → Measured → Type 0
AllUnits n l d = (j : ℕ) → j < n → (X : ℤ) × (get_or l j d ≡ Ok X)

-- a reading r that is none and is refused by name: the first is refused by its index, whatever follows it
module _ (r : Measured) (name : ℕ → Refusal) (none : (p : ℕ) (l : List Measured) → check_readings p (r ∷ l) ≡ Err (name p)) where
  first-none : (p i : ℕ) (l : List Measured) (d : Measured) → i < length l → AllUnits i l d → get_or l i d ≡ r → check_readings p l ≡ Err (name (p + i))
  first-none p i [] d h before e = absurd (omega arith)
  first-none p zero (x ∷ l) d h before e = let z : p ≡ p + 0 = omega arith in ap (λ (x : Measured). check_readings p (x ∷ l)) e ∙ none p l ∙ ap (λ (j : ℕ). Err (name j)) z
  first-none p (suc i) (x ∷ l) d h before e = let s : suc p + i ≡ p + suc i = omega arith in let k = before 0 (omega arith) in
      (reading-taken p x l k.0 k.1).0 ∙ first-none (suc p) i l d (omega arith) (λ j m. before (suc j) (omega arith)) e ∙ ap (λ (j : ℕ). Err (name j)) s

-- by 4 where it is missing, by 5 where it is out of range
module _ (i : ℕ) (l : List Measured) (d : Measured) (within : i < length l) (before : AllUnits i l d) where
  here : 0 + i ≡ i
  here = omega arith

  pub first-missing : get_or l i d ≡ Err fault.Missing → check_readings 0 l ≡ Err (Missing i)
  first-missing e = first-none (Err fault.Missing) Missing (λ p l. refl) 0 i l d within before e ∙ ap (λ (j : ℕ). Err (Missing j)) here

  pub first-beyond : get_or l i d ≡ Err fault.OutOfRange → check_readings 0 l ≡ Err (OutOfRange i)
  first-beyond e = first-none (Err fault.OutOfRange) OutOfRange (λ p l. refl) 0 i l d within before e ∙ ap (λ (j : ℕ). Err (OutOfRange j)) here

-- where nothing is refused every reading is taken
pub readings-all : (i : ℕ) (l : List Measured) → check_readings i l ≡ Ok tt → l ≡ map Ok (units_taken l)
readings-all i [] e = refl
readings-all i (Ok X ∷ l) e = ap (λ (t : List Measured). Ok X ∷ t) (readings-all (suc i) l e)
readings-all i (Err fault.Missing ∷ l) e = refused-never e
readings-all i (Err fault.OutOfRange ∷ l) e = refused-never e

-- a walk that writes the units to the front of x, which held o: after i turns they stand there, and the rest is as found
pub record Taking (l : List Measured) (o : List ℤ) (i : ℕ) (rest : List Measured) (x : List ℤ) : Type 0 where
  pub verdict : check_readings 0 l ≡ check_readings i rest
  pub units : units_taken l ≡ take i x ++ units_taken rest
  pub front : length (take i x) ≡ i
  pub found : drop i x ≡ drop i o

module _ (l : List Measured) (o : List ℤ) (i : ℕ) (x : List ℤ) where
  pub taking-next : (r : Measured) (rest : List Measured) (X : ℤ) → r ≡ Ok X → i < length x → Taking l o i (r ∷ rest) x → Taking l o (i + 1) rest (set x i X)
  taking-next r rest X e h t =
      let k = reading-taken i r rest X e in let more : take (suc i) (set x i X) ≡ take i x ++ (X ∷ []) = take-suc-set x i X h in
      rw (add-one i) (record {
        verdict = t.verdict ∙ k.0;
        units = t.units ∙ ap (λ (u : List ℤ). take i x ++ u) k.1 ∙ sym (append_snoc (take i x) X (units_taken rest)) ∙ ap (λ (u : List ℤ). u ++ units_taken rest) (sym more);
        front = ap length more ∙ simp length-append (omega (arith, t.front));
        found = drop-set-lt (suc i) x i X (omega arith) ∙ later i x o t.found;
      })
    where
      later : (i : ℕ) (a b : List ℤ) → drop i a ≡ drop i b → drop (suc i) a ≡ drop (suc i) b
      later i a b p = let e : i + 1 ≡ suc i = omega arith in let split : (c : List ℤ) → drop 1 (drop i c) ≡ drop (suc i) c = λ c. drop-drop 1 i c ∙ ap (λ (j : ℕ). drop j c) e in sym (split a) ∙ ap (drop 1) p ∙ split b

  -- where nothing more is taken
  pub taking-done : (rest : List Measured) → units_taken rest ≡ [] → Taking l o i rest x → x ≡ units_taken l ++ drop (length (units_taken l)) o
  taking-done rest e t =
      let all : units_taken l ≡ take i x = t.units ∙ ap (λ (u : List ℤ). take i x ++ u) e ∙ append-nil (take i x) in
      sym (take-append-drop i x) ∙ ap₂ ◌++◌ (sym all) (t.found ∙ ap (λ (j : ℕ). drop j o) (sym (ap length all ∙ t.front)))
