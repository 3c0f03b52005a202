-- What it says of an hour, in either form, that its count and all its readings were taken.
use Rattle.readings.specs.declared.Fault.TheVariants as fault
use Rattle.std.specs.Prelude.{◌≡◌, refl, true, List, [], ◌∷◌, map, ℕ, zero, suc, ◌+◌, ◌*◌, ◌<◌, ℤ, length, get_or, Ok, Err}
use Rattle.std.proofs.Common.{sym, ◌∙◌, ap, arith}
use Rattle.std.specs.Float.{binary32}
use Rattle.std.specs.Float.Ieee.{of_bits, nan_bits}
use Rattle.std.specs.Float.Ieee.Bits.{nan_bits_is}
use Rattle.std.proofs.lemmas.List.{length-map}
use Rattle.integers.specs.Laws.Loops.{range-long, range_at}
use Rattle.integers.specs.Vectors.{Bounded, range}
use Rattle.readings.proofs.Laws.Taking.{units-in-range, units-same, float-in-range, float-missing}
use Rattle.readings.specs.Taking.{units_most, measure_units, InRange, Measured}
use Rattle.readings.specs.Words.{word_at, measure_at}
use Rattle.refusals.specs.declared.Refusal.TheVariants.{Size, Record}
use Rattle.refusals.specs.Laws.Verdicts.{refused-never, unless-accepted}
use Rattle.refusals.specs.Limits.{blocks_most}
use Rattle.records.specs.Frames.{whole_blocks}
use Rattle.records.specs.Laws.Frames.{record-whole}
use Rattle.records.proofs.Laws.Vectors.{readings-all}
use Rattle.records.specs.Vectors.{Hour, units_hour, fvecs_hour, check_readings, units_taken}

-- every reading that there is is in range
abbrev pub Ranged : List Measured → Type 0
Ranged [] = Unit {0}
Ranged (r ∷ l) = InRange r × Ranged l

map-ranged : {A : Type 0} (f : A → Measured) → ((a : A) → InRange (f a)) → (l : List A) → Ranged (map f l)
map-ranged f h [] = tt
map-ranged f h (a ∷ l) = (h a, map-ranged f h l)

pub units_small : (l : List Measured) → Ranged l → Bounded units_most (units_taken l)
units_small [] h i = omega arith
units_small (Ok X ∷ l) h zero = h.0
units_small (Ok X ∷ l) h (suc i) = units_small l h.1 i
units_small (Err fault.Missing ∷ l) h i = omega arith
units_small (Err fault.OutOfRange ∷ l) h i = omega arith

-- either form of an hour: its count is allowed where its frame is, and its readings are in range
pub record Sound (n : ℕ) (h : Hour) : Type 0 where
  pub counted : h.frame ≡ Ok tt → whole_blocks n 1 blocks_most (length h.readings) ≡ true
  pub ranged : Ranged h.readings

pub units-sound : (n : ℕ) (x : List ℤ) → Sound n (units_hour n x)
units-sound n x = record {
  counted = λ e. ap (whole_blocks n 1 blocks_most) (length-map x measure_units) ∙ unless-accepted _ (Size 0) e;
  ranged = map-ranged measure_units units-in-range x;
}

pub fvecs-count : (n : ℕ) (b : List ℕ) → length (fvecs_hour n b).readings ≡ word_at b 0
fvecs-count n b = length-map (range 0 (word_at b 0)) (λ (i : ℕ). measure_at b (4 + 4 * i)) ∙ range-long 0 (word_at b 0)

-- its reading i is the pattern in that place
pub fvecs-reading : (n : ℕ) (b : List ℕ) (i : ℕ) (d : Measured) → i < word_at b 0 → get_or (fvecs_hour n b).readings i d ≡ measure_at b (4 + 4 * i)
fvecs-reading n b i d h = let f : ℕ → Measured = λ j. measure_at b (4 + 4 * j) in let z : 0 + i ≡ i = omega arith in range_at f 0 (word_at b 0) i d h ∙ ap f z

pub fvecs-sound : (n : ℕ) (b : List ℕ) → Sound n (fvecs_hour n b)
fvecs-sound n b = record {
  counted = λ e. ap (whole_blocks n 1 blocks_most) (fvecs-count n b) ∙ record-whole 4 n 1 blocks_most b (unless-accepted _ (Record 0) e);
  ranged = map-ranged (λ (i : ℕ). measure_at b (4 + 4 * i)) (λ i. float-in-range (of_bits binary32 (word_at b (4 + 4 * i)))) (range 0 (word_at b 0));
}

-- where no reading is refused X has one for each
pub taken-all : (l : List Measured) → check_readings 0 l ≡ Ok tt → length (units_taken l) ≡ length l
taken-all l e = sym (length-map (units_taken l) Ok) ∙ ap length (sym (readings-all 0 l e))

-- and whole units are X themselves
pub units-taken : (i : ℕ) (x : List ℤ) → check_readings i (map measure_units x) ≡ Ok tt → units_taken (map measure_units x) ≡ x
units-taken i [] e = refl
units-taken i (z ∷ x) e = go (measure_units z) refl e (units-taken (suc i) x)
  where
    go : (r : Measured) → measure_units z ≡ r → check_readings i (r ∷ map measure_units x) ≡ Ok tt → (check_readings (suc i) (map measure_units x) ≡ Ok tt → units_taken (map measure_units x) ≡ x)
        → units_taken (r ∷ map measure_units x) ≡ z ∷ x
    go (Ok Y) m e rest = let y : Y ≡ z = sym (units-same z Y m) in cons y (rest e)
      where
        cons : {x y : ℤ} {a b : List ℤ} → x ≡ y → a ≡ b → x ∷ a ≡ y ∷ b
        cons p q = cc
    go (Err fault.Missing) m e rest = refused-never e
    go (Err fault.OutOfRange) m e rest = refused-never e

-- every NaN pattern of an fvecs record is a missing reading
pub word-missing : (b : List ℕ) (i : ℕ) → nan_bits binary32 (word_at b (4 + 4 * i)) ≡ true → measure_at b (4 + 4 * i) ≡ Err fault.Missing
word-missing b i e = float-missing _ (sym (nan_bits_is binary32 (word_at b (4 + 4 * i))) ∙ e)
