-- The listed blocks A to J (01, The proved blocks), as whole operations with their whole answers.
use Rattle.std.specs.Prelude.{List, [], ◌∷◌, ◌++◌, map, ℕ, ◌+◌, ℤ, pos, negsuc, length, replicate, Result}
use Rattle.std.specs.Result.{result_unwrap_or}
use Rattle.integers.specs.Vectors.{zeros, scale_v}
use Rattle.refusals.specs.declared.settings.Settings.{Settings}
use Rattle.refusals.specs.declared.Refusal.{Refusal}
use Rattle.refusals.specs.Verdicts.{number_of, place_of}
use Rattle.lattice.specs.Answers.{nearest}
use Rattle.coding.specs.Answers.{decoded}
use Rattle.records.specs.Eight.Vectors.{units_hour}
use Rattle.layers.specs.Code.{eight_of}
use Rattle.encoding.specs.Encode.{encoded, encoded_room}
use Rattle.scores.specs.Eight.Scores.{pair_score}

-- what a row asks for, and what is expected of it: a doubled point, a score, a refusal's number, or a block's bytes
pub data Row : Type 0 where
  nearest-is : (X : List ℤ) (s : ℤ) (e : List ℤ) → Row
  decodes-to : (q m : ℤ) (digits : List ℕ) (e : List ℤ) → Row
  scores-itself : (q m s : ℤ) (block : List ℕ) (score : ℤ) → Row
  refused-with : (q m : ℤ) (steps X : List ℤ) (number : ℕ) → Row
  coded-as : (q m : ℤ) (steps X : List ℤ) (block : List ℕ) → Row

-- an answer in one list: number and place, then the values
abbrev answer : {A : Type 0} → Result A Refusal → List ℤ → List ℤ
answer a l = pos (number_of a) ∷ pos (place_of a) ∷ l

-- a record of one block
abbrev recorded : List ℕ → List ℕ
recorded b = length b ∷ 0 ∷ 0 ∷ 0 ∷ b

-- an hour of one block, encoded into 13 bytes 0: the answer's value, then the room
abbrev encoded_here : Settings → List ℤ → List ℤ → List ℤ
encoded_here c steps X = let a = encoded (eight_of c) c steps (units_hour X) 13 in answer a (result_unwrap_or a (pos 0) ∷ map pos (encoded_room (eight_of c) c steps (units_hour X) (replicate 13 0)))

-- what the operation answers
abbrev pub answered : Row → List ℤ
answered (nearest-is X s e) = let a = nearest (scale_v (pos 2) X) s in answer a (result_unwrap_or a (zeros 8))
answered (decodes-to q m digits e) = let a = decoded (record { q = q; m = m }) digits in answer a (result_unwrap_or a (zeros 8))
answered (scores-itself q m s b z) = let a = pair_score (record { q = q; m = m }) (s ∷ []) (recorded b) (s ∷ []) (recorded b) in answer a (result_unwrap_or a (pos 0) ∷ [])
answered (refused-with q m steps X n) = encoded_here (record { q = q; m = m }) steps X
answered (coded-as q m steps X b) = encoded_here (record { q = q; m = m }) steps X

-- and what it must: number 0 and place 0 with the values, or the refusal, whose room is as found
abbrev pub expected : Row → List ℤ
expected (nearest-is X s e) = pos 0 ∷ pos 0 ∷ e
expected (decodes-to q m digits e) = pos 0 ∷ pos 0 ∷ e
expected (scores-itself q m s b z) = pos 0 ∷ pos 0 ∷ z ∷ []
expected (refused-with q m steps X n) = pos n ∷ pos 0 ∷ pos 0 ∷ zeros 13
expected (coded-as q m steps X b) = pos 0 ∷ pos 0 ∷ pos (4 + length b) ∷ map pos (recorded b)

-- a first and a second entry, then zeros
abbrev two : ℤ → ℤ → List ℤ
two x y = x ∷ y ∷ zeros 6

-- the digits (0,1,0..) of one layer
abbrev second : List ℕ
second = 0 ∷ 1 ∷ replicate 6 0

-- A to J in their order; H and I have two rows each
abbrev pub rows : List Row
rows =
    nearest-is (zeros 8) (pos 1) (zeros 8)
    ∷ nearest-is (two (pos 1) (pos 0)) (pos 1) (zeros 8)
    ∷ nearest-is (two (pos 0) (pos 1)) (pos 1) (two (negsuc 1) (pos 2))
    ∷ nearest-is (two (negsuc 0) (pos 0)) (pos 1) (two (negsuc 3) (pos 0))
    ∷ nearest-is (replicate 8 (pos 1)) (pos 2) (replicate 8 (pos 1))
    ∷ nearest-is (replicate 7 (pos 1) ++ (negsuc 0 ∷ [])) (pos 2) (negsuc 0 ∷ replicate 6 (pos 1) ++ (negsuc 0 ∷ []))
    ∷ decodes-to (pos 2) (pos 1) second (two (pos 2) (negsuc 1))
    ∷ decodes-to (pos 2) (pos 2) (second ++ second) (two (pos 6) (negsuc 5))
    ∷ scores-itself (pos 2) (pos 2) (pos 1) (0 ∷ second ++ second) (pos 18)
    ∷ refused-with (pos 2) (pos 1) (pos 1 ∷ []) (two (pos 0) (pos 1)) 6
    ∷ coded-as (pos 2) (pos 1) (pos 1 ∷ pos 2 ∷ []) (two (pos 0) (pos 1)) (1 ∷ replicate 8 0)
    ∷ coded-as (pos 2) (pos 1) (pos 2 ∷ []) (replicate 8 (pos 1)) (0 ∷ replicate 7 0 ++ (1 ∷ []))
    ∷ []
