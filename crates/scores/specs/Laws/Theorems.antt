-- What scores say: an accepted one is the exact inner product of what the records decode to, and small; a null is refused by its place.
use Rattle.readings.specs.declared.Fault.TheVariants as fault
use Rattle.readings.specs.Taking.{Measured}
use Rattle.std.specs.Result.{result_unwrap_or}
use Rattle.std.specs.Prelude.{◌≡◌, true, ◌*ℤ◌, get_or, drop, Ok, Err}
use Rattle.std.proofs.Math.Path.{sym, ap, subst}
use Rattle.std.proofs.Common.{◌∙◌, mul-le-mul}
use mathlib.Core.List.{List, [], ◌∷◌, map}
use Prim.Native.Nat.{ℕ, ◌+◌, ◌*◌, ◌/◌, ◌^◌, ◌<◌, ◌≤◌}
use native.Mathlib.Omega.{arith}
use Rattle.std.specs.Float.{binary32}
use Rattle.std.specs.Float.Ieee.{nan_bits}
use Rattle.std.proofs.Math.IntN.{ℤ, pos, nat_abs}
use Rattle.std.proofs.Math.ListN.{length}
use Rattle.std.proofs.lemmas.List.{length-map}
use Rattle.integers.specs.Laws.Difference.{ints, by_d₂}
use Rattle.integers.specs.Laws.Signed.{*ℤ-assoc}
use Rattle.integers.specs.Laws.Sums.{dot-scale, dot-scale-r, sized-part}
use Rattle.integers.specs.Vectors.{scale_v, dot, Sized}
use Rattle.lattice.specs.Doubled.{E8}
use Rattle.layers.specs.Digits.{joined}
use Rattle.readings.specs.Words.{word_at, measure_at}
use Rattle.layers.specs.Code.{Code, size_of, eight_of}
use Rattle.records.specs.Codes.{IsBlock, block_size, blocks_in, code_blocks, step_of, whole_point}
use Rattle.records.specs.Laws.Frames.{blocks-whole}
use Rattle.records.specs.Frames.{Whole}
use Rattle.records.proofs.Laws.Hours.{Sound, fvecs-count, fvecs-reading, word-missing}
use Rattle.records.specs.Laws.Parts.{cut-long, cut_at}
use Rattle.records.proofs.Laws.Vectors.{AllUnits, first-missing, first-beyond}
use Rattle.records.specs.Vectors.{Hour, fvecs_hour, units_taken, blocks_of, in_blocks}
use Rattle.refusals.specs.declared.settings.Settings.{Settings}
use Rattle.refusals.specs.declared.Refusal.TheVariants.{Missing, OutOfRange}
use Rattle.refusals.specs.Answers.{valued}
use Rattle.refusals.specs.Limits.{blocks_most}
use Rattle.refusals.specs.Settings.{check_settings}
use Rattle.refusals.specs.Steps.{check_steps}
use Rattle.refusals.specs.Verdicts.{first_refusal, Verdict}
use Rattle.scores.specs.Laws.Asked.{taken-block, exact-blocks, hour-last}
use Rattle.scores.specs.Laws.Inner.{inner-four}
use Rattle.scores.specs.Laws.Pair.{PairTaken, pair-taken}
use Rattle.scores.specs.Laws.Query.{QueryTaken, query-refused, query-taken}
use Rattle.scores.specs.Laws.Sizes.{query_part, pair_part, width-most, point-in, block_query-small, block_pair-small}
use Rattle.scores.specs.Laws.Totals.{total-small, total-times, total_ext, total-dot, joined-parts}
use Rattle.scores.specs.Scores.{total, inner, block_pair, block_query, pair_total, query_total, check_pair, check_query, pair_score, query_score}

-- what a code record decodes to, in units of 1/2048: s·e for each coordinate of each block
abbrev pub numerators : Code → List ℤ → List ℕ → List ℤ
numerators C steps b = joined (map (λ (x : List ℕ). scale_v (step_of steps x) (whole_point C x)) (code_blocks C b))

-- ---- one block

module _ (C : Code) (steps steps' : List ℤ) where
  query-block : (X : List ℤ) (b : List ℕ) → block_query C steps X b ≡ dot X (scale_v (step_of steps b) (whole_point C b))
  unfolding block_query
  query-block X b = sym (dot-scale-r (step_of steps b) X (whole_point C b))

  four-step : (k x : ℤ) → pos 4 *ℤ (k *ℤ x) ≡ k *ℤ (pos 4 *ℤ x)
  four-step = by_d₂ _ λ _ _ _ _. simp ints (omega arith)

  pair-block : (b b' : List ℕ) → E8 (whole_point C b) → E8 (whole_point C b') → pos 4 *ℤ block_pair C steps steps' b b' ≡ (step_of steps b *ℤ step_of steps' b') *ℤ dot (whole_point C b) (whole_point C b')
  unfolding block_pair
  pair-block b b' h k = let st : ℤ = step_of steps b *ℤ step_of steps' b' in let e : List ℤ = whole_point C b in let f : List ℤ = whole_point C b' in
      four-step st (inner e f) ∙ ap (λ (z : ℤ). st *ℤ z) (inner-four e f h k)

scaled : (s t : ℤ) (e f : List ℤ) → (s *ℤ t) *ℤ dot e f ≡ dot (scale_v s e) (scale_v t f)
scaled s t e f = *ℤ-assoc s t (dot e f) ∙ ap (λ (z : ℤ). s *ℤ z) (sym (dot-scale-r t e f)) ∙ sym (dot-scale s e (scale_v t f))

-- ---- accepted scores

module _ (c : Settings) where
  abbrev C : Code
  C = eight_of c

  abbrev size : ℕ
  size = size_of C

  abbrev m : ℕ
  m = nat_abs c.m

  -- a query

  module _ (steps : List ℤ) (h : Hour) (b : List ℕ) (sound : Sound size h) (ok : check_query C c steps h b ≡ Ok tt) where
    abbrev X : List ℤ
    X = units_taken h.readings

    abbrev coded : List (List ℕ)
    coded = code_blocks C b

    abbrev score : ℤ
    score = result_unwrap_or (query_score C c steps h b) (pos 0)

    score-is : score ≡ query_total C steps X b
    unfolding query_score
    score-is = ap (λ (v : Verdict). result_unwrap_or (valued v (query_total C steps X b)) (pos 0)) ok

    taken : QueryTaken C c steps h b
    taken = query-taken C c steps h b sound ok

    whole : Whole 8 1 blocks_most (length X)
    whole = blocks-whole 8 1 blocks_most (length X) taken.hour.units.whole

    -- as many blocks of readings as coded ones
    same_count : length X / 8 ≡ blocks_in C b
    same_count = ap (λ (n : ℕ). n / 8) taken.hour.long ∙ sym (exact-blocks C (blocks_of size h) b taken.code.frame)

    module _ (i : ℕ) (within : i < length X / 8) where
      part-is : Sized 8 (2 ^ 24) (get_or (in_blocks size X) i [])
      part-is = let all : Sized (8 * (length X / 8)) (2 ^ 24) X = record { long = whole.times; small = taken.hour.units.small } in
          subst (Sized 8 (2 ^ 24)) (sym (cut_at 8 (length X / 8) i X within)) (sized-part 8 (length X / 8) (2 ^ 24) X all i within)

      block-is : IsBlock (length steps) C (get_or coded i [])
      block-is = taken-block (length steps) C (blocks_of size h) (blocks_of size h) b taken.code i (omega (arith, same_count))

    -- the score is the inner product of the readings X and what the record decodes to
    pub query-exact : score ≡ dot X (numerators C steps b)
    unfolding query_total
    query-exact =
        let f : List ℕ → List ℤ = λ x. scale_v (step_of steps x) (whole_point C x) in let n : length (in_blocks size X) ≡ length X / 8 = cut-long 8 (length X / 8) X in
        score-is
        ∙ total_ext (block_query C steps) (λ Y x. dot Y (f x)) (in_blocks size X) coded [] [] (λ i j k. query-block C steps steps (get_or (in_blocks size X) i []) (get_or coded i []))
        ∙ total-dot (λ (Y : List ℤ). Y) f (in_blocks size X) coded [] [] (n ∙ same_count ∙ sym (cut-long (block_size C) (blocks_in C b) (drop 4 b)))
        (λ i j. let k : i < length X / 8 = omega arith in
        (part-is i k).long ∙ sym (length-map (whole_point C (get_or coded i [])) _ ∙ (point-in c.q m steps taken.hour.taken.coder (get_or coded i []) (block-is i k)).long))
        ∙ ap (λ (Y : List ℤ). dot Y (numerators C steps b)) (joined-parts 8 (length X / 8) X whole.times)

    -- it is at most K·1024·8·2^24·2W in magnitude
    pub query-small : nat_abs score ≤ blocks_of size h * query_part c.q m
    unfolding query_total
    query-small =
        let n : length (in_blocks size X) ≡ length X / 8 = cut-long 8 (length X / 8) X in let K : length (in_blocks size X) ≡ blocks_of size h = n ∙ ap (λ (n : ℕ). n / 8) taken.hour.long in
        rw (score-is, ← K) (total-small (block_query C steps) (query_part c.q m) (in_blocks size X) coded [] []
        (λ i j. let k : i < length X / 8 = omega arith in block_query-small c.q m steps taken.hour.taken.coder (get_or coded i []) (block-is i k) (get_or (in_blocks size X) i []) (part-is i k)))

    -- so it fits 64 bits
    pub query-fits : nat_abs score < 2 ^ 63
    query-fits =
        let few : blocks_of size h ≤ 64 = omega (arith, ap (λ (n : ℕ). n / 8) taken.hour.long, whole.few) in let w = width-most c.q m steps taken.hour.taken.coder in
        let part : query_part c.q m ≤ 2 ^ 51 = omega (arith, w) in omega (arith, query-small, mul-le-mul few part)

  -- a pair

  module _ (steps : List ℤ) (b : List ℕ) (steps' : List ℤ) (b' : List ℕ) (ok : check_pair C c steps b steps' b' ≡ Ok tt) where
    abbrev first : List (List ℕ)
    first = code_blocks C b

    abbrev second : List (List ℕ)
    second = code_blocks C b'

    abbrev pair : ℤ
    pair = result_unwrap_or (pair_score C c steps b steps' b') (pos 0)

    pair-value : pair ≡ pair_total C steps steps' b b'
    unfolding pair_score
    pair-value = ap (λ (v : Verdict). result_unwrap_or (valued v (pair_total C steps steps' b b')) (pos 0)) ok

    both : PairTaken C c steps b steps' b'
    both = pair-taken C c steps b steps' b' ok

    same_blocks : blocks_in C b' ≡ blocks_in C b
    same_blocks = exact-blocks C (blocks_in C b) b' both.other.frame

    module _ (i : ℕ) (within : i < blocks_in C b) where
      first_block : IsBlock (length steps) C (get_or first i [])
      first_block = taken-block (length steps) C 1 blocks_most b both.code i within

      second_block : IsBlock (length steps') C (get_or second i [])
      second_block = taken-block (length steps') C (blocks_in C b) (blocks_in C b) b' both.other i (omega (arith, same_blocks))

      first-in : E8 (whole_point C (get_or first i []))
      first-in = point-in c.q m steps both.first.coder (get_or first i []) first_block

      second-in : E8 (whole_point C (get_or second i []))
      second-in = point-in c.q m steps' both.second.coder (get_or second i []) second_block

    -- four times the score is the total of s·t·Σ e_i·f_i
    pub pair-four : pos 4 *ℤ pair ≡ total (λ x y. (step_of steps x *ℤ step_of steps' y) *ℤ dot (whole_point C x) (whole_point C y)) first second
    unfolding pair_total
    pair-four =
        ap (λ (z : ℤ). pos 4 *ℤ z) pair-value ∙ total-times (block_pair C steps steps') (pos 4) first second
        ∙ total_ext (λ x y. pos 4 *ℤ block_pair C steps steps' x y) (λ x y. (step_of steps x *ℤ step_of steps' y) *ℤ dot (whole_point C x) (whole_point C y)) first second [] []
        (λ i j k. let l : i < blocks_in C b = omega (arith, cut-long (block_size C) (blocks_in C b) (drop 4 b)) in
        pair-block C steps steps' (get_or first i []) (get_or second i []) (first-in i l) (second-in i l))

    -- which is the inner product of what the records decode to, in units of 1/2048 squared
    pub pair-exact : pos 4 *ℤ pair ≡ dot (numerators C steps b) (numerators C steps' b')
    pair-exact =
        let f : List ℕ → List ℤ = λ x. scale_v (step_of steps x) (whole_point C x) in let g : List ℕ → List ℤ = λ x. scale_v (step_of steps' x) (whole_point C x) in
        let n : length first ≡ blocks_in C b = cut-long (block_size C) (blocks_in C b) (drop 4 b) in
        pair-four
        ∙ total_ext (λ x y. (step_of steps x *ℤ step_of steps' y) *ℤ dot (whole_point C x) (whole_point C y)) (λ x y. dot (f x) (g y)) first second [] []
        (λ i j k. let x : List ℕ = get_or first i [] in let y : List ℕ = get_or second i [] in scaled (step_of steps x) (step_of steps' y) (whole_point C x) (whole_point C y))
        ∙ total-dot f g first second [] [] (n ∙ sym same_blocks ∙ sym (cut-long (block_size C) (blocks_in C b') (drop 4 b')))
        (λ i j. let k : i < blocks_in C b = omega arith in
        length-map (whole_point C (get_or first i [])) _ ∙ (first-in i k).long ∙ sym (length-map (whole_point C (get_or second i [])) _ ∙ (second-in i k).long))

    -- it is at most K·1024²·8·W² in magnitude
    pub pair_small : nat_abs pair ≤ blocks_in C b * pair_part c.q m
    unfolding pair_total
    pair_small = let n : length first ≡ blocks_in C b = cut-long (block_size C) (blocks_in C b) (drop 4 b) in
        subst (λ (k : ℕ). nat_abs pair ≤ k * pair_part c.q m) n (rw pair-value (total-small (block_pair C steps steps') (pair_part c.q m) first second [] []
        (λ i j. let k : i < blocks_in C b = omega arith in
        block_pair-small c.q m steps steps' both.first.coder both.second.coder (get_or first i []) (get_or second i []) (first_block i k) (second_block i k))))

    -- so it fits 64 bits
    pub pair_fits : nat_abs pair < 2 ^ 63
    pair_fits = let w = width-most c.q m steps both.first.coder in let part : pair_part c.q m ≤ 2 ^ 49 = omega (arith, mul-le-mul w w) in
        omega (arith, pair_small, mul-le-mul both.code.frame.whole.few part)

-- ---- refusals of a query

module _ (C : Code) (c : Settings) (steps : List ℤ) (h : Hour) (b : List ℕ) (asked : first_refusal (check_settings c ∷ check_steps 0 steps ∷ h.frame ∷ []) ≡ Ok tt)
    (i : ℕ) (d : Measured) (within : i < length h.readings) (before : AllUnits i h.readings d) where
  -- the first reading that is missing is named by 4, whatever the record is
  pub null-refused : get_or h.readings i d ≡ Err fault.Missing → check_query C c steps h b ≡ Err (Missing i)
  null-refused e = query-refused C c steps h b (Missing i) (hour-last c steps h asked ∙ first-missing i h.readings d within before e)

  -- and the first that is out of range by 5
  pub beyond-refused : get_or h.readings i d ≡ Err fault.OutOfRange → check_query C c steps h b ≡ Err (OutOfRange i)
  beyond-refused e = query-refused C c steps h b (OutOfRange i) (hour-last c steps h asked ∙ first-beyond i h.readings d within before e)

-- so the first NaN of an fvecs record is named by 4
pub nan-refused : (C : Code) (c : Settings) (steps : List ℤ) (r b : List ℕ) (i : ℕ) → first_refusal (check_settings c ∷ check_steps 0 steps ∷ (fvecs_hour (size_of C) r).frame ∷ []) ≡ Ok tt → i < word_at r 0
    → ((j : ℕ) → j < i → (X : ℤ) × (measure_at r (4 + 4 * j) ≡ Ok X)) → nan_bits binary32 (word_at r (4 + 4 * i)) ≡ true → check_query C c steps (fvecs_hour (size_of C) r) b ≡ Err (Missing i)
nan-refused C c steps r b i asked h before e = let d : Measured = Err fault.Missing in
    null-refused C c steps (fvecs_hour (size_of C) r) b asked i d (omega (arith, fvecs-count (size_of C) r)) (λ j k. ((before j k).0, fvecs-reading (size_of C) r j d (omega arith) ∙ (before j k).1)) (fvecs-reading (size_of C) r i d h ∙ word-missing r i e)
