-- What it says that a store was taken and not refused; that a good one is not; and which record is named.
use Rattle.std.specs.Prelude.{◌≡◌, Bool, ltb, get_or, take, drop, Ok, Err}
use Rattle.std.proofs.Math.Path.{refl, ap, ap₂, subst}
use Rattle.std.proofs.Common.{sym, ◌∙◌, le_refl, length-take, length-drop, drop-drop}
use Rattle.std.proofs.Math.Bool.{true, false}
use mathlib.Core.List.{List, [], ◌∷◌}
use Prim.Native.Nat.{ℕ, zero, suc, ◌+◌, ◌*◌, ◌-◌, ◌/◌, ◌<◌, ◌≤◌}
use Rattle.std.proofs.Math.Decide.{dec_lt}
use Rattle.std.proofs.Math.Nat.{mul-le-mul, mul-div_right}
use native.Mathlib.Omega.{arith}
use borrow.Author.Tests.{ltb-true, lt-ltb}
use Rattle.std.proofs.Math.ListN.{length}
use Rattle.layers.specs.Digits.{cut}
use Rattle.readings.specs.Words.{word_at}
use Rattle.records.specs.Eight.Codes.{block_size, blocks_in, code_blocks, code_length, check_blocks}
use Rattle.records.specs.Frames.{whole_blocks, good_record, Framed}
use Rattle.records.specs.Eight.Asked.{RecordTaken, blocks-accepted}
use Rattle.records.specs.Laws.Frames.{record-framed, whole-blocks, frame-good}
use Rattle.records.specs.Laws.Parts.{cut-long, cut_at}
use Rattle.refusals.specs.declared.Refusal.{Refusal}
use Rattle.refusals.specs.declared.Refusal.TheVariants.{Record, EmptyStore}
use Rattle.refusals.specs.Laws.Verdicts.{unless-accepted, first-accepted, first-last}
use Rattle.refusals.specs.Verdicts.{unless, first_refusal, Verdict}
use Rattle.scores.specs.Eight.Asked.{code-taken, taken-block, exact-blocks}
use Rattle.scores.specs.Eight.Scores.{check_code}
use Rattle.stores.specs.Laws.Pieces.{count, pieces-hold, pieces_whole}
use Rattle.stores.specs.Stores.{pieces, check_records, check_store, record_at, StoreTaken}

module _ (steps q m K : ℕ) where
  abbrev n : ℕ
  n = code_length m K

  positive : 0 < n
  positive = omega arith

  -- ---- one record

  -- one that was taken is accepted in any place
  pub code-accepted : (place first : ℕ) (b : List ℕ) → RecordTaken steps q m K K b → check_code steps q m K K place first b ≡ Ok tt
  unfolding Rattle.scores.specs.Scores.check_code
  code-accepted place first b h =
      let w = h.frame.whole in
      let whole : whole_blocks (block_size m) K K (word_at b 0) ≡ true = ap (whole_blocks (block_size m) K K) w.times ∙ whole-blocks (block_size m) K K (blocks_in m b) (omega arith) w.some w.few in
      let good : good_record 1 (block_size m) K K b ≡ true = frame-good 1 (block_size m) K K b h.frame.complete whole in
      ap₂ (λ (v w : Verdict). first_refusal (v ∷ w ∷ [])) (ap (λ (t : Bool). unless t (Record place)) good)
      (blocks-accepted steps q m (block_size m) first (code_blocks m b) (λ j k. taken-block steps q m K K b h j (omega (arith, cut-long (block_size m) (blocks_in m b) (drop 4 b)))))

  -- none of its bytes is cut off
  framed-long : (b : List ℕ) → Framed 1 (block_size m) K K b → n ≤ length b
  framed-long b h = let e : word_at b 0 ≡ block_size m * K = h.whole.times ∙ ap (λ (k : ℕ). block_size m * k) (exact-blocks m K b h) in omega (arith, h.complete)

  -- one that is shorter is refused by its place, whatever its bytes are
  short-refused : (place first : ℕ) (b : List ℕ) → length b < n → check_code steps q m K K place first b ≡ Err (Record place)
  unfolding Rattle.scores.specs.Scores.check_code
  short-refused place first b short = go (good_record 1 (block_size m) K K b) (record-framed 1 (block_size m) K K b)
    where
      go : (f : Bool) → (f ≡ true → Framed 1 (block_size m) K K b) → first_refusal (unless f (Record place) ∷ check_blocks steps q (block_size m) first (code_blocks m b) ∷ []) ≡ Err (Record place)
      go true h = absurd (omega (arith, framed-long b (h refl)))
      go false h = refl

  -- ---- records in turn

  -- each of k pieces
  each-record : (k o : ℕ) (f : List ℕ) → check_records steps q m K o (cut n k f) ≡ Ok tt → (j : ℕ) → j < k → RecordTaken steps q m K K (record_at n f j)
  each-record zero o f e = λ j l. absurd (omega arith)
  each-record (suc k) o f e =
      let rest : Verdict = check_records steps q m K (o + n) (cut n k (drop n f)) in let t = first-accepted (check_code steps q m K K o (o + 4) (take n f)) (rest ∷ []) e in
      go (code-taken steps q m K K o (o + 4) (take n f) t.0) (each-record k (o + n) (drop n f) (sym (first-last rest) ∙ t.1))
    where
      go : RecordTaken steps q m K K (take n f) → ((j : ℕ) → j < k → RecordTaken steps q m K K (record_at n (drop n f) j)) → (j : ℕ) → j < suc k → RecordTaken steps q m K K (record_at n f j)
      go here later zero l = let z : 0 ≡ n * 0 = omega arith in subst (λ (a : ℕ). RecordTaken steps q m K K (take n (drop a f))) z here
      go here later (suc j) l = let s : n + n * j ≡ n * suc j = omega arith in
          subst (λ (a : ℕ). RecordTaken steps q m K K (take n (drop a f))) s (subst (λ (g : List ℕ). RecordTaken steps q m K K (take n g)) (drop-drop (n * j) n f) (later j (omega arith)))

  -- where each is good none is refused
  records-accepted : (o : ℕ) (l : List (List ℕ)) → ((j : ℕ) → j < length l → RecordTaken steps q m K K (get_or l j [])) → check_records steps q m K o l ≡ Ok tt
  records-accepted o [] h = refl
  records-accepted o (b ∷ l) h =
      ap₂ (λ (v w : Verdict). first_refusal (v ∷ w ∷ [])) (code-accepted o (o + 4) b (h 0 (omega arith))) (records-accepted (o + n) l (λ j k. h (suc j) (omega arith)))

  -- the first that is refused is the answer, whatever follows it
  records-refused : (r : Refusal) (i o : ℕ) (l : List (List ℕ)) → i < length l → ((j : ℕ) → j < i → RecordTaken steps q m K K (get_or l j []))
      → check_code steps q m K K (o + n * i) (o + n * i + 4) (get_or l i []) ≡ Err r → check_records steps q m K o l ≡ Err r
  records-refused r i o [] h before e = absurd (omega arith)
  records-refused r zero o (b ∷ l) h before e = let z : o ≡ o + n * 0 = omega arith in
      ap (λ (v : Verdict). first_refusal (v ∷ check_records steps q m K (o + n) l ∷ [])) (ap (λ (p : ℕ). check_code steps q m K K p (p + 4) b) z ∙ e)
  records-refused r (suc i) o (b ∷ l) h before e = let s : o + n + n * i ≡ o + n * suc i = omega arith in
      ap₂ (λ (v w : Verdict). first_refusal (v ∷ w ∷ [])) (code-accepted o (o + 4) b (before 0 (omega arith)))
      (records-refused r i (o + n) l (omega arith) (λ j k. before (suc j) (omega arith)) (ap (λ (p : ℕ). check_code steps q m K K p (p + 4) (get_or l i [])) s ∙ e))

  -- ---- a store

  module _ (b : List ℕ) where
    abbrev many : ℕ
    many = count n positive (length b)

    -- where its pieces were taken, the last one is no shorter than the others
    pieces_exact : 0 < length b → ((i : ℕ) → i < many → RecordTaken steps q m K K (record_at n b i)) → length b ≡ n * many
    pieces_exact h each = let hold = pieces-hold n positive (length b) in
        elim (dec_lt 0 many) [
          | yes k ↦ let last : n ≤ length (record_at n b (many - 1)) = framed-long (record_at n b (many - 1)) (each (many - 1) (omega arith)).frame in
              let e : n * many ≡ n * (many - 1) + n = times many k in omega (arith, simp (length-take, length-drop) at last)
          | no k ↦ let z : many ≡ 0 = omega arith in absurd (empty h hold z)
        ]
      where
        times : (k : ℕ) → 0 < k → n * k ≡ n * (k - 1) + n
        times zero h = absurd (omega arith)
        times (suc k) h = let e : suc k - 1 ≡ k = omega arith in rw e (omega arith)

        empty : 0 < length b → length b ≤ n * many → many ≡ 0 → ⊥
        empty h k z = let e : n * many ≡ 0 = ap (λ (i : ℕ). n * i) z ∙ omega arith in omega arith

    pub store-taken : check_store steps q m K b ≡ Ok tt → StoreTaken steps q m K b
    unfolding check_store
    store-taken e =
        let rest : Verdict = check_records steps q m K 0 (pieces n b) in let t = first-accepted (unless (ltb 0 (length b)) EmptyStore) (rest ∷ []) e in
        let some : 0 < length b = ltb-true 0 (length b) (unless-accepted _ EmptyStore t.0) in
        let each = each-record many 0 b (sym (first-last rest) ∙ t.1) in let whole : length b ≡ n * many = pieces_exact some each in
        let same : length b / n ≡ many = ap (λ (i : ℕ). i / n) whole ∙ mul-div_right many positive in
        record { some = some; whole = whole ∙ ap (λ (k : ℕ). n * k) (sym same); each = λ i k. each i (omega arith) }

    -- the pieces of a store that was taken are its records
    pub pieces_are : StoreTaken steps q m K b → pieces n b ≡ cut n (length b / n) b
    pieces_are h = ap (λ (k : ℕ). cut n k b) (pieces_whole n positive (length b) (length b / n) h.whole)

    pub some-records : StoreTaken steps q m K b → 0 < length b / n
    some-records h = elim (dec_lt 0 (length b / n)) [
      | yes k ↦ k
      | no k ↦ let z : length b / n ≡ 0 = omega arith in let e : length b ≡ 0 = h.whole ∙ ap (λ (k : ℕ). n * k) z ∙ omega arith in absurd (omega (arith, h.some))
    ]

    -- a good store gives neither 11 nor 10 nor 7
    pub store-accepted : StoreTaken steps q m K b → check_store steps q m K b ≡ Ok tt
    unfolding check_store
    store-accepted h = let k : ℕ = length b / n in
        ap₂ (λ (v w : Verdict). first_refusal (v ∷ w ∷ [])) (ap (λ (t : Bool). unless t EmptyStore) (lt-ltb 0 (length b) h.some))
        (ap (check_records steps q m K 0) (pieces_are h)
        ∙ records-accepted 0 (cut n k b) (λ j l. let within : j < k = omega (arith, cut-long n k b) in subst (RecordTaken steps q m K K) (sym (cut_at n k j b within)) (h.each j within)))

    -- a store is refused as its first bad record is, its places counted from the store's start
    pub store-refused : (i : ℕ) (r : Refusal) → n * i < length b → ((j : ℕ) → j < i → RecordTaken steps q m K K (record_at n b j))
        → check_code steps q m K K (n * i) (n * i + 4) (record_at n b i) ≡ Err r → check_store steps q m K b ≡ Err r
    unfolding check_store
    store-refused i r h before e =
        let within : i < many = below (dec_lt i many) in let z : 0 + n * i ≡ n * i = omega arith in
        ap₂ (λ (v w : Verdict). first_refusal (v ∷ w ∷ [])) (ap (λ (t : Bool). unless t EmptyStore) (lt-ltb 0 (length b) (omega arith)))
        (records-refused r i 0 (pieces n b) (omega (arith, cut-long n many b)) (λ j k. subst (RecordTaken steps q m K K) (sym (cut_at n many j b (omega arith))) (before j k))
        (ap₂ (λ (p : ℕ) (f : List ℕ). check_code steps q m K K p (p + 4) f) z (cut_at n many i b within) ∙ e))
      where
        below : Dec (i < many) → i < many
        below (yes k) = k
        below (no k) = let over : n * many ≤ n * i = mul-le-mul (le_refl n) (omega arith) in absurd (omega (arith, pieces-hold n positive (length b)))

    -- so what is left after good records and is no whole one is refused by 10, with its offset
    pub tail-refused : (i : ℕ) → n * i < length b → length b < n * i + n → ((j : ℕ) → j < i → RecordTaken steps q m K K (record_at n b j)) → check_store steps q m K b ≡ Err (Record (n * i))
    tail-refused i h short before = store-refused i (Record (n * i)) h before (short-refused (n * i) (n * i + 4) (record_at n b i) (simp (length-take, length-drop) (omega arith)))

  -- and one of no bytes by 11
  pub empty-store : check_store steps q m K [] ≡ Err EmptyStore
  unfolding check_store
  empty-store = refl
