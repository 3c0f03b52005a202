-- `best_of` walks the records: after i of them `best` is the best of their scores.
use Rattle.std.proofs.Common.{◌≡◌, refl, sym, ◌∙◌, ap, ap₂, subst, List, map, ℕ, ◌+◌, ◌*◌, ◌-◌, ◌/◌, ◌<◌, ◌≤◌, ℤ, nat_abs, length, take, drop, arith, w64, to_z, of_z}
use mir.Val.{SFits}
use mir.Facts.{to_z-of_z}
use Rattle.layers.specs.Digits.{cut}
use Rattle.records.specs.Eight.Codes.{code_length}
use Rattle.records.specs.Eight.Asked.{RecordTaken}
use Rattle.records.specs.Laws.Parts.{part-ends}
use Rattle.scores.specs.Eight.Scores.{query_total}
use Rattle.stores.specs.declared.Best.{Best}
use Rattle.stores.specs.Laws.Asked.{some-records, pieces_are}
use Rattle.stores.specs.Laws.Best.{best-next}
use Rattle.stores.specs.Stores.{StoreTaken, record_at, better, best_of, best_in}
use Rattle.stores.proofs.search.best_of.Goals as goal

-- a store that was taken, of records of n bytes
module _ (q m k : ℕ) (steps : List ℤ) (store : List ℕ) (taken : StoreTaken (length steps) q m k store) (n : ℕ) (e : n ≡ code_length m k) where
  some : 0 < length store / n
  some = subst (λ (n : ℕ). 0 < length store / n) (sym e) (some-records (length steps) q m k store taken)

  ends : (i : ℕ) → i < length store / n → n * i + n ≤ length store
  ends i h = let whole : length store ≡ n * (length store / n) = subst (λ (n : ℕ). length store ≡ n * (length store / n)) (sym e) taken.whole in
      omega (arith, part-ends n i (length store / n) h, whole)

  each : (i : ℕ) → i < length store / n → RecordTaken (length steps) q m k k (record_at n store i)
  each = subst (λ (n : ℕ). (i : ℕ) → i < length store / n → RecordTaken (length steps) q m k k (record_at n store i)) (sym e) taken.each

  -- the first record, as it is lent
  first-is : take (n - 0) store ≡ record_at n store 0
  first-is = let a : n - 0 ≡ n = omega arith in let z : 0 ≡ n * 0 = omega arith in ap₂ (λ (j o : ℕ). take j (drop o store)) a z

  first-taken : RecordTaken (length steps) q m k k (take (n - 0) store)
  first-taken = subst (RecordTaken (length steps) q m k k) (sym first-is) (each 0 some)

  -- record i
  record_is : (i : ℕ) → take (n * i + n - n * i) (drop (n * i) store) ≡ record_at n store i
  record_is i = let whole : n * i + n - n * i ≡ n = omega arith in ap (λ (j : ℕ). take j (drop (n * i) store)) whole

  record-taken : (i : ℕ) → i < length store / n → RecordTaken (length steps) q m k k (take (n * i + n - n * i) (drop (n * i) store))
  record-taken i h = subst (RecordTaken (length steps) q m k k) (sym (record_is i)) (each i h)

  -- after all of them
  all-of : (X : List ℤ) (i : ℕ) → i ≡ length store / n → best_of (map (query_total q m steps X) (cut n i store)) ≡ best_in q m steps X k store
  unfolding best_in
  all-of X i h = let f : List ℕ → ℤ = query_total q m steps X in
      ap (λ (j : ℕ). best_of (map f (cut n j store))) h
      ∙ ap (λ (n : ℕ). best_of (map f (cut n (length store / n) store))) e
      ∙ ap (λ (r : List (List ℕ)). best_of (map f r)) (sym (pieces_are (length steps) q m k store taken))

-- the score of a record more
scored : (f : List ℕ → ℤ) (n i : ℕ) (store r : List ℕ) (best w : Best) (y z : ℤ) → 1 ≤ i → best ≡ best_of (map f (cut n i store)) → z ≡ y → y ≡ f r → r ≡ record_at n store i → w ≡ better best i z
    → w ≡ best_of (map f (cut n (i + 1) store))
scored f n i store r best w y z h e d g o k = k ∙ ap₂ (λ (w : Best) (z : ℤ). better w i z) e (d ∙ g ∙ ap f o) ∙ sym (best-next f n store i h)

pub slice_bounds-record_total-end : goal.slice_bounds-record_total-end
slice_bounds-record_total-end c = let a = c.args in let some : 0 < length a.store.now / c.code_length-n.result = some (nat_abs a.q) a.m a.k a.steps.now a.store.now c.requires.4 c.code_length-n.result c.code_length-n.ensures in
    omega (arith, ends (nat_abs a.q) a.m a.k a.steps.now a.store.now c.requires.4 c.code_length-n.result c.code_length-n.ensures 0 some)

pub record_total-requires : goal.record_total-requires
record_total-requires c = let a = c.args in
    simp (to_z-of_z, c.ranges.q) (c.requires.0, c.requires.1, c.requires.2, c.requires.3, first-taken (nat_abs a.q) a.m a.k a.steps.now a.store.now c.requires.4 c.code_length-n.result c.code_length-n.ensures, c.requires.5, refl)

pub record_total-z-requires : goal.record_total-z-requires
record_total-z-requires c = let a = c.args in
    simp (to_z-of_z, c.ranges.q) (c.requires.0, c.requires.1, c.requires.2, c.requires.3, record-taken (nat_abs a.q) a.m a.k a.steps.now a.store.now c.requires.4 c.code_length-n.result c.code_length-n.ensures c.loop-i.i c.loop-i-test.true, c.requires.5, c.loop-i.invariant.1)

pub loop-i-preserved : goal.loop-i-preserved
loop-i-preserved c = let a = c.args in let n : ℕ = c.code_length-n.result in let f : List ℕ → ℤ = query_total (nat_abs a.q) a.m a.steps.now a.x.now in
    let y : ℤ = c.record_total-z.result in let y-fits : SFits w64 y = record { sfits = c.record_total-z.type_inv } in
    simp (to_z-of_z, c.ranges.q) (
      scored f n c.loop-i.i a.store.now _ c.loop-i.best c.better-best.result y (to_z w64 (of_z w64 y)) (omega arith) (simp (to_z-of_z, c.ranges.q) at c.loop-i.invariant.0) (to_z-of_z y-fits)
          (simp (to_z-of_z, c.ranges.q) at c.record_total-z.ensures.answer) (record_is (nat_abs a.q) a.m a.k a.steps.now a.store.now c.requires.4 n c.code_length-n.ensures c.loop-i.i) c.better-best.ensures,
      c.record_total-z.ensures.room,
    )

pub returns : goal.returns
returns c = let a = c.args in let n : ℕ = c.code_length-n.result in
    (simp (to_z-of_z, c.ranges.q) at c.loop-i.invariant.0)
    ∙ all-of (nat_abs a.q) a.m a.k a.steps.now a.store.now c.requires.4 n c.code_length-n.ensures a.x.now c.loop-i.i (omega (arith, some (nat_abs a.q) a.m a.k a.steps.now a.store.now c.requires.4 n c.code_length-n.ensures))
