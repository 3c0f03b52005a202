-- `record_total` lends what follows the dimension; a good record has as many blocks as X, and over the table of X the looked-up score is the plain one.
use Rattle.std.proofs.Common.{◌≡◌, sym, ◌∙◌, ap, ap₂, List, ◌++◌, ℕ, ◌*◌, ◌-◌, ◌/◌, ◌^◌, ◌≤◌, ℤ, nat_abs, length, take, drop, arith, length-append, w64}
use mathlib.Core.Path.{subst₂}
use native.Mathlib.Nat.{mul-div_right}
use mir.Val.{SFits}
use mir.Facts.{to_z-of_z}
use Rattle.integers.specs.Laws.Loops.{rest-whole}
use Rattle.integers.specs.Vectors.{Sized}
use Rattle.layers.specs.Digits.{cut}
use Rattle.records.specs.Eight.Asked.{RecordTaken}
use Rattle.records.specs.Eight.Codes.{AreBlocks, block_size, blocks_in}
use Rattle.scores.specs.Eight.Asked.{taken-block, exact-blocks}
use Rattle.scores.specs.Eight.Scores.{total, block_query, query_total}
use Rattle.tables.specs.Laws.Entries.{query_table-long}
use Rattle.lookups.proofs.Laws.Same.{query-totals}
use Rattle.lookups.specs.Scoring.{block_query_by, query_total_by}
use Rattle.tables.specs.Tables.{query_most, part_size, query_table}
use Rattle.stores.proofs.search.record_total.Goals as goal

-- a record that was taken
module _ (q m k : ℕ) (steps : List ℤ) (code : List ℕ) (h : RecordTaken (length steps) q m k k code) where
  -- the bytes after the dimension, as they are lent
  abbrev lent : List ℕ
  lent = take (length code - 4) (drop 4 code)

  count : blocks_in m code ≡ k
  count = exact-blocks m k code h.frame

  are-blocks : AreBlocks (length steps) q m k lent
  are-blocks = subst₂ (AreBlocks (length steps) q m) count (sym (rest-whole 4 code)) h.blocks

  -- and as many readings
  module _ (X : List ℤ) (s : Sized (8 * k) (2 ^ 24) X) where
    count-x : length X / 8 ≡ k
    count-x = ap (λ (n : ℕ). n / 8) s.long ∙ mul-div_right k (omega arith)

    summed : (y : ℤ) → y ≡ total (block_query q m steps) (cut 8 k X) (cut (block_size m) k lent) → y ≡ query_total q m steps X code
    unfolding Rattle.scores.specs.Scores.query_total
    summed y e =
        e ∙ ap₂ (λ (n : ℕ) (f : List ℕ). total (block_query q m steps) (cut 8 k X) (cut (block_size m) n f)) (sym count) (rest-whole 4 code)
        ∙ ap (λ (n : ℕ). total (block_query q m steps) (cut 8 n X) (cut (block_size m) (blocks_in m code) (drop 4 code))) (sym count-x)

    -- where entries are lent, the table of X stands in front
    module _ (entries : List ℤ) (look : (q ≤ query_most) × ((rest : List ℤ) × (entries ≡ query_table q X ++ rest))) where
      enough : part_size q * k ≤ length entries
      enough = let e : length (query_table q X) ≡ part_size q * k = query_table-long q X ∙ ap (λ (n : ℕ). part_size q * n) count-x in omega (arith, simp length-append at (ap length look.1.1))

      looked : (y : ℤ) → y ≡ total (block_query_by q m steps) (cut (part_size q) k entries) (cut (block_size m) k lent) → y ≡ query_total q m steps X code
      unfolding query_total_by
      looked y e =
          e ∙ ap₂ (λ (n : ℕ) (f : List ℕ). total (block_query_by q m steps) (cut (part_size q) n entries) (cut (block_size m) n f)) (sym count) (rest-whole 4 code)
          ∙ ap (λ (t : List ℤ). query_total_by q m steps t code) look.1.1
          ∙ query-totals q m steps X look.1.0 code (count ∙ sym count-x) (λ i l. (taken-block (length steps) q m k k code h i l).code)

pub query_total-requires : goal.query_total-requires
query_total-requires c = let a = c.args in
    simp (to_z-of_z, c.ranges.q) (c.requires.0, c.requires.2, c.requires.3, are-blocks (nat_abs a.q) a.m a.k a.steps.now a.code.now c.requires.4, c.requires.5, c.requires.6)

pub query_total_by-requires : goal.query_total_by-requires
query_total_by-requires c = let a = c.args in let q : ℕ = nat_abs a.q in let look = c.requires.1 (omega arith) in
    simp (to_z-of_z, c.ranges.q) (c.requires.2, are-blocks q a.m a.k a.steps.now a.code.now c.requires.4, look.0, enough q a.m a.k a.steps.now a.code.now c.requires.4 a.x.now c.requires.3 a.entries.now look, c.requires.5)

pub returns-then-entries-eq0-clause-answer : goal.returns-then-entries-eq0-clause-answer
returns-then-entries-eq0-clause-answer c = let a = c.args in let f : SFits w64 c.query_total.result = record { sfits = c.query_total.type_inv } in
    to_z-of_z f ∙ summed (nat_abs a.q) a.m a.k a.steps.now a.code.now c.requires.4 a.x.now c.requires.3 c.query_total.result (simp (to_z-of_z, c.ranges.q) at c.query_total.ensures.answer)

pub returns-else-entries-eq0-clause-answer : goal.returns-else-entries-eq0-clause-answer
returns-else-entries-eq0-clause-answer c = let a = c.args in let f : SFits w64 c.query_total_by.result = record { sfits = c.query_total_by.type_inv } in
    to_z-of_z f ∙ looked (nat_abs a.q) a.m a.k a.steps.now a.code.now c.requires.4 a.x.now c.requires.3 a.entries.now (c.requires.1 (omega arith)) c.query_total_by.result (simp (to_z-of_z, c.ranges.q) at c.query_total_by.ensures)
