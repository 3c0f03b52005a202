-- `score_record` is the list of checks, test by test, and where all accept the total over the record's blocks, each by its part of the table.
use Rattle.std.specs.Prelude.{Err, Ok}
use Rattle.std.proofs.Common.{rules, ◌≡◌, refl, sym, ◌∙◌, ap, ap₂, subst, Bool, true, false, List, [], ◌∷◌, ℕ, ◌*◌, ◌-◌, ◌≤◌, ℤ, nat_abs, length, take, drop, arith, w64, to_z, of_z}
use mathlib.Core.Path.{subst₂}
use mir.Val.{SFits}
use mir.Facts.{to_z-of_z}
use lib.ListN.{length-drop}
use Rattle.integers.specs.Laws.Loops.{rest-whole}
use Rattle.layers.specs.Digits.{cut}
use Rattle.records.specs.Eight.Codes.{Coder, AreBlocks, block_size, blocks_in, code_blocks, check_blocks}
use Rattle.records.specs.Frames.{good_record, Framed}
use Rattle.records.specs.Eight.Asked.{CoderTaken, frame-holds}
use Rattle.records.specs.Laws.Frames.{record-framed}
use Rattle.refusals.specs.declared.Refusal.TheVariants.{Record}
use Rattle.refusals.specs.declared.settings.Settings.{Settings}
use Rattle.refusals.specs.Answers.{valued, Answer}
use Rattle.refusals.specs.Laws.Verdicts.{first-last}
use Rattle.refusals.specs.Limits.{blocks_most}
use Rattle.refusals.specs.Verdicts.{unless, first_refusal, Verdict}
use Rattle.scores.specs.Scores.{total}
use Rattle.tables.specs.Filling.{check_entries}
use Rattle.tables.specs.Tables.{query_most, part_size}
use Rattle.lookups.specs.Laws.Scoring.{record-by-is, record-by-taken}
use Rattle.lookups.specs.Scoring.{block_query_by, query_total_by, record_by}
use Rattle.lookups.proofs.query_score.score_record.Goals as goal

-- the block size n and the number of layers l as they are read, and what the frame's test says
module _ (m : ℕ) (b : List ℕ) (l n : ℕ) (e : l ≡ m) (f : n ≡ block_size l) where
  size_is : n ≡ block_size m
  size_is = f ∙ ap block_size e

  framed : (g : Bool) → g ≡ good_record 1 n 1 blocks_most b → good_record 1 (block_size m) 1 blocks_most b ≡ g
  framed g h = ap (λ (n : ℕ). good_record 1 n 1 blocks_most b) (sym size_is) ∙ sym h

  frame : true ≡ good_record 1 n 1 blocks_most b → Framed 1 (block_size m) 1 blocks_most b
  frame h = record-framed 1 (block_size m) 1 blocks_most b (framed true h)

  counted : (k : ℕ) → k ≡ blocks_in l b → k ≡ blocks_in m b
  counted k h = h ∙ ap (λ (m : ℕ). blocks_in m b) e

module _ (s : Settings) (steps : List ℤ) (b : List ℕ) (t : List ℤ) where
  abbrev q : ℕ
  q = nat_abs s.q

  abbrev m : ℕ
  m = nat_abs s.m

  abbrev K : ℕ
  K = blocks_in m b

  -- the bytes after the dimension, as they are lent
  abbrev lent : List ℕ
  lent = take (length b - 4) (drop 4 b)

  abbrev long : ℕ → Verdict
  long k = check_entries (part_size q * k) (length t)

  abbrev bytes : Verdict
  bytes = check_blocks (length steps) q (block_size m) 0 (code_blocks m b)

  abbrev all : Verdict
  all = record_by (length steps) q m b (length t)

  abbrev answer : Verdict → Answer
  answer v = valued v (query_total_by q m steps t b)

  decided : (f : Bool) (w : Verdict) → good_record 1 (block_size m) 1 blocks_most b ≡ f → w ≡ long K → first_refusal (unless f (Record 0) ∷ w ∷ bytes ∷ []) ≡ all
  decided f w e g = sym (record-by-is (length steps) q m b (length t) f w e (sym g))

  entries-are : (k : ℕ) (w : Verdict) → k ≡ K → w ≡ long k → w ≡ long K
  entries-are k w e f = f ∙ ap long e

  -- with a good frame and a table that is long enough, what the bytes say
  bytes-are : (l n k d : ℕ) (v : Verdict) → l ≡ m → n ≡ block_size l → true ≡ good_record 1 n 1 blocks_most b → k ≡ blocks_in l b → Ok tt ≡ long k → d ≡ q
      → v ≡ check_blocks (length steps) d n 0 (cut n k lent) → v ≡ all
  bytes-are l n k d v e f g h i j o = let k-is : k ≡ K = counted m b l n e f k h in
      o
      ∙ ap₂ (λ (q : ℕ) (f : List ℕ). check_blocks (length steps) q n 0 (cut n k f)) j (rest-whole 4 b)
      ∙ ap₂ (λ (n k : ℕ). check_blocks (length steps) q n 0 (cut n k (drop 4 b))) (size_is m b l n e f) k-is
      ∙ sym (first-last bytes) ∙ decided true (Ok tt) (framed m b l n e f true g) (entries-are k (Ok tt) k-is i)

  abbrev sum : ℤ → ℕ → ℕ → List ℕ → ℤ
  sum z m k f = total (block_query_by (nat_abs z) m steps) (cut (part_size (nat_abs z)) k t) (cut (block_size m) k f)

  -- the numbers that the total is given
  module _ (z : ℤ) (l k : ℕ) (e : z ≡ s.q) (f : l ≡ m) (g : k ≡ K) where
    -- what holds of q, M and K of the settings and the record holds of these
    by-numbers : (P : ℤ → ℕ → ℕ → Type 0) → P s.q m K → P z l k
    by-numbers P h = subst₂ (λ (z : ℤ) (m : ℕ). P z m k) (sym e) (sym f) (subst (P s.q m) (sym g) h)

    asked : CoderTaken s steps → q ≤ query_most → Ok tt ≡ all
        → Coder z l steps × AreBlocks (length steps) (nat_abs z) l k lent × (nat_abs z ≤ query_most) × (part_size (nat_abs z) * k ≤ length t) × (k ≤ 64)
    asked a most h = let r = record-by-taken (length steps) q m b (length t) (sym h) in
        by-numbers (λ z m k. Coder z m steps × AreBlocks (length steps) (nat_abs z) m k lent × (nat_abs z ≤ query_most) × (part_size (nat_abs z) * k ≤ length t) × (k ≤ 64)) (
          a.coder,
          subst (AreBlocks (length steps) q m K) (sym (rest-whole 4 b)) r.0.blocks,
          most,
          r.1,
          r.0.frame.whole.few,
        )

    answered : (y : ℤ) → SFits w64 y → y ≡ sum z l k lent → Ok tt ≡ all → valued (Ok tt) (to_z w64 (of_z w64 y)) ≡ answer all
    unfolding query_total_by
    answered y fits h a =
        ap (valued (Ok tt)) (to_z-of_z fits ∙ h ∙ sym (by-numbers (λ z l k. sum s.q m K lent ≡ sum z l k lent) refl) ∙ ap (sum s.q m K) (rest-whole 4 b)) ∙ ap answer a

pub blocks_in-k-requires : goal.blocks_in-k-requires
blocks_in-k-requires c = (omega (arith, c.layers-m.ensures, c.requires.0.allowed.m-most), (frame _ _ _ _ c.layers-m.ensures c.block_size-size.ensures c.if-good_record.ensures).there)

pub check_entries-requires : goal.check_entries-requires
check_entries-requires c = let b = c.args.code.now in (
  c.requires.0.allowed,
  c.requires.1,
  omega (
    arith,
    counted (nat_abs c.args.s.m) b _ _ c.layers-m.ensures c.block_size-size.ensures c.blocks_in-k.result c.blocks_in-k.ensures,
    (frame _ _ _ _ c.layers-m.ensures c.block_size-size.ensures c.if-good_record.ensures).whole.few,
  ),
)

pub slice_bounds-check_blocks-count : goal.slice_bounds-check_blocks-count
slice_bounds-check_blocks-count c = (frame _ _ _ _ c.layers-m.ensures c.block_size-size.ensures c.if-good_record.ensures).there

pub slice_bounds-check_blocks-start : goal.slice_bounds-check_blocks-start
slice_bounds-check_blocks-start c = (frame _ _ _ _ c.layers-m.ensures c.block_size-size.ensures c.if-good_record.ensures).there

pub check_blocks-requires : goal.check_blocks-requires
check_blocks-requires c = let b = c.args.code.now in let m : ℕ = nat_abs c.args.s.m in let n-is = size_is m b _ _ c.layers-m.ensures c.block_size-size.ensures in
    let k-is = counted m b _ _ c.layers-m.ensures c.block_size-size.ensures c.blocks_in-k.result c.blocks_in-k.ensures in
    let f = frame m b _ _ c.layers-m.ensures c.block_size-size.ensures c.if-good_record.ensures in
    rw (rest-whole 4 b) (
      omega (arith, n-is),
      subst₂ (λ (n k : ℕ). n * k ≤ length (drop 4 b)) (sym n-is) (sym k-is) (frame-holds m 1 blocks_most b f),
      simp length-drop (omega arith),
    )

pub slice_bounds-query_total_by-count : goal.slice_bounds-query_total_by-count
slice_bounds-query_total_by-count c = (frame _ _ _ _ c.layers-m.ensures c.block_size-size.ensures c.if-good_record.ensures).there

pub slice_bounds-query_total_by-start : goal.slice_bounds-query_total_by-start
slice_bounds-query_total_by-start c = (frame _ _ _ _ c.layers-m.ensures c.block_size-size.ensures c.if-good_record.ensures).there

pub query_total_by-requires : goal.query_total_by-requires
query_total_by-requires c = let a = c.args in
    let f : SFits w64 c.base.result = record { sfits = c.base.type_inv } in
    let k-is = counted (nat_abs a.s.m) a.code.now _ _ c.layers-m.ensures c.block_size-size.ensures c.blocks_in-k.result c.blocks_in-k.ensures in
    asked a.s a.steps.now a.code.now a.table.now _ _ _ (to_z-of_z f ∙ c.base.ensures) c.layers-m.ensures k-is c.requires.0 c.requires.1
    (bytes-are a.s a.steps.now a.code.now a.table.now _ _ _ _ _ c.layers-m.ensures c.block_size-size.ensures c.if-good_record.ensures c.blocks_in-k.ensures c.in_ok-check_entries.ensures c.digit_values-q.ensures c.in_ok-check_blocks.ensures)

pub returns-in_err-check_entries : goal.returns-in_err-check_entries
returns-in_err-check_entries c = let a = c.args in let m : ℕ = nat_abs a.s.m in
    let k-is = counted m a.code.now _ _ c.layers-m.ensures c.block_size-size.ensures c.blocks_in-k.result c.blocks_in-k.ensures in
    let refused : c.from_residual.result ≡ Err c.in_err-check_entries.field-0.0 = search rules in
    refused ∙ ap (answer a.s a.steps.now a.code.now a.table.now)
    (decided a.s a.steps.now a.code.now a.table.now true _ (framed m a.code.now _ _ c.layers-m.ensures c.block_size-size.ensures true c.if-good_record.ensures) (entries-are a.s a.steps.now a.code.now a.table.now _ _ k-is c.in_err-check_entries.ensures))

pub returns-in_err-check_blocks : goal.returns-in_err-check_blocks
returns-in_err-check_blocks c = let refused : c.from_residual-in_err-check_blocks.result ≡ Err c.in_err-check_blocks.field-0.0 = search rules in refused ∙ (let a = c.args in
    ap (answer a.s a.steps.now a.code.now a.table.now)
    (bytes-are a.s a.steps.now a.code.now a.table.now _ _ _ _ _ c.layers-m.ensures c.block_size-size.ensures c.if-good_record.ensures c.blocks_in-k.ensures c.in_ok-check_entries.ensures c.digit_values-q.ensures c.in_err-check_blocks.ensures))

pub returns-in_ok-check_blocks : goal.returns-in_ok-check_blocks
returns-in_ok-check_blocks c = let a = c.args in
    let f : SFits w64 c.base.result = record { sfits = c.base.type_inv } in
    let k-is = counted (nat_abs a.s.m) a.code.now _ _ c.layers-m.ensures c.block_size-size.ensures c.blocks_in-k.result c.blocks_in-k.ensures in
    answered a.s a.steps.now a.code.now a.table.now _ _ _ (to_z-of_z f ∙ c.base.ensures) c.layers-m.ensures k-is c.query_total_by.result (record { sfits = c.query_total_by.type_inv }) c.query_total_by.ensures
    (bytes-are a.s a.steps.now a.code.now a.table.now _ _ _ _ _ c.layers-m.ensures c.block_size-size.ensures c.if-good_record.ensures c.blocks_in-k.ensures c.in_ok-check_entries.ensures c.digit_values-q.ensures c.in_ok-check_blocks.ensures)

pub returns-else-good_record : goal.returns-else-good_record
returns-else-good_record c = let a = c.args in
    ap (answer a.s a.steps.now a.code.now a.table.now)
    (decided a.s a.steps.now a.code.now a.table.now false _ (framed (nat_abs a.s.m) a.code.now _ _ c.layers-m.ensures c.block_size-size.ensures false c.if-good_record.ensures) refl)
