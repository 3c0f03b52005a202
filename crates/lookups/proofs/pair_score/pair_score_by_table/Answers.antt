-- `pair_score_by_table` answers what is refused, and else the total over the blocks of both records, of which there are equally many.
use Rattle.std.specs.Prelude.{Ok}
use Rattle.refusals.specs.Verdicts.{Verdict}
use Rattle.std.proofs.Common.{rules, ◌≡◌, sym, ◌∙◌, ap, ap₂, subst, List, ℕ, ◌-◌, ◌≤◌, ℤ, pos, nat_abs, length, take, drop, arith, w64}
use mathlib.Core.Path.{subst₂}
use mir.Val.{SFits}
use mir.Facts.{to_z-of_z}
use Rattle.integers.specs.Laws.Loops.{rest-whole}
use Rattle.layers.specs.Digits.{cut}
use Rattle.records.specs.Eight.Codes.{Coder, AreBlocks, block_size, blocks_in}
use Rattle.refusals.specs.declared.settings.Settings.{Settings}
use Rattle.refusals.specs.Answers.{valued}
use Rattle.scores.specs.Eight.Asked.{exact-blocks}
use Rattle.scores.specs.Scores.{total}
use Rattle.lookups.specs.Laws.Scoring.{PairByTaken, pair-by-taken}
use Rattle.lookups.specs.Scoring.{block_pair_by, pair_total_by, check_pair_by, pair_score_by}
use Rattle.tables.specs.Tables.{pair_size}
use Rattle.lookups.proofs.pair_score.pair_score_by_table.Goals as goal

-- where nothing is refused
module _ (s : Settings) (steps : List ℤ) (b : List ℕ) (steps' : List ℤ) (b' : List ℕ) (t : List ℤ) (e : (Ok tt) ≡ check_pair_by s steps b steps' b' (length t)) where
  abbrev m : ℕ
  m = nat_abs s.m

  abbrev K : ℕ
  K = blocks_in m b

  -- the bytes after the dimension, as they are lent
  abbrev lent : List ℕ → List ℕ
  lent b = take (length b - 4) (drop 4 b)

  taken : PairByTaken s steps b steps' b' (length t)
  taken = pair-by-taken s steps b steps' b' (length t) (sym e)

  -- what holds of q holds of 2
  by_two : (P : ℤ → Type 0) → P s.q → P (pos 2)
  by_two P h = subst P taken.two h

  count : blocks_in m b' ≡ K
  count = exact-blocks m K b' taken.pair.other.frame

  -- what the total asks for, by M and K
  abbrev Asked : ℕ → ℕ → Type 0
  Asked m k = Coder (pos 2) m steps × Coder (pos 2) m steps' × AreBlocks (length steps) 2 m k (lent b) × AreBlocks (length steps') 2 m k (lent b') × (pair_size ≤ length t) × (k ≤ 64)

  asked : Asked m K
  asked = let p = taken.pair in (
    by_two (λ z. Coder z m steps) p.first.coder,
    by_two (λ z. Coder z m steps') p.second.coder,
    subst (AreBlocks (length steps) 2 m K) (sym (rest-whole 4 b)) (by_two (λ z. AreBlocks (length steps) (nat_abs z) m K (drop 4 b)) p.code.blocks),
    subst₂ (AreBlocks (length steps') 2 m) count (sym (rest-whole 4 b')) (by_two (λ z. AreBlocks (length steps') (nat_abs z) m (blocks_in m b') (drop 4 b')) p.other.blocks),
    taken.fits,
    p.code.frame.whole.few,
  )

  -- the total over k and k' blocks
  abbrev sum : ℕ → ℕ → ℕ → List ℕ → List ℕ → ℤ
  sum m k k' f g = total (block_pair_by m steps steps' t) (cut (block_size m) k f) (cut (block_size m) k' g)

  value-is : (l k : ℕ) (z : ℤ) → l ≡ m → k ≡ K → z ≡ sum l k k (lent b) (lent b') → z ≡ pair_total_by m steps steps' t b b'
  unfolding pair_total_by
  value-is l k z f g h =
      h ∙ ap₂ (λ (m k : ℕ). sum m k k (lent b) (lent b')) f g ∙ ap₂ (sum m K K) (rest-whole 4 b) (rest-whole 4 b')
      ∙ ap (λ (k : ℕ). sum m K k (drop 4 b) (drop 4 b')) (sym count)

-- the number of blocks as it is counted
counted : (b : List ℕ) (m m' k : ℕ) → m ≡ m' → k ≡ blocks_in m b → k ≡ blocks_in m' b
counted b m m' k e f = f ∙ ap (λ (m : ℕ). blocks_in m b) e

pub layers-m-requires : goal.layers-m-requires
layers-m-requires c = (taken _ _ _ _ _ _ c.in_ok-check_pair_by.ensures).pair.first.allowed

pub blocks_in-k-requires : goal.blocks_in-k-requires
blocks_in-k-requires c = let p = (taken _ _ _ _ _ _ c.in_ok-check_pair_by.ensures).pair in (omega (arith, c.layers-m.ensures, p.first.allowed.m-most), p.code.frame.there)

pub slice_bounds-pair_total_by-count : goal.slice_bounds-pair_total_by-count
slice_bounds-pair_total_by-count c = (taken _ _ _ _ _ _ c.in_ok-check_pair_by.ensures).pair.code.frame.there

pub slice_bounds-pair_total_by-start : goal.slice_bounds-pair_total_by-start
slice_bounds-pair_total_by-start c = (taken _ _ _ _ _ _ c.in_ok-check_pair_by.ensures).pair.code.frame.there

pub slice_bounds-pair_total_by-count-2 : goal.slice_bounds-pair_total_by-count-2
slice_bounds-pair_total_by-count-2 c = (taken _ _ _ _ _ _ c.in_ok-check_pair_by.ensures).pair.other.frame.there

pub slice_bounds-pair_total_by-start-2 : goal.slice_bounds-pair_total_by-start-2
slice_bounds-pair_total_by-start-2 c = (taken _ _ _ _ _ _ c.in_ok-check_pair_by.ensures).pair.other.frame.there

pub pair_total_by-requires : goal.pair_total_by-requires
pair_total_by-requires c = let e = c.in_ok-check_pair_by.ensures in
    subst₂ (Asked _ _ _ _ _ _ e) (sym c.layers-m.ensures) (sym (counted c.args.code.now c.layers-m.result (nat_abs c.args.s.m) c.blocks_in-k.result c.layers-m.ensures c.blocks_in-k.ensures)) (asked _ _ _ _ _ _ e)

pub returns-in_err-check_pair_by : goal.returns-in_err-check_pair_by
unfolding pair_score_by
returns-in_err-check_pair_by c = let a = c.args in
    record { answer = (search rules) ∙ ap (λ (v : Verdict). valued v (pair_total_by (nat_abs a.s.m) a.steps.now a.steps2.now a.table.now a.code.now a.code2.now)) c.in_err-check_pair_by.ensures }

pub returns : goal.returns
unfolding pair_score_by
returns c = let a = c.args in let e = c.in_ok-check_pair_by.ensures in
    let f : SFits w64 c.pair_total_by.result = record { sfits = c.pair_total_by.type_inv } in
    let same : c.pair_total_by.result ≡ pair_total_by (nat_abs a.s.m) a.steps.now a.steps2.now a.table.now a.code.now a.code2.now =
    value-is _ _ _ _ _ _ e c.layers-m.result c.blocks_in-k.result c.pair_total_by.result c.layers-m.ensures (counted a.code.now c.layers-m.result (nat_abs c.args.s.m) c.blocks_in-k.result c.layers-m.ensures c.blocks_in-k.ensures) c.pair_total_by.ensures in
    record { answer = ap (valued (Ok tt)) (to_z-of_z f ∙ same) ∙ ap (λ (v : Verdict). valued v (pair_total_by (nat_abs a.s.m) a.steps.now a.steps2.now a.table.now a.code.now a.code2.now)) e }
