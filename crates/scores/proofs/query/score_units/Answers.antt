-- `score_units` answers the record's refusal, and else the total over its blocks, of which there are as many as of X.
use Rattle.std.proofs.Common.{rules}
use Rattle.std.specs.Prelude.{Ok}
use Rattle.refusals.specs.Verdicts.{Verdict}
use mathlib.Core.Path.{◌≡◌, sym, ◌∙◌, ap, ap₂, subst₂}
use mathlib.Core.List.{List}
use Prim.Native.Nat.{ℕ, ◌-◌, ◌/◌}
use native.Mathlib.Omega.{arith}
use lib.IntN.{ℤ, nat_abs}
use lib.ListN.{length, take, drop}
use mir.Syntax.{w64}
use mir.Val.{SFits, to_z, of_z}
use mir.Facts.{to_z-of_z}
use Rattle.integers.specs.Laws.Loops.{rest-whole}
use Rattle.layers.specs.Digits.{cut}
use Rattle.records.specs.Eight.Codes.{Coder, AreBlocks, block_size, blocks_in}
use Rattle.records.specs.Eight.Asked.{RecordTaken}
use Rattle.records.specs.Laws.Frames.{blocks-whole}
use Rattle.records.specs.Frames.{Whole}
use Rattle.refusals.specs.Answers.{valued}
use Rattle.refusals.specs.Limits.{blocks_most}
use Rattle.scores.specs.Eight.Asked.{code-taken, exact-blocks}
use Rattle.scores.specs.Eight.Scores.{total, block_query, query_total, check_code}
use Rattle.scores.proofs.query.score_units.Goals as goal
use Rattle.scores.proofs.query.score_units.Goals.{After-check_code}

module _ (c : After-check_code) where
  abbrev q : ℕ
  q = nat_abs c.args.s.q

  abbrev m : ℕ
  m = nat_abs c.args.s.m

  abbrev steps : List ℤ
  steps = c.args.steps.now

  abbrev X : List ℤ
  X = c.args.x.now

  abbrev K : ℕ
  K = length X / 8

  abbrev code : List ℕ
  code = c.args.code.now

  -- the bytes after the dimension, as they are lent
  abbrev lent : List ℕ
  lent = take (length code - 4) (drop 4 code)

  abbrev value : ℤ
  value = query_total q m steps X code

  checked : c.check_code.result ≡ check_code (length steps) q m K K 0 0 code
  checked = c.check_code.ensures ∙ ap₂ (λ (q m : ℕ). check_code (length steps) q m K K 0 0 code) c.digit_values.ensures c.layers-m.ensures

  whole : Whole 8 1 blocks_most (length X)
  whole = blocks-whole 8 1 blocks_most (length X) c.requires.1.whole

  -- where the record is accepted
  module _ (e : c.check_code.result ≡ Ok tt) where
    accepted : check_code (length steps) q m K K 0 0 code ≡ Ok tt
    accepted = sym checked ∙ e

    taken : RecordTaken (length steps) q m K K code
    taken = code-taken (length steps) q m K K 0 0 code accepted

    count : blocks_in m code ≡ K
    count = exact-blocks m K code taken.frame

pub slice_bounds-query_body-count : goal.slice_bounds-query_body-count
slice_bounds-query_body-count c = omega (arith, (taken (goal.at.slice_bounds-query_body-count c).After-check_code c.in_ok-check_code.was).frame.there)

pub slice_bounds-query_body-start : goal.slice_bounds-query_body-start
slice_bounds-query_body-start c = omega (arith, (taken (goal.at.slice_bounds-query_body-start c).After-check_code c.in_ok-check_code.was).frame.there)

pub query_body-requires : goal.query_body-requires
query_body-requires c = let a = (goal.at.query_body-requires c).After-check_code in let w = whole a in
    let fits : SFits w64 c.base.result = record { sfits = c.base.type_inv } in
    let q-is : to_z w64 (of_z w64 c.base.result) ≡ c.args.s.q = to_z-of_z fits ∙ c.base.ensures in (
      subst₂ (λ (z : ℤ) (m : ℕ). Coder z m (steps a)) (sym q-is) (sym c.layers-m.ensures) c.requires.0.coder,
      record { long = w.times; small = c.requires.1.small },
      subst₂ (λ (z : ℤ) (m : ℕ). AreBlocks (length (steps a)) (nat_abs z) m (K a) (lent a)) (sym q-is) (sym c.layers-m.ensures)
          (subst₂ (AreBlocks (length (steps a)) (q a) (m a)) (count a c.in_ok-check_code.was) (sym (rest-whole 4 (code a))) (taken a c.in_ok-check_code.was).blocks),
      w.few,
    )

pub returns-in_err-check_code : goal.returns-in_err-check_code
returns-in_err-check_code c = let a = (goal.at.returns-in_err-check_code c).After-check_code in (search rules) ∙ ap (λ (v : Verdict). valued v (value a)) (sym c.in_err-check_code.was ∙ checked a)

pub returns : goal.returns
unfolding Rattle.scores.specs.Scores.query_total
returns c = let a = (goal.at.returns c).After-check_code in
    let fits : SFits w64 c.base.result = record { sfits = c.base.type_inv } in
    let q-is : to_z w64 (of_z w64 c.base.result) ≡ c.args.s.q = to_z-of_z fits ∙ c.base.ensures in
    let sum : c.query_body.result ≡ value a =
    c.query_body.ensures
    ∙ ap₂ (λ (z : ℤ) (m : ℕ). total (block_query (nat_abs z) m (steps a)) (cut 8 (K a) (X a)) (cut (block_size m) (K a) (lent a))) q-is c.layers-m.ensures
    ∙ ap₂ (λ (k : ℕ) (f : List ℕ). total (block_query (q a) (m a) (steps a)) (cut 8 (K a) (X a)) (cut (block_size (m a)) k f)) (sym (count a c.in_ok-check_code.was)) (rest-whole 4 (code a)) in
    let f : SFits w64 c.query_body.result = record { sfits = c.query_body.type_inv } in
    ap (valued (Ok tt)) (to_z-of_z f ∙ sum) ∙ ap (λ (v : Verdict). valued v (value a)) (sym (accepted a c.in_ok-check_code.was))
