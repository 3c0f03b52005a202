-- `pair_score` answers what is refused, and else the total over the blocks of both records, of which there are equally many.
use Rattle.std.proofs.Common.{rules}
use Rattle.std.specs.Prelude.{Ok}
use Rattle.refusals.specs.Verdicts.{Verdict}
use mathlib.Core.Path.{◌≡◌, refl, sym, ◌∙◌, ap, ap₂, subst, subst₂}
use mathlib.Core.List.{List}
use Prim.Native.Nat.{ℕ, ◌-◌}
use native.Mathlib.Omega.{arith}
use lib.IntN.{ℤ, nat_abs}
use lib.ListN.{length, take, drop}
use mir.Syntax.{w64}
use mir.Val.{SFits, to_z, of_z}
use mir.Facts.{to_z-of_z}
use Rattle.integers.specs.Laws.Loops.{rest-whole}
use Rattle.layers.specs.Digits.{cut}
use Rattle.records.specs.Eight.Codes.{Coder, AreBlocks, block_size, blocks_in}
use Rattle.refusals.specs.Answers.{valued}
use Rattle.scores.specs.Eight.Asked.{exact-blocks}
use Rattle.scores.specs.Eight.Pair.{PairTaken, pair-taken}
use Rattle.scores.specs.Eight.Scores.{total, block_pair, pair_total, check_pair}
use Rattle.scores.proofs.pair.pair_score.Goals as goal
use Rattle.scores.proofs.pair.pair_score.Goals.{After-blocks_in-k, After-check_pair}

module _ (c : After-check_pair) where
  abbrev q : ℕ
  q = nat_abs c.args.s.q

  abbrev m : ℕ
  m = nat_abs c.args.s.m

  abbrev steps : List ℤ
  steps = c.args.steps.now

  abbrev steps' : List ℤ
  steps' = c.args.steps2.now

  abbrev b : List ℕ
  b = c.args.code.now

  abbrev b' : List ℕ
  b' = c.args.code2.now

  abbrev K : ℕ
  K = blocks_in m b

  -- the bytes after the dimension, as they are lent
  abbrev lent : List ℕ → List ℕ
  lent b = take (length b - 4) (drop 4 b)

  -- the total over k and k' blocks
  abbrev sum : ℤ → ℕ → ℕ → ℕ → List ℕ → List ℕ → ℤ
  sum z m k k' f g = total (block_pair (nat_abs z) m steps steps') (cut (block_size m) k f) (cut (block_size m) k' g)

  abbrev value : ℤ
  value = pair_total q m steps steps' b b'

  -- where nothing is refused
  module _ (e : c.check_pair.result ≡ Ok tt) where
    accepted : check_pair c.args.s steps b steps' b' ≡ Ok tt
    accepted = sym c.check_pair.ensures ∙ e

    taken : PairTaken c.args.s steps b steps' b'
    taken = pair-taken c.args.s steps b steps' b' accepted

    count : blocks_in m b' ≡ K
    count = exact-blocks m K b' taken.other.frame

-- the numbers that the total is given
module _ (c : After-blocks_in-k) where
  abbrev code : List ℕ
  code = c.args.code.now

  fits : SFits w64 c.base-q.result
  fits = record { sfits = c.base-q.type_inv }

  q-is : to_z w64 (of_z w64 c.base-q.result) ≡ c.args.s.q
  q-is = to_z-of_z fits ∙ c.base-q.ensures

  k-is : c.blocks_in-k.result ≡ blocks_in (nat_abs c.args.s.m) code
  k-is = c.blocks_in-k.ensures ∙ ap (λ (m : ℕ). blocks_in m code) c.layers-m.ensures

  -- what holds of q, M and K of the settings and the record holds of these
  by-numbers : (P : ℤ → ℕ → ℕ → Type 0) → P c.args.s.q (nat_abs c.args.s.m) (blocks_in (nat_abs c.args.s.m) code) → P (to_z w64 (of_z w64 c.base-q.result)) c.layers-m.result c.blocks_in-k.result
  by-numbers P h = subst₂ (λ (z : ℤ) (m : ℕ). P z m c.blocks_in-k.result) (sym q-is) (sym c.layers-m.ensures) (subst (P c.args.s.q (nat_abs c.args.s.m)) (sym k-is) h)

pub base-q-requires : goal.base-q-requires
base-q-requires c = (taken (goal.at.base-q-requires c).After-check_pair c.in_ok-check_pair.was).first.allowed

pub layers-m-requires : goal.layers-m-requires
layers-m-requires c = (taken (goal.at.layers-m-requires c).After-check_pair c.in_ok-check_pair.was).first.allowed

pub blocks_in-k-requires : goal.blocks_in-k-requires
blocks_in-k-requires c = let h = taken (goal.at.blocks_in-k-requires c).After-check_pair c.in_ok-check_pair.was in (omega (arith, c.layers-m.ensures, h.first.allowed.m-most), h.code.frame.there)

pub slice_bounds-pair_body-count : goal.slice_bounds-pair_body-count
slice_bounds-pair_body-count c = omega (arith, (taken (goal.at.slice_bounds-pair_body-count c).After-check_pair c.in_ok-check_pair.was).code.frame.there)

pub slice_bounds-pair_body-start : goal.slice_bounds-pair_body-start
slice_bounds-pair_body-start c = omega (arith, (taken (goal.at.slice_bounds-pair_body-start c).After-check_pair c.in_ok-check_pair.was).code.frame.there)

pub slice_bounds-pair_body-count-2 : goal.slice_bounds-pair_body-count-2
slice_bounds-pair_body-count-2 c = omega (arith, (taken (goal.at.slice_bounds-pair_body-count-2 c).After-check_pair c.in_ok-check_pair.was).other.frame.there)

pub slice_bounds-pair_body-start-2 : goal.slice_bounds-pair_body-start-2
slice_bounds-pair_body-start-2 c = omega (arith, (taken (goal.at.slice_bounds-pair_body-start-2 c).After-check_pair c.in_ok-check_pair.was).other.frame.there)

pub pair_body-requires : goal.pair_body-requires
pair_body-requires c = let n = (goal.at.pair_body-requires c).After-blocks_in-k in let a = (goal.at.pair_body-requires c).After-check_pair in let e = c.in_ok-check_pair.was in let h = taken a e in (
  by-numbers n (λ z m k. Coder z m (steps a)) h.first.coder,
  by-numbers n (λ z m k. Coder z m (steps' a)) h.second.coder,
  by-numbers n (λ z m k. AreBlocks (length (steps a)) (nat_abs z) m k (lent a (b a))) (subst (AreBlocks (length (steps a)) (q a) (m a) (K a)) (sym (rest-whole 4 (b a))) h.code.blocks),
  by-numbers n (λ z m k. AreBlocks (length (steps' a)) (nat_abs z) m k (lent a (b' a)))
      (subst₂ (AreBlocks (length (steps' a)) (q a) (m a)) (count a e) (sym (rest-whole 4 (b' a))) h.other.blocks),
  omega (arith, k-is n, h.code.frame.whole.few),
)

pub returns-in_err-check_pair : goal.returns-in_err-check_pair
unfolding Rattle.scores.specs.Scores.pair_score
returns-in_err-check_pair c = let a = (goal.at.returns-in_err-check_pair c).After-check_pair in record { answer = (search rules) ∙ ap (λ (v : Verdict). valued v (value a)) (sym c.in_err-check_pair.was ∙ a.check_pair.ensures) }

pub returns : goal.returns
unfolding Rattle.scores.specs.Scores.pair_score Rattle.scores.specs.Scores.pair_total
returns c = let n = (goal.at.returns c).After-blocks_in-k in let a = (goal.at.returns c).After-check_pair in let e = c.in_ok-check_pair.was in
    let f : SFits w64 c.pair_body.result = record { sfits = c.pair_body.type_inv } in
    let same : c.pair_body.result ≡ value a =
    c.pair_body.ensures
    ∙ sym (by-numbers n (λ x y k. sum a c.args.s.q (m a) (K a) (K a) (lent a (b a)) (lent a (b' a)) ≡ sum a x y k k (lent a (b a)) (lent a (b' a))) refl)
    ∙ ap₂ (sum a c.args.s.q (m a) (K a) (K a)) (rest-whole 4 (b a)) (rest-whole 4 (b' a))
    ∙ ap (λ (k : ℕ). sum a c.args.s.q (m a) (K a) k (drop 4 (b a)) (drop 4 (b' a))) (sym (count a e)) in
    record { answer = ap (valued (Ok tt)) (to_z-of_z f ∙ same) ∙ ap (λ (v : Verdict). valued v (value a)) (sym (accepted a e)) }
