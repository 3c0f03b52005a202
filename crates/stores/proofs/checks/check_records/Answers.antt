-- `check_records` walks the store: what is left of it gives the same verdict as all, until a record is refused.
use Rattle.std.specs.Prelude.{Ok, Err}
use Rattle.std.proofs.Common.{rules, ◌≡◌, sym, ◌∙◌, ap₂, List, [], ◌∷◌, ℕ, ◌+◌, ◌-◌, ◌<◌, length, take, drop, arith}
use Rattle.integers.specs.Laws.Loops.{rest-whole}
use Rattle.records.specs.Eight.Codes.{code_length}
use Rattle.refusals.specs.Laws.Verdicts.{first-last}
use Rattle.refusals.specs.Verdicts.{first_refusal, Verdict}
use Rattle.scores.specs.Eight.Scores.{check_code}
use Rattle.stores.specs.Laws.Pieces.{records-opened, records-done}
use Rattle.stores.specs.Stores.{pieces, check_records}
use Rattle.stores.proofs.checks.check_records.Goals as goal

-- at the byte o the next record's verdict decides, and where it accepts, the rest
module _ (steps q m k : ℕ) (store : List ℕ) (n o : ℕ) (e : n ≡ code_length m k) where
  abbrev rest : Verdict
  rest = check_records steps q m k (o + n) (pieces (code_length m k) (drop (o + n) store))

  opened : (v : Verdict) → o < length store → v ≡ check_code steps q m k k o (o + 4) (take n (take (length store - o) (drop o store)))
      → check_records steps q m k o (pieces (code_length m k) (drop o store)) ≡ first_refusal (v ∷ rest ∷ [])
  opened v h f =
      records-opened steps q m k store o h
      ∙ ap₂ (λ (w : Verdict) (n : ℕ). first_refusal (w ∷ check_records steps q m k (o + n) (pieces (code_length m k) (drop (o + n) store)) ∷ []))
      (ap₂ (λ (n : ℕ) (f : List ℕ). check_code steps q m k k o (o + 4) (take n f)) (sym e) (sym (rest-whole o store)) ∙ sym f) (sym e)

  -- where it accepts
  passed : o < length store → (Ok tt) ≡ check_code steps q m k k o (o + 4) (take n (take (length store - o) (drop o store))) → check_records steps q m k o (pieces (code_length m k) (drop o store)) ≡ rest
  passed h f = opened (Ok tt) h f ∙ first-last rest

pub returns-in_err-check_piece : goal.returns-in_err-check_piece
returns-in_err-check_piece c = let refused : c.from_residual.result ≡ Err c.in_err-check_piece.field-0.0 = search rules in refused ∙ (let a = c.args in
    sym (c.loop-at.invariant ∙ opened a.steps a.q a.m a.k a.store.now c.code_length-n.result c.loop-at.«at» c.code_length-n.ensures _ c.loop-at-test.true c.in_err-check_piece.ensures))

pub loop-at-preserved : goal.loop-at-preserved
loop-at-preserved c = let a = c.args in
    c.loop-at.invariant ∙ passed a.steps a.q a.m a.k a.store.now c.code_length-n.result c.loop-at.«at» c.code_length-n.ensures c.loop-at-test.true c.in_ok-check_piece.ensures

pub returns : goal.returns
returns c = let a = c.args in sym (c.loop-at.invariant ∙ records-done a.steps a.q a.m a.k a.store.now c.loop-at.«at» (omega arith))

pub returns-in_ok-check_piece : goal.returns-in_ok-check_piece
returns-in_ok-check_piece c = let a = c.args in
    sym (c.loop-at.invariant ∙ passed a.steps a.q a.m a.k a.store.now c.code_length-n.result c.loop-at.«at» c.code_length-n.ensures c.loop-at-test.true c.in_ok-check_piece.ensures
    ∙ records-done a.steps a.q a.m a.k a.store.now (c.loop-at.«at» + c.code_length-n.result) (omega arith))
