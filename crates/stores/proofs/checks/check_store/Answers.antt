-- `check_store` tests that there are bytes, then checks the records.
use Rattle.std.proofs.Common.{◌≡◌, sym, ◌∙◌, ap, Bool, true, false, List, [], ◌∷◌, ℕ, ltb, length}
use borrow.Author.Tests.{lt-ltb, le-ltb}
use Rattle.records.specs.Eight.Codes.{code_length}
use Rattle.refusals.specs.declared.Refusal.TheVariants.{EmptyStore}
use Rattle.refusals.specs.Laws.Verdicts.{first-last}
use Rattle.refusals.specs.Verdicts.{unless, first_refusal, Verdict}
use Rattle.stores.specs.Stores.{pieces, check_records, check_store}
use Rattle.stores.proofs.checks.check_store.Goals as goal

module _ (steps q m k : ℕ) (store : List ℕ) where
  abbrev records : Verdict
  records = check_records steps q m k 0 (pieces (code_length m k) store)

  decided : (t : Bool) → ltb 0 (length store) ≡ t → first_refusal (unless t EmptyStore ∷ records ∷ []) ≡ check_store steps q m k store
  unfolding check_store
  decided t e = ap (λ (t : Bool). first_refusal (unless t EmptyStore ∷ records ∷ [])) (sym e)

pub returns-then-store-gt0 : goal.returns-then-store-gt0
returns-then-store-gt0 c = let a = c.args in
    c.check_records.ensures ∙ sym (first-last (records a.steps a.q a.m a.k a.store.now)) ∙ decided a.steps a.q a.m a.k a.store.now true (lt-ltb 0 (length a.store.now) c.if-store-gt0.true)

pub returns-else-store-gt0 : goal.returns-else-store-gt0
returns-else-store-gt0 c = let a = c.args in decided a.steps a.q a.m a.k a.store.now false (le-ltb 0 (length a.store.now) c.if-store-gt0.false)
