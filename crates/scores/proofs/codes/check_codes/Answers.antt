-- `check_codes` checks the first record, and the second with the first one's K.
use Rattle.std.proofs.Common.{rules}
use Rattle.std.specs.Prelude.{Err, Ok}
use mathlib.Core.Path.{◌≡◌, sym, ◌∙◌, ap}
use mathlib.Core.List.{List, [], ◌∷◌}
use Prim.Native.Nat.{ℕ}
use Rattle.records.specs.Eight.Codes.{blocks_in}
use Rattle.refusals.specs.Laws.Verdicts.{first-last}
use Rattle.refusals.specs.Limits.{blocks_most}
use Rattle.refusals.specs.Verdicts.{first_refusal, Verdict}
use Rattle.scores.specs.Eight.Asked.{code-taken}
use Rattle.scores.specs.Eight.Scores.{check_code}
use Rattle.scores.proofs.codes.check_codes.Goals as goal
use Rattle.scores.proofs.codes.check_codes.Goals.{After-check_code}

module _ (c : After-check_code) where
  abbrev b : List ℕ
  b = c.args.code.now

  abbrev here : Verdict
  here = check_code c.args.steps c.args.q c.args.m 1 blocks_most 0 0 b

  abbrev there : ℕ → Verdict
  there k = check_code c.args.steps2 c.args.q c.args.m k k 0 0 c.args.code2.now

  decided : (v : Verdict) → c.check_code.result ≡ v → first_refusal (here ∷ there (blocks_in c.args.m b) ∷ []) ≡ first_refusal (v ∷ there (blocks_in c.args.m b) ∷ [])
  decided v e = ap (λ (v : Verdict). first_refusal (v ∷ there (blocks_in c.args.m b) ∷ [])) (sym c.check_code.ensures ∙ e)

pub blocks_in-k-requires : goal.blocks_in-k-requires
blocks_in-k-requires c = let a = c.args in
    (c.requires, (code-taken a.steps a.q a.m 1 blocks_most 0 0 a.code.now (sym c.check_code.ensures ∙ c.in_ok-check_code.was)).frame.there)

pub returns-in_err-check_code : goal.returns-in_err-check_code
returns-in_err-check_code c = let refused : c.from_residual.result ≡ Err c.in_err-check_code.field-0.0 = search rules in refused ∙ (sym (decided (goal.at.returns-in_err-check_code c).After-check_code _ c.in_err-check_code.was))

pub returns : goal.returns
returns c = let k = (goal.at.returns c).After-check_code in
    c.check_code-2.ensures ∙ ap (there k) c.blocks_in-k.ensures ∙ sym (decided k (Ok tt) c.in_ok-check_code.was ∙ first-last (there k (blocks_in c.args.m (b k))))
