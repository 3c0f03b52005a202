-- The order of a pair score, and what it says that two records were taken for one.
use Rattle.std.specs.Prelude.{◌≡◌, ℕ, ℤ, length, Ok}
use Rattle.std.proofs.Common.{◌∙◌}
use Rattle.std.proofs.Math.Path.{ap₂}
use mathlib.Core.List.{List, [], ◌∷◌}
use Rattle.layers.specs.Code.{Code}
use Rattle.records.specs.Codes.{blocks_in, CoderTaken, RecordTaken}
use Rattle.records.specs.Laws.Asked.{coder-taken}
use Rattle.refusals.specs.declared.settings.Settings.{Settings}
use Rattle.refusals.specs.Laws.Verdicts.{first-accepted, first-append, first_group}
use Rattle.refusals.specs.Limits.{blocks_most}
use Rattle.refusals.specs.Settings.{check_settings}
use Rattle.refusals.specs.Steps.{check_steps}
use Rattle.refusals.specs.Verdicts.{first_refusal, Verdict}
use Rattle.scores.specs.Laws.Asked.{code-taken}
use Rattle.scores.specs.Scores.{check_code, check_pair}

-- settings, both step lists and both records of an accepted pair
pub record PairTaken (C : Code) (c : Settings) (steps : List ℤ) (b : List ℕ) (steps' : List ℤ) (b' : List ℕ) : Type 0 where
  pub first : CoderTaken c steps
  pub second : CoderTaken c steps'
  pub code : RecordTaken (length steps) C 1 blocks_most b
  pub other : RecordTaken (length steps') C (blocks_in C b) (blocks_in C b) b'

module _ (C : Code) (c : Settings) (steps : List ℤ) (b : List ℕ) (steps' : List ℤ) (b' : List ℕ) where
  abbrev here : Verdict
  here = check_code (length steps) C 1 blocks_most 0 0 b

  abbrev there : Verdict
  there = check_code (length steps') C (blocks_in C b) (blocks_in C b) 0 0 b'

  -- the first two checks as one, the second list, and both records as one
  pub pair_is : (v w : Verdict) → first_refusal (check_settings c ∷ check_steps 0 steps ∷ []) ≡ v → check_steps 1 steps' ≡ w
      → check_pair C c steps b steps' b' ≡ first_refusal (v ∷ w ∷ first_refusal (here ∷ there ∷ []) ∷ [])
  unfolding check_pair
  pair_is v w d e =
      first-append (check_settings c ∷ check_steps 0 steps ∷ []) (check_steps 1 steps' ∷ here ∷ there ∷ [])
      ∙ ap₂ (λ (v w : Verdict). first_refusal (v ∷ w ∷ here ∷ there ∷ [])) d e ∙ first_group (v ∷ w ∷ []) (here ∷ there ∷ []) []

  pub pair-taken : check_pair C c steps b steps' b' ≡ Ok tt → PairTaken C c steps b steps' b'
  unfolding check_pair
  pair-taken e =
      let listed : Verdict = check_steps 0 steps in let listed' : Verdict = check_steps 1 steps' in
      let s = first-accepted (check_settings c) (listed ∷ listed' ∷ here ∷ there ∷ []) e in let l = first-accepted listed (listed' ∷ here ∷ there ∷ []) s.1 in
      let l' = first-accepted listed' (here ∷ there ∷ []) l.1 in let h = first-accepted here (there ∷ []) l'.1 in let t = first-accepted there [] h.1 in
      record {
        first = coder-taken c 0 steps s.0 l.0;
        second = coder-taken c 1 steps' s.0 l'.0;
        code = code-taken (length steps) C 1 blocks_most 0 0 b h.0;
        other = code-taken (length steps') C (blocks_in C b) (blocks_in C b) 0 0 b' t.0;
      }
