use Rattle.std.specs.Prelude.{◌≡◌, List, [], ◌∷◌, ℕ, ℤ, nat_abs, length, Ok}
use Rattle.layers.specs.Code.{eight_of}
use Rattle.records.specs.Eight.Codes.{blocks_in}
use Rattle.refusals.specs.declared.settings.Settings.{Settings}
use Rattle.refusals.specs.Limits.{blocks_most}
use Rattle.refusals.specs.Settings.{check_settings}
use Rattle.refusals.specs.Steps.{check_steps}
use Rattle.refusals.specs.Verdicts.{first_refusal, Verdict}
use Rattle.scores.specs.Eight.Scores.{check_code, check_pair}
use Rattle.scores.specs.Laws.Pair as pair

abbrev pub PairTaken : Settings → List ℤ → List ℕ → List ℤ → List ℕ → Type 0
PairTaken c = pair.PairTaken (eight_of c) c

pub pair_is : (c : Settings) (steps : List ℤ) (b : List ℕ) (steps' : List ℤ) (b' : List ℕ) (v w : Verdict) → first_refusal (check_settings c ∷ check_steps 0 steps ∷ []) ≡ v → check_steps 1 steps' ≡ w
    → check_pair c steps b steps' b' ≡ first_refusal (v ∷ w ∷ first_refusal (check_code (length steps) (nat_abs c.q) (nat_abs c.m) 1 blocks_most 0 0 b ∷ check_code (length steps') (nat_abs c.q) (nat_abs c.m) (blocks_in (nat_abs c.m) b) (blocks_in (nat_abs c.m) b) 0 0 b' ∷ []) ∷ [])
pair_is c = pair.pair_is (eight_of c) c

pub pair-taken : (c : Settings) (steps : List ℤ) (b : List ℕ) (steps' : List ℤ) (b' : List ℕ) → check_pair c steps b steps' b' ≡ Ok tt → PairTaken c steps b steps' b'
pair-taken c = pair.pair-taken (eight_of c) c
