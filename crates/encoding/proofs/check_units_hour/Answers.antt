-- `check_units_hour` is the list of checks, one after the other; the first two are made as one.
use Rattle.std.specs.Prelude.{Ok, Err}
use Rattle.std.proofs.Common.{rules, ◌≡◌, refl, sym, ◌∙◌, ap, ap₂, [], ◌∷◌, List, ℕ, ◌/◌, ℤ, Bool, nat_abs, length, arith}
use lib.Dec.{leb}
use lib.ListN.{length-map}
use Rattle.readings.specs.Taking.{measure_units}
use Rattle.refusals.specs.declared.Refusal.TheVariants.{Size}
use Rattle.refusals.specs.declared.settings.Settings.{Settings}
use Rattle.refusals.specs.Laws.Verdicts.{first-last}
use Rattle.refusals.specs.Settings.{check_settings}
use Rattle.refusals.specs.Steps.{check_steps}
use Rattle.refusals.specs.Verdicts.{unless, first_refusal, Verdict}
use Rattle.layers.specs.Code.{eight_of}
use Rattle.records.specs.Eight.Asked.{coder-accepted}
use Rattle.records.specs.Eight.Codes.{code_length}
use Rattle.records.specs.Eight.Vectors.{units_hour, check_readings, blocks_of}
use Rattle.records.specs.Laws.Frames.{blocks-whole}
use Rattle.encoding.specs.Encode.{encode_asked}
use Rattle.encoding.proofs.Laws.Encoded.{asked_is}
use Rattle.encoding.proofs.check_units_hour.Goals as goal

-- by what each check says
module _ (s : Settings) (steps x : List ℤ) (room : ℕ) (coder : Verdict) (coder-is : coder ≡ first_refusal (check_settings s ∷ check_steps 0 steps ∷ [])) where
  abbrev roomy : Verdict
  roomy = unless (leb (code_length (nat_abs s.m) (blocks_of (units_hour x))) room) (Size 1)

  abbrev all : Verdict → Verdict
  all asked = first_refusal (asked ∷ check_readings 0 (units_hour x).readings ∷ [])

  decided : (v f w : Verdict) → coder ≡ v → (units_hour x).frame ≡ f → roomy ≡ w → all (encode_asked (eight_of s) s steps (units_hour x) room) ≡ all (first_refusal (v ∷ f ∷ w ∷ []))
  decided v f w d e g = ap all (asked_is (eight_of s) s steps (units_hour x) room v f w (sym coder-is ∙ d) e g)

  roomed : (m : ℕ) (v : Verdict) → m ≡ nat_abs s.m → v ≡ unless (leb (code_length m (length x / 8)) room) (Size 1) → roomy ≡ v
  roomed m v l e = ap₂ (λ (m n : ℕ). unless (leb (code_length m (n / 8)) room) (Size 1)) (sym l) (length-map x measure_units) ∙ sym e

pub layers-requires : goal.layers-requires
layers-requires c = (coder-accepted c.args.s c.args.steps.now (sym c.check_coder.ensures ∙ c.in_ok-check_coder.was)).allowed

pub check_room-requires : goal.check_room-requires
check_room-requires c =
    let taken = coder-accepted c.args.s c.args.steps.now (sym c.check_coder.ensures ∙ c.in_ok-check_coder.was) in
    let whole = blocks-whole 8 1 64 (length c.args.x.now) (sym c.whole_blocks.ensures ∙ c.if-whole_blocks.true) in
    (omega (arith, c.layers.ensures, taken.allowed.m-most), omega (arith, whole.few))

pub returns-in_err-check_coder : goal.returns-in_err-check_coder
returns-in_err-check_coder c = let refused : c.from_residual.result ≡ Err c.in_err-check_coder.field-0.0 = search rules in refused ∙ (let a = c.args in
    sym (decided a.s a.steps.now a.x.now a.room _ c.check_coder.ensures _ _ _ c.in_err-check_coder.was refl refl))

pub returns-in_err-check_room : goal.returns-in_err-check_room
returns-in_err-check_room c = let refused : c.from_residual-in_err-check_room.result ≡ Err c.in_err-check_room.field-0.0 = search rules in refused ∙ (let a = c.args in
    let framed : (units_hour a.x.now).frame ≡ Ok tt = ap (λ (b : Bool). unless b (Size 0)) (sym c.whole_blocks.ensures ∙ c.if-whole_blocks.true) in
    sym (decided a.s a.steps.now a.x.now a.room _ c.check_coder.ensures _ _ _ c.in_ok-check_coder.was framed
    (roomed a.s a.steps.now a.x.now a.room _ c.check_coder.ensures _ _ c.layers.ensures c.check_room.ensures ∙ c.in_err-check_room.was)))

pub returns-in_ok-check_room : goal.returns-in_ok-check_room
returns-in_ok-check_room c = let a = c.args in
    let framed : (units_hour a.x.now).frame ≡ Ok tt = ap (λ (b : Bool). unless b (Size 0)) (sym c.whole_blocks.ensures ∙ c.if-whole_blocks.true) in
    c.check_units.ensures ∙ sym (decided a.s a.steps.now a.x.now a.room _ c.check_coder.ensures _ _ _ c.in_ok-check_coder.was framed
    (roomed a.s a.steps.now a.x.now a.room _ c.check_coder.ensures _ _ c.layers.ensures c.check_room.ensures ∙ c.in_ok-check_room.was) ∙ first-last _)

pub returns-else-whole_blocks : goal.returns-else-whole_blocks
returns-else-whole_blocks c = let a = c.args in
    let framed : (units_hour a.x.now).frame ≡ Err (Size 0) = ap (λ (b : Bool). unless b (Size 0)) (sym c.whole_blocks.ensures ∙ c.if-whole_blocks.false) in
    sym (decided a.s a.steps.now a.x.now a.room _ c.check_coder.ensures _ _ _ c.in_ok-check_coder.was framed refl)
