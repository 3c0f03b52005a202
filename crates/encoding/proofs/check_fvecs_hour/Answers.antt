-- `check_fvecs_hour` is the list of checks, one after the other; the first two are made as one.
use Rattle.std.specs.Prelude.{Ok, Err}
use Rattle.std.proofs.Common.{rules, ◌≡◌, refl, sym, ◌∙◌, ap, ap₂, [], ◌∷◌, List, ℕ, ◌/◌, ℤ, Bool, nat_abs, arith}
use lib.Dec.{leb}
use Rattle.refusals.specs.declared.Refusal.TheVariants.{Size, Record}
use Rattle.refusals.specs.declared.settings.Settings.{Settings}
use Rattle.refusals.specs.Laws.Verdicts.{first-last}
use Rattle.refusals.specs.Settings.{check_settings}
use Rattle.refusals.specs.Steps.{check_steps}
use Rattle.refusals.specs.Verdicts.{unless, first_refusal, Verdict}
use Rattle.layers.specs.Code.{eight_of}
use Rattle.records.specs.Eight.Asked.{coder-accepted}
use Rattle.records.specs.Eight.Codes.{code_length}
use Rattle.records.proofs.Eight.Hours.{fvecs-count}
use Rattle.records.specs.Eight.Vectors.{fvecs_hour, blocks_of}
use Rattle.records.specs.Laws.Frames.{record-framed}
use Rattle.encoding.specs.Encode.{encode_asked}
use Rattle.encoding.proofs.Laws.Encoded.{asked_is}
use Rattle.encoding.proofs.check_fvecs_hour.Goals as goal

-- by what each check says
module _ (s : Settings) (steps : List ℤ) (b : List ℕ) (room : ℕ) (coder : Verdict) (coder-is : coder ≡ first_refusal (check_settings s ∷ check_steps 0 steps ∷ [])) where
  abbrev roomy : Verdict
  roomy = unless (leb (code_length (nat_abs s.m) (blocks_of (fvecs_hour b))) room) (Size 1)

  decided : (v f w : Verdict) → coder ≡ v → (fvecs_hour b).frame ≡ f → roomy ≡ w → encode_asked (eight_of s) s steps (fvecs_hour b) room ≡ first_refusal (v ∷ f ∷ w ∷ [])
  decided v f w d e g = asked_is (eight_of s) s steps (fvecs_hour b) room v f w (sym coder-is ∙ d) e g

pub layers-requires : goal.layers-requires
layers-requires c = (coder-accepted c.args.s c.args.steps.now (sym c.check_coder.ensures ∙ c.in_ok-check_coder.was)).allowed

pub word_at-requires : goal.word_at-requires
word_at-requires c = (record-framed 4 8 1 64 c.args.hour.now (sym c.good_record.ensures ∙ c.if-good_record.true)).there

pub check_room-requires : goal.check_room-requires
check_room-requires c =
    let taken = coder-accepted c.args.s c.args.steps.now (sym c.check_coder.ensures ∙ c.in_ok-check_coder.was) in
    let frame = record-framed 4 8 1 64 c.args.hour.now (sym c.good_record.ensures ∙ c.if-good_record.true) in
    (omega (arith, c.layers.ensures, taken.allowed.m-most), omega (arith, ap (λ (n : ℕ). n / 8) c.word_at.ensures, frame.whole.few))

pub returns-in_err-check_coder : goal.returns-in_err-check_coder
returns-in_err-check_coder c = let refused : c.from_residual.result ≡ Err c.in_err-check_coder.field-0.0 = search rules in refused ∙ (let a = c.args in
    sym (decided a.s a.steps.now a.hour.now a.room _ c.check_coder.ensures _ _ _ c.in_err-check_coder.was refl refl))

pub returns-then-good_record : goal.returns-then-good_record
returns-then-good_record c = let a = c.args in
    let framed : (fvecs_hour a.hour.now).frame ≡ Ok tt = ap (λ (b : Bool). unless b (Record 0)) (sym c.good_record.ensures ∙ c.if-good_record.true) in
    let roomed : c.check_room.result ≡ roomy a.s a.steps.now a.hour.now a.room _ c.check_coder.ensures =
    c.check_room.ensures ∙ ap₂ (λ (m n : ℕ). unless (leb (code_length m (n / 8)) a.room) (Size 1)) c.layers.ensures (c.word_at.ensures ∙ sym (fvecs-count a.hour.now)) in
    roomed ∙ sym (decided a.s a.steps.now a.hour.now a.room _ c.check_coder.ensures _ _ _ c.in_ok-check_coder.was framed refl ∙ first-last _)

pub returns-else-good_record : goal.returns-else-good_record
returns-else-good_record c = let a = c.args in
    let framed : (fvecs_hour a.hour.now).frame ≡ Err (Record 0) = ap (λ (b : Bool). unless b (Record 0)) (sym c.good_record.ensures ∙ c.if-good_record.false) in
    sym (decided a.s a.steps.now a.hour.now a.room _ c.check_coder.ensures _ _ _ c.in_ok-check_coder.was framed refl)
