-- `check_fvecs_lent` tests the frame, then the table's length.
use Rattle.std.proofs.Common.{◌≡◌, sym, ◌∙◌, ap, ap₂, Bool, List, [], ◌∷◌, ℕ, ◌*◌, ◌/◌, nat_abs, arith}
use Rattle.readings.specs.Words.{word_at}
use Rattle.records.specs.Frames.{good_record}
use Rattle.records.specs.Laws.Frames.{record-framed}
use Rattle.records.proofs.Eight.Hours.{fvecs-count}
use Rattle.records.specs.Eight.Vectors.{fvecs_hour}
use Rattle.refusals.specs.declared.Refusal.TheVariants.{Record}
use Rattle.refusals.specs.declared.settings.Settings.{Settings}
use Rattle.refusals.specs.Laws.Verdicts.{first-last}
use Rattle.refusals.specs.Limits.{blocks_most}
use Rattle.refusals.specs.Verdicts.{unless, first_refusal, Verdict}
use Rattle.tables.specs.Filling.{check_entries, lent_asked}
use Rattle.tables.specs.Tables.{part_size}
use Rattle.tables.proofs.query_table.check_fvecs_lent.Goals as goal

module _ (s : Settings) (b : List ℕ) (room : ℕ) where
  -- the table's length for a query of n readings
  abbrev long : ℕ → Verdict
  long n = check_entries (part_size (nat_abs s.q) * (n / 8)) room

  -- by what the frame's test says
  decided : (f : Bool) → good_record 4 8 1 blocks_most b ≡ f → first_refusal (unless f (Record 0) ∷ long (word_at b 0) ∷ []) ≡ lent_asked s (fvecs_hour b) room
  decided f e = ap₂ (λ (t : Bool) (w : Verdict). first_refusal (unless t (Record 0) ∷ w ∷ [])) (sym e) (sym (ap long (fvecs-count b)))

pub word_at-requires : goal.word_at-requires
word_at-requires c = (record-framed 4 8 1 blocks_most c.args.query.now (sym c.good_record.ensures ∙ c.if-good_record.true)).there

pub check_entries-requires : goal.check_entries-requires
check_entries-requires c =
    let framed = record-framed 4 8 1 blocks_most c.args.query.now (sym c.good_record.ensures ∙ c.if-good_record.true) in
    (c.requires.0, c.requires.1, omega (arith, c.word_at.ensures, ap (λ (n : ℕ). n / 8) c.word_at.ensures, framed.whole.few))

pub returns-then-good_record : goal.returns-then-good_record
returns-then-good_record c =
    let s = c.args.s in let b = c.args.query.now in let room = c.args.room in
    c.check_entries.ensures ∙ ap (long s b room) c.word_at.ensures ∙ sym (first-last (long s b room (word_at b 0))) ∙ decided s b room _ (sym c.good_record.ensures ∙ c.if-good_record.true)
