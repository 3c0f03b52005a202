-- `fill_query_table` answers what is refused, and else what the core answers on the units that were taken.
use Rattle.std.specs.Prelude.{Ok}
use Rattle.std.proofs.Common.{rules, ◌≡◌, refl, sym, ◌∙◌, ap, ap₂, subst, List, [], ◌∷◌, ◌++◌, ℕ, ◌*◌, ◌-◌, ◌/◌, ◌≤◌, ℤ, pos, nat_abs, length, take, arith, length-append}
use lib.Seq.{take_at}
use mir.Syntax.{w64}
use mir.Val.{SFits, to_z, of_z}
use mir.Facts.{to_z-of_z}
use Rattle.coding.specs.Laws.Asked.{allowed-base}
use Rattle.layers.specs.Sizes.{Base}
use Rattle.readings.specs.Words.{word_at}
use Rattle.records.proofs.Eight.Hours.{fvecs-sound, fvecs-count}
use Rattle.records.specs.Eight.Vectors.{Hour, fvecs_hour, check_readings, units_taken, UnitsTaken}
use Rattle.refusals.specs.declared.settings.Settings.{Settings}
use Rattle.refusals.specs.Answers.{valued, written}
use Rattle.refusals.specs.Verdicts.{first_refusal, Verdict}
use Rattle.tables.specs.Filling.{query_table_asked, check_query_table}
use Rattle.tables.proofs.Laws.Filling.{query-table-is, QueryTableTaken, query-table-taken, asked-framed, filled-refused, filled-accepted}
use Rattle.tables.specs.Tables.{part_size, query_table}
use Rattle.tables.proofs.query_table.fill_query_table.Goals as goal

module _ (s : Settings) (b : List ℕ) (out : List ℤ) where
  abbrev h : Hour
  h = fvecs_hour b

  -- by what the checks before the readings say, and the readings
  checked : (v w : Verdict) → v ≡ query_table_asked s h (length out) → w ≡ check_readings 0 h.readings → check_query_table s h (length out) ≡ first_refusal (v ∷ w ∷ [])
  checked v w e f = query-table-is s h (length out) v (sym e) ∙ ap (λ (w : Verdict). first_refusal (v ∷ w ∷ [])) (sym f)

  -- where the readings were all taken
  module _ (asked : (Ok tt) ≡ query_table_asked s h (length out)) (read : (Ok tt) ≡ check_readings 0 h.readings) where
    abbrev X : List ℤ
    X = units_taken h.readings

    accepted : check_query_table s h (length out) ≡ Ok tt
    accepted = checked (Ok tt) (Ok tt) asked read

    taken : QueryTableTaken s h (length out)
    taken = query-table-taken s h (length out) (fvecs-sound b) accepted

    -- they stand at the front
    module _ (n : ℕ) (n-word : n ≡ word_at b 0) (room rest : List ℤ) (room-is : room ≡ X ++ rest) where
      n-is : length X ≡ n
      n-is = taken.whole ∙ fvecs-count b ∙ sym n-word

      x-is : take (n - 0) room ≡ X
      x-is = let z : n - 0 ≡ n = omega arith in ap (λ (k : ℕ). take k room) z ∙ ap (take n) room-is ∙ take_at X rest n n-is

      enough : n ≤ length room
      enough = omega (arith, n-is, simp length-append at (ap length room-is))

      ready : Base s.q × (nat_abs s.q ≤ 4) × UnitsTaken (take (n - 0) room) × (part_size (nat_abs s.q) * (length (take (n - 0) room) / 8) ≤ length out)
      ready =
          subst (λ (x : List ℤ). Base s.q × (nat_abs s.q ≤ 4) × UnitsTaken x × (part_size (nat_abs s.q) * (length x / 8) ≤ length out)) (sym x-is) (
            allowed-base s.q s.m taken.allowed,
            taken.most,
            taken.units,
            subst (λ (n : ℕ). part_size (nat_abs s.q) * (n / 8) ≤ length out) (sym taken.whole) taken.fits,
          )

pub word_at-n-requires : goal.word_at-n-requires
word_at-n-requires c = (asked-framed c.args.s c.args.query.now (length c.args.entries.now) (sym c.in_ok-check_fvecs_query.ensures)).there

pub take_readings-requires : goal.take_readings-requires
take_readings-requires c =
    let f = asked-framed c.args.s c.args.query.now (length c.args.entries.now) (sym c.in_ok-check_fvecs_query.ensures) in
    let e = c.word_at-n.ensures in
    (e, omega (arith, e, f.complete), omega (arith, e, f.whole.times, f.whole.few))

pub slice_bounds-fill_units-end : goal.slice_bounds-fill_units-end
slice_bounds-fill_units-end c = enough c.args.s c.args.query.now c.args.entries.now c.in_ok-check_fvecs_query.ensures c.in_ok-take_readings.ensures.answer c.word_at-n.result c.word_at-n.ensures c.take_readings.new.x _ c.in_ok-take_readings.ensures.room

pub base-requires : goal.base-requires
base-requires c = (taken c.args.s c.args.query.now c.args.entries.now c.in_ok-check_fvecs_query.ensures c.in_ok-take_readings.ensures.answer).allowed

pub fill_units-requires : goal.fill_units-requires
fill_units-requires c =
    let x = take (c.word_at-n.result - 0) c.take_readings.new.x in
    let out = c.args.entries.now in
    let f : SFits w64 c.base.result = record { sfits = c.base.type_inv } in
    let q-is : to_z w64 (of_z w64 c.base.result) ≡ c.args.s.q = to_z-of_z f ∙ c.base.ensures in
    subst (λ (z : ℤ). Base z × (nat_abs z ≤ 4) × UnitsTaken x × (part_size (nat_abs z) * (length x / 8) ≤ length out)) (sym q-is)
    (ready c.args.s c.args.query.now out c.in_ok-check_fvecs_query.ensures c.in_ok-take_readings.ensures.answer c.word_at-n.result c.word_at-n.ensures c.take_readings.new.x _ c.in_ok-take_readings.ensures.room)

pub returns-in_err-check_fvecs_query : goal.returns-in_err-check_fvecs_query
returns-in_err-check_fvecs_query c =
    let h = fvecs_hour c.args.query.now in
    let f = filled-refused c.args.s h c.args.entries.now _ (checked c.args.s c.args.query.now c.args.entries.now _ (check_readings 0 h.readings) c.in_err-check_fvecs_query.ensures refl) in
    record { answer = (search rules) ∙ f.0; room = f.1 }

pub returns-in_err-take_readings : goal.returns-in_err-take_readings
returns-in_err-take_readings c =
    let h = fvecs_hour c.args.query.now in
    let f = filled-refused c.args.s h c.args.entries.now _ (checked c.args.s c.args.query.now c.args.entries.now (Ok tt) _ c.in_ok-check_fvecs_query.ensures c.in_err-take_readings.ensures.answer) in
    record { answer = (search rules) ∙ f.0; room = f.1 }

pub returns : goal.returns
returns c =
    let s = c.args.s in
    let b = c.args.query.now in
    let out = c.args.entries.now in
    let e = c.in_ok-check_fvecs_query.ensures in
    let r = c.in_ok-take_readings.ensures.answer in
    let x-same = x-is s b out e r c.word_at-n.result c.word_at-n.ensures c.take_readings.new.x _ c.in_ok-take_readings.ensures.room in
    let fits : SFits w64 c.base.result = record { sfits = c.base.type_inv } in
    let q-is : to_z w64 (of_z w64 c.base.result) ≡ s.q = to_z-of_z fits ∙ c.base.ensures in
    let f = filled-accepted s (fvecs_hour b) out (units_taken (fvecs_hour b).readings) refl (taken s b out e r).whole (accepted s b out e r) in
    record {
      answer = c.fill_units.ensures.answer ∙ ap₂ (λ (z : ℤ) (x : List ℤ). valued (Ok tt) (pos (part_size (nat_abs z) * (length x / 8)))) q-is x-same ∙ f.0;
      room = c.fill_units.ensures.room ∙ ap₂ (λ (z : ℤ) (x : List ℤ). written (Ok tt) (query_table (nat_abs z) x) out) q-is x-same ∙ f.1;
    }
