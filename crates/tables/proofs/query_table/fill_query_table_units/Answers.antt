-- `fill_query_table_units` answers what is refused, and else what the core answers on the units themselves.
use Rattle.std.specs.Prelude.{Ok}
use Rattle.std.proofs.Common.{rules, ◌≡◌, sym, ◌∙◌, ap, subst, List, ℕ, ◌*◌, ◌/◌, ◌≤◌, ℤ, pos, nat_abs, length}
use lib.ListN.{length-map}
use mir.Syntax.{w64}
use mir.Val.{SFits, to_z, of_z}
use mir.Facts.{to_z-of_z}
use Rattle.coding.specs.Laws.Asked.{allowed-base}
use Rattle.layers.specs.Sizes.{Base}
use Rattle.readings.specs.Taking.{measure_units}
use Rattle.records.proofs.Eight.Hours.{units-sound, units-taken}
use Rattle.records.specs.Eight.Vectors.{Hour, units_hour, units_taken, UnitsTaken}
use Rattle.refusals.specs.declared.settings.Settings.{Settings}
use Rattle.refusals.specs.Answers.{valued, written}
use Rattle.tables.specs.Filling.{check_query_table}
use Rattle.tables.proofs.Laws.Filling.{QueryTableTaken, query-table-taken, filled-refused, filled-accepted}
use Rattle.tables.specs.Tables.{part_size, query_table}
use Rattle.tables.proofs.query_table.fill_query_table_units.Goals as goal

-- where nothing is refused
module _ (s : Settings) (x out : List ℤ) (accepted : (Ok tt) ≡ check_query_table s (units_hour x) (length out)) where
  abbrev h : Hour
  h = units_hour x

  taken : QueryTableTaken s h (length out)
  taken = query-table-taken s h (length out) (units-sound x) (sym accepted)

  same : units_taken h.readings ≡ x
  same = units-taken 0 x taken.taken

  long : length x ≡ length h.readings
  long = sym (length-map x measure_units)

  ready : Base s.q × (nat_abs s.q ≤ 4) × UnitsTaken x × (part_size (nat_abs s.q) * (length x / 8) ≤ length out)
  ready = (
    allowed-base s.q s.m taken.allowed,
    taken.most,
    subst UnitsTaken same taken.units,
    subst (λ (n : ℕ). part_size (nat_abs s.q) * (n / 8) ≤ length out) (sym long) taken.fits,
  )

pub base-requires : goal.base-requires
base-requires c = (taken c.args.s c.args.x.now c.args.entries.now c.in_ok-check_units_query.ensures).allowed

pub fill_units-requires : goal.fill_units-requires
fill_units-requires c =
    let x = c.args.x.now in
    let out = c.args.entries.now in
    let f : SFits w64 c.base.result = record { sfits = c.base.type_inv } in
    let q-is : to_z w64 (of_z w64 c.base.result) ≡ c.args.s.q = to_z-of_z f ∙ c.base.ensures in
    subst (λ (z : ℤ). Base z × (nat_abs z ≤ 4) × UnitsTaken x × (part_size (nat_abs z) * (length x / 8) ≤ length out)) (sym q-is) (ready c.args.s x out c.in_ok-check_units_query.ensures)

pub returns-in_err-check_units_query : goal.returns-in_err-check_units_query
returns-in_err-check_units_query c = let f = filled-refused c.args.s (units_hour c.args.x.now) c.args.entries.now _ (sym c.in_err-check_units_query.ensures) in record { answer = (search rules) ∙ f.0; room = f.1 }

pub returns : goal.returns
returns c =
    let s = c.args.s in
    let x = c.args.x.now in
    let out = c.args.entries.now in
    let e = c.in_ok-check_units_query.ensures in
    let fits : SFits w64 c.base.result = record { sfits = c.base.type_inv } in
    let q-is : to_z w64 (of_z w64 c.base.result) ≡ s.q = to_z-of_z fits ∙ c.base.ensures in
    let f = filled-accepted s (units_hour x) out x (same s x out e) (long s x out e) (sym e) in
    record {
      answer = c.fill_units.ensures.answer ∙ ap (λ (z : ℤ). valued (Ok tt) (pos (part_size (nat_abs z) * (length x / 8)))) q-is ∙ f.0;
      room = c.fill_units.ensures.room ∙ ap (λ (z : ℤ). written (Ok tt) (query_table (nat_abs z) x) out) q-is ∙ f.1;
    }
