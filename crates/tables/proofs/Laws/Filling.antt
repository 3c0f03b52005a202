-- The order of filling, and what it says that a filling was accepted.
use Rattle.std.specs.Prelude.{◌≡◌, ℕ, ◌*◌, ◌/◌, ◌≤◌, ℤ, pos, nat_abs, length, Ok, Err}
use Rattle.std.proofs.Common.{sym, ◌∙◌, leb-true}
use Rattle.std.proofs.Math.Path.{ap, ap₂}
use mathlib.Core.List.{List, [], ◌∷◌}
use Rattle.coding.specs.Laws.Asked.{checked-allowed}
use Rattle.records.specs.Frames.{whole_blocks, Framed}
use Rattle.records.specs.Laws.Frames.{record-framed}
use Rattle.records.proofs.Eight.Hours.{Sound, units_small, taken-all}
use Rattle.records.specs.Eight.Vectors.{Hour, fvecs_hour, check_readings, units_taken, blocks_of, UnitsTaken}
use Rattle.refusals.specs.declared.settings.Settings.{Settings}
use Rattle.refusals.specs.declared.Refusal.{Refusal}
use Rattle.refusals.specs.declared.Refusal.TheVariants.{Table, Size, Record}
use Rattle.refusals.specs.Answers.{valued, written}
use Rattle.refusals.specs.Laws.Verdicts.{unless-accepted, first-accepted, first-append, first_group}
use Rattle.refusals.specs.Limits.{blocks_most}
use Rattle.refusals.specs.Settings.{check_settings, Allowed}
use Rattle.refusals.specs.Verdicts.{first_refusal, Verdict}
use Rattle.tables.specs.Filling.{check_table, check_entries, check_pair_table, lent_asked, query_table_asked, check_query_table, query_filled, query_table_room}
use Rattle.tables.specs.Tables.{pair_most, query_most, pair_size, part_size, query_table}

-- ---- one check

-- q is one that the table is for
pub table_taken : (most : ℕ) (c : Settings) → check_table most c ≡ Ok tt → nat_abs c.q ≤ most
table_taken most c e = leb-true (nat_abs c.q) most (unless-accepted _ Table e)

-- the table is long enough
pub entries-taken : (n room : ℕ) → check_entries n room ≡ Ok tt → n ≤ room
entries-taken n room e = leb-true n room (unless-accepted _ (Size 2) e)

-- ---- the pair table

module _ (c : Settings) (room : ℕ) where
  -- settings first
  pub pair-table-is : (v : Verdict) → check_settings c ≡ v → check_pair_table c room ≡ first_refusal (v ∷ check_table pair_most c ∷ check_entries pair_size room ∷ [])
  unfolding check_pair_table
  pair-table-is v e = ap (λ (v : Verdict). first_refusal (v ∷ check_table pair_most c ∷ check_entries pair_size room ∷ [])) e

  -- settings for the table, and a table that is long enough
  pub record PairTableTaken : Type 0 where
    pub allowed : Allowed c.q c.m
    pub two : nat_abs c.q ≤ pair_most
    pub fits : pair_size ≤ room

  -- an accepted filling has them
  pub pair-table-taken : check_pair_table c room ≡ Ok tt → PairTableTaken
  unfolding check_pair_table
  pair-table-taken e =
      let table : Verdict = check_table pair_most c in let long : Verdict = check_entries pair_size room in
      let s = first-accepted (check_settings c) (table ∷ long ∷ []) e in let t = first-accepted table (long ∷ []) s.1 in
      record { allowed = checked-allowed c s.0; two = table_taken pair_most c t.0; fits = entries-taken pair_size room (first-accepted long [] t.1).0 }

-- ---- the query table

module _ (c : Settings) where
  abbrev q : ℕ
  q = nat_abs c.q

  -- settings and q, checked as one
  pub q-taken : first_refusal (check_settings c ∷ check_table query_most c ∷ []) ≡ Ok tt → Allowed c.q c.m × (q ≤ query_most)
  q-taken e = let s = first-accepted (check_settings c) (check_table query_most c ∷ []) e in (checked-allowed c s.0, table_taken query_most c (first-accepted (check_table query_most c) [] s.1).0)

  module _ (h : Hour) (room : ℕ) where
    abbrev long : Verdict
    long = check_entries (part_size q * blocks_of h) room

    abbrev readings : Verdict
    readings = check_readings 0 h.readings

    -- these, then what is lent
    pub asked_is : (v : Verdict) → first_refusal (check_settings c ∷ check_table query_most c ∷ []) ≡ v → query_table_asked c h room ≡ first_refusal (v ∷ lent_asked c h room ∷ [])
    unfolding query_table_asked
    asked_is v d = first-append (check_settings c ∷ check_table query_most c ∷ []) (h.frame ∷ long ∷ []) ∙ ap (λ (v : Verdict). first_refusal (v ∷ h.frame ∷ long ∷ [])) d ∙ first_group (v ∷ []) (h.frame ∷ long ∷ []) []

    -- then the readings
    pub query-table-is : (v : Verdict) → query_table_asked c h room ≡ v → check_query_table c h room ≡ first_refusal (v ∷ readings ∷ [])
    unfolding check_query_table
    query-table-is v e = ap (λ (v : Verdict). first_refusal (v ∷ readings ∷ [])) e

    -- settings for the table, an hour whose readings were all taken, and a table that is long enough
    pub record QueryTableTaken : Type 0 where
      pub allowed : Allowed c.q c.m
      pub most : q ≤ query_most
      pub framed : h.frame ≡ Ok tt
      pub units : UnitsTaken (units_taken h.readings)
      pub whole : length (units_taken h.readings) ≡ length h.readings
      pub taken : readings ≡ Ok tt
      pub fits : part_size q * blocks_of h ≤ room

    -- an accepted filling has them
    pub query-table-taken : Sound h → check_query_table c h room ≡ Ok tt → QueryTableTaken
    unfolding check_query_table query_table_asked
    query-table-taken sound e =
        let a = first-accepted (query_table_asked c h room) (readings ∷ []) e in let r = first-accepted readings [] a.1 in let whole = taken-all h.readings r.0 in
        let s = first-accepted (check_settings c) (check_table query_most c ∷ h.frame ∷ long ∷ []) a.0 in let t = first-accepted (check_table query_most c) (h.frame ∷ long ∷ []) s.1 in
        let f = first-accepted h.frame (long ∷ []) t.1 in
        record {
          allowed = checked-allowed c s.0;
          most = table_taken query_most c t.0;
          framed = f.0;
          units = record { whole = ap (whole_blocks 8 1 blocks_most) whole ∙ sound.counted f.0; small = units_small h.readings sound.ranged };
          whole = whole;
          taken = r.0;
          fits = entries-taken (part_size q * blocks_of h) room (first-accepted long [] f.1).0;
        }

-- a record whose frame was accepted
pub asked-framed : (c : Settings) (b : List ℕ) (room : ℕ) → query_table_asked c (fvecs_hour b) room ≡ Ok tt → Framed 4 8 1 blocks_most b
unfolding query_table_asked
asked-framed c b room e =
    let h : Hour = fvecs_hour b in let rest : Verdict = check_entries (part_size (nat_abs c.q) * blocks_of h) room in
    let s = first-accepted (check_settings c) (check_table query_most c ∷ h.frame ∷ rest ∷ []) e in let t = first-accepted (check_table query_most c) (h.frame ∷ rest ∷ []) s.1 in
    record-framed 4 8 1 blocks_most b (unless-accepted _ (Record 0) (first-accepted h.frame (rest ∷ []) t.1).0)

-- the whole answer and the table afterwards, by the verdict
module _ (c : Settings) (h : Hour) (out : List ℤ) where
  abbrev K : ℕ
  K = blocks_of h

  -- where it is refused
  pub filled-refused : (r : Refusal) → check_query_table c h (length out) ≡ Err r → (valued (Err r) (pos 0) ≡ query_filled c h (length out)) × (out ≡ query_table_room c h out)
  unfolding query_filled query_table_room
  filled-refused r e = (
    ap (λ (v : Verdict). valued v (pos (part_size (nat_abs c.q) * K))) (sym e),
    ap (λ (v : Verdict). written v (query_table (nat_abs c.q) (units_taken h.readings)) out) (sym e),
  )

  -- where it is accepted, with X the units of its readings
  pub filled-accepted : (X : List ℤ) → units_taken h.readings ≡ X → length X ≡ length h.readings → check_query_table c h (length out) ≡ Ok tt
      → (valued (Ok tt) (pos (part_size (nat_abs c.q) * (length X / 8))) ≡ query_filled c h (length out)) × (written (Ok tt) (query_table (nat_abs c.q) X) out ≡ query_table_room c h out)
  unfolding query_filled query_table_room
  filled-accepted X same long e = (
    ap₂ (λ (v : Verdict) (n : ℕ). valued v (pos (part_size (nat_abs c.q) * (n / 8)))) (sym e) long,
    ap₂ (λ (v : Verdict) (X : List ℤ). written v (query_table (nat_abs c.q) X) out) (sym e) (sym same),
  )
