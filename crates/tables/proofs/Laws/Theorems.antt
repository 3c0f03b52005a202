-- What filling says: an accepted table holds 01's entries, and what follows it stays; a null is refused by its place.
use Rattle.readings.specs.declared.Fault.TheVariants as fault
use Rattle.readings.specs.Taking.{Measured}
use Rattle.refusals.specs.Verdicts.{Verdict}
use Rattle.std.specs.Prelude.{◌≡◌, true, List, ◌++◌, ℕ, ◌+◌, ◌*◌, ◌/◌, ◌<◌, ℤ, pos, nat_abs, length, get_or, take, Ok, Err}
use Rattle.std.proofs.Common.{◌∙◌, arith, length-append, length-drop, drop_at}
use Rattle.std.proofs.Math.Path.{ap}
use Rattle.std.specs.Float.{binary32}
use Rattle.std.specs.Float.Ieee.{nan_bits}
use Rattle.std.proofs.Math.ListN.{drop}
use Rattle.integers.specs.Vectors.{«at», dot}
use Rattle.readings.specs.Words.{word_at, measure_at}
use Rattle.records.proofs.Eight.Hours.{Sound, fvecs-count, fvecs-reading, word-missing}
use Rattle.records.proofs.Laws.Vectors.{AllUnits, first-missing, first-beyond}
use Rattle.records.specs.Eight.Vectors.{Hour, fvecs_hour, check_readings, units_taken, blocks_of}
use Rattle.refusals.specs.declared.settings.Settings.{Settings}
use Rattle.refusals.specs.declared.Refusal.{Refusal}
use Rattle.refusals.specs.declared.Refusal.TheVariants.{Missing, OutOfRange}
use Rattle.refusals.specs.Answers.{valued, written}
use Rattle.refusals.specs.Laws.Verdicts.{first-last}
use Rattle.scores.specs.Scores.{inner}
use Rattle.tables.specs.Filling.{check_pair_table, pair_filled, pair_table_room, query_table_asked, check_query_table, query_filled, query_table_room}
use Rattle.tables.specs.Laws.Entries.{pair_table-long, pair_table-at, query_table-long, query_table-at}
use Rattle.tables.proofs.Laws.Filling.{query-table-is, QueryTableTaken, query-table-taken}
use Rattle.tables.specs.Tables.{pair_size, part_size, layer_at, pair_table, query_table}

-- ---- the pair table as it is filled

module _ (c : Settings) (out : List ℤ) (ok : check_pair_table c (length out) ≡ Ok tt) where
  -- the answer is 65,536, and the table stands in front of what was found
  pub pair-filled : (pair_filled c (length out) ≡ valued (Ok tt) (pos pair_size)) × (pair_table_room c out ≡ pair_table ++ drop pair_size out)
  unfolding pair_filled pair_table_room
  pair-filled = (
    ap (λ (v : Verdict). valued v (pos pair_size)) ok,
    ap (λ (v : Verdict). written v pair_table out) ok ∙ ap (λ (n : ℕ). pair_table ++ drop n out) pair_table-long,
  )

  -- entry 256 i + j is the inner product of the layer points i and j
  pub pair-holds : (i j : ℕ) → i < 256 → j < 256 → «at» (pair_table_room c out) (256 * i + j) ≡ inner (layer_at 2 i) (layer_at 2 j)
  pair-holds i j h k = ap (λ (t : List ℤ). «at» t (256 * i + j)) pair-filled.1 ∙ pair_table-at (drop pair_size out) i j h k

  -- and what follows it stays
  pub pair-rest : drop pair_size (pair_table_room c out) ≡ drop pair_size out
  pair-rest = ap (drop pair_size) pair-filled.1 ∙ drop_at pair_table (drop pair_size out) pair_size pair_table-long

-- ---- the query table as it is filled

module _ (c : Settings) (h : Hour) (out : List ℤ) where
  -- a refusal leaves it as found
  pub query-refused : (r : Refusal) → check_query_table c h (length out) ≡ Err r → query_table_room c h out ≡ out
  unfolding query_table_room
  query-refused r e = ap (λ (v : Verdict). written v (query_table (nat_abs c.q) (units_taken h.readings)) out) e

  -- where all else is allowed, the verdict is that of the readings
  module _ (asked : query_table_asked c h (length out) ≡ Ok tt) (i : ℕ) (d : Measured) (within : i < length h.readings) (before : AllUnits i h.readings d) where
    last : (r : Refusal) → check_readings 0 h.readings ≡ Err r → check_query_table c h (length out) ≡ Err r
    last r e = query-table-is c h (length out) (Ok tt) asked ∙ first-last (check_readings 0 h.readings) ∙ e

    -- the first that is missing is named by 4
    pub null-refused : get_or h.readings i d ≡ Err fault.Missing → check_query_table c h (length out) ≡ Err (Missing i)
    null-refused e = last (Missing i) (first-missing i h.readings d within before e)

    -- the first that is out of range by 5
    pub beyond-refused : get_or h.readings i d ≡ Err fault.OutOfRange → check_query_table c h (length out) ≡ Err (OutOfRange i)
    beyond-refused e = last (OutOfRange i) (first-beyond i h.readings d within before e)

  module _ (sound : Sound h) (ok : check_query_table c h (length out) ≡ Ok tt) where
    abbrev q : ℕ
    q = nat_abs c.q

    abbrev X : List ℤ
    X = units_taken h.readings

    abbrev K : ℕ
    K = blocks_of h

    -- what was filled in was allowed, and taken whole
    pub fill-taken : QueryTableTaken c h (length out)
    fill-taken = query-table-taken c h (length out) sound ok

    count : length X / 8 ≡ K
    count = ap (λ (n : ℕ). n / 8) fill-taken.whole

    table-long : length (query_table q X) ≡ part_size q * K
    table-long = query_table-long q X ∙ ap (λ (n : ℕ). part_size q * n) count

    -- the answer is K·q^8, and the table stands in front of what was found
    pub query-filled : (query_filled c h (length out) ≡ valued (Ok tt) (pos (part_size q * K))) × (query_table_room c h out ≡ query_table q X ++ drop (part_size q * K) out)
    unfolding query_filled query_table_room
    query-filled = (
      ap (λ (v : Verdict). valued v (pos (part_size q * K))) ok,
      ap (λ (v : Verdict). written v (query_table q X) out) ok ∙ ap (λ (n : ℕ). query_table q X ++ drop n out) table-long,
    )

    -- entry q^8 k + i is the sum of X_j·e_j over the readings of block k and the layer point i
    pub query-holds : (k i : ℕ) → k < K → i < part_size q → «at» (query_table_room c h out) (part_size q * k + i) ≡ dot (take 8 (drop (8 * k) X)) (layer_at q i)
    query-holds k i l j = ap (λ (t : List ℤ). «at» t (part_size q * k + i)) query-filled.1 ∙ query_table-at q X (drop (part_size q * K) out) k i (omega (arith, count)) j

    -- and what follows it stays
    pub query-rest : drop (part_size q * K) (query_table_room c h out) ≡ drop (part_size q * K) out
    query-rest = ap (drop (part_size q * K)) query-filled.1 ∙ drop_at (query_table q X) (drop (part_size q * K) out) (part_size q * K) table-long

    -- its length does
    pub query-long : length (query_table_room c h out) ≡ length out
    query-long = ap length query-filled.1 ∙ simp (length-append, length-drop) (omega (arith, table-long, fill-taken.fits))

-- the first NaN of a query that is an fvecs record is named by 4
pub nan-refused : (c : Settings) (r : List ℕ) (out : List ℤ) (i : ℕ) → query_table_asked c (fvecs_hour r) (length out) ≡ Ok tt → i < word_at r 0
    → ((j : ℕ) → j < i → (X : ℤ) × (measure_at r (4 + 4 * j) ≡ Ok X)) → nan_bits binary32 (word_at r (4 + 4 * i)) ≡ true → check_query_table c (fvecs_hour r) (length out) ≡ Err (Missing i)
nan-refused c r out i asked h before e = let d : Measured = Err fault.Missing in
    null-refused c (fvecs_hour r) out asked i d (omega (arith, fvecs-count r)) (λ j k. ((before j k).0, fvecs-reading r j d (omega arith) ∙ (before j k).1)) (fvecs-reading r i d h ∙ word-missing r i e)
