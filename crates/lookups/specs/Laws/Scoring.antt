-- The order of scoring by table, and what it says that records and a table were taken.
use Rattle.std.specs.Prelude.{◌≡◌, refl, Bool, ℤ, pos, nat_abs, length, Ok}
use Rattle.std.proofs.Common.{sym, ◌∙◌, subst, arith}
use Rattle.std.proofs.Math.Path.{ap, ap₂}
use mathlib.Core.List.{List, [], ◌∷◌, ◌++◌}
use Prim.Native.Nat.{ℕ, ◌*◌, ◌≤◌}
use borrow.Author.Tests.{le-leb}
use Rattle.records.specs.Eight.Codes.{block_size, blocks_in, code_blocks, check_frame, check_blocks}
use Rattle.records.specs.Frames.{whole_blocks, good_record}
use Rattle.records.specs.Eight.Asked.{RecordTaken, record-taken}
use Rattle.records.specs.Eight.Vectors.{Hour, check_readings, blocks_of}
use Rattle.refusals.specs.declared.settings.Settings.{Settings}
use Rattle.refusals.specs.declared.Refusal.TheVariants.{Table, Size, Record}
use Rattle.refusals.specs.Laws.Verdicts.{first-accepted, first-append, first_group}
use Rattle.refusals.specs.Limits.{blocks_most}
use Rattle.refusals.specs.Settings.{check_settings}
use Rattle.refusals.specs.Steps.{check_steps}
use Rattle.refusals.specs.Verdicts.{unless, first_refusal, Verdict}
use Rattle.scores.specs.Eight.Pair.{PairTaken, pair-taken}
use Rattle.scores.specs.Eight.Scores.{check_code, check_pair, check_query}
use Rattle.tables.specs.Filling.{check_table, check_entries}
use Rattle.tables.proofs.Laws.Filling.{table_taken, entries-taken}
use Rattle.lookups.specs.Scoring.{check_pair_by, record_by, check_query_by}
use Rattle.tables.specs.Tables.{pair_most, query_most, pair_size, part_size}

-- a check that accepts may be left out
pub first-without : (a c : List Verdict) → first_refusal (a ++ (Ok tt ∷ c)) ≡ first_refusal (a ++ c)
first-without a c = sym (first_group a [] c)

-- ---- by the pair table

module _ (c : Settings) (steps : List ℤ) (b : List ℕ) (steps' : List ℤ) (b' : List ℕ) (room : ℕ) where
  abbrev q : ℕ
  q = nat_abs c.q

  abbrev m : ℕ
  m = nat_abs c.m

  abbrev coder : List Verdict
  coder = check_settings c ∷ check_steps 0 steps ∷ []

  abbrev table : Verdict
  table = check_table pair_most c

  abbrev long : Verdict
  long = check_entries pair_size room

  abbrev here : Verdict
  here = check_code (length steps) q m 1 blocks_most 0 0 b

  abbrev there : Verdict
  there = check_code (length steps') q m (blocks_in m b) (blocks_in m b) 0 0 b'

  -- the first two checks as one, the second list, the table, and both records as one
  pub pair-by-is : (v w u : Verdict) → first_refusal coder ≡ v → check_steps 1 steps' ≡ w → first_refusal (table ∷ long ∷ []) ≡ u
      → check_pair_by c steps b steps' b' room ≡ first_refusal (v ∷ w ∷ u ∷ first_refusal (here ∷ there ∷ []) ∷ [])
  unfolding check_pair_by
  pair-by-is v w u d e f =
      first-append coder (check_steps 1 steps' ∷ table ∷ long ∷ here ∷ there ∷ [])
      ∙ ap₂ (λ (v w : Verdict). first_refusal (v ∷ w ∷ table ∷ long ∷ here ∷ there ∷ [])) d e
      ∙ first_group (v ∷ w ∷ []) (table ∷ long ∷ []) (here ∷ there ∷ [])
      ∙ ap (λ (u : Verdict). first_refusal (v ∷ w ∷ u ∷ here ∷ there ∷ [])) f
      ∙ first_group (v ∷ w ∷ u ∷ []) (here ∷ there ∷ []) []

  -- where q is 2 and the table is long enough, the order is that of the plain score
  pub pair-by-same : table ≡ Ok tt → long ≡ Ok tt → check_pair_by c steps b steps' b' room ≡ check_pair c steps b steps' b'
  unfolding check_pair_by Rattle.scores.specs.Scores.check_pair
  pair-by-same e f = let before : List Verdict = check_settings c ∷ check_steps 0 steps ∷ check_steps 1 steps' ∷ [] in
      ap₂ (λ (t l : Verdict). first_refusal (before ++ (t ∷ l ∷ here ∷ there ∷ []))) e f
      ∙ first-without before (Ok tt ∷ here ∷ there ∷ []) ∙ first-without before (here ∷ there ∷ [])

  -- settings for the table, both records, and a table that is long enough
  pub record PairByTaken : Type 0 where
    pub pair : PairTaken c steps b steps' b'
    pub two : c.q ≡ pos 2
    pub fits : pair_size ≤ room

  -- the table's own checks accept
  table-accepted : check_pair_by c steps b steps' b' room ≡ Ok tt → (table ≡ Ok tt) × (long ≡ Ok tt)
  table-accepted e =
      let lent : Verdict = first_refusal (table ∷ long ∷ []) in let codes : Verdict = first_refusal (here ∷ there ∷ []) in
      let s = first-accepted (first_refusal coder) (check_steps 1 steps' ∷ lent ∷ codes ∷ []) (sym (pair-by-is (first_refusal coder) (check_steps 1 steps') lent refl refl refl) ∙ e) in
      let l = first-accepted (check_steps 1 steps') (lent ∷ codes ∷ []) s.1 in let t = first-accepted lent (codes ∷ []) l.1 in
      let u = first-accepted table (long ∷ []) t.0 in (u.0, (first-accepted long [] u.1).0)

  -- an accepted score has them
  pub pair-by-taken : check_pair_by c steps b steps' b' room ≡ Ok tt → PairByTaken
  pair-by-taken e =
      let t = table-accepted e in let p = pair-taken c steps b steps' b' (sym (pair-by-same t.0 t.1) ∙ e) in let a = p.first.allowed in
      let two : nat_abs c.q ≡ 2 = omega (arith, a.q-least, table_taken pair_most c t.0) in
      record { pair = p; two = sym a.q-whole ∙ ap pos two; fits = entries-taken pair_size room t.1 }

-- ---- by the query table

module _ (steps q m : ℕ) (b : List ℕ) (room : ℕ) where
  -- the record and the table, by what each check says
  pub record-by-is : (f : Bool) (w : Verdict) → good_record 1 (block_size m) 1 blocks_most b ≡ f → check_entries (part_size q * blocks_in m b) room ≡ w
      → record_by steps q m b room ≡ first_refusal (unless f (Record 0) ∷ w ∷ check_blocks steps q (block_size m) 0 (code_blocks m b) ∷ [])
  unfolding record_by
  record-by-is f w e g = ap₂ (λ (f : Bool) (w : Verdict). first_refusal (unless f (Record 0) ∷ w ∷ check_blocks steps q (block_size m) 0 (code_blocks m b) ∷ [])) e g

  -- an accepted record is a good one, and the table is long enough for it
  pub record-by-taken : record_by steps q m b room ≡ Ok tt → RecordTaken steps q m 1 blocks_most b × (part_size q * blocks_in m b ≤ room)
  unfolding record_by
  record-by-taken e =
      let long : Verdict = check_entries (part_size q * blocks_in m b) room in let bytes : Verdict = check_blocks steps q (block_size m) 0 (code_blocks m b) in
      let f = first-accepted (check_frame m 1 blocks_most 0 b) (long ∷ bytes ∷ []) e in let l = first-accepted long (bytes ∷ []) f.1 in
      (record-taken steps q m 1 blocks_most 0 0 b f.0 (first-accepted bytes [] l.1).0, entries-taken (part_size q * blocks_in m b) room l.0)

module _ (c : Settings) (steps : List ℤ) (b : List ℕ) (room : ℕ) where
  abbrev rest : Verdict
  rest = record_by (length steps) (nat_abs c.q) (nat_abs c.m) b room

  -- the first two checks as one, q, then the record and the table
  pub query-by-is : (v w : Verdict) → first_refusal (check_settings c ∷ check_steps 0 steps ∷ []) ≡ v → check_table query_most c ≡ w → check_query_by c steps b room ≡ first_refusal (v ∷ w ∷ rest ∷ [])
  unfolding check_query_by
  query-by-is v w d e =
      first-append (check_settings c ∷ check_steps 0 steps ∷ []) (check_table query_most c ∷ rest ∷ []) ∙ ap₂ (λ (v w : Verdict). first_refusal (v ∷ w ∷ rest ∷ [])) d e

-- ---- a record of exactly K blocks

module _ (m K : ℕ) (b : List ℕ) (count : blocks_in m b ≡ K) (some : 1 ≤ K) (few : K ≤ blocks_most) where
  -- its frame is good where that of any K is
  exact-frame : check_frame m K K 0 b ≡ check_frame m 1 blocks_most 0 b
  unfolding good_record whole_blocks
  exact-frame = let k : ℕ = blocks_in m b in
      rw (le-leb K k (omega arith), le-leb k K (omega arith), le-leb 1 k (omega arith), le-leb k blocks_most (omega arith))

  -- so where the table is long enough, it is checked as in the plain score
  pub record-by-same : (steps q room : ℕ) → part_size q * K ≤ room → record_by steps q m b room ≡ check_code steps q m K K 0 0 b
  unfolding record_by Rattle.scores.specs.Scores.check_code
  record-by-same steps q room h =
      let bytes : Verdict = check_blocks steps q (block_size m) 0 (code_blocks m b) in
      let long : check_entries (part_size q * blocks_in m b) room ≡ Ok tt = ap (λ (t : Bool). unless t (Size 2)) (le-leb (part_size q * blocks_in m b) room (subst (λ (k : ℕ). part_size q * k ≤ room) (sym count) h)) in
      ap₂ (λ (f l : Verdict). first_refusal (f ∷ l ∷ bytes ∷ [])) (sym exact-frame) long ∙ first-without (check_frame m K K 0 b ∷ []) (bytes ∷ [])

-- where q is one that the table is for and the query was taken, the order is that of the plain score
pub query-by-same : (c : Settings) (steps : List ℤ) (h : Hour) (b : List ℕ) (room : ℕ) → let K = blocks_of h in blocks_in (nat_abs c.m) b ≡ K → 1 ≤ K → K ≤ blocks_most → nat_abs c.q ≤ query_most
    → part_size (nat_abs c.q) * K ≤ room → h.frame ≡ Ok tt → check_readings 0 h.readings ≡ Ok tt → check_query_by c steps b room ≡ check_query c steps h b
unfolding check_query_by Rattle.scores.specs.Scores.check_query
query-by-same c steps h b room count some few most long e f =
    let q : ℕ = nat_abs c.q in let m : ℕ = nat_abs c.m in let K : ℕ = blocks_of h in let before : List Verdict = check_settings c ∷ check_steps 0 steps ∷ [] in
    let code : Verdict = check_code (length steps) q m K K 0 0 b in let table : check_table query_most c ≡ Ok tt = ap (λ (t : Bool). unless t Table) (le-leb q query_most most) in
    ap₂ (λ (t r : Verdict). first_refusal (before ++ (t ∷ r ∷ []))) table (record-by-same m K b count some few (length steps) q room long) ∙ first-without before (code ∷ [])
    ∙ sym (ap₂ (λ (f r : Verdict). first_refusal (before ++ (f ∷ r ∷ code ∷ []))) e f ∙ first-without before (Ok tt ∷ code ∷ []) ∙ first-without before (code ∷ []))
