-- What scoring by table says: over a table as filling leaves it the whole answer is that of the plain score.
use Rattle.std.specs.Prelude.{◌≡◌, refl, Bool, List, [], ◌++◌, ℕ, ◌+◌, ◌*◌, ◌/◌, ◌≤◌, ℤ, pos, nat_abs, length, get_or, drop, Ok, Err}
use Rattle.std.proofs.Common.{sym, ◌∙◌, ap, subst, arith, le-leb, length-append}
use Rattle.layers.specs.Digits.{IsCode}
use Rattle.records.specs.Eight.Codes.{blocks_in, code_blocks}
use Rattle.records.specs.Laws.Frames.{blocks-whole}
use Rattle.records.specs.Frames.{Whole}
use Rattle.records.proofs.Eight.Hours.{Sound}
use Rattle.records.specs.Eight.Vectors.{Hour, units_taken, blocks_of}
use Rattle.refusals.specs.declared.settings.Settings.{Settings}
use Rattle.refusals.specs.declared.Refusal.TheVariants.{Table, Size}
use Rattle.refusals.specs.Answers.{valued}
use Rattle.refusals.specs.Limits.{blocks_most}
use Rattle.refusals.specs.Verdicts.{unless, Verdict}
use Rattle.scores.specs.Eight.Asked.{taken-block}
use Rattle.scores.specs.Eight.Pair.{pair-taken}
use Rattle.scores.specs.Eight.Query.{query-taken}
use Rattle.scores.specs.Eight.Scores.{pair_total, query_total, check_pair, check_query, pair_score, query_score}
use Rattle.tables.specs.Filling.{check_table, check_entries, check_pair_table, pair_table_room, check_query_table, query_table_room}
use Rattle.tables.specs.Laws.Entries.{pair_table-long}
use Rattle.tables.proofs.Laws.Filling.{pair-table-taken}
use Rattle.lookups.proofs.Laws.Same.{pair-totals, query-totals}
use Rattle.lookups.specs.Laws.Scoring.{pair-by-same, query-by-same}
use Rattle.lookups.specs.Scoring.{pair_total_by, pair_score_by, query_total_by, query_score_by}
use Rattle.tables.specs.Tables.{pair_size, part_size, pair_table, query_table}
use Rattle.tables.proofs.Laws.Theorems.{pair-filled, fill-taken, query-filled, query-long}

-- ---- by the pair table

-- answers of one verdict, whose values are the same where it accepts
valued_same : (v : Verdict) (x y : ℤ) → (v ≡ Ok tt → x ≡ y) → valued v x ≡ valued v y
valued_same (Ok u) x y h = ap (valued (Ok tt)) (h refl)
valued_same (Err r) x y h = refl

-- the whole answer, refusals among them, is that of the plain score
pub pair-score-same : (c : Settings) (steps : List ℤ) (b : List ℕ) (steps' : List ℤ) (b' : List ℕ) (rest : List ℤ) → c.q ≡ pos 2
    → pair_score_by c steps b steps' b' (pair_table ++ rest) ≡ pair_score c steps b steps' b'
unfolding pair_score_by Rattle.scores.specs.Scores.pair_score
pair-score-same c steps b steps' b' rest two =
    let t : List ℤ = pair_table ++ rest in let q : ℕ = nat_abs c.q in let m : ℕ = nat_abs c.m in let is : q ≡ 2 = ap nat_abs two in
    let table : check_table 2 c ≡ Ok tt = ap (λ (t : Bool). unless t Table) (le-leb q 2 (omega arith)) in
    let long : check_entries pair_size (length t) ≡ Ok tt = ap (λ (t : Bool). unless t (Size 2)) (le-leb pair_size (length t) (simp length-append (omega (arith, pair_table-long)))) in
    let same = pair-by-same c steps b steps' b' (length t) table long in
    ap (λ (v : Verdict). valued v (pair_total_by m steps steps' t b b')) same ∙ valued_same (check_pair c steps b steps' b') (pair_total_by m steps steps' t b b') (pair_total q m steps steps' b b')
    (λ e. let p = pair-taken c steps b steps' b' e in
    pair-totals rest m steps steps' b b' (λ i k. subst (λ (q : ℕ). IsCode 8 q m (drop 1 (get_or (code_blocks m b) i []))) is (taken-block (length steps) q m 1 blocks_most b p.code i k).code)
    (λ i k. subst (λ (q : ℕ). IsCode 8 q m (drop 1 (get_or (code_blocks m b') i []))) is (taken-block (length steps') q m (blocks_in m b) (blocks_in m b) b' p.other i k).code)
    ∙ ap (λ (q : ℕ). pair_total q m steps steps' b b') (sym is))

-- so over a table that was filled with any settings
pub pair-score-filled : (f : Settings) (out : List ℤ) → check_pair_table f (length out) ≡ Ok tt → (c : Settings) (steps : List ℤ) (b : List ℕ) (steps' : List ℤ) (b' : List ℕ) → c.q ≡ f.q
    → pair_score_by c steps b steps' b' (pair_table_room f out) ≡ pair_score c steps b steps' b'
pair-score-filled f out ok c steps b steps' b' e =
    let h = pair-table-taken f (length out) ok in let two : nat_abs f.q ≡ 2 = omega (arith, h.two, h.allowed.q-least) in
    ap (pair_score_by c steps b steps' b') (pair-filled f out ok).1 ∙ pair-score-same c steps b steps' b' (drop pair_size out) (e ∙ sym h.allowed.q-whole ∙ ap pos two)

-- ---- by the query table

-- over a table that was filled for the query with any settings of that q, the whole answer for a record of as many blocks is that of the plain score
pub query-score-filled : (f : Settings) (h : Hour) (out : List ℤ) → Sound h → check_query_table f h (length out) ≡ Ok tt → (c : Settings) (steps : List ℤ) (b : List ℕ) → c.q ≡ f.q
    → blocks_in (nat_abs c.m) b ≡ blocks_of h → query_score_by c steps b (query_table_room f h out) ≡ query_score c steps h b
unfolding query_score_by Rattle.scores.specs.Scores.query_score
query-score-filled f h out sound ok c steps b e same =
    let q : ℕ = nat_abs c.q in let m : ℕ = nat_abs c.m in let K : ℕ = blocks_of h in let X : List ℤ = units_taken h.readings in let t : List ℤ = query_table_room f h out in
    let k = fill-taken f h out sound ok in let w : Whole 8 1 blocks_most (length X) = blocks-whole 8 1 blocks_most (length X) k.units.whole in let n : length X / 8 ≡ K = ap (λ (n : ℕ). n / 8) k.whole in
    let is : nat_abs f.q ≡ q = ap nat_abs (sym e) in let room : length t ≡ length out = query-long f h out sound ok in
    let long : part_size q * K ≤ length t = subst (λ (r : ℕ). part_size q * K ≤ r) (sym room) (subst (λ (q : ℕ). part_size q * K ≤ length out) is k.fits) in
    ap (λ (v : Verdict). valued v (query_total_by q m steps t b)) (query-by-same c steps h b (length t) same (omega (arith, n, w.some)) (omega (arith, n, w.few)) (omega (arith, is, k.most)) long k.framed k.taken)
    ∙ valued_same (check_query c steps h b) (query_total_by q m steps t b) (query_total q m steps X b)
    (λ a. let d = (query-taken c steps h b sound a).code in
    ap (λ (t : List ℤ). query_total_by q m steps t b) ((query-filled f h out sound ok).1 ∙ ap (λ (q : ℕ). query_table q X ++ drop (part_size (nat_abs f.q) * K) out) is)
    ∙ query-totals q m steps X (drop (part_size (nat_abs f.q) * K) out) b (same ∙ sym n) (λ i l. (taken-block (length steps) q m K K b d i l).code))
