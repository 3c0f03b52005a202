-- `search_units_by` answers the store's refusal, and else fills the table and answers the best of the records.
use Rattle.std.specs.Prelude.{Ok}
use Rattle.refusals.specs.Verdicts.{Verdict}
use Rattle.std.proofs.Common.{◌≡◌, sym, ◌∙◌, ap, ap₂, subst, List, ◌++◌, map, ℕ, ◌*◌, ◌/◌, ◌^◌, ◌≤◌, ℤ, nat_abs, length, drop, arith, w64, to_z, of_z}
use mathlib.Core.Path.{subst₂}
use mir.Val.{SFits}
use mir.Facts.{to_z-of_z}
use Rattle.integers.specs.Vectors.{Sized}
use Rattle.layers.specs.Digits.{joined, cut}
use Rattle.layers.specs.Sizes.{Base}
use Rattle.records.specs.Eight.Codes.{Coder}
use Rattle.records.specs.Eight.Vectors.{UnitsTaken}
use Rattle.records.specs.Laws.Frames.{blocks-whole}
use Rattle.records.specs.Frames.{Whole}
use Rattle.refusals.specs.Answers.{written}
use Rattle.refusals.specs.Limits.{blocks_most}
use Rattle.tables.specs.Laws.Entries.{query_table-long}
use Rattle.tables.specs.Tables.{query_most, part_size, query_part, query_table}
use Rattle.stores.specs.Laws.Asked.{store-taken}
use Rattle.stores.specs.Stores.{check_store, StoreTaken}
use Rattle.stores.specs.Tabled.{LookUp}
use Rattle.stores.proofs.tabled.search_units_by.Goals as goal

-- the readings
module _ (X : List ℤ) (u : UnitsTaken X) where
  abbrev K : ℕ
  K = length X / 8

  whole-x : Whole 8 1 blocks_most (length X)
  whole-x = blocks-whole 8 1 blocks_most (length X) u.whole

  sized : Sized (8 * K) (2 ^ 24) X
  sized = record { long = whole-x.times; small = u.small }

-- the table as it is filled
module _ (X : List ℤ) (z q : ℤ) (e : z ≡ q) (out filled : List ℤ)
    (f : filled ≡ joined (map (query_part (nat_abs z)) (cut 8 (length X / 8) X)) ++ drop (part_size (nat_abs z) * (length X / 8)) out) where
  filled_is : filled ≡ query_table (nat_abs q) X ++ drop (part_size (nat_abs q) * (length X / 8)) out
  unfolding query_table
  filled_is = f ∙ ap (λ (z : ℤ). joined (map (query_part (nat_abs z)) (cut 8 (length X / 8) X)) ++ drop (part_size (nat_abs z) * (length X / 8)) out) e

  look-up : nat_abs q ≤ query_most → LookUp (nat_abs z) X filled
  look-up most = subst (λ (z : ℤ). LookUp (nat_abs z) X filled) (sym e) (λ h. (most, (drop (part_size (nat_abs q) * (length X / 8)) out, filled_is)))

  room-is : (v : Verdict) → Ok tt ≡ v → filled ≡ written v (query_table (nat_abs q) X) out
  room-is v a = filled_is ∙ ap (λ (n : ℕ). query_table (nat_abs q) X ++ drop n out) (sym (query_table-long (nat_abs q) X)) ∙ ap (λ (v : Verdict). written v (query_table (nat_abs q) X) out) a

pub check_store-requires : goal.check_store-requires
check_store-requires c = (omega (arith, c.layers-m.ensures, c.requires.0.allowed.m-most), (whole-x c.args.x.now c.requires.1).few)

pub fill_blocks-requires : goal.fill_blocks-requires
fill_blocks-requires c = let a = c.args in let X = a.x.now in let f : SFits w64 c.base-q.result = record { sfits = c.base-q.type_inv } in let q-is = to_z-of_z f ∙ c.base-q.ensures in
    subst (λ (z : ℤ). Base z × (nat_abs z ≤ query_most) × Sized (8 * K X c.requires.1) (2 ^ 24) X × (part_size (nat_abs z) * K X c.requires.1 ≤ length a.entries.now) × (K X c.requires.1 ≤ 64)) (sym q-is) (
      c.requires.0.coder.base,
      c.requires.2,
      sized X c.requires.1,
      c.requires.3,
      (whole-x X c.requires.1).few,
    )

pub best_body-requires : goal.best_body-requires
best_body-requires c = let a = c.args in let X = a.x.now in let n : ℕ = length X / 8 in
    let f : SFits w64 c.base-q.result = record { sfits = c.base-q.type_inv } in let q-is = to_z-of_z f ∙ c.base-q.ensures in let m-is = c.layers-m.ensures in
    let t : StoreTaken (length a.steps.now) (nat_abs a.s.q) (nat_abs a.s.m) n a.store.now =
    store-taken (length a.steps.now) (nat_abs a.s.q) (nat_abs a.s.m) n a.store.now (sym (c.in_ok-check_store.ensures ∙ ap₂ (λ (q m : ℕ). check_store (length a.steps.now) q m n a.store.now) c.digit_values.ensures m-is)) in (
      look-up X (to_z w64 (of_z w64 c.base-q.result)) a.s.q q-is a.entries.now c.fill_blocks.new.entries c.fill_blocks.ensures c.requires.2,
      subst₂ (λ (z : ℤ) (m : ℕ). Coder z m a.steps.now) (sym q-is) (sym m-is) c.requires.0.coder,
      sized X c.requires.1,
      subst₂ (λ (z : ℤ) (m : ℕ). StoreTaken (length a.steps.now) (nat_abs z) m n a.store.now) (sym q-is) (sym m-is) t,
      (whole-x X c.requires.1).few,
    )

pub returns-clause-room : goal.returns-clause-room
returns-clause-room c = let a = c.args in let X = a.x.now in
    let f : SFits w64 c.base-q.result = record { sfits = c.base-q.type_inv } in
    room-is X (to_z w64 (of_z w64 c.base-q.result)) a.s.q (to_z-of_z f ∙ c.base-q.ensures) a.entries.now c.fill_blocks.new.entries c.fill_blocks.ensures _
    (c.in_ok-check_store.ensures ∙ ap₂ (λ (q m : ℕ). check_store (length a.steps.now) q m (length X / 8) a.store.now) c.digit_values.ensures c.layers-m.ensures)
