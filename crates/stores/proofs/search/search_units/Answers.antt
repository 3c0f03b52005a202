-- `search_units` answers the store's refusal, and else the best of its records, each of as many blocks as X.
use Rattle.std.proofs.Common.{sym, ◌∙◌, ap₂, List, ℕ, ◌/◌, ℤ, nat_abs, length, arith, w64}
use mathlib.Core.Path.{subst₂}
use mir.Val.{SFits}
use mir.Facts.{to_z-of_z}
use Rattle.records.specs.Eight.Codes.{Coder}
use Rattle.records.specs.Eight.Vectors.{UnitsTaken}
use Rattle.records.specs.Laws.Frames.{blocks-whole}
use Rattle.records.specs.Frames.{Whole}
use Rattle.refusals.specs.Limits.{blocks_most}
use Rattle.stores.specs.Laws.Asked.{store-taken}
use Rattle.stores.specs.Stores.{check_store, StoreTaken}
use Rattle.stores.proofs.search.search_units.Goals as goal

whole-x : (X : List ℤ) → UnitsTaken X → Whole 8 1 blocks_most (length X)
whole-x X u = blocks-whole 8 1 blocks_most (length X) u.whole

pub check_store-requires : goal.check_store-requires
check_store-requires c = (omega (arith, c.layers-m.ensures, c.requires.0.allowed.m-most), (whole-x c.args.x.now c.requires.1).few)

pub best_body-requires : goal.best_body-requires
best_body-requires c = let a = c.args in let w = whole-x a.x.now c.requires.1 in let K : ℕ = length a.x.now / 8 in
    let f : SFits w64 c.base.result = record { sfits = c.base.type_inv } in let q-is = to_z-of_z f ∙ c.base.ensures in let m-is = c.layers-m.ensures in
    let t : StoreTaken (length a.steps.now) (nat_abs a.s.q) (nat_abs a.s.m) K a.store.now =
    store-taken (length a.steps.now) (nat_abs a.s.q) (nat_abs a.s.m) K a.store.now (sym (c.in_ok-check_store.ensures ∙ ap₂ (λ (q m : ℕ). check_store (length a.steps.now) q m K a.store.now) c.digit_values.ensures m-is)) in (
      (λ h. absurd (omega (arith, h))),
      subst₂ (λ (z : ℤ) (m : ℕ). Coder z m a.steps.now) (sym q-is) (sym m-is) c.requires.0.coder,
      record { long = w.times; small = c.requires.1.small },
      subst₂ (λ (z : ℤ) (m : ℕ). StoreTaken (length a.steps.now) (nat_abs z) m K a.store.now) (sym q-is) (sym m-is) t,
      w.few,
    )
