-- `report_block` reports on the point that the block's own bytes decode to, which the laws keep near its readings.
use Rattle.std.specs.Prelude.{Ok}
use Rattle.refusals.specs.Verdicts.{Verdict}
use Rattle.std.proofs.Common.{◌≡◌, [], nat_abs, ℕ, ◌+◌, ◌-◌, ◌*◌, ◌<◌, length, List, ◌++◌, get_or, ℤ, pos, take, drop, sym, ◌∙◌, ap, ap₂, subst, subst₂, arith, rules}
use lib.Seq.{take_at}
use mir.Syntax.{w32, w64}
use mir.Val.{to_z, of_z}
use mir.Facts.{to_z-of_z}
use Rattle.integers.specs.Vectors.{«at»}
use Rattle.blocks.specs.Laws.Theorems.{tried-block8, block-long8}
use Rattle.blocks.specs.Limits.{Block}
use Rattle.blocks.specs.Trials.{first_fitting, block_code, tried_room}
use Rattle.layers.specs.Code.{code8}
use Rattle.layers.specs.Digits.{IsCode}
use Rattle.layers.specs.E8.{e8, nearest, decode8}
use Rattle.records.specs.Eight.Asked.{used-steps}
use Rattle.records.specs.Eight.Codes.{Coder, whole_point}
use Rattle.encoding.specs.Laws.Encode.{fits_next}
use Rattle.reports.specs.Laws.Report.{block-code, block-reportable}
use Rattle.reports.specs.Report.{Reportables, reading_reports, block_report, reported}
use Rattle.reports.proofs.report_block.Goals as goal

-- a block that a listed step fits, where the trials left its bytes in front of others
module _ (q : ℤ) (m : ℕ) (steps X : List ℤ) (given : Block X × Coder q m steps) (t : ℕ) (t-is : t ≡ first_fitting e8 nearest (nat_abs q) m steps X) (h : t < length steps) where
  fitting : first_fitting e8 nearest (nat_abs q) m steps X < length steps
  fitting = omega (arith, t-is, h)

  abbrev code : List ℕ
  code = block_code e8 nearest (nat_abs q) m steps X

  module _ (part lent rest : List ℕ) (part-is : part ≡ tried_room e8 nearest (nat_abs q) m 0 steps X lent) (size : ℕ) (size-is : size ≡ 8 * m + 1) where
    digits-are : take (size - 1) (drop 1 (part ++ rest)) ≡ drop 1 code
    digits-are = let long = block-long8 (nat_abs q) m steps X in
        ap (λ (p : List ℕ). take (size - 1) (drop 1 (p ++ rest))) (part-is ∙ tried-block8 q m steps X given.1.base (used-steps steps given.1.listed) given.0 fitting lent)
        ∙ take_at (drop 1 code) rest (size - 1) (omega arith)

    digits-good : IsCode 8 (nat_abs q) m (take (size - 1) (drop 1 (part ++ rest)))
    digits-good = subst (IsCode 8 (nat_abs q) m) (sym digits-are) (block-code q m steps given.1 X given.0 fitting)

    point-is : decode8 (nat_abs q) m (take (size - 1) (drop 1 (part ++ rest))) ≡ whole_point (nat_abs q) m code
    point-is = ap (decode8 (nat_abs q) m) digits-are

pub decode_one-e-requires : goal.decode_one-e-requires
decode_one-e-requires c = let a = c.args in let r = c.requires.1 in simp (to_z-of_z, c.ranges.q) (
  r.base,
  omega (arith, r.power),
  digits-good a.q a.m a.steps.now a.x.now c.requires _ (simp (to_z-of_z, c.ranges.q) at c.code_block-t.ensures.answer) c.if-t-steps.false _ _ _
      (simp (to_z-of_z, c.ranges.q) at c.code_block-t.ensures.room) _ c.block_size-size.ensures,
)

pub report_readings-requires : goal.report_readings-requires
report_readings-requires c = let a = c.args in let steps = a.steps.now in let T = c.code_block-t.result in
    let same : to_z w64 (of_z w64 (to_z w32 (of_z w32 (get_or steps T (pos 0))))) ≡ get_or steps T (pos 0) = search rules in
    let t-is = simp (to_z-of_z, c.ranges.q) at c.code_block-t.ensures.answer in
    let e-is = (simp (to_z-of_z, c.ranges.q) at c.decode_one-e.ensures) ∙ point-is a.q a.m steps a.x.now c.requires T t-is c.if-t-steps.false _ _ _ (simp (to_z-of_z, c.ranges.q) at c.code_block-t.ensures.room) _ c.block_size-size.ensures in
    rw same (subst₂ (Reportables a.x.now) (sym (ap («at» steps) t-is)) (sym e-is) (block-reportable a.q a.m steps c.requires.1 a.x.now c.requires.0 (fitting a.q a.m steps a.x.now c.requires T t-is c.if-t-steps.false)))

pub returns : goal.returns
returns c = let a = c.args in let q = nat_abs a.q in let m = a.m in let steps = a.steps.now in let X = a.x.now in let T = c.code_block-t.result in
    let same : to_z w64 (of_z w64 (to_z w32 (of_z w32 (get_or steps T (pos 0))))) ≡ get_or steps T (pos 0) = search rules in
    let t-is = simp (to_z-of_z, c.ranges.q) at c.code_block-t.ensures.answer in
    let e-is = (simp (to_z-of_z, c.ranges.q) at c.decode_one-e.ensures) ∙ point-is a.q m steps X c.requires T t-is c.if-t-steps.false _ _ _ (simp (to_z-of_z, c.ranges.q) at c.code_block-t.ensures.room) _ c.block_size-size.ensures in
    let readings : c.report_readings.result ≡ block_report q m steps X = c.report_readings.ensures ∙ ap₂ (reading_reports X) (same ∙ ap («at» steps) t-is) e-is in
    ap (reported (Ok tt)) readings ∙ ap (λ (w : Verdict). reported w (block_report q m steps X)) (sym (fits_next (code8 q m) steps 0 X [] (fitting a.q m steps X c.requires T t-is c.if-t-steps.false)))
