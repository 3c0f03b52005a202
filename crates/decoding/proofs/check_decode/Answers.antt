-- `check_decode` is the list of checks, test by test; the first two are made as one.
use Rattle.std.specs.Prelude.{Err}
use Rattle.std.proofs.Common.{rules}
use mathlib.Core.Path.{◌≡◌, refl, sym, ◌∙◌, ap, ap₂, subst₂}
use mathlib.Core.Bool.{Bool, true}
use mathlib.Core.List.{List, [], ◌∷◌}
use Prim.Native.Nat.{ℕ, ◌*◌, ◌≤◌}
use native.Mathlib.Omega.{arith}
use borrow.Author.Tests.{le-leb, lt-leb}
use lib.Dec.{leb}
use lib.IntN.{ℤ, nat_abs}
use lib.ListN.{length, drop, length-drop}
use Rattle.integers.specs.Laws.Loops.{rest-whole}
use Rattle.refusals.specs.declared.Refusal.TheVariants.{Size, Record}
use Rattle.refusals.specs.declared.settings.Settings.{Settings}
use Rattle.refusals.specs.Laws.Verdicts.{first-last, first-append}
use Rattle.refusals.specs.Limits.{blocks_most}
use Rattle.refusals.specs.Settings.{check_settings}
use Rattle.refusals.specs.Steps.{check_steps}
use Rattle.refusals.specs.Verdicts.{unless, first_refusal, Verdict}
use Rattle.layers.specs.Digits.{cut}
use Rattle.records.specs.Eight.Codes.{block_size, blocks_in, code_blocks, check_blocks}
use Rattle.decoding.specs.Decode.{fvecs_length, check_decode}
use Rattle.records.specs.Frames.{good_record, Framed}
use Rattle.records.specs.Eight.Asked.{CoderTaken, coder-accepted, frame-holds}
use Rattle.records.specs.Laws.Frames.{record-framed}
use Rattle.decoding.proofs.check_decode.Goals as goal
use Rattle.decoding.proofs.check_decode.Goals.{In_ok-check_coder, Then-good_record, After-blocks_in-k}

-- the checks after the first two, by what each says
abbrev checks : Verdict → Bool → Bool → Verdict → Verdict
checks first framed roomy bytes = first_refusal (first ∷ unless framed (Record 0) ∷ unless roomy (Size 1) ∷ bytes ∷ [])

module _ (s : Settings) (steps : List ℤ) (code : List ℕ) (room : ℕ) where
  abbrev m : ℕ
  m = nat_abs s.m

  abbrev bytes : Verdict
  bytes = check_blocks (length steps) (nat_abs s.q) (block_size m) 0 (code_blocks m code)

  decided : (v : Verdict) (f r : Bool) → first_refusal (check_settings s ∷ check_steps 0 steps ∷ []) ≡ v → good_record 1 (block_size m) 1 blocks_most code ≡ f → leb (fvecs_length (blocks_in m code)) room ≡ r → check_decode s steps code room ≡ checks v f r bytes
  unfolding check_decode
  decided v f r d e g =
      let framed : Bool = good_record 1 (block_size m) 1 blocks_most code in let roomy : Bool = leb (fvecs_length (blocks_in m code)) room in
      first-append (check_settings s ∷ check_steps 0 steps ∷ []) (unless framed (Record 0) ∷ unless roomy (Size 1) ∷ bytes ∷ [])
      ∙ ap (λ (v : Verdict). checks v framed roomy bytes) d ∙ ap₂ (λ (f r : Bool). checks v f r bytes) e g

-- the settings and the steps are accepted
module _ (c : In_ok-check_coder) where
  taken : CoderTaken c.args.s c.args.steps.now
  taken = coder-accepted c.args.s c.args.steps.now (sym c.check_coder.ensures ∙ c.in_ok-check_coder.was)

-- the frame is good
module _ (c : Then-good_record) where
  abbrev size : ℕ
  size = block_size (nat_abs c.args.s.m)

  size_is : c.block_size-size.result ≡ size
  size_is = c.block_size-size.ensures ∙ ap block_size c.layers-m.ensures

  good : good_record 1 size 1 blocks_most c.args.code.now ≡ true
  good = ap (λ (n : ℕ). good_record 1 n 1 blocks_most c.args.code.now) (sym size_is) ∙ sym c.good_record.ensures ∙ c.if-good_record.true

  frame : Framed 1 size 1 blocks_most c.args.code.now
  frame = record-framed 1 size 1 blocks_most c.args.code.now good

module _ (c : After-blocks_in-k) where
  abbrev K : ℕ
  K = blocks_in (nat_abs c.args.s.m) c.args.code.now

  k-is : c.blocks_in-k.result ≡ K
  k-is = c.blocks_in-k.ensures ∙ ap (λ (m : ℕ). blocks_in m c.args.code.now) c.layers-m.ensures

pub layers-m-requires : goal.layers-m-requires
layers-m-requires c = (taken c).allowed

pub block_size-size-requires : goal.block_size-size-requires
block_size-size-requires c = omega (arith, c.layers-m.ensures, (taken (goal.at.block_size-size-requires c).In_ok-check_coder).allowed.m-most)

pub blocks_in-k-requires : goal.blocks_in-k-requires
blocks_in-k-requires c = let w = goal.at.blocks_in-k-requires c in (omega (arith, c.layers-m.ensures, (taken w.In_ok-check_coder).allowed.m-most), (frame w.Then-good_record).there)

pub returns-then-room-k : goal.returns-then-room-k
returns-then-room-k c = let w = goal.at.returns-then-room-k c in let b = w.After-blocks_in-k in
    sym (decided c.args.s c.args.steps.now c.args.code.now c.args.room _ _ _ (sym c.check_coder.ensures ∙ c.in_ok-check_coder.was) (good w.Then-good_record) (lt-leb (fvecs_length (K b)) c.args.room (omega (arith, k-is b, c.if-room-k.true))))

pub digit_values-q-requires : goal.digit_values-q-requires
digit_values-q-requires c = (taken (goal.at.digit_values-q-requires c).In_ok-check_coder).allowed

pub slice_bounds-check_blocks-count : goal.slice_bounds-check_blocks-count
slice_bounds-check_blocks-count c = omega (arith, (frame (goal.at.slice_bounds-check_blocks-count c).Then-good_record).there)

pub slice_bounds-check_blocks-start : goal.slice_bounds-check_blocks-start
slice_bounds-check_blocks-start c = omega (arith, (frame (goal.at.slice_bounds-check_blocks-start c).Then-good_record).there)

pub check_blocks-requires : goal.check_blocks-requires
check_blocks-requires c = let w = goal.at.check_blocks-requires c in let b = w.After-blocks_in-k in let g = w.Then-good_record in let f = c.args.code.now in
    let holds : size g * K b ≤ length (drop 4 f) = frame-holds (nat_abs c.args.s.m) 1 blocks_most f (frame g) in
    rw (rest-whole 4 f) (omega (arith, size_is g), subst₂ (λ (n k : ℕ). n * k ≤ length (drop 4 f)) (sym (size_is g)) (sym (k-is b)) holds, simp length-drop (omega arith))

pub returns-in_err-check_coder : goal.returns-in_err-check_coder
returns-in_err-check_coder c = let refused : c.from_residual.result ≡ Err c.in_err-check_coder.field-0.0 = search rules in refused ∙ (sym (decided c.args.s c.args.steps.now c.args.code.now c.args.room _ _ _ (sym c.check_coder.ensures ∙ c.in_err-check_coder.was) refl refl))

pub returns-else-room-k : goal.returns-else-room-k
returns-else-room-k c = let w = goal.at.returns-else-room-k c in let b = w.After-blocks_in-k in let g = w.Then-good_record in
    let s = c.args.s in let steps = c.args.steps.now in let f = c.args.code.now in
    c.check_blocks.ensures
    ∙ ap₂ (λ (q : ℕ) (f : List ℕ). check_blocks (length steps) q c.block_size-size.result 0 (cut c.block_size-size.result c.blocks_in-k.result f)) c.digit_values-q.ensures (rest-whole 4 f)
    ∙ ap₂ (λ (n k : ℕ). check_blocks (length steps) (nat_abs s.q) n 0 (cut n k (drop 4 f))) (size_is g) (k-is b)
    ∙ sym (decided s steps f c.args.room _ _ _ (sym c.check_coder.ensures ∙ c.in_ok-check_coder.was) (good g) (le-leb (fvecs_length (K b)) c.args.room (omega (arith, k-is b, c.if-room-k.false))) ∙ first-last (bytes s steps f c.args.room))

pub returns-else-good_record : goal.returns-else-good_record
returns-else-good_record c = let f = c.args.code.now in
    sym (decided c.args.s c.args.steps.now f c.args.room _ _ _ (sym c.check_coder.ensures ∙ c.in_ok-check_coder.was)
    (ap (λ (m : ℕ). good_record 1 (block_size m) 1 blocks_most f) (sym c.layers-m.ensures) ∙ ap (λ (n : ℕ). good_record 1 n 1 blocks_most f) (sym c.block_size-size.ensures) ∙ sym c.good_record.ensures ∙ c.if-good_record.false) refl)
