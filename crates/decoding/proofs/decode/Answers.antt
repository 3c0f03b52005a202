-- `decode` writes the record and answers its length where nothing is refused.
use Rattle.std.proofs.Common.{rules}
use Rattle.std.specs.Prelude.{Ok}
use Rattle.refusals.specs.Verdicts.{Verdict}
use borrow.Author.Rules.{rules}
use mathlib.Core.Path.{◌≡◌, sym, ◌∙◌, ap, ap₂, subst, subst₂}
use mathlib.Core.List.{List, ◌++◌}
use Prim.Native.Nat.{ℕ, ◌≤◌}
use native.Mathlib.Omega.{arith}
use lib.IntN.{ℤ, pos, nat_abs}
use lib.ListN.{length, drop}
use mir.Syntax.{w64}
use mir.Val.{SFits}
use mir.Facts.{to_z-of_z}
use Rattle.refusals.specs.declared.settings.Settings.{Settings}
use Rattle.refusals.specs.Answers.{valued, written}
use Rattle.records.specs.Eight.Codes.{Coder, AreBlocks, blocks_in, code_blocks}
use Rattle.decoding.specs.Decode.{fvecs_length, decoded_record, check_decode, decoded, decoded_room}
use Rattle.decoding.specs.Laws.Decode.{DecodeTaken, decode-taken}
use Rattle.records.specs.Laws.Parts.{front_long}
use Rattle.decoding.proofs.decode.Goals as goal
use Rattle.decoding.proofs.decode.Goals.{In_ok-check_decode, After-layers}

-- how many bytes are written, and the record
abbrev size : Settings → List ℕ → ℕ
size s code = fvecs_length (blocks_in (nat_abs s.m) code)

abbrev whole : Settings → List ℤ → List ℕ → List ℕ
whole s steps code = decoded_record (nat_abs s.q) (nat_abs s.m) steps (blocks_in (nat_abs s.m) code) (code_blocks (nat_abs s.m) code)

-- where nothing is refused
module _ (c : In_ok-check_decode) where
  accepted : check_decode c.args.s c.args.steps.now c.args.code.now (length c.args.out.now) ≡ Ok tt
  accepted = sym c.check_decode.ensures ∙ c.in_ok-check_decode.was

  taken : DecodeTaken c.args.s c.args.steps.now c.args.code.now (length c.args.out.now)
  taken = decode-taken c.args.s c.args.steps.now c.args.code.now (length c.args.out.now) accepted

-- the number q that decoding is given
module _ (c : After-layers) where
  fits : SFits w64 c.base.result
  fits = record { sfits = c.base.type_inv }

pub base-requires : goal.base-requires
base-requires c = (taken c).taken.allowed

pub layers-requires : goal.layers-requires
layers-requires c = (taken (goal.at.layers-requires c).In_ok-check_decode).taken.allowed

pub put_record-n-requires : goal.put_record-n-requires
put_record-n-requires c = let w = goal.at.put_record-n-requires c in let h = taken w.In_ok-check_decode in let code = c.args.code.now in let steps = c.args.steps.now in
    let q = sym c.base.ensures in let m = sym c.layers.ensures in
    simp (to_z-of_z, fits w.After-layers) (
      subst₂ (λ (z : ℤ) (m : ℕ). Coder z m steps) q m h.taken.coder,
      h.input.frame.there,
      subst (λ (m : ℕ). blocks_in m code ≤ 64) m h.input.frame.whole.few,
      subst₂ (λ (z : ℤ) (m : ℕ). AreBlocks (length steps) (nat_abs z) m (blocks_in m code) (drop 4 code)) q m h.input.blocks,
      subst (λ (m : ℕ). fvecs_length (blocks_in m code) ≤ length c.args.out.now) m h.fits,
    )

-- what was written is as long as the answer says
n-is : (m k n : ℕ) (code : List ℕ) → m ≡ k → n ≡ fvecs_length (blocks_in m code) → n ≡ fvecs_length (blocks_in k code)
n-is m k n code e h = h ∙ ap (λ (m : ℕ). fvecs_length (blocks_in m code)) e

pub overflow_cast-result : goal.overflow_cast-result
overflow_cast-result c = let h = taken (goal.at.overflow_cast-result c).In_ok-check_decode in
    record { sfits = omega (arith, n-is _ _ _ c.args.code.now c.layers.ensures c.put_record-n.ensures.answer, h.input.frame.whole.few) }

pub returns-in_err-check_decode : goal.returns-in_err-check_decode
unfolding decoded decoded_room
returns-in_err-check_decode c = let s = c.args.s in let steps = c.args.steps.now in let code = c.args.code.now in let r = sym (sym c.check_decode.ensures ∙ c.in_err-check_decode.was) in record {
  answer = (search rules) ∙ ap (λ (w : Verdict). valued w (pos (size s code))) r;
  room = ap (λ (w : Verdict). written w (whole s steps code) c.args.out.now) r;
}

pub returns : goal.returns
unfolding decoded decoded_room
returns c =
    let w = goal.at.returns c in let a = sym (accepted w.In_ok-check_decode) in let h = taken w.In_ok-check_decode in
    let s = c.args.s in let steps = c.args.steps.now in let code = c.args.code.now in let found = c.args.out.now in
    let n : c.put_record-n.result ≡ size s code = n-is _ _ _ code c.layers.ensures c.put_record-n.ensures.answer in
    let n-fits : SFits w64 (pos c.put_record-n.result) = record { sfits = omega (arith, n, h.input.frame.whole.few) } in
    let out : c.put_record-n.new.out ≡ whole s steps code ++ drop (size s code) found
    = c.put_record-n.ensures.room
    ∙ ap₂ (λ (z : ℤ) (m : ℕ). decoded_record (nat_abs z) m steps (blocks_in m code) (code_blocks m code) ++ drop (fvecs_length (blocks_in m code)) found) (to_z-of_z (fits w.After-layers) ∙ c.base.ensures) c.layers.ensures in
    let long : length (whole s steps code) ≡ size s code = front_long (whole s steps code) found (size s code) c.put_record-n.new.out out (search rules) h.fits in
    record {
      answer = simp (to_z-of_z, n-fits) (ap (λ (n : ℕ). valued (Ok tt) (pos n)) n ∙ ap (λ (w : Verdict). valued w (pos (size s code))) a);
      room = out ∙ ap (λ (n : ℕ). whole s steps code ++ drop n found) (sym long) ∙ ap (λ (w : Verdict). written w (whole s steps code) found) a;
    }
